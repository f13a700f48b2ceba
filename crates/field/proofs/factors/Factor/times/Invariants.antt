use Rattle.std.proofs.Common.{◌≡◌, ◌*◌, ◌/◌, ◌^◌}
use Rattle.field.specs.Field.{field_product}
use Rattle.field.proofs.factors.Factor.times.Given as goal

abbrev pub invariant-loop-i : goal.invariant-loop-i
invariant-loop-i l = l.sum ≡ field_product (l.b / 2 ^ (8 * l.i)) l.self
