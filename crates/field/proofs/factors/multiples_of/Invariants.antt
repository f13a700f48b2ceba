use Rattle.std.proofs.Common.{◌≡◌, ℕ, ◌<◌, length, get_or}
use Rattle.field.specs.Field.{field_product}
use Rattle.field.proofs.factors.multiples_of.Given as goal

abbrev pub invariant-loop-i : goal.invariant-loop-i
invariant-loop-i l = (length l.multiples ≡ 16) × ((j : ℕ) → j < l.i → get_or l.multiples j 0 ≡ field_product j l.a)
