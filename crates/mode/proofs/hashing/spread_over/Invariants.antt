use Rattle.std.proofs.Common.{◌≡◌, ◌*◌, ◌++◌, drop}
use Rattle.base.specs.Blocks.{blocks_joined}
use Rattle.field.specs.Field.{field_product, field_power}
use Rattle.mode.specs.Hash.{spread}
use Rattle.mode.proofs.hashing.spread_over.Given as goal

abbrev pub invariant-loop-i : goal.invariant-loop-i
invariant-loop-i l =
    (l.blocks ≡ blocks_joined (spread l.r l.beta l.initial.blocks) l.i ++ drop (l.i * 16) l.initial.blocks)
    × (l.multiple ≡ field_product (field_power 2 l.i) l.beta)
