use Rattle.std.proofs.Common.{ℕ, reverse, ap, ◌∙◌, rules}
use Rattle.base.specs.Numbers.{bytes}
use Rattle.base.proofs.Digits.{from_be_128, to_be_128}
use Rattle.field.specs.Field.{times_z}
use Rattle.mode.specs.Cmac.{doubled}
use Rattle.mode.proofs.mac.double_block.Goals as goal

pub returns : goal.returns
unfolding doubled
returns c =
    c.to_be_bytes.ensures ∙ to_be_128 c.double.result
    ∙ ap (λ (z : ℕ). reverse (bytes 16 z)) (c.double.ensures ∙ ap times_z (c.from_be_bytes.ensures ∙ from_be_128 c.args.block (search rules)))
