use Rattle.std.proofs.Common.{◌≡◌, length, ap, ◌∙◌, rules}
use Rattle.base.specs.Numbers.{number}
use Rattle.base.proofs.Digits.{from_le_128}
use Rattle.field.proofs.element.Goals as goal

pub returns : goal.returns
returns c =
    let e : c.unwrap.result.now ≡ c.args.block.now = search rules in
    c.from_le_bytes.ensures ∙ from_le_128 c.unwrap.result.now (ap length e ∙ c.requires) ∙ ap number e
