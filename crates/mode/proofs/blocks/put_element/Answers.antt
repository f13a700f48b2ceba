use Rattle.std.proofs.Common.{◌∙◌}
use Rattle.base.specs.Numbers.{bytes}
use Rattle.base.proofs.Digits.{to_le_128}
use Rattle.base.proofs.Cutting.{put_block}
use Rattle.mode.proofs.blocks.put_element.Goals as goal

pub returns : goal.returns
returns c = put_block c.args.i c.args.message.now c.copy_from_slice.new.self (bytes 16 c.args.x) (c.copy_from_slice.ensures.after ∙ c.to_le_bytes.ensures ∙ to_le_128 c.args.x)
