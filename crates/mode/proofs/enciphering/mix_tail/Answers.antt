use Rattle.mode.proofs.Steps.{last_read}
use Rattle.mode.proofs.enciphering.mix_tail.Goals as goal

pub returns : goal.returns
returns c = let e = last_read c.args.message.now c.requires in cc
