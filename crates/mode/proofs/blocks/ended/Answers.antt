use Rattle.std.proofs.Common.{refl}
use Rattle.base.specs.Bytes.{zeros}
use Rattle.base.proofs.Cutting.{ended_in}
use Rattle.mode.proofs.blocks.ended.Goals as goal

pub returns : goal.returns
returns c = ended_in c.args.mark (zeros 16) c.args.string.now c.copy_from_slice.new.self refl c.requires c.copy_from_slice.ensures.after
