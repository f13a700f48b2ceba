use Rattle.std.proofs.Common.{◌/◌, length, arith}
use Rattle.mode.proofs.Chunks.{chunk_block}
use Rattle.mode.proofs.blocks.element_at.Goals as goal

pub returns : goal.returns
returns c = let e = chunk_block (length c.args.message.now / 16) c.args.i c.args.message.now (omega arith) in cc
