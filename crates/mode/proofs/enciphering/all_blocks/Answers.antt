use Rattle.std.proofs.Common.{refl, arith, rules}
use Rattle.base.specs.Bytes.{AllBytes}
use Rattle.base.specs.Blocks.{blocks_joined}
use Rattle.mode.proofs.Steps.{each_more}
use Rattle.mode.proofs.enciphering.all_blocks.Goals as goal

pub loop-i-init : goal.loop-i-init
unfolding blocks_joined
loop-i-init g c = refl

pub loop-i-preserved : goal.loop-i-preserved
loop-i-preserved g c =
    let fit : AllBytes c.args.message.now = search rules in
    each_more (g.T.Turn.turned c.args.way.now) (g.met.T.Turn.keeps c.args.way.now)
    c.args.message.now (record { long = omega arith; fit = fit }) c.loop-i.i c.loop-i.message c.turn.new.block (omega arith) c.loop-i.invariant c.turn.ensures
