use Rattle.std.proofs.Common.{◌+◌, ◌-◌, ◌*◌, ap, ◌∙◌, refl, arith, rules}
use Rattle.ciphers.specs.AesSteps.{columnwise, mixed_by}
use Rattle.ciphers.proofs.AesLoops.{column_at, column_more, column_all, mixed_long}
use Rattle.ciphers.proofs.aes.steps.mix.Goals as goal

pub loop-i-init : goal.loop-i-init
unfolding columnwise
loop-i-init c = refl

pub loop-i-preserved : goal.loop-i-preserved
loop-i-preserved c =
    column_more (mixed_by c.args.factors) c.loop-i.i (4 * c.loop-i.i + 4 - 4 * c.loop-i.i) c.args.block _ c.loop-i.mixed c.copy_from_slice.new.self
    (mixed_long c.args.factors) (omega arith)
    (search rules ∙ c.mix_column.ensures ∙ ap (mixed_by c.args.factors) (column_at c.args.block _ c.loop-i.i _ (omega arith) (omega arith) c.as_chunks.ensures.front))
    c.loop-i.invariant

pub returns : goal.returns
returns c = column_all (mixed_by c.args.factors) c.loop-i.i c.args.block _ c.loop-i.mixed (omega arith) refl c.loop-i.invariant
