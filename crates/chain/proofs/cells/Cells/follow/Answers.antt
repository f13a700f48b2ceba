use Rattle.std.proofs.Common.{◌≡◌, get_or, sym, ap, ◌∙◌, arith}
use Rattle.std.proofs.lemmas.Bool.{false≢true, true≢false}
use Rattle.chain.specs.Cells.{RightCell}
use Rattle.chain.proofs.Following.{follow_start, follow-over, follow-cell, follow-met, follow-step, follow-right, follow-long, follow-marks}
use Rattle.chain.proofs.cells.Cells.follow.Goals as goal
use Rattle.chain.proofs.cells.Cells.follow.Goals.{then-left-eq0-via-then-left-eq0, then-left-eq0-via-else-left-eq0+then-not-is_right}

pub loop-k-init : goal.loop-k-init
loop-k-init c = follow_start c.args.self.now.count c.args.self.now.bytes.now c.args.head c.args.met.now

pub returns-then-left-eq0 : goal.returns-then-left-eq0
returns-then-left-eq0 c =
    let n = c.args.self.now.count in
    let b = c.args.self.now.bytes.now in
    let i = c.loop-k.invariant in
    record {
      chain = λ r _. elim c.then-left-eq0.branch [
        | then-left-eq0-via-then-left-eq0 w ↦ follow-over n b c.args.head c.args.met.now c.loop-k.met c.loop-k.k c.loop-k.at c.loop-k.left i (omega arith) w.if-left-eq0.true r
        | then-left-eq0-via-else-left-eq0+then-not-is_right w ↦ follow-cell n b c.args.head c.args.met.now c.loop-k.met c.loop-k.k c.loop-k.at c.loop-k.left i (omega arith) (omega (arith, w.if-left-eq0.false)) (λ g. true≢false (sym (w.is_right.ensures.1 g) ∙ w.if-not-is_right.true)) r
      ];
      met = λ e. absurd (false≢true e);
    }

pub returns-then-met-k : goal.returns-then-met-k
returns-then-met-k c = record {
  chain = λ _ o. follow-met c.args.self.now.count c.args.self.now.bytes.now c.args.head c.args.met.now c.loop-k.met c.loop-k.k c.loop-k.at c.loop-k.left c.loop-k.invariant (omega arith) (omega (arith, c.if-left-eq0.false)) c.if-met-k.true o;
  met = λ e. absurd (false≢true e);
}

pub cell-cell-requires : goal.cell-cell-requires
cell-cell-requires c = record { first = omega arith; last = (c.is_right.ensures.0 c.if-not-is_right.false).high }

pub loop-k-preserved : goal.loop-k-preserved
loop-k-preserved c =
    let s = c.args.self.now in
    let k = c.loop-k.k in
    let x = c.cell-cell.ensures.cell in
    let g : RightCell s.count s.bytes.now k = c.is_right.ensures.0 c.if-not-is_right.false in
    follow-step s.count s.bytes.now c.args.head c.args.met.now c.loop-k.met k c.loop-k.at c.loop-k.left c.loop-k.invariant (omega arith) (omega (arith, c.if-left-eq0.false)) g
    (omega (arith, g.high, s.limit)) c.if-met-k.false _ _ (ap (λ t. get_or t 1 0) x) (ap (λ t. get_or t 0 0) x)

pub returns : goal.returns
returns c =
    let n = c.args.self.now.count in
    let b = c.args.self.now.bytes.now in
    let i = c.loop-k.invariant in
    let z : c.loop-k.k ≡ 0 = omega arith in
    record {
      chain = (follow-right n b c.args.head c.args.met.now c.loop-k.met c.loop-k.k c.loop-k.at c.loop-k.left i z, follow-long n b c.args.head c.args.met.now c.loop-k.met c.loop-k.k c.loop-k.at c.loop-k.left i z);
      met = λ _. follow-marks n b c.args.head c.args.met.now c.loop-k.met c.loop-k.k c.loop-k.at c.loop-k.left i z;
    }
