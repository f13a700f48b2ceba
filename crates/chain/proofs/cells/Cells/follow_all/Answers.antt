use Rattle.std.proofs.Common.{◌<◌, ◌≤◌, length, get_or, refl, arith}
use Rattle.chain.specs.Cells.{chain_from, row_in}
use Rattle.std.proofs.lemmas.Bool.{false≢true}
use Rattle.chain.proofs.Following.{all_start, all_step, all_once, all_met, all_few, right_row}
use Rattle.chain.proofs.cells.Cells.follow_all.Goals as goal
use Rattle.chain.proofs.cells.Cells.follow_all.Goals.{else-n-gt0-via-then-n-gt0+else-n-longest, else-n-gt0-via-else-n-gt0}

pub loop-head-init : goal.loop-head-init
loop-head-init c = all_start _ c.args.longest c.args.self.now.count c.args.self.now.bytes.now c.args.heads.now c.args.met.now c.requires.none

pub returns-in_default-clause-fit : goal.returns-in_default-clause-fit
returns-in_default-clause-fit c =
    let s = c.args.self.now in
    let hs = c.args.heads.now in
    let i = c.loop-head.head-index in
    ((λ e. absurd (false≢true e)), λ f. absurd (c.in_default.ensures.chain (f.0 i (omega arith)).0 (all_once (length hs) c.args.longest s.count s.bytes.now hs c.loop-head.met i c.loop-head.invariant (omega arith) f.1)))

pub loop-head-preserved : goal.loop-head-preserved
loop-head-preserved c =
    let t = c.args.self.now in
    let m = c.args.longest in
    let cs = t.bytes.now in
    let hs = c.args.heads.now in
    let i = c.loop-head.head-index in
    let ks = chain_from cs t.count (get_or hs i 0) in
    let s = c.in-Some.ensures in
    let n = s.chain.1 in
    let long : 0 < length (row_in cs ks) → (16 ≤ length (row_in cs ks)) × (length (row_in cs ks) ≤ m) = λ p. elim c.else-n-gt0.branch [
      | else-n-gt0-via-then-n-gt0+else-n-longest w ↦ (omega (arith, w.if-n-longest.false), omega (arith, w.if-n-longest.false))
      | else-n-gt0-via-else-n-gt0 w ↦ absurd (omega (arith, w.if-n-gt0.false))
    ] in
    all_step (length hs) m t.count cs hs c.loop-head.met i c.loop-head.invariant (omega arith) c.follow.new.met
    (s.chain.0, right_row (length hs) m t.count cs ks c.requires.fit long) (s.met refl)

pub returns-clause-fit : goal.returns-clause-fit
returns-clause-fit c =
    let s = c.args.self.now in
    let hs = c.args.heads.now in
    ((λ e. ((λ i h. c.loop-head.invariant.right i (omega arith)), all_few (length hs) c.args.longest s.count s.bytes.now hs c.loop-head.met c.loop-head.head-index c.loop-head.invariant (omega arith))), λ f. refl)

pub returns-clause-met : goal.returns-clause-met
returns-clause-met c =
    let s = c.args.self.now in
    let hs = c.args.heads.now in
    λ e. all_met (length hs) c.args.longest s.count s.bytes.now hs c.loop-head.met c.loop-head.head-index c.loop-head.invariant (omega arith)
