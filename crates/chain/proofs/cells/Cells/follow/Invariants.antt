use Rattle.chain.proofs.Following.{Following}
use Rattle.chain.proofs.cells.Cells.follow.Given as goal

abbrev pub invariant-loop-k : goal.invariant-loop-k
invariant-loop-k l = Following l.self.count l.self.bytes.now l.head l.initial.met l.met l.k l.at l.left

abbrev pub decreases-loop-k : goal.decreases-loop-k
decreases-loop-k l = l.left
