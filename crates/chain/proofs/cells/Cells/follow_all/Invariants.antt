use Rattle.std.proofs.Common.{length}
use Rattle.chain.proofs.Following.{Followed}
use Rattle.chain.proofs.cells.Cells.follow_all.Given as goal

abbrev pub invariant-loop-head : goal.invariant-loop-head
invariant-loop-head l = Followed (length l.heads) l.longest l.self.count l.self.bytes.now l.heads l.met l.head-index
