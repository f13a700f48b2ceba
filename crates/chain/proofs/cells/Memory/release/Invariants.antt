use Rattle.std.proofs.Common.{◌≡◌}
use Rattle.chain.proofs.Releasing.{Releasing, left}
use Rattle.chain.proofs.cells.Memory.release.Given as goal

abbrev pub invariant-loop-k : goal.invariant-loop-k
invariant-loop-k l =
    let f = l.initial.self.layout in
    (l.self.layout ≡ f) × Releasing f.slots f.cells l.slot l.k l.initial.self.loan.bytes.now l.self.loan.bytes.now

abbrev pub decreases-loop-k : goal.decreases-loop-k
decreases-loop-k l = let f = l.initial.self.layout in left f.slots f.cells l.slot l.k l.self.loan.bytes.now
