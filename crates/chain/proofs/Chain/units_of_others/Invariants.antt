use Rattle.std.proofs.Common.{◌≡◌, ◌*◌, ◌≤◌, [], take, set}
use Rattle.chain.specs.Lent.{rows_held}
use Rattle.chain.proofs.Has.{cost}
use Rattle.chain.proofs.Chain.units_of_others.Given as goal

abbrev pub invariant-loop-i : goal.invariant-loop-i
invariant-loop-i l =
    (l.sum ≡ cost (take l.i (set (rows_held l.self.memory) l.slot [])))
    × (l.sum ≤ l.i * 255)
