use Rattle.std.proofs.Common.{ℕ, ◌-◌, ◌≤◌, List, [], length, get_or, drop}
use Rattle.chain.specs.Lent.{cells_of, rows_held}
use Rattle.chain.proofs.Laid.{Lies}
use Rattle.chain.proofs.Chain.row_length.Given as goal

abbrev pub invariant-loop-k : goal.invariant-loop-k
invariant-loop-k l =
    let r = get_or (rows_held l.self.memory) l.slot [] in
    ((js : List ℕ) × Lies l.self.memory.layout.cells (cells_of l.self.memory) l.k js (drop l.at r)) × (l.at ≤ length r)

abbrev pub decreases-loop-k : goal.decreases-loop-k
decreases-loop-k l = length (get_or (rows_held l.self.memory) l.slot []) - l.at
