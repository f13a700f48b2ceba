use Rattle.std.proofs.Common.{◌≡◌, length, take}
use Rattle.chain.proofs.Building.{Building}
use Rattle.chain.proofs.cells.Memory.build.Given as goal

abbrev pub invariant-loop-piece : goal.invariant-loop-piece
invariant-loop-piece l =
    let f = l.initial.self.layout in
    let left = l.piece-iterator.iter.rest.now in
    (l.self.layout ≡ f) × (l.piece-iterator.iter.size ≡ 30) × (left ≡ take (length left) l.row)
    × Building f.slots f.cells l.slot l.next (length left) l.from l.row l.initial.self.loan.bytes.now l.self.loan.bytes.now
