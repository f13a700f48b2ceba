use Rattle.std.proofs.Common.{◌≡◌, ◌+◌, ◌-◌, ◌*◌, length, take, drop, ap, ◌∙◌, arith}
use Rattle.chain.specs.Cells.{cell}
use Rattle.chain.proofs.Parts.{part_length}
use Rattle.chain.proofs.cells.Cells.cell.Goals as goal

pub returns : goal.returns
returns c =
    let a = (c.args.k - 1) * 32 in
    let b = c.args.self.now.bytes.now in
    let n : (a + 32) - a ≡ 32 = omega arith in
    let e : take ((a + 32) - a) (drop a b) ≡ cell b c.args.k = ap (λ t. take t (drop a b)) n in
    record { cell = e; size = ap (λ t. length t) e ∙ part_length 32 c.args.self.now.count b c.args.self.now.size (c.args.k - 1) (omega arith) }
