use Rattle.std.proofs.Common.{◌≡◌, arith, rules}
use Rattle.base.specs.Bytes.{zeros}
use Rattle.chain.proofs.Bytes.{put_part, cell_filled}
use Rattle.chain.proofs.cells.Loan.fill_cell.Goals as goal

pub returns : goal.returns
returns c =
    let z : c.fill.new.self ≡ zeros 32 = search rules in
    record {
      cell = put_part c.args.at 32 c.args.self.now.bytes.now _ _ (cell_filled c.args.next c.args.piece.now _ _ z c.copy_from_slice.ensures.after);
      bytes = λ j. omega (arith, c.type_inv.piece j);
    }
