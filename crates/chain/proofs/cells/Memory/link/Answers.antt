use Rattle.std.proofs.Common.{refl}
use Rattle.chain.specs.Cells.{cell_of}
use Rattle.chain.proofs.Bytes.{heads_kept, cell_put}
use Rattle.chain.proofs.cells.Memory.link.Goals as goal

pub returns : goal.returns
returns c =
    let m = c.args.self.now in
    let l = m.layout in
    let b = m.loan.bytes.now in
    let e = c.fill_cell.ensures in
    record {
      put = record {
        layout = refl;
        heads = heads_kept l.slots l.cells c.args.k b m.size c.requires.first c.requires.last _ (cell_of c.args.next c.args.piece.now) e.cell;
        cells = cell_put l.slots l.cells c.args.k b m.size c.requires.first c.requires.last _ (cell_of c.args.next c.args.piece.now) e.cell;
      };
      bytes = e.bytes;
    }
