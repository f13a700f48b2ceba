use Rattle.std.proofs.Common.{get_or, refl, ap, ◌∙◌, arith}
use Rattle.base.specs.Bytes.{zeros}
use Rattle.chain.specs.Cells.{next_of}
use Rattle.chain.proofs.Bytes.{heads_kept, cell_put}
use Rattle.chain.proofs.cells.Memory.unlink.Goals as goal

pub returns : goal.returns
returns c =
    let m = c.args.self.now in
    let l = m.layout in
    let b = m.loan.bytes.now in
    let e = c.clean_cell.ensures in
    record {
      next = ap (λ t. get_or t 0 0) c.cell.ensures.cell ∙ ap (λ t. next_of t c.args.k) c.cells.ensures.bytes;
      put = record {
        layout = refl;
        heads = heads_kept l.slots l.cells c.args.k b m.size c.requires.first c.requires.last _ (zeros 32) e;
        cells = cell_put l.slots l.cells c.args.k b m.size c.requires.first c.requires.last _ (zeros 32) e;
      };
    }

pub cell-requires : goal.cell-requires
cell-requires c = record { first = c.requires.first; last = omega (arith, c.cells.ensures.count, c.requires.last) }
