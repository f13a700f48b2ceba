use Rattle.std.proofs.Common.{arith, ◌∙◌}
use Rattle.chain.proofs.Costs.{released_cost}
use Rattle.chain.proofs.Building.{row_again}
use Rattle.chain.proofs.cells.Memory.replace.Goals as goal

pub build-requires : goal.build-requires
build-requires c =
    let m = c.args.self.now in
    let l = m.layout in
    let a = c.release.ensures.put in
    record {
      linked = rw a.layout a.row.linked;
      slot = rw a.layout c.requires.slot;
      none = c.release.ensures.head;
      room = rw a.layout (omega (arith, c.requires.room, released_cost l.slots l.longest l.cells c.args.slot m.loan.bytes.now c.release.new.self.loan.bytes.now a.row));
    }

pub returns : goal.returns
returns c =
    let m = c.args.self.now in
    let l = m.layout in
    let a = c.release.ensures.put in
    let d = c.build.ensures.put in
    record {
      put = record {
        layout = d.layout ∙ a.layout;
        row = row_again l.slots l.cells c.args.slot c.args.row.now m.loan.bytes.now c.release.new.self.loan.bytes.now c.build.new.self.loan.bytes.now a.row (rw a.layout at d.row);
      };
      bytes = c.build.ensures.bytes;
    }
