use Rattle.std.proofs.Common.{◌∙◌}
use Rattle.tray.proofs.Reading.{part_formed, part_slot}
use Rattle.tray.proofs.Tray.row_at.Goals as goal

pub row_in-requires-clause-formed : goal.row_in-requires-clause-formed
row_in-requires-clause-formed c =
    let t = c.args.self.now in
    let p = c.place.ensures in
    part_formed t.layout.slots t.layout.longest t.memory.bytes.now c.args.slot _ _ c.requires p.from p.to t.dims.4 t.formed

pub returns : goal.returns
returns c =
    let t = c.args.self.now in
    let p = c.place.ensures in
    c.row_in.ensures ∙ part_slot t.layout.slots t.layout.longest t.memory.bytes.now c.args.slot _ _ c.requires p.from p.to
