use Rattle.tray.specs.Layout.{slot_with}
use Rattle.tray.proofs.Putting.{put_there}
use Rattle.tray.proofs.Tray.put.Goals as goal

pub invariant_of-self : goal.invariant_of-self
invariant_of-self c =
    let t = c.args.self.now in
    let at = c.place-place.ensures in
    let p = put_there t.layout.slots t.layout.longest t.memory.bytes.now t.dims t.formed t.bytes c.args.slot c.requires.inside (slot_with c.args.row) c.requires.fits _ _ at.from at.to _ c.fill_cell.ensures in
    record { dims = p.dims; formed = p.formed; bytes = p.bytes }

pub returns-clause-held : goal.returns-clause-held
returns-clause-held c =
    let t = c.args.self.now in
    let at = c.place-place.ensures in
    let p = put_there t.layout.slots t.layout.longest t.memory.bytes.now t.dims t.formed t.bytes c.args.slot c.requires.inside (slot_with c.args.row) c.requires.fits _ _ at.from at.to _ c.fill_cell.ensures in
    p.held
