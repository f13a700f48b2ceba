use Rattle.std.proofs.Common.{◌+◌, ◌<◌, ◌≤◌, arith}
use Rattle.devices.specs.Slots.{units_of_others}
use Rattle.chain.specs.Cells.{chain_units}
use Rattle.chain.specs.Lent.{memory_shape, memory_holds}
use Rattle.chain.proofs.Calls.{no_slot_write, write_room, write_none}
use Rattle.chain.proofs.Chain.admit.Goals as goal

pub returns-then-slot-self : goal.returns-then-slot-self
returns-then-slot-self c =
    let l = c.args.self.now.memory.layout in
    record { answer = no_slot_write l.slots l.longest l.cells c.args.slot c.args.len _ (omega arith); inside = tt }

pub returns-then-units_of_others-units : goal.returns-then-units_of_others-units
returns-then-units_of_others-units c =
    let m = c.args.self.now.memory in
    let l = m.layout in
    let over : l.cells < units_of_others (memory_shape m) (memory_holds m) c.args.slot + chain_units c.args.len = omega (arith, c.units_of_others.ensures.value, c.units.ensures, c.if-units_of_others-units.true) in
    record { answer = write_none l.slots l.longest l.cells m.loan.bytes.now m.size c.args.slot (omega arith) c.args.len (omega arith) (omega arith) over; inside = tt }

pub returns : goal.returns
returns c =
    let m = c.args.self.now.memory in
    let l = m.layout in
    let i : c.args.slot < l.slots = omega arith in
    let room : units_of_others (memory_shape m) (memory_holds m) c.args.slot + chain_units c.args.len ≤ l.cells = omega (arith, c.units_of_others.ensures.value, c.units.ensures, c.if-units_of_others-units.false) in
    record { answer = write_room l.slots l.longest l.cells m.loan.bytes.now m.size c.args.slot i c.args.len (omega arith) (omega arith) room; inside = (i, omega arith, omega arith, room) }
