use Rattle.std.proofs.Common.{◌<◌, sym, ◌∙◌, arith}
use Rattle.chain.proofs.Calls.{no_slot, look_empty, look_row}
use Rattle.chain.proofs.Chain.look.Goals as goal

pub returns-then-slot-self : goal.returns-then-slot-self
returns-then-slot-self c =
    let l = c.args.self.now.memory.layout in
    record { answer = no_slot l.slots l.longest l.cells c.args.slot _ (omega arith); inside = tt }

pub returns-then-n-eq0 : goal.returns-then-n-eq0
returns-then-n-eq0 c =
    let m = c.args.self.now.memory in
    let l = m.layout in
    record { answer = look_empty l.slots l.longest l.cells m.loan.bytes.now m.size c.args.slot (omega arith) (sym c.row_length-n.ensures.value ∙ c.if-n-eq0.true); inside = tt }

pub returns : goal.returns
returns c =
    let m = c.args.self.now.memory in
    let l = m.layout in
    let e = c.row_length-n.ensures.value in
    let i : c.args.slot < l.slots = omega arith in
    record {
      answer = look_row l.slots l.longest l.cells m.loan.bytes.now m.size c.args.slot i c.row_length-n.result e c.if-n-eq0.false;
      inside = (i, omega (arith, c.if-n-eq0.false), sym e);
    }
