use Rattle.std.proofs.Common.{take, sym, ap, ◌∙◌}
use Rattle.devices.specs.Finding.{begins, slot_begins}
use Rattle.devices.proofs.FindBegins.{starts_with-bytes}
use Rattle.devices.proofs.FindReading.{taken}
use Rattle.devices.proofs.finding.slot_begins.Goals as goal

pub returns-in-Ok : goal.returns-in-Ok
returns-in-Ok g c =
    let m = g.D.SlotDevice in
    let d = c.args.device.now in
    let e = c.in-Ok.ensures in
    let t = taken (m.shape d) (m.held d) c.args.slot c.in-Ok.n c.args.work.now c.read.new.buffer (m.sound d) c.requires.inside c.requires.room e.answer e.after in
    record {
      answer = c.starts_with.ensures.value ∙ starts_with-bytes c.args.front.now (take c.in-Ok.n c.read.new.buffer) ∙ ap (begins c.args.front.now) t.bytes ∙ sym (ap (slot_begins c.args.front.now) t.is);
      rest = t.rest;
      device = record { fixed = e.fixed; shape = e.shape; held = e.held; kept = e.kept };
    }
