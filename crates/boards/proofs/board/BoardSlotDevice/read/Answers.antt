use Rattle.std.proofs.Common.{◌≡◌, ◌-◌, length, Ok, Err, sym, ap, ◌∙◌, arith}
use Rattle.std.proofs.lemmas.Result.{err_from_is_err_and}
use Rattle.devices.specs.Answers.{Answer, buffer_after_read}
use Rattle.boards.specs.Readiness.{opened_by}
use Rattle.boards.proofs.Layers.{read_through, read_opened, read_ok, read_front, row_read}
use Rattle.boards.proofs.board.BoardSlotDevice.read.Goals as goal

pub returns-in_err-len-clause-answer : goal.returns-in_err-len-clause-answer
returns-in_err-len-clause-answer g c =
    let it = c.args.self.now in
    let p = err_from_is_err_and c.from_residual.result c.from_residual.ensures.1 in
    let is : c.from_residual.result ≡ Err c.in_err-len.field-0.0 = cc (p.1, p.2) in
    is ∙ sym c.in_err-len.was ∙ c.read.ensures.answer ∙ sym (read_through (opened_by g.C.BlockCipher it.ready) (g.D.SlotDevice.shape it.device) (g.D.SlotDevice.held it.device) c.args.slot (length c.args.buffer.now))

pub returns-clause-answer : goal.returns-clause-answer
returns-clause-answer g c =
    let it = c.args.self.now in
    let ok : Ok c.in_ok-len.len ≡ _ = sym c.in_ok-len.was ∙ c.read.ensures.answer in
    ok ∙ sym (read_through (opened_by g.C.BlockCipher it.ready) (g.D.SlotDevice.shape it.device) (g.D.SlotDevice.held it.device) c.args.slot (length c.args.buffer.now))

pub returns-clause-after : goal.returns-clause-after
returns-clause-after g c =
    let it = c.args.self.now in
    let s = g.D.SlotDevice.shape it.device in
    let h = g.D.SlotDevice.held it.device in
    let n = c.args.slot in
    let len = c.in_ok-len.len in
    let buf = c.args.buffer.now in
    let was = c.in_ok-len.was in
    let there = read_ok s h n (length buf) len (sym was ∙ c.read.ensures.answer) in
    read_opened (opened_by g.C.BlockCipher it.ready) h n len (len - 0) buf c.read.new.buffer c.open_row.new.row (omega arith) there.2 (omega arith) c.open_row.ensures.bytes there.1
    (c.read.ensures.after ∙ ap (λ (a : Answer). buffer_after_read a h n buf) was) c.open_row.ensures.after

pub open_row-requires-clause-row : goal.open_row-requires-clause-row
open_row-requires-clause-row g c =
    let it = c.args.self.now in
    let s = g.D.SlotDevice.shape it.device in
    let h = g.D.SlotDevice.held it.device in
    let n = c.args.slot in
    let len = c.in_ok-len.len in
    let buf = c.args.buffer.now in
    let was = c.in_ok-len.was in
    let there = read_ok s h n (length buf) len (sym was ∙ c.read.ensures.answer) in
    row_read s h n (len - 0) c.read.new.buffer (g.D.SlotDevice.sound it.device) there.0 there.1 (read_front h n len (len - 0) buf c.read.new.buffer (omega arith) there.2 (c.read.ensures.after ∙ ap (λ (a : Answer). buffer_after_read a h n buf) was))
