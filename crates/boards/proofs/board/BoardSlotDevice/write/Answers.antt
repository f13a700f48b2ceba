use Rattle.std.proofs.Common.{◌≡◌, true, false, length, is_ok, Ok, Err, sym, ap, ◌∙◌, arith}
use Rattle.std.proofs.lemmas.Result.{err_from_is_err_and}
use Rattle.base.specs.Bytes.{zeros}
use Rattle.devices.specs.Answers.{Answer, row_after_write}
use Rattle.boards.specs.Readiness.{opened_by}
use Rattle.boards.proofs.Layers.{write_through, written_through}
use Rattle.boards.proofs.board.BoardSlotDevice.write.Goals as goal

pub returns-in_err-fits-clause-answer : goal.returns-in_err-fits-clause-answer
returns-in_err-fits-clause-answer g c =
    let it = c.args.self.now in
    let p = err_from_is_err_and c.from_residual.result c.from_residual.ensures.1 in
    let is : c.from_residual.result ≡ Err c.in_err-fits.field-0.0 = cc (p.1, p.2) in
    is ∙ sym c.in_err-fits.was ∙ c.fits.ensures.answer ∙ sym (write_through (opened_by g.C.BlockCipher it.ready) (g.D.SlotDevice.shape it.device) (g.D.SlotDevice.held it.device) c.args.slot (length c.args.row.now))

pub returns : goal.returns
returns g c =
    let it = c.args.self.now in
    let f = opened_by g.C.BlockCipher it.ready in
    let s = g.D.SlotDevice.shape it.device in
    let h = g.D.SlotDevice.held it.device in
    let n = c.args.slot in
    let r = c.args.row.now in
    let q = c.seal_row.new.row in
    let ok : Ok c.in_ok-fits.field-0 ≡ _ = sym c.in_ok-fits.was ∙ c.fits.ensures.answer in
    let q-long : length q ≡ length r = omega arith in
    let w = written_through f s _ h _ (g.D.SlotDevice.held c.write.new.self) n c.in_ok-fits.field-0 r q c.write.result ok c.fits.ensures.shape c.fits.ensures.held q-long c.seal_row.ensures.seen c.seal_row.ensures.back c.write.ensures.answer c.write.ensures.held in
    record {
      fixed = ap (λ x. (it.ready, x)) (c.write.ensures.fixed ∙ c.fits.ensures.fixed);
      shape = c.write.ensures.shape ∙ c.fits.ensures.shape;
      answer = w.1;
      held = w.2;
      after = c.write.ensures.after ∙ ap (λ (a : Answer). row_after_write a q) w.0 ∙ ap zeros q-long ∙ ap (λ (a : Answer). row_after_write a r) (sym w.0);
      kept = λ e. let e' : true ≡ false = ap (λ (a : Answer). is_ok a) (sym w.0) ∙ e in cc;
    }
