use Rattle.std.proofs.Common.{sym, ◌∙◌}
use Rattle.boards.specs.Readiness.{opened_by}
use Rattle.boards.proofs.Layers.{write_through}
use Rattle.boards.proofs.board.BoardSlotDevice.fits.Goals as goal

pub returns-clause-answer : goal.returns-clause-answer
returns-clause-answer g c =
    let it = c.args.self.now in
    c.fits.ensures.answer ∙ sym (write_through (opened_by g.C.BlockCipher it.ready) (g.D.SlotDevice.shape it.device) (g.D.SlotDevice.held it.device) c.args.slot c.args.len)
