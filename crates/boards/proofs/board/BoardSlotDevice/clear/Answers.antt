use Rattle.std.proofs.Common.{sym, ap, ◌∙◌}
use Rattle.boards.specs.Readiness.{opened_by, board_rows}
use Rattle.boards.proofs.Layers.{clear_through, cleared_through}
use Rattle.boards.proofs.board.BoardSlotDevice.clear.Goals as goal

pub returns-clause-answer : goal.returns-clause-answer
returns-clause-answer g c =
    let it = c.args.self.now in
    c.clear.ensures.answer ∙ sym (clear_through (opened_by g.C.BlockCipher it.ready) (g.D.SlotDevice.shape it.device) (g.D.SlotDevice.held it.device) c.args.slot)

pub returns-clause-held : goal.returns-clause-held
returns-clause-held g c =
    let it = c.args.self.now in
    ap (board_rows g.C.BlockCipher it.ready) c.clear.ensures.held ∙ cleared_through (opened_by g.C.BlockCipher it.ready) c.clear.result (g.D.SlotDevice.held it.device) c.args.slot
