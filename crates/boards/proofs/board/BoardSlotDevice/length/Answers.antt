use Rattle.std.proofs.Common.{sym, ◌∙◌}
use Rattle.boards.specs.Readiness.{opened_by}
use Rattle.boards.proofs.Layers.{length_answer_through}
use Rattle.boards.proofs.board.BoardSlotDevice.length.Goals as goal

pub returns-clause-answer : goal.returns-clause-answer
returns-clause-answer g c =
    let it = c.args.self.now in
    c.length.ensures.answer ∙ sym (length_answer_through (opened_by g.C.BlockCipher it.ready) (g.D.SlotDevice.shape it.device) (g.D.SlotDevice.held it.device) c.args.slot)
