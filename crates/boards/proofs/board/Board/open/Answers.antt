use Rattle.std.proofs.Common.{refl}
use Rattle.boards.proofs.ModeFacts.{CipherFacts}
use Rattle.boards.proofs.StepFacts.{ready_rows}
use Rattle.boards.proofs.board.Board.open.Goals as goal

pub returns : goal.returns
returns g c =
    let M = g.met.C.BlockCipher in
    let L : CipherFacts g.C.BlockCipher = record { mode = c.mode_laws.ensures.laws; keyed = M.keyed; undone = M.undone; redone = M.redone; ahead = M.ahead; behind = M.behind } in
    let x = c.args.device in
    record {
      made = (refl, refl);
      rows = ready_rows g.C.BlockCipher L c.args.ready (g.D.SlotDevice.shape x) (g.D.SlotDevice.held x) (g.D.SlotDevice.sound x);
    }
