use Rattle.std.proofs.Common.{◌≡◌, take, drop}
use Rattle.boards.specs.Modes.{mode_kind}
use Rattle.boards.specs.Plain.{after, unopened, Answered}
use Rattle.boards.specs.Screens.{Shown, behind}
use Rattle.boards.proofs.ListFacts.{Quiet}
use Rattle.boards.proofs.runs.run.Given as goal

abbrev pub invariant-loop-e : goal.invariant-loop-e
invariant-loop-e g l =
    let C = g.C.BlockCipher in
    let D = g.D.SlotDevice in
    let device = behind l.initial.screen in
    record {
      fixed : D.fixed (behind l.screen) ≡ D.fixed device;
      kept : Quiet (take l.e-index l.list) → D.state (behind l.screen) ≡ D.state device;
      rest : drop l.e-index l.list ≡ drop l.e-index l.initial.list;
      shown : Shown C D (D.held device) (D.shape device) l.screen (after (mode_kind C) (D.shape device) (unopened (D.held device)) (take l.e-index l.initial.list));
      answered : Answered (mode_kind C) (D.shape device) (unopened (D.held device)) (take l.e-index l.initial.list) (take l.e-index l.list);
    }
