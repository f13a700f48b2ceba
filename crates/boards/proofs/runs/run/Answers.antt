use Rattle.std.proofs.Common.{◌≡◌, List, get_or, take, sym, refl, ap, ◌∙◌, subst, arith}
use Rattle.devices.specs.Slots.{Slot, nothing}
use Rattle.boards.specs.declared.calls.Entry.{Entry}
use Rattle.boards.specs.Modes.{mode_kind}
use Rattle.boards.specs.Soundness.{get_or_through}
use Rattle.boards.specs.Plain.{Plain, Unchanging, seal_under, after, unopened, Answered}
use Rattle.boards.specs.Screens.{behind, Shown}
use Rattle.boards.proofs.Rows.{through_same}
use Rattle.boards.proofs.StepFacts.{shown_says}
use Rattle.boards.proofs.ListFacts.{Quiet, quiet_more, more_rest, more_after, more_answered, all_taken}
use Rattle.boards.proofs.runs.run.Goals as goal

pub loop-e-init : goal.loop-e-init
loop-e-init g c =
    let D = g.D.SlotDevice in
    let x = c.args.device in
    record {
      fixed = refl;
      kept = λ quiet. refl;
      rest = refl;
      shown = (refl, refl, record { sound = D.sound x; sealed = sym (through_same (D.held x)); real = refl });
      answered = tt;
    }

pub loop-e-preserved : goal.loop-e-preserved
loop-e-preserved g c =
    let C = g.C.BlockCipher in
    let D = g.D.SlotDevice in
    let k = mode_kind C in
    let s = D.shape c.args.device in
    let p = unopened (D.held c.args.device) in
    let was = c.args.list.now in
    let is = c.loop-e.list in
    let i = c.loop-e.e-index in
    let x = get_or is i c.e-item.result in
    let f : Entry = record { call = c.step.new.call; reply = c.step.result.1 } in
    let in' = c.loop-e-test.true in
    let long = c.loop-e.auto.list in
    let rest = c.loop-e.invariant.rest in
    let read = ap (λ (y : Entry). get_or is i y) c.e-item.is in
    let new = c.step.ensures.shown (D.held c.args.device) s (after k s p (take i was)) c.loop-e.invariant.shown in
    record {
      fixed = c.step.ensures.what_never_changes_is_kept ∙ c.loop-e.invariant.fixed;
      kept = λ quiet. let q = quiet_more is i f (omega (arith, long, in')) quiet in c.step.ensures.state_is_kept_where_no_write_or_clear_was_accepted (subst (Unchanging f.reply) c.step.ensures.asks_the_same q.1) ∙ c.loop-e.invariant.kept q.0;
      rest = more_rest was is i x in' long rest read f;
      shown = subst (λ (q : Plain). Shown C D (D.held c.args.device) s c.step.result.0 q) (sym (more_after was is i x in' long rest read k s p)) new.0;
      answered = more_answered was is i x in' long rest read k s p f c.loop-e.invariant.answered c.step.ensures.asks_the_same new.1;
    }

pub returns : goal.returns
returns g c =
    let C = g.C.BlockCipher in
    let D = g.D.SlotDevice in
    let k = mode_kind C in
    let s = D.shape c.args.device in
    let p = unopened (D.held c.args.device) in
    let was = c.args.list.now in
    let all = all_taken (λ es fs. Shown C D (D.held c.args.device) s c.loop-e.screen (after k s p es) × Answered k s p es fs × (Quiet fs → D.state (behind c.loop-e.screen) ≡ D.state c.args.device))
    was c.loop-e.list c.loop-e.e-index c.loop-e-test.false c.loop-e.auto.list (c.loop-e.invariant.shown, c.loop-e.invariant.answered, c.loop-e.invariant.kept) in
    let says = shown_says C D (D.held c.args.device) s c.loop-e.screen (after k s p was) all.0 in
    record {
      what_never_changes_is_kept = c.loop-e.invariant.fixed;
      shape_is_kept = says.1;
      open_as_the_plain_board = says.0;
      calls_are_answered_as_the_plain_board_may = all.1;
      slots_hold_the_plain_rows_sealed = λ n. ap (λ (x : List Slot). get_or x n nothing) says.2.sealed ∙ get_or_through (seal_under k (after k s p was).under) (after k s p was).rows n;
      plain_rows_are_within_the_limits = says.2.sound;
      an_open_board_has_the_keys_and_label_accepted_last = says.3;
      state_is_kept_where_no_write_or_clear_was_accepted = all.2;
      bundle_and_label_were_accepted = says.2.real;
    }
