use Rattle.std.proofs.Common.{vec_items, sym, ap, subst}
use Rattle.boards.specs.declared.ready.Ready.{Ready}
use Rattle.boards.specs.Readiness.{ReadyWith}
use Rattle.boards.proofs.ModeFacts.{CipherFacts}
use Rattle.boards.proofs.StepFacts.{open_step, opening_step, prepared_at}
use Rattle.boards.proofs.runs.Screen.step.Goals as goal

pub returns-in-Ok : goal.returns-in-Ok
returns-in-Ok g c =
    let C = g.C.BlockCipher in
    let D = g.D.SlotDevice in
    let M = g.met.C.BlockCipher in
    let L : CipherFacts C = record { mode = c.mode_laws.ensures.laws; keyed = M.keyed; undone = M.undone; redone = M.redone; ahead = M.ahead; behind = M.behind } in
    let bundle = c.in-Open-call.bundle in
    let label = c.in-Open-call.label in
    let h = prepared_at C c.in-Ok.ready _ (vec_items bundle) _ (vec_items label) c.as_slice.ensures.value c.as_slice-in-Open-call.ensures.value c.in-Ok.ensures in
    let w : ReadyWith C c.open.result.ready (vec_items bundle) (vec_items label) = subst (λ (x : Ready g.row.C.Denot). ReadyWith C x (vec_items bundle) (vec_items label)) (sym c.open.ensures.made.0) h.1 in
    rw (c.in-Shut.is, c.in-Open-call.is) (opening_step C D L c.in-Shut.device c.open.result bundle label h.0 w c.open.ensures.made.1)

pub returns-in_default-call : goal.returns-in_default-call
returns-in_default-call g c =
    let M = g.met.C.BlockCipher in
    let L : CipherFacts g.C.BlockCipher = record { mode = c.mode_laws.ensures.laws; keyed = M.keyed; undone = M.undone; redone = M.redone; ahead = M.ahead; behind = M.behind } in
    let did = c.act-reply.ensures in
    rw c.in-Open.is
    (record {
      asks_the_same = did.asked;
      what_never_changes_is_kept = ap (λ x. x.1) did.fixed;
      state_is_kept_where_no_write_or_clear_was_accepted = λ quiet. ap (λ x. x.1) (did.kept quiet);
      shown = λ start s p shown. open_step g.C.BlockCipher g.D.SlotDevice L start s p c.in-Open.board c.act-reply.new.device c.args.call.now _ c.act-reply.result
          (ap (λ x. x.0) did.fixed) did.shape did.held did.may c.in_default-call.not-Shut shown;
    })
