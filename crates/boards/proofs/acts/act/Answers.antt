use Rattle.std.proofs.Common.{◌≡◌, ℕ, false, is_ok, Ok, Err, refl}
use Rattle.devices.specs.Answers.{Answer}
use Rattle.boards.specs.declared.calls.Reply.TheVariants as replied
use Rattle.boards.proofs.acts.act.Goals as goal

-- a call that was not accepted was declined
declined : (a : Answer) → ((n : ℕ) → replied.Answered a ≡ replied.Answered (Ok n) → ⊥) → is_ok a ≡ false
declined (Ok n) no_one = absurd (no_one n refl)
declined (Err why) no_one = refl

pub returns-in-Write-clause-kept : goal.returns-in-Write-clause-kept
returns-in-Write-clause-kept g c = λ quiet. c.write.ensures.kept (declined c.write.result (rw c.in-Write.is at quiet))

pub returns-in-Clear-clause-kept : goal.returns-in-Clear-clause-kept
returns-in-Clear-clause-kept g c = λ quiet. c.clear.ensures.kept (declined c.clear.result (rw c.in-Clear.is at quiet))
