use Rattle.std.proofs.Common.{rules, ◌≡◌, ℕ, refl}
use Rattle.boards.specs.declared.calls.Call.{Call}
use Rattle.boards.specs.declared.calls.Call.TheVariants.{Open, Write, Read, Clear, Length, Fits, Find, Shut}
use Rattle.commands.specs.Answers.{number_line, accepted_line}
use Rattle.commands.proofs.answers.accepted.Goals as goal

-- only a read shows more than a number
number_alone : (call : Call) (n : ℕ) → ((slot : ℕ) (buffer : _) → call ≡ Read slot buffer → ⊥) → accepted_line call n ≡ number_line n
number_alone (Open bundle label) n h = refl
number_alone (Write slot row) n h = refl
number_alone (Read slot buffer) n h = absurd (h slot buffer refl)
number_alone (Clear slot) n h = refl
number_alone (Length slot) n h = refl
number_alone (Fits slot len) n h = refl
number_alone (Find front work) n h = refl
number_alone Shut n h = refl

pub returns : goal.returns
returns c = search (rules, number_alone c.args.call.now c.args.n c.in_default.not-Read)
