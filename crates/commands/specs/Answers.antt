-- The line that answers a call.
use Rattle.std.specs.Prelude.{ℕ, List, ◌++◌, take, Some, None, Ok, Err, vec_items, codes, decimal}
use Rattle.base.specs.declared.refusals.Refusal.{Refusal}
use Rattle.base.specs.Refusals.{number_of, name_of}
use Rattle.text.specs.Hexadecimal.{word_of}
use Rattle.boards.specs.declared.calls.Call.{Call}
use Rattle.boards.specs.declared.calls.Call.TheVariants.{Open, Write, Read, Clear, Length, Fits, Find, Shut}
use Rattle.boards.specs.declared.calls.Reply.{Reply}
use Rattle.boards.specs.declared.calls.Reply.TheVariants.{OutOfTurn, Answered, Found}

-- the line of a call that answers a number
abbrev pub number_line : ℕ → List ℕ
number_line n = codes "ok " ++ decimal n

-- the line of a call that was accepted: of a read the row too
abbrev pub accepted_line : Call → ℕ → List ℕ
accepted_line (Open bundle label) n = number_line n
accepted_line (Write slot row) n = number_line n
accepted_line (Read slot buffer) n = codes "ok " ++ (decimal n ++ (codes " " ++ word_of (take n (vec_items buffer))))
accepted_line (Clear slot) n = number_line n
accepted_line (Length slot) n = number_line n
accepted_line (Fits slot len) n = number_line n
accepted_line (Find front work) n = number_line n
accepted_line Shut n = number_line n

-- the line of a call that was declined
abbrev pub declined_line : Refusal → List ℕ
declined_line why = codes "declined " ++ (decimal (number_of why) ++ (codes " " ++ name_of why))

-- the line that answers a call
abbrev pub line_of : Call → Reply → List ℕ
line_of call OutOfTurn = codes "out of turn"
line_of call (Answered (Ok n)) = accepted_line call n
line_of call (Answered (Err why)) = declined_line why
line_of call (Found (Ok (Some slot))) = number_line slot
line_of call (Found (Ok None)) = codes "ok none"
line_of call (Found (Err why)) = declined_line why
