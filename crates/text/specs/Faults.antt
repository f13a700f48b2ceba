-- What a fault tells about the word that was read, and the line that is answered to it.
use Rattle.std.specs.Prelude.{ℕ, List, ◌++◌, Some, None, codes, decimal, Option}
use Rattle.base.specs.Refusals.{number_of, name_of}
use Rattle.text.specs.declared.fault.Fault.{Fault}
use Rattle.text.specs.declared.fault.Fault.TheVariants.{Line, Declined, Memory}

-- reading without storing: the word is at fault, and P is why
abbrev pub AtFault : Fault → Type 0 → Type 0
AtFault (Line wrong) P = P
AtFault (Declined why) P = ⊥
AtFault Memory P = ⊥

-- reading into memory: the word is at fault, and P is why, or there was no memory
abbrev pub AtFaultOrFull : Fault → Type 0 → Type 0
AtFaultOrFull (Line wrong) P = P
AtFaultOrFull (Declined why) P = ⊥
AtFaultOrFull Memory P = Unit {0}

-- the text of a fault
abbrev pub text_of : Fault → List ℕ
text_of (Line wrong) = codes "error " ++ wrong.now
text_of (Declined why) = codes "declined " ++ (decimal (number_of why) ++ (codes " " ++ name_of why))
text_of Memory = codes "out of memory"

-- the line that is answered; none where memory ran out
abbrev pub answer_to : Fault → Option (List ℕ)
answer_to (Line wrong) = Some (text_of (Line wrong))
answer_to (Declined why) = Some (text_of (Declined why))
answer_to Memory = None
