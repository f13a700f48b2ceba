-- The plain board: rows in clear, fed the calls' arguments alone.
use Rattle.std.specs.Prelude.{◌≡◌, ℕ, Bool, true, false, cond, ◌&&◌, List, [], ◌∷◌, length, is_ok, Some, None, Ok, vec_items, MatchBool, Option, Result, ◌≢◌}
use Rattle.std.specs.Str.{bytes_eq}
use Rattle.base.specs.declared.refusals.Refusal.{Refusal}
use Rattle.devices.specs.Slots.{Slot, Shape}
use Rattle.devices.specs.Answers.{write_answer, held_after_write, row_after_write, read_answer, buffer_after_read, clear_answer, held_after_clear, length_answer}
use Rattle.devices.specs.Finding.{FindAnswer, work_after_find}
use Rattle.boards.specs.Through.{through}
use Rattle.boards.specs.Kinds.{Kind}
use Rattle.boards.specs.declared.calls.Call.{Call}
use Rattle.boards.specs.declared.calls.Call.TheVariants.{Open, Write, Read, Clear, Length, Fits, Find, Shut}
use Rattle.boards.specs.declared.calls.Reply.{Reply}
use Rattle.boards.specs.declared.calls.Reply.TheVariants as replied
use Rattle.boards.specs.declared.calls.Entry.{Entry}

-- ---- a call's arguments, and the bytes that it works on

-- what a call asks for, but for the bytes that it works on
pub data Asked : Type 0 where
  opening : List ℕ → List ℕ → Asked
  writing : ℕ → Asked
  reading : ℕ → Asked
  clearing : ℕ → Asked
  measuring : ℕ → Asked
  fitting : ℕ → ℕ → Asked
  finding : List ℕ → Asked
  shutting : Asked

-- what a call of a list asks for
abbrev pub asked : Call → Asked
asked (Open bundle label) = opening (vec_items bundle) (vec_items label)
asked (Write slot row) = writing slot
asked (Read slot buffer) = reading slot
asked (Clear slot) = clearing slot
asked (Length slot) = measuring slot
asked (Fits slot len) = fitting slot len
asked (Find front work) = finding (vec_items front)
asked Shut = shutting

-- the bytes that a call works on: a row to be written, the buffer of a read, the work buffer of a find
abbrev pub buffer_of : Call → List ℕ
buffer_of (Write slot row) = vec_items row
buffer_of (Read slot buffer) = vec_items buffer
buffer_of (Find front work) = vec_items work
buffer_of _ = []

-- neither an accepted write nor an accepted clear
abbrev pub Unchanging : Reply → Asked → Type 0
Unchanging reply (writing slot) = (n : ℕ) → reply ≢ replied.Answered (Ok n)
Unchanging reply (clearing slot) = (n : ℕ) → reply ≢ replied.Answered (Ok n)
Unchanging reply _ = Unit {0}

-- ---- the plain board

-- the plain board: whether it is open; the bundle and label that were accepted last, none where none were; and what each
-- slot keeps in clear, where none were accepted what the device holds
pub record Plain : Type 0 where
  pub is_open : Bool
  pub under : Option (List ℕ × List ℕ)
  pub rows : List Slot

-- before the first call
abbrev pub unopened : List Slot → Plain
unopened held = record { is_open = false; under = None; rows = held }

-- the sealed form of its rows, by its bundle and label
abbrev pub seal_under : Kind → Option (List ℕ × List ℕ) → ℕ → List ℕ → List ℕ
seal_under k None n r = r
seal_under k (Some u) n r = k.seal u.0 u.1 n r

-- this bundle and label are the plain board's own
abbrev pub is_under : Option (List ℕ × List ℕ) → List ℕ → List ℕ → Bool
is_under None bundle label = false
is_under (Some u) bundle label = bytes_eq u.0 bundle && bytes_eq u.1 label

-- what an accepted opening keeps: the rows as they are where bundle and label are its own; else it is a new plain board,
-- on the opened rows of what the device then holds
abbrev pub rows_opened : Kind → Plain → List ℕ → List ℕ → List Slot
rows_opened k p bundle label =
    cond (is_under p.under bundle label) p.rows (through (k.unseal bundle label) (through (seal_under k p.under) p.rows))

-- what an open one keeps after a call
abbrev pub rows_after : Shape → List Slot → Call → List Slot
rows_after s rows (Write slot row) = held_after_write (write_answer s rows slot (length (vec_items row))) rows slot (vec_items row)
rows_after s rows (Clear slot) = held_after_clear (clear_answer s rows slot) rows slot
rows_after s rows _ = rows

-- whether it is still open
abbrev pub stays_open : Call → Bool
stays_open Shut = false
stays_open _ = true

-- an open one after a call
abbrev pub after_open : Shape → Plain → Call → Plain
after_open s p call = record { is_open = stays_open call; under = p.under; rows = rows_after s p.rows call }

-- a shut one after a call: only an accepted opening changes it
abbrev pub after_shut : Kind → Plain → Call → Plain
after_shut k p (Open bundle label) =
    cond (is_ok (k.admits (vec_items bundle) (vec_items label)))
    (record { is_open = true; under = Some (vec_items bundle, vec_items label); rows = rows_opened k p (vec_items bundle) (vec_items label) })
    p
after_shut k p _ = p

-- the plain board after a call, and after a list of them
abbrev pub next : Kind → Shape → Plain → Call → Plain
next k s p call = cond p.is_open (after_open s p call) (after_shut k p call)

abbrev pub after : Kind → Shape → Plain → List Entry → Plain
after k s p [] = p
after k s p (e ∷ es) = after k s (next k s p e.call) es

-- ---- what it may answer, and leave in the bytes that the call works on

-- passed over: that is said, and nothing is changed
abbrev pub PassedOver : Call → List ℕ → Reply → Type 0
PassedOver call left reply = (reply ≡ replied.OutOfTurn) × (left ≡ buffer_of call)

-- an open one, by the rows that it keeps
abbrev pub MayOpen : Shape → List Slot → Call → List ℕ → Reply → Type 0
MayOpen s rows (Open bundle label) left reply = PassedOver (Open bundle label) left reply
MayOpen s rows (Write slot row) left reply =
    (reply ≡ replied.Answered (write_answer s rows slot (length (vec_items row)))) ×
    (left ≡ row_after_write (write_answer s rows slot (length (vec_items row))) (vec_items row))
MayOpen s rows (Read slot buffer) left reply =
    (reply ≡ replied.Answered (read_answer s rows slot (length (vec_items buffer)))) ×
    (left ≡ buffer_after_read (read_answer s rows slot (length (vec_items buffer))) rows slot (vec_items buffer))
MayOpen s rows (Clear slot) left reply = (reply ≡ replied.Answered (clear_answer s rows slot)) × (left ≡ [])
MayOpen s rows (Length slot) left reply = (reply ≡ replied.Answered (length_answer s rows slot)) × (left ≡ [])
MayOpen s rows (Fits slot len) left reply = (reply ≡ replied.Answered (write_answer s rows slot len)) × (left ≡ [])
MayOpen s rows (Find front work) left reply =
    (answer : Result (Option ℕ) Refusal) ×
    FindAnswer s rows (vec_items front) (length (vec_items work)) answer ×
    (reply ≡ replied.Found answer) ×
    (left ≡ work_after_find s answer (vec_items work))
MayOpen s rows Shut left reply = (reply ≡ replied.Answered (Ok 0)) × (left ≡ [])

-- a shut one
abbrev pub MayShut : Kind → Call → List ℕ → Reply → Type 0
MayShut k (Open bundle label) left reply = (reply ≡ replied.Answered (k.admits (vec_items bundle) (vec_items label))) × (left ≡ [])
MayShut k call left reply = PassedOver call left reply

-- any one, open or shut
abbrev pub May : Kind → Shape → Plain → Call → List ℕ → Reply → Type 0
May k s p call left reply = MatchBool p.is_open (MayOpen s p.rows call left reply) (MayShut k call left reply)

-- a whole list, before and after: the same calls with the same arguments in the same order, each answered, the bytes
-- that it works on included, as the plain board may answer
abbrev pub Answered : Kind → Shape → Plain → List Entry → List Entry → Type 0
Answered k s p [] [] = Unit {0}
Answered k s p [] (f ∷ fs) = ⊥
Answered k s p (e ∷ es) [] = ⊥
Answered k s p (e ∷ es) (f ∷ fs) =
    (asked f.call ≡ asked e.call) × May k s p e.call (buffer_of f.call) f.reply × Answered k s (next k s p e.call) es fs
