-- What each call of a device answers, what the device then holds, and what is left in the caller's row or buffer.
use Rattle.std.specs.Prelude.{ℕ, ◌+◌, Bool, true, false, ◌||◌, List, [], ◌∷◌, ◌++◌, length, drop, Ok, Err, Result, nat_le, nat_lt, slice_index_or, slice_set}
use Rattle.base.specs.declared.refusals.Refusal.{Refusal}
use Rattle.base.specs.declared.refusals.Refusal.TheVariants.{NoSuchSlot, WrongLength, EmptySlot, BufferTooShort, NoRoom}
use Rattle.base.specs.Bytes.{zeros}
use Rattle.base.specs.Refusals.{Check, decided}
use Rattle.devices.specs.Limits.{shortest_row}
use Rattle.devices.specs.Slots.{Slot, nothing, row, Shape, units_of_others}

-- an answer: a number, or a refusal
abbrev pub Answer : Type 0
Answer = Result ℕ Refusal

-- ---- the checks, each hit or not

-- the device has no slot of this number
abbrev pub no_such_slot : Shape → ℕ → Check
no_such_slot s slot = (nat_le s.slots slot, NoSuchSlot)

-- whether a slot holds nothing
abbrev pub is_nothing : Slot → Bool
is_nothing nothing = true
is_nothing (row r) = false

-- the slot holds nothing
abbrev pub empty_slot : List Slot → ℕ → Check
empty_slot held slot = (is_nothing (slice_index_or held slot nothing), EmptySlot)

-- a row of n bytes is too short or too long
abbrev pub wrong_row_length : Shape → ℕ → Check
wrong_row_length s n = (nat_lt n shortest_row || nat_lt s.longest n, WrongLength)

-- the rows in the other slots and the new one, of n bytes, cost more units than there are
abbrev pub no_room : Shape → List Slot → ℕ → ℕ → Check
no_room s held slot n = (nat_lt s.total (units_of_others s held slot + s.units n), NoRoom)

-- the bytes of what a slot holds, none for nothing
abbrev pub bytes_in : Slot → List ℕ
bytes_in nothing = []
bytes_in (row r) = r

-- the bytes that the slot of this number holds
abbrev pub bytes_at : List Slot → ℕ → List ℕ
bytes_at held slot = bytes_in (slice_index_or held slot nothing)

-- a buffer of n bytes is shorter than the slot's row
abbrev pub buffer_too_short : List Slot → ℕ → ℕ → Check
buffer_too_short held slot n = (nat_lt n (length (bytes_at held slot)), BufferTooShort)

-- ---- the answers

-- a write of a row of n bytes; `fits` gives the same
abbrev pub write_answer : Shape → List Slot → ℕ → ℕ → Answer
write_answer s held slot n = decided (no_such_slot s slot ∷ wrong_row_length s n ∷ no_room s held slot n ∷ []) (Ok 0)

-- a read into a buffer of n bytes
abbrev pub read_answer : Shape → List Slot → ℕ → ℕ → Answer
read_answer s held slot n = decided (no_such_slot s slot ∷ empty_slot held slot ∷ buffer_too_short held slot n ∷ []) (Ok (length (bytes_at held slot)))

-- emptying a slot
abbrev pub clear_answer : Shape → List Slot → ℕ → Answer
clear_answer s held slot = decided (no_such_slot s slot ∷ empty_slot held slot ∷ []) (Ok 0)

-- the question how long a slot's row is
abbrev pub length_answer : Shape → List Slot → ℕ → Answer
length_answer s held slot = decided (no_such_slot s slot ∷ empty_slot held slot ∷ []) (Ok (length (bytes_at held slot)))

-- ---- what the device holds after a call with this answer

-- the row r in its slot once it is written, and no other slot changed
abbrev pub held_after_write : Answer → List Slot → ℕ → List ℕ → List Slot
held_after_write (Ok n) held slot r = slice_set held slot (row r)
held_after_write (Err why) held slot r = held

-- nothing in the slot once it is cleared, and no other slot changed
abbrev pub held_after_clear : Answer → List Slot → ℕ → List Slot
held_after_clear (Ok n) held slot = slice_set held slot nothing
held_after_clear (Err why) held slot = held

-- ---- what is left in the caller's memory after a call with this answer

-- the caller's row: all zero once it is written
abbrev pub row_after_write : Answer → List ℕ → List ℕ
row_after_write (Ok n) r = zeros (length r)
row_after_write (Err why) r = r

-- the caller's buffer: the row in its first bytes, and no other byte changed
abbrev pub buffer_after_read : Answer → List Slot → ℕ → List ℕ → List ℕ
buffer_after_read (Ok n) held slot b = bytes_at held slot ++ drop n b
buffer_after_read (Err why) held slot b = b

-- memory that a device is set out in: all zero, or as found where setting out was declined
abbrev pub memory_after_set_out : Answer → List ℕ → List ℕ
memory_after_set_out (Ok n) memory = zeros (length memory)
memory_after_set_out (Err why) memory = memory
