-- Finding a row that begins with given bytes.
use Rattle.std.specs.Prelude.{◌≡◌, ℕ, ◌<◌, ◌≤◌, Bool, true, false, ◌&&◌, List, [], ◌∷◌, ◌++◌, length, drop, Some, None, Ok, Err, Option, Result, ◌==◌, slice_index_or}
use Rattle.base.specs.declared.refusals.Refusal.{Refusal}
use Rattle.base.specs.declared.refusals.Refusal.TheVariants.{BufferTooShort}
use Rattle.base.specs.Bytes.{zeros}
use Rattle.devices.specs.Slots.{Slot, nothing, row, Shape}

-- whether xs begins with front
abbrev pub begins : List ℕ → List ℕ → Bool
begins [] xs = true
begins (p ∷ front) [] = false
begins (p ∷ front) (x ∷ xs) = p == x && begins front xs

-- whether a slot holds a row that begins with front
abbrev pub slot_begins : List ℕ → Slot → Bool
slot_begins front nothing = false
slot_begins front (row r) = begins front r

-- what may be found: some slot whose row begins with front, or none where no row does.
-- Which of several it is stays open.
abbrev pub Found : List ℕ → List Slot → Option ℕ → Type 0
Found front held None = (i : ℕ) → i < length held → slot_begins front (slice_index_or held i nothing) ≡ false
Found front held (Some i) = (i < length held) × (slot_begins front (slice_index_or held i nothing) ≡ true)

-- what `find` may answer, with a work buffer of n bytes
abbrev pub FindAnswer : Shape → List Slot → List ℕ → ℕ → Result (Option ℕ) Refusal → Type 0
FindAnswer s held front n (Ok found) = (s.longest ≤ n) × Found front held found
FindAnswer s held front n (Err why) = (n < s.longest) × (why ≡ BufferTooShort)

-- the work buffer after `find`: as many of its first bytes as the longest row has are zero, and the rest as found
abbrev pub work_after_find : Shape → Result (Option ℕ) Refusal → List ℕ → List ℕ
work_after_find s (Ok found) work = zeros s.longest ++ drop s.longest work
work_after_find s (Err why) work = work
