-- The tray: memory with one cell for each slot. A cell is a length in two bytes, lowest first and zero for nothing,
-- then the row, then zeros, and with m bytes for the longest row it has 2 + m bytes.
use Rattle.std.specs.Prelude.{◌≡◌, ℕ, zero, suc, ◌+◌, ◌-◌, ◌*◌, ◌/◌, ◌%◌, Bool, true, cond, not, ◌&&◌, List, [], ◌∷◌, ◌++◌, map, length, take, drop, Option, Some, None, Ok, Err, ◌==◌, nat_le, slice_index}
use Rattle.std.specs.Borrow.{Bor}
use Rattle.std.specs.List.{range_with_len}
use Rattle.base.specs.declared.refusals.Refusal.TheVariants.{BadDimensions, MalformedMemory}
use Rattle.base.specs.Bytes.{AllBytes, zeros, all_zero}
use Rattle.base.specs.Refusals.{Check, decided}
use Rattle.devices.specs.Slots.{Slot, nothing, row, Shape}
use Rattle.devices.specs.Answers.{Answer}
use Rattle.devices.specs.Limits.{shortest_row, within_limits}

-- a tray of s slots and rows of up to m bytes; no row costs units
abbrev pub tray_shape : ℕ → ℕ → Shape
tray_shape s m = record { slots = s; longest = m; units = λ _. 0; total = 0 }

-- ---- cells

-- a slot with these bytes for a row, or with nothing
abbrev pub slot_with : Option (Bor (List ℕ)) → Slot
slot_with None = nothing
slot_with (Some r) = row r.now

-- the cell that says what a slot holds
abbrev pub cell_of : ℕ → Slot → List ℕ
cell_of m nothing = zeros (2 + m)
cell_of m (row r) = (length r % 256) ∷ (length r / 256) ∷ (r ++ zeros (m - length r))

-- the length that a cell states
abbrev pub cell_length : List ℕ → ℕ
cell_length cell = slice_index cell 0 + 256 * slice_index cell 1

-- what a slot holds whose cell states the length n
abbrev pub slot_of_length : ℕ → List ℕ → Slot
slot_of_length n cell = cond (n == 0) nothing (row (take n (drop 2 cell)))

-- what a slot with this cell holds
abbrev pub slot_of : List ℕ → Slot
slot_of cell = slot_of_length (cell_length cell) cell

-- whether a cell that states the length n is well formed: all of it zero, or a row of 16 to m bytes and zeros after it
abbrev pub formed_length : ℕ → ℕ → List ℕ → Bool
formed_length m n cell = cond (n == 0) (all_zero (drop 2 cell)) (nat_le shortest_row n && nat_le n m && all_zero (drop (2 + n) cell))

-- whether a cell is well formed
abbrev pub cell_formed : ℕ → List ℕ → Bool
cell_formed m cell = formed_length m (cell_length cell) cell

-- ---- the memory

-- the cell of slot i
abbrev pub cell_at : ℕ → List ℕ → ℕ → List ℕ
cell_at m memory i = take (2 + m) (drop (i * (2 + m)) memory)

-- the memory with another cell for slot i
abbrev pub put_cell : ℕ → List ℕ → ℕ → List ℕ → List ℕ
put_cell m memory i cell = take (i * (2 + m)) memory ++ (cell ++ drop (i * (2 + m) + (2 + m)) memory)

-- what each of the s slots holds
abbrev pub tray_held : ℕ → ℕ → List ℕ → List Slot
tray_held s m memory = map (λ i. slot_of (cell_at m memory i)) (range_with_len 0 s)

-- whether the cells of the first n slots are well formed
abbrev pub cells_formed : ℕ → ℕ → List ℕ → Bool
cells_formed zero m memory = true
cells_formed (suc n) m memory = cells_formed n m memory && cell_formed m (cell_at m memory n)

-- whether n bytes are a tray's memory: s and m are within the limits, and there is a cell for each slot and no more
abbrev pub tray_fits : ℕ → ℕ → ℕ → Bool
tray_fits s m n = within_limits s m && n == s * (2 + m)

-- what `check` finds and attaching requires
pub record TrayReady (s m : ℕ) (memory : List ℕ) : Type 0 where
  pub fits : tray_fits s m (length memory) ≡ true
  pub formed : cells_formed s m memory ≡ true
  pub bytes : AllBytes memory

-- ---- the checks and the answers, and the memory after a call with this answer

-- n bytes are not a tray's memory
abbrev pub tray_bad_dimensions : ℕ → ℕ → ℕ → Check
tray_bad_dimensions s m n = (not (tray_fits s m n), BadDimensions)

-- some slot's cell is not well formed
abbrev pub tray_malformed : ℕ → ℕ → List ℕ → Check
tray_malformed s m memory = (not (cells_formed s m memory), MalformedMemory)

-- setting out a tray in n bytes of memory
abbrev pub tray_set_out_answer : ℕ → ℕ → ℕ → Answer
tray_set_out_answer s m n = decided (tray_bad_dimensions s m n ∷ []) (Ok 0)

-- checking memory that a tray is to be attached to
abbrev pub tray_check_answer : ℕ → ℕ → List ℕ → Answer
tray_check_answer s m memory = decided (tray_bad_dimensions s m (length memory) ∷ tray_malformed s m memory ∷ []) (Ok 0)

-- the memory after a write of r: another cell for its slot once it is written
abbrev pub memory_after_write : Answer → ℕ → List ℕ → ℕ → List ℕ → List ℕ
memory_after_write (Ok n) m memory slot r = put_cell m memory slot (cell_of m (row r))
memory_after_write (Err why) m memory slot r = memory

-- the memory after a clear: a cell of zeros for its slot once it is cleared
abbrev pub memory_after_clear : Answer → ℕ → List ℕ → ℕ → List ℕ
memory_after_clear (Ok n) m memory slot = put_cell m memory slot (cell_of m nothing)
memory_after_clear (Err why) m memory slot = memory
