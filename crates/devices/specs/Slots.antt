-- What a slot device is and what it holds.
use Rattle.std.specs.Prelude.{◌≡◌, ℕ, ◌<◌, ◌≤◌, List, length, sum_by, slice_index_or, slice_set}
use Rattle.base.specs.Bytes.{AllBytes}
use Rattle.devices.specs.Limits.{most_slots, shortest_row, longest_row}

-- what one slot holds: nothing, or a row of bytes
pub data Slot : Type 0 where
  nothing : Slot
  row : List ℕ → Slot

-- what never changes of a device: how many slots it has, its longest row, what a row of each length
-- costs in units, and the total of units that a write may not exceed
pub record Shape : Type 0 where
  pub slots : ℕ
  pub longest : ℕ
  pub units : ℕ → ℕ
  pub total : ℕ

-- the units of what one slot holds
abbrev pub units_in : Shape → Slot → ℕ
units_in s nothing = 0
units_in s (row r) = s.units (length r)

-- the units held, added up over all slots in turn
abbrev pub units_held : Shape → List Slot → ℕ
units_held s held = sum_by (units_in s) held

-- those of the rows in the other slots
abbrev pub units_of_others : Shape → List Slot → ℕ → ℕ
units_of_others s held slot = units_held s (slice_set held slot nothing)

-- a slot holds nothing, or a row within the limits of its length
abbrev pub RowFits : Shape → Slot → Type 0
RowFits s nothing = Unit {0}
RowFits s (row r) = (shortest_row ≤ length r) × (length r ≤ s.longest) × AllBytes r

-- the limits that every device keeps; what it holds need not be within its total
pub record Sound (s : Shape) (held : List Slot) : Type 0 where
  pub slots_low : 1 ≤ s.slots
  pub slots_high : s.slots ≤ most_slots
  pub longest_low : shortest_row ≤ s.longest
  pub longest_high : s.longest ≤ longest_row
  pub units_high : (n : ℕ) → shortest_row ≤ n → n ≤ s.longest → s.units n ≤ 65535
  pub total_high : s.total ≤ 65535
  pub count : length held ≡ s.slots
  pub rows : (i : ℕ) → i < s.slots → RowFits s (slice_index_or held i nothing)
