-- What lies in the memory that a chain has on loan.
use Rattle.std.specs.Prelude.{◌≡◌, ℕ, List}
use Rattle.chain.specs.declared.cells.Memory.{Memory}
use Rattle.devices.specs.Slots.{Slot, Shape}
use Rattle.chain.specs.Memory.{heads_in, cells_in, rows_in, LinkedIn, chain_held, chain_shape, RowPut}
use Rattle.chain.specs.Cells.{put_cell}

-- its bytes
abbrev pub bytes_of : Memory → List ℕ
bytes_of t = t.loan.bytes.now

-- the head of each slot
abbrev pub heads_of : Memory → List ℕ
heads_of t = heads_in t.layout.slots (bytes_of t)

-- the bytes of all cells
abbrev pub cells_of : Memory → List ℕ
cells_of t = cells_in t.layout.slots (bytes_of t)

-- the row of each slot, empty where it holds nothing
abbrev pub rows_held : Memory → List (List ℕ)
rows_held t = rows_in t.layout.slots t.layout.cells (bytes_of t)

-- heads and cells are linked rightly
abbrev pub IsLinked : Memory → Type 0
IsLinked t = LinkedIn t.layout.slots t.layout.cells (bytes_of t)

-- its slots, its longest row and its cells, of which each unit of a row takes one
abbrev pub memory_shape : Memory → Shape
memory_shape t = chain_shape t.layout.slots t.layout.longest t.layout.cells

-- what each slot holds
abbrev pub memory_holds : Memory → List Slot
memory_holds t = chain_held t.layout.slots t.layout.cells (bytes_of t)

-- cell k became another, in memory of the same layout
pub record PutsCell (k : ℕ) (new : List ℕ) (before after : Memory) : Type 0 where
  pub layout : after.layout ≡ before.layout
  pub heads : heads_in before.layout.slots (bytes_of after) ≡ heads_of before
  pub cells : cells_in before.layout.slots (bytes_of after) ≡ put_cell (cells_of before) k new

-- one slot's row was put in place, in memory of the same layout
pub record PutsRow (slot : ℕ) (r : List ℕ) (before after : Memory) : Type 0 where
  pub layout : after.layout ≡ before.layout
  pub row : RowPut before.layout.slots before.layout.cells slot r (bytes_of before) (bytes_of after)
