-- The memory of a chain device: S head bytes and, behind them, C cells of 32 bytes.
use Rattle.std.specs.Prelude.{◌≡◌, ℕ, ◌+◌, ◌*◌, ◌<◌, ◌≤◌, Bool, true, false, not, ◌&&◌, List, [], ◌∷◌, map, length, take, drop, replicate, Ok, Err, ◌==◌, ◌≢◌, nat_le, slice_index, slice_index_or, slice_set}
use Rattle.base.specs.declared.refusals.Refusal.{Refusal}
use Rattle.base.specs.declared.refusals.Refusal.TheVariants.{BadDimensions, MalformedMemory}
use Rattle.base.specs.Bytes.{zeros}
use Rattle.base.specs.Refusals.{Check, decided}
use Rattle.devices.specs.Slots.{Slot, nothing, row, Shape, RowFits}
use Rattle.devices.specs.Answers.{Answer}
use Rattle.devices.specs.Limits.{within_limits}
use Rattle.chain.specs.Cells.{cell, chain_units, RightChain, chain_from, row_in, chains_of, rows_of, times_in, times_on, Linked}

-- the head of each slot
abbrev pub heads_in : ℕ → List ℕ → List ℕ
heads_in s memory = take s memory

-- the bytes of all cells
abbrev pub cells_in : ℕ → List ℕ → List ℕ
cells_in s memory = drop s memory

-- the cells of each slot's chain
abbrev pub chains_in : ℕ → ℕ → List ℕ → List (List ℕ)
chains_in s c memory = chains_of c (cells_in s memory) (heads_in s memory)

-- those of the other slots
abbrev pub other_chains : ℕ → ℕ → List ℕ → ℕ → List (List ℕ)
other_chains s c memory slot = slice_set (chains_in s c memory) slot []

-- the row of each slot, empty where it holds nothing
abbrev pub rows_in : ℕ → ℕ → List ℕ → List (List ℕ)
rows_in s c memory = rows_of c (cells_in s memory) (heads_in s memory)

-- heads and cells are linked rightly
abbrev pub LinkedIn : ℕ → ℕ → List ℕ → Type 0
LinkedIn s c memory = Linked c (cells_in s memory) (heads_in s memory)

-- a row of no bytes is no row
abbrev pub slot_in : List ℕ → Slot
slot_in [] = nothing
slot_in (x ∷ r) = row (x ∷ r)

-- what each slot holds
abbrev pub chain_held : ℕ → ℕ → List ℕ → List Slot
chain_held s c memory = map slot_in (rows_in s c memory)

-- a row costs as many units as it takes cells, and the total is the count of cells
abbrev pub chain_shape : ℕ → ℕ → ℕ → Shape
chain_shape s m c = record { slots = s; longest = m; units = chain_units; total = c }

-- the chain of a head is right, and its row is within the limits of its length, where there are s heads
abbrev pub HeadFits : ℕ → ℕ → ℕ → List ℕ → ℕ → Type 0
HeadFits s m c cs k = RightChain c cs c k × RowFits (chain_shape s m c) (slot_in (row_in cs (chain_from cs c k)))

-- those of every head are, and no cell is on two chains or twice on one
abbrev pub HeadsFit : ℕ → ℕ → List ℕ → List ℕ → Type 0
HeadsFit m c cs heads = ((i : ℕ) → i < length heads → HeadFits (length heads) m c cs (slice_index heads i)) × ((k : ℕ) → times_on k (chains_of c cs heads) ≤ 1)

-- well-formed memory: heads and cells are linked rightly, and each row is within the limits of its length
pub record WellFormed (s m c : ℕ) (memory : List ℕ) : Type 0 where
  pub linked : LinkedIn s c memory
  pub rows : (i : ℕ) → i < s → RowFits (chain_shape s m c) (slice_index_or (chain_held s c memory) i nothing)

-- one slot's row was put in place, r empty where it was taken away: linked rightly again, with the other rows as
-- they were and their chains on the same cells
pub record RowPut (s c slot : ℕ) (r before after : List ℕ) : Type 0 where
  pub size : length after ≡ length before
  pub linked : LinkedIn s c after
  pub rows : rows_in s c after ≡ slice_set (rows_in s c before) slot r
  pub others : other_chains s c after slot ≡ other_chains s c before slot

-- ---- setting out and attaching

-- S, M or C is out of range, or n bytes are not the layout's
abbrev pub wrong_dimensions : ℕ → ℕ → ℕ → ℕ → Bool
wrong_dimensions s m c n = not (within_limits s m && nat_le 1 c && nat_le c 255 && n == s + 32 * c)

-- the check of the dimensions
abbrev pub bad_dimensions : ℕ → ℕ → ℕ → ℕ → Check
bad_dimensions s m c n = (wrong_dimensions s m c n, BadDimensions)

-- setting out a device in n bytes
abbrev pub set_out_answer : ℕ → ℕ → ℕ → ℕ → Answer
set_out_answer s m c n = decided (bad_dimensions s m c n ∷ []) (Ok 0)

-- every slot holds nothing
abbrev pub holds_nothing : ℕ → List Slot
holds_nothing s = replicate s nothing

-- memory that can be attached
pub record Attachable (s m c : ℕ) (memory : List ℕ) : Type 0 where
  pub dimensions : wrong_dimensions s m c (length memory) ≡ false
  pub formed : WellFormed s m c memory

-- why memory cannot be attached: its dimensions are wrong, or, where they are right, it is not well formed
abbrev pub NotAttachable : Bool → Type 0 → Refusal → Type 0
NotAttachable true formed why = why ≡ BadDimensions
NotAttachable false formed why = (why ≡ MalformedMemory) × (formed → ⊥)

-- what a check of memory answers. Exactly one answer meets this: BadDimensions where the dimensions are wrong, else
-- MalformedMemory where the memory is not well formed, else 0
abbrev pub CheckAnswer : ℕ → ℕ → ℕ → List ℕ → Answer → Type 0
CheckAnswer s m c memory (Ok n) = (n ≡ 0) × Attachable s m c memory
CheckAnswer s m c memory (Err why) = NotAttachable (wrong_dimensions s m c (length memory)) (WellFormed s m c memory) why

-- ---- what a call leaves in memory

-- after a clear: the slot's head and the cells of its chain are zero, and every other byte is as found
pub record Cleared (s c slot : ℕ) (before after : List ℕ) : Type 0 where
  pub heads : heads_in s after ≡ slice_set (heads_in s before) slot 0
  pub freed : (k : ℕ) → 1 ≤ k → k ≤ c → 1 ≤ times_in k (slice_index_or (chains_in s c before) slot []) → cell (cells_in s after) k ≡ zeros 32
  pub others : (k : ℕ) → 1 ≤ k → k ≤ c → times_in k (slice_index_or (chains_in s c before) slot []) ≡ 0 → cell (cells_in s after) k ≡ cell (cells_in s before) k

-- after a write: the other heads and the cells on other chains are as found, the slot's chain has only cells that
-- were free or its own, and a cell on no chain is zero
pub record Written (s c slot : ℕ) (before after : List ℕ) : Type 0 where
  pub heads : (i : ℕ) → i < s → (i ≢ slot) → slice_index (heads_in s after) i ≡ slice_index (heads_in s before) i
  pub others : (k : ℕ) → 1 ≤ k → k ≤ c → 1 ≤ times_on k (other_chains s c before slot) → cell (cells_in s after) k ≡ cell (cells_in s before) k
  pub taken : (k : ℕ) → 1 ≤ times_in k (slice_index_or (chains_in s c after) slot []) → times_on k (other_chains s c before slot) ≡ 0
  pub clean : (k : ℕ) → 1 ≤ k → k ≤ c → times_on k (chains_in s c after) ≡ 0 → cell (cells_in s after) k ≡ zeros 32

-- the memory after a clear with this answer: as found where it was declined
abbrev pub MemoryAfterClear : Answer → ℕ → ℕ → ℕ → List ℕ → List ℕ → Type 0
MemoryAfterClear (Ok n) s c slot before after = Cleared s c slot before after
MemoryAfterClear (Err why) s c slot before after = after ≡ before

-- the same after a write
abbrev pub MemoryAfterWrite : Answer → ℕ → ℕ → ℕ → List ℕ → List ℕ → Type 0
MemoryAfterWrite (Ok n) s c slot before after = Written s c slot before after
MemoryAfterWrite (Err why) s c slot before after = after ≡ before
