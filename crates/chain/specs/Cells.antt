-- Cells of 32 bytes, numbered from 1, and the chains that they make.
use Rattle.std.specs.Prelude.{◌≡◌, ℕ, zero, suc, ◌+◌, ◌-◌, ◌*◌, ◌/◌, ◌<◌, ◌≤◌, Bool, false, cond, Option, Some, None, List, [], ◌∷◌, ◌++◌, map, length, take, drop, sum_by, count_by, ◌==◌, ◌≢◌, nat_eq, slice_index, slice_index_or}
use Rattle.std.specs.List.{flat_map}
use Rattle.base.specs.Bytes.{zeros}

-- ---- one cell, where cs are the bytes of all cells

-- the 32 bytes of cell k
abbrev pub cell : List ℕ → ℕ → List ℕ
cell cs k = take 32 (drop ((k - 1) * 32) cs)

-- its next index: the cell that follows on the chain, or 0 where the chain ends
abbrev pub next_of : List ℕ → ℕ → ℕ
next_of cs k = slice_index (cell cs k) 0

-- its count of used bytes
abbrev pub used_of : List ℕ → ℕ → ℕ
used_of cs k = slice_index (cell cs k) 1

-- its bytes of row: the used ones
abbrev pub piece_of : List ℕ → ℕ → List ℕ
piece_of cs k = take (used_of cs k) (drop 2 (cell cs k))

-- a cell made of a next index and some bytes of row, with zeros after them
abbrev pub cell_of : ℕ → List ℕ → List ℕ
cell_of next piece = next ∷ length piece ∷ (piece ++ zeros (30 - length piece))

-- the bytes of all cells, once cell k is another
abbrev pub put_cell : List ℕ → ℕ → List ℕ → List ℕ
put_cell cs k new = take ((k - 1) * 32) cs ++ (new ++ drop ((k - 1) * 32 + 32) cs)

-- what holds of cell k on a chain, where there are c cells: it is one of them, has 1 to 30 used bytes, is full
-- unless it is the last, and has zeros after the used bytes
pub record RightCell (c : ℕ) (cs : List ℕ) (k : ℕ) : Type 0 where
  pub high : k ≤ c
  pub least : 1 ≤ used_of cs k
  pub most : used_of cs k ≤ 30
  pub full : (next_of cs k ≢ 0) → used_of cs k ≡ 30
  pub is : cell cs k ≡ cell_of (next_of cs k) (piece_of cs k)

-- the first free cell from `from` on, or none, where there are c cells
abbrev pub FirstFree : ℕ → List ℕ → ℕ → Option ℕ → Type 0
FirstFree c cs from (Some k) = (from ≤ k) × (k ≤ c) × (used_of cs k ≡ 0) × ((j : ℕ) → from ≤ j → j < k → 1 ≤ used_of cs j)
FirstFree c cs from None = (j : ℕ) → from ≤ j → j ≤ c → 1 ≤ used_of cs j

-- ---- one chain

-- the chain that begins at k: its cells in order, the first f of them
abbrev pub chain_from : List ℕ → ℕ → ℕ → List ℕ
chain_from cs zero k = []
chain_from cs (suc f) k = cond (k == 0) [] (k ∷ chain_from cs f (next_of cs k))

-- the row that some cells hold: their bytes of row, joined
abbrev pub row_in : List ℕ → List ℕ → List ℕ
row_in cs ks = flat_map (piece_of cs) ks

-- the chain that begins at k goes over right cells and ends, after f cells at most
abbrev pub RightChain : ℕ → List ℕ → ℕ → ℕ → Type 0
RightChain c cs zero k = k ≡ 0
RightChain c cs (suc f) k = (k ≢ 0) → RightCell c cs k × RightChain c cs f (next_of cs k)

-- the units of a row of n bytes: how many cells it takes
abbrev pub chain_units : ℕ → ℕ
chain_units n = (n + 29) / 30

-- ---- the chains of all heads

-- the cells of each head's chain
abbrev pub chains_of : ℕ → List ℕ → List ℕ → List (List ℕ)
chains_of c cs heads = map (chain_from cs c) heads

-- the row of each head's chain, empty where the head is 0
abbrev pub rows_of : ℕ → List ℕ → List ℕ → List (List ℕ)
rows_of c cs heads = map (row_in cs) (chains_of c cs heads)

-- how often cell k stands on a chain
abbrev pub times_in : ℕ → List ℕ → ℕ
times_in k chain = count_by (nat_eq k) chain

-- how often it stands on all chains together
abbrev pub times_on : ℕ → List (List ℕ) → ℕ
times_on k chains = sum_by (times_in k) chains

-- how often cell k was met, where a flag says for each cell that it was
abbrev pub times_met : List Bool → ℕ → ℕ
times_met met k = cond (slice_index_or met k false) 1 0

-- heads and cells are linked rightly: every head's chain is right, no cell is on two chains or twice on one, and a
-- cell on no chain is all zero
pub record Linked (c : ℕ) (cs heads : List ℕ) : Type 0 where
  pub chains : (i : ℕ) → i < length heads → RightChain c cs c (slice_index heads i)
  pub once : (k : ℕ) → times_on k (chains_of c cs heads) ≤ 1
  pub clean : (k : ℕ) → 1 ≤ k → k ≤ c → times_on k (chains_of c cs heads) ≡ 0 → cell cs k ≡ zeros 32
