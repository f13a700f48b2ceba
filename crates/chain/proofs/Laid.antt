-- Rows laid out on given cells: what the walks over the bytes then find is proved from this.
use Rattle.std.proofs.Common.{◌≡◌, ℕ, ◌*◌, ◌<◌, ◌≤◌, List, [], ◌∷◌, map, length, get_or, take, drop, replicate}
use Rattle.chain.specs.Cells.{cell, cell_of, chain_units, times_on}

-- the first cell of a chain, or 0
abbrev pub first : List ℕ → ℕ
first [] = 0
first (j ∷ js) = j

-- what the cells of a chain hold for a row
abbrev pub layout : List ℕ → List ℕ → List (List ℕ)
layout [] r = []
layout (j ∷ js) r = cell_of (first js) (take 30 r) ∷ layout js (drop 30 r)

-- a chain from a root lies on the cells js and holds r
pub record Lies (c : ℕ) (cs : List ℕ) (root : ℕ) (js r : List ℕ) : Type 0 where
  pub starts : first js ≡ root
  pub cells : map (cell cs) js ≡ layout js r
  pub count : length js ≡ chain_units (length r)
  pub inside : (p : ℕ) → p < length js → (1 ≤ get_or js p 0) × (get_or js p 0 ≤ c)

-- the whole: a chain for each root, no cell on two, and zeros in a cell on none
pub record Plan (c : ℕ) (cs roots : List ℕ) (jss rows : List (List ℕ)) : Type 0 where
  pub size : length cs ≡ c * 32
  pub lists : length jss ≡ length roots
  pub held : length rows ≡ length roots
  pub chains : (i : ℕ) → i < length roots → Lies c cs (get_or roots i 0) (get_or jss i []) (get_or rows i [])
  pub once : (k : ℕ) → times_on k jss ≤ 1
  pub free : (k : ℕ) → 1 ≤ k → k ≤ c → times_on k jss ≡ 0 → cell cs k ≡ replicate 32 0
