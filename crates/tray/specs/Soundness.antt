-- A tray's shape and the rows in its memory are within the limits.
use Rattle.std.specs.Prelude.{◌≡◌, ℕ, zero, suc, ◌+◌, ◌*◌, ◌<◌, ◌≤◌, Bool, true, false, cond, ◌&&◌, List, length, take, drop, ◌==◌, nat_le, slice_index_or}
use Rattle.std.proofs.Common.{ap, ◌∙◌, inl, inr, arith, add-mul, one-mul}
use Rattle.std.proofs.lemmas.List.{length-drop, length-take-le}
use Rattle.std.proofs.lemmas.List.FromFn.{length-map-range_with_len, get_or-map-range_with_len}
use Rattle.std.proofs.lemmas.Nat.{mul-le}
use Rattle.std.proofs.lemmas.Bool.{and_parts, leb-true, cases_eq}
use Rattle.base.specs.Bytes.{AllBytes, all_zero}
use Rattle.base.proofs.Strings.{take_bytes, drop_bytes}
use Rattle.devices.specs.Limits.{most_slots, shortest_row, longest_row}
use Rattle.devices.specs.Slots.{nothing, row, Sound, RowFits}
use Rattle.tray.specs.Layout.{tray_shape, cell_length, slot_of, cell_formed, cell_at, tray_held, cells_formed}

-- n bytes are a tray's memory: `tray_fits`, part by part
abbrev pub TrayDimensions : ℕ → ℕ → ℕ → Type 0
TrayDimensions s m n = (1 ≤ s) × (s ≤ most_slots) × (shortest_row ≤ m) × (m ≤ longest_row) × (n ≡ s * (2 + m))

-- the cell of a slot ends before that of a later slot begins
pub cell_below : (w i j : ℕ) → i < j → i * w + w ≤ j * w
cell_below w i j h = omega (arith, mul-le (i + 1) w j w (omega arith) (omega arith), add-mul i 1 w, one-mul w)

-- a slot's cell has 2 + m bytes
pub cell_long : (s m : ℕ) (memory : List ℕ) → length memory ≡ s * (2 + m) → (i : ℕ) → i < s → length (cell_at m memory i) ≡ 2 + m
cell_long s m memory l i h =
    length-take-le (2 + m) (drop (i * (2 + m)) memory) (omega (arith, length-drop (i * (2 + m)) memory, cell_below (2 + m) i s h))

-- what slot i holds is what its cell says
pub held_at : (s m : ℕ) (memory : List ℕ) (i : ℕ) → i < s → slice_index_or (tray_held s m memory) i nothing ≡ slot_of (cell_at m memory i)
held_at s m memory i h = get_or-map-range_with_len (λ k. slot_of (cell_at m memory k)) 0 s i i nothing h (omega arith)

-- each slot holds something or nothing
pub held_long : (s m : ℕ) (memory : List ℕ) → length (tray_held s m memory) ≡ s
held_long s m memory = length-map-range_with_len (λ k. slot_of (cell_at m memory k)) 0 s

-- where the first n cells are well formed, each of them is
pub formed_at : (n m : ℕ) (memory : List ℕ) → cells_formed n m memory ≡ true → (i : ℕ) → i < n → cell_formed m (cell_at m memory i) ≡ true
formed_at zero m memory e i h = absurd (omega arith)
formed_at (suc n) m memory e i h =
    let p = and_parts (cells_formed n m memory) (cell_formed m (cell_at m memory n)) e in
    elim (cases_eq i n) [
      | inl q ↦ ap (λ (k : ℕ). cell_formed m (cell_at m memory k)) q ∙ p.1
      | inr ne ↦ formed_at n m memory p.0 i (omega arith)
    ]

-- a cell that is well formed by the length n that it states holds nothing or a row within the limits
fits_at : (s m n : ℕ) (cell : List ℕ) → length cell ≡ 2 + m → AllBytes cell → (empty : Bool) →
    cond empty (all_zero (drop 2 cell)) (nat_le 16 n && nat_le n m && all_zero (drop (2 + n) cell)) ≡ true →
    RowFits (tray_shape s m) (cond empty nothing (row (take n (drop 2 cell))))
fits_at s m n cell l b true e = tt
fits_at s m n cell l b false e =
    let p = and_parts (nat_le 16 n && nat_le n m) (all_zero (drop (2 + n) cell)) e in
    let q = and_parts (nat_le 16 n) (nat_le n m) p.0 in
    let low : 16 ≤ n = leb-true 16 n q.0 in
    let high : n ≤ m = leb-true n m q.1 in
    let k : length (take n (drop 2 cell)) ≡ n = length-take-le n (drop 2 cell) (omega (arith, length-drop 2 cell)) in
    (omega arith, omega arith, take_bytes n (drop 2 cell) (drop_bytes 2 cell b))

-- so does every well-formed cell
pub slot_fits : (s m : ℕ) (cell : List ℕ) → length cell ≡ 2 + m → AllBytes cell → cell_formed m cell ≡ true → RowFits (tray_shape s m) (slot_of cell)
slot_fits s m cell l b e = fits_at s m (cell_length cell) cell l b (cell_length cell == 0) e

-- a cell in a memory of bytes is made of bytes
pub cell_bytes : (m : ℕ) (memory : List ℕ) (i : ℕ) → AllBytes memory → AllBytes (cell_at m memory i)
cell_bytes m memory i b = take_bytes (2 + m) (drop (i * (2 + m)) memory) (drop_bytes (i * (2 + m)) memory b)

-- so every tray keeps the limits
pub tray_sound : (s m : ℕ) (memory : List ℕ) → TrayDimensions s m (length memory) → cells_formed s m memory ≡ true → AllBytes memory →
    Sound (tray_shape s m) (tray_held s m memory)
tray_sound s m memory d e b = record {
  slots_low = d.0;
  slots_high = d.1;
  longest_low = d.2;
  longest_high = d.3;
  units_high = λ n low high. omega arith;
  total_high = omega arith;
  count = held_long s m memory;
  rows = λ i h. rw (held_at s m memory i h)
      (slot_fits s m (cell_at m memory i) (cell_long s m memory d.4 i h) (cell_bytes m memory i b) (formed_at s m memory e i h));
}
