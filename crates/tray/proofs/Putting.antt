-- The memory after one cell is put in place of another.
use Rattle.std.proofs.Common.{◌≡◌, ℕ, zero, suc, ◌+◌, ◌-◌, ◌*◌, ◌/◌, ◌%◌, ◌<◌, ◌≤◌, true, eqb, List, ◌∷◌, ◌++◌, length, get_or, take, drop, set, replicate, sym, refl, ap, ◌∙◌, subst, inl, inr, ⊎_elim, arith}
use borrow.Rule.Slice.PartMut.{put_mid}
use Rattle.std.proofs.lemmas.List.{drop-drop, drop-take, take-take, take-append-le, take_at, drop_at, length-append, append_assoc, length-drop, length-take-le, length-replicate, get_or-replicate, drop-replicate, take-replicate, ext_get_or, length-set, get_or-set_same, get_or-set_other}
use Rattle.std.proofs.lemmas.Slice.{drop-append-drop}
use Rattle.std.proofs.lemmas.Nat.{div-add-mod', row_fits}
use Rattle.std.proofs.lemmas.Bool.{ne_eqb, eqb-true, and_parts, cases_eq, cases_order}
use Rattle.base.specs.Bytes.{AllBytes, zeros, all_zero}
use Rattle.base.proofs.Strings.{take_bytes, drop_bytes, append_bytes, zeros_bytes}
use Rattle.devices.specs.Limits.{within_limits}
use Rattle.devices.specs.Slots.{Slot, nothing, row, RowFits}
use Rattle.tray.specs.Layout.{tray_shape, cell_of, cell_length, slot_of, slot_of_length, cell_formed, cell_at, put_cell, tray_held, cells_formed, tray_fits, TrayReady}
use Rattle.tray.specs.Soundness.{TrayDimensions, held_at, held_long, formed_at}
use Rattle.base.proofs.Zeros.{zeros_zero}
use Rattle.tray.proofs.Checking.{empty_formed, row_formed, all_formed}

-- ---- the cell of a slot

nothing_long : (m : ℕ) → cell_length (zeros (2 + m)) ≡ 0
nothing_long m = rw (get_or-replicate {A = ℕ} (2 + m) 0 0 0 (omega arith), get_or-replicate {A = ℕ} (2 + m) 1 0 0 (omega arith)) refl

row_long : (m : ℕ) (r : List ℕ) → cell_length (cell_of m (row r)) ≡ length r
row_long m r = omega (arith, div-add-mod' (length r) 256)

module _ (s m : ℕ) where
  pub slot_of_cell : (x : Slot) → RowFits (tray_shape s m) x → slot_of (cell_of m x) ≡ x
  slot_of_cell nothing h = rw (nothing_long m) refl
  slot_of_cell (row r) h =
      ap (λ (n : ℕ). slot_of_length n (cell_of m (row r))) (row_long m r)
      ∙ rw (ne_eqb (length r) 0 (λ e. omega arith), take_at r (zeros (m - length r)) (length r) refl) refl

  pub cell_formed_lem : (x : Slot) → RowFits (tray_shape s m) x → cell_formed m (cell_of m x) ≡ true
  cell_formed_lem nothing h =
      let n : (2 + m) - 2 ≡ m = omega arith in
      empty_formed m (zeros (2 + m)) (nothing_long m) ∙ ap all_zero (drop-replicate 2 (2 + m) 0 ∙ ap zeros n) ∙ zeros_zero m
  cell_formed_lem (row r) h =
      let l = row_long m r in
      row_formed m (cell_of m (row r)) (omega (arith, l)) (omega (arith, l))
      ∙ ap (λ (n : ℕ). all_zero (drop (2 + n) (cell_of m (row r)))) l
      ∙ ap all_zero (drop_at ((length r % 256) ∷ (length r / 256) ∷ r) (zeros (m - length r)) (2 + length r) (omega arith))
      ∙ zeros_zero (m - length r)

  pub cell_size : (x : Slot) → RowFits (tray_shape s m) x → length (cell_of m x) ≡ 2 + m
  cell_size nothing h = length-replicate (2 + m) 0
  cell_size (row r) h = omega (arith, length-append r (zeros (m - length r)), length-replicate {A = ℕ} (m - length r) 0)

pub cell_bytes : (s m : ℕ) (x : Slot) → m ≤ 1000 → RowFits (tray_shape s m) x → AllBytes (cell_of m x)
cell_bytes s m nothing k h i = zeros_bytes (2 + m) i
cell_bytes s m (row r) k h zero = omega arith
cell_bytes s m (row r) k h (suc zero) = omega arith
cell_bytes s m (row r) k h (suc (suc i)) = append_bytes r (zeros (m - length r)) h.2 (zeros_bytes (m - length r)) i

-- ---- the memory

module _ (s m : ℕ) (memory : List ℕ) (size : length memory ≡ s * (2 + m)) (i : ℕ) (h : i < s) (cell : List ℕ) (l : length cell ≡ 2 + m) where
  inside : i * (2 + m) + (2 + m) ≤ length memory
  inside = omega (arith, row_fits i (2 + m) s (2 + m) h (omega arith), size)

  front_long : length (take (i * (2 + m)) memory) ≡ i * (2 + m)
  front_long = length-take-le (i * (2 + m)) memory (omega (arith, inside))

  pub put_long : length (put_cell m memory i cell) ≡ length memory
  put_long = omega (arith, length-append (take (i * (2 + m)) memory) (cell ++ drop (i * (2 + m) + (2 + m)) memory), length-append cell (drop (i * (2 + m) + (2 + m)) memory), length-drop (i * (2 + m) + (2 + m)) memory, front_long, inside)

  pub put_same : cell_at m (put_cell m memory i cell) i ≡ cell
  put_same = ap (take (2 + m)) (drop_at (take (i * (2 + m)) memory) _ (i * (2 + m)) front_long) ∙ take_at cell _ (2 + m) l

  put_before : (j : ℕ) → j < i → cell_at m (put_cell m memory i cell) j ≡ cell_at m memory j
  put_before j k =
      let le : j * (2 + m) + (2 + m) ≤ i * (2 + m) = row_fits j (2 + m) i (2 + m) k (omega arith) in
      sym (drop-take (j * (2 + m)) (2 + m) (put_cell m memory i cell))
      ∙ ap (drop (j * (2 + m))) (take-append-le (j * (2 + m) + (2 + m)) (take (i * (2 + m)) memory) _ (omega (arith, front_long)) ∙ take-take (j * (2 + m) + (2 + m)) (i * (2 + m)) memory le)
      ∙ drop-take (j * (2 + m)) (2 + m) memory

  put_after : (j : ℕ) → i < j → cell_at m (put_cell m memory i cell) j ≡ cell_at m memory j
  put_after j k =
      let le : i * (2 + m) + (2 + m) ≤ j * (2 + m) = row_fits i (2 + m) j (2 + m) k (omega arith) in
      let n : length (take (i * (2 + m)) memory ++ cell) ≡ i * (2 + m) + (2 + m) = omega (arith, length-append (take (i * (2 + m)) memory) cell, front_long) in
      ap (λ (t : List ℕ). take (2 + m) (drop (j * (2 + m)) t)) (sym (append_assoc (take (i * (2 + m)) memory) cell (drop (i * (2 + m) + (2 + m)) memory)))
      ∙ ap (take (2 + m)) (drop-append-drop (i * (2 + m) + (2 + m)) memory (take (i * (2 + m)) memory ++ cell) (j * (2 + m)) le n)

  pub put_other : (j : ℕ) → (j ≡ i → ⊥) → cell_at m (put_cell m memory i cell) j ≡ cell_at m memory j
  put_other j ne = ⊎_elim (λ e. absurd (ne e)) (⊎_elim (put_before j) (put_after j)) (cases_order j i)

-- `after` is still the memory of such a tray; slot i holds x, and the other slots what they held
pub record Put (s m : ℕ) (memory : List ℕ) (i : ℕ) (x : Slot) (after : List ℕ) : Type 0 where
  pub dims : TrayDimensions s m (length after)
  pub formed : cells_formed s m after ≡ true
  pub bytes : AllBytes after
  pub held : tray_held s m after ≡ set (tray_held s m memory) i x

module _ (s m : ℕ) (memory : List ℕ) (d : TrayDimensions s m (length memory)) (ok : cells_formed s m memory ≡ true) (b : AllBytes memory) (i : ℕ) (h : i < s) (x : Slot) (fits : RowFits (tray_shape s m) x) where
  new : List ℕ
  new = put_cell m memory i (cell_of m x)

  same : cell_at m new i ≡ cell_of m x
  unfolding new
  same = put_same s m memory d.4 i h (cell_of m x) (cell_size s m x fits)

  other : (j : ℕ) → (j ≡ i → ⊥) → cell_at m new j ≡ cell_at m memory j
  unfolding new
  other = put_other s m memory d.4 i h (cell_of m x) (cell_size s m x fits)

  new_formed : (j : ℕ) → j < s → cell_formed m (cell_at m new j) ≡ true
  new_formed j k = elim (cases_eq j i) [
    | inl e ↦ ap (λ (t : ℕ). cell_formed m (cell_at m new t)) e ∙ ap (cell_formed m) same ∙ cell_formed_lem s m x fits
    | inr ne ↦ ap (cell_formed m) (other j ne) ∙ formed_at s m memory ok j k
  ]

  new_slot : (j : ℕ) → j < s → slot_of (cell_at m new j) ≡ get_or (set (tray_held s m memory) i x) j nothing
  new_slot j k =
      let n : length (tray_held s m memory) ≡ s = held_long s m memory in
      elim (cases_eq j i) [
        | inl e ↦ ap (λ (t : ℕ). slot_of (cell_at m new t)) e ∙ ap slot_of same ∙ slot_of_cell s m x fits
            ∙ sym (ap (λ (t : ℕ). get_or (set (tray_held s m memory) i x) t nothing) e ∙ get_or-set_same (tray_held s m memory) i x nothing (omega arith))
        | inr ne ↦ ap slot_of (other j ne) ∙ sym (get_or-set_other (tray_held s m memory) i j x nothing ne ∙ held_at s m memory j k)
      ]

  new_held : tray_held s m new ≡ set (tray_held s m memory) i x
  new_held =
      ext_get_or nothing (tray_held s m new) (set (tray_held s m memory) i x)
      (held_long s m new ∙ sym (length-set (tray_held s m memory) i x ∙ held_long s m memory))
      (λ j k. let lt : j < s = omega (arith, held_long s m new) in held_at s m new j lt ∙ new_slot j lt)

  new_bytes : AllBytes new
  unfolding new
  new_bytes =
      append_bytes (take (i * (2 + m)) memory) (cell_of m x ++ drop (i * (2 + m) + (2 + m)) memory) (take_bytes (i * (2 + m)) memory b)
      (append_bytes (cell_of m x) (drop (i * (2 + m) + (2 + m)) memory) (cell_bytes s m x d.3 fits) (drop_bytes (i * (2 + m) + (2 + m)) memory b))

  new_put : Put s m memory i x new
  unfolding new
  new_put = record {
    dims = (d.0, d.1, d.2, d.3, put_long s m memory d.4 i h (cell_of m x) (cell_size s m x fits) ∙ d.4);
    formed = all_formed s m new new_formed;
    bytes = new_bytes;
    held = new_held;
  }

  pub put : (after : List ℕ) → after ≡ put_cell m memory i (cell_of m x) → Put s m memory i x after
  unfolding new
  put after e = subst (λ (t : List ℕ). Put s m memory i x t) (sym e) new_put

-- the memory after the part that is a slot's cell was written
module _ (s m : ℕ) (memory : List ℕ) (d : TrayDimensions s m (length memory)) (ok : cells_formed s m memory ≡ true) (b : AllBytes memory) (i : ℕ) (h : i < s) (x : Slot) (fits : RowFits (tray_shape s m) x)
    (from to : ℕ) (e : from ≡ i * (2 + m)) (f : to ≡ i * (2 + m) + (2 + m)) (cell : List ℕ) (l : cell ≡ cell_of (length (take (to - from) (drop from memory)) - 2) x) where
  part_put : put_mid from (to - from) memory cell ≡ put_cell m memory i (cell_of m x)
  part_put =
      let w : to - from ≡ 2 + m = omega arith in
      let n : length (take (to - from) (drop from memory)) - 2 ≡ m = omega (arith, w, e, length-take-le (to - from) (drop from memory) (omega (arith, length-drop from memory, row_fits i (2 + m) s (2 + m) h (omega arith), d.4)), f) in
      let c : cell ≡ cell_of m x = l ∙ ap (λ (k : ℕ). cell_of k x) n in
      rw (c, w, e) (ap (λ (t : List ℕ). take (i * (2 + m)) memory ++ (cell_of m x ++ t)) (drop-drop (2 + m) (i * (2 + m)) memory))

  pub put_there : Put s m memory i x (put_mid from (to - from) memory cell)
  put_there = put s m memory d ok b i h x fits (put_mid from (to - from) memory cell) part_put

-- ---- memory of zeros is a tray that holds nothing

zero_cell : (s m n : ℕ) → n ≡ s * (2 + m) → (i : ℕ) → i < s → cell_at m (zeros n) i ≡ cell_of m nothing
zero_cell s m n e i h =
    let l : 2 + m ≤ n - i * (2 + m) = omega (arith, row_fits i (2 + m) s (2 + m) h (omega arith)) in
    ap (take (2 + m)) (drop-replicate (i * (2 + m)) n 0) ∙ take-replicate (2 + m) (n - i * (2 + m)) 0 l

zeros_formed : (s m n : ℕ) → n ≡ s * (2 + m) → cells_formed s m (zeros n) ≡ true
zeros_formed s m n e = all_formed s m (zeros n) (λ i h. ap (cell_formed m) (zero_cell s m n e i h) ∙ cell_formed_lem s m nothing tt)

pub zeros_held : (s m n : ℕ) (memory : List ℕ) → memory ≡ zeros n → n ≡ s * (2 + m) → tray_held s m memory ≡ replicate s nothing
zeros_held s m n memory z e = ap (tray_held s m) z
    ∙ ext_get_or nothing (tray_held s m (zeros n)) (replicate s nothing) (held_long s m (zeros n) ∙ sym (length-replicate s nothing))
    (λ i k. let h : i < s = omega (arith, held_long s m (zeros n)) in
    held_at s m (zeros n) i h ∙ ap slot_of (zero_cell s m n e i h) ∙ slot_of_cell s m nothing tt ∙ sym (get_or-replicate s i nothing nothing h))

pub zeros_ready : (s m n : ℕ) (memory : List ℕ) → memory ≡ zeros n → tray_fits s m n ≡ true → TrayReady s m memory
zeros_ready s m n memory z f = subst (TrayReady s m) (sym z) (record {
  fits = ap (tray_fits s m) (length-replicate n 0) ∙ f;
  formed = zeros_formed s m n (eqb-true n (s * (2 + m)) (and_parts (within_limits s m) (eqb n (s * (2 + m))) f).1);
  bytes = zeros_bytes n;
})
