-- A list as rows of w: one row, and one row put in place of another.
use Rattle.std.proofs.Common.{◌≡◌, ℕ, ◌+◌, ◌*◌, ◌<◌, ◌≤◌, List, ◌++◌, length, take, drop, sym, ap, ◌∙◌, ⊎_elim, add-mul, one-mul, arith}
use Rattle.std.proofs.lemmas.List.{drop-take, take-take, take-append-le, take_at, drop_at, length-append, append_assoc, length-drop, length-take-le}
use Rattle.std.proofs.lemmas.Slice.{drop-append-drop}
use Rattle.std.proofs.lemmas.Nat.{mul-le}
use Rattle.std.proofs.lemmas.Bool.{cases_order}

abbrev pub part : ℕ → List ℕ → ℕ → List ℕ
part w b i = take w (drop (i * w) b)

abbrev pub put : ℕ → List ℕ → ℕ → List ℕ → List ℕ
put w b i c = take (i * w) b ++ (c ++ drop (i * w + w) b)

pub below_row : (w i j : ℕ) → j < i → j * w + w ≤ i * w
below_row w i j h = omega (arith, mul-le (j + 1) w i w (omega arith) (omega arith), add-mul j 1 w, one-mul w)

pub part_length : (w s : ℕ) (b : List ℕ) → length b ≡ s * w → (i : ℕ) → i < s → length (part w b i) ≡ w
part_length w s b size i h = length-take-le w (drop (i * w) b) (omega (arith, length-drop (i * w) b, below_row w s i h))

module _ (w s : ℕ) (b : List ℕ) (size : length b ≡ s * w) (i : ℕ) (h : i < s) where
  pub part_in : i * w + w ≤ length b
  part_in = omega (arith, below_row w s i h, size)

  front_length : length (take (i * w) b) ≡ i * w
  front_length = length-take-le (i * w) b (omega (arith, part_in))

  module _ (c : List ℕ) (l : length c ≡ w) where
    pub length-put : length (put w b i c) ≡ length b
    length-put = omega (arith, length-append (take (i * w) b) (c ++ drop (i * w + w) b), length-append c (drop (i * w + w) b), length-drop (i * w + w) b, front_length, part_in)

    pub part_same : part w (put w b i c) i ≡ c
    part_same = ap (take w) (drop_at (take (i * w) b) _ (i * w) front_length) ∙ take_at c _ w l

    part-before : (j : ℕ) → j < i → part w (put w b i c) j ≡ part w b j
    part-before j k =
        let le : j * w + w ≤ i * w = below_row w i j k in
        sym (drop-take (j * w) w (put w b i c))
        ∙ ap (drop (j * w)) (take-append-le (j * w + w) (take (i * w) b) _ (omega (arith, front_length)) ∙ take-take (j * w + w) (i * w) b le)
        ∙ drop-take (j * w) w b

    part-after : (j : ℕ) → i < j → part w (put w b i c) j ≡ part w b j
    part-after j k =
        let le : i * w + w ≤ j * w = below_row w j i k in
        let n : length (take (i * w) b ++ c) ≡ i * w + w = omega (arith, length-append (take (i * w) b) c, front_length) in
        ap (λ t. take w (drop (j * w) t)) (sym (append_assoc (take (i * w) b) c (drop (i * w + w) b)))
        ∙ ap (take w) (drop-append-drop (i * w + w) b (take (i * w) b ++ c) (j * w) le n)

    pub part-other : (j : ℕ) → (j ≡ i → ⊥) → part w (put w b i c) j ≡ part w b j
    part-other j ne = ⊎_elim (λ e. absurd (ne e)) (⊎_elim (part-before j) (part-after j)) (cases_order j i)
