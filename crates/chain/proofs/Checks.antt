-- What a check of the cells finds in their bytes.
use Rattle.std.proofs.Common.{◌≡◌, ℕ, suc, ◌+◌, ◌-◌, ◌*◌, ◌≤◌, List, [], ◌∷◌, length, get_or, take, drop, replicate, sym, refl, ap, ◌∙◌, subst, arith}
use Rattle.std.proofs.lemmas.List.{drop_at, length-take-le, length-drop, take-append-drop}
use Rattle.chain.proofs.Right.{piece_length}
use Rattle.chain.proofs.Parts.{part_length}
use Rattle.chain.specs.Cells.{cell, cell_of, next_of, used_of, piece_of, RightCell}

-- a cell is laid out where what follows its piece is zero
pub laid_out : (x : List ℕ) → length x ≡ 32 → (n : ℕ) → n ≡ get_or x 1 0 → n ≤ 30 → drop (2 + n) x ≡ replicate (30 - n) 0 → x ≡ cell_of (get_or x 0 0) (take n (drop 2 x))
laid_out [] l n e h z = absurd (omega arith)
laid_out (a ∷ []) l n e h z = absurd (omega arith)
laid_out (a ∷ b ∷ x) l n e h z =
    let k : length (take n x) ≡ n = length-take-le n x (omega arith) in
    let two : 2 + n ≡ suc (suc n) = omega arith in
    let d : drop n x ≡ replicate (30 - length (take n x)) 0 = rw k (subst (λ t. drop t (a ∷ b ∷ x) ≡ replicate (30 - n) 0) two z) in
    sym (rw (← d, take-append-drop n x, k ∙ e) refl)

pub laid_rest : (x : List ℕ) (n m : ℕ) (p : List ℕ) → length p ≡ n → x ≡ cell_of m p → drop (2 + n) x ≡ replicate (30 - n) 0
laid_rest x n m p l e = ap (drop (2 + n)) e ∙ drop_at (m ∷ length p ∷ p) (replicate (30 - length p) 0) (2 + n) (omega arith) ∙ ap (λ t. replicate (30 - t) 0) l

-- zeros after the piece of a cell
pub right_zero : (c : ℕ) (cs : List ℕ) (k n : ℕ) → length cs ≡ c * 32 → 1 ≤ k → k ≤ c → n ≡ used_of cs k → 1 ≤ n → n ≤ 30 → ((next_of cs k ≡ 0 → ⊥) → used_of cs k ≡ 30) →
    drop (2 + n) (cell cs k) ≡ replicate (length (drop (2 + n) (cell cs k))) 0 → RightCell c cs k
right_zero c cs k n size lo hi e l h f z =
    let w : length (cell cs k) ≡ 32 = part_length 32 c cs size (k - 1) (omega arith) in
    let m : length (drop (2 + n) (cell cs k)) ≡ 30 - n = omega (arith, length-drop (2 + n) (cell cs k)) in
    record { high = hi; least = omega arith; most = omega arith; full = f; is = laid_out (cell cs k) w n e h (z ∙ ap (λ t. replicate t 0) m) ∙ ap (λ t. cell_of (next_of cs k) (take t (drop 2 (cell cs k)))) e }

pub zero_right : (c : ℕ) (cs : List ℕ) (k n : ℕ) → length cs ≡ c * 32 → 1 ≤ k → k ≤ c → n ≡ used_of cs k → n ≤ 30 →
    RightCell c cs k → drop (2 + n) (cell cs k) ≡ replicate (length (drop (2 + n) (cell cs k))) 0
zero_right c cs k n size lo hi e h g =
    let w : length (cell cs k) ≡ 32 = part_length 32 c cs size (k - 1) (omega arith) in
    let m : length (drop (2 + n) (cell cs k)) ≡ 30 - n = omega (arith, length-drop (2 + n) (cell cs k)) in
    laid_rest (cell cs k) n (next_of cs k) (piece_of cs k) (piece_length c cs k g ∙ sym e) g.is ∙ ap (λ t. replicate t 0) (sym m)
