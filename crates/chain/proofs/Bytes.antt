-- Where a cell's bytes lie in memory, and what a write of a cell changes there.
use Rattle.std.proofs.Common.{◌≡◌, ℕ, suc, ◌+◌, ◌-◌, ◌*◌, ◌<◌, ◌≤◌, List, ◌∷◌, ◌++◌, length, take, drop, set, sym, refl, ap, ◌∙◌, Option, Some, None, MatchOption, arith}
use borrow.Rule.Slice.PartMut.{put_mid}
use Rattle.std.proofs.lemmas.List.{drop-take, take-take, take-append-le, drop-drop, drop-append-le, length-take-le, drop-replicate}
use Rattle.base.specs.Bytes.{zeros}
use Rattle.chain.specs.Cells.{cell, used_of, FirstFree, piece_of, cell_of, put_cell}

-- a part that was written whole
pub put_part : (a w : ℕ) (b ys zs : List ℕ) → ys ≡ zs → put_mid a ((a + w) - a) b ys ≡ take a b ++ (zs ++ drop (a + w) b)
put_part a w b ys zs e =
    let k : (a + w) - a ≡ w = omega arith in
    rw (k, e) (ap (λ t. take a b ++ (zs ++ t)) (drop-drop w a b))

module _ (s c k : ℕ) (b : List ℕ) (size : length b ≡ s + 32 * c) (lo : 1 ≤ k) (hi : k ≤ c) where
  abbrev at : ℕ
  at = s + (k - 1) * 32

  pub within : at + 32 ≤ length b
  within = omega arith

  module _ (b' zs : List ℕ) (e : b' ≡ take at b ++ (zs ++ drop (at + 32) b)) where
    front : length (take at b) ≡ at
    front = length-take-le at b (omega (arith, within))

    pub heads_kept : take s b' ≡ take s b
    heads_kept = ap (take s) e ∙ take-append-le s (take at b) (zs ++ drop (at + 32) b) (omega (arith, front)) ∙ take-take s at b (omega arith)

    pub cell_put : drop s b' ≡ put_cell (drop s b) k zs
    cell_put =
        let g : s + ((k - 1) * 32 + 32) ≡ at + 32 = omega arith in
        ap (drop s) e
        ∙ drop-append-le s (take at b) (zs ++ drop (at + 32) b) (omega (arith, front))
        ∙ ap (λ t. t ++ (zs ++ drop (at + 32) b)) (drop-take s ((k - 1) * 32) b)
        ∙ ap (λ t. take ((k - 1) * 32) (drop s b) ++ (zs ++ t)) (sym (drop-drop ((k - 1) * 32 + 32) s b ∙ ap (λ t. drop t b) g))

-- the first free cell of a range
pub first_free : (c from : ℕ) (cs : List ℕ) (r : Option ℕ) → MatchOption r ((k : ℕ) → from ≤ k → k < c + 1 → 1 ≤ used_of cs k) (λ i. (from ≤ i) × (i < c + 1) × (used_of cs i ≡ 0) × ((k : ℕ) → from ≤ k → k < i → 1 ≤ used_of cs k)) → FirstFree c cs from r
first_free c from cs None h = λ j lo hi. h j lo (omega arith)
first_free c from cs (Some k) h = (h.0, omega (arith, h.1), h.2, h.3)

-- the bytes of row of a cell
pub piece_there : (cs : List ℕ) (k n : ℕ) (x : List ℕ) → x ≡ cell cs k → n ≡ used_of cs k → take ((2 + n) - 2) (drop 2 x) ≡ piece_of cs k
piece_there cs k n x e u =
    let z : (2 + n) - 2 ≡ n = omega arith in
    rw (z, e, u) refl

-- a cell that is filled
pub cell_filled : (next : ℕ) (p z q : List ℕ) → z ≡ zeros 32 → q ≡ p → put_mid 2 ((2 + length p) - 2) (set (set z 0 next) 1 (length p)) q ≡ cell_of next p
cell_filled next p z q e f =
    let n : 2 + length p ≡ suc (suc (length p)) = omega arith in
    let b : List ℕ = set (set z 0 next) 1 (length p) in
    let x : b ≡ next ∷ length p ∷ zeros 30 = ap (λ t. set (set t 0 next) 1 (length p)) e in
    put_part 2 (length p) b q p f ∙ rw (x, n) (ap (λ t. next ∷ length p ∷ (p ++ t)) (drop-replicate (length p) 30 0))
