-- Writing one cell.
use Rattle.std.proofs.Common.{◌≡◌, ℕ, ◌+◌, ◌-◌, ◌≤◌, List, [], ◌∷◌, ◌++◌, length, take, drop, refl, ap, ◌∙◌, arith}
use borrow.Rule.Slice.PartMut.{put_mid}
use Rattle.std.proofs.lemmas.List.{drop-drop, drop_all, take_at, drop_at, length-append, append-nil, length-drop}
use Rattle.base.specs.Bytes.{zeros}

-- a part of w bytes that was written whole
pub put_part : (a w : ℕ) (xs part new : List ℕ) → part ≡ new → put_mid a ((a + w) - a) xs part ≡ take a xs ++ (new ++ drop (a + w) xs)
put_part a w xs part new e =
    let k : (a + w) - a ≡ w = omega arith in
    rw (k, e) (ap (λ (t : List ℕ). take a xs ++ (new ++ t)) (drop-drop w a xs))

-- the last part
put_last : (p q part : List ℕ) (n : ℕ) → length p ≡ n → put_mid n (length (p ++ q) - n) (p ++ q) part ≡ p ++ part
put_last p q part n e =
    let k : length q ≤ length (p ++ q) - n = omega (arith, length-append p q) in
    rw (take_at p q n e, drop_at p q n e, drop_all (length (p ++ q) - n) q k, append-nil part) refl

-- two bytes of length, the row, and zeros in the rest
pub cell_filled : (cell r two got rest : List ℕ) (low high m : ℕ) → length cell ≡ 2 + m → length r ≤ m → two ≡ low ∷ high ∷ [] → got ≡ r → rest ≡ zeros (length rest) →
    length rest ≡ length (put_mid 2 ((2 + length r) - 2) (two ++ drop 2 cell) got) - (2 + length r) →
    put_mid (2 + length r) (length (put_mid 2 ((2 + length r) - 2) (two ++ drop 2 cell) got) - (2 + length r)) (put_mid 2 ((2 + length r) - 2) (two ++ drop 2 cell) got) rest
    ≡ low ∷ high ∷ (r ++ zeros (m - length r))
cell_filled cell r two got rest low high m h l t e f z =
    let w : length rest ≡ m - length r = omega (arith, simp (t, e, length-append, length-drop) at z) in
    rw (t, e) (put_last (low ∷ high ∷ r) (drop ((2 + length r) - 2) (drop 2 cell)) rest (2 + length r) (omega arith))
    ∙ ap (λ (x : List ℕ). low ∷ high ∷ (r ++ x)) (f ∙ ap zeros w)
