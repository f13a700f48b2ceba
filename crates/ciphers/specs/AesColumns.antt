-- Mixing a column, and its undoing: a row of rows is a row, whose factors are computed.
use Rattle.std.specs.Prelude.{◌≡◌, ℕ, zero, suc, ◌^◌, ◌<◌, T, List, [], ◌∷◌, length, bit_xor, nat_lt, slice_index, refl}
use Rattle.std.proofs.Common.{sym, ap, ◌∙◌, arith, ltb→lt}
use Rattle.std.specs.Int.Bits.{xor_zero_r}
use Rattle.std.proofs.lemmas.Nat.{xor_lt}
use Rattle.std.proofs.lemmas.List.FromFn.{fill_by_all}
use Rattle.base.specs.Bytes.{AllBytes}
use Rattle.base.proofs.Doubling.{swap, twice, mul_bits, mul, mul_sum_left, mul_sum_right, mul_associates}
use Rattle.ciphers.specs.AesField.{product}
use Rattle.ciphers.specs.AesSteps.{row, mix_column, inv_mix_column}
use Rattle.ciphers.specs.AesEntries.{both, both_left, both_right}
use Rattle.ciphers.specs.AesFieldLemmas.{product_mul, product_lt}

small : 27 < 2 ^ 8
small = omega arith

-- a times b, by doubling and adding
abbrev by : ℕ → ℕ → ℕ
by a b = mul 7 27 a b

sum : ℕ → ℕ → ℕ → ℕ → ℕ
sum w x y z = bit_xor (bit_xor (bit_xor w x) y) z

-- a row over the four bytes of a column
row_by : ℕ → ℕ → ℕ → ℕ → ℕ → ℕ → ℕ → ℕ → ℕ
row_by k l m n a b c d = sum (by k a) (by l b) (by m c) (by n d)

sum_same : {w x y z w' x' y' z' : ℕ} → w ≡ w' → x ≡ x' → y ≡ y' → z ≡ z' → sum w x y z ≡ sum w' x' y' z'
sum_same p q r s = λ i. sum (p i) (q i) (r i) (s i)

sum_sum : (w x y z w' x' y' z' : ℕ) → bit_xor (sum w x y z) (sum w' x' y' z') ≡ sum (bit_xor w w') (bit_xor x x') (bit_xor y y') (bit_xor z z')
unfolding sum
sum_sum w x y z w' x' y' z' =
    swap (bit_xor (bit_xor w x) y) z (bit_xor (bit_xor w' x') y') z'
    ∙ ap (λ (t : ℕ). bit_xor t (bit_xor z z')) (swap (bit_xor w x) y (bit_xor w' x') y' ∙ ap (λ (t : ℕ). bit_xor t (bit_xor y y')) (swap w x w' x'))

-- ---- rows are linear

row_sum : (k l m n k' l' m' n' a b c d : ℕ) → bit_xor (row_by k l m n a b c d) (row_by k' l' m' n' a b c d) ≡ row_by (bit_xor k k') (bit_xor l l') (bit_xor m m') (bit_xor n n') a b c d
unfolding row_by
row_sum k l m n k' l' m' n' a b c d =
    let one : (x y z : ℕ) → bit_xor (by x z) (by y z) ≡ by (bit_xor x y) z = λ x y z. sym (mul_sum_left 7 27 x y z) in
    sum_sum (by k a) (by l b) (by m c) (by n d) (by k' a) (by l' b) (by m' c) (by n' d) ∙ sum_same (one k k' a) (one l l' b) (one m m' c) (one n n' d)

-- four bytes
record Four (a b c d : ℕ) : Type 0 where
  zeroth : a < 256
  first : b < 256
  second : c < 256
  third : d < 256

-- numerals below 256
literal : (a b c d : ℕ) → T (both (both (nat_lt a 256) (nat_lt b 256)) (both (nat_lt c 256) (nat_lt d 256))) → Four a b c d
literal a b c d t =
    let l : T (both (nat_lt a 256) (nat_lt b 256)) = both_left (both (nat_lt a 256) (nat_lt b 256)) (both (nat_lt c 256) (nat_lt d 256)) t in
    let r : T (both (nat_lt c 256) (nat_lt d 256)) = both_right (both (nat_lt a 256) (nat_lt b 256)) (both (nat_lt c 256) (nat_lt d 256)) t in
    record {
      zeroth = ltb→lt a 256 (both_left (nat_lt a 256) (nat_lt b 256) l);
      first = ltb→lt b 256 (both_right (nat_lt a 256) (nat_lt b 256) l);
      second = ltb→lt c 256 (both_left (nat_lt c 256) (nat_lt d 256) r);
      third = ltb→lt d 256 (both_right (nat_lt c 256) (nat_lt d 256) r);
    }

by_sum : (j w x y z : ℕ) → by j (sum w x y z) ≡ sum (by j w) (by j x) (by j y) (by j z)
unfolding sum
by_sum j w x y z =
    mul_sum_right 7 27 j (bit_xor (bit_xor w x) y) z
    ∙ ap (λ (t : ℕ). bit_xor t (by j z)) (mul_sum_right 7 27 j (bit_xor w x) y ∙ ap (λ (t : ℕ). bit_xor t (by j y)) (mul_sum_right 7 27 j w x))

row_by_lem : (j k l m n a b c d : ℕ) → j < 256 → Four k l m n → Four a b c d → by j (row_by k l m n a b c d) ≡ row_by (by j k) (by j l) (by j m) (by j n) a b c d
unfolding row_by
row_by_lem j k l m n a b c d hj hk ha =
    let one : (x y : ℕ) → x < 256 → y < 256 → by j (by x y) ≡ by (by j x) y = λ x y p q. sym (mul_associates 7 27 j x y small hj p q) in
    by_sum j (by k a) (by l b) (by m c) (by n d)
    ∙ sum_same (one k a hk.zeroth ha.zeroth) (one l b hk.first ha.first) (one m c hk.second ha.second) (one n d hk.third ha.third)

-- ---- a row of four rows

row_rows : (k l m n p0 q0 r0 s0 p1 q1 r1 s1 p2 q2 r2 s2 p3 q3 r3 s3 a b c d : ℕ)
    → Four k l m n → Four p0 q0 r0 s0 → Four p1 q1 r1 s1 → Four p2 q2 r2 s2 → Four p3 q3 r3 s3 → Four a b c d
    → row_by k l m n (row_by p0 q0 r0 s0 a b c d) (row_by p1 q1 r1 s1 a b c d) (row_by p2 q2 r2 s2 a b c d) (row_by p3 q3 r3 s3 a b c d)
    ≡ row_by (row_by k l m n p0 p1 p2 p3) (row_by k l m n q0 q1 q2 q3) (row_by k l m n r0 r1 r2 r3) (row_by k l m n s0 s1 s2 s3) a b c d
unfolding row_by sum
row_rows k l m n p0 q0 r0 s0 p1 q1 r1 s1 p2 q2 r2 s2 p3 q3 r3 s3 a b c d hk h0 h1 h2 h3 ha =
    sum_same (row_by_lem k p0 q0 r0 s0 a b c d hk.zeroth h0 ha) (row_by_lem l p1 q1 r1 s1 a b c d hk.first h1 ha)
    (row_by_lem m p2 q2 r2 s2 a b c d hk.second h2 ha) (row_by_lem n p3 q3 r3 s3 a b c d hk.third h3 ha)
    ∙ ap (λ (t : ℕ). bit_xor (bit_xor t (row_by (by m p2) (by m q2) (by m r2) (by m s2) a b c d)) (row_by (by n p3) (by n q3) (by n r3) (by n s3) a b c d))
    (row_sum (by k p0) (by k q0) (by k r0) (by k s0) (by l p1) (by l q1) (by l r1) (by l s1) a b c d)
    ∙ ap (λ (t : ℕ). bit_xor t (row_by (by n p3) (by n q3) (by n r3) (by n s3) a b c d))
    (row_sum (bit_xor (by k p0) (by l p1)) (bit_xor (by k q0) (by l q1)) (bit_xor (by k r0) (by l r1)) (bit_xor (by k s0) (by l s1)) (by m p2) (by m q2) (by m r2) (by m s2) a b c d)
    ∙ row_sum (bit_xor (bit_xor (by k p0) (by l p1)) (by m p2)) (bit_xor (bit_xor (by k q0) (by l q1)) (by m q2)) (bit_xor (bit_xor (by k r0) (by l r1)) (by m r2))
    (bit_xor (bit_xor (by k s0) (by l s1)) (by m s2)) (by n p3) (by n q3) (by n r3) (by n s3) a b c d

-- ---- rows of a column

row_is : (k l m n : ℕ) (w : List ℕ) → AllBytes w → row k l m n w ≡ row_by k l m n (slice_index w 0) (slice_index w 1) (slice_index w 2) (slice_index w 3)
unfolding row row_by sum
row_is k l m n w h = sum_same (product_mul k (slice_index w 0) (h 0)) (product_mul l (slice_index w 1) (h 1)) (product_mul m (slice_index w 2) (h 2)) (product_mul n (slice_index w 3) (h 3))

pub row_lt : (k l m n : ℕ) (w : List ℕ) → AllBytes w → row k l m n w < 256
unfolding row
row_lt k l m n w h =
    let p : (j i : ℕ) → product j (slice_index w i) < 256 = λ j i. product_lt j (slice_index w i) (h i) in
    xor_lt 8 (bit_xor (bit_xor (product k (slice_index w 0)) (product l (slice_index w 1))) (product m (slice_index w 2))) (product n (slice_index w 3))
    (xor_lt 8 (bit_xor (product k (slice_index w 0)) (product l (slice_index w 1))) (product m (slice_index w 2))
    (xor_lt 8 (product k (slice_index w 0)) (product l (slice_index w 1)) (p k 0) (p l 1)) (p m 2)) (p n 3)

four_fit : (w x y z : ℕ) → w < 256 → x < 256 → y < 256 → z < 256 → AllBytes (w ∷ x ∷ y ∷ z ∷ [])
four_fit w x y z hw hx hy hz zero = hw
four_fit w x y z hw hx hy hz (suc zero) = hx
four_fit w x y z hw hx hy hz (suc (suc zero)) = hy
four_fit w x y z hw hx hy hz (suc (suc (suc zero))) = hz
four_fit w x y z hw hx hy hz (suc (suc (suc (suc i)))) = omega arith

pub mix_column_fit : (w : List ℕ) → AllBytes w → AllBytes (mix_column w)
unfolding mix_column
mix_column_fit w h = four_fit (row 2 3 1 1 w) (row 1 2 3 1 w) (row 1 1 2 3 w) (row 3 1 1 2 w) (row_lt 2 3 1 1 w h) (row_lt 1 2 3 1 w h) (row_lt 1 1 2 3 w h) (row_lt 3 1 1 2 w h)

pub inv_mix_column_fit : (w : List ℕ) → AllBytes w → AllBytes (inv_mix_column w)
unfolding inv_mix_column
inv_mix_column_fit w h = four_fit (row 14 11 13 9 w) (row 9 14 11 13 w) (row 13 9 14 11 w) (row 11 13 9 14 w) (row_lt 14 11 13 9 w h) (row_lt 9 14 11 13 w h) (row_lt 13 9 14 11 w h) (row_lt 11 13 9 14 w h)

-- ---- the rows that give one byte

row_zeroth : (a b c d : ℕ) → row_by 1 0 0 0 a b c d ≡ a
unfolding row_by sum mul mul_bits
row_zeroth a b c d = simp xor_zero_r

row_first : (a b c d : ℕ) → row_by 0 1 0 0 a b c d ≡ b
unfolding row_by sum mul mul_bits
row_first a b c d = simp xor_zero_r

row_second : (a b c d : ℕ) → row_by 0 0 1 0 a b c d ≡ c
unfolding row_by sum mul mul_bits
row_second a b c d = simp xor_zero_r

row_third : (a b c d : ℕ) → row_by 0 0 0 1 a b c d ≡ d
unfolding row_by sum mul mul_bits
row_third a b c d = simp xor_zero_r

-- ---- a matrix and its inverse

row_same : (k l m n : ℕ) {a b c d a' b' c' d' : ℕ} → a ≡ a' → b ≡ b' → c ≡ c' → d ≡ d' → row_by k l m n a b c d ≡ row_by k l m n a' b' c' d'
row_same k l m n p q r s = λ i. row_by k l m n (p i) (q i) (r i) (s i)

module _ (w : List ℕ) (h : AllBytes w) where
  column : Four (slice_index w 0) (slice_index w 1) (slice_index w 2) (slice_index w 3)
  column = record { zeroth = h 0; first = h 1; second = h 2; third = h 3 }

  -- a row over the mixed column, and over the unmixed one
  over_mixed : (k l m n : ℕ) → Four k l m n
      → row k l m n (mix_column w) ≡ row_by (row_by k l m n 2 1 1 3) (row_by k l m n 3 2 1 1) (row_by k l m n 1 3 2 1) (row_by k l m n 1 1 3 2) (slice_index w 0) (slice_index w 1) (slice_index w 2) (slice_index w 3)
  unfolding mix_column
  over_mixed k l m n hk =
      row_is k l m n (mix_column w) (mix_column_fit w h) ∙ row_same k l m n (row_is 2 3 1 1 w h) (row_is 1 2 3 1 w h) (row_is 1 1 2 3 w h) (row_is 3 1 1 2 w h)
      ∙ row_rows k l m n 2 3 1 1 1 2 3 1 1 1 2 3 3 1 1 2 (slice_index w 0) (slice_index w 1) (slice_index w 2) (slice_index w 3) hk
      (literal 2 3 1 1 tt) (literal 1 2 3 1 tt) (literal 1 1 2 3 tt) (literal 3 1 1 2 tt) column

  over_unmixed : (k l m n : ℕ) → Four k l m n
      → row k l m n (inv_mix_column w) ≡ row_by (row_by k l m n 14 9 13 11) (row_by k l m n 11 14 9 13) (row_by k l m n 13 11 14 9) (row_by k l m n 9 13 11 14) (slice_index w 0) (slice_index w 1) (slice_index w 2) (slice_index w 3)
  unfolding inv_mix_column
  over_unmixed k l m n hk =
      row_is k l m n (inv_mix_column w) (inv_mix_column_fit w h) ∙ row_same k l m n (row_is 14 11 13 9 w h) (row_is 9 14 11 13 w h) (row_is 13 9 14 11 w h) (row_is 11 13 9 14 w h)
      ∙ row_rows k l m n 14 11 13 9 9 14 11 13 13 9 14 11 11 13 9 14 (slice_index w 0) (slice_index w 1) (slice_index w 2) (slice_index w 3) hk
      (literal 14 11 13 9 tt) (literal 9 14 11 13 tt) (literal 13 9 14 11 tt) (literal 11 13 9 14 tt) column

  -- the bytes of a column
  abbrev spelled : List ℕ
  spelled = slice_index w 0 ∷ slice_index w 1 ∷ slice_index w 2 ∷ slice_index w 3 ∷ []

  four_same : {a b c d a' b' c' d' : ℕ} → a ≡ a' → b ≡ b' → c ≡ c' → d ≡ d' → ◌≡◌ {A = List ℕ} (a ∷ b ∷ c ∷ d ∷ []) (a' ∷ b' ∷ c' ∷ d' ∷ [])
  four_same p q r s = λ i. p i ∷ q i ∷ r i ∷ s i ∷ []

  unmixed : inv_mix_column (mix_column w) ≡ spelled
  unfolding inv_mix_column row_by sum mul mul_bits twice
  unmixed =
      four_same
      (over_mixed 14 11 13 9 (literal 14 11 13 9 tt) ∙ row_zeroth (slice_index w 0) (slice_index w 1) (slice_index w 2) (slice_index w 3))
      (over_mixed 9 14 11 13 (literal 9 14 11 13 tt) ∙ row_first (slice_index w 0) (slice_index w 1) (slice_index w 2) (slice_index w 3))
      (over_mixed 13 9 14 11 (literal 13 9 14 11 tt) ∙ row_second (slice_index w 0) (slice_index w 1) (slice_index w 2) (slice_index w 3))
      (over_mixed 11 13 9 14 (literal 11 13 9 14 tt) ∙ row_third (slice_index w 0) (slice_index w 1) (slice_index w 2) (slice_index w 3))

  remixed : mix_column (inv_mix_column w) ≡ spelled
  unfolding mix_column row_by sum mul mul_bits twice
  remixed =
      four_same
      (over_unmixed 2 3 1 1 (literal 2 3 1 1 tt) ∙ row_zeroth (slice_index w 0) (slice_index w 1) (slice_index w 2) (slice_index w 3))
      (over_unmixed 1 2 3 1 (literal 1 2 3 1 tt) ∙ row_first (slice_index w 0) (slice_index w 1) (slice_index w 2) (slice_index w 3))
      (over_unmixed 1 1 2 3 (literal 1 1 2 3 tt) ∙ row_second (slice_index w 0) (slice_index w 1) (slice_index w 2) (slice_index w 3))
      (over_unmixed 3 1 1 2 (literal 3 1 1 2 tt) ∙ row_third (slice_index w 0) (slice_index w 1) (slice_index w 2) (slice_index w 3))

  as_spelled : length w ≡ 4 → w ≡ spelled
  as_spelled l = fill_by_all (λ k. slice_index w k) w 4 0 l (λ k g. refl)

  pub mixing_undone : length w ≡ 4 → inv_mix_column (mix_column w) ≡ w
  mixing_undone l = unmixed ∙ sym (as_spelled l)

  pub mixing_redone : length w ≡ 4 → mix_column (inv_mix_column w) ≡ w
  mixing_redone l = remixed ∙ sym (as_spelled l)
