-- What the loops and the writes of the steps leave.
use Rattle.std.proofs.Common.{◌≡◌, ◌≢◌, ℕ, zero, suc, ◌+◌, ◌-◌, ◌*◌, ◌/◌, ◌%◌, ◌<◌, ◌≤◌, List, [], ◌∷◌, ◌++◌, map, length, get_or, take, drop, sym, refl, ap, ◌∙◌, add-zero, add-one, arith}
use lib.Bits.{bit_xor, xor_assoc, xor_zero_r}
use borrow.Rule.Slice.PartMut.{put_mid}
use Rattle.std.specs.Simd.{first_chunks}
use Rattle.std.specs.List.{range_with_len}
use Rattle.std.proofs.lemmas.List.FromFn.{fill_by_all}
use Rattle.std.proofs.lemmas.List.{append_assoc, take_at, drop_at, drop_all, drop-drop, append-nil, length-append, length-take-le, length-drop, get_or-take, get_or-drop}
use Rattle.base.specs.Bytes.{AllBytes}
use Rattle.base.specs.Polynomials.{scaled}
use Rattle.base.proofs.Doubling.{twice, mul_bits}
use Rattle.ciphers.specs.AesField.{product, substitution, inv_substitution}
use Rattle.ciphers.specs.AesFieldLemmas.{doubled_byte}
use Rattle.ciphers.specs.AesSteps.{sub_bytes, inv_sub_bytes, shift_rows, inv_shift_rows, mixed_by, word, columnwise}
use Rattle.ciphers.specs.AesTables.{substitution_table, inv_substitution_table}
use Rattle.ciphers.specs.AesTablesLemmas.{entry_is, inv_entry_is}
use Rattle.ciphers.specs.AesStepsLemmas.{spelled}
use Rattle.base.proofs.Cutting.{chunk_at}

-- ---- substituted and shifted, byte by byte

pub sub_shift_lem : (s : List ℕ) → length s ≡ 16 → map (λ k. substitution (get_or s (5 * k % 16) 0)) (range_with_len 0 16) ≡ shift_rows (sub_bytes s)
unfolding shift_rows sub_bytes
sub_shift_lem s l =
    ap (λ (t : List ℕ). map (λ k. substitution (get_or t (5 * k % 16) 0)) (range_with_len 0 16)) (spelled s l) ∙ sym (ap (λ (t : List ℕ). shift_rows (sub_bytes t)) (spelled s l))

pub inv_shift_sub_lem : (s : List ℕ) → map (λ k. inv_substitution (get_or s (13 * k % 16) 0)) (range_with_len 0 16) ≡ inv_sub_bytes (inv_shift_rows s)
unfolding inv_shift_rows inv_sub_bytes
inv_shift_sub_lem s = refl

-- the same by the tables
pub looked_up_ahead : (s : List ℕ) → length s ≡ 16 → AllBytes s → map (λ k. get_or substitution_table (get_or s (5 * k % 16) 0) 0) (range_with_len 0 16) ≡ shift_rows (sub_bytes s)
looked_up_ahead s l h =
    let one : (k : ℕ) → get_or substitution_table (get_or s (5 * k % 16) 0) 0 ≡ substitution (get_or s (5 * k % 16) 0) = λ k. entry_is (get_or s (5 * k % 16) 0) (h (5 * k % 16)) in
    (λ z. map (λ k. one k z) (range_with_len 0 16)) ∙ sub_shift_lem s l

pub looked_up_back : (s : List ℕ) → AllBytes s → map (λ k. get_or inv_substitution_table (get_or s (13 * k % 16) 0) 0) (range_with_len 0 16) ≡ inv_sub_bytes (inv_shift_rows s)
looked_up_back s h =
    let one : (k : ℕ) → get_or inv_substitution_table (get_or s (13 * k % 16) 0) 0 ≡ inv_substitution (get_or s (13 * k % 16) 0) = λ k. inv_entry_is (get_or s (13 * k % 16) 0) (h (13 * k % 16)) in
    (λ z. map (λ k. one k z) (range_with_len 0 16)) ∙ inv_shift_sub_lem s

-- four bytes read one by one
pub four_read : (a : ℕ) (ws : List ℕ) → a + 4 ≤ length ws → get_or ws a 0 ∷ get_or ws (a + 1) 0 ∷ get_or ws (a + 2) 0 ∷ get_or ws (a + 3) 0 ∷ [] ≡ take 4 (drop a ws)
four_read a ws h =
    ap (λ (n : ℕ). get_or ws n 0 ∷ get_or ws (a + 1) 0 ∷ get_or ws (a + 2) 0 ∷ get_or ws (a + 3) 0 ∷ []) (sym (add-zero a))
    ∙ sym (fill_by_all (λ k. get_or ws (a + k) 0) (take 4 (drop a ws)) 4 0 (length-take-le 4 (drop a ws) (simp length-drop (omega arith))) (λ k l. get_or-take 4 (drop a ws) k 0 l ∙ get_or-drop a ws k 0))

pub four_spelled : (w : List ℕ) → length w ≡ 4 → w ≡ get_or w 0 0 ∷ get_or w 1 0 ∷ get_or w 2 0 ∷ get_or w 3 0 ∷ []
four_spelled w l = fill_by_all (λ k. get_or w k 0) w 4 0 l (λ k h. refl)

-- ---- a part written after those before it

-- xs holds what was written before a, and the old bytes from a on
pub grown : (a k : ℕ) (before part old xs : List ℕ) → xs ≡ before ++ drop a old → length before ≡ a → put_mid a k xs part ≡ (before ++ part) ++ drop (a + k) old
grown a k before part old xs e l =
    let t : take a xs ≡ before = ap (take a) e ∙ take_at before (drop a old) a l in
    let d : drop k (drop a xs) ≡ drop (a + k) old = ap (λ (z : List ℕ). drop k (drop a z)) e ∙ ap (drop k) (drop_at before (drop a old) a l) ∙ drop-drop k a old in
    ap (λ (z : List ℕ). z ++ (part ++ drop k (drop a xs))) t ∙ ap (λ (z : List ℕ). before ++ (part ++ z)) d ∙ sym (append_assoc before part (drop (a + k) old))

-- ---- the columns of a block, written one after the other

pub mixed_long : (fs w : List ℕ) → length (mixed_by fs w) ≡ 4
unfolding mixed_by
mixed_long fs w = refl

pub column_at : (s : List ℕ) (cs : List (List ℕ)) (i k : ℕ) → k ≡ 4 → i < length s / 4 → cs ≡ first_chunks 4 (length s / 4) s → get_or cs i [] ≡ take k (drop (4 * i) s)
column_at s cs i k e h f =
    ap (λ (c : List (List ℕ)). get_or c i []) f ∙ chunk_at 4 (length s / 4) s i h ∙ ap (λ (n : ℕ). take n (drop (4 * i) s)) (sym e)

-- one column more, and all four
column_one_more : (f : List ℕ → List ℕ) (s : List ℕ) (n : ℕ) → columnwise f (n + 1) s ≡ columnwise f n s ++ f (word n s)
unfolding columnwise
column_one_more f s n = ap (λ (m : ℕ). columnwise f m s) (add-one n)

columnwise_long : (f : List ℕ → List ℕ) → ((w : List ℕ) → length (f w) ≡ 4) → (s : List ℕ) (n : ℕ) → length (columnwise f n s) ≡ 4 * n
unfolding columnwise
columnwise_long f four s zero = refl
columnwise_long f four s (suc n) = length-append (columnwise f n s) (f (word n s)) ∙ omega (arith, columnwise_long f four s n, four (word n s))

pub column_more : (f : List ℕ → List ℕ) (i k : ℕ) (s old xs part : List ℕ) → ((w : List ℕ) → length (f w) ≡ 4) → k ≡ 4 → part ≡ f (take k (drop (4 * i) s))
    → xs ≡ columnwise f i s ++ drop (4 * i) old → put_mid (4 * i) k xs part ≡ columnwise f (i + 1) s ++ drop (4 * (i + 1)) old
column_more f i k s old xs part four e p inv =
    let q : part ≡ f (word i s) = p ∙ ap (λ (n : ℕ). f (take n (drop (4 * i) s))) e in
    let n : 4 * i + k ≡ 4 * (i + 1) = omega arith in
    grown (4 * i) k (columnwise f i s) part old xs inv (columnwise_long f four s i)
    ∙ ap (λ (z : List ℕ). (columnwise f i s ++ z) ++ drop (4 * i + k) old) q
    ∙ ap (λ (z : List ℕ). z ++ drop (4 * i + k) old) (sym (column_one_more f s i)) ∙ ap (λ (m : ℕ). columnwise f (i + 1) s ++ drop m old) n

pub column_all : (f : List ℕ → List ℕ) (i : ℕ) (s old xs : List ℕ) → i ≡ 4 → length old ≡ 16 → xs ≡ columnwise f i s ++ drop (4 * i) old → xs ≡ columnwise f 4 s
column_all f i s old xs e l inv =
    inv ∙ ap (λ (n : ℕ). columnwise f n s ++ drop (4 * n) old) e ∙ ap (λ (z : List ℕ). columnwise f 4 s ++ z) (drop_all 16 old (omega arith)) ∙ append-nil (columnwise f 4 s)

-- ---- the four columns of a block, joined

regrouped : (w x y z : List ℕ) → w ++ (x ++ (y ++ (z ++ []))) ≡ ((([] ++ w) ++ x) ++ y) ++ z
regrouped w x y z = simp (append_assoc, append-nil)

pub all_columns : (f : List ℕ → List ℕ) (s : List ℕ) (cs : List (List ℕ)) → length s ≡ 16 → cs ≡ first_chunks 4 (length s / 4) s
    → f (get_or cs 0 []) ++ (f (get_or cs 1 []) ++ (f (get_or cs 2 []) ++ (f (get_or cs 3 []) ++ []))) ≡ columnwise f 4 s
unfolding columnwise
all_columns f s cs l e =
    let one : (i : ℕ) → i < 4 → f (get_or cs i []) ≡ f (word i s) = λ i h. ap (λ (c : List (List ℕ)). f (get_or c i [])) e ∙ ap f (chunk_at 4 (length s / 4) s i (omega arith)) in
    (λ i. one 0 (omega arith) i ++ (one 1 (omega arith) i ++ (one 2 (omega arith) i ++ (one 3 (omega arith) i ++ []))))
    ∙ regrouped (f (word 0 s)) (f (word 1 s)) (f (word 2 s)) (f (word 3 s))

-- ---- a product by the bits of its factor

pub chosen : (s b m : ℕ) → b % 2 ≡ 1 → bit_xor s m ≡ bit_xor s (scaled (b % 2) m)
chosen s b m e = ap (λ (d : ℕ). bit_xor s (scaled d m)) (sym e)

pub not_chosen : (s b m : ℕ) → b % 2 ≢ 1 → s ≡ bit_xor s (scaled (b % 2) m)
not_chosen s b m n = let z : 0 ≡ b % 2 = omega arith in sym (xor_zero_r s) ∙ ap (λ (d : ℕ). bit_xor s (scaled d m)) z

-- the bits from i on choose of the multiples from m on
pub bits_more : (s b m i s' m' t : ℕ) → i < 8 → m < 256 → s' ≡ bit_xor s (scaled (b % 2) m) → m' ≡ product 2 m → bit_xor s (mul_bits 7 27 (8 - i) b m) ≡ t
    → bit_xor s' (mul_bits 7 27 (8 - (i + 1)) (b / 2) m') ≡ t
unfolding mul_bits
bits_more s b m i s' m' t h l e d inv =
    let n : 8 - i ≡ suc (8 - (i + 1)) = omega arith in
    ap (λ (x : ℕ). bit_xor x (mul_bits 7 27 (8 - (i + 1)) (b / 2) m')) e
    ∙ ap (λ (x : ℕ). bit_xor (bit_xor s (scaled (b % 2) m)) (mul_bits 7 27 (8 - (i + 1)) (b / 2) x)) (d ∙ doubled_byte m l)
    ∙ xor_assoc s (scaled (b % 2) m) (mul_bits 7 27 (8 - (i + 1)) (b / 2) (twice 7 27 m))
    ∙ sym (ap (λ (k : ℕ). bit_xor s (mul_bits 7 27 k b m)) n)
    ∙ inv

pub bits_all : (s b m i t : ℕ) → i ≡ 8 → bit_xor s (mul_bits 7 27 (8 - i) b m) ≡ t → s ≡ t
unfolding mul_bits
bits_all s b m i t e inv = sym (xor_zero_r s) ∙ sym (ap (λ (k : ℕ). bit_xor s (mul_bits 7 27 (8 - k) b m)) e) ∙ inv
