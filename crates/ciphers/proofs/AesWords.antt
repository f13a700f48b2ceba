-- What the loops and the writes of the key expansion leave.
use Rattle.std.proofs.Common.{◌≡◌, ℕ, zero, suc, ◌+◌, ◌-◌, ◌*◌, ◌/◌, ◌<◌, ◌≤◌, true, false, List, [], ◌∷◌, ◌++◌, length, get_or, take, drop, set, fold, sym, refl, ap, ◌∙◌, arith}
use lib.Bits.{bit_xor}
use borrow.Rule.Slice.PartMut.{put_mid}
use Rattle.std.specs.Simd.{first_chunks}
use Rattle.std.specs.List.{range_with_len}
use Rattle.std.proofs.lemmas.Bool.{cond-true, cond-false}
use Rattle.std.proofs.lemmas.List.{take_at, drop_at, drop_all, append-nil}
use Rattle.base.specs.Bytes.{xor_front}
use Rattle.base.specs.Polynomials.{power}
use Rattle.base.proofs.Strings.{front_none}
use Rattle.ciphers.specs.AesField.{product}
use Rattle.ciphers.specs.AesSteps.{word}
use Rattle.ciphers.specs.AesSchedule.{rot_word, sub_word, round_constant, turned_at, substituted_at, temp, next_word, expanded}
use Rattle.ciphers.specs.AesScheduleLemmas.{expanded_long}
use Rattle.base.proofs.Cutting.{chunk_at}
use Rattle.ciphers.proofs.AesLoops.{grown}

pub words_none : (nk : ℕ) (key rest xs : List ℕ) → length key ≡ 4 * nk → xs ≡ key ++ rest → xs ≡ expanded nk key (nk - nk) ++ drop (4 * nk) xs
unfolding expanded
words_none nk key rest xs l e =
    let z : nk - nk ≡ 0 = omega arith in
    let d : drop (4 * nk) xs ≡ rest = ap (drop (4 * nk)) e ∙ drop_at key rest (4 * nk) l in
    e ∙ ap (λ (t : List ℕ). key ++ t) (sym d) ∙ ap (λ (n : ℕ). expanded nk key n ++ drop (4 * nk) xs) (sym z)

expanded_more : (nk : ℕ) (key : List ℕ) (i m : ℕ) → i ≡ nk + m → expanded nk key (i + 1 - nk) ≡ expanded nk key m ++ next_word nk i (expanded nk key m)
unfolding expanded
expanded_more nk key i m e = let n : i + 1 - nk ≡ suc m = omega arith in ap (expanded nk key) n ∙ ap (λ (j : ℕ). expanded nk key m ++ next_word nk j (expanded nk key m)) (sym e)

module _ (nk : ℕ) (key : List ℕ) (p : 0 < nk) (l : length key ≡ 4 * nk) where
  -- the words before word i
  words_before : (i : ℕ) (old xs : List ℕ) → nk ≤ i → xs ≡ expanded nk key (i - nk) ++ drop (4 * i) old → take (4 * i) xs ≡ expanded nk key (i - nk)
  words_before i old xs h inv =
      let n : 4 * (nk + (i - nk)) ≡ 4 * i = omega arith in
      ap (take (4 * i)) inv ∙ take_at (expanded nk key (i - nk)) (drop (4 * i) old) (4 * i) (expanded_long nk key p l (i - nk) ∙ n)

  pub word_next : (i : ℕ) (old xs t : List ℕ) → nk ≤ i → t ≡ take (4 * i) xs → xs ≡ expanded nk key (i - nk) ++ drop (4 * i) old
      → next_word nk (length t / 4) t ≡ next_word nk i (expanded nk key (i - nk))
  word_next i old xs t h e inv =
      let b : t ≡ expanded nk key (i - nk) = e ∙ words_before i old xs h inv in
      let a : length t ≡ 4 * (nk + (i - nk)) = ap length b ∙ expanded_long nk key p l (i - nk) in
      let n : length t / 4 ≡ i = omega (arith, a) in
      ap (λ (z : List ℕ). next_word nk (length t / 4) z) b ∙ ap (λ (m : ℕ). next_word nk m (expanded nk key (i - nk))) n

  pub words_more : (i k : ℕ) (old xs part : List ℕ) → nk ≤ i → k ≡ 4 → part ≡ next_word nk i (expanded nk key (i - nk))
      → xs ≡ expanded nk key (i - nk) ++ drop (4 * i) old → put_mid (4 * i) k xs part ≡ expanded nk key (i + 1 - nk) ++ drop (4 * (i + 1)) old
  words_more i k old xs part h e q inv =
      let a : 4 * (nk + (i - nk)) ≡ 4 * i = omega arith in
      let b : i ≡ nk + (i - nk) = omega arith in
      let n : 4 * i + k ≡ 4 * (i + 1) = omega arith in
      grown (4 * i) k (expanded nk key (i - nk)) part old xs inv (expanded_long nk key p l (i - nk) ∙ a)
      ∙ ap (λ (z : List ℕ). (expanded nk key (i - nk) ++ z) ++ drop (4 * i + k) old) q
      ∙ ap (λ (z : List ℕ). z ++ drop (4 * i + k) old) (sym (expanded_more nk key i (i - nk) b))
      ∙ ap (λ (m : ℕ). expanded nk key (i + 1 - nk) ++ drop m old) n

  pub words_all : (i : ℕ) (old xs : List ℕ) → length old ≤ 4 * i → xs ≡ expanded nk key (i - nk) ++ drop (4 * i) old → xs ≡ expanded nk key (i - nk)
  words_all i old xs h inv = inv ∙ ap (λ (z : List ℕ). expanded nk key (i - nk) ++ z) (drop_all (4 * i) old h) ∙ append-nil (expanded nk key (i - nk))

-- the next word by the chunks of the words before it
pub word_chunked : (nk : ℕ) (ws : List ℕ) (cs : List (List ℕ)) → 0 < nk → nk ≤ length ws / 4 → cs ≡ first_chunks 4 (length ws / 4) ws → length cs ≡ length ws / 4
    → xor_front (get_or cs (length cs - nk) []) (temp nk (length cs) (get_or cs (length cs - 1) [])) ≡ next_word nk (length ws / 4) ws
unfolding next_word
word_chunked nk ws cs p h e l =
    let one : (i : ℕ) → i < length ws / 4 → get_or cs i [] ≡ word i ws = λ i b. ap (λ (c : List (List ℕ)). get_or c i []) e ∙ chunk_at 4 (length ws / 4) ws i b in
    ap (λ (n : ℕ). xor_front (get_or cs (n - nk) []) (temp nk n (get_or cs (n - 1) []))) l
    ∙ (λ z. xor_front (one (length ws / 4 - nk) (omega arith) z) (temp nk (length ws / 4) (one (length ws / 4 - 1) (omega arith) z)))

-- one doubling after the other
doubled_later : (z : ℕ) (xs : List ℕ) → fold (λ p x. product 2 p) (product 2 z) xs ≡ product 2 (fold (λ p x. product 2 p) z xs)
doubled_later z [] = refl
doubled_later z (x ∷ xs) = doubled_later (product 2 z) xs

doubled_powers : (a n : ℕ) → fold (λ p x. product 2 p) 1 (range_with_len a n) ≡ power 8 0x11b 2 n
unfolding power
doubled_powers a zero = refl
doubled_powers a (suc n) = doubled_later 1 (range_with_len (a + 1) n) ∙ ap (product 2) (doubled_powers (a + 1) n)

pub constant_doubled : (j : ℕ) → fold (λ p x. product 2 p) 1 (range_with_len 1 (j - 1)) ≡ round_constant j
unfolding round_constant
constant_doubled j = doubled_powers 1 (j - 1)

-- a byte added onto the first of a word
first_added : (w : List ℕ) (x : ℕ) → set w 0 (bit_xor (get_or w 0 0) x) ≡ xor_front w (x ∷ [])
first_added [] x = refl
first_added (y ∷ w) x = ap (λ (z : List ℕ). bit_xor y x ∷ z) (sym (front_none w))

-- what is added to word i - nk, in its three cases
module _ (nk i : ℕ) (w : List ℕ) where
  pub temp_turned : turned_at nk i ≡ true → set (sub_word (rot_word w)) 0 (bit_xor (get_or (sub_word (rot_word w)) 0 0) (round_constant (i / nk))) ≡ temp nk i w
  unfolding temp
  temp_turned e = first_added (sub_word (rot_word w)) (round_constant (i / nk)) ∙ sym (cond-true (turned_at nk i) _ _ e)

  pub temp_substituted : turned_at nk i ≡ false → substituted_at nk i ≡ true → sub_word w ≡ temp nk i w
  unfolding temp
  temp_substituted e f = sym (cond-false (turned_at nk i) _ _ e ∙ cond-true (substituted_at nk i) _ _ f)

  pub temp_plain : turned_at nk i ≡ false → substituted_at nk i ≡ false → w ≡ temp nk i w
  unfolding temp
  temp_plain e f = sym (cond-false (turned_at nk i) _ _ e ∙ cond-false (substituted_at nk i) _ _ f)
