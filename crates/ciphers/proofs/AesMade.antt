-- What folds of the rounds give, and what a cipher that holds its expanded key gives, for every number of key words.
use Rattle.std.proofs.Common.{◌≡◌, ℕ, zero, suc, ◌+◌, ◌-◌, ◌*◌, ◌/◌, ◌<◌, ◌≤◌, List, [], ◌∷◌, reverse, length, get_or, take, drop, fold, sym, refl, ap, ◌∙◌, add-one, arith}
use Rattle.std.specs.Simd.{first_chunks}
use Rattle.std.proofs.lemmas.List.{take_more, get_or-drop, length-drop, reverse-append}
use Rattle.std.proofs.lemmas.List.Sums.{fold_more}
use Rattle.ciphers.specs.AesSteps.{sub_bytes, inv_sub_bytes, shift_rows, inv_shift_rows, add_round_key}
use Rattle.ciphers.specs.AesSchedule.{expanded, rounds_of, key_expansion}
use Rattle.ciphers.specs.Aes.{round_key, round, inv_round, rounds, inv_rounds, cipher, inv_cipher, forward, back}
use Rattle.ciphers.specs.AesScheduleLemmas.{expanded_long, begins_with_key}
use Rattle.base.proofs.Cutting.{chunk_at}

-- ---- rounds over the round keys, which are chunks of the expanded key

module _ (w : List ℕ) (ks : List (List ℕ)) (e : ks ≡ first_chunks 16 (length w / 16) w) (l : length ks ≡ length w / 16) where
  key_at : (i : ℕ) → i < length ks → get_or ks i [] ≡ round_key w i
  key_at i h = ap (λ (c : List (List ℕ)). get_or c i []) e ∙ chunk_at 16 (length w / 16) w i (omega arith)

  middle_at : (m : ℕ) → m + 1 < length ks → get_or (drop 1 ks) m [] ≡ round_key w (suc m)
  middle_at m h = let n : 1 + m ≡ suc m = omega arith in get_or-drop 1 ks m [] ∙ ap (λ (i : ℕ). get_or ks i []) n ∙ key_at (suc m) (omega arith)

  rounds_folded : (s : List ℕ) (m : ℕ) → m + 1 ≤ length ks → fold round s (take m (drop 1 ks)) ≡ rounds w s m
  unfolding rounds
  rounds_folded s zero h = refl
  rounds_folded s (suc m) h =
      ap (λ (n : ℕ). fold round s (take n (drop 1 ks))) (sym (add-one m))
      ∙ fold_more round s (drop 1 ks) m [] (simp length-drop (omega arith))
      ∙ (λ z. round (rounds_folded s m (omega arith) z) (middle_at m (omega arith) z))

  inv_rounds_folded : (s : List ℕ) (m : ℕ) → m + 1 ≤ length ks → fold inv_round s (reverse (take m (drop 1 ks))) ≡ inv_rounds w s m
  unfolding inv_rounds
  inv_rounds_folded s zero h = refl
  inv_rounds_folded s (suc m) h =
      ap (λ (n : ℕ). fold inv_round s (reverse (take n (drop 1 ks)))) (sym (add-one m))
      ∙ ap (λ (ys : List (List ℕ)). fold inv_round s (reverse ys)) (take_more (drop 1 ks) m [] (simp length-drop (omega arith)))
      ∙ ap (fold inv_round s) (reverse-append (take m (drop 1 ks)) (get_or (drop 1 ks) m [] ∷ []))
      ∙ inv_rounds_folded (inv_round s (get_or (drop 1 ks) m [])) m (omega arith)
      ∙ ap (λ (k : List ℕ). inv_rounds w (inv_round s k) m) (middle_at m (omega arith))

  -- all rounds, with the first key and the last
  pub cipher_folded : (b : List ℕ) → 32 ≤ length w
      → add_round_key (shift_rows (sub_bytes (fold round (add_round_key b (get_or ks 0 [])) (take (length ks - 1 - 1) (drop 1 ks))))) (get_or ks (length ks - 1) [])
      ≡ cipher (length w / 16 - 1) w b
  unfolding cipher
  cipher_folded b h =
      (λ z. add_round_key (shift_rows (sub_bytes (fold round (add_round_key b (key_at 0 (omega arith) z)) (take (length ks - 1 - 1) (drop 1 ks))))) (key_at (length ks - 1) (omega arith) z))
      ∙ ap (λ (x : List ℕ). add_round_key (shift_rows (sub_bytes x)) (round_key w (length ks - 1))) (rounds_folded (add_round_key b (round_key w 0)) (length ks - 1 - 1) (omega arith))
      ∙ ap (λ (n : ℕ). add_round_key (shift_rows (sub_bytes (rounds w (add_round_key b (round_key w 0)) (n - 1 - 1)))) (round_key w (n - 1))) l

  pub inv_cipher_folded : (b : List ℕ) → 32 ≤ length w
      → add_round_key (fold inv_round (inv_sub_bytes (inv_shift_rows (add_round_key b (get_or ks (length ks - 1) [])))) (reverse (take (length ks - 1 - 1) (drop 1 ks)))) (get_or ks 0 [])
      ≡ inv_cipher (length w / 16 - 1) w b
  unfolding inv_cipher
  inv_cipher_folded b h =
      (λ z. add_round_key (fold inv_round (inv_sub_bytes (inv_shift_rows (add_round_key b (key_at (length ks - 1) (omega arith) z)))) (reverse (take (length ks - 1 - 1) (drop 1 ks)))) (key_at 0 (omega arith) z))
      ∙ ap (λ (x : List ℕ). add_round_key x (round_key w 0)) (inv_rounds_folded (inv_sub_bytes (inv_shift_rows (add_round_key b (round_key w (length ks - 1))))) (length ks - 1 - 1) (omega arith))
      ∙ ap (λ (n : ℕ). add_round_key (inv_rounds w (inv_sub_bytes (inv_shift_rows (add_round_key b (round_key w (n - 1))))) (n - 1 - 1)) (round_key w 0)) l

-- ---- a cipher that holds its expanded key, for every number of key words

pub schedule_made : (nk m : ℕ) (key s : List ℕ) → length key ≡ 4 * nk → m ≡ 4 * (rounds_of nk + 1) → s ≡ expanded (length key / 4) key (m - length key / 4) → s ≡ key_expansion nk key
unfolding key_expansion
schedule_made nk m key s l e made =
    let n : length key / 4 ≡ nk = omega arith in
    made ∙ ap (λ (j : ℕ). expanded j key (m - j)) n ∙ ap (λ (j : ℕ). expanded nk key (j - nk)) e

pub schedule_key : (nk : ℕ) (key s : List ℕ) → length key ≡ 4 * nk → s ≡ key_expansion nk key → take (4 * nk) s ≡ key
unfolding key_expansion
schedule_key nk key s l made = ap (take (4 * nk)) made ∙ ap (λ (n : ℕ). take n (key_expansion nk key)) (sym l) ∙ begins_with_key nk key (4 * (rounds_of nk + 1) - nk)

pub schedule_long : (nk : ℕ) (key s : List ℕ) → 0 < nk → length key ≡ 4 * nk → s ≡ key_expansion nk key → length s ≡ 16 * (rounds_of nk + 1)
unfolding key_expansion
schedule_long nk key s p l made = ap length made ∙ expanded_long nk key p l (4 * (rounds_of nk + 1) - nk) ∙ omega arith

pub forward_held : (nk : ℕ) (w b : List ℕ) → length w ≡ 16 * (rounds_of nk + 1) → w ≡ key_expansion nk (take (4 * nk) w) → cipher (length w / 16 - 1) w b ≡ forward nk (take (4 * nk) w) b
unfolding forward
forward_held nk w b l made =
    let n : length w / 16 - 1 ≡ rounds_of nk = omega arith in
    ap (λ (j : ℕ). cipher j w b) n ∙ ap (λ (v : List ℕ). cipher (rounds_of nk) v b) made

pub back_held : (nk : ℕ) (w b : List ℕ) → length w ≡ 16 * (rounds_of nk + 1) → w ≡ key_expansion nk (take (4 * nk) w) → inv_cipher (length w / 16 - 1) w b ≡ back nk (take (4 * nk) w) b
unfolding back
back_held nk w b l made =
    let n : length w / 16 - 1 ≡ rounds_of nk = omega arith in
    ap (λ (j : ℕ). inv_cipher j w b) n ∙ ap (λ (v : List ℕ). inv_cipher (rounds_of nk) v b) made
