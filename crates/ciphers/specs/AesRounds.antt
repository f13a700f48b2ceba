-- The rounds and their undoing, for every number of rounds and every expanded key.
use Rattle.std.specs.Prelude.{◌≡◌, ℕ, zero, suc, ◌-◌, ◌*◌, List, drop}
use Rattle.std.proofs.Math.Path.{refl, ap}
use Rattle.std.proofs.Common.{◌∙◌}
use Rattle.base.specs.Bytes.{AllBytes, Block}
use Rattle.base.proofs.Strings.{take_bytes, drop_bytes, front_twice}
use Rattle.ciphers.specs.AesSteps.{sub_bytes, shift_rows, mix_columns, add_round_key, inv_sub_bytes, inv_shift_rows, inv_mix_columns}
use Rattle.ciphers.specs.AesSchedule.{key_expansion, rounds_of}
use Rattle.ciphers.specs.Aes.{round_key, round, inv_round, rounds, inv_rounds, cipher, inv_cipher, forward, back}
use Rattle.ciphers.specs.AesStepsLemmas.{sub_block, inv_sub_block, sub_undone, sub_redone, shift_block, inv_shift_block, shift_undone, shift_redone, mix_block, inv_mix_block, mix_undone, mix_redone, add_block}
use Rattle.ciphers.specs.AesScheduleLemmas.{expansion_fit}

-- ---- one round

round_block : (s k : List ℕ) → Block s → AllBytes k → Block (round s k)
unfolding round
round_block s k b h = add_block (mix_columns (shift_rows (sub_bytes s))) k (mix_block (shift_rows (sub_bytes s)) (shift_block (sub_bytes s) (sub_block s b))) h

inv_round_block : (s k : List ℕ) → Block s → AllBytes k → Block (inv_round s k)
unfolding inv_round
inv_round_block s k b h =
    inv_sub_block (inv_shift_rows (inv_mix_columns (add_round_key s k))) (inv_shift_block (inv_mix_columns (add_round_key s k)) (inv_mix_block (add_round_key s k) (add_block s k b h)))

round_undone : (s k : List ℕ) → Block s → inv_round (round s k) k ≡ s
unfolding round inv_round
round_undone s k b =
    let sb : Block (sub_bytes s) = sub_block s b in
    ap (λ (x : List ℕ). inv_sub_bytes (inv_shift_rows (inv_mix_columns x))) (front_twice (mix_columns (shift_rows (sub_bytes s))) k)
    ∙ ap (λ (x : List ℕ). inv_sub_bytes (inv_shift_rows x)) (mix_undone (shift_rows (sub_bytes s)) (shift_block (sub_bytes s) sb))
    ∙ ap inv_sub_bytes (shift_undone (sub_bytes s) sb)
    ∙ sub_undone s b

round_redone : (s k : List ℕ) → Block s → AllBytes k → round (inv_round s k) k ≡ s
unfolding round inv_round
round_redone s k b h =
    let ab : Block (add_round_key s k) = add_block s k b h in
    let mb : Block (inv_mix_columns (add_round_key s k)) = inv_mix_block (add_round_key s k) ab in
    ap (λ (x : List ℕ). add_round_key (mix_columns (shift_rows x)) k) (sub_redone (inv_shift_rows (inv_mix_columns (add_round_key s k))) (inv_shift_block (inv_mix_columns (add_round_key s k)) mb))
    ∙ ap (λ (x : List ℕ). add_round_key (mix_columns x) k) (shift_redone (inv_mix_columns (add_round_key s k)) mb)
    ∙ ap (λ (x : List ℕ). add_round_key x k) (mix_redone (add_round_key s k) ab)
    ∙ front_twice s k

-- ---- all rounds

module _ (w : List ℕ) (fit : AllBytes w) where
  key_fit : (i : ℕ) → AllBytes (round_key w i)
  key_fit i = take_bytes 16 (drop (16 * i) w) (drop_bytes (16 * i) w fit)

  rounds_block : (s : List ℕ) (n : ℕ) → Block s → Block (rounds w s n)
  unfolding rounds
  rounds_block s zero b = b
  rounds_block s (suc n) b = round_block (rounds w s n) (round_key w (suc n)) (rounds_block s n b) (key_fit (suc n))

  inv_rounds_block : (s : List ℕ) (n : ℕ) → Block s → Block (inv_rounds w s n)
  unfolding inv_rounds
  inv_rounds_block s zero b = b
  inv_rounds_block s (suc n) b = inv_rounds_block (inv_round s (round_key w (suc n))) n (inv_round_block s (round_key w (suc n)) b (key_fit (suc n)))

  rounds_undone : (s : List ℕ) (n : ℕ) → Block s → inv_rounds w (rounds w s n) n ≡ s
  unfolding rounds inv_rounds
  rounds_undone s zero b = refl
  rounds_undone s (suc n) b = ap (λ (x : List ℕ). inv_rounds w x n) (round_undone (rounds w s n) (round_key w (suc n)) (rounds_block s n b)) ∙ rounds_undone s n b

  rounds_redone : (s : List ℕ) (n : ℕ) → Block s → rounds w (inv_rounds w s n) n ≡ s
  unfolding rounds inv_rounds
  rounds_redone s zero b = refl
  rounds_redone s (suc n) b =
      ap (λ (x : List ℕ). round x (round_key w (suc n))) (rounds_redone (inv_round s (round_key w (suc n))) n (inv_round_block s (round_key w (suc n)) b (key_fit (suc n))))
      ∙ round_redone s (round_key w (suc n)) b (key_fit (suc n))

  cipher_undone : (nr : ℕ) (b : List ℕ) → Block b → inv_cipher nr w (cipher nr w b) ≡ b
  unfolding cipher inv_cipher
  cipher_undone nr b bl =
      let start : List ℕ = add_round_key b (round_key w 0) in
      let a : Block (add_round_key b (round_key w 0)) = add_block b (round_key w 0) bl (key_fit 0) in
      let u : Block (rounds w (add_round_key b (round_key w 0)) (nr - 1)) = rounds_block (add_round_key b (round_key w 0)) (nr - 1) a in
      let last : List ℕ → List ℕ = λ x. add_round_key (inv_rounds w x (nr - 1)) (round_key w 0) in
      ap (λ (x : List ℕ). last (inv_sub_bytes (inv_shift_rows x))) (front_twice (shift_rows (sub_bytes (rounds w start (nr - 1)))) (round_key w nr))
      ∙ ap (λ (x : List ℕ). last (inv_sub_bytes x)) (shift_undone (sub_bytes (rounds w start (nr - 1))) (sub_block (rounds w start (nr - 1)) u))
      ∙ ap last (sub_undone (rounds w start (nr - 1)) u)
      ∙ ap (λ (x : List ℕ). add_round_key x (round_key w 0)) (rounds_undone start (nr - 1) a)
      ∙ front_twice b (round_key w 0)

  cipher_redone : (nr : ℕ) (b : List ℕ) → Block b → cipher nr w (inv_cipher nr w b) ≡ b
  unfolding cipher inv_cipher
  cipher_redone nr b bl =
      let start : List ℕ = inv_shift_rows (add_round_key b (round_key w nr)) in
      let a : Block (add_round_key b (round_key w nr)) = add_block b (round_key w nr) bl (key_fit nr) in
      let h : Block (inv_shift_rows (add_round_key b (round_key w nr))) = inv_shift_block (add_round_key b (round_key w nr)) a in
      let last : List ℕ → List ℕ = λ x. add_round_key (shift_rows (sub_bytes x)) (round_key w nr) in
      ap (λ (x : List ℕ). last (rounds w x (nr - 1))) (front_twice (inv_rounds w (inv_sub_bytes start) (nr - 1)) (round_key w 0))
      ∙ ap last (rounds_redone (inv_sub_bytes start) (nr - 1) (inv_sub_block start h))
      ∙ ap (λ (x : List ℕ). add_round_key (shift_rows x) (round_key w nr)) (sub_redone start h)
      ∙ ap (λ (x : List ℕ). add_round_key x (round_key w nr)) (shift_redone (add_round_key b (round_key w nr)) a)
      ∙ front_twice b (round_key w nr)

  cipher_block : (nr : ℕ) (b : List ℕ) → Block b → Block (cipher nr w b)
  unfolding cipher
  cipher_block nr b bl =
      add_block (shift_rows (sub_bytes (rounds w (add_round_key b (round_key w 0)) (nr - 1)))) (round_key w nr)
      (shift_block (sub_bytes (rounds w (add_round_key b (round_key w 0)) (nr - 1)))
      (sub_block (rounds w (add_round_key b (round_key w 0)) (nr - 1)) (rounds_block (add_round_key b (round_key w 0)) (nr - 1) (add_block b (round_key w 0) bl (key_fit 0)))))
      (key_fit nr)

  inv_cipher_block : (nr : ℕ) (b : List ℕ) → Block b → Block (inv_cipher nr w b)
  unfolding inv_cipher
  inv_cipher_block nr b bl =
      add_block (inv_rounds w (inv_sub_bytes (inv_shift_rows (add_round_key b (round_key w nr)))) (nr - 1)) (round_key w 0)
      (inv_rounds_block (inv_sub_bytes (inv_shift_rows (add_round_key b (round_key w nr)))) (nr - 1)
      (inv_sub_block (inv_shift_rows (add_round_key b (round_key w nr))) (inv_shift_block (add_round_key b (round_key w nr)) (add_block b (round_key w nr) bl (key_fit nr)))))
      (key_fit 0)

-- ---- the cipher, for every number of key words and every key

module _ (nk : ℕ) (key : List ℕ) (fit : AllBytes key) where
  pub forward_undone : (b : List ℕ) → Block b → back nk key (forward nk key b) ≡ b
  unfolding forward back
  forward_undone b bl = cipher_undone (key_expansion nk key) (expansion_fit nk key fit) (rounds_of nk) b bl

  pub back_undone : (b : List ℕ) → Block b → forward nk key (back nk key b) ≡ b
  unfolding forward back
  back_undone b bl = cipher_redone (key_expansion nk key) (expansion_fit nk key fit) (rounds_of nk) b bl

  pub forward_block : (b : List ℕ) → Block b → Block (forward nk key b)
  unfolding forward
  forward_block b bl = cipher_block (key_expansion nk key) (expansion_fit nk key fit) (rounds_of nk) b bl

  pub back_block : (b : List ℕ) → Block b → Block (back nk key b)
  unfolding back
  back_block b bl = inv_cipher_block (key_expansion nk key) (expansion_fit nk key fit) (rounds_of nk) b bl
