-- AES (FIPS 197), for keys of nk words.
use Rattle.std.specs.Prelude.{◌≡◌, ℕ, zero, suc, ◌-◌, ◌*◌, ◌<◌, List, length, take, drop, slice_index}
use Rattle.base.specs.Bytes.{AllBytes}
use Rattle.base.specs.Polynomials.{Ring}
use Rattle.ciphers.specs.AesField.{product, inverse, affine, inv_affine, substitution, inv_substitution}
use Rattle.ciphers.specs.AesTables.{substitution_table, inv_substitution_table}
use Rattle.ciphers.specs.AesSteps.{sub_bytes, shift_rows, mix_column, mix_columns, add_round_key, inv_sub_bytes, inv_shift_rows, inv_mix_column, inv_mix_columns}
use Rattle.ciphers.specs.AesSchedule.{key_expansion, rounds_of}

-- round key i: sixteen bytes of the expanded key
abbrev pub round_key : List ℕ → ℕ → List ℕ
round_key w i = take 16 (drop (16 * i) w)

-- a round with the round key k
unfoldable pub round : List ℕ → List ℕ → List ℕ
round s k = add_round_key (mix_columns (shift_rows (sub_bytes s))) k

-- its undoing
unfoldable pub inv_round : List ℕ → List ℕ → List ℕ
inv_round s k = inv_sub_bytes (inv_shift_rows (inv_mix_columns (add_round_key s k)))

-- the rounds 1 to n
unfoldable pub rounds : List ℕ → List ℕ → ℕ → List ℕ
rounds w s zero = s
rounds w s (suc n) = round (rounds w s n) (round_key w (suc n))

-- their undoing
unfoldable pub inv_rounds : List ℕ → List ℕ → ℕ → List ℕ
inv_rounds w s zero = s
inv_rounds w s (suc n) = inv_rounds w (inv_round s (round_key w (suc n))) n

-- a block through nr rounds, of which the last mixes no columns
unfoldable pub cipher : ℕ → List ℕ → List ℕ → List ℕ
cipher nr w block = add_round_key (shift_rows (sub_bytes (rounds w (add_round_key block (round_key w 0)) (nr - 1)))) (round_key w nr)

-- a block back through them
unfoldable pub inv_cipher : ℕ → List ℕ → List ℕ → List ℕ
inv_cipher nr w block = add_round_key (inv_rounds w (inv_sub_bytes (inv_shift_rows (add_round_key block (round_key w nr)))) (nr - 1)) (round_key w 0)

-- a block under a key of nk words, forward
unfoldable pub forward : ℕ → List ℕ → List ℕ → List ℕ
forward nk key block = cipher (rounds_of nk) (key_expansion nk key) block

-- and back
unfoldable pub back : ℕ → List ℕ → List ℕ → List ℕ
back nk key block = inv_cipher (rounds_of nk) (key_expansion nk key) block

-- the laws of the byte field, of the two substitution tables and of the mixing step
pub record AesLaws : Type 0 where
  pub field : Ring 8 0x11b
  pub times_inverse_is_one : (a : ℕ) → 0 < a → a < 256 → product a (inverse a) ≡ 1
  pub inverse_of_zero_is_zero : inverse 0 ≡ 0
  pub table_is_affine_of_inverse : (a : ℕ) → a < 256 → slice_index substitution_table a ≡ affine (inverse a)
  pub inv_table_is_inverse_of_inv_affine : (a : ℕ) → a < 256 → slice_index inv_substitution_table a ≡ inverse (inv_affine a)
  pub substitution_undone : (a : ℕ) → a < 256 → inv_substitution (substitution a) ≡ a
  pub substitution_redone : (a : ℕ) → a < 256 → substitution (inv_substitution a) ≡ a
  pub mixing_undone : (w : List ℕ) → length w ≡ 4 → AllBytes w → inv_mix_column (mix_column w) ≡ w
  pub mixing_redone : (w : List ℕ) → length w ≡ 4 → AllBytes w → mix_column (inv_mix_column w) ≡ w
