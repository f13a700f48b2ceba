-- The kind of sealing that boards have: the mode over a block cipher.
use Rattle.std.specs.Prelude.{◌≡◌, ℕ, List, [], ◌∷◌, length, Ok, nat_lt}
use Rattle.base.specs.declared.refusals.Refusal.TheVariants.{WrongKeyLength, ContextTooLong}
use Rattle.base.specs.Bytes.{Block}
use Rattle.base.specs.Refusals.{decided}
use Rattle.ciphers.specs.declared.cipher.BlockCipher.{Ghosts as Cipher}
use Rattle.mode.specs.Bundles.{prf_key, blk_key, sealed_under, opened_under}
use Rattle.mode.specs.Calls.{wrong_bundle}
use Rattle.devices.specs.Answers.{Answer}
use Rattle.boards.specs.Contexts.{label_limit, context_of}
use Rattle.boards.specs.Kinds.{Kind}

-- what opening a board answers: first the bundle is checked, which is 16 bytes and two keys, then the label
abbrev pub opening_answer : ℕ → List ℕ → List ℕ → Answer
opening_answer key_length bundle label =
    decided ((wrong_bundle key_length (length bundle), WrongKeyLength) ∷ (nat_lt label_limit (length label), ContextTooLong) ∷ []) (Ok 0)

-- the sealed form of a row: the mode's, with the slot's nonce and associated data
unfoldable pub sealed_row : {C : Type 0} → Cipher C → List ℕ → List ℕ → ℕ → List ℕ → List ℕ
sealed_row c bundle label n r = sealed_under c.forward c.key_length bundle (context_of n label).nonce (context_of n label).associated r

-- the opened form of what a slot holds, likewise
unfoldable pub opened_row : {C : Type 0} → Cipher C → List ℕ → List ℕ → ℕ → List ℕ → List ℕ
opened_row c bundle label n q = opened_under c.forward c.back c.key_length bundle (context_of n label).nonce (context_of n label).associated q

-- rows of 16 to 1,000 bytes, sealed at their own length, so that a board has its device's shape
abbrev pub mode_kind : {C : Type 0} → Cipher C → Kind
mode_kind c = record {
  admits = opening_answer c.key_length;
  seal = sealed_row c;
  unseal = opened_row c;
  least = 16;
  longest = 1000;
  extra = 0;
  shape_over = λ s. s;
}

-- two ciphers turn blocks alike under a bundle: one key length, and each block goes forward to the same block
-- under the prf key and under the blk key
pub record TurnAlike {C E : Type 0} (c : Cipher C) (e : Cipher E) (bundle : List ℕ) : Type 0 where
  pub one_key_length : c.key_length ≡ e.key_length
  pub same_by_prf_key : (b : List ℕ) → Block b → c.forward (prf_key c.key_length bundle) b ≡ e.forward (prf_key c.key_length bundle) b
  pub same_by_blk_key : (b : List ℕ) → Block b → c.forward (blk_key c.key_length bundle) b ≡ e.forward (blk_key c.key_length bundle) b
