-- Keys of block ciphers.
use Rattle.std.specs.Prelude.{◌≡◌, ℕ, not, ◌⊎◌, List, [], ◌∷◌, length, Ok, Err, Result, ◌==◌, ◌≢◌}
use Rattle.base.specs.declared.refusals.Refusal.{Refusal}
use Rattle.base.specs.declared.refusals.Refusal.TheVariants.{WrongKeyLength}
use Rattle.base.specs.Bytes.{AllBytes}
use Rattle.base.specs.Refusals.{Check}

-- the lengths that a cipher may state for its keys
abbrev pub KeyLength : ℕ → Type 0
KeyLength n = (n ≡ 16) ⊎ ((n ≡ 24) ⊎ (n ≡ 32))

-- a key of n bytes
pub record Key (n : ℕ) (k : List ℕ) : Type 0 where
  pub long : length k ≡ n
  pub fit : AllBytes k

-- the check of a key by its length, for keys of n bytes
abbrev pub key_checks : ℕ → ℕ → List Check
key_checks n key = (not (key == n), WrongKeyLength) ∷ []

-- what making a cipher answers: a cipher of this key if the key has n bytes, and else a refusal
abbrev pub Keyed : {C : Type 0} → ℕ → (C → List ℕ) → List ℕ → Result C Refusal → Type 0
Keyed n key_of key (Ok cipher) = (length key ≡ n) × (key_of cipher ≡ key)
Keyed n key_of key (Err why) = (length key ≢ n) × (why ≡ WrongKeyLength)
