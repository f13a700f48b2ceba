-- Numbers in decimal digits.
use Rattle.std.specs.Prelude.{◌≡◌, ℕ, ◌+◌, ◌-◌, ◌*◌, ◌<◌, ◌≤◌, List, [], ◌∷◌, length, slice_index}

-- every character is a digit
abbrev pub AllDigits : List ℕ → Type 0
AllDigits word = (i : ℕ) → i < length word → (48 ≤ slice_index word i) × (slice_index word i ≤ 57)

-- the number that digits spell after those of n
abbrev pub spelled_after : ℕ → List ℕ → ℕ
spelled_after n [] = n
spelled_after n (c ∷ more) = spelled_after (n * 10 + (c - 48)) more

-- a word spells a number: it has digits and nothing else
pub record Spells (word : List ℕ) (n : ℕ) : Type 0 where
  pub some : 0 < length word
  pub digits : AllDigits word
  pub value : spelled_after 0 word ≡ n
