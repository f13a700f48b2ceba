-- Byte strings: lists of numbers below 256.
use Rattle.std.specs.Prelude.{◌≡◌, ℕ, ◌<◌, Bool, true, ◌&&◌, List, [], ◌∷◌, length, replicate, ◌==◌, bit_xor, slice_index}

-- every element is a byte; past the end slice_index gives 0, so this is asked of each index
abbrev pub AllBytes : List ℕ → Type 0
AllBytes xs = (i : ℕ) → slice_index xs i < 256

-- a block: sixteen bytes
pub record Block (b : List ℕ) : Type 0 where
  pub long : length b ≡ 16
  pub fit : AllBytes b

-- n zero bytes
abbrev pub zeros : ℕ → List ℕ
zeros n = replicate n 0

-- whether every byte is zero
abbrev pub all_zero : List ℕ → Bool
all_zero [] = true
all_zero (x ∷ xs) = x == 0 && all_zero xs

-- ys added by xor onto the first bytes of xs; what is left of xs stays, what is left of ys is dropped
abbrev pub xor_front : List ℕ → List ℕ → List ℕ
xor_front [] ys = []
xor_front (x ∷ xs) [] = x ∷ xs
xor_front (x ∷ xs) (y ∷ ys) = bit_xor x y ∷ xor_front xs ys
