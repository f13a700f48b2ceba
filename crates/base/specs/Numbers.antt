-- Numbers from byte strings and back.
use Rattle.std.specs.Prelude.{ℕ, List}
use Rattle.std.specs.Simd.Lanes.{number_l, digits_l}

-- the number whose bytes these are, the lowest first
unfoldable pub number : List ℕ → ℕ
number bs = number_l 256 bs

-- the lowest n bytes of a number, the lowest first
unfoldable pub bytes : ℕ → ℕ → List ℕ
bytes n x = digits_l 256 n x
