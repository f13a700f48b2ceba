-- Words of 64 bits.
use Rattle.std.specs.Prelude.{ℕ, ◌+◌, ◌-◌, ◌*◌, ◌/◌, ◌%◌, ◌^◌}

-- a number of j + k bits with its low j bits put above the others: rotated right by j places, and so left by k
unfoldable pub rotated : ℕ → ℕ → ℕ → ℕ
rotated j k a = (a % 2 ^ j) * 2 ^ k + a / 2 ^ j

-- a word rotated right by j places
abbrev pub rotated_right : ℕ → ℕ → ℕ
rotated_right j a = rotated j (64 - j) a

-- a word rotated left by k places
abbrev pub rotated_left : ℕ → ℕ → ℕ
rotated_left k a = rotated (64 - k) k a

-- the sum of two words, modulo 2^64
unfoldable pub plus : ℕ → ℕ → ℕ
plus a b = (a + b) % 2 ^ 64

-- their difference, modulo 2^64
unfoldable pub minus : ℕ → ℕ → ℕ
minus a b = (a + (2 ^ 64 - b)) % 2 ^ 64
