-- The bytes of AES (FIPS 197): polynomials of degree below 8 modulo x^8 + x^4 + x^3 + x + 1, whose
-- number is 0x11b, and the substitution of a byte.
use Rattle.std.specs.Prelude.{ℕ, ◌+◌, ◌-◌, ◌*◌, ◌/◌, ◌%◌, ◌^◌, bit_xor}
use Rattle.base.specs.Polynomials.{times, power}

-- the product of two bytes
abbrev pub product : ℕ → ℕ → ℕ
product a b = times 8 0x11b a b

-- the inverse of a byte, and 0 for 0: the power 254
unfoldable pub inverse : ℕ → ℕ
inverse a = power 8 0x11b a 254

-- the bits of a byte turned left by k places, so that bit i comes from bit i - k modulo 8
unfoldable pub turned : ℕ → ℕ → ℕ
turned k a = (a * 2 ^ k) % 2 ^ 8 + a / 2 ^ (8 - k)

-- the affine step: bit i is the sum of the bits i, i + 4, i + 5, i + 6 and i + 7 modulo 8, and of bit i of 0x63
unfoldable pub affine : ℕ → ℕ
affine a = bit_xor (bit_xor (bit_xor (bit_xor (bit_xor a (turned 4 a)) (turned 3 a)) (turned 2 a)) (turned 1 a)) 0x63

-- its undoing: bit i is the sum of the bits i + 2, i + 5 and i + 7 modulo 8, and of bit i of 0x05
unfoldable pub inv_affine : ℕ → ℕ
inv_affine a = bit_xor (bit_xor (bit_xor (turned 6 a) (turned 3 a)) (turned 1 a)) 0x05

-- the substitution of a byte
unfoldable pub substitution : ℕ → ℕ
substitution a = affine (inverse a)

-- its undoing
unfoldable pub inv_substitution : ℕ → ℕ
inv_substitution a = inverse (inv_affine a)
