-- Polynomials with coefficients 0 and 1, written as numbers: bit i is the coefficient of z^i. A sum is xor.
use Rattle.std.specs.Prelude.{◌≡◌, ℕ, zero, suc, ◌+◌, ◌*◌, ◌/◌, ◌%◌, ◌^◌, ◌<◌, bit_xor}

-- the coefficient of z^i
abbrev pub coefficient : ℕ → ℕ → ℕ
coefficient i a = a / 2 ^ i % 2

-- a coefficient times a polynomial: nothing at 0, the polynomial itself at 1
abbrev pub scaled : ℕ → ℕ → ℕ
scaled zero x = zero
scaled (suc c) x = x

-- the product of the first n terms of a with b: the sum of a_i z^i b for i below n, with no carries
unfoldable pub carryless : ℕ → ℕ → ℕ → ℕ
carryless zero a b = zero
carryless (suc n) a b = bit_xor (carryless n a b) (scaled (coefficient n a) (b * 2 ^ n))

-- the remainder of c, of degree below w + n, modulo p, of degree w, by long division:
-- the terms of degree w + n - 1 down to w are cancelled in turn, each by a multiple of p
unfoldable pub remainder : ℕ → ℕ → ℕ → ℕ → ℕ
remainder w p zero c = c
remainder w p (suc n) c = remainder w p n (bit_xor c (scaled (coefficient (w + n) c) (p * 2 ^ n)))

-- the product of a and b, of degree below w, modulo p, of degree w
unfoldable pub times : ℕ → ℕ → ℕ → ℕ → ℕ
times w p a b = remainder w p w (carryless w a b)

-- a to the power k
unfoldable pub power : ℕ → ℕ → ℕ → ℕ → ℕ
power w p a zero = 1
power w p a (suc k) = times w p a (power w p a k)

-- the laws of sums and products of polynomials of degree below w, modulo p
pub record Ring (w p : ℕ) : Type 0 where
  pub closed : (a b : ℕ) → b < 2 ^ w → times w p a b < 2 ^ w
  pub one : (a : ℕ) → a < 2 ^ w → times w p 1 a ≡ a
  pub commutes : (a b : ℕ) → a < 2 ^ w → b < 2 ^ w → times w p a b ≡ times w p b a
  pub associates : (a b c : ℕ) → a < 2 ^ w → b < 2 ^ w → c < 2 ^ w → times w p (times w p a b) c ≡ times w p a (times w p b c)
  pub distributes : (a b c : ℕ) → b < 2 ^ w → c < 2 ^ w → times w p a (bit_xor b c) ≡ bit_xor (times w p a b) (times w p a c)
  pub powers_add : (a m n : ℕ) → a < 2 ^ w → times w p (power w p a m) (power w p a n) ≡ power w p a (m + n)
