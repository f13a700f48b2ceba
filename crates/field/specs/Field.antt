-- The field of 2^128 elements: polynomials of degree below 128 as numbers, bit i the coefficient of z^i. A sum is xor.
use Rattle.std.specs.Prelude.{◌≡◌, ℕ, ◌+◌, ◌^◌, bit_xor}
use Rattle.base.specs.Polynomials.{carryless, times, power, Ring}

-- z^128 + z^7 + z^2 + z + 1
abbrev pub modulus : ℕ
modulus = 2 ^ 128 + 135

-- the product of two elements
abbrev pub field_product : ℕ → ℕ → ℕ
field_product a b = times 128 modulus a b

-- an element to the power k
abbrev pub field_power : ℕ → ℕ → ℕ
field_power a k = power 128 modulus a k

-- the product with z, which is the number 2
abbrev pub times_z : ℕ → ℕ
times_z a = field_product 2 a

-- what holds of sums and products of elements
pub record FieldLaws : Type 0 where
  pub ring : Ring 128 modulus
  -- a product is the carry-less product less a multiple of the modulus
  pub product_is_remainder : (a b : ℕ) → (s : ℕ) × (carryless 128 a b ≡ bit_xor (carryless 128 s modulus) (field_product a b))
