-- The laws of base at 128 bits, and products by doubling.
use Rattle.std.proofs.Common.{◌≡◌, ℕ, ◌^◌, ◌<◌, arith}
use Rattle.base.specs.Polynomials.{carryless, times}
use Rattle.base.proofs.Doubling.{twice, mul}
use Rattle.base.proofs.Rings as rings
use Rattle.field.specs.Field.{modulus, field_product, times_z, FieldLaws}

small : 135 < 2 ^ 128
small = omega arith

pub times_z_twice : (a : ℕ) → a < 2 ^ 128 → times_z a ≡ twice 127 135 a
times_z_twice a h = rings.times_two 126 135 small a h

pub times_z_lt : (a : ℕ) → a < 2 ^ 128 → times_z a < 2 ^ 128
times_z_lt a h = rings.times_lt 127 135 small 2 a h

pub product_mul : (a b : ℕ) → b < 2 ^ 128 → field_product a b ≡ mul 127 135 a b
product_mul a b h = rings.times_mul 127 135 small a b h

pub laws : FieldLaws
unfolding times
laws = record { ring = rings.ring 127 135 small; product_is_remainder = λ a b. rings.quotient 128 modulus 128 (carryless 128 a b) }
