-- Products in the byte field: by doubling, and inverses by squaring.
use Rattle.std.specs.Prelude.{◌≡◌, ℕ, zero, suc, ◌+◌, ◌*◌, ◌/◌, ◌%◌, ◌^◌, ◌<◌, bit_xor, refl}
use Rattle.std.proofs.Common.{sym, ◌∙◌, mod-eq_of_lt, arith}
use Rattle.std.proofs.Math.Path.{ap}
use Rattle.base.specs.Polynomials.{scaled, carryless, remainder, times, power, Ring}
use Rattle.base.proofs.Doubling.{twice, mul, mul_lt}
use Rattle.base.proofs.Rings as rings
use Rattle.ciphers.specs.AesField.{product, inverse}

small : 27 < 2 ^ 8
small = omega arith

pub byte_ring : Ring 8 0x11b
byte_ring = rings.ring 7 27 small

-- the product by doubling and adding
pub product_mul : (a b : ℕ) → b < 256 → product a b ≡ mul 7 27 a b
product_mul a b h = rings.times_mul 7 27 small a b h

pub product_lt : (a b : ℕ) → b < 256 → product a b < 256
product_lt a b h = rings.times_lt 7 27 small a b h

pub power_lt : (a n : ℕ) → power 8 0x11b a n < 256
power_lt a n = rings.power_lt 7 27 small a n

-- ---- the products that the code makes

pub product_one : (a : ℕ) → a < 256 → product 1 a ≡ a
product_one a h = byte_ring.one a h

-- the top bit brings in 27
pub product_two : (a : ℕ) → a < 256 → bit_xor ((a * 2) % 256) (27 * (a / 128)) ≡ product 2 a
unfolding twice
product_two a h =
    let t : a / 128 < 2 = omega arith in
    let s : (n : ℕ) → n < 2 → 27 * n ≡ scaled n 27 = times27 in
    sym (rings.times_two 6 27 small a h ∙ ap (λ (x : ℕ). bit_xor ((a * 2) % 256) (scaled x 27)) (mod-eq_of_lt t) ∙ ap (bit_xor ((a * 2) % 256)) (sym (s (a / 128) t)))
  where
    times27 : (n : ℕ) → n < 2 → 27 * n ≡ scaled n 27
    times27 zero l = refl
    times27 (suc zero) l = refl
    times27 (suc (suc n)) l = absurd (omega arith)

pub doubled_byte : (a : ℕ) → a < 256 → product 2 a ≡ twice 7 27 a
doubled_byte a h = rings.times_two 6 27 small a h

-- one more, and twice as many
plus_one : (k a : ℕ) → a < 256 → product (bit_xor k 1) a ≡ bit_xor (product k a) a
plus_one k a h = rings.times_sum_left 7 27 small k 1 a h ∙ ap (bit_xor (product k a)) (product_one a h)

doubled : (k a : ℕ) → k < 256 → a < 256 → product (product 2 k) a ≡ product 2 (product k a)
doubled k a l h = byte_ring.associates 2 k a (omega arith) l h

pub product_three : (a : ℕ) → a < 256 → product 3 a ≡ bit_xor (product 2 a) a
product_three a h = plus_one 2 a h

module _ (a : ℕ) (h : a < 256) where
  by_four : product 4 a ≡ product 2 (product 2 a)
  unfolding times carryless remainder
  by_four = doubled 2 a (omega arith) h

  by_six : product 6 a ≡ product 2 (bit_xor (product 2 a) a)
  unfolding times carryless remainder
  by_six = doubled 3 a (omega arith) h ∙ ap (product 2) (product_three a h)

  by_eight : product 8 a ≡ product 2 (product 2 (product 2 a))
  unfolding times carryless remainder
  by_eight = doubled 4 a (omega arith) h ∙ ap (product 2) by_four

  by_ten : product 10 a ≡ product 2 (bit_xor (product 2 (product 2 a)) a)
  unfolding times carryless remainder
  by_ten = doubled 5 a (omega arith) h ∙ ap (product 2) (plus_one 4 a h ∙ ap (λ (x : ℕ). bit_xor x a) by_four)

  by_twelve : product 12 a ≡ product 2 (product 2 (bit_xor (product 2 a) a))
  unfolding times carryless remainder
  by_twelve = doubled 6 a (omega arith) h ∙ ap (product 2) by_six

  -- the factors of the way back, one by one; the code multiplies by any factor
  pub by_nine : product 9 a ≡ bit_xor (product 2 (product 2 (product 2 a))) a
  by_nine = plus_one 8 a h ∙ ap (λ (x : ℕ). bit_xor x a) by_eight

  pub by_eleven : product 11 a ≡ bit_xor (product 2 (bit_xor (product 2 (product 2 a)) a)) a
  by_eleven = plus_one 10 a h ∙ ap (λ (x : ℕ). bit_xor x a) by_ten

  pub by_thirteen : product 13 a ≡ bit_xor (product 2 (product 2 (bit_xor (product 2 a) a))) a
  by_thirteen = plus_one 12 a h ∙ ap (λ (x : ℕ). bit_xor x a) by_twelve

  pub by_fourteen : product 14 a ≡ product 2 (bit_xor (product 2 (bit_xor (product 2 a) a)) a)
  unfolding times carryless remainder
  by_fourteen = doubled 7 a (omega arith) h ∙ ap (product 2) (plus_one 6 a h ∙ ap (λ (x : ℕ). bit_xor x a) by_six)

-- ---- the inverse by squaring

-- a to the power 2 + 4 + ... + 2^n
unfoldable pub by_squares : ℕ → ℕ → ℕ
by_squares zero a = 1
by_squares (suc n) a = mul 7 27 (mul 7 27 a a) (by_squares n (mul 7 27 a a))

-- that exponent
exponent : ℕ → ℕ
exponent zero = 0
exponent (suc n) = 2 + (exponent n + exponent n)

-- a to the power 2
squared : (a : ℕ) → a < 256 → power 8 0x11b a 2 ≡ product a a
unfolding power
squared a h = ap (product a) (byte_ring.commutes a 1 h (omega arith) ∙ product_one a h)

power_squared : (a n : ℕ) → a < 256 → power 8 0x11b (product a a) n ≡ power 8 0x11b a (n + n)
unfolding power
power_squared a zero h = refl
power_squared a (suc n) h =
    ap (product (product a a)) (power_squared a n h) ∙ ap (λ (x : ℕ). product x (power 8 0x11b a (n + n))) (sym (squared a h))
    ∙ byte_ring.powers_add a 2 (n + n) h ∙ ap (power 8 0x11b a) (omega arith)

squares_lt : (n a : ℕ) → a < 256 → by_squares n a < 256
unfolding by_squares
squares_lt zero a h = omega arith
squares_lt (suc n) a h = mul_lt 7 27 (mul 7 27 a a) (by_squares n (mul 7 27 a a)) small (squares_lt n (mul 7 27 a a) (mul_lt 7 27 a a small h))

squares_power : (n a : ℕ) → a < 256 → by_squares n a ≡ power 8 0x11b a (exponent n)
unfolding by_squares exponent power
squares_power zero a h = refl
squares_power (suc n) a h =
    let l : mul 7 27 a a < 256 = mul_lt 7 27 a a small h in
    sym (product_mul (mul 7 27 a a) (by_squares n (mul 7 27 a a)) (squares_lt n (mul 7 27 a a) l))
    ∙ ap (λ (x : ℕ). product x (by_squares n x)) (sym (product_mul a a h))
    ∙ ap (product (product a a)) (squares_power n (product a a) (product_lt a a h) ∙ power_squared a (exponent n) h)
    ∙ ap (λ (x : ℕ). product x (power 8 0x11b a (exponent n + exponent n))) (sym (squared a h))
    ∙ byte_ring.powers_add a 2 (exponent n + exponent n) h

pub inverse_squares : (a : ℕ) → a < 256 → inverse a ≡ by_squares 7 a
unfolding inverse exponent
inverse_squares a h = sym (squares_power 7 a h)

pub inverse_lt : (a : ℕ) → inverse a < 256
unfolding inverse
inverse_lt a = power_lt a 254
