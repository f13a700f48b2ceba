-- Products worked out by doubling one factor and adding, and their laws, at every width: numbers of v + 1 bits,
-- modulo z^(v + 1) + q.
use Rattle.std.proofs.Common.{◌≡◌, ℕ, zero, suc, ◌+◌, ◌*◌, ◌/◌, ◌%◌, ◌^◌, ◌<◌, ◌≤◌, sym, refl, ap, ◌∙◌, add-zero, mod-lt, mod-eq_of_lt, mul_assoc, mul_comm, add-mul, one-mul, pow-suc, div-add-mod', zero-mul, arith, pow_pos}
use native.Mathlib.Nat.{zero-mod, zero-div, div-eq_of_lt}
use lib.Bits.{bit_xor, xor_assoc, xor_self, xor_zero_r, xor_comm, xor_lt, xor_block, xor_mod, xor_shr, xor_shifted}
use lib.Pow.{pow-lt}
use Rattle.base.specs.Polynomials.{scaled}

-- times z: one place up, and q for the z^(v + 1) that falls out
unfoldable pub twice : ℕ → ℕ → ℕ → ℕ
twice v q a = bit_xor ((a * 2) % 2 ^ suc v) (scaled (a / 2 ^ v % 2) q)

-- the product of the lowest n bits of a with b
unfoldable pub mul_bits : ℕ → ℕ → ℕ → ℕ → ℕ → ℕ
mul_bits v q zero a b = zero
mul_bits v q (suc n) a b = bit_xor (scaled (a % 2) b) (mul_bits v q n (a / 2) (twice v q b))

unfoldable pub mul : ℕ → ℕ → ℕ → ℕ → ℕ
mul v q a b = mul_bits v q (suc v) a b

-- ---- sums

pub swap : (a b c d : ℕ) → bit_xor (bit_xor a b) (bit_xor c d) ≡ bit_xor (bit_xor a c) (bit_xor b d)
swap a b c d =
    xor_assoc a b (bit_xor c d)
    ∙ ap (bit_xor a) (sym (xor_assoc b c d) ∙ ap (λ (x : ℕ). bit_xor x d) (xor_comm b c) ∙ xor_assoc c b d)
    ∙ sym (xor_assoc a c (bit_xor b d))

-- ---- a coefficient times a polynomial

pub scaled_sum : (d x y : ℕ) → scaled d (bit_xor x y) ≡ bit_xor (scaled d x) (scaled d y)
scaled_sum zero x y = refl
scaled_sum (suc d) x y = refl

scaled_zero : (d : ℕ) → scaled d 0 ≡ 0
scaled_zero zero = refl
scaled_zero (suc d) = refl

bits_sum : (d e x : ℕ) → d < 2 → e < 2 → scaled (bit_xor d e) x ≡ bit_xor (scaled d x) (scaled e x)
bits_sum zero e x hd he = refl
bits_sum (suc zero) zero x hd he = sym (xor_zero_r x)
bits_sum (suc zero) (suc zero) x hd he = sym (xor_self x)
bits_sum (suc zero) (suc (suc e)) x hd he = absurd (omega arith)
bits_sum (suc (suc d)) e x hd he = absurd (omega arith)

two : 0 < 2
two = omega arith

pub scaled_bit_sum : (a b x : ℕ) → scaled (bit_xor a b % 2) x ≡ bit_xor (scaled (a % 2) x) (scaled (b % 2) x)
scaled_bit_sum a b x = ap (λ (d : ℕ). scaled d x) (xor_mod a b 1) ∙ bits_sum (a % 2) (b % 2) x (mod-lt a two) (mod-lt b two)

module _ (v q : ℕ) where
  -- ---- doubling is linear

  pub double_sum : (a b : ℕ) → bit_xor a b * 2 ≡ bit_xor (a * 2) (b * 2)
  double_sum a b =
      sym (ap (λ (x : ℕ). bit_xor x (b * 2)) (sym (add-zero (a * 2))) ∙ ap (bit_xor (a * 2 + 0)) (sym (add-zero (b * 2)))
      ∙ xor_block 1 a b 0 0 (omega arith) (omega arith) ∙ add-zero _)

  pub twice_sum : (a b : ℕ) → twice v q (bit_xor a b) ≡ bit_xor (twice v q a) (twice v q b)
  unfolding twice
  twice_sum a b =
      let p : (bit_xor a b * 2) % 2 ^ suc v ≡ bit_xor ((a * 2) % 2 ^ suc v) ((b * 2) % 2 ^ suc v) = ap (λ (x : ℕ). x % 2 ^ suc v) (double_sum a b) ∙ xor_mod (a * 2) (b * 2) (suc v) in
      let r : scaled (bit_xor a b / 2 ^ v % 2) q ≡ bit_xor (scaled (a / 2 ^ v % 2) q) (scaled (b / 2 ^ v % 2) q) =
      ap (λ (x : ℕ). scaled (x % 2) q) (xor_shr a b v) ∙ scaled_bit_sum (a / 2 ^ v) (b / 2 ^ v) q in
      ap (λ (x : ℕ). bit_xor x (scaled (bit_xor a b / 2 ^ v % 2) q)) p ∙ ap (bit_xor (bit_xor ((a * 2) % 2 ^ suc v) ((b * 2) % 2 ^ suc v))) r
      ∙ swap ((a * 2) % 2 ^ suc v) ((b * 2) % 2 ^ suc v) (scaled (a / 2 ^ v % 2) q) (scaled (b / 2 ^ v % 2) q)

  twice_zero : twice v q 0 ≡ 0
  unfolding twice
  twice_zero = ap (λ (x : ℕ). bit_xor x (scaled (0 / 2 ^ v % 2) q)) (zero-mod (2 ^ suc v)) ∙ ap (λ (x : ℕ). scaled (x % 2) q) (zero-div (2 ^ v))

  scaled_twice : (d x : ℕ) → scaled d (twice v q x) ≡ twice v q (scaled d x)
  scaled_twice zero x = sym twice_zero
  scaled_twice (suc d) x = refl

  -- ---- products are linear on either side

  pub bits_sum_right : (n a b c : ℕ) → mul_bits v q n a (bit_xor b c) ≡ bit_xor (mul_bits v q n a b) (mul_bits v q n a c)
  unfolding mul_bits
  bits_sum_right zero a b c = refl
  bits_sum_right (suc n) a b c =
      ap (λ (x : ℕ). bit_xor x (mul_bits v q n (a / 2) (twice v q (bit_xor b c)))) (scaled_sum (a % 2) b c)
      ∙ ap (bit_xor (bit_xor (scaled (a % 2) b) (scaled (a % 2) c))) (ap (mul_bits v q n (a / 2)) (twice_sum b c) ∙ bits_sum_right n (a / 2) (twice v q b) (twice v q c))
      ∙ swap (scaled (a % 2) b) (scaled (a % 2) c) (mul_bits v q n (a / 2) (twice v q b)) (mul_bits v q n (a / 2) (twice v q c))

  pub bits_sum_left : (n a b c : ℕ) → mul_bits v q n (bit_xor a b) c ≡ bit_xor (mul_bits v q n a c) (mul_bits v q n b c)
  unfolding mul_bits
  bits_sum_left zero a b c = refl
  bits_sum_left (suc n) a b c =
      ap (λ (x : ℕ). bit_xor x (mul_bits v q n (bit_xor a b / 2) (twice v q c))) (scaled_bit_sum a b c)
      ∙ ap (bit_xor (bit_xor (scaled (a % 2) c) (scaled (b % 2) c))) (ap (λ (x : ℕ). mul_bits v q n x (twice v q c)) (xor_shr a b 1) ∙ bits_sum_left n (a / 2) (b / 2) (twice v q c))
      ∙ swap (scaled (a % 2) c) (scaled (b % 2) c) (mul_bits v q n (a / 2) (twice v q c)) (mul_bits v q n (b / 2) (twice v q c))

  bits_zero : (n a : ℕ) → mul_bits v q n a 0 ≡ 0
  unfolding mul_bits
  bits_zero zero a = refl
  bits_zero (suc n) a = ap (λ (x : ℕ). bit_xor x (mul_bits v q n (a / 2) (twice v q 0))) (scaled_zero (a % 2)) ∙ ap (mul_bits v q n (a / 2)) twice_zero ∙ bits_zero n (a / 2)

  bits_twice : (n a b : ℕ) → mul_bits v q n a (twice v q b) ≡ twice v q (mul_bits v q n a b)
  unfolding mul_bits
  bits_twice zero a b = sym twice_zero
  bits_twice (suc n) a b =
      ap (λ (x : ℕ). bit_xor x (mul_bits v q n (a / 2) (twice v q (twice v q b)))) (scaled_twice (a % 2) b)
      ∙ ap (bit_xor (twice v q (scaled (a % 2) b))) (bits_twice n (a / 2) (twice v q b))
      ∙ sym (twice_sum (scaled (a % 2) b) (mul_bits v q n (a / 2) (twice v q b)))

  bits_scaled : (n a d x : ℕ) → mul_bits v q n a (scaled d x) ≡ scaled d (mul_bits v q n a x)
  bits_scaled n a zero x = bits_zero n a
  bits_scaled n a (suc d) x = refl

  -- two products in either order
  bits_bits : (m n a b c : ℕ) → mul_bits v q m b (mul_bits v q n a c) ≡ mul_bits v q n a (mul_bits v q m b c)
  unfolding mul_bits
  bits_bits m zero a b c = bits_zero m b
  bits_bits m (suc n) a b c =
      bits_sum_right m b (scaled (a % 2) c) (mul_bits v q n (a / 2) (twice v q c))
      ∙ ap (λ (x : ℕ). bit_xor x (mul_bits v q m b (mul_bits v q n (a / 2) (twice v q c)))) (bits_scaled m b (a % 2) c)
      ∙ ap (bit_xor (scaled (a % 2) (mul_bits v q m b c))) (bits_bits m n (a / 2) b (twice v q c) ∙ ap (mul_bits v q n (a / 2)) (bits_twice m b c))

  -- ---- one

  scaled_le : (d x : ℕ) → scaled d x ≤ x
  scaled_le zero x = omega arith
  scaled_le (suc d) x = omega arith

  scaled_mul : (d x : ℕ) → d < 2 → scaled d x ≡ d * x
  scaled_mul zero x h = sym (zero-mul x)
  scaled_mul (suc zero) x h = sym (one-mul x)
  scaled_mul (suc (suc d)) x h = absurd (omega arith)

  twice_power : (k : ℕ) → k < v → twice v q (2 ^ k) ≡ 2 ^ suc k
  unfolding twice
  twice_power k h =
      let e : 2 ^ suc k ≡ 2 ^ k * 2 = pow-suc 2 k in
      let l : 2 ^ k < 2 ^ v = pow-lt h in
      let m : 2 ^ suc v ≡ 2 ^ v * 2 = pow-suc 2 v in
      let p : (2 ^ k * 2) % 2 ^ suc v ≡ 2 ^ k * 2 = mod-eq_of_lt (omega arith) in
      let r : 2 ^ k / 2 ^ v % 2 ≡ 0 = ap (λ (x : ℕ). x % 2) (div-eq_of_lt l) in
      ap (λ (x : ℕ). bit_xor x (scaled (2 ^ k / 2 ^ v % 2) q)) p ∙ ap (λ (x : ℕ). bit_xor (2 ^ k * 2) (scaled x q)) r ∙ xor_zero_r (2 ^ k * 2) ∙ sym e

  regroup : (a p : ℕ) → (a / 2) * (p * 2) + (a % 2) * p ≡ a * p
  regroup a p =
      let e : a / 2 * (p * 2) ≡ a / 2 * 2 * p = ap (λ (x : ℕ). a / 2 * x) (mul_comm p 2) ∙ sym (mul_assoc (a / 2) 2 p) in
      ap (λ (x : ℕ). x + (a % 2) * p) e ∙ sym (add-mul (a / 2 * 2) (a % 2) p) ∙ ap (λ (x : ℕ). x * p) (div-add-mod' a 2)

  bits_power : (n a k : ℕ) → a < 2 ^ n → n + k ≤ suc v → mul_bits v q n a (2 ^ k) ≡ a * 2 ^ k
  unfolding mul_bits
  bits_power zero a k h l = let z : a ≡ 0 = omega arith in sym (ap (λ (x : ℕ). x * 2 ^ k) z ∙ zero-mul (2 ^ k))
  bits_power (suc zero) a k h l =
      let z : a % 2 ≡ a = omega arith in
      xor_zero_r (scaled (a % 2) (2 ^ k)) ∙ scaled_mul (a % 2) (2 ^ k) (mod-lt a two) ∙ ap (λ (x : ℕ). x * 2 ^ k) z
  bits_power (suc (suc n)) a k h l =
      let e : 2 ^ suc (suc n) ≡ 2 ^ suc n * 2 = pow-suc 2 (suc n) in
      let f : 2 ^ suc k ≡ 2 ^ k * 2 = pow-suc 2 k in
      let p : 0 < 2 ^ k = pow_pos k in
      let t : scaled (a % 2) (2 ^ k) < 2 ^ suc k = omega (arith, scaled_le (a % 2) (2 ^ k)) in
      ap (λ (x : ℕ). bit_xor (scaled (a % 2) (2 ^ k)) (mul_bits v q (suc n) (a / 2) x)) (twice_power k (omega arith))
      ∙ ap (bit_xor (scaled (a % 2) (2 ^ k))) (bits_power (suc n) (a / 2) (suc k) (omega arith) (omega arith))
      ∙ xor_comm (scaled (a % 2) (2 ^ k)) (a / 2 * 2 ^ suc k)
      ∙ xor_shifted (a / 2) (suc k) (scaled (a % 2) (2 ^ k)) t
      ∙ ap (λ (x : ℕ). a / 2 * x + scaled (a % 2) (2 ^ k)) f
      ∙ ap (λ (x : ℕ). a / 2 * (2 ^ k * 2) + x) (scaled_mul (a % 2) (2 ^ k) (mod-lt a two))
      ∙ regroup a (2 ^ k)

  pub mul_one : (a : ℕ) → a < 2 ^ suc v → mul v q a 1 ≡ a
  unfolding mul
  mul_one a h = bits_power (suc v) a 0 h (omega arith) ∙ omega arith

  pub mul_sum_right : (a b c : ℕ) → mul v q a (bit_xor b c) ≡ bit_xor (mul v q a b) (mul v q a c)
  unfolding mul
  mul_sum_right a b c = bits_sum_right (suc v) a b c

  pub mul_sum_left : (a b c : ℕ) → mul v q (bit_xor a b) c ≡ bit_xor (mul v q a c) (mul v q b c)
  unfolding mul
  mul_sum_left a b c = bits_sum_left (suc v) a b c

  mul_mul : (a b c : ℕ) → mul v q b (mul v q a c) ≡ mul v q a (mul v q b c)
  unfolding mul
  mul_mul a b c = bits_bits (suc v) (suc v) a b c

  pub mul_commutes : (a b : ℕ) → a < 2 ^ suc v → b < 2 ^ suc v → mul v q a b ≡ mul v q b a
  mul_commutes a b h g = sym (ap (mul v q a) (mul_one b g)) ∙ mul_mul b a 1 ∙ ap (mul v q b) (mul_one a h)

  pub scaled_lt : (d x : ℕ) → x < 2 ^ suc v → scaled d x < 2 ^ suc v
  scaled_lt zero x h = pow_pos (suc v)
  scaled_lt (suc d) x h = h

  pub twice_lt : (a : ℕ) → q < 2 ^ suc v → twice v q a < 2 ^ suc v
  unfolding twice
  twice_lt a f = xor_lt (suc v) ((a * 2) % 2 ^ suc v) (scaled (a / 2 ^ v % 2) q) (mod-lt (a * 2) (pow_pos (suc v))) (scaled_lt (a / 2 ^ v % 2) q f)

  bits_lt : (n a b : ℕ) → q < 2 ^ suc v → b < 2 ^ suc v → mul_bits v q n a b < 2 ^ suc v
  unfolding mul_bits
  bits_lt zero a b f h = pow_pos (suc v)
  bits_lt (suc n) a b f h = xor_lt (suc v) (scaled (a % 2) b) (mul_bits v q n (a / 2) (twice v q b)) (scaled_lt (a % 2) b h) (bits_lt n (a / 2) (twice v q b) f (twice_lt b f))

  pub mul_lt : (a b : ℕ) → q < 2 ^ suc v → b < 2 ^ suc v → mul v q a b < 2 ^ suc v
  unfolding mul
  mul_lt a b f h = bits_lt (suc v) a b f h

  pub mul_associates : (a b c : ℕ) → q < 2 ^ suc v → a < 2 ^ suc v → b < 2 ^ suc v → c < 2 ^ suc v → mul v q (mul v q a b) c ≡ mul v q a (mul v q b c)
  mul_associates a b c f ha hb hc =
      mul_commutes (mul v q a b) c (mul_lt a b f hb) hc ∙ mul_mul a c b ∙ ap (mul v q a) (mul_commutes c b hc hb)

  -- ---- the loop of a product

  pub turn : (n a b acc : ℕ) → bit_xor (bit_xor acc (scaled (a % 2) b)) (mul_bits v q n (a / 2) (twice v q b)) ≡ bit_xor acc (mul_bits v q (suc n) a b)
  unfolding mul_bits
  turn n a b acc = xor_assoc acc (scaled (a % 2) b) (mul_bits v q n (a / 2) (twice v q b))
