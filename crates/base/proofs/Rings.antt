-- The product modulo a polynomial, by long division, is the one by doubling and adding; so its laws hold.
use Rattle.std.proofs.Common.{◌≡◌, ℕ, zero, suc, ◌+◌, ◌-◌, ◌*◌, ◌/◌, ◌%◌, ◌^◌, ◌<◌, sym, refl, ap, ◌∙◌, subst, lt_of_lt_of_le, le_of_suc-le-suc, add-zero, add-suc, mul-le-mul_right, mod-lt, mod-eq_of_lt, mul_assoc, mul_comm, add-mul, suc-add, one-mul, pow-suc, zero-add, zero-mul, mul-one, div-one, arith, pow_pos, pow_mono, pow-add, shl_lt}
use native.Mathlib.Nat.{div-div-eq-div-mul, div-eq_of_lt, mul-div-mul_right, mul-add-div_right, mul-add-mod_self_right}
use lib.Bits.{bit_xor, xor_assoc, xor_self, xor_zero_r, xor_zero_l, xor_comm, xor_lt, xor_block, xor_shr}
use lib.Pow.{high, split}
use Rattle.std.proofs.lemmas.Nat.{shr_below}
use Rattle.base.specs.Polynomials.{scaled, coefficient, carryless, remainder, times, power, Ring}
use Rattle.base.proofs.Strings.{xor_twice}
use Rattle.base.proofs.Doubling as doubling
use Rattle.base.proofs.Doubling.{swap, scaled_sum, scaled_bit_sum, twice, mul_bits, mul}

module _ (w p : ℕ) where
  -- the remainder is additive
  pub remainder_sum : (n c d : ℕ) → remainder w p n (bit_xor c d) ≡ bit_xor (remainder w p n c) (remainder w p n d)
  unfolding remainder
  remainder_sum zero c d = refl
  remainder_sum (suc n) c d =
      ap (remainder w p n)
      (ap (bit_xor (bit_xor c d)) (ap (λ (x : ℕ). scaled (x % 2) (p * 2 ^ n)) (xor_shr c d (w + n)) ∙ scaled_bit_sum (c / 2 ^ (w + n)) (d / 2 ^ (w + n)) (p * 2 ^ n))
      ∙ swap c d (scaled (coefficient (w + n) c) (p * 2 ^ n)) (scaled (coefficient (w + n) d) (p * 2 ^ n)))
      ∙ remainder_sum n (bit_xor c (scaled (coefficient (w + n) c) (p * 2 ^ n))) (bit_xor d (scaled (coefficient (w + n) d) (p * 2 ^ n)))

  -- terms that are not there need no cancelling
  remainder_less : (n c : ℕ) → c < 2 ^ (w + n) → remainder w p (suc n) c ≡ remainder w p n c
  unfolding remainder
  remainder_less n c h =
      ap (λ (x : ℕ). remainder w p n (bit_xor c (scaled (x % 2) (p * 2 ^ n)))) (div-eq_of_lt h) ∙ ap (remainder w p n) (xor_zero_r c)

  remainder_zero : (n : ℕ) → remainder w p n 0 ≡ 0
  remainder_zero n = remainder_sum n 0 0 ∙ xor_self (remainder w p n 0)

  remainder_scaled : (n h c : ℕ) → remainder w p n (scaled h c) ≡ scaled h (remainder w p n c)
  remainder_scaled n zero c = remainder_zero n
  remainder_scaled n (suc h) c = refl

  remainder_down : (k n c : ℕ) → c < 2 ^ (w + n) → remainder w p (k + n) c ≡ remainder w p n c
  remainder_down zero n c h = ap (λ (x : ℕ). remainder w p x c) (zero-add n)
  remainder_down (suc k) n c h =
      let l : c < 2 ^ (w + (k + n)) = lt_of_lt_of_le h (pow_mono (omega arith)) in
      ap (λ (x : ℕ). remainder w p x c) (suc-add k n) ∙ remainder_less (k + n) c l ∙ remainder_down k n c h

-- ---- the remainder differs by a multiple of the modulus

carryless_same : (n a b c : ℕ) → ((i : ℕ) → i < n → coefficient i a ≡ coefficient i b) → carryless n a c ≡ carryless n b c
unfolding carryless
carryless_same zero a b c h = refl
carryless_same (suc n) a b c h =
    ap (λ (x : ℕ). bit_xor x (scaled (coefficient n a) (c * 2 ^ n))) (carryless_same n a b c (λ i l. h i (omega arith)))
    ∙ ap (λ (x : ℕ). bit_xor (carryless n b c) (scaled x (c * 2 ^ n))) (h n (omega arith))

-- what stands above a coefficient does not touch it
low_coefficient : (n h s i : ℕ) → i < n → coefficient i (h * 2 ^ n + s) ≡ coefficient i s
low_coefficient n h s i l =
    let e : 2 ^ n ≡ 2 ^ (n - suc i) * 2 * 2 ^ i =
    ap (λ (x : ℕ). 2 ^ x) (omega arith) ∙ pow-add 2 (suc (n - suc i)) i ∙ ap (λ (x : ℕ). x * 2 ^ i) (pow-suc 2 (n - suc i)) in
    let f : h * 2 ^ n ≡ h * 2 ^ (n - suc i) * 2 * 2 ^ i =
    ap (λ (x : ℕ). h * x) e ∙ sym (mul_assoc h (2 ^ (n - suc i) * 2) (2 ^ i)) ∙ ap (λ (x : ℕ). x * 2 ^ i) (sym (mul_assoc h (2 ^ (n - suc i)) 2)) in
    ap (λ (x : ℕ). (x + s) / 2 ^ i % 2) f
    ∙ ap (λ (x : ℕ). x % 2) (mul-add-div_right (pow_pos i) (h * 2 ^ (n - suc i) * 2) s)
    ∙ mul-add-mod_self_right (h * 2 ^ (n - suc i)) 2 (s / 2 ^ i)

module _ (w p : ℕ) where
  quotient_below : (n c : ℕ) → (s : ℕ) × ((s < 2 ^ n) × (c ≡ bit_xor (carryless n s p) (remainder w p n c)))
  unfolding carryless remainder
  quotient_below zero c = (0, (omega arith, sym (xor_zero_l c)))
  quotient_below (suc n) c =
      let h : ℕ = coefficient (w + n) c in
      let multiple : ℕ = scaled h (p * 2 ^ n) in
      let rest : ℕ = bit_xor c multiple in
      let q = quotient_below n rest in
      let s : ℕ = q.0 in
      let small : s < 2 ^ n = q.1.0 in
      let bit : h < 2 = mod-lt (c / 2 ^ (w + n)) (omega arith) in
      let top : coefficient n (h * 2 ^ n + s) ≡ h = ap (λ (x : ℕ). x % 2) (high h n small) ∙ mod-eq_of_lt bit in
      let same : carryless n (h * 2 ^ n + s) p ≡ carryless n s p = carryless_same n (h * 2 ^ n + s) s p (λ i l. low_coefficient n h s i l) in
      let all : carryless (suc n) (h * 2 ^ n + s) p ≡ bit_xor (carryless n s p) multiple =
      ap (λ (x : ℕ). bit_xor x (scaled (coefficient n (h * 2 ^ n + s)) (p * 2 ^ n))) same ∙ ap (λ (x : ℕ). bit_xor (carryless n s p) (scaled x (p * 2 ^ n))) top in
      let bound : h * 2 ^ n + s < 2 ^ suc n = omega (arith, pow-suc 2 n, small, mul-le-mul_right (2 ^ n) (le_of_suc-le-suc bit), one-mul (2 ^ n)) in (
        h * 2 ^ n + s,
        (
          bound,
          sym (xor_twice c multiple)
              ∙ ap (λ (x : ℕ). bit_xor x multiple) q.1.1
              ∙ xor_assoc (carryless n s p) (remainder w p n rest) multiple
              ∙ ap (bit_xor (carryless n s p)) (xor_comm (remainder w p n rest) multiple)
              ∙ sym (xor_assoc (carryless n s p) multiple (remainder w p n rest))
              ∙ ap (λ (x : ℕ). bit_xor x (remainder w p n rest)) (sym all),
        ),
      )

  pub quotient : (n c : ℕ) → (s : ℕ) × (c ≡ bit_xor (carryless n s p) (remainder w p n c))
  quotient n c = let q = quotient_below n c in (q.0, q.1.1)

-- the top term cancels against that of the modulus
cancelled : (k h l r : ℕ) → h < 2 → l < 2 ^ k → r < 2 ^ k → bit_xor (h * 2 ^ k + l) (scaled h (1 * 2 ^ k + r)) ≡ bit_xor l (scaled h r)
cancelled k zero l r hh hl hr = ap (λ (x : ℕ). bit_xor x 0) (ap (λ (x : ℕ). x + l) (zero-mul (2 ^ k)) ∙ zero-add l)
cancelled k (suc zero) l r hh hl hr = xor_block k 1 1 l r hl hr ∙ ap (λ (x : ℕ). x + bit_xor l r) (zero-mul (2 ^ k)) ∙ zero-add (bit_xor l r)
cancelled k (suc (suc h)) l r hh hl hr = absurd (omega arith)

scaled_lt : (k h x : ℕ) → x < 2 ^ k → scaled h x < 2 ^ k
scaled_lt k zero x l = pow_pos k
scaled_lt k (suc h) x l = l

scaled_times : (h x y : ℕ) → scaled h (x * y) ≡ scaled h x * y
scaled_times zero x y = sym (zero-mul y)
scaled_times (suc h) x y = refl

module _ (v q : ℕ) (small : q < 2 ^ suc v) where
  -- the modulus, of degree v + 1
  abbrev modulus : ℕ
  modulus = 2 ^ suc v + q

  shifted_modulus : (n : ℕ) → modulus * 2 ^ n ≡ 1 * 2 ^ (suc v + n) + q * 2 ^ n
  shifted_modulus n = add-mul (2 ^ suc v) q (2 ^ n) ∙ ap (λ (x : ℕ). x + q * 2 ^ n) (sym (pow-add 2 (suc v) n) ∙ sym (one-mul (2 ^ (suc v + n))))

  -- one step of the division, where there is one term too many
  abbrev reduced : ℕ → ℕ → ℕ
  reduced n c = bit_xor c (scaled (coefficient (suc v + n) c) (modulus * 2 ^ n))

  top_lt : (n c : ℕ) → c < 2 ^ suc (suc v + n) → c / 2 ^ (suc v + n) < 2
  top_lt n c h = shr_below c 1 (suc v + n) (subst (λ (x : ℕ). c < 2 ^ x) (omega arith) h)

  reduced_is : (n c : ℕ) → c < 2 ^ suc (suc v + n) → reduced n c ≡ bit_xor (c % 2 ^ (suc v + n)) (scaled (c / 2 ^ (suc v + n)) (q * 2 ^ n))
  reduced_is n c h =
      let t : c / 2 ^ (suc v + n) < 2 = top_lt n c h in
      ap (λ (x : ℕ). bit_xor c (scaled x (modulus * 2 ^ n))) (mod-eq_of_lt t)
      ∙ ap (λ (x : ℕ). bit_xor c (scaled (c / 2 ^ (suc v + n)) x)) (shifted_modulus n)
      ∙ ap (λ (x : ℕ). bit_xor x (scaled (c / 2 ^ (suc v + n)) (1 * 2 ^ (suc v + n) + q * 2 ^ n))) (sym (split c (suc v + n)))
      ∙ cancelled (suc v + n) (c / 2 ^ (suc v + n)) (c % 2 ^ (suc v + n)) (q * 2 ^ n) t (mod-lt c (pow_pos (suc v + n))) (shl_lt (suc v) n small)

  reduced_lt : (n c : ℕ) → c < 2 ^ suc (suc v + n) → reduced n c < 2 ^ (suc v + n)
  reduced_lt n c h =
      subst (λ (x : ℕ). x < 2 ^ (suc v + n)) (sym (reduced_is n c h))
      (xor_lt (suc v + n) (c % 2 ^ (suc v + n)) (scaled (c / 2 ^ (suc v + n)) (q * 2 ^ n)) (mod-lt c (pow_pos (suc v + n)))
      (scaled_lt (suc v + n) (c / 2 ^ (suc v + n)) (q * 2 ^ n) (shl_lt (suc v) n small)))

  remainder_lt : (n c : ℕ) → c < 2 ^ (suc v + n) → remainder (suc v) modulus n c < 2 ^ suc v
  unfolding remainder
  remainder_lt zero c h = subst (λ (x : ℕ). c < 2 ^ x) (add-zero (suc v)) h
  remainder_lt (suc n) c h = remainder_lt n (reduced n c) (reduced_lt n c (subst (λ (x : ℕ). c < 2 ^ x) (add-suc (suc v) n) h))

  -- ---- one place up, then the remainder: the remainder doubled

  same_top : (n c : ℕ) → coefficient (suc v + suc n) (c * 2) ≡ coefficient (suc v + n) c
  same_top n c =
      let e : 2 ^ (suc v + suc n) ≡ 2 ^ (suc v + n) * 2 = ap (λ (x : ℕ). 2 ^ x) (add-suc (suc v) n) ∙ pow-suc 2 (suc v + n) in
      ap (λ (x : ℕ). c * 2 / x % 2) e ∙ ap (λ (x : ℕ). x % 2) (mul-div-mul_right c (2 ^ (suc v + n)) (omega arith))

  reduced_twice : (n c : ℕ) → reduced (suc n) (c * 2) ≡ reduced n c * 2
  reduced_twice n c =
      let m : modulus * 2 ^ suc n ≡ modulus * 2 ^ n * 2 = ap (λ (x : ℕ). modulus * x) (pow-suc 2 n) ∙ sym (mul_assoc modulus (2 ^ n) 2) in
      ap (λ (x : ℕ). bit_xor (c * 2) (scaled x (modulus * 2 ^ suc n))) (same_top n c)
      ∙ ap (λ (x : ℕ). bit_xor (c * 2) (scaled (coefficient (suc v + n) c) x)) m
      ∙ ap (bit_xor (c * 2)) (scaled_times (coefficient (suc v + n) c) (modulus * 2 ^ n) 2)
      ∙ sym (doubling.double_sum v q c (scaled (coefficient (suc v + n) c) (modulus * 2 ^ n)))

  first_twice : (c : ℕ) → c < 2 ^ suc v → reduced 0 (c * 2) ≡ twice v q c
  unfolding twice
  first_twice c h =
      let e : 2 ^ suc v ≡ 2 ^ v * 2 = pow-suc 2 v in
      let a : suc v + 0 ≡ suc v = add-zero (suc v) in
      let l : c * 2 < 2 ^ suc (suc v + 0) = subst (λ (x : ℕ). c * 2 < 2 ^ suc x) (sym a) (omega (arith, pow-suc 2 (suc v))) in
      let d : c * 2 / 2 ^ suc v ≡ c / 2 ^ v = ap (λ (x : ℕ). c * 2 / x) e ∙ mul-div-mul_right c (2 ^ v) (omega arith) in
      let t : c / 2 ^ v < 2 = shr_below c 1 v (subst (λ (x : ℕ). c < 2 ^ x) (omega arith) h) in
      reduced_is 0 (c * 2) l
      ∙ ap (λ (x : ℕ). bit_xor (c * 2 % 2 ^ x) (scaled (c * 2 / 2 ^ x) (q * 2 ^ 0))) a
      ∙ ap (λ (x : ℕ). bit_xor (c * 2 % 2 ^ suc v) (scaled x (q * 1))) (d ∙ sym (mod-eq_of_lt t))
      ∙ ap (λ (x : ℕ). bit_xor (c * 2 % 2 ^ suc v) (scaled (c / 2 ^ v % 2) x)) (mul-one q)

  remainder_twice : (n c : ℕ) → c < 2 ^ (suc v + n) → remainder (suc v) modulus (suc n) (c * 2) ≡ twice v q (remainder (suc v) modulus n c)
  unfolding remainder
  remainder_twice zero c h = first_twice c (subst (λ (x : ℕ). c < 2 ^ x) (add-zero (suc v)) h)
  remainder_twice (suc n) c h =
      ap (λ (x : ℕ). remainder (suc v) modulus (suc n) x) (reduced_twice n c)
      ∙ remainder_twice n (reduced n c) (reduced_lt n c (subst (λ (x : ℕ). c < 2 ^ x) (add-suc (suc v) n) h))

  -- ---- the two ways of multiplying are one

  -- b doubled n times
  abbrev doubled : ℕ → ℕ → ℕ
  doubled zero b = b
  doubled (suc n) b = twice v q (doubled n b)

  remainder_doubled : (n b : ℕ) → b < 2 ^ suc v → remainder (suc v) modulus n (b * 2 ^ n) ≡ doubled n b
  unfolding remainder
  remainder_doubled zero b h = mul-one b
  remainder_doubled (suc n) b h =
      ap (remainder (suc v) modulus (suc n)) (ap (λ (x : ℕ). b * x) (pow-suc 2 n) ∙ sym (mul_assoc b (2 ^ n) 2))
      ∙ remainder_twice n (b * 2 ^ n) (shl_lt (suc v) n h)
      ∙ ap (twice v q) (remainder_doubled n b h)

  -- one term more of the first factor
  doubled_twice : (n b : ℕ) → doubled n (twice v q b) ≡ twice v q (doubled n b)
  doubled_twice zero b = refl
  doubled_twice (suc n) b = ap (twice v q) (doubled_twice n b)

  bits_more : (n a b : ℕ) → mul_bits v q (suc n) a b ≡ bit_xor (mul_bits v q n a b) (scaled (coefficient n a) (doubled n b))
  unfolding mul_bits
  bits_more zero a b = xor_zero_r (scaled (a % 2) b) ∙ ap (λ (x : ℕ). scaled (x % 2) b) (sym (div-one a))
  bits_more (suc n) a b =
      let e : a / 2 / 2 ^ n ≡ a / 2 ^ suc n = div-div-eq-div-mul a 2 (2 ^ n) ∙ ap (λ (x : ℕ). a / x) (mul_comm 2 (2 ^ n) ∙ sym (pow-suc 2 n)) in
      ap (bit_xor (scaled (a % 2) b)) (bits_more n (a / 2) (twice v q b))
      ∙ sym (xor_assoc (scaled (a % 2) b) (mul_bits v q n (a / 2) (twice v q b)) (scaled (coefficient n (a / 2)) (doubled n (twice v q b))))
      ∙ ap (λ (x : ℕ). bit_xor (mul_bits v q (suc n) a b) (scaled (x % 2) (doubled n (twice v q b)))) e
      ∙ ap (λ (x : ℕ). bit_xor (mul_bits v q (suc n) a b) (scaled (coefficient (suc n) a) x)) (doubled_twice n b)

  remainder_carryless : (k n a b : ℕ) → k + n ≡ suc v → b < 2 ^ suc v → remainder (suc v) modulus (suc v) (carryless n a b) ≡ mul_bits v q n a b
  unfolding carryless mul_bits
  remainder_carryless k zero a b e h = remainder_zero (suc v) modulus (suc v)
  remainder_carryless k (suc n) a b e h =
      let r : remainder (suc v) modulus (suc v) (b * 2 ^ n) ≡ doubled n b =
      ap (λ (x : ℕ). remainder (suc v) modulus x (b * 2 ^ n)) (sym (omega (arith, e))) ∙ remainder_down (suc v) modulus (suc k) n (b * 2 ^ n) (shl_lt (suc v) n h) ∙ remainder_doubled n b h in
      remainder_sum (suc v) modulus (suc v) (carryless n a b) (scaled (coefficient n a) (b * 2 ^ n))
      ∙ ap (λ (x : ℕ). bit_xor x (remainder (suc v) modulus (suc v) (scaled (coefficient n a) (b * 2 ^ n)))) (remainder_carryless (suc k) n a b (omega (arith, e)) h)
      ∙ ap (bit_xor (mul_bits v q n a b)) (remainder_scaled (suc v) modulus (suc v) (coefficient n a) (b * 2 ^ n) ∙ ap (scaled (coefficient n a)) r)
      ∙ sym (bits_more n a b)

  pub times_mul : (a b : ℕ) → b < 2 ^ suc v → times (suc v) modulus a b ≡ mul v q a b
  unfolding times mul
  times_mul a b h = remainder_carryless 0 (suc v) a b (zero-add (suc v)) h

  -- ---- the laws

  pub times_lt : (a b : ℕ) → b < 2 ^ suc v → times (suc v) modulus a b < 2 ^ suc v
  times_lt a b h = subst (λ (x : ℕ). x < 2 ^ suc v) (sym (times_mul a b h)) (doubling.mul_lt v q a b small h)

  pub times_commutes : (a b : ℕ) → a < 2 ^ suc v → b < 2 ^ suc v → times (suc v) modulus a b ≡ times (suc v) modulus b a
  times_commutes a b h k = times_mul a b k ∙ doubling.mul_commutes v q a b h k ∙ sym (times_mul b a h)

  pub times_associates : (a b c : ℕ) → a < 2 ^ suc v → b < 2 ^ suc v → c < 2 ^ suc v → times (suc v) modulus (times (suc v) modulus a b) c ≡ times (suc v) modulus a (times (suc v) modulus b c)
  times_associates a b c ha hb hc =
      times_mul (times (suc v) modulus a b) c hc
      ∙ ap (λ (x : ℕ). mul v q x c) (times_mul a b hb)
      ∙ doubling.mul_associates v q a b c small ha hb hc
      ∙ sym (times_mul a (times (suc v) modulus b c) (times_lt b c hc) ∙ ap (mul v q a) (times_mul b c hc))

  pub times_sum_right : (a b c : ℕ) → b < 2 ^ suc v → c < 2 ^ suc v → times (suc v) modulus a (bit_xor b c) ≡ bit_xor (times (suc v) modulus a b) (times (suc v) modulus a c)
  times_sum_right a b c hb hc =
      times_mul a (bit_xor b c) (xor_lt (suc v) b c hb hc) ∙ doubling.mul_sum_right v q a b c
      ∙ sym (ap (λ (x : ℕ). bit_xor x (times (suc v) modulus a c)) (times_mul a b hb) ∙ ap (bit_xor (mul v q a b)) (times_mul a c hc))

  pub times_sum_left : (a b c : ℕ) → c < 2 ^ suc v → times (suc v) modulus (bit_xor a b) c ≡ bit_xor (times (suc v) modulus a c) (times (suc v) modulus b c)
  times_sum_left a b c hc =
      times_mul (bit_xor a b) c hc ∙ doubling.mul_sum_left v q a b c
      ∙ sym (ap (λ (x : ℕ). bit_xor x (times (suc v) modulus b c)) (times_mul a c hc) ∙ ap (bit_xor (mul v q a c)) (times_mul b c hc))

  one_lt : 1 < 2 ^ suc v
  one_lt = omega (arith, pow-suc 2 v, pow_pos v)

  pub times_one : (a : ℕ) → a < 2 ^ suc v → times (suc v) modulus 1 a ≡ a
  times_one a h = times_commutes 1 a one_lt h ∙ times_mul a 1 one_lt ∙ doubling.mul_one v q a h

  pub power_lt : (a n : ℕ) → power (suc v) modulus a n < 2 ^ suc v
  unfolding power
  power_lt a zero = one_lt
  power_lt a (suc n) = times_lt a (power (suc v) modulus a n) (power_lt a n)

  powers_add : (a m n : ℕ) → a < 2 ^ suc v → times (suc v) modulus (power (suc v) modulus a m) (power (suc v) modulus a n) ≡ power (suc v) modulus a (m + n)
  unfolding power
  powers_add a zero n h = times_one (power (suc v) modulus a n) (power_lt a n) ∙ ap (power (suc v) modulus a) (sym (zero-add n))
  powers_add a (suc m) n h =
      times_associates a (power (suc v) modulus a m) (power (suc v) modulus a n) h (power_lt a m) (power_lt a n)
      ∙ ap (times (suc v) modulus a) (powers_add a m n h) ∙ ap (power (suc v) modulus a) (sym (suc-add m n))

  pub ring : Ring (suc v) modulus
  ring = record {
    closed = times_lt;
    one = times_one;
    commutes = times_commutes;
    associates = times_associates;
    distributes = times_sum_right;
    powers_add = powers_add;
  }

-- times z is one doubling
bits_none : (v q n b : ℕ) → mul_bits v q n 0 b ≡ 0
unfolding mul_bits
bits_none v q zero b = refl
bits_none v q (suc n) b = bits_none v q n (twice v q b)

mul_two : (u q a : ℕ) → mul (suc u) q 2 a ≡ twice (suc u) q a
unfolding mul mul_bits
mul_two u q a = ap (bit_xor (twice (suc u) q a)) (bits_none (suc u) q u (twice (suc u) q (twice (suc u) q a))) ∙ xor_zero_r (twice (suc u) q a)

pub times_two : (u q : ℕ) → q < 2 ^ suc (suc u) → (a : ℕ) → a < 2 ^ suc (suc u) → times (suc (suc u)) (2 ^ suc (suc u) + q) 2 a ≡ twice (suc u) q a
times_two u q small a h = times_mul (suc u) q small 2 a h ∙ mul_two u q a
