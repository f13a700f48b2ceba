-- Sums of powers of tau, and Horner's way to them; multiples of beta, and doubling's way to them.
use Rattle.std.proofs.Common.{◌≡◌, ℕ, zero, suc, ◌+◌, ◌-◌, ◌^◌, ◌<◌, sym, refl, ap, ◌∙◌, arith}
use lib.Bits.{bit_xor, xor_self, xor_lt}
use Rattle.base.specs.Polynomials.{Ring, power}
use Rattle.base.proofs.Rings as rings
use Rattle.field.specs.Field.{modulus, field_product, field_power, times_z}
use Rattle.field.proofs.Products.{laws}
use Rattle.mode.specs.Hash.{sum_to}

ring : Ring 128 modulus
ring = laws.ring

pub product_lt : (a b : ℕ) → b < 2 ^ 128 → field_product a b < 2 ^ 128
product_lt a b h = ring.closed a b h

pub power_lt : (a k : ℕ) → field_power a k < 2 ^ 128
power_lt a k = rings.power_lt 127 135 (omega arith) a k

-- ---- z^k beta

pub multiple_lt : (k beta : ℕ) → beta < 2 ^ 128 → field_product (field_power 2 k) beta < 2 ^ 128
multiple_lt k beta h = product_lt (field_power 2 k) beta h

pub multiple_none : (beta : ℕ) → beta < 2 ^ 128 → beta ≡ field_product (field_power 2 0) beta
unfolding power
multiple_none beta h = sym (ring.one beta h)

pub multiple_more : (k beta : ℕ) → beta < 2 ^ 128 → times_z (field_product (field_power 2 k) beta) ≡ field_product (field_power 2 (k + 1)) beta
unfolding power
multiple_more k beta h =
    let e : suc k ≡ k + 1 = omega arith in
    sym (ring.associates 2 (field_power 2 k) beta (omega arith) (power_lt 2 k) h) ∙ ap (λ (j : ℕ). field_product (field_power 2 j) beta) e

-- ---- sums

pub sum_same : (F G : ℕ → ℕ) (n : ℕ) → ((i : ℕ) → i < n → F i ≡ G i) → sum_to F n ≡ sum_to G n
unfolding sum_to
sum_same F G zero h = refl
sum_same F G (suc n) h = ap (λ (z : ℕ). bit_xor z (F n)) (sum_same F G n (λ i l. h i (omega arith))) ∙ ap (bit_xor (sum_to G n)) (h n (omega arith))

pub sum_lt : (F : ℕ → ℕ) (n : ℕ) → ((i : ℕ) → i < n → F i < 2 ^ 128) → sum_to F n < 2 ^ 128
unfolding sum_to
sum_lt F zero h = omega arith
sum_lt F (suc n) h = xor_lt 128 (sum_to F n) (F n) (sum_lt F n (λ i l. h i (omega arith))) (h n (omega arith))

sum_more : (G : ℕ → ℕ) (n : ℕ) → sum_to G (n + 1) ≡ bit_xor (sum_to G n) (G n)
unfolding sum_to
sum_more G n = let e : n + 1 ≡ suc n = omega arith in ap (sum_to G) e

times_zero : (tau : ℕ) → field_product tau 0 ≡ 0
times_zero tau = ap (field_product tau) (sym (xor_self 0)) ∙ ring.distributes tau 0 0 (omega arith) (omega arith) ∙ xor_self (field_product tau 0)

sum_times : (tau : ℕ) (F : ℕ → ℕ) (n : ℕ) → ((i : ℕ) → i < n → F i < 2 ^ 128) → field_product tau (sum_to F n) ≡ sum_to (λ i. field_product tau (F i)) n
unfolding sum_to
sum_times tau F zero h = times_zero tau
sum_times tau F (suc n) h =
    ring.distributes tau (sum_to F n) (F n) (sum_lt F n (λ i l. h i (omega arith))) (h n (omega arith))
    ∙ ap (λ (z : ℕ). bit_xor z (field_product tau (F n))) (sum_times tau F n (λ i l. h i (omega arith)))

-- ---- the hash but for the last whole block: tau^(n+1) F 0 + … + tau^2 F (n - 1) + tau p

abbrev pub before : ℕ → (ℕ → ℕ) → ℕ → ℕ → ℕ
before tau F n p = bit_xor (sum_to (λ i. field_product (field_power tau (n + 1 - i)) (F i)) n) (field_product tau p)

pub before_same : (tau : ℕ) (F G : ℕ → ℕ) (n p : ℕ) → ((i : ℕ) → i < n → F i ≡ G i) → before tau F n p ≡ before tau G n p
before_same tau F G n p h = ap (λ (z : ℕ). bit_xor z (field_product tau p)) (sum_same _ _ n (λ i l. ap (field_product (field_power tau (n + 1 - i))) (h i l)))

pub before_lt : (tau : ℕ) (F : ℕ → ℕ) (n p : ℕ) → ((i : ℕ) → i < n → F i < 2 ^ 128) → p < 2 ^ 128 → before tau F n p < 2 ^ 128
before_lt tau F n p h k = xor_lt 128 _ (field_product tau p) (sum_lt _ n (λ i l. product_lt (field_power tau (n + 1 - i)) (F i) (h i l))) (product_lt tau p k)

-- ---- Horner's way

-- tau^n F 0 + … + tau F (n - 1)
abbrev pub weighed : ℕ → (ℕ → ℕ) → ℕ → ℕ
weighed tau F n = sum_to (λ i. field_product (field_power tau (n - i)) (F i)) n

module _ (tau : ℕ) (ht : tau < 2 ^ 128) (F : ℕ → ℕ) where
  lifted : (k x : ℕ) → x < 2 ^ 128 → field_product tau (field_product (field_power tau k) x) ≡ field_product (field_power tau (suc k)) x
  unfolding power
  lifted k x h = sym (ring.associates tau (field_power tau k) x ht (power_lt tau k) h)

  first : (x : ℕ) → field_product tau x ≡ field_product (field_power tau 1) x
  unfolding power
  first x = ap (λ (z : ℕ). field_product z x) (sym (ring.commutes tau 1 ht (omega arith) ∙ ring.one tau ht))

  terms_lt : (n : ℕ) → ((i : ℕ) → i < n → F i < 2 ^ 128) → (i : ℕ) → i < n → field_product (field_power tau (n - i)) (F i) < 2 ^ 128
  terms_lt n h i l = product_lt (field_power tau (n - i)) (F i) (h i l)

  raised : (n : ℕ) → ((i : ℕ) → i < n → F i < 2 ^ 128) → field_product tau (weighed tau F n) ≡ sum_to (λ i. field_product (field_power tau (n + 1 - i)) (F i)) n
  raised n h =
      sum_times tau (λ i. field_product (field_power tau (n - i)) (F i)) n (terms_lt n h)
      ∙ sum_same _ _ n (λ i l. lifted (n - i) (F i) (h i l) ∙ ap (λ (j : ℕ). field_product (field_power tau j) (F i)) (step i l))
    where
      step : (i : ℕ) → i < n → suc (n - i) ≡ n + 1 - i
      step i l = omega arith

  pub weighed_more : (n sum x r : ℕ) → ((i : ℕ) → i < n + 1 → F i < 2 ^ 128) → sum ≡ weighed tau F n → x ≡ F n → r ≡ field_product tau (bit_xor sum x) → r ≡ weighed tau F (n + 1)
  weighed_more n sum x r h e f g =
      let one : n + 1 - n ≡ 1 = omega arith in
      let hn : (i : ℕ) → i < n → F i < 2 ^ 128 = λ i l. h i (omega arith) in
      g ∙ ap (λ (z : ℕ). field_product tau (bit_xor z x)) e ∙ ap (λ (z : ℕ). field_product tau (bit_xor (weighed tau F n) z)) f
      ∙ ring.distributes tau (weighed tau F n) (F n) (sum_lt _ n (terms_lt n hn)) (h n (omega arith))
      ∙ ap (λ (z : ℕ). bit_xor z (field_product tau (F n))) (raised n hn)
      ∙ ap (bit_xor (sum_to (λ i. field_product (field_power tau (n + 1 - i)) (F i)) n)) (first (F n) ∙ ap (λ (j : ℕ). field_product (field_power tau j) (F n)) (sym one))
      ∙ sym (sum_more (λ i. field_product (field_power tau (n + 1 - i)) (F i)) n)

  pub weighed_all : (n sum p r : ℕ) → ((i : ℕ) → i < n → F i < 2 ^ 128) → p < 2 ^ 128 → sum ≡ weighed tau F n → r ≡ field_product tau (bit_xor sum p) → r ≡ before tau F n p
  weighed_all n sum p r h k e g =
      g ∙ ap (λ (z : ℕ). field_product tau (bit_xor z p)) e ∙ ring.distributes tau (weighed tau F n) p (sum_lt _ n (terms_lt n h)) k
      ∙ ap (λ (z : ℕ). bit_xor z (field_product tau p)) (raised n h)
