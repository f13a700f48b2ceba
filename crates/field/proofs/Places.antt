-- Products by powers of z are places up, and products by several terms of a factor at a time.
use Rattle.std.proofs.Common.{◌≡◌, ℕ, zero, suc, ◌+◌, ◌*◌, ◌/◌, ◌%◌, ◌^◌, ◌<◌, List, get_or, sym, ap, ◌∙◌, mod-lt, mod-eq_of_lt, mul_assoc, pow-suc, div-add-mod', mul-one, div-le_self, div-one, arith, pow-add}
use native.Mathlib.Nat.{div-eq_of_lt, div-div-eq-div-mul}
use lib.Bits.{bit_xor, xor_self, xor_zero_r, xor_assoc, xor_comm, xor_shifted}
use lib.Pow.{pow-lt}
use Rattle.base.specs.Polynomials.{Ring, scaled}
use Rattle.base.proofs.Doubling.{twice}
use Rattle.base.proofs.Rings as rings
use Rattle.field.specs.Field.{modulus, field_product, times_z}
use Rattle.field.proofs.Products.{laws, times_z_twice}

ring : Ring 128 modulus
ring = laws.ring

sum_left : (a b c : ℕ) → c < 2 ^ 128 → field_product (bit_xor a b) c ≡ bit_xor (field_product a c) (field_product b c)
sum_left a b c h = rings.times_sum_left 127 135 (omega arith) a b c h

product_none : (a : ℕ) → a < 2 ^ 128 → field_product 0 a ≡ 0
product_none a h = sum_left 0 0 a h ∙ xor_self (field_product 0 a)

-- ---- places up, where no term falls out

one_up : (a : ℕ) → a < 2 ^ 127 → times_z a ≡ a * 2
unfolding twice
one_up a h =
    let p : (a * 2) % 2 ^ 128 ≡ a * 2 = mod-eq_of_lt (omega arith) in
    let t : a / 2 ^ 127 % 2 ≡ 0 = ap (λ (x : ℕ). x % 2) (div-eq_of_lt h) in
    times_z_twice a (omega arith)
    ∙ ap (λ (x : ℕ). bit_xor x (scaled (a / 2 ^ 127 % 2) 135)) p
    ∙ ap (λ (x : ℕ). bit_xor (a * 2) (scaled x 135)) t
    ∙ xor_zero_r (a * 2)

raised : (p a : ℕ) → p < 2 ^ 127 → a < 2 ^ 128 → times_z (field_product p a) ≡ field_product (p * 2) a
raised p a hp ha = sym (ring.associates 2 p a (omega arith) (omega arith) ha) ∙ ap (λ (x : ℕ). field_product x a) (one_up p hp)

half_lt : (x y : ℕ) → y ≡ x * 2 → y < 2 ^ 128 → x < 2 ^ 127
half_lt x y e h = omega arith

up : (k a : ℕ) → k < 128 → a < 2 ^ 128 → a * 2 ^ k < 2 ^ 128 → field_product (2 ^ k) a ≡ a * 2 ^ k
up zero a l ha h = ring.one a ha ∙ sym (mul-one a)
up (suc k) a l ha h =
    let e : 2 ^ suc k ≡ 2 ^ k * 2 = pow-suc 2 k in
    let f : a * 2 ^ suc k ≡ a * 2 ^ k * 2 = ap (λ (x : ℕ). a * x) e ∙ sym (mul_assoc a (2 ^ k) 2) in
    let b : a * 2 ^ k < 2 ^ 127 = half_lt (a * 2 ^ k) (a * 2 ^ suc k) f h in
    let n : k < 127 = omega arith in
    ap (λ (x : ℕ). field_product x a) e
    ∙ sym (raised (2 ^ k) a (pow-lt n) ha)
    ∙ ap times_z (up k a (omega arith) ha (omega (arith, b)))
    ∙ one_up (a * 2 ^ k) b ∙ sym f

pub four_up_lem : (a : ℕ) → a < 2 ^ 128 → times_z (times_z (times_z (times_z a))) ≡ field_product 16 a
four_up_lem a h = ap times_z (ap times_z (raised 2 a (omega arith) h) ∙ raised 4 a (omega arith) h) ∙ raised 8 a (omega arith) h

-- ---- the first factor as k terms and those above them

terms : (k x d a : ℕ) → k < 128 → x < 2 ^ 128 → x * 2 ^ k < 2 ^ 128 → d < 2 ^ k → a < 2 ^ 128
    → field_product (x * 2 ^ k + d) a ≡ bit_xor (field_product (2 ^ k) (field_product x a)) (field_product d a)
terms k x d a l hx h hd ha =
    ap (λ (y : ℕ). field_product y a) (sym (xor_shifted x k d hd))
    ∙ sum_left (x * 2 ^ k) d a ha
    ∙ ap (λ (y : ℕ). bit_xor (field_product y a) (field_product d a)) (sym (up k x l hx h))
    ∙ ap (λ (y : ℕ). bit_xor y (field_product d a)) (ring.associates (2 ^ k) x a (pow-lt l) hx ha)

-- ---- eight places up

-- the terms that fall out
fallen : (t : ℕ) → t < 256 → field_product 256 (t * 2 ^ 120) ≡ field_product 135 t
unfolding twice
fallen t h =
    let z : field_product 256 (2 ^ 120) ≡ 135 =
    sym (raised 128 (2 ^ 120) (omega arith) (omega arith))
    ∙ ap times_z (up 7 (2 ^ 120) (omega arith) (omega arith) (omega arith))
    ∙ times_z_twice (2 ^ 127) (omega arith) in
    ap (field_product 256) (sym (up 120 t (omega arith) (omega arith) (omega arith)))
    ∙ sym (ring.associates 256 (2 ^ 120) t (omega arith) (omega arith) (omega arith))
    ∙ ap (λ (x : ℕ). field_product x t) z

pub eight_up_lem : (a : ℕ) → a < 2 ^ 128 → field_product 256 a ≡ bit_xor ((a * 256) % 2 ^ 128) (field_product 135 (a / 2 ^ 120))
eight_up_lem a h =
    let t : ℕ = a / 2 ^ 120 in
    let r : ℕ = a % 2 ^ 120 in
    let ht : t < 256 = omega arith in
    let hr : r < 2 ^ 120 = mod-lt a (omega arith) in
    let s : a ≡ bit_xor (t * 2 ^ 120) r = sym (xor_shifted t 120 r hr ∙ div-add-mod' a (2 ^ 120)) in
    let low : (a * 256) % 2 ^ 128 ≡ r * 256 = omega arith in
    ap (field_product 256) s
    ∙ ring.distributes 256 (t * 2 ^ 120) r (omega arith) (omega arith)
    ∙ ap (λ (x : ℕ). bit_xor x (field_product 256 r)) (fallen t ht)
    ∙ ap (bit_xor (field_product 135 t)) (up 8 r (omega arith) (omega arith) (omega arith) ∙ sym low)
    ∙ xor_comm (field_product 135 t) ((a * 256) % 2 ^ 128)

-- z^7 + z^2 + z + 1 times these terms
pub reduction : (t : ℕ) → t < 256 → field_product 135 t ≡ bit_xor (bit_xor (bit_xor (t * 128) (t * 4)) (t * 2)) t
reduction t h =
    sum_left 134 1 t (omega arith)
    ∙ ap (λ (x : ℕ). bit_xor x (field_product 1 t)) (sum_left 132 2 t (omega arith))
    ∙ ap (λ (x : ℕ). bit_xor (bit_xor x (field_product 2 t)) (field_product 1 t)) (sum_left 128 4 t (omega arith))
    ∙ ap (λ (x : ℕ). bit_xor (bit_xor (bit_xor x (field_product 4 t)) (field_product 2 t)) (field_product 1 t)) (up 7 t (omega arith) (omega arith) (omega arith))
    ∙ ap (λ (x : ℕ). bit_xor (bit_xor (bit_xor (t * 128) x) (field_product 2 t)) (field_product 1 t)) (up 2 t (omega arith) (omega arith) (omega arith))
    ∙ ap (λ (x : ℕ). bit_xor (bit_xor (bit_xor (t * 128) (t * 4)) x) (field_product 1 t)) (up 1 t (omega arith) (omega arith) (omega arith))
    ∙ ap (bit_xor (bit_xor (bit_xor (t * 128) (t * 4)) (t * 2))) (ring.one t (omega arith))

-- ---- the multiple by 0, and the one by i from the one by half of i

pub first_multiple : (xs : List ℕ) (a : ℕ) → a < 2 ^ 128 → get_or xs 0 0 ≡ 0 → (j : ℕ) → j < 1 → get_or xs j 0 ≡ field_product j a
first_multiple xs a ha e zero h = e ∙ sym (product_none a ha)
first_multiple xs a ha e (suc j) h = absurd (omega arith)

halves : (i a : ℕ) → i < 16 → a < 2 ^ 128 → field_product i a ≡ bit_xor (times_z (field_product (i / 2) a)) (field_product (i % 2) a)
halves i a h ha = ap (λ (x : ℕ). field_product x a) (omega arith) ∙ terms 1 (i / 2) (i % 2) a (omega arith) (omega arith) (omega arith) (omega arith) ha

pub odd_multiple : (i a : ℕ) → i < 16 → a < 2 ^ 128 → i % 2 ≡ 1 → bit_xor (times_z (field_product (i / 2) a)) a ≡ field_product i a
odd_multiple i a h ha e =
    sym (halves i a h ha ∙ ap (bit_xor (times_z (field_product (i / 2) a))) (ap (λ (x : ℕ). field_product x a) e ∙ ring.one a ha))

pub even_multiple : (i a : ℕ) → i < 16 → a < 2 ^ 128 → i % 2 ≡ 0 → times_z (field_product (i / 2) a) ≡ field_product i a
even_multiple i a h ha e =
    sym (halves i a h ha ∙ ap (bit_xor (times_z (field_product (i / 2) a))) (ap (λ (x : ℕ). field_product x a) e ∙ product_none a ha) ∙ xor_zero_r (times_z (field_product (i / 2) a)))

-- ---- a product with all but the lowest k groups of eight terms of b, and with one group more

pub groups_none : (b a : ℕ) → b < 2 ^ 128 → a < 2 ^ 128 → 0 ≡ field_product (b / 2 ^ 128) a
groups_none b a hb ha = sym (ap (λ (x : ℕ). field_product x a) (div-eq_of_lt hb) ∙ product_none a ha)

-- a group as two halves
group : (g a : ℕ) → g < 256 → a < 2 ^ 128 → field_product g a ≡ bit_xor (field_product (g / 16) (field_product 16 a)) (field_product (g % 16) a)
group g a h ha =
    let high : ℕ = g / 16 in
    ap (λ (x : ℕ). field_product x a) (sym (div-add-mod' g 16))
    ∙ terms 4 high (g % 16) a (omega arith) (omega arith) (omega arith) (mod-lt g (omega arith)) ha
    ∙ ap (λ (x : ℕ). bit_xor x (field_product (g % 16) a))
    (sym (ring.associates 16 high a (omega arith) (omega arith) ha)
    ∙ ap (λ (x : ℕ). field_product x a) (ring.commutes 16 high (omega arith) (omega arith))
    ∙ ring.associates high 16 a (omega arith) (omega arith) ha)

pub groups_more : (b a k : ℕ) → b < 2 ^ 128 → a < 2 ^ 128
    → bit_xor (bit_xor (field_product 256 (field_product (b / 2 ^ (8 * (k + 1))) a)) (field_product (b / 2 ^ (8 * k) % 256 / 16) (field_product 16 a)))
    (field_product (b / 2 ^ (8 * k) % 256 % 16) a) ≡ field_product (b / 2 ^ (8 * k)) a
groups_more b a k hb ha =
    let y : ℕ = b / 2 ^ (8 * k) in
    let x : ℕ = b / 2 ^ (8 * (k + 1)) in
    let above : ℕ = field_product 256 (field_product x a) in
    let e : 8 * (k + 1) ≡ 8 * k + 8 = omega arith in
    let f : y / 256 ≡ x = div-div-eq-div-mul b (2 ^ (8 * k)) 256 ∙ ap (λ (z : ℕ). b / z) (sym (ap (λ (n : ℕ). 2 ^ n) e ∙ pow-add 2 (8 * k) 8)) in
    let s : x * 256 + y % 256 ≡ y = ap (λ (z : ℕ). z * 256 + y % 256) (sym f) ∙ div-add-mod' y 256 in
    let hy : y < 2 ^ 128 = omega (arith, hb, div-le_self b (2 ^ (8 * k))) in
    let hg : y % 256 < 256 = mod-lt y (omega arith) in
    xor_assoc above (field_product (y % 256 / 16) (field_product 16 a)) (field_product (y % 256 % 16) a)
    ∙ ap (bit_xor above) (sym (group (y % 256) a hg ha))
    ∙ sym (terms 8 x (y % 256) a (omega arith) (omega (arith, s, hy)) (omega (arith, s, hy)) hg ha)
    ∙ ap (λ (z : ℕ). field_product z a) s

pub groups_all : (b a : ℕ) → b < 2 ^ 128 → a < 2 ^ 128 → field_product (b / 2 ^ 0) a ≡ field_product a b
groups_all b a hb ha = ap (λ (x : ℕ). field_product x a) (div-one b) ∙ ring.commutes b a hb ha
