-- The laws of words: rotations and sums modulo 2^64 are undone.
use Rattle.std.specs.Prelude.{◌≡◌, ℕ, ◌+◌, ◌*◌, ◌/◌, ◌%◌, ◌^◌, ◌<◌, bit_or}
use Rattle.std.proofs.Common.{sym, ap, ◌∙◌, subst, mod-lt, add-zero, arith, pow_pos, pow-add}
use Rattle.std.proofs.Math.Nat.{mul-mod_left}
use Rattle.std.proofs.Math.Pow.{high, low, split}
use Rattle.std.proofs.Math.Arith.{digits_lt}
use Rattle.std.proofs.lemmas.Nat.{shr_below, or_shifted, or_comm, mod-pow-add, shl-shr}
use Rattle.ciphers.specs.Words.{rotated, plus, minus}

pub shl_mod : (a j k : ℕ) → (a * 2 ^ k) % 2 ^ (j + k) ≡ (a % 2 ^ j) * 2 ^ k
shl_mod a j k =
    mod-pow-add (a * 2 ^ k) j k ∙ ap (λ (x : ℕ). (x % 2 ^ j) * 2 ^ k + (a * 2 ^ k) % 2 ^ k) (shl-shr a k)
    ∙ ap (λ (x : ℕ). (a % 2 ^ j) * 2 ^ k + x) (mul-mod_left a (2 ^ k)) ∙ add-zero _

-- what `rotate_left` gives, and `rotate_right`
pub rotate_left : (j k a : ℕ) → a < 2 ^ (k + j) → bit_or ((a * 2 ^ k) % 2 ^ (j + k)) (a / 2 ^ j) ≡ rotated j k a
unfolding rotated
rotate_left j k a h = ap (λ (x : ℕ). bit_or x (a / 2 ^ j)) (shl_mod a j k) ∙ or_shifted (a % 2 ^ j) k (a / 2 ^ j) (shr_below a k j h)

pub rotate_right : (j k a : ℕ) → a < 2 ^ (k + j) → bit_or (a / 2 ^ j) ((a * 2 ^ k) % 2 ^ (j + k)) ≡ rotated j k a
rotate_right j k a h = or_comm (a / 2 ^ j) _ ∙ rotate_left j k a h

pub rotated_lt : (j k a : ℕ) → a < 2 ^ (k + j) → rotated j k a < 2 ^ (j + k)
unfolding rotated
rotated_lt j k a h = subst (λ (x : ℕ). (a % 2 ^ j) * 2 ^ k + a / 2 ^ j < x) (sym (pow-add 2 j k)) (digits_lt (mod-lt a (pow_pos j)) (shr_below a k j h))

pub rotated_back : (j k a : ℕ) → a < 2 ^ (k + j) → rotated k j (rotated j k a) ≡ a
unfolding rotated
rotated_back j k a h =
    let r : a / 2 ^ j < 2 ^ k = shr_below a k j h in
    ap (λ (x : ℕ). x * 2 ^ j + ((a % 2 ^ j) * 2 ^ k + a / 2 ^ j) / 2 ^ k) (low (a % 2 ^ j) k r)
    ∙ ap (λ (x : ℕ). (a / 2 ^ j) * 2 ^ j + x) (high (a % 2 ^ j) k r)
    ∙ split a j

pub minus_plus : (a b : ℕ) → a < 2 ^ 64 → b < 2 ^ 64 → minus (plus a b) b ≡ a
unfolding plus minus
minus_plus a b h k = omega arith

pub plus_minus : (a b : ℕ) → a < 2 ^ 64 → b < 2 ^ 64 → plus (minus a b) b ≡ a
unfolding plus minus
plus_minus a b h k = omega arith

pub plus_lt : (a b : ℕ) → plus a b < 2 ^ 64
unfolding plus
plus_lt a b = omega arith

pub minus_lt : (a b : ℕ) → minus a b < 2 ^ 64
unfolding minus
minus_lt a b = omega arith
