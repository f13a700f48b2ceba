use Rattle.std.proofs.Common.{◌≡◌, ℕ, suc, ◌+◌, ◌-◌, ◌/◌, ◌%◌, ◌^◌, ◌<◌, sym, refl, ap, ◌∙◌, subst, arith, rules}
use lib.Bits.{bit_xor, xor_zero_r}
use Rattle.base.specs.Polynomials.{scaled}
use Rattle.base.proofs.Doubling.{mul, mul_bits, turn}
use Rattle.field.proofs.Products.{times_z_lt, times_z_twice, product_mul}
use Rattle.field.proofs.product.Goals as goal
use Rattle.field.proofs.product.Goals.{then-rest-eq1, else-rest-eq1}

pub loop-bit-init : goal.loop-bit-init
unfolding mul
loop-bit-init c = (search rules, refl)

pub loop-bit-preserved : goal.loop-bit-preserved
loop-bit-preserved c =
    let fits : c.loop-bit.multiple < 2 ^ 128 = c.loop-bit.invariant.0 in
    let added : c.if-rest-eq1.sum ≡ bit_xor c.loop-bit.sum (scaled (c.loop-bit.rest % 2) c.loop-bit.multiple) =
    elim c.if-rest-eq1.branch [
      | then-rest-eq1 w ↦ w.sum-is ∙ sym (ap (λ (d : ℕ). bit_xor c.loop-bit.sum (scaled d c.loop-bit.multiple)) w.if-rest-eq1.true)
      | else-rest-eq1 w ↦ (let z : c.loop-bit.rest % 2 ≡ 0 = omega (arith, w.if-rest-eq1.false) in
          w.sum-is ∙ sym (ap (λ (d : ℕ). bit_xor c.loop-bit.sum (scaled d c.loop-bit.multiple)) z ∙ xor_zero_r c.loop-bit.sum))
    ] in
    let n : suc (128 - (c.loop-bit._bit + 1)) ≡ 128 - c.loop-bit._bit = omega arith in (
      subst (λ (z : ℕ). z < 2 ^ 128) (sym c.double-multiple.ensures) (times_z_lt c.loop-bit.multiple fits),
      ap (λ (z : ℕ). bit_xor z (mul_bits 127 135 (128 - (c.loop-bit._bit + 1)) (c.loop-bit.rest / 2) c.double-multiple.result)) added
          ∙ ap (λ (z : ℕ). bit_xor (bit_xor c.loop-bit.sum (scaled (c.loop-bit.rest % 2) c.loop-bit.multiple)) (mul_bits 127 135 (128 - (c.loop-bit._bit + 1)) (c.loop-bit.rest / 2) z))
          (c.double-multiple.ensures ∙ times_z_twice c.loop-bit.multiple fits)
          ∙ turn 127 135 (128 - (c.loop-bit._bit + 1)) c.loop-bit.rest c.loop-bit.multiple c.loop-bit.sum
          ∙ ap (λ (z : ℕ). bit_xor c.loop-bit.sum (mul_bits 127 135 z c.loop-bit.rest c.loop-bit.multiple)) n
          ∙ c.loop-bit.invariant.1,
    )

pub returns : goal.returns
unfolding mul_bits
returns c =
    let n : 0 ≡ 128 - c.loop-bit._bit = omega arith in
    sym (xor_zero_r c.loop-bit.sum) ∙ ap (λ (z : ℕ). bit_xor c.loop-bit.sum (mul_bits 127 135 z c.loop-bit.rest c.loop-bit.multiple)) n ∙ c.loop-bit.invariant.1
    ∙ sym (product_mul c.args.a c.args.b (search rules))
