use Rattle.std.proofs.Common.{◌≡◌, ℕ, ◌/◌, ◌^◌, ◌<◌, List, get_or, set, refl, ap, ◌∙◌, arith, rules}
use lib.Bits.{bit_xor}
use Rattle.std.proofs.lemmas.List.{length-set}
use Rattle.std.proofs.lemmas.List.Edits.{fill_by_more}
use Rattle.base.specs.Bytes.{zeros}
use Rattle.field.specs.Field.{field_product, times_z}
use Rattle.field.proofs.Places.{first_multiple, odd_multiple, even_multiple}
use Rattle.field.proofs.factors.multiples_of.Goals as goal
use Rattle.field.proofs.factors.multiples_of.Goals.{then-i-eq1, else-i-eq1}

pub loop-i-init : goal.loop-i-init
loop-i-init c = (refl, λ j h. first_multiple (zeros 16) c.args.a (search rules) refl j h)

pub loop-i-preserved : goal.loop-i-preserved
loop-i-preserved c =
    let a : ℕ = c.args.a in
    let i : ℕ = c.loop-i.i in
    let xs : List ℕ = c.loop-i.multiples in
    let fits : a < 2 ^ 128 = search rules in
    let here : i < 16 = omega arith in
    let even : c.double-even.result ≡ times_z (field_product (i / 2) a) = c.double-even.ensures ∙ ap times_z (c.loop-i.invariant.1 (i / 2) (omega arith)) in
    let next : c.if-i-eq1.multiples ≡ field_product i a =
    elim c.if-i-eq1.branch [
      | then-i-eq1 w ↦ w.multiples-is ∙ ap (λ (x : ℕ). bit_xor x a) even ∙ odd_multiple i a here fits w.if-i-eq1.true
      | else-i-eq1 w ↦ w.multiples-is ∙ even ∙ even_multiple i a here fits (omega (arith, w.if-i-eq1.false))
    ] in (
      length-set xs i c.if-i-eq1.multiples ∙ c.loop-i.invariant.0,
      λ j h. ap (λ (x : ℕ). get_or (set xs i x) j 0) next ∙ fill_by_more (λ k. field_product k a) xs i 0 (omega arith) c.loop-i.invariant.1 j h,
    )
