use Rattle.std.proofs.Common.{◌≡◌, ◌%◌, ◌∙◌, sym, arith, rules}
use lib.Bits.{bit_xor}
use Rattle.base.specs.Polynomials.{scaled}
use Rattle.base.proofs.Doubling.{mul}
use Rattle.ciphers.specs.AesFieldLemmas.{product_mul}
use Rattle.ciphers.proofs.AesLoops.{chosen, not_chosen, bits_more, bits_all}
use Rattle.ciphers.proofs.aes.field.times.Goals as goal
use Rattle.ciphers.proofs.aes.field.times.Goals.{then-bits-eq1, else-bits-eq1}

pub loop-i-init : goal.loop-i-init
unfolding mul
loop-i-init c = search rules

pub loop-i-preserved : goal.loop-i-preserved
loop-i-preserved c =
    let e : c.if-bits-eq1.sum ≡ bit_xor c.loop-i.sum (scaled (c.loop-i.bits % 2) c.loop-i.multiple) =
    elim c.if-bits-eq1.branch [
      | then-bits-eq1 w ↦ w.sum-is ∙ chosen c.loop-i.sum c.loop-i.bits c.loop-i.multiple (search rules)
      | else-bits-eq1 w ↦ w.sum-is ∙ not_chosen c.loop-i.sum c.loop-i.bits c.loop-i.multiple (search rules)
    ] in
    bits_more c.loop-i.sum c.loop-i.bits c.loop-i.multiple c.loop-i._i c.if-bits-eq1.sum c.double-multiple.result _ (search rules) (search rules) e c.double-multiple.ensures c.loop-i.invariant

pub returns : goal.returns
returns c = bits_all c.loop-i.sum c.loop-i.bits c.loop-i.multiple c.loop-i._i _ (omega arith) c.loop-i.invariant ∙ sym (product_mul c.args.factor c.args.a (search rules))
