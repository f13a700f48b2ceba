use Rattle.std.proofs.Common.{◌≡◌, ℕ, ◌+◌, List, refl, ◌∙◌, rules}
use lib.Bits.{bit_xor}
use Rattle.base.specs.Numbers.{bytes}
use Rattle.base.specs.Blocks.{blocks_joined}
use Rattle.base.proofs.Digits.{bytes_long}
use Rattle.base.proofs.Cutting.{done_block, done_more}
use Rattle.field.specs.Field.{field_product, field_power}
use Rattle.mode.specs.Hash.{spread}
use Rattle.mode.proofs.Horner.{multiple_none, multiple_more}
use Rattle.mode.proofs.hashing.spread_over.Goals as goal

pub loop-i-init : goal.loop-i-init
unfolding blocks_joined
loop-i-init c = (refl, multiple_none c.args.beta (search rules))

pub loop-i-preserved : goal.loop-i-preserved
loop-i-preserved c =
    let m : List ℕ = c.args.blocks.now in
    let r : ℕ = c.args.r in
    let i : ℕ = c.loop-i.i in
    let F : ℕ → List ℕ = spread r c.args.beta m in
    let more = multiple_more i c.args.beta (search rules) in
    let b : c.double-multiple.result ≡ field_product (field_power 2 (i + 1)) c.args.beta = cc in
    let here = done_block F m c.loop-i.blocks i (λ j h. bytes_long 16 _) c.loop-i.invariant.0 in
    let x : bytes 16 (bit_xor c.element_at.result (bit_xor r c.double-multiple.result)) ≡ F i = cc in
    (c.put_element.ensures ∙ done_more F m c.loop-i.blocks i (λ j h. bytes_long 16 _) c.loop-i.invariant.0 _ x, b)
