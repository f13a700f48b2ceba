use Rattle.std.proofs.Common.{◌≡◌, ℕ, ◌-◌, ◌/◌, ◌<◌, List, [], length, refl, ap, ◌∙◌, arith, rules, length-take}
use Rattle.std.proofs.lemmas.List.{get_or-take}
use lib.Bits.{bit_xor}
use Rattle.base.specs.Bytes.{AllBytes}
use Rattle.base.specs.Blocks.{Message, last_index}
use Rattle.field.specs.Field.{field_product}
use Rattle.mode.specs.Hash.{sum_to, element_at, tail_element}
use Rattle.mode.proofs.Chunks.{chunk_block}
use Rattle.mode.proofs.Horner.{before, weighed, weighed_more, weighed_all}
use Rattle.mode.proofs.Undoing.{hash_is, parts_lt, tail_element_lt}
use Rattle.mode.proofs.hashing.poly_hash.Goals as goal

pub loop-block-init : goal.loop-block-init
unfolding sum_to
loop-block-init c = refl

pub loop-block-preserved : goal.loop-block-preserved
loop-block-preserved c =
    let m : List ℕ = c.args.message.now in
    let fit : AllBytes m = search rules in
    let hm : Message m = record { long = c.requires; fit = fit } in
    let blocks : List (List ℕ) = c.as_chunks.result.0.now in
    let i : ℕ = c.loop-block.block-index in
    let n : length blocks ≡ length m / 16 = c.as_chunks.ensures.front_len in
    let l : i < length blocks - 1 = omega (arith, length-take (length blocks - 1) blocks) in
    let cut = get_or-take (length blocks - 1) blocks i [] l in
    let read = chunk_block (length m / 16) i m (omega arith) in
    let x : c.element.result ≡ element_at i m = cc in
    weighed_more c.args.tau.now c.times-sum.ensures.element (λ j. element_at j m) i c.loop-block.sum c.element.result c.times-sum.result
    (λ j h. parts_lt m hm j (omega arith)) c.loop-block.invariant x c.times-sum.ensures.product

pub returns : goal.returns
returns c =
    let m : List ℕ = c.args.message.now in
    let tau : ℕ = c.args.tau.now in
    let fit : AllBytes m = search rules in
    let hm : Message m = record { long = c.requires; fit = fit } in
    let blocks : List (List ℕ) = c.as_chunks.result.0.now in
    let n : ℕ = last_index m in
    let F : ℕ → ℕ = λ i. element_at i m in
    let size : length blocks ≡ length m / 16 = c.as_chunks.ensures.front_len in
    let e : c.loop-block.block-index ≡ n = omega (arith, length-take (length blocks - 1) blocks) in
    let f : length blocks - 1 ≡ n = omega arith in
    let w : c.loop-block.sum ≡ weighed tau F n = c.loop-block.invariant ∙ ap (weighed tau F) e in
    let t : c.element-2.result ≡ tail_element m = cc in
    let b : c.times.result ≡ before tau F n (tail_element m) =
    weighed_all tau c.times.ensures.element F n c.loop-block.sum (tail_element m) c.times.result
    (λ i h. parts_lt m hm i (omega arith)) (tail_element_lt m hm) w
    (c.times.ensures.product ∙ ap (λ (z : ℕ). field_product tau (bit_xor c.loop-block.sum z)) t) in
    let read = chunk_block (length m / 16) n m (omega arith) in
    let l : c.element-3.result ≡ element_at n m = cc in
    let whole = hash_is tau m c.requires in
    cc
