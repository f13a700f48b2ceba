use Rattle.std.proofs.Common.{ℕ, List, sym, ap, ◌∙◌}
use Rattle.std.specs.Slice.Iter.{chunks_rest}
use Rattle.mode.proofs.Chaining.{absorbed_none, absorbed_more}
use Rattle.mode.proofs.mac.absorb.Goals as goal

pub loop-block-preserved : goal.loop-block-preserved
loop-block-preserved g c =
    let f : List ℕ → List ℕ = g.C.BlockCipher.forward (g.C.BlockCipher.key_of c.args.cipher.now) in
    let s : List ℕ = c.loop-block.state in
    let t : List ℕ = chunks_rest c.loop-block.block-iterator in
    let block : List ℕ = c.in-Some.block.now in
    let rest : List ℕ = chunks_rest c.next.new.self in
    let steps = c.in-Some.ensures.steps in
    let size = c.loop-block.invariant.0 in (
      steps.0 ∙ size,
      absorbed_more f s t block rest c.encrypt.new.block (c.encrypt.ensures ∙ ap f c.xor_front.ensures) steps.1.0 (rw size at steps.1.1) steps.1.2 ∙ c.loop-block.invariant.1,
    )

pub returns : goal.returns
returns g c =
    let f : List ℕ → List ℕ = g.C.BlockCipher.forward (g.C.BlockCipher.key_of c.args.cipher.now) in
    sym (absorbed_none f c.loop-block.state (chunks_rest c.loop-block.block-iterator) c.in-None.ensures.steps.1.0) ∙ c.loop-block.invariant.1
