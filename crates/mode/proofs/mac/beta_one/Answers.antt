use Rattle.std.proofs.Common.{◌≡◌, ℕ, List, ap, ◌∙◌}
use Rattle.base.specs.Bytes.{xor_front, zeros}
use Rattle.base.specs.Numbers.{number}
use Rattle.mode.specs.Cmac.{absorbed, last_masked}
use Rattle.mode.specs.Sealing.{beta_one}
use Rattle.mode.proofs.Chaining.{cmac_bound}
use Rattle.mode.proofs.mac.beta_one.Goals as goal

pub returns : goal.returns
unfolding beta_one
returns g c =
    let f : List ℕ → List ℕ = g.C.BlockCipher.forward (g.C.BlockCipher.key_of c.args.prf.now) in
    let n : List ℕ = c.args.bound.now.nonce.now in
    let a : List ℕ = c.args.bound.now.ad.now in
    let e : c.absorb-2.new.state ≡ absorbed f (absorbed f (zeros 16) n) a = c.absorb-2.ensures ∙ ap (λ (z : List ℕ). absorbed f z a) c.absorb.ensures in
    c.element.ensures
    ∙ ap number (c.finish.ensures
    ∙ ap (λ (z : List ℕ). f (xor_front z (last_masked f c.as_flattened.result.now))) e
    ∙ ap (λ (z : List ℕ). f (xor_front (absorbed f (absorbed f (zeros 16) n) a) (last_masked f z))) (c.as_flattened.ensures.value ∙ c.length_parts-lengths.ensures)
    ∙ cmac_bound f n a c.args.bound.now.message)
