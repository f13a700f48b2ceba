use Rattle.std.proofs.Common.{◌≡◌, ℕ, ◌*◌, ◌/◌, List, drop, ap, ◌∙◌, rules}
use Rattle.base.specs.Bytes.{xor_front, zeros}
use Rattle.mode.specs.Cmac.{chained, blocks_before, last_masked, cmac_of}
use Rattle.mode.proofs.Chaining.{absorbed_front}
use Rattle.mode.proofs.mac.cmac.Goals as goal

pub returns-clause-after : goal.returns-clause-after
unfolding cmac_of
returns-clause-after g c =
    let f : List ℕ → List ℕ = g.C.BlockCipher.forward (g.C.BlockCipher.key_of c.args.cipher.now) in
    let m : List ℕ = c.args.message.now in
    let front : List ℕ = c.split_at.result.0.now in
    let last : List ℕ = c.split_at.result.1.now in
    let n : ℕ = c.saturating_sub-before.result / 16 in
    let e : n ≡ blocks_before m = search rules in
    c.finish.ensures
    ∙ ap (λ (z : List ℕ). f (xor_front z (last_masked f last))) (c.absorb.ensures ∙ absorbed_front f (zeros 16) m front last n c.split_at.ensures.by_index.0 c.split_at.ensures.front_len)
    ∙ ap (λ (z : List ℕ). f (xor_front (chained f (zeros 16) n m) (last_masked f z))) c.split_at.ensures.back
    ∙ ap (λ (k : ℕ). f (xor_front (chained f (zeros 16) k m) (last_masked f (drop (k * 16) m)))) e
