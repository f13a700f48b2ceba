use Rattle.std.proofs.Common.{◌≡◌, ℕ, ◌+◌, ◌*◌, List, ◌++◌, length, Ok, sym, ap, ◌∙◌, arith, rules}
use Rattle.base.specs.Bytes.{AllBytes}
use Rattle.base.specs.Numbers.{number, bytes}
use Rattle.mode.proofs.Bundling.{bundle_again}
use Rattle.mode.proofs.Deciding.{bundle_passes}
use Rattle.mode.proofs.keys.Keys.from_bundle.Goals as goal

pub returns : goal.returns
returns g c =
    let b : List ℕ = c.args.bundle.now in
    let fit : AllBytes b = search rules in
    let tau : List ℕ = c.in_ok-tau.tau.now in
    let keys : List ℕ = c.in_ok-tau.keys.now in
    let prf : List ℕ = g.C.BlockCipher.key_of c.in_ok-prf.prf in
    let blk : List ℕ = g.C.BlockCipher.key_of c.in_ok-blk.blk in
    let parts = rw c.in_ok-tau.ensures.ok_part at c.split_first_chunk.ensures.cases in
    let k : length b ≡ 16 + 2 * g.C.BlockCipher.key_length = omega (arith, parts.2, c.stated_key_len-n.ensures) in
    let joined : prf ++ blk ≡ keys = ap (λ (z : List ℕ). z ++ blk) c.in_ok-prf.ensures.1 ∙ ap (λ (z : List ℕ). c.split_at.result.0.now ++ z) c.in_ok-blk.ensures.1 ∙ sym c.split_at.ensures.by_index.0 in
    ap Ok
    (ap (λ (t : ℕ). bytes 16 t ++ (prf ++ blk)) c.element-tau.ensures
    ∙ ap (λ (z : List ℕ). bytes 16 (number tau) ++ z) joined
    ∙ bundle_again b tau keys fit (omega arith) parts.0 parts.1)
    ∙ bundle_passes g.C.BlockCipher.key_length (length b) (Ok b) k
