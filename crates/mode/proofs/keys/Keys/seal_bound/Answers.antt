use Rattle.std.proofs.Common.{ℕ, ◌^◌, ◌<◌, List, ap, ◌∙◌, rules}
use Rattle.base.specs.Bytes.{AllBytes}
use Rattle.mode.specs.Sealing.{beta_one}
use Rattle.mode.proofs.Bound.{sealed_bound}
use Rattle.mode.proofs.keys.Keys.seal_bound.Goals as goal

pub returns : goal.returns
returns g c =
    let m : List ℕ = c.args.message.now in
    let nonce : List ℕ = c.args.bound.now.nonce.now in
    let ad : List ℕ = c.args.bound.now.ad.now in
    let tau : ℕ = c.args.self.now.tau in
    let prf : List ℕ = g.C.BlockCipher.key_of c.args.self.now.prf in
    let blk : List ℕ = g.C.BlockCipher.key_of c.args.self.now.blk in
    let laws = g.met.C.BlockCipher in
    let fits : tau < 2 ^ 128 = search rules in
    let fit : AllBytes m = search rules in
    let e = sealed_bound g.C.BlockCipher.forward g.C.BlockCipher.back g.C.BlockCipher.key_length laws.undone laws.redone laws.ahead laws.behind
    tau prf blk fits (laws.keyed c.args.self.now.prf) (laws.keyed c.args.self.now.blk)
    nonce ad m c.seal_with.new.message c.args.bound.now.bytes.0 c.args.bound.now.bytes.1 (record { long = rw c.requires at c.args.bound.now.message_fits.0; fit = fit })
    c.beta_one-one.result (c.beta_one-one.ensures ∙ ap (beta_one (g.C.BlockCipher.forward prf) nonce ad) c.requires)
    c.seal_with.ensures in
    record { after = e.0; back = e.1 }
