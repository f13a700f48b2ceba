use Rattle.std.proofs.Common.{◌≡◌, ℕ, ◌-◌, List, length, ap, ◌∙◌, rules}
use borrow.Rule.Slice.PartMut.{put_mid}
use Rattle.mode.specs.Bundles.{sealed_under}
use Rattle.mode.specs.Keys.{bundle_of}
use Rattle.mode.specs.Calls.{spare_zeroed}
use Rattle.mode.proofs.Genuine.{wiped_spare}
use Rattle.mode.proofs.keys.Keys.seal_with_proof.Goals as goal

pub returns : goal.returns
returns g c =
    let m : List ℕ = c.args.message.now in
    let k : put_mid (length m - 16) (length m - (length m - 16)) m c.wipe.new.s ≡ spare_zeroed m = wiped_spare m c.wipe.new.s (search rules) c.wipe.ensures in
    let parts = c.in_ok-bound.ensures.parts in
    record {
      answer = search rules;
      after = rw (parts.0, parts.1) at c.seal_bound.ensures.after
          ∙ ap (sealed_under g.C.BlockCipher.forward g.C.BlockCipher.key_length (bundle_of g.C.BlockCipher.key_of c.args.self.now) c.args.nonce.now c.args.ad.now) k;
      back = rw (parts.0, parts.1) at c.seal_bound.ensures.back ∙ k;
    }
