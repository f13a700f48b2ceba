use Rattle.std.proofs.Common.{◌≡◌, ℕ, ◌-◌, true, false, List, length, Ok, sym, ap, ◌∙◌, rules}
use Rattle.base.specs.Bytes.{zeros}
use Rattle.mode.specs.Bundles.{opened_under}
use Rattle.mode.specs.Keys.{bundle_of}
use Rattle.mode.specs.Calls.{length_checks}
use Rattle.mode.proofs.Deciding.{proof_passes, proof_declines}
use Rattle.mode.proofs.Genuine.{spare_tested}
use Rattle.mode.proofs.keys.Keys.open_with_proof.Goals as goal

pub returns-then-all_zero : goal.returns-then-all_zero
returns-then-all_zero g c =
    let m : List ℕ = c.args.message.now in
    let last : List ℕ = c.open_bound.new.message in
    let o : List ℕ = opened_under g.C.BlockCipher.forward g.C.BlockCipher.back g.C.BlockCipher.key_length (bundle_of g.C.BlockCipher.key_of c.args.self.now) c.args.nonce.now c.args.ad.now m in
    let parts = c.in_ok-bound.ensures.parts in
    let e : last ≡ o = rw (parts.0, parts.1) at c.open_bound.ensures.after in
    let l : length last ≡ length m = search rules in
    record {
      answer = ap (λ (k : ℕ). Ok (k - 16)) l
          ∙ proof_passes (length_checks (length c.args.nonce.now) (length c.args.ad.now) (length m)) o (Ok (length m - 16)) (sym c.in_ok-bound.ensures.answer) (spare_tested o last true e c.if-all_zero.ensures);
      after = e;
      back = rw (parts.0, parts.1) at c.open_bound.ensures.back;
    }

pub returns-else-all_zero : goal.returns-else-all_zero
returns-else-all_zero g c =
    let m : List ℕ = c.args.message.now in
    let last : List ℕ = c.open_bound.new.message in
    let o : List ℕ = opened_under g.C.BlockCipher.forward g.C.BlockCipher.back g.C.BlockCipher.key_length (bundle_of g.C.BlockCipher.key_of c.args.self.now) c.args.nonce.now c.args.ad.now m in
    let parts = c.in_ok-bound.ensures.parts in
    let e : last ≡ o = rw (parts.0, parts.1) at c.open_bound.ensures.after in
    let l : length last ≡ length m = search rules in
    record {
      answer = proof_declines (length_checks (length c.args.nonce.now) (length c.args.ad.now) (length m)) o (Ok (length m - 16)) (sym c.in_ok-bound.ensures.answer) (spare_tested o last false e c.if-all_zero.ensures);
      after = c.wipe.ensures ∙ ap zeros l;
      back = tt;
    }
