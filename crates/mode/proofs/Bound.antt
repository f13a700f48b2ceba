-- What sealing and opening by a cipher leave, under the bundle of its keys, and that each gives back what the other took.
use Rattle.std.proofs.Common.{◌≡◌, ℕ, ◌^◌, ◌<◌, List, ◌++◌, length, ap, ◌∙◌}
use Rattle.base.specs.Bytes.{AllBytes, Block}
use Rattle.base.specs.Blocks.{Message}
use Rattle.base.specs.Numbers.{bytes}
use Rattle.ciphers.specs.Keys.{Key}
use Rattle.field.specs.Field.{times_z}
use Rattle.mode.specs.Sealing.{beta_one, sealed_with, opened_with, sealed, opened}
use Rattle.mode.specs.Bundles.{sealed_under, opened_under}
use Rattle.mode.specs.Laws.{FormLaws}
use Rattle.mode.proofs.Bundling.{bundle_key, sealed_parts, opened_parts}
use Rattle.mode.proofs.Lawful.{under_bundle}

module _
    (forward back : List ℕ → List ℕ → List ℕ)
    (n : ℕ)
    (undone : (k b : List ℕ) → Key n k → Block b → back k (forward k b) ≡ b)
    (redone : (k b : List ℕ) → Key n k → Block b → forward k (back k b) ≡ b)
    (ahead : (k b : List ℕ) → Key n k → Block b → Block (forward k b))
    (behind : (k b : List ℕ) → Key n k → Block b → Block (back k b))
    (tau : ℕ)
    (prf blk : List ℕ)
    (ht : tau < 2 ^ 128)
    (hp : Key n prf)
    (hk : Key n blk)
    (nonce ad m new : List ℕ)
    (hn : AllBytes nonce)
    (ha : AllBytes ad)
    (hm : Message m)
    (one : ℕ)
    (e : one ≡ beta_one (forward prf) nonce ad (length m))
  where
    laws : FormLaws (sealed_under forward n (bytes 16 tau ++ (prf ++ blk))) (opened_under forward back n (bytes 16 tau ++ (prf ++ blk)))
    laws = under_bundle forward back n
        (λ k h. record {
          forth = record { ahead = λ b. ahead k b h; same = λ b. undone k b h };
          back = record { ahead = λ b. behind k b h; same = λ b. redone k b h };
        })
        (bytes 16 tau ++ (prf ++ blk)) (bundle_key tau n prf blk hp hk)

    pub sealed_bound : new ≡ sealed_with (forward blk) tau one (times_z one) m →
        (new ≡ sealed_under forward n (bytes 16 tau ++ (prf ++ blk)) nonce ad m) × (opened_under forward back n (bytes 16 tau ++ (prf ++ blk)) nonce ad new ≡ m)
    unfolding sealed
    sealed_bound h =
        let s : new ≡ sealed_under forward n (bytes 16 tau ++ (prf ++ blk)) nonce ad m =
        h ∙ ap (λ (z : ℕ). sealed_with (forward blk) tau z (times_z z) m) e ∙ sealed_parts tau n prf blk ht hp.long hk.long forward nonce ad m in
        (s, ap (opened_under forward back n (bytes 16 tau ++ (prf ++ blk)) nonce ad) s ∙ laws.open_undoes_seal nonce ad m hn ha hm)

    pub opened_bound : new ≡ opened_with (back blk) tau one (times_z one) m →
        (new ≡ opened_under forward back n (bytes 16 tau ++ (prf ++ blk)) nonce ad m) × (sealed_under forward n (bytes 16 tau ++ (prf ++ blk)) nonce ad new ≡ m)
    unfolding opened
    opened_bound h =
        let s : new ≡ opened_under forward back n (bytes 16 tau ++ (prf ++ blk)) nonce ad m =
        h ∙ ap (λ (z : ℕ). opened_with (back blk) tau z (times_z z) m) e ∙ opened_parts tau n prf blk ht hp.long hk.long forward back nonce ad m in
        (s, ap (sealed_under forward n (bytes 16 tau ++ (prf ++ blk)) nonce ad) s ∙ laws.seal_undoes_open nonce ad m hn ha hm)
