-- A bundle taken apart, and put together from its parts.
use Rattle.std.proofs.Common.{◌≡◌, ℕ, ◌+◌, ◌*◌, ◌^◌, ◌<◌, ◌≤◌, List, ◌++◌, length, take, drop, sym, ap, ◌∙◌, arith, length-append, length-take}
use Rattle.std.proofs.lemmas.List.{take_at, drop_at, take_all, drop-drop, take-append-drop}
use Rattle.base.specs.Bytes.{AllBytes}
use Rattle.base.specs.Numbers.{number, bytes}
use Rattle.base.proofs.Strings.{take_bytes, append_bytes}
use Rattle.base.proofs.Digits.{bytes_long, bytes_fit, bytes_number, element_again}
use Rattle.ciphers.specs.Keys.{Key}
use Rattle.mode.specs.Sealing.{sealed, opened}
use Rattle.mode.specs.Bundles.{tau_of, prf_key, blk_key, sealed_under, opened_under}

-- what a bundle of tau and the keys a and b is taken apart into
module _ (tau n : ℕ) (a b : List ℕ) (ht : tau < 2 ^ 128) (ha : length a ≡ n) (hb : length b ≡ n) where
  tau_is : tau_of (bytes 16 tau ++ (a ++ b)) ≡ tau
  tau_is = ap number (take_at (bytes 16 tau) (a ++ b) 16 (bytes_long 16 tau)) ∙ element_again tau ht

  prf_is : prf_key n (bytes 16 tau ++ (a ++ b)) ≡ a
  prf_is = ap (take n) (drop_at (bytes 16 tau) (a ++ b) 16 (bytes_long 16 tau)) ∙ take_at a b n ha

  blk_is : blk_key n (bytes 16 tau ++ (a ++ b)) ≡ b
  blk_is =
      let e : n + 16 ≡ 16 + n = omega arith in
      ap (take n) (ap (λ (k : ℕ). drop k (bytes 16 tau ++ (a ++ b))) (sym e) ∙ back ∙ drop_at a b n ha) ∙ take_all n b (omega arith)
    where
      back : drop (n + 16) (bytes 16 tau ++ (a ++ b)) ≡ drop n (a ++ b)
      back = ap (λ (k : ℕ). drop k (bytes 16 tau ++ (a ++ b))) (omega arith) ∙ sym (drop-drop n 16 (bytes 16 tau ++ (a ++ b))) ∙ ap (drop n) (drop_at (bytes 16 tau) (a ++ b) 16 (bytes_long 16 tau))

  pub sealed_parts : (forward : List ℕ → List ℕ → List ℕ) (nonce ad m : List ℕ) → sealed (forward a) (forward b) tau nonce ad m ≡ sealed_under forward n (bytes 16 tau ++ (a ++ b)) nonce ad m
  unfolding sealed_under
  sealed_parts forward nonce ad m =
      sym (ap (λ (k : List ℕ). sealed (forward k) (forward (blk_key n (bytes 16 tau ++ (a ++ b)))) (tau_of (bytes 16 tau ++ (a ++ b))) nonce ad m) prf_is
      ∙ ap (λ (k : List ℕ). sealed (forward a) (forward k) (tau_of (bytes 16 tau ++ (a ++ b))) nonce ad m) blk_is
      ∙ ap (λ (t : ℕ). sealed (forward a) (forward b) t nonce ad m) tau_is)

  pub opened_parts : (forward back : List ℕ → List ℕ → List ℕ) (nonce ad m : List ℕ) → opened (forward a) (back b) tau nonce ad m ≡ opened_under forward back n (bytes 16 tau ++ (a ++ b)) nonce ad m
  unfolding opened_under
  opened_parts forward back nonce ad m =
      sym (ap (λ (k : List ℕ). opened (forward k) (back (blk_key n (bytes 16 tau ++ (a ++ b)))) (tau_of (bytes 16 tau ++ (a ++ b))) nonce ad m) prf_is
      ∙ ap (λ (k : List ℕ). opened (forward a) (back k) (tau_of (bytes 16 tau ++ (a ++ b))) nonce ad m) blk_is
      ∙ ap (λ (t : ℕ). opened (forward a) (back b) t nonce ad m) tau_is)

-- a bundle is put together from its parts, tau and the two keys
pub bundle_again : (bundle tau keys : List ℕ) → AllBytes bundle → 16 ≤ length bundle → tau ≡ take 16 bundle → keys ≡ drop 16 bundle → bytes 16 (number tau) ++ keys ≡ bundle
bundle_again bundle tau keys h l et ek =
    ap (λ (z : List ℕ). bytes 16 (number z) ++ keys) et
    ∙ ap (λ (z : List ℕ). z ++ keys) (bytes_number 16 (take 16 bundle) (length-take 16 bundle ∙ omega arith) (take_bytes 16 bundle h))
    ∙ ap (λ (z : List ℕ). take 16 bundle ++ z) ek
    ∙ take-append-drop 16 bundle

-- and what is put together so is as long as a bundle
pub bundle_key : (tau n : ℕ) (a b : List ℕ) → Key n a → Key n b → Key (16 + 2 * n) (bytes 16 tau ++ (a ++ b))
bundle_key tau n a b ha hb = record {
  long = length-append (bytes 16 tau) (a ++ b) ∙ omega (arith, bytes_long 16 tau, length-append a b, ha.long, hb.long);
  fit = append_bytes (bytes 16 tau) (a ++ b) (bytes_fit 16 tau) (append_bytes a b ha.fit hb.fit);
}
