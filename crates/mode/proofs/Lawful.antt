-- The laws of the mode.
use Rattle.std.proofs.Common.{◌≡◌, ℕ, ◌+◌, ◌*◌, ◌^◌, ◌<◌, List, length, drop, sym, ap, ◌∙◌, arith, length-drop, length-take}
use Rattle.base.specs.Bytes.{AllBytes}
use Rattle.base.specs.Blocks.{Message}
use Rattle.base.proofs.Strings.{take_bytes, drop_bytes}
use Rattle.ciphers.specs.Keys.{Key}
use Rattle.mode.specs.Sealing.{beta_one, beta_two, sealed_with, opened_with, sealed, opened}
use Rattle.mode.specs.Bundles.{tau_of, prf_key, blk_key, sealed_under, opened_under}
use Rattle.mode.specs.Calls.{genuine, spare_zeroed}
use Rattle.mode.specs.Laws.{OnBlocks, Inverse, FormLaws, ModeLaws}
use Rattle.mode.proofs.Binding.{one_lt, two_lt}
use Rattle.mode.proofs.Undoing.{unhash_hash, hash_unhash}
use Rattle.mode.proofs.Ciphering.{decipher_encipher, encipher_decipher}
use Rattle.mode.proofs.Genuine.{zeroed_message, zeroed_genuine}
use Rattle.mode.proofs.Whole as whole
use Rattle.mode.proofs.Alike.{sealed_alike}

module _ (prf blk blk_back : List ℕ → List ℕ) (hp : OnBlocks prf) (inverse : Inverse blk blk_back) (tau : ℕ) where
  module _ (nonce ad : List ℕ) (hn : AllBytes nonce) (ha : AllBytes ad) where
    -- the betas are elements
    lt-one : (l : ℕ) → beta_one prf nonce ad l < 2 ^ 128
    lt-one l = one_lt prf hp nonce ad l hn ha

    lt-two : (l : ℕ) → beta_two prf nonce ad l < 2 ^ 128
    lt-two l = two_lt prf hp nonce ad l hn ha

    pub sealed_long : (m : List ℕ) → Message m → length (sealed prf blk tau nonce ad m) ≡ length m
    unfolding sealed
    sealed_long m hm = whole.sealed_long blk blk_back tau _ _ m (lt-one (length m)) (lt-two (length m)) hm inverse.forth

    pub opened_long : (m : List ℕ) → Message m → length (opened prf blk_back tau nonce ad m) ≡ length m
    unfolding opened
    opened_long m hm = whole.opened_long blk blk_back tau _ _ m (lt-one (length m)) (lt-two (length m)) hm inverse.back

    pub sealed_message : (m : List ℕ) → Message m → Message (sealed prf blk tau nonce ad m)
    unfolding sealed
    sealed_message m hm = whole.sealed_message blk blk_back tau _ _ m (lt-one (length m)) (lt-two (length m)) hm inverse.forth

    pub opened_message : (m : List ℕ) → Message m → Message (opened prf blk_back tau nonce ad m)
    unfolding opened
    opened_message m hm = whole.opened_message blk blk_back tau _ _ m (lt-one (length m)) (lt-two (length m)) hm inverse.back

    pub open_seal : (m : List ℕ) → Message m → opened prf blk_back tau nonce ad (sealed prf blk tau nonce ad m) ≡ m
    unfolding sealed opened
    open_seal m hm =
        ap (λ (l : ℕ). opened_with blk_back tau (beta_one prf nonce ad l) (beta_two prf nonce ad l) (sealed_with blk tau (beta_one prf nonce ad (length m)) (beta_two prf nonce ad (length m)) m)) (sealed_long m hm)
        ∙ whole.open_seal blk blk_back tau _ _ m (lt-one (length m)) (lt-two (length m)) hm inverse.forth

    pub seal_open : (m : List ℕ) → Message m → sealed prf blk tau nonce ad (opened prf blk_back tau nonce ad m) ≡ m
    unfolding sealed opened
    seal_open m hm =
        ap (λ (l : ℕ). sealed_with blk tau (beta_one prf nonce ad l) (beta_two prf nonce ad l) (opened_with blk_back tau (beta_one prf nonce ad (length m)) (beta_two prf nonce ad (length m)) m)) (opened_long m hm)
        ∙ whole.seal_open blk blk_back tau _ _ m (lt-one (length m)) (lt-two (length m)) hm inverse.back

  -- two messages with one sealed form are one
  sealed_same : (nonce ad m other : List ℕ) → AllBytes nonce → AllBytes ad → Message m → Message other → sealed prf blk tau nonce ad m ≡ sealed prf blk tau nonce ad other → m ≡ other
  sealed_same nonce ad m other hn ha hm ho e =
      sym (open_seal nonce ad hn ha m hm) ∙ ap (opened prf blk_back tau nonce ad) e ∙ open_seal nonce ad hn ha other ho

  pub form_laws : FormLaws (sealed prf blk tau) (opened prf blk_back tau)
  form_laws = record {
    open_undoes_seal = λ nonce ad m hn ha hm. open_seal nonce ad hn ha m hm;
    seal_undoes_open = λ nonce ad m hn ha hm. seal_open nonce ad hn ha m hm;
    sealed_as_long = λ nonce ad m hn ha hm. sealed_long nonce ad hn ha m hm;
    opened_as_long = λ nonce ad m hn ha hm. opened_long nonce ad hn ha m hm;
    sealed_is_message = λ nonce ad m hn ha hm. sealed_message nonce ad hn ha m hm;
    opened_is_message = λ nonce ad m hn ha hm. opened_message nonce ad hn ha m hm;
    sealed_apart = λ nonce ad m other hn ha hm ho l ne e. ne (sealed_same nonce ad m other hn ha hm ho e);
    some_message = λ nonce ad s hn ha hs l.
        (opened prf blk_back tau nonce ad s, (opened_message nonce ad hn ha s hs, opened_long nonce ad hn ha s hs, seal_open nonce ad hn ha s hs));
    only_message = λ nonce ad s m other hn ha hm ho lm lo em eo. sealed_same nonce ad m other hn ha hm ho (em ∙ sym eo);
    sealed_with_proof_is_genuine = λ nonce ad m hn ha hm.
        ap genuine (open_seal nonce ad hn ha (spare_zeroed m) (zeroed_message m hm)) ∙ zeroed_genuine m hm.long;
  }

pub under_bundle : (forward back : List ℕ → List ℕ → List ℕ) (n : ℕ) → ((k : List ℕ) → Key n k → Inverse (forward k) (back k)) →
    (bundle : List ℕ) → Key (16 + 2 * n) bundle → FormLaws (sealed_under forward n bundle) (opened_under forward back n bundle)
unfolding sealed_under opened_under
under_bundle forward back n inverse bundle h =
    let prf : Key n (prf_key n bundle) = record
    { long = length-take n (drop 16 bundle) ∙ simp length-drop (omega (arith, h.long)); fit = take_bytes n (drop 16 bundle) (drop_bytes 16 bundle h.fit) } in
    let blk : Key n (blk_key n bundle) = record
    { long = length-take n (drop (16 + n) bundle) ∙ simp length-drop (omega (arith, h.long)); fit = take_bytes n (drop (16 + n) bundle) (drop_bytes (16 + n) bundle h.fit) } in
    form_laws (forward (prf_key n bundle)) (forward (blk_key n bundle)) (back (blk_key n bundle)) (inverse (prf_key n bundle) prf).forth.ahead (inverse (blk_key n bundle) blk) (tau_of bundle)

pub laws : ModeLaws
laws = record {
  unhash_undoes_hash = λ tau beta m h hm. unhash_hash tau beta m h hm;
  hash_undoes_unhash = λ tau beta m h hm. hash_unhash tau beta m h hm;
  decipher_undoes_encipher = λ f g inverse m hm. decipher_encipher f g inverse.forth m hm;
  encipher_undoes_decipher = λ f g inverse m hm. encipher_decipher f g inverse.back m hm;
  forms = form_laws;
  under_bundles = under_bundle;
  alike_under_bundles = sealed_alike;
  spare_zeroed_genuine = zeroed_genuine;
}
