-- The facts of the mode as a kind of sealing, from the laws of the cipher.
use Rattle.std.proofs.Common.{◌≡◌, ℕ, ◌+◌, ◌*◌, ◌≤◌, List, ◌++◌, length, Ok, ◌∙◌, arith, length-append}
use Rattle.base.specs.Bytes.{AllBytes, Block}
use Rattle.base.specs.Blocks.{Message}
use Rattle.base.specs.Numbers.{bytes}
use Rattle.base.proofs.Digits.{bytes_long, bytes_fit}
use Rattle.base.proofs.Strings.{append_bytes}
use Rattle.ciphers.specs.Keys.{Key}
use Rattle.ciphers.specs.declared.cipher.BlockCipher.{Ghosts as Cipher}
use Rattle.mode.specs.Laws.{Inverse, FormLaws, ModeLaws}
use Rattle.mode.specs.Bundles.{sealed_under, opened_under}
use Rattle.boards.specs.declared.ready.Ready.{Ready}
use Rattle.boards.specs.Contexts.{label_limit, padded_label, context_of}
use Rattle.boards.specs.Kinds.{StringOf, Admitted, OpensSealed, SealsOpened, Lawful}
use Rattle.boards.specs.Modes.{opening_answer, sealed_row, opened_row, mode_kind}
use Rattle.boards.specs.Readiness.{bundle_in}
use Rattle.boards.proofs.Labels.{padded_bytes}

-- the laws of a cipher, as a record over its functions, and those of the mode
pub record CipherFacts {C : Type 0} (c : Cipher C) : Type 0 where
  pub mode : ModeLaws
  pub keyed : (x : C) → Key c.key_length (c.key_of x)
  pub undone : (k b : List ℕ) → Key c.key_length k → Block b → c.back k (c.forward k b) ≡ b
  pub redone : (k b : List ℕ) → Key c.key_length k → Block b → c.forward k (c.back k b) ≡ b
  pub ahead : (k b : List ℕ) → Key c.key_length k → Block b → Block (c.forward k b)
  pub behind : (k b : List ℕ) → Key c.key_length k → Block b → Block (c.back k b)

pub opening_ok : (n : ℕ) (bundle label : List ℕ) → opening_answer n bundle label ≡ Ok 0 → (length bundle ≡ 16 + 2 * n) × (length label ≤ label_limit)
opening_ok n bundle label e = grind arith

pub opening_accepts : (n : ℕ) (bundle label : List ℕ) → length bundle ≡ 16 + 2 * n → length label ≤ label_limit → opening_answer n bundle label ≡ Ok 0
opening_accepts n bundle label h l = grind arith

pub nonce_bytes : (n : ℕ) (label : List ℕ) → AllBytes label → AllBytes (context_of n label).nonce
unfolding context_of
nonce_bytes n label fit = append_bytes (bytes 4 n) (padded_label label) (bytes_fit 4 n) (padded_bytes label fit)

pub associated_bytes : (n : ℕ) (label : List ℕ) → AllBytes (context_of n label).associated
unfolding context_of
associated_bytes n label i = omega arith

message : {l h : ℕ} (r : List ℕ) → 16 ≤ l → StringOf l h r → Message r
message r le s = record { long = omega (arith, s.low); fit = s.fit }

module _ {C : Type 0} (c : Cipher C) (L : CipherFacts c) where
  pub inverse : (k : List ℕ) → Key c.key_length k → Inverse (c.forward k) (c.back k)
  inverse k h = record {
    forth = record { ahead = λ b hb. L.ahead k b h hb; same = λ b hb. L.undone k b h hb };
    back = record { ahead = λ b hb. L.behind k b h hb; same = λ b hb. L.redone k b h hb };
  }

  forms : (bundle label : List ℕ) → AllBytes bundle → Admitted (mode_kind c) bundle label → FormLaws (sealed_under c.forward c.key_length bundle) (opened_under c.forward c.back c.key_length bundle)
  forms bundle label fb adm = L.mode.under_bundles c.forward c.back c.key_length inverse bundle (record { long = (opening_ok c.key_length bundle label adm).0; fit = fb })

  pub opens_sealed : Lawful OpensSealed (mode_kind c)
  unfolding sealed_row opened_row
  opens_sealed bundle label fb fl adm =
      let F = forms bundle label fb adm in
      record {
        opens = λ n r h. F.open_undoes_seal _ _ r (nonce_bytes n label fl) (associated_bytes n label) (message r (omega arith) h);
        sealed_long = λ n r h. F.sealed_as_long _ _ r (nonce_bytes n label fl) (associated_bytes n label) (message r (omega arith) h) ∙ omega arith;
        sealed_fit = λ n r h. (F.sealed_is_message _ _ r (nonce_bytes n label fl) (associated_bytes n label) (message r (omega arith) h)).fit;
      }

  pub seals_opened : Lawful SealsOpened (mode_kind c)
  unfolding sealed_row opened_row
  seals_opened bundle label fb fl adm =
      let F = forms bundle label fb adm in
      record {
        seals = λ n q h. F.seal_undoes_open _ _ q (nonce_bytes n label fl) (associated_bytes n label) (message q (omega arith) h);
        opened_long = λ n q h. let e = F.opened_as_long _ _ q (nonce_bytes n label fl) (associated_bytes n label) (message q (omega arith) h) in omega (arith, e);
        opened_fit = λ n q h. (F.opened_is_message _ _ q (nonce_bytes n label fl) (associated_bytes n label) (message q (omega arith) h)).fit;
      }

  -- the bundle of keys that were made
  pub bundle_long : (ready : Ready C) → length (bundle_in c ready) ≡ 16 + 2 * c.key_length
  bundle_long ready =
      let p = c.key_of ready.keys.prf in
      let b = c.key_of ready.keys.blk in
      length-append (bytes 16 ready.keys.tau) (p ++ b) ∙ omega (arith, bytes_long 16 ready.keys.tau, length-append p b, (L.keyed ready.keys.prf).long, (L.keyed ready.keys.blk).long)

  pub bundle_bytes : (ready : Ready C) → AllBytes (bundle_in c ready)
  bundle_bytes ready =
      append_bytes (bytes 16 ready.keys.tau) (c.key_of ready.keys.prf ++ c.key_of ready.keys.blk) (bytes_fit 16 ready.keys.tau)
      (append_bytes (c.key_of ready.keys.prf) (c.key_of ready.keys.blk) (L.keyed ready.keys.prf).fit (L.keyed ready.keys.blk).fit)

  pub ready_opens : (ready : Ready C) → SealsOpened (mode_kind c) (bundle_in c ready) ready.label.bytes
  ready_opens ready =
      seals_opened (bundle_in c ready) ready.label.bytes (bundle_bytes ready) ready.label.formed.1
      (opening_accepts c.key_length (bundle_in c ready) ready.label.bytes (bundle_long ready) (omega (arith, ready.label.formed.0)))
