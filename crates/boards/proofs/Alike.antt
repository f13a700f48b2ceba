-- Two ciphers that turn blocks alike seal alike.
use Rattle.std.proofs.Common.{◌≡◌, ℕ, ◌+◌, List, drop, ap, ◌∙◌, arith, length-drop, length-take}
use Rattle.base.specs.Bytes.{AllBytes}
use Rattle.base.proofs.Strings.{take_bytes, drop_bytes}
use Rattle.ciphers.specs.Keys.{Key}
use Rattle.ciphers.specs.declared.cipher.BlockCipher.{Ghosts as Cipher}
use Rattle.mode.specs.Bundles.{prf_key, blk_key, sealed_under}
use Rattle.boards.specs.Contexts.{context_of}
use Rattle.boards.specs.Kinds.{StringOf, Admitted}
use Rattle.boards.specs.Modes.{sealed_row, mode_kind, TurnAlike}
use Rattle.boards.specs.Promise.{SealAlike}
use Rattle.boards.proofs.ModeFacts.{CipherFacts, opening_ok, nonce_bytes, associated_bytes}

-- two ciphers that turn blocks alike seal alike
pub turn_alike : {C E : Type 0} (c : Cipher C) (e : Cipher E) → CipherFacts c → (bundle label : List ℕ) → TurnAlike c e bundle → SealAlike (mode_kind c) (mode_kind e) bundle label
unfolding sealed_row
turn_alike c e L bundle label alike = record { seals_alike = λ fb fl adm n r h. go fb fl adm n r h } where
  prf_key_lem : AllBytes bundle → Admitted (mode_kind c) bundle label → Key c.key_length (prf_key c.key_length bundle)
  prf_key_lem fb adm = record { long = length-take c.key_length (drop 16 bundle) ∙ simp length-drop (omega (arith, (opening_ok c.key_length bundle label adm).0)); fit = take_bytes c.key_length (drop 16 bundle) (drop_bytes 16 bundle fb) }

  blk_key_lem : AllBytes bundle → Admitted (mode_kind c) bundle label → Key c.key_length (blk_key c.key_length bundle)
  blk_key_lem fb adm = record { long = length-take c.key_length (drop (16 + c.key_length) bundle) ∙ simp length-drop (omega (arith, (opening_ok c.key_length bundle label adm).0)); fit = take_bytes c.key_length (drop (16 + c.key_length) bundle) (drop_bytes (16 + c.key_length) bundle fb) }

  go : AllBytes bundle → AllBytes label → Admitted (mode_kind c) bundle label → (n : ℕ) (r : List ℕ) → StringOf 16 1000 r → sealed_row c bundle label n r ≡ sealed_row e bundle label n r
  go fb fl adm n r h =
      L.mode.alike_under_bundles c.forward e.forward c.key_length bundle
      (λ b hb. L.ahead (prf_key c.key_length bundle) b (prf_key_lem fb adm) hb) (λ b hb. L.ahead (blk_key c.key_length bundle) b (blk_key_lem fb adm) hb)
      alike.same_by_prf_key alike.same_by_blk_key
      (context_of n label).nonce (context_of n label).associated r (nonce_bytes n label fl) (associated_bytes n label) (record { long = h.low; fit = h.fit })
      ∙ ap (λ (x : ℕ). sealed_under e.forward x bundle (context_of n label).nonce (context_of n label).associated r) alike.one_key_length
