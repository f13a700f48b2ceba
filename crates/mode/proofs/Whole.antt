-- Sealing and opening with two betas, each the other's inverse.
use Rattle.std.proofs.Common.{◌≡◌, ℕ, ◌^◌, ◌<◌, List, length, ap, ◌∙◌}
use Rattle.base.specs.Blocks.{Message}
use Rattle.mode.specs.Hash.{hashed, unhashed}
use Rattle.mode.specs.Enciphering.{enciphered, deciphered}
use Rattle.mode.specs.Sealing.{sealed_with, opened_with}
use Rattle.mode.specs.Laws.{Undoes}
use Rattle.mode.proofs.Ciphering.{enciphered_message, enciphered_long, deciphered_message, deciphered_long, decipher_encipher, encipher_decipher}
use Rattle.mode.proofs.Undoing.{unhash_hash, hash_unhash, hashed_message, unhashed_message, hashed_long, unhashed_long}

module _ (f g : List ℕ → List ℕ) (tau one two : ℕ) (m : List ℕ) (h1 : one < 2 ^ 128) (h2 : two < 2 ^ 128) (hm : Message m) where
  pub open_seal : Undoes f g → opened_with g tau one two (sealed_with f tau one two m) ≡ m
  unfolding opened_with sealed_with
  open_seal fg =
      let h : Message (hashed tau one m) = hashed_message tau one m h1 hm in
      let e : Message (enciphered f (hashed tau one m)) = enciphered_message f g fg (hashed tau one m) h in
      ap (λ (z : List ℕ). unhashed tau one (deciphered g z)) (hash_unhash tau two (enciphered f (hashed tau one m)) h2 e)
      ∙ ap (unhashed tau one) (decipher_encipher f g fg (hashed tau one m) h)
      ∙ unhash_hash tau one m h1 hm

  pub seal_open : Undoes g f → sealed_with f tau one two (opened_with g tau one two m) ≡ m
  unfolding opened_with sealed_with
  seal_open gf =
      let h : Message (hashed tau two m) = hashed_message tau two m h2 hm in
      let e : Message (deciphered g (hashed tau two m)) = deciphered_message f g gf (hashed tau two m) h in
      ap (λ (z : List ℕ). unhashed tau two (enciphered f z)) (hash_unhash tau one (deciphered g (hashed tau two m)) h1 e)
      ∙ ap (unhashed tau two) (encipher_decipher f g gf (hashed tau two m) h)
      ∙ unhash_hash tau two m h2 hm

  pub sealed_message : Undoes f g → Message (sealed_with f tau one two m)
  unfolding sealed_with
  sealed_message fg =
      unhashed_message tau two (enciphered f (hashed tau one m)) h2 (enciphered_message f g fg (hashed tau one m) (hashed_message tau one m h1 hm))

  pub sealed_long : Undoes f g → length (sealed_with f tau one two m) ≡ length m
  unfolding sealed_with
  sealed_long fg =
      let h : Message (hashed tau one m) = hashed_message tau one m h1 hm in
      unhashed_long tau two (enciphered f (hashed tau one m)) h2 (enciphered_message f g fg (hashed tau one m) h)
      ∙ enciphered_long f g fg (hashed tau one m) h ∙ hashed_long tau one m h1 hm

  pub opened_message : Undoes g f → Message (opened_with g tau one two m)
  unfolding opened_with
  opened_message gf =
      unhashed_message tau one (deciphered g (hashed tau two m)) h1 (deciphered_message f g gf (hashed tau two m) (hashed_message tau two m h2 hm))

  pub opened_long : Undoes g f → length (opened_with g tau one two m) ≡ length m
  unfolding opened_with
  opened_long gf =
      let h : Message (hashed tau two m) = hashed_message tau two m h2 hm in
      unhashed_long tau one (deciphered g (hashed tau two m)) h1 (deciphered_message f g gf (hashed tau two m) h)
      ∙ deciphered_long f g gf (hashed tau two m) h ∙ hashed_long tau two m h2 hm
