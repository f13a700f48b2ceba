-- The laws of the mode.
use Rattle.std.specs.Prelude.{◌≡◌, ℕ, ◌+◌, ◌*◌, ◌^◌, ◌<◌, ◌≤◌, true, List, length, ◌≢◌}
use Rattle.base.specs.Bytes.{AllBytes, Block}
use Rattle.base.specs.Blocks.{Message}
use Rattle.ciphers.specs.Keys.{Key}
use Rattle.mode.specs.Hash.{hashed, unhashed}
use Rattle.mode.specs.Enciphering.{enciphered, deciphered}
use Rattle.mode.specs.Sealing.{sealed, opened}
use Rattle.mode.specs.Bundles.{prf_key, blk_key, sealed_under, opened_under}
use Rattle.mode.specs.Calls.{longest_message, genuine, spare_zeroed}

-- f takes blocks to blocks
abbrev pub OnBlocks : (List ℕ → List ℕ) → Type 0
OnBlocks f = (b : List ℕ) → Block b → Block (f b)

-- f and g do the same to every block
abbrev pub SameOnBlocks : (List ℕ → List ℕ) → (List ℕ → List ℕ) → Type 0
SameOnBlocks f g = (b : List ℕ) → Block b → f b ≡ g b

-- f takes blocks to blocks, and g undoes it
pub record Undoes (f g : List ℕ → List ℕ) : Type 0 where
  pub ahead : OnBlocks f
  pub same : (b : List ℕ) → Block b → g (f b) ≡ b

-- f and g undo each other on blocks
pub record Inverse (f g : List ℕ → List ℕ) : Type 0 where
  pub forth : Undoes f g
  pub back : Undoes g f

-- what holds of a sealed form and an opened form, functions of nonce, associated data and message
pub record FormLaws (sealing opening : List ℕ → List ℕ → List ℕ → List ℕ) : Type 0 where
  -- each form undoes the other
  pub open_undoes_seal : (nonce ad m : List ℕ) → AllBytes nonce → AllBytes ad → Message m → opening nonce ad (sealing nonce ad m) ≡ m
  pub seal_undoes_open : (nonce ad m : List ℕ) → AllBytes nonce → AllBytes ad → Message m → sealing nonce ad (opening nonce ad m) ≡ m
  -- both forms are messages, as long as what they were made from
  pub sealed_as_long : (nonce ad m : List ℕ) → AllBytes nonce → AllBytes ad → Message m → length (sealing nonce ad m) ≡ length m
  pub opened_as_long : (nonce ad m : List ℕ) → AllBytes nonce → AllBytes ad → Message m → length (opening nonce ad m) ≡ length m
  pub sealed_is_message : (nonce ad m : List ℕ) → AllBytes nonce → AllBytes ad → Message m → Message (sealing nonce ad m)
  pub opened_is_message : (nonce ad m : List ℕ) → AllBytes nonce → AllBytes ad → Message m → Message (opening nonce ad m)
  -- two different messages of equal length are sealed differently
  pub sealed_apart : (nonce ad m other : List ℕ) → AllBytes nonce → AllBytes ad → Message m → Message other → length m ≡ length other →
      (m ≢ other) → sealing nonce ad m ≢ sealing nonce ad other
  -- every string of 16 to 65,536 bytes is the sealed form of a message of its length
  pub some_message : (nonce ad s : List ℕ) → AllBytes nonce → AllBytes ad → Message s → length s ≤ longest_message →
      (m : List ℕ) × (Message m × (length m ≡ length s) × (sealing nonce ad m ≡ s))
  -- and of one only
  pub only_message : (nonce ad s m other : List ℕ) → AllBytes nonce → AllBytes ad → Message m → Message other → length m ≡ length s → length other ≡ length s →
      sealing nonce ad m ≡ s → sealing nonce ad other ≡ s → m ≡ other
  -- what was sealed with its spare bytes made zero is genuine once it is opened
  pub sealed_with_proof_is_genuine : (nonce ad m : List ℕ) → AllBytes nonce → AllBytes ad → Message m → genuine (opening nonce ad (sealing nonce ad (spare_zeroed m))) ≡ true

-- the laws, for every cipher
pub record ModeLaws : Type 0 where
  -- hashing and its undoing, for every tau and every beta
  pub unhash_undoes_hash : (tau beta : ℕ) (m : List ℕ) → beta < 2 ^ 128 → Message m → unhashed tau beta (hashed tau beta m) ≡ m
  pub hash_undoes_unhash : (tau beta : ℕ) (m : List ℕ) → beta < 2 ^ 128 → Message m → hashed tau beta (unhashed tau beta m) ≡ m
  -- enciphering and its undoing, for every two functions that undo each other
  pub decipher_undoes_encipher : (f g : List ℕ → List ℕ) → Inverse f g → (m : List ℕ) → Message m → deciphered g (enciphered f m) ≡ m
  pub encipher_undoes_decipher : (f g : List ℕ → List ℕ) → Inverse f g → (m : List ℕ) → Message m → enciphered f (deciphered g m) ≡ m
  -- sealing and opening, over the functions of the prf key and of the blk key, for every tau
  pub forms : (prf blk blk_back : List ℕ → List ℕ) → OnBlocks prf → Inverse blk blk_back → (tau : ℕ) → FormLaws (sealed prf blk tau) (opened prf blk_back tau)
  -- and under every bundle of a cipher whose functions of key and block undo each other under every key of n bytes
  pub under_bundles : (forward back : List ℕ → List ℕ → List ℕ) (n : ℕ) → ((k : List ℕ) → Key n k → Inverse (forward k) (back k)) →
      (bundle : List ℕ) → Key (16 + 2 * n) bundle → FormLaws (sealed_under forward n bundle) (opened_under forward back n bundle)
  -- two ciphers that do the same to every block, under the prf key and under the blk key of a bundle, seal alike
  pub alike_under_bundles : (forward other : List ℕ → List ℕ → List ℕ) (n : ℕ) (bundle : List ℕ) →
      OnBlocks (forward (prf_key n bundle)) → OnBlocks (forward (blk_key n bundle)) →
      SameOnBlocks (forward (prf_key n bundle)) (other (prf_key n bundle)) → SameOnBlocks (forward (blk_key n bundle)) (other (blk_key n bundle)) →
      (nonce ad m : List ℕ) → AllBytes nonce → AllBytes ad → Message m → sealed_under forward n bundle nonce ad m ≡ sealed_under other n bundle nonce ad m
  -- a message with its spare bytes made zero is genuine
  pub spare_zeroed_genuine : (m : List ℕ) → 16 ≤ length m → genuine (spare_zeroed m) ≡ true
