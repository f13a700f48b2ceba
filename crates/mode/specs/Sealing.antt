-- Sealing and opening: the published HEH mode over two functions on blocks, that of the prf key and that of the blk key.
use Rattle.std.specs.Prelude.{ℕ, List, ◌++◌, length}
use Rattle.base.specs.Numbers.{number, bytes}
use Rattle.base.specs.Blocks.{zero_padded}
use Rattle.field.specs.Field.{times_z}
use Rattle.mode.specs.Cmac.{cmac_of}
use Rattle.mode.specs.Hash.{hashed, unhashed}
use Rattle.mode.specs.Enciphering.{enciphered, deciphered}

-- the lengths of nonce, associated data and message, four bytes each, the lowest first
unfoldable pub length_group : ℕ → ℕ → ℕ → List ℕ
length_group nonce ad message = bytes 4 nonce ++ (bytes 4 ad ++ bytes 4 message)

-- what a message of this length is bound to: nonce, associated data and the lengths, each with zeros up to whole blocks
unfoldable pub binding_input : List ℕ → List ℕ → ℕ → List ℕ
binding_input nonce ad message = zero_padded nonce ++ (zero_padded ad ++ zero_padded (length_group (length nonce) (length ad) message))

-- beta one: the CMAC of that, under the prf key
unfoldable pub beta_one : (List ℕ → List ℕ) → List ℕ → List ℕ → ℕ → ℕ
beta_one prf nonce ad message = number (cmac_of prf (binding_input nonce ad message))

-- beta two: z times beta one
abbrev pub beta_two : (List ℕ → List ℕ) → List ℕ → List ℕ → ℕ → ℕ
beta_two prf nonce ad message = times_z (beta_one prf nonce ad message)

-- sealing with two betas: hash with the first, encipher, undo a hashing with the second
unfoldable pub sealed_with : (List ℕ → List ℕ) → ℕ → ℕ → ℕ → List ℕ → List ℕ
sealed_with blk tau one two m = unhashed tau two (enciphered blk (hashed tau one m))

-- opening with two betas: hash with the second, undo the enciphering, undo a hashing with the first
unfoldable pub opened_with : (List ℕ → List ℕ) → ℕ → ℕ → ℕ → List ℕ → List ℕ
opened_with blk_back tau one two m = unhashed tau one (deciphered blk_back (hashed tau two m))

-- the sealed form of a message, over the prf key's function and the blk key's, both forward
unfoldable pub sealed : (List ℕ → List ℕ) → (List ℕ → List ℕ) → ℕ → List ℕ → List ℕ → List ℕ → List ℕ
sealed prf blk tau nonce ad m = sealed_with blk tau (beta_one prf nonce ad (length m)) (beta_two prf nonce ad (length m)) m

-- the opened form of a message, over the prf key's function, forward, and the blk key's, back
unfoldable pub opened : (List ℕ → List ℕ) → (List ℕ → List ℕ) → ℕ → List ℕ → List ℕ → List ℕ → List ℕ
opened prf blk_back tau nonce ad m = opened_with blk_back tau (beta_one prf nonce ad (length m)) (beta_two prf nonce ad (length m)) m
