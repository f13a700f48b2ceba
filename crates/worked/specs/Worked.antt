-- Small worked examples of the definitions, in bytes.
use Rattle.std.specs.Prelude.{◌≡◌, [], ◌∷◌, ◌++◌}
use Rattle.base.specs.Bytes.{zeros}
use Rattle.base.specs.Numbers.{number, bytes}
use Rattle.base.specs.Blocks.{zero_padded}
use Rattle.field.specs.Field.{field_product, field_power, times_z}
use Rattle.mode.specs.Cmac.{doubled}
use Rattle.mode.specs.Hash.{hash_of}
use Rattle.mode.specs.Sealing.{length_group}
use Rattle.chain.specs.Examples.{ChainExamples}
use Rattle.boards.specs.Contexts.{context_of}

pub record WorkedExamples : Type 0 where
  -- z times z^127
  pub z_times_highest : bytes 16 (times_z (number (zeros 15 ++ (0x80 ∷ [])))) ≡ 0x87 ∷ zeros 15
  -- z^120 times z^8
  pub product_of_powers : bytes 16 (field_product (field_power 2 120) (field_power 2 8)) ≡ 0x87 ∷ zeros 15
  -- z times z^7 + z^2 + z + 1
  pub z_times_reduction : bytes 16 (times_z (number (0x87 ∷ zeros 15))) ≡ 0x0E ∷ 0x01 ∷ zeros 14
  -- CMAC's doubling reads a block highest bit first
  pub cmac_doubling : doubled (0x80 ∷ zeros 15) ≡ zeros 15 ++ (0x87 ∷ [])
  -- tau one over a block of zeros: what is left is the tail's 01
  pub hash_of_zeros : bytes 16 (hash_of (number (0x01 ∷ zeros 15)) (zeros 16)) ≡ 0x01 ∷ zeros 15
  -- tau z over two whole blocks, 01 and zeros: z^2 + z
  pub hash_of_two_blocks : bytes 16 (hash_of (number (0x02 ∷ zeros 15)) (0x01 ∷ zeros 31)) ≡ 0x06 ∷ zeros 15
  -- tau z over a block of zeros and the tail 05
  pub hash_with_tail : bytes 16 (hash_of (number (0x02 ∷ zeros 15)) (zeros 16 ++ (0x05 ∷ []))) ≡ 0x0A ∷ 0x02 ∷ zeros 14
  -- the lengths 22, 19 and 32
  pub group_of_lengths : zero_padded (length_group 22 19 32) ≡ 0x16 ∷ 0x00 ∷ 0x00 ∷ 0x00 ∷ 0x13 ∷ 0x00 ∷ 0x00 ∷ 0x00 ∷ 0x20 ∷ zeros 7
  -- the nonce of slot 3 under the label 54 57 52
  pub nonce_of_slot_three : (context_of 3 (0x54 ∷ 0x57 ∷ 0x52 ∷ [])).nonce ≡ 0x03 ∷ 0x00 ∷ 0x00 ∷ 0x00 ∷ 0x54 ∷ 0x57 ∷ 0x52 ∷ zeros 9
  -- what rows of 30, 31 and 1,000 bytes cost on a chain, and room on two cells before and after a slot is cleared
  pub units_and_room_on_a_chain : ChainExamples
