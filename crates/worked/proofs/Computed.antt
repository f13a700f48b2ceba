-- The worked examples, computed by doubling.
use Rattle.std.proofs.Common.{◌≡◌, ℕ, zero, suc, [], ◌∷◌, ◌++◌, reverse, bit_xor, refl, ap, ◌∙◌, arith}
use Rattle.base.specs.Bytes.{zeros}
use Rattle.base.specs.Numbers.{number, bytes}
use Rattle.base.specs.Polynomials.{power}
use Rattle.base.specs.Blocks.{zero_padded}
use Rattle.base.proofs.Doubling.{twice, mul, mul_bits}
use Rattle.base.proofs.Rings as rings
use Rattle.field.specs.Field.{field_product, field_power, times_z}
use Rattle.field.proofs.Products.{laws, times_z_twice, product_mul}
use Rattle.mode.specs.Cmac.{doubled}
use Rattle.mode.specs.Hash.{sum_to, hash_of}
use Rattle.mode.specs.Sealing.{length_group}
use Rattle.chain.specs.Examples.{ChainExamples}
use Rattle.boards.specs.Contexts.{context_of, padded_label}
use Rattle.worked.specs.Worked.{WorkedExamples}

-- one, doubled n times
abbrev doublings : ℕ → ℕ
doublings zero = 1
doublings (suc n) = twice 127 135 (doublings n)

powers : (n : ℕ) → field_power 2 n ≡ doublings n
unfolding power
powers zero = refl
powers (suc n) = times_z_twice (field_power 2 n) (rings.power_lt 127 135 (omega arith) 2 n) ∙ ap (twice 127 135) (powers n)

highest : bytes 16 (times_z (number (zeros 15 ++ (0x80 ∷ [])))) ≡ 0x87 ∷ zeros 15
unfolding number bytes twice
highest = ap (bytes 16) (times_z_twice (number (zeros 15 ++ (0x80 ∷ []))) (omega arith))

product_powers : bytes 16 (field_product (field_power 2 120) (field_power 2 8)) ≡ 0x87 ∷ zeros 15
unfolding bytes twice
product_powers = ap (bytes 16) (laws.ring.powers_add 2 120 8 (omega arith) ∙ powers 128)

reduction : bytes 16 (times_z (number (0x87 ∷ zeros 15))) ≡ 0x0E ∷ 0x01 ∷ zeros 14
unfolding number bytes twice
reduction = ap (bytes 16) (times_z_twice (number (0x87 ∷ zeros 15)) (omega arith))

doubling : doubled (0x80 ∷ zeros 15) ≡ zeros 15 ++ (0x87 ∷ [])
unfolding number bytes twice doubled
doubling = ap (λ (x : ℕ). reverse (bytes 16 x)) (times_z_twice (number (reverse (0x80 ∷ zeros 15))) (omega arith))

zeros_hash : bytes 16 (hash_of (number (0x01 ∷ zeros 15)) (zeros 16)) ≡ 0x01 ∷ zeros 15
unfolding number bytes hash_of sum_to mul mul_bits twice
zeros_hash = ap (λ (x : ℕ). bytes 16 (bit_xor x 0)) (product_mul 1 1 (omega arith))

two_blocks : bytes 16 (hash_of (number (0x02 ∷ zeros 15)) (0x01 ∷ zeros 31)) ≡ 0x06 ∷ zeros 15
unfolding number bytes hash_of sum_to mul mul_bits twice
two_blocks =
    ap (λ (x : ℕ). bytes 16 (bit_xor (bit_xor (field_product x 1) (field_product 2 1)) 0)) (powers 2)
    ∙ ap (λ (x : ℕ). bytes 16 (bit_xor (bit_xor x (field_product 2 1)) 0)) (product_mul 4 1 (omega arith))
    ∙ ap (λ (x : ℕ). bytes 16 (bit_xor (bit_xor 4 x) 0)) (product_mul 2 1 (omega arith))

with_tail : bytes 16 (hash_of (number (0x02 ∷ zeros 15)) (zeros 16 ++ (0x05 ∷ []))) ≡ 0x0A ∷ 0x02 ∷ zeros 14
unfolding number bytes hash_of sum_to mul mul_bits twice
with_tail = ap (λ (x : ℕ). bytes 16 (bit_xor x 0)) (product_mul 2 261 (omega arith))

lengths : zero_padded (length_group 22 19 32) ≡ 0x16 ∷ 0x00 ∷ 0x00 ∷ 0x00 ∷ 0x13 ∷ 0x00 ∷ 0x00 ∷ 0x00 ∷ 0x20 ∷ zeros 7
unfolding bytes length_group
lengths = refl

slot_three : (context_of 3 (0x54 ∷ 0x57 ∷ 0x52 ∷ [])).nonce ≡ 0x03 ∷ 0x00 ∷ 0x00 ∷ 0x00 ∷ 0x54 ∷ 0x57 ∷ 0x52 ∷ zeros 9
unfolding bytes context_of padded_label
slot_three = refl

pub examples : ChainExamples → WorkedExamples
examples chain = record {
  z_times_highest = highest;
  product_of_powers = product_powers;
  z_times_reduction = reduction;
  cmac_doubling = doubling;
  hash_of_zeros = zeros_hash;
  hash_of_two_blocks = two_blocks;
  hash_with_tail = with_tail;
  group_of_lengths = lengths;
  nonce_of_slot_three = slot_three;
  units_and_room_on_a_chain = chain;
}
