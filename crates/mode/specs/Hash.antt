-- The hash of a message, by powers of tau, and hashing with beta and its undoing.
use Rattle.std.specs.Prelude.{ℕ, zero, suc, ◌+◌, ◌-◌, List, bit_xor}
use Rattle.base.specs.Numbers.{number, bytes}
use Rattle.base.specs.Blocks.{whole_blocks, block_at, last_index, tail_of, assembled, ended_by}
use Rattle.field.specs.Field.{field_product, field_power}

-- F 0 + F 1 + … + F (n - 1)
unfoldable pub sum_to : (ℕ → ℕ) → ℕ → ℕ
sum_to F zero = 0
sum_to F (suc n) = bit_xor (sum_to F n) (F n)

-- m_i: the block i as an element of the field
abbrev pub element_at : ℕ → List ℕ → ℕ
element_at i m = number (block_at i m)

-- m_N, where N is the number of whole blocks: the tail, a byte 01, then zeros
abbrev pub tail_element : List ℕ → ℕ
tail_element m = number (ended_by 0x01 (tail_of m))

-- the hash tau^N m_0 + … + tau^2 m_(N-2) + tau m_N + m_(N-1)
unfoldable pub hash_of : ℕ → List ℕ → ℕ
hash_of tau m =
    bit_xor
    (bit_xor (sum_to (λ i. field_product (field_power tau (whole_blocks m - i)) (element_at i m)) (last_index m)) (field_product tau (tail_element m)))
    (element_at (last_index m) m)

-- the block i with r and z^(i+1) beta added
abbrev pub spread : ℕ → ℕ → List ℕ → ℕ → List ℕ
spread r beta m i = bytes 16 (bit_xor (element_at i m) (bit_xor r (field_product (field_power 2 (i + 1)) beta)))

-- hashing with beta: every block before the last spread by the hash, the last one the hash plus beta, and the tail kept
unfoldable pub hashed : ℕ → ℕ → List ℕ → List ℕ
hashed tau beta m = assembled (spread (hash_of tau m) beta m) (last_index m) (bytes 16 (bit_xor (hash_of tau m) beta)) (tail_of m)

-- the hash that a hashed message holds: its last whole block plus beta
abbrev pub held_hash : ℕ → List ℕ → ℕ
held_hash beta m = bit_xor (element_at (last_index m) m) beta

-- a hashed message with its blocks before the last as they were, and the last one zero
abbrev pub half_unhashed : ℕ → List ℕ → List ℕ
half_unhashed beta m = assembled (spread (held_hash beta m) beta m) (last_index m) (bytes 16 0) (tail_of m)

-- undoing a hashing with beta: the last whole block is the held hash plus the hash of what is there without it
unfoldable pub unhashed : ℕ → ℕ → List ℕ → List ℕ
unhashed tau beta m =
    assembled (spread (held_hash beta m) beta m) (last_index m) (bytes 16 (bit_xor (held_hash beta m) (hash_of tau (half_unhashed beta m)))) (tail_of m)
