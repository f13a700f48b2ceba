-- A message read as arrays of sixteen bytes, and its blocks before the last one.
use Rattle.std.proofs.Common.{◌≡◌, ℕ, ◌+◌, ◌-◌, ◌*◌, ◌/◌, ◌<◌, ◌≤◌, List, [], ◌++◌, length, get_or, take, drop, refl, ap, ◌∙◌, arith}
use Rattle.std.proofs.lemmas.List.{append-nil, drop_all, drop-take, length-take-le}
use Rattle.std.proofs.Math.Seq.{take-take}
use lib.Bits.{bit_xor}
use Rattle.std.specs.Simd.{first_chunks}
use Rattle.base.specs.Numbers.{number, bytes}
use Rattle.base.specs.Blocks.{whole_blocks, block_at, last_index, tail_of, blocks_joined, assembled, with_block}
use Rattle.base.proofs.Cutting.{joined_same, done_last, chunk_at}
use Rattle.base.proofs.Digits.{bytes_long}
use Rattle.field.specs.Field.{field_product, field_power}
use Rattle.mode.specs.Hash.{spread}

pub chunk_block : (n i : ℕ) (m : List ℕ) → i < n → get_or (first_chunks 16 n m) i [] ≡ block_at i m
chunk_block n i m h = let e : 16 * i ≡ i * 16 = omega arith in chunk_at 16 n m i h ∙ ap (λ (k : ℕ). take 16 (drop k m)) e

block_before : (n i : ℕ) (m : List ℕ) → i < n → block_at i (take (n * 16) m) ≡ block_at i m
block_before n i m h =
    let k : n * 16 ≡ i * 16 + (n * 16 - i * 16) = omega arith in
    ap (take 16) (ap (λ (j : ℕ). drop (i * 16) (take j m)) k ∙ drop-take (i * 16) (n * 16 - i * 16) m)
    ∙ take-take 16 (n * 16 - i * 16) (drop (i * 16) m) (omega arith)

-- what spreading those before the last one, and writing b over that, leaves
pub spread_last : (r beta : ℕ) (m new b : List ℕ) → 16 ≤ length m →
    new ≡ blocks_joined (spread r beta (take (last_index m * 16) m)) (whole_blocks (take (last_index m * 16) m)) ++ tail_of (take (last_index m * 16) m) →
    with_block (last_index m) b (new ++ drop (last_index m * 16) m) ≡ assembled (spread r beta m) (last_index m) b (tail_of m)
spread_last r beta m new b h e =
    let n : ℕ = last_index m in
    let a : List ℕ = take (n * 16) m in
    let l : length a ≡ n * 16 = length-take-le (n * 16) m (omega arith) in
    let w : length a / 16 ≡ n = omega arith in
    let none : tail_of a ≡ [] = drop_all (length a / 16 * 16) a (omega arith) in
    let front : new ≡ blocks_joined (spread r beta m) n =
    e ∙ ap (λ (z : List ℕ). blocks_joined (spread r beta a) (length a / 16) ++ z) none
    ∙ append-nil (blocks_joined (spread r beta a) (length a / 16))
    ∙ ap (blocks_joined (spread r beta a)) w
    ∙ joined_same (spread r beta a) (spread r beta m) n
    (λ i k. ap (λ (b : List ℕ). bytes 16 (bit_xor (number b) (bit_xor r (field_product (field_power 2 (i + 1)) beta)))) (block_before n i m k)) in
    done_last (spread r beta m) m (new ++ drop (n * 16) m) n (λ j k. bytes_long 16 _) (ap (λ (z : List ℕ). z ++ drop (n * 16) m) front) b refl h
