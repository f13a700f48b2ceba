-- Hashing with beta and its undoing, each the other's inverse, for every tau.
use Rattle.std.proofs.Common.{◌≡◌, ℕ, ◌+◌, ◌-◌, ◌^◌, ◌<◌, ◌≤◌, List, ◌++◌, length, sym, refl, ap, ◌∙◌, subst, arith}
use lib.Bits.{bit_xor, xor_assoc, xor_self, xor_zero_r, xor_lt, xor_comm}
use Rattle.base.specs.Numbers.{number, bytes}
use Rattle.base.specs.Blocks.{Message, whole_blocks, block_at, last_index, tail_of, blocks_joined, assembled, ended_by}
use Rattle.base.proofs.Strings.{xor_twice}
use Rattle.base.proofs.Digits.{bytes_long, bytes_block, block_again, element_again, block_lt}
use Rattle.base.proofs.Cutting.{Shaped, shaped, block_long, tail_long, again, block_block, tail_bytes, ended_block, made_message, joined_same, same_size}
use Rattle.field.specs.Field.{field_product, field_power}
use Rattle.mode.specs.Hash.{sum_to, hash_of, spread, hashed, held_hash, half_unhashed, unhashed}
use Rattle.mode.proofs.Horner.{before, before_same, before_lt, multiple_lt}

-- the hash of a message that was assembled
pub hash_is : (tau : ℕ) (m : List ℕ) → 16 ≤ length m → hash_of tau m ≡ bit_xor (before tau (λ i. number (block_at i m)) (last_index m) (number (ended_by 0x01 (tail_of m)))) (number (block_at (last_index m) m))
unfolding hash_of
hash_is tau m h =
    let n : whole_blocks m ≡ last_index m + 1 = omega arith in
    ap (λ (k : ℕ). bit_xor (bit_xor (sum_to (λ i. field_product (field_power tau (k - i)) (number (block_at i m))) (last_index m)) (field_product tau (number (ended_by 0x01 (tail_of m))))) (number (block_at (last_index m) m))) n

pub hash_made : (tau : ℕ) (m : List ℕ) (F : ℕ → List ℕ) (n : ℕ) (l t : List ℕ) → Shaped m F n l t →
    hash_of tau m ≡ bit_xor (before tau (λ i. number (F i)) n (number (ended_by 0x01 t))) (number l)
hash_made tau m F n l t s =
    hash_is tau m (omega (arith, s.size))
    ∙ ap (λ (j : ℕ). bit_xor (before tau (λ i. number (block_at i m)) j (number (ended_by 0x01 (tail_of m)))) (number (block_at j m))) s.count
    ∙ ap (λ (z : List ℕ). bit_xor (before tau (λ i. number (block_at i m)) n (number (ended_by 0x01 z))) (number (block_at n m))) s.rest
    ∙ ap (λ (z : List ℕ). bit_xor (before tau (λ i. number (block_at i m)) n (number (ended_by 0x01 t))) (number z)) s.last
    ∙ ap (λ (z : ℕ). bit_xor z (number l)) (before_same tau _ _ n (number (ended_by 0x01 t)) (λ i h. ap number (s.parts i h)))

pub parts_lt : (m : List ℕ) → Message m → (i : ℕ) → i ≤ last_index m → number (block_at i m) < 2 ^ 128
parts_lt m h i l = block_lt (block_at i m) (block_block m h i l)

pub tail_element_lt : (m : List ℕ) → Message m → number (ended_by 0x01 (tail_of m)) < 2 ^ 128
tail_element_lt m h = block_lt (ended_by 0x01 (tail_of m)) (ended_block 1 (tail_of m) (omega arith) (tail_long m h.long) (tail_bytes m h))

module _ (tau b : ℕ) (m : List ℕ) (hb : b < 2 ^ 128) (hm : Message m) where
  front_lt : (i : ℕ) → i < last_index m → number (block_at i m) < 2 ^ 128
  front_lt i h = block_lt (block_at i m) (block_block m hm i (omega arith))

  last_lt : number (block_at (last_index m) m) < 2 ^ 128
  last_lt = block_lt (block_at (last_index m) m) (block_block m hm (last_index m) (omega arith))

  tail_lt : number (ended_by 0x01 (tail_of m)) < 2 ^ 128
  tail_lt = tail_element_lt m hm

  pub hash_lt : hash_of tau m < 2 ^ 128
  hash_lt = subst (λ (x : ℕ). x < 2 ^ 128) (sym (hash_is tau m hm.long)) (xor_lt 128 _ _ (before_lt tau (λ i. number (block_at i m)) (last_index m) (number (ended_by 0x01 (tail_of m))) front_lt tail_lt) last_lt)

  pub spread_is : (r i : ℕ) → r < 2 ^ 128 → i < last_index m → number (spread r b m i) ≡ bit_xor (number (block_at i m)) (bit_xor r (field_product (field_power 2 (i + 1)) b))
  spread_is r i hr h = element_again _ (xor_lt 128 _ _ (front_lt i h) (xor_lt 128 r _ hr (multiple_lt (i + 1) b hb)))

  spread_long : (r : ℕ) (i : ℕ) → i < last_index m → length (spread r b m i) ≡ 16
  spread_long r i h = bytes_long 16 _

  -- the block i spread twice is as it was
  spread_twice : (r i : ℕ) (c : List ℕ) → r < 2 ^ 128 → i < last_index m → block_at i c ≡ spread r b m i → spread r b c i ≡ block_at i m
  spread_twice r i c hr h e =
      ap (λ (z : ℕ). bytes 16 (bit_xor z (bit_xor r (field_product (field_power 2 (i + 1)) b)))) (ap number e ∙ spread_is r i hr h)
      ∙ ap (bytes 16) (xor_twice (number (block_at i m)) (bit_xor r (field_product (field_power 2 (i + 1)) b)))
      ∙ block_again (block_at i m) (block_block m hm i (omega arith))

  -- what a message with the blocks of m spread, l and m's tail is cut into
  cut_spread : (r : ℕ) (l : List ℕ) → length l ≡ 16 → Shaped (assembled (spread r b m) (last_index m) l (tail_of m)) (spread r b m) (last_index m) l (tail_of m)
  cut_spread r l h = shaped (spread r b m) (last_index m) l (tail_of m) (spread_long r) h (tail_long m hm.long)

  pub hashed_message : Message (hashed tau b m)
  unfolding hashed
  hashed_message = made_message (spread (hash_of tau m) b m) (last_index m) _ (tail_of m) (λ i h. bytes_block _) (bytes_block _) (tail_long m hm.long) (tail_bytes m hm)

  pub unhashed_message : Message (unhashed tau b m)
  unfolding unhashed
  unhashed_message = made_message (spread (held_hash b m) b m) (last_index m) _ (tail_of m) (λ i h. bytes_block _) (bytes_block _) (tail_long m hm.long) (tail_bytes m hm)

  pub hashed_long : length (hashed tau b m) ≡ length m
  unfolding hashed
  hashed_long = same_size m hm.long (spread (hash_of tau m) b m) _ (tail_of m) (spread_long (hash_of tau m)) (bytes_long 16 _) refl

  pub unhashed_long : length (unhashed tau b m) ≡ length m
  unfolding unhashed
  unhashed_long = same_size m hm.long (spread (held_hash b m) b m) _ (tail_of m) (spread_long (held_hash b m)) (bytes_long 16 _) refl

  pub unhash_hash : unhashed tau b (hashed tau b m) ≡ m
  unfolding hashed unhashed
  unhash_hash =
      let r : ℕ = hash_of tau m in
      let c : List ℕ = assembled (spread r b m) (last_index m) (bytes 16 (bit_xor r b)) (tail_of m) in
      let s : Shaped c (spread r b m) (last_index m) (bytes 16 (bit_xor r b)) (tail_of m) = cut_spread r (bytes 16 (bit_xor r b)) (bytes_long 16 _) in
      let held : held_hash b c ≡ r =
      ap (λ (j : ℕ). bit_xor (number (block_at j c)) b) s.count ∙ ap (λ (z : List ℕ). bit_xor (number z) b) s.last
      ∙ ap (λ (z : ℕ). bit_xor z b) (element_again (bit_xor r b) (xor_lt 128 r b hash_lt hb)) ∙ xor_twice r b in
      let front : (q : ℕ) → q ≡ r → blocks_joined (spread q b c) (last_index c) ≡ blocks_joined (λ i. block_at i m) (last_index m) =
      λ q e. ap (λ (j : ℕ). blocks_joined (spread q b c) j) s.count ∙ joined_same _ _ (last_index m) (λ i h. ap (λ (x : ℕ). spread x b c i) e ∙ spread_twice r i c hash_lt h (s.parts i h)) in
      let whole : (l : List ℕ) → assembled (spread (held_hash b c) b c) (last_index c) l (tail_of c) ≡ assembled (λ i. block_at i m) (last_index m) l (tail_of m) =
      λ l. ap (λ (z : List ℕ). z ++ (l ++ tail_of c)) (front (held_hash b c) held) ∙ ap (λ (z : List ℕ). blocks_joined (λ i. block_at i m) (last_index m) ++ (l ++ z)) s.rest in
      let k : Shaped (assembled (λ i. block_at i m) (last_index m) (bytes 16 0) (tail_of m)) (λ i. block_at i m) (last_index m) (bytes 16 0) (tail_of m) =
      shaped (λ i. block_at i m) (last_index m) (bytes 16 0) (tail_of m) (λ i h. block_long m hm.long i (omega arith)) (bytes_long 16 0) (tail_long m hm.long) in
      let w : ℕ = before tau (λ i. number (block_at i m)) (last_index m) (number (ended_by 0x01 (tail_of m))) in
      let half : hash_of tau (half_unhashed b c) ≡ w =
      ap (hash_of tau) (whole (bytes 16 0)) ∙ hash_made tau _ _ _ _ _ k ∙ ap (bit_xor w) (element_again 0 (omega arith)) ∙ xor_zero_r w in
      let last : bytes 16 (bit_xor (held_hash b c) (hash_of tau (half_unhashed b c))) ≡ block_at (last_index m) m =
      ap (λ (z : ℕ). bytes 16 (bit_xor z (hash_of tau (half_unhashed b c)))) held ∙ ap (λ (z : ℕ). bytes 16 (bit_xor r z)) half
      ∙ ap (λ (z : ℕ). bytes 16 (bit_xor z w)) (hash_is tau m hm.long ∙ xor_comm w (number (block_at (last_index m) m))) ∙ ap (bytes 16) (xor_twice (number (block_at (last_index m) m)) w)
      ∙ block_again (block_at (last_index m) m) (block_block m hm (last_index m) (omega arith)) in
      whole _ ∙ ap (λ (l : List ℕ). assembled (λ i. block_at i m) (last_index m) l (tail_of m)) last ∙ again m hm.long

  pub hash_unhash : hashed tau b (unhashed tau b m) ≡ m
  unfolding hashed unhashed
  hash_unhash =
      let r : ℕ = held_hash b m in
      let hr : r < 2 ^ 128 = xor_lt 128 (number (block_at (last_index m) m)) b last_lt hb in
      let F : ℕ → List ℕ = spread r b m in
      let w : ℕ = before tau (λ i. number (F i)) (last_index m) (number (ended_by 0x01 (tail_of m))) in
      let hw : w < 2 ^ 128 = before_lt tau (λ i. number (F i)) (last_index m) (number (ended_by 0x01 (tail_of m))) (λ i h. block_lt (F i) (bytes_block _)) tail_lt in
      let half : hash_of tau (half_unhashed b m) ≡ w = hash_made tau _ _ _ _ _ (cut_spread r (bytes 16 0) (bytes_long 16 0)) ∙ ap (bit_xor w) (element_again 0 (omega arith)) ∙ xor_zero_r w in
      let l : List ℕ = bytes 16 (bit_xor r (hash_of tau (half_unhashed b m))) in
      let l-is : number l ≡ bit_xor r w = ap (λ (z : ℕ). number (bytes 16 (bit_xor r z))) half ∙ element_again (bit_xor r w) (xor_lt 128 r w hr hw) in
      let c : List ℕ = assembled F (last_index m) l (tail_of m) in
      let s : Shaped c F (last_index m) l (tail_of m) = cut_spread r l (bytes_long 16 _) in
      let held : hash_of tau c ≡ r = hash_made tau _ _ _ _ _ s ∙ ap (bit_xor w) (l-is ∙ xor_comm r w) ∙ sym (xor_assoc w w r) ∙ ap (λ (z : ℕ). bit_xor z r) (xor_self w) in
      let front : blocks_joined (spread (hash_of tau c) b c) (last_index c) ≡ blocks_joined (λ i. block_at i m) (last_index m) =
      ap (λ (j : ℕ). blocks_joined (spread (hash_of tau c) b c) j) s.count ∙ joined_same _ _ (last_index m) (λ i h. ap (λ (x : ℕ). spread x b c i) held ∙ spread_twice r i c hr h (s.parts i h)) in
      let last : bytes 16 (bit_xor (hash_of tau c) b) ≡ block_at (last_index m) m =
      ap (λ (z : ℕ). bytes 16 (bit_xor z b)) held ∙ ap (bytes 16) (xor_twice (number (block_at (last_index m) m)) b) ∙ block_again (block_at (last_index m) m) (block_block m hm (last_index m) (omega arith)) in
      ap (λ (z : List ℕ). z ++ (bytes 16 (bit_xor (hash_of tau c) b) ++ tail_of c)) front
      ∙ ap (λ (z : List ℕ). blocks_joined (λ i. block_at i m) (last_index m) ++ (z ++ tail_of c)) last
      ∙ ap (λ (z : List ℕ). blocks_joined (λ i. block_at i m) (last_index m) ++ (block_at (last_index m) m ++ z)) s.rest
      ∙ again m hm.long
