-- Sealing depends only on what the two functions do to blocks.
use Rattle.std.proofs.Common.{◌≡◌, ℕ, zero, suc, ◌*◌, ◌^◌, ◌<◌, cond, eqb, List, [], ◌∷◌, length, drop, refl, ap, ◌∙◌, subst, arith}
use Rattle.base.specs.Bytes.{AllBytes, Block, xor_front, zeros}
use Rattle.base.specs.Blocks.{Message, block_at, last_index, tail_of, ended_by}
use Rattle.base.specs.Numbers.{number}
use Rattle.base.proofs.Strings.{take_bytes, drop_bytes}
use Rattle.base.proofs.Cutting.{block_block}
use Rattle.mode.specs.Cmac.{doubled, chained, last_masked, blocks_before, cmac_of}
use Rattle.mode.specs.Hash.{hashed, unhashed}
use Rattle.mode.specs.Enciphering.{where_tail, enciphered}
use Rattle.mode.specs.Laws.{OnBlocks, SameOnBlocks}
use Rattle.mode.specs.Sealing.{binding_input, beta_one, beta_two, sealed_with, sealed}
use Rattle.mode.proofs.Binding.{front_block, zero_block, input_bytes, masked_bytes, chained_block, one_lt}
use Rattle.mode.proofs.Ciphering.{same_message}
use Rattle.mode.proofs.Undoing.{hashed_message}
use Rattle.mode.specs.Bundles.{tau_of, prf_key, blk_key, sealed_under}

module _ (f g : List ℕ → List ℕ) (hf : OnBlocks f) (same : SameOnBlocks f g) where
  chained_same : (s : List ℕ) (n : ℕ) (m : List ℕ) → Block s → AllBytes m → chained f s n m ≡ chained g s n m
  unfolding chained
  chained_same s zero m hs hm = refl
  chained_same s (suc n) m hs hm =
      same (xor_front (chained f s n m) (block_at n m)) (front_block (chained f s n m) (block_at n m) (chained_block f hf s n m hs hm) (take_bytes 16 (drop (n * 16) m) (drop_bytes (n * 16) m hm)))
      ∙ ap (λ (x : List ℕ). g (xor_front x (block_at n m))) (chained_same s n m hs hm)

  masked_same : (l : List ℕ) → last_masked f l ≡ last_masked g l
  masked_same l = ap (λ (z : List ℕ). cond (eqb (length l) 16) (xor_front l (doubled z)) (xor_front (ended_by 0x80 l) (doubled (doubled z)))) (same (zeros 16) zero_block)

  cmac_same : (m : List ℕ) → AllBytes m → cmac_of f m ≡ cmac_of g m
  unfolding cmac_of
  cmac_same m h =
      let n = blocks_before m in
      let l = drop (n * 16) m in
      same (xor_front (chained f (zeros 16) n m) (last_masked f l)) (front_block (chained f (zeros 16) n m) (last_masked f l) (chained_block f hf (zeros 16) n m zero_block h) (masked_bytes f hf l (drop_bytes (n * 16) m h)))
      ∙ ap (λ (x : List ℕ). g (xor_front x (last_masked f l))) (chained_same (zeros 16) n m zero_block h)
      ∙ ap (λ (x : List ℕ). g (xor_front (chained g (zeros 16) n m) x)) (masked_same l)

  beta_same : (nonce ad : List ℕ) (l : ℕ) → AllBytes nonce → AllBytes ad → beta_one f nonce ad l ≡ beta_one g nonce ad l
  unfolding beta_one
  beta_same nonce ad l hn ha = ap number (cmac_same (binding_input nonce ad l) (input_bytes nonce ad l hn ha))

  where_same : (l j t : List ℕ) → l ≡ j → Block l → where_tail f l t ≡ where_tail g j t
  where_same l j [] e h = e
  where_same l j (x ∷ t) e h = same l h ∙ ap g e

  enciphered_same : (m : List ℕ) → Message m → enciphered f m ≡ enciphered g m
  unfolding enciphered
  enciphered_same m hm =
      let b = block_at (last_index m) m in
      let hb : Block b = block_block m hm (last_index m) (omega arith) in
      same_message (λ i. f (block_at i m)) (λ i. g (block_at i m)) (last_index m) (last_index m) _ _ _ _ refl
      (λ i lt. same (block_at i m) (block_block m hm i (omega arith)))
      (where_same (f b) (g b) (tail_of m) (same b hb) (hf b hb))
      (ap (xor_front (tail_of m)) (same b hb))

-- the sealed form is the same over functions that do the same to blocks
sealed_same : (prf prf' blk blk' : List ℕ → List ℕ) → OnBlocks prf → OnBlocks blk → SameOnBlocks prf prf' → SameOnBlocks blk blk' → (tau : ℕ) (nonce ad m : List ℕ) → AllBytes nonce → AllBytes ad → Message m → sealed prf blk tau nonce ad m ≡ sealed prf' blk' tau nonce ad m
unfolding sealed sealed_with
sealed_same prf prf' blk blk' hp hk sp sk tau nonce ad m hn ha hm =
    let e = beta_same prf prf' hp sp nonce ad (length m) hn ha in
    let lt : beta_one prf' nonce ad (length m) < 2 ^ 128 = subst (λ (x : ℕ). x < 2 ^ 128) e (one_lt prf hp nonce ad (length m) hn ha) in
    rw e (ap (unhashed tau (beta_two prf' nonce ad (length m))) (enciphered_same blk blk' hk sk (hashed tau (beta_one prf' nonce ad (length m)) m) (hashed_message tau (beta_one prf' nonce ad (length m)) m lt hm)))

pub sealed_alike : (forward other : List ℕ → List ℕ → List ℕ) (n : ℕ) (bundle : List ℕ) →
    OnBlocks (forward (prf_key n bundle)) → OnBlocks (forward (blk_key n bundle)) →
    SameOnBlocks (forward (prf_key n bundle)) (other (prf_key n bundle)) → SameOnBlocks (forward (blk_key n bundle)) (other (blk_key n bundle)) →
    (nonce ad m : List ℕ) → AllBytes nonce → AllBytes ad → Message m → sealed_under forward n bundle nonce ad m ≡ sealed_under other n bundle nonce ad m
unfolding sealed_under
sealed_alike forward other n bundle hp hk sp sk nonce ad m hn ha hm =
    sealed_same (forward (prf_key n bundle)) (other (prf_key n bundle)) (forward (blk_key n bundle)) (other (blk_key n bundle)) hp hk sp sk (tau_of bundle) nonce ad m hn ha hm
