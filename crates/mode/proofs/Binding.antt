-- CMAC gives blocks, so beta one and beta two are elements of the field.
use Rattle.std.proofs.Common.{ℕ, zero, suc, ◌-◌, ◌*◌, ◌%◌, ◌^◌, ◌<◌, Bool, true, false, cond, eqb, List, ◌∷◌, ◌++◌, length, drop, ◌∙◌, arith}
use Rattle.base.specs.Bytes.{AllBytes, Block, xor_front, zeros}
use Rattle.base.specs.Numbers.{bytes}
use Rattle.base.specs.Blocks.{block_at, zero_padded, ended_by}
use Rattle.base.proofs.Strings.{take_bytes, drop_bytes, append_bytes, zeros_bytes, zeros_long, front_long, front_bytes, cons_bytes, reverse_bytes}
use Rattle.base.proofs.Digits.{bytes_fit, block_lt}
use Rattle.field.proofs.Products.{times_z_lt}
use Rattle.mode.specs.Cmac.{doubled, first_subkey, second_subkey, chained, last_masked, blocks_before, cmac_of}
use Rattle.mode.specs.Sealing.{length_group, binding_input, beta_one, beta_two}
use Rattle.mode.specs.Laws.{OnBlocks}

doubled_bytes : (b : List ℕ) → AllBytes (doubled b)
unfolding doubled
doubled_bytes b = reverse_bytes (bytes 16 _) (bytes_fit 16 _)

-- a block with bytes added is a block
pub front_block : (b ys : List ℕ) → Block b → AllBytes ys → Block (xor_front b ys)
front_block b ys h k = record { long = front_long b ys ∙ h.long; fit = front_bytes b ys h.fit k }

pub zero_block : Block (zeros 16)
zero_block = record { long = zeros_long 16; fit = zeros_bytes 16 }

padded_bytes : (t : List ℕ) → AllBytes t → AllBytes (zero_padded t)
padded_bytes t h = append_bytes t (zeros ((16 - length t % 16) % 16)) h (zeros_bytes ((16 - length t % 16) % 16))

cond_bytes : (t : Bool) (xs ys : List ℕ) → AllBytes xs → AllBytes ys → AllBytes (cond t xs ys)
cond_bytes true xs ys h k = h
cond_bytes false xs ys h k = k

-- what a message is bound to is bytes
pub input_bytes : (nonce ad : List ℕ) (l : ℕ) → AllBytes nonce → AllBytes ad → AllBytes (binding_input nonce ad l)
unfolding binding_input length_group
input_bytes nonce ad l hn ha =
    let n : ℕ = length nonce in
    let a : ℕ = length ad in
    append_bytes (zero_padded nonce) _ (padded_bytes nonce hn)
    (append_bytes (zero_padded ad) _ (padded_bytes ad ha)
    (padded_bytes (bytes 4 n ++ (bytes 4 a ++ bytes 4 l)) (append_bytes (bytes 4 n) (bytes 4 a ++ bytes 4 l) (bytes_fit 4 n) (append_bytes (bytes 4 a) (bytes 4 l) (bytes_fit 4 a) (bytes_fit 4 l)))))

module _ (f : List ℕ → List ℕ) (hf : OnBlocks f) where
  pub masked_bytes : (l : List ℕ) → AllBytes l → AllBytes (last_masked f l)
  masked_bytes l h =
      cond_bytes (eqb (length l) 16) (xor_front l (first_subkey f)) (xor_front (ended_by 0x80 l) (second_subkey f))
      (front_bytes l (first_subkey f) h (doubled_bytes (f (zeros 16))))
      (front_bytes (ended_by 0x80 l) (second_subkey f)
      (append_bytes l (0x80 ∷ zeros (15 - length l)) h (cons_bytes 0x80 (zeros (15 - length l)) (omega arith) (zeros_bytes (15 - length l)))) (doubled_bytes (first_subkey f)))

  pub chained_block : (s : List ℕ) (n : ℕ) (m : List ℕ) → Block s → AllBytes m → Block (chained f s n m)
  unfolding chained
  chained_block s zero m hs hm = hs
  chained_block s (suc n) m hs hm = hf _ (front_block (chained f s n m) (block_at n m) (chained_block s n m hs hm) (take_bytes 16 (drop (n * 16) m) (drop_bytes (n * 16) m hm)))

  pub cmac_block : (m : List ℕ) → AllBytes m → Block (cmac_of f m)
  unfolding cmac_of
  cmac_block m h =
      hf _ (front_block (chained f (zeros 16) (blocks_before m) m) (last_masked f (drop (blocks_before m * 16) m))
      (chained_block (zeros 16) (blocks_before m) m zero_block h)
      (masked_bytes (drop (blocks_before m * 16) m) (drop_bytes (blocks_before m * 16) m h)))

  pub one_lt : (nonce ad : List ℕ) (l : ℕ) → AllBytes nonce → AllBytes ad → beta_one f nonce ad l < 2 ^ 128
  unfolding beta_one
  one_lt nonce ad l hn ha = block_lt (cmac_of f (binding_input nonce ad l)) (cmac_block (binding_input nonce ad l) (input_bytes nonce ad l hn ha))

  pub two_lt : (nonce ad : List ℕ) (l : ℕ) → AllBytes nonce → AllBytes ad → beta_two f nonce ad l < 2 ^ 128
  two_lt nonce ad l hn ha = times_z_lt (beta_one f nonce ad l) (one_lt nonce ad l hn ha)
