-- Enciphering a message block by block, and its undoing.
use Rattle.std.specs.Prelude.{ℕ, ◌*◌, List, [], ◌∷◌, ◌++◌, take}
use Rattle.base.specs.Bytes.{xor_front}
use Rattle.base.specs.Blocks.{whole_blocks, block_at, last_index, tail_of, blocks_joined, assembled}

-- the block l through f where there is a tail, and as it is where there is none
abbrev pub where_tail : (List ℕ → List ℕ) → List ℕ → List ℕ → List ℕ
where_tail f l [] = l
where_tail f l (x ∷ tail) = f l

-- enciphering by f: every whole block goes through f, the new last whole block is added onto the tail,
-- and where there is a tail that block goes through f once more
unfoldable pub enciphered : (List ℕ → List ℕ) → List ℕ → List ℕ
enciphered f m =
    assembled (λ i. f (block_at i m)) (last_index m) (where_tail f (f (block_at (last_index m) m)) (tail_of m)) (xor_front (tail_of m) (f (block_at (last_index m) m)))

-- undoing it by g: the last whole block goes through g where there is a tail, is added onto the tail,
-- and then every whole block goes through g
unfoldable pub deciphered : (List ℕ → List ℕ) → List ℕ → List ℕ
deciphered g m =
    assembled (λ i. g (block_at i m)) (last_index m) (g (where_tail g (block_at (last_index m) m) (tail_of m))) (xor_front (tail_of m) (where_tail g (block_at (last_index m) m) (tail_of m)))

-- f of each whole block, and the tail as it is
abbrev pub all_through : (List ℕ → List ℕ) → List ℕ → List ℕ
all_through f m = blocks_joined (λ i. f (block_at i m)) (whole_blocks m) ++ tail_of m

-- the last whole block added onto the tail
abbrev pub tail_mixed : List ℕ → List ℕ
tail_mixed m = take (whole_blocks m * 16) m ++ xor_front (tail_of m) (block_at (last_index m) m)
