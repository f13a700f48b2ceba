-- A message cut into blocks of sixteen bytes and a tail, and put together again.
use Rattle.std.specs.Prelude.{ℕ, zero, suc, ◌+◌, ◌-◌, ◌*◌, ◌/◌, ◌%◌, ◌≤◌, List, [], ◌∷◌, ◌++◌, length, take, drop}
use Rattle.base.specs.Bytes.{AllBytes, zeros}

-- a message has at least one whole block
pub record Message (m : List ℕ) : Type 0 where
  pub long : 16 ≤ length m
  pub fit : AllBytes m

-- how many whole blocks a message has
abbrev pub whole_blocks : List ℕ → ℕ
whole_blocks m = length m / 16

-- the block i, counted from 0
abbrev pub block_at : ℕ → List ℕ → List ℕ
block_at i m = take 16 (drop (i * 16) m)

-- which block is the last whole one
abbrev pub last_index : List ℕ → ℕ
last_index m = whole_blocks m - 1

-- the tail: the 0 to 15 bytes after the whole blocks
abbrev pub tail_of : List ℕ → List ℕ
tail_of m = drop (whole_blocks m * 16) m

-- F 0, F 1, … F (n - 1), joined
unfoldable pub blocks_joined : (ℕ → List ℕ) → ℕ → List ℕ
blocks_joined F zero = []
blocks_joined F (suc n) = blocks_joined F n ++ F n

-- the message of the blocks F 0, … F (n - 1), the last whole block l and the tail t
abbrev pub assembled : (ℕ → List ℕ) → ℕ → List ℕ → List ℕ → List ℕ
assembled F n l t = blocks_joined F n ++ (l ++ t)

-- the message with b in the place of its block i
abbrev pub with_block : ℕ → List ℕ → List ℕ → List ℕ
with_block i b m = take (i * 16) m ++ (b ++ drop (i * 16 + 16) m)

-- zeros up to a multiple of sixteen bytes; an empty string stays empty
abbrev pub zero_padded : List ℕ → List ℕ
zero_padded t = t ++ zeros ((16 - length t % 16) % 16)

-- a block from a string of 0 to 15 bytes: the string, the byte x, then zeros
abbrev pub ended_by : ℕ → List ℕ → List ℕ
ended_by x t = t ++ (x ∷ zeros (15 - length t))
