-- CMAC as in NIST SP 800-38B, over a function f from blocks to blocks.
use Rattle.std.specs.Prelude.{ℕ, zero, suc, ◌+◌, ◌-◌, ◌*◌, ◌/◌, cond, List, reverse, length, drop, ◌==◌}
use Rattle.base.specs.Bytes.{xor_front, zeros}
use Rattle.base.specs.Numbers.{number, bytes}
use Rattle.base.specs.Blocks.{block_at, zero_padded, ended_by}
use Rattle.field.specs.Field.{times_z}

-- CMAC's doubling: a block read highest bit first goes one place up, and where a bit falls out 87 (hex) is added
unfoldable pub doubled : List ℕ → List ℕ
doubled b = reverse (bytes 16 (times_z (number (reverse b))))

-- the subkey for a whole last block
abbrev pub first_subkey : (List ℕ → List ℕ) → List ℕ
first_subkey f = doubled (f (zeros 16))

-- the subkey for a short last block
abbrev pub second_subkey : (List ℕ → List ℕ) → List ℕ
second_subkey f = doubled (first_subkey f)

-- the state s after the first n blocks of m: each is added to it, and the sum goes through f
unfoldable pub chained : (List ℕ → List ℕ) → List ℕ → ℕ → List ℕ → List ℕ
chained f s zero m = s
chained f s (suc n) m = f (xor_front (chained f s n m) (block_at n m))

-- the state s after the whole of t, with zeros up to whole blocks
abbrev pub absorbed : (List ℕ → List ℕ) → List ℕ → List ℕ → List ℕ
absorbed f s t = chained f s ((length t + 15) / 16) (zero_padded t)

-- how many blocks stand before the last one, which may be short, and is empty only where all of m is
abbrev pub blocks_before : List ℕ → ℕ
blocks_before m = (length m - 1) / 16

-- the last block with its subkey added: a whole one as it is, a short one ended by 80 (hex)
abbrev pub last_masked : (List ℕ → List ℕ) → List ℕ → List ℕ
last_masked f l = cond (length l == 16) (xor_front l (first_subkey f)) (xor_front (ended_by 0x80 l) (second_subkey f))

-- the message authentication code of m: sixteen bytes
unfoldable pub cmac_of : (List ℕ → List ℕ) → List ℕ → List ℕ
cmac_of f m = f (xor_front (chained f (zeros 16) (blocks_before m) m) (last_masked f (drop (blocks_before m * 16) m)))
