-- Key bundles: tau, the prf key and the blk key, joined; and sealing and opening under one, by a cipher's functions
-- of key and block and its key length.
use Rattle.std.specs.Prelude.{ℕ, ◌+◌, List, take, drop}
use Rattle.base.specs.Numbers.{number}
use Rattle.mode.specs.Sealing.{sealed, opened}

-- tau: the first sixteen bytes as an element
abbrev pub tau_of : List ℕ → ℕ
tau_of bundle = number (take 16 bundle)

-- the prf key: the n bytes behind tau
abbrev pub prf_key : ℕ → List ℕ → List ℕ
prf_key n bundle = take n (drop 16 bundle)

-- the blk key: the n bytes behind the prf key
abbrev pub blk_key : ℕ → List ℕ → List ℕ
blk_key n bundle = take n (drop (16 + n) bundle)

-- the sealed form of a message under a bundle
unfoldable pub sealed_under : (List ℕ → List ℕ → List ℕ) → ℕ → List ℕ → List ℕ → List ℕ → List ℕ → List ℕ
sealed_under forward n bundle nonce ad m = sealed (forward (prf_key n bundle)) (forward (blk_key n bundle)) (tau_of bundle) nonce ad m

-- the opened form of a message under a bundle
unfoldable pub opened_under : (List ℕ → List ℕ → List ℕ) → (List ℕ → List ℕ → List ℕ) → ℕ → List ℕ → List ℕ → List ℕ → List ℕ → List ℕ
opened_under forward back n bundle nonce ad m = opened (forward (prf_key n bundle)) (back (blk_key n bundle)) (tau_of bundle) nonce ad m
