-- Speck128/128, from its designers' paper: a block and a key of two words of 64 bits each, 32 rounds.
use Rattle.std.specs.Prelude.{ℕ, zero, suc, List, [], ◌∷◌, ◌++◌, map, take, drop, fold, bit_xor}
use Rattle.std.specs.List.{range_with_len}
use Rattle.base.specs.Numbers.{number, bytes}
use Rattle.ciphers.specs.Words.{rotated_right, rotated_left, plus, minus}

-- a in one round on the words (a, b) with the round key k: it becomes (a rotated right by 8, plus b) xor k
unfoldable pub round_a : ℕ → ℕ → ℕ → ℕ
round_a a b k = bit_xor (plus (rotated_right 8 a) b) k

-- b in that round: it becomes (b rotated left by 3) xor the new a
unfoldable pub round_b : ℕ → ℕ → ℕ → ℕ
round_b a b k = bit_xor (rotated_left 3 b) (round_a a b k)

-- the round on both words
abbrev pub round : ℕ × ℕ → ℕ → ℕ × ℕ
round s k = (round_a s.0 s.1 k, round_b s.0 s.1 k)

-- b as it was before a round
unfoldable pub unround_b : ℕ → ℕ → ℕ
unround_b a b = rotated_right 3 (bit_xor b a)

-- a as it was before a round with k, by that b
unfoldable pub unround_a : ℕ → ℕ → ℕ → ℕ
unround_a a b k = rotated_left 8 (minus (bit_xor a k) (unround_b a b))

-- a round undone on both words
abbrev pub unround : ℕ × ℕ → ℕ → ℕ × ℕ
unround s k = (unround_a s.0 s.1 k, unround_b s.0 s.1)

-- a round for each round key, in their order
unfoldable pub rounds : ℕ × ℕ → List ℕ → ℕ × ℕ
rounds s ks = fold round s ks

-- these rounds undone, from the last key to the first
unfoldable pub unrounds : ℕ × ℕ → List ℕ → ℕ × ℕ
unrounds s [] = s
unrounds s (k ∷ ks) = unround (unrounds s ks) k

-- the two words of sixteen bytes: (that of the last eight, that of the first eight), the lowest byte first
unfoldable pub words_of : List ℕ → ℕ × ℕ
words_of bs = (number (take 8 (drop 8 bs)), number (take 8 bs))

-- the sixteen bytes of two words
unfoldable pub block_of : ℕ × ℕ → List ℕ
block_of s = bytes 8 s.1 ++ bytes 8 s.0

-- the key's words (m, k) after n steps of the key schedule: step i is a round with i for its round key
unfoldable pub scheduled : ℕ × ℕ → ℕ → ℕ × ℕ
scheduled s zero = s
scheduled s (suc n) = round (scheduled s n) n

-- the round key of each of the 32 rounds is the word k at that step
unfoldable pub round_keys : List ℕ → List ℕ
round_keys key = map (λ i. (scheduled (words_of key) i).1) (range_with_len 0 32)

-- a block under a key, forward
unfoldable pub speck_forward : List ℕ → List ℕ → List ℕ
speck_forward key block = block_of (rounds (words_of block) (round_keys key))

-- and back
unfoldable pub speck_back : List ℕ → List ℕ → List ℕ
speck_back key block = block_of (unrounds (words_of block) (round_keys key))
