-- The key expansion of AES (FIPS 197), for keys of nk words of four bytes: 4, 6 or 8 words.
use Rattle.std.specs.Prelude.{ℕ, zero, suc, ◌+◌, ◌-◌, ◌*◌, ◌/◌, ◌%◌, Bool, cond, ◌&&◌, List, [], ◌∷◌, ◌++◌, map, take, drop, ◌==◌, nat_lt}
use Rattle.base.specs.Bytes.{xor_front}
use Rattle.base.specs.Polynomials.{power}
use Rattle.ciphers.specs.AesField.{substitution}
use Rattle.ciphers.specs.AesSteps.{word}

-- the bytes of a word turned left by one place
abbrev pub rot_word : List ℕ → List ℕ
rot_word w = drop 1 w ++ take 1 w

-- every byte of a word is substituted
abbrev pub sub_word : List ℕ → List ℕ
sub_word w = map substitution w

-- the first byte of the round constant of number j, x to the power j - 1; its other bytes are zero
unfoldable pub round_constant : ℕ → ℕ
round_constant j = power 8 0x11b 2 (j - 1)

-- whether word i comes from a turned word: at each multiple of nk
abbrev pub turned_at : ℕ → ℕ → Bool
turned_at nk i = i % nk == 0

-- whether it comes from a word that is substituted and not turned: where nk is above 6, at each i that is 4 modulo nk
abbrev pub substituted_at : ℕ → ℕ → Bool
substituted_at nk i = nat_lt 6 nk && i % nk == 4

-- what is added to word i - nk to give word i, from word i - 1
unfoldable pub temp : ℕ → ℕ → List ℕ → List ℕ
temp nk i w =
    cond (turned_at nk i) (xor_front (sub_word (rot_word w)) (round_constant (i / nk) ∷ []))
    (cond (substituted_at nk i) (sub_word w) w)

-- word i, from the words before it
unfoldable pub next_word : ℕ → ℕ → List ℕ → List ℕ
next_word nk i ws = xor_front (word (i - nk) ws) (temp nk i (word (i - 1) ws))

-- the first nk + n words: those of the key, and n more, one after the other
unfoldable pub expanded : ℕ → List ℕ → ℕ → List ℕ
expanded nk key zero = key
expanded nk key (suc n) = expanded nk key n ++ next_word nk (nk + n) (expanded nk key n)

-- the number of rounds
abbrev pub rounds_of : ℕ → ℕ
rounds_of nk = nk + 6

-- all words: four for each round, and four that are added before the first
unfoldable pub key_expansion : ℕ → List ℕ → List ℕ
key_expansion nk key = expanded nk key (4 * (rounds_of nk + 1) - nk)
