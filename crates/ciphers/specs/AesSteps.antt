-- The steps of a round of AES (FIPS 197). A state is sixteen bytes, column by column: row r of column c
-- is byte r + 4c.
use Rattle.std.specs.Prelude.{ℕ, zero, suc, ◌+◌, ◌-◌, ◌*◌, ◌/◌, ◌%◌, List, [], ◌∷◌, ◌++◌, map, take, drop, bit_xor, slice_index}
use Rattle.std.specs.List.{range_with_len}
use Rattle.base.specs.Bytes.{xor_front}
use Rattle.ciphers.specs.AesField.{product, substitution, inv_substitution}

-- the byte in row r of column c
abbrev pub at : List ℕ → ℕ → ℕ → ℕ
at s r c = slice_index s (r + 4 * c)

-- the state that has f r c in row r of column c
abbrev pub state : (ℕ → ℕ → ℕ) → List ℕ
state f = map (λ i. f (i % 4) (i / 4)) (range_with_len 0 16)

-- every byte is substituted
unfoldable pub sub_bytes : List ℕ → List ℕ
sub_bytes s = map substitution s

-- and substituted back
unfoldable pub inv_sub_bytes : List ℕ → List ℕ
inv_sub_bytes s = map inv_substitution s

-- row r turns left by r places
unfoldable pub shift_rows : List ℕ → List ℕ
shift_rows s = state (λ r c. at s r ((c + r) % 4))

-- row r turns right by r places
unfoldable pub inv_shift_rows : List ℕ → List ℕ
inv_shift_rows s = state (λ r c. at s r ((c + 4 - r) % 4))

-- the sum of the products of k, l, m and n with the bytes of a column
unfoldable pub row : ℕ → ℕ → ℕ → ℕ → List ℕ → ℕ
row k l m n w = bit_xor (bit_xor (bit_xor (product k (slice_index w 0)) (product l (slice_index w 1))) (product m (slice_index w 2))) (product n (slice_index w 3))

-- a column times the matrix whose first row has the factors fs; each row after it is the one before turned right by one place
unfoldable pub mixed_by : List ℕ → List ℕ → List ℕ
mixed_by fs w =
    row (slice_index fs 0) (slice_index fs 1) (slice_index fs 2) (slice_index fs 3) w
    ∷ row (slice_index fs 3) (slice_index fs 0) (slice_index fs 1) (slice_index fs 2) w
    ∷ row (slice_index fs 2) (slice_index fs 3) (slice_index fs 0) (slice_index fs 1) w
    ∷ row (slice_index fs 1) (slice_index fs 2) (slice_index fs 3) (slice_index fs 0) w ∷ []

-- a column times a matrix
unfoldable pub mix_column : List ℕ → List ℕ
mix_column w = row 2 3 1 1 w ∷ row 1 2 3 1 w ∷ row 1 1 2 3 w ∷ row 3 1 1 2 w ∷ []

-- a column times the inverse of that matrix
unfoldable pub inv_mix_column : List ℕ → List ℕ
inv_mix_column w = row 14 11 13 9 w ∷ row 9 14 11 13 w ∷ row 13 9 14 11 w ∷ row 11 13 9 14 w ∷ []

-- column i of a state, or word i of a list of words: four bytes
abbrev pub word : ℕ → List ℕ → List ℕ
word i s = take 4 (drop (4 * i) s)

-- f of each of the first n columns
unfoldable pub columnwise : (List ℕ → List ℕ) → ℕ → List ℕ → List ℕ
columnwise f zero s = []
columnwise f (suc n) s = columnwise f n s ++ f (word n s)

-- every column is mixed
unfoldable pub mix_columns : List ℕ → List ℕ
mix_columns s = columnwise mix_column 4 s

-- every column is unmixed
unfoldable pub inv_mix_columns : List ℕ → List ℕ
inv_mix_columns s = columnwise inv_mix_column 4 s

-- the sixteen bytes of a round key are added
abbrev pub add_round_key : List ℕ → List ℕ → List ℕ
add_round_key s k = xor_front s k
