-- Hexadecimal: two digits a byte, the higher one first.
use Rattle.std.specs.Prelude.{ℕ, ◌+◌, ◌-◌, ◌*◌, ◌/◌, ◌%◌, Bool, cond, ◌&&◌, List, [], ◌∷◌, Some, None, codes, Option, ◌==◌, nat_le, nat_lt}

-- whether a character lies from one to another
abbrev pub between : ℕ → ℕ → ℕ → Bool
between low high c = nat_le low c && nat_le c high

-- the value of a digit: 0 to 9, a to f, A to F
abbrev pub value_of : ℕ → Option ℕ
value_of c =
    cond (between 48 57 c) (Some (c - 48))
    (cond (between 97 102 c) (Some (c - 97 + 10))
    (cond (between 65 70 c) (Some (c - 65 + 10)) None))

-- the digit of a value below 16, in lower case
abbrev pub digit_of : ℕ → ℕ
digit_of v = cond (nat_lt v 10) (48 + v) (97 + (v - 10))

-- the byte of two values, if both are there
abbrev pub paired : Option ℕ → Option ℕ → Option ℕ
paired None low = None
paired (Some h) None = None
paired (Some h) (Some l) = Some (h * 16 + l)

-- the byte that two digits spell
abbrev pub byte_of : ℕ → ℕ → Option ℕ
byte_of high low = paired (value_of high) (value_of low)

-- a byte in front of bytes, if all are there
abbrev pub before : Option ℕ → Option (List ℕ) → Option (List ℕ)
before None bytes = None
before (Some b) None = None
before (Some b) (Some bytes) = Some (b ∷ bytes)

-- the bytes that pairs of digits spell
abbrev pub pairs_of : List ℕ → Option (List ℕ)
pairs_of [] = Some []
pairs_of (c ∷ []) = None
pairs_of (h ∷ (l ∷ more)) = before (byte_of h l) (pairs_of more)

-- the bytes that a word spells; - is the empty string
abbrev pub bytes_of : List ℕ → Option (List ℕ)
bytes_of [] = Some []
bytes_of (c ∷ []) = cond (c == 45) (Some []) None
bytes_of (h ∷ (l ∷ more)) = pairs_of (h ∷ (l ∷ more))

-- two digits for each byte
abbrev pub digits_of : List ℕ → List ℕ
digits_of [] = []
digits_of (b ∷ bytes) = digit_of (b / 16) ∷ (digit_of (b % 16) ∷ digits_of bytes)

-- the word for bytes; - for none
abbrev pub word_of : List ℕ → List ℕ
word_of [] = codes "-"
word_of (b ∷ bytes) = digits_of (b ∷ bytes)
