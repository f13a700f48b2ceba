-- A line cut into words at its white space.
use Rattle.std.specs.Prelude.{◌≡◌, ℕ, ◌<◌, ◌⊎◌, List, [], ◌∷◌, ◌++◌, length, IsUtf8, slice_index}
use Rattle.std.specs.Char.{is_whitespace, is_not_whitespace}
use Rattle.std.specs.Str.{NoCharPasses, EmptyOrStartsWithPassing}

-- w is the first word of the text, and rest follows it: only white characters stand before w, none in it, and one after it unless the text ends there
pub record First (text w rest : List ℕ) : Type 0 where
  pub gap : List ℕ
  pub whole : text ≡ gap ++ (w ++ rest)
  pub blank : NoCharPasses is_not_whitespace gap
  pub some : 0 < length w
  pub solid : NoCharPasses is_whitespace w
  pub ended : (more : List ℕ) × EmptyOrStartsWithPassing is_whitespace rest more

-- the words of a text, in their order
abbrev pub Words : List ℕ → List (List ℕ) → Type 0
Words text [] = NoCharPasses is_not_whitespace text
Words text (w ∷ words) = (rest : List ℕ) × First text w rest × Words rest words

-- a word that begins with # makes the line a comment
abbrev pub Marked : List ℕ → Type 0
Marked w = slice_index w 0 ≡ 35

-- the first word, if there is one, begins no comment
abbrev pub NoComment : List (List ℕ) → Type 0
NoComment [] = Unit {0}
NoComment (w ∷ words) = Marked w → ⊥

abbrev pub Comment : List ℕ → Type 0
Comment text = (w : List ℕ) × (rest : List ℕ) × First text w rest × Marked w

-- what is read of a line: its words, or nothing of a comment
abbrev pub ReadAs : List ℕ → List (List ℕ) → Type 0
ReadAs line words = IsUtf8 line × ((Words line words × NoComment words) ⊎ (Comment line × (words ≡ [])))
