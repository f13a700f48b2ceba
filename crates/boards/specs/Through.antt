-- What slots hold, seen through a function of slot and row.
use Rattle.std.specs.Prelude.{ℕ, suc, ◌%◌, List, [], ◌∷◌}
use Rattle.devices.specs.Slots.{Slot, nothing, row}

-- what one slot holds with f put to its row, and nothing where it holds nothing
abbrev pub on_row : (List ℕ → List ℕ) → Slot → Slot
on_row f nothing = nothing
on_row f (row r) = row (f r)

-- each row under f, with the slots numbered from n
abbrev pub through_from : (ℕ → List ℕ → List ℕ) → ℕ → List Slot → List Slot
through_from f n [] = []
through_from f n (x ∷ xs) = on_row (f n) x ∷ through_from f (suc n) xs

-- each row under f, by the number of its slot
unfoldable pub through : (ℕ → List ℕ → List ℕ) → List Slot → List Slot
through f held = through_from f 0 held

-- the string xs as one of as many bytes as r has
unfoldable pub as_long_as : List ℕ → List ℕ → List ℕ
as_long_as [] xs = []
as_long_as (x ∷ r) [] = 0 ∷ as_long_as r []
as_long_as (x ∷ r) (y ∷ xs) = y % 256 ∷ as_long_as r xs

-- f, and its result taken as long as the row; that is f itself wherever f keeps a row's length and gives bytes
abbrev pub keeping_length : (ℕ → List ℕ → List ℕ) → ℕ → List ℕ → List ℕ
keeping_length f n r = as_long_as r (f n r)
