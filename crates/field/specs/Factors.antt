-- Multiples of an element that products by it are put together from.
use Rattle.std.specs.Prelude.{◌≡◌, ℕ, ◌^◌, ◌<◌, List, length, slice_index}
use Rattle.field.specs.Field.{field_product}

-- xs has the multiples of a by the sixteen polynomials of degree below 4, each at the place that its number says
abbrev pub Multiples : ℕ → List ℕ → Type 0
Multiples a xs = (length xs ≡ 16) × (a < 2 ^ 128) × ((i : ℕ) → i < 16 → slice_index xs i ≡ field_product i a)

-- the element that they are multiples of: the one by 1
abbrev pub factor_of : List ℕ → ℕ
factor_of xs = slice_index xs 1
