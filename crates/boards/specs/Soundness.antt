-- A board keeps the limits of its device.
use Rattle.std.specs.Prelude.{◌≡◌, ℕ, zero, suc, ◌+◌, List, [], ◌∷◌, length, slice_index_or, refl}
use Rattle.std.proofs.Common.{sym, ap, ◌∙◌, subst, arith}
use Rattle.base.specs.Bytes.{AllBytes}
use Rattle.devices.specs.Slots.{Slot, nothing, row, Shape, RowFits, Sound}
use Rattle.boards.specs.Through.{on_row, through_from, through, as_long_as, keeping_length}

pub length_from : (f : ℕ → List ℕ → List ℕ) (n : ℕ) (xs : List Slot) → length (through_from f n xs) ≡ length xs
length_from f n [] = refl
length_from f n (x ∷ xs) = ap suc (length_from f (suc n) xs)

pub get_or_from : (f : ℕ → List ℕ → List ℕ) (xs : List Slot) (k n j : ℕ) → k + n ≡ j → slice_index_or (through_from f k xs) n nothing ≡ on_row (f j) (slice_index_or xs n nothing)
get_or_from f [] k n j e = refl
get_or_from f (x ∷ xs) k zero j e = let h : k ≡ j = omega arith in ap (λ (m : ℕ). on_row (f m) x) h
get_or_from f (x ∷ xs) k (suc n) j e = get_or_from f xs (suc k) n j (omega arith)

pub length_through : (f : ℕ → List ℕ → List ℕ) (xs : List Slot) → length (through f xs) ≡ length xs
unfolding through
length_through f xs = length_from f 0 xs

pub get_or_through : (f : ℕ → List ℕ → List ℕ) (xs : List Slot) (n : ℕ) → slice_index_or (through f xs) n nothing ≡ on_row (f n) (slice_index_or xs n nothing)
unfolding through
get_or_through f xs n = get_or_from f xs 0 n n (omega arith)

pub as_long : (r xs : List ℕ) → length (as_long_as r xs) ≡ length r
unfolding as_long_as
as_long [] xs = refl
as_long (x ∷ r) [] = ap suc (as_long r [])
as_long (x ∷ r) (y ∷ xs) = ap suc (as_long r xs)

pub as_bytes : (r xs : List ℕ) → AllBytes (as_long_as r xs)
unfolding as_long_as
as_bytes [] xs i = omega arith
as_bytes (x ∷ r) [] zero = omega arith
as_bytes (x ∷ r) [] (suc i) = as_bytes r [] i
as_bytes (x ∷ r) (y ∷ xs) zero = omega arith
as_bytes (x ∷ r) (y ∷ xs) (suc i) = as_bytes r xs i

pub row_fits : (s : Shape) (f : ℕ → List ℕ → List ℕ) (n : ℕ) (x : Slot) → RowFits s x → RowFits s (on_row (keeping_length f n) x)
row_fits s f n nothing h = tt
row_fits s f n (row r) h = let l = as_long r (f n r) in (omega (arith, h.0), omega (arith, h.1), as_bytes r (f n r))

-- rows seen through a function that keeps their lengths are within the limits
pub sound_through : (s : Shape) (held : List Slot) (f : ℕ → List ℕ → List ℕ) → Sound s held → Sound s (through (keeping_length f) held)
sound_through s held f h = record {
  slots_low = h.slots_low;
  slots_high = h.slots_high;
  longest_low = h.longest_low;
  longest_high = h.longest_high;
  units_high = h.units_high;
  total_high = h.total_high;
  count = length_through (keeping_length f) held ∙ h.count;
  rows = λ i lt. subst (RowFits s) (sym (get_or_through (keeping_length f) held i)) (row_fits s f i (slice_index_or held i nothing) (h.rows i lt));
}
