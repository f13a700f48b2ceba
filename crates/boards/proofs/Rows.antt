-- What slots hold, through a function and back.
use Rattle.std.proofs.Common.{◌≡◌, ℕ, zero, suc, ◌+◌, ◌%◌, ◌<◌, List, [], ◌∷◌, length, get_or, set, sym, refl, ap, ◌∙◌, subst, arith}
use Rattle.std.proofs.lemmas.List.{ext_get_or}
use Rattle.base.specs.Bytes.{AllBytes}
use Rattle.devices.specs.Slots.{Slot, nothing, row, Shape, RowFits, Sound}
use Rattle.boards.specs.Kinds.{StringOf}
use Rattle.boards.specs.Through.{on_row, through_from, through, as_long_as}
use Rattle.boards.specs.Soundness.{length_through, get_or_through}

-- a function keeps lengths and gives bytes: nothing is cut
pub as_is : (r xs : List ℕ) → length xs ≡ length r → AllBytes xs → as_long_as r xs ≡ xs
unfolding as_long_as
as_is [] [] l fit = refl
as_is [] (y ∷ xs) l fit = absurd (omega arith)
as_is (x ∷ r) [] l fit = absurd (omega arith)
as_is (x ∷ r) (y ∷ xs) l fit =
    let h : y % 256 ≡ y = omega (arith, fit 0) in
    ap (λ (a : ℕ). a ∷ as_long_as r xs) h ∙ ap (λ (t : List ℕ). y ∷ t) (as_is r xs (omega arith) (λ i. fit (suc i)))

set_from : (f : ℕ → List ℕ → List ℕ) (xs : List Slot) (k n j : ℕ) (x : Slot) → k + n ≡ j → through_from f k (set xs n x) ≡ set (through_from f k xs) n (on_row (f j) x)
set_from f [] k n j x e = refl
set_from f (y ∷ xs) k zero j x e = let h : k ≡ j = omega arith in ap (λ (m : ℕ). on_row (f m) x ∷ through_from f (suc k) xs) h
set_from f (y ∷ xs) k (suc n) j x e = ap (λ (t : List Slot). on_row (f k) y ∷ t) (set_from f xs (suc k) n j x (omega arith))

pub set_through : (f : ℕ → List ℕ → List ℕ) (xs : List Slot) (n : ℕ) (x : Slot) → through f (set xs n x) ≡ set (through f xs) n (on_row (f n) x)
unfolding through
set_through f xs n x = set_from f xs 0 n n x (omega arith)

-- two functions that agree on every row that is held
pub on_alike : (f g : List ℕ → List ℕ) (x : Slot) → ((r : List ℕ) → x ≡ row r → f r ≡ g r) → on_row f x ≡ on_row g x
on_alike f g nothing h = refl
on_alike f g (row r) h = ap (λ (q : List ℕ). row q) (h r refl)

pub on_twice : (f g : List ℕ → List ℕ) (x : Slot) → ((r : List ℕ) → x ≡ row r → g (f r) ≡ r) → on_row g (on_row f x) ≡ x
on_twice f g nothing h = refl
on_twice f g (row r) h = ap (λ (q : List ℕ). row q) (h r refl)

pub through_alike : (f g : ℕ → List ℕ → List ℕ) (xs : List Slot) → ((n : ℕ) (r : List ℕ) → n < length xs → get_or xs n nothing ≡ row r → f n r ≡ g n r) → through f xs ≡ through g xs
through_alike f g xs h =
    ext_get_or nothing (through f xs) (through g xs) (length_through f xs ∙ sym (length_through g xs))
    (λ n lt. get_or_through f xs n ∙ on_alike (f n) (g n) (get_or xs n nothing) (λ r e. h n r (omega (arith, length_through f xs)) e) ∙ sym (get_or_through g xs n))

-- g undoes f on every row that is held
pub through_back : (f g : ℕ → List ℕ → List ℕ) (xs : List Slot) → ((n : ℕ) (r : List ℕ) → n < length xs → get_or xs n nothing ≡ row r → g n (f n r) ≡ r) → through g (through f xs) ≡ xs
through_back f g xs h =
    ext_get_or nothing (through g (through f xs)) xs (length_through g (through f xs) ∙ length_through f xs)
    (λ n lt. get_or_through g (through f xs) n ∙ ap (on_row (g n)) (get_or_through f xs n)
    ∙ on_twice (f n) (g n) (get_or xs n nothing) (λ r e. h n r (omega (arith, length_through g (through f xs), length_through f xs)) e))

pub through_same : (xs : List Slot) → through (λ n r. r) xs ≡ xs
through_same xs = ext_get_or nothing (through (λ n r. r) xs) xs (length_through (λ n r. r) xs) (λ n lt. get_or_through (λ n r. r) xs n ∙ on_same (get_or xs n nothing)) where
  on_same : (x : Slot) → on_row (λ r. r) x ≡ x
  on_same nothing = refl
  on_same (row r) = refl

-- a row that is held is within the limits
pub held_row : (s : Shape) (xs : List Slot) (n : ℕ) (r : List ℕ) → Sound s xs → n < length xs → get_or xs n nothing ≡ row r → StringOf 16 1000 r
held_row s xs n r sound lt e =
    let h : RowFits s (row r) = subst (RowFits s) e (sound.rows n (omega (arith, sound.count))) in
    record { low = h.0; high = omega (arith, h.1, sound.longest_high); fit = h.2 }
