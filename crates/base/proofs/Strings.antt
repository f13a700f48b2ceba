-- The laws of byte strings.
use Rattle.std.proofs.Common.{◌≡◌, ℕ, zero, suc, ◌+◌, ◌-◌, ◌<◌, ◌≤◌, List, [], ◌∷◌, ◌++◌, reverse, length, get_or, take, drop, set, sym, refl, ap, ◌∙◌, subst, inl, inr, add-one, arith, length-take}
use lib.Bits.{bit_xor, xor_assoc, xor_self, xor_zero_r, xor_lt}
use Rattle.std.proofs.lemmas.List.{get_or-take, get_or-drop, get_or_past, get_or_append_left, get_or-append_right, get_or-reverse, length-reverse}
use Rattle.std.proofs.lemmas.Bool.{cases_lt}
use Rattle.base.specs.Bytes.{AllBytes, xor_front, zeros}

-- ---- parts of byte strings are byte strings

pub take_bytes : (n : ℕ) (xs : List ℕ) → AllBytes xs → AllBytes (take n xs)
take_bytes n xs h i = elim (cases_lt i n) [
  | inl l ↦ subst (λ (x : ℕ). x < 256) (sym (get_or-take n xs i 0 l)) (h i)
  | inr l ↦ subst (λ (x : ℕ). x < 256) (sym (get_or_past (take n xs) i 0 (simp length-take (omega arith)))) (omega arith)
]

pub drop_bytes : (n : ℕ) (xs : List ℕ) → AllBytes xs → AllBytes (drop n xs)
drop_bytes n xs h i = subst (λ (x : ℕ). x < 256) (sym (get_or-drop n xs i 0)) (h (n + i))

pub append_bytes : (xs ys : List ℕ) → AllBytes xs → AllBytes ys → AllBytes (xs ++ ys)
append_bytes xs ys h k i = elim (cases_lt i (length xs)) [
  | inl l ↦ subst (λ (x : ℕ). x < 256) (sym (get_or_append_left xs ys 0 i l)) (h i)
  | inr l ↦ subst (λ (x : ℕ). x < 256) (sym (get_or-append_right xs ys (length xs) i 0 refl l)) (k (i - length xs))
]

pub zeros_bytes : (n : ℕ) → AllBytes (zeros n)
zeros_bytes zero i = omega arith
zeros_bytes (suc n) zero = omega arith
zeros_bytes (suc n) (suc i) = zeros_bytes n i

pub zeros_long : (n : ℕ) → length (zeros n) ≡ n
zeros_long zero = refl
zeros_long (suc n) = ap suc (zeros_long n)

-- ---- xor

pub xor_twice : (a b : ℕ) → bit_xor (bit_xor a b) b ≡ a
xor_twice a b = xor_assoc a b b ∙ ap (bit_xor a) (xor_self b) ∙ xor_zero_r a

pub front_none : (xs : List ℕ) → xor_front xs [] ≡ xs
front_none [] = refl
front_none (x ∷ xs) = refl

pub front_long : (xs ys : List ℕ) → length (xor_front xs ys) ≡ length xs
front_long [] ys = refl
front_long (x ∷ xs) [] = refl
front_long (x ∷ xs) (y ∷ ys) = ap suc (front_long xs ys)

pub front_bytes : (xs ys : List ℕ) → AllBytes xs → AllBytes ys → AllBytes (xor_front xs ys)
front_bytes [] ys h k i = omega arith
front_bytes (x ∷ xs) [] h k i = h i
front_bytes (x ∷ xs) (y ∷ ys) h k zero = xor_lt 8 x y (h 0) (k 0)
front_bytes (x ∷ xs) (y ∷ ys) h k (suc i) = front_bytes xs ys (λ j. h (suc j)) (λ j. k (suc j)) i

-- xor of the same bytes twice changes nothing
pub front_twice : (xs ys : List ℕ) → xor_front (xor_front xs ys) ys ≡ xs
front_twice [] ys = refl
front_twice (x ∷ xs) [] = refl
front_twice (x ∷ xs) (y ∷ ys) = ap (λ (z : ℕ). z ∷ xor_front (xor_front xs ys) ys) (xor_twice x y) ∙ ap (λ (z : List ℕ). x ∷ z) (front_twice xs ys)

-- only as many bytes of ys count as xs has
pub front_enough : (n : ℕ) (xs ys : List ℕ) → (n < length xs → length ys ≤ n) → xor_front xs (take n ys) ≡ xor_front xs ys
front_enough n [] ys h = refl
front_enough zero (x ∷ xs) [] h = refl
front_enough (suc n) (x ∷ xs) [] h = refl
front_enough zero (x ∷ xs) (y ∷ ys) h = absurd (omega (arith, h (omega arith)))
front_enough (suc n) (x ∷ xs) (y ∷ ys) h = ap (λ (z : List ℕ). bit_xor x y ∷ z) (front_enough n xs ys (λ l. omega (arith, h (omega arith))))

step : (i : ℕ) (xs ys : List ℕ) → i < length xs → i < length ys →
    set (xor_front xs (take i ys)) i (bit_xor (get_or (xor_front xs (take i ys)) i 0) (get_or ys i 0)) ≡ xor_front xs (take (suc i) ys)
step i [] ys h k = absurd (omega arith)
step i (x ∷ xs) [] h k = absurd (omega arith)
step zero (x ∷ xs) (y ∷ ys) h k = ap (λ (z : List ℕ). bit_xor x y ∷ z) (sym (front_none xs))
step (suc i) (x ∷ xs) (y ∷ ys) h k = ap (λ (z : List ℕ). bit_xor x y ∷ z) (step i xs ys (omega arith) (omega arith))

-- one byte more in a loop over the bytes of ys
pub front_more : (xs ys a : List ℕ) (i : ℕ) → a ≡ xor_front xs (take i ys) → i < length xs → i < length ys →
    set a i (bit_xor (get_or a i 0) (get_or ys i 0)) ≡ xor_front xs (take (i + 1) ys)
front_more xs ys a i e h k = ap (λ (z : List ℕ). set z i (bit_xor (get_or z i 0) (get_or ys i 0))) e ∙ step i xs ys h k ∙ ap (λ (n : ℕ). xor_front xs (take n ys)) (sym (add-one i))

-- zeros added change nothing
pub front_zeros : (xs ys : List ℕ) (k : ℕ) → xor_front xs (ys ++ zeros k) ≡ xor_front xs ys
front_zeros [] ys k = refl
front_zeros (x ∷ xs) [] zero = refl
front_zeros (x ∷ xs) [] (suc k) = ap (λ (z : ℕ). z ∷ xor_front xs (zeros k)) (xor_zero_r x) ∙ ap (λ (z : List ℕ). x ∷ z) (front_zeros xs [] k ∙ front_none xs)
front_zeros (x ∷ xs) (y ∷ ys) k = ap (λ (z : List ℕ). bit_xor x y ∷ z) (front_zeros xs ys k)

pub cons_bytes : (x : ℕ) (xs : List ℕ) → x < 256 → AllBytes xs → AllBytes (x ∷ xs)
cons_bytes x xs h k zero = h
cons_bytes x xs h k (suc i) = k i

pub reverse_bytes : (xs : List ℕ) → AllBytes xs → AllBytes (reverse xs)
reverse_bytes xs h i = elim (cases_lt i (length xs)) [
  | inl l ↦ subst (λ (x : ℕ). x < 256) (sym (get_or-reverse xs i 0 l)) (h (length xs - 1 - i))
  | inr l ↦ subst (λ (x : ℕ). x < 256) (sym (get_or_past (reverse xs) i 0 (simp length-reverse (omega arith)))) (omega arith)
]
