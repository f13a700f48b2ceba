-- Testing whether every byte is zero.
use Rattle.std.proofs.Common.{◌≡◌, ◌↔◌, ℕ, zero, suc, Bool, true, false, ◌&&◌, eqb, List, [], ◌∷◌, length, All, sym, refl, ap, ◌∙◌, arith}
use Rattle.std.proofs.lemmas.List.Elements.{All-nil, All-cons, All-head, All-tail}
use Rattle.std.proofs.lemmas.Bool.{and_parts, eqb-true, ne_eqb}
use Rattle.base.specs.Bytes.{zeros, all_zero}

-- an answer that is true just where each byte is zero
pub zero_each : (xs : List ℕ) (b : Bool) → ((b ≡ true) ↔ All (λ x. x ≡ 0) xs) → b ≡ all_zero xs
zero_each [] b told = told.1 (All-nil (λ x. x ≡ 0))
zero_each (zero ∷ xs) b told = zero_each xs b (λ t. All-tail (λ x. x ≡ 0) 0 xs (told.0 t), λ rest. told.1 (All-cons (λ x. x ≡ 0) 0 xs refl rest))
zero_each (suc x ∷ xs) true told = let wrong : suc x ≡ 0 = All-head (λ x. x ≡ 0) (suc x) xs (told.0 refl) in absurd (omega arith)
zero_each (suc x ∷ xs) false told = sym (ap (λ t. t && all_zero xs) (ne_eqb (suc x) 0 (λ e. omega arith)))

-- what is zero throughout is a string of zeros, and the other way round
pub are_zeros : (xs : List ℕ) → all_zero xs ≡ true → xs ≡ zeros (length xs)
are_zeros [] e = refl
are_zeros (x ∷ xs) e =
    let p = and_parts (eqb x 0) (all_zero xs) e in
    ap (λ (n : ℕ). n ∷ xs) (eqb-true x 0 p.0) ∙ ap (λ (t : List ℕ). 0 ∷ t) (are_zeros xs p.1)

pub zeros_zero : (n : ℕ) → all_zero (zeros n) ≡ true
zeros_zero zero = refl
zeros_zero (suc n) = zeros_zero n

pub zeros_all : (xs : List ℕ) → xs ≡ zeros (length xs) → all_zero xs ≡ true
zeros_all xs e = ap all_zero e ∙ zeros_zero (length xs)
