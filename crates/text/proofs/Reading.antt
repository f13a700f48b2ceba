-- Numbers in decimal digits, from what parsing answers.
use Rattle.std.proofs.Common.{◌≡◌, ℕ, ◌^◌, ◌<◌, List, Ok, Err, MatchResult, Result, sym, arith, rules}
use Rattle.std.specs.Result.{IsErrAnd}
use Rattle.std.specs.Str.Parse.{ParsesUnsigned}
use Rattle.std.proofs.lemmas.Str.Parse.{IsNumeralModel, numerals_by_fold, tells_by_index, parse_digits}
use Rattle.text.specs.Decimal.{AllDigits, spelled_after, Spells}
use Rattle.text.specs.Faults.{AtFault}
use Rattle.text.specs.declared.fault.Fault.{Fault}

own : IsNumeralModel AllDigits (spelled_after 0)
own = numerals_by_fold AllDigits tells_by_index spelled_after (search rules)

-- what parsing answers for digits, its error told as a fault of the word
pub parsed : {E : Type 0} (word : List ℕ) (r : Result ℕ E) (s : Result ℕ Fault) (Q : E → Fault → Type 0) → AllDigits word → ParsesUnsigned {E = E} 64 10 word r → MatchResult r (λ n. s ≡ Ok n) (λ e. IsErrAnd s (Q e)) → ((e : E) (f : Fault) → Q e f → (P : Type 0) → P → AtFault f P) → MatchResult s (Spells word) (λ f. AtFault f ((n : ℕ) → n < 2 ^ 64 → Spells word n → ⊥))
parsed {E} word (Ok n) s Q digits reads same line =
    let found = parse_digits own {E = E} 64 word (Ok n) reads digits in
    let spells : Spells word n = record { some = found.0.0; digits = digits; value = sym found.1 } in
    rw same spells
parsed {E} word (Err e) (Ok n) Q digits reads told line = absurd told
parsed {E} word (Err e) (Err f) Q digits reads told line =
    line e f told ((n : ℕ) → n < 2 ^ 64 → Spells word n → ⊥) (λ n small spells. parse_digits own {E = E} 64 word (Err e) reads digits (spells.some, omega (arith, spells.value)))
