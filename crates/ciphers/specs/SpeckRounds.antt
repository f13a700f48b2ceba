-- Rounds over the round keys, and one step more of the key schedule.
use Rattle.std.specs.Prelude.{◌≡◌, ℕ, suc, ◌+◌, ◌-◌, ◌<◌, ◌≤◌, List, [], ◌∷◌, reverse, length, take, drop, fold, slice_index, refl}
use Rattle.std.proofs.Common.{sym, ap, ◌∙◌, add-one, arith, drop-cons}
use Rattle.std.proofs.lemmas.List.{reverse-append}
use Rattle.std.proofs.lemmas.List.Sums.{fold_more, fold_push}
use Rattle.std.proofs.lemmas.List.FromFn.{fill_by_all}
use Rattle.ciphers.specs.Speck.{round, unround, rounds, unrounds, scheduled, words_of, round_keys}

pub pair : (a b c d : ℕ) → a ≡ c → b ≡ d → ◌≡◌ {A = ℕ × ℕ} (a, b) (c, d)
pair a b c d p q = λ i. (p i, q i)

-- one round more, in a loop over the round keys
pub rounds_none : (s : ℕ × ℕ) → s ≡ rounds s []
unfolding rounds
rounds_none s = refl

pub rounds_more : (s t u : ℕ × ℕ) (ks : List ℕ) (i : ℕ) → i < length ks → t ≡ rounds s (take i ks) → u ≡ round t (slice_index ks i) → u ≡ rounds s (take (i + 1) ks)
unfolding rounds
rounds_more s t u ks i h inv e = e ∙ ap (λ (x : ℕ × ℕ). round x (slice_index ks i)) inv ∙ sym (fold_more round s ks i 0 h)

pub unrounds_none : (s : ℕ × ℕ) → s ≡ unrounds s []
unfolding unrounds
unrounds_none s = refl

unrounds_cons : (s : ℕ × ℕ) (k : ℕ) (ks : List ℕ) → unrounds s (k ∷ ks) ≡ unround (unrounds s ks) k
unfolding unrounds
unrounds_cons s k ks = refl

pub unrounds_more : (s t u : ℕ × ℕ) (ks : List ℕ) (n : ℕ) → 0 < n → n ≤ length ks → t ≡ unrounds s (drop n ks) → u ≡ unround t (slice_index ks (n - 1)) → u ≡ unrounds s (drop (n - 1) ks)
unrounds_more s t u ks n pos h inv e =
    let g : n - 1 < length ks = omega arith in
    let m : suc (n - 1) ≡ n = omega arith in
    e ∙ ap (λ (x : ℕ × ℕ). unround x (slice_index ks (n - 1))) inv
    ∙ sym (ap (unrounds s) (drop-cons ks (n - 1) 0 g) ∙ unrounds_cons s (slice_index ks (n - 1)) (drop (suc (n - 1)) ks) ∙ ap (λ (z : ℕ). unround (unrounds s (drop z ks)) (slice_index ks (n - 1))) m)

-- going back is going through the keys in reverse
pub unrounds_reversed : (s : ℕ × ℕ) (ks : List ℕ) → unrounds s ks ≡ fold unround s (reverse ks)
unfolding unrounds
unrounds_reversed s [] = refl
unrounds_reversed s (k ∷ ks) =
    ap (λ (t : ℕ × ℕ). unround t k) (unrounds_reversed s ks) ∙ sym (fold_push unround s (reverse ks) k) ∙ ap (fold unround s) (sym (reverse-append (k ∷ []) ks))

pub scheduled_none : (s : ℕ × ℕ) → s ≡ scheduled s 0
unfolding scheduled
scheduled_none s = refl

pub scheduled_more : (s t u : ℕ × ℕ) (i : ℕ) → t ≡ scheduled s i → u ≡ round t i → u ≡ scheduled s (i + 1)
unfolding scheduled
scheduled_more s t u i inv e = e ∙ ap (λ (x : ℕ × ℕ). round x i) inv ∙ sym (ap (scheduled s) (add-one i))

pub all_keys : (key ks : List ℕ) → length ks ≡ 32 → ((j : ℕ) → j < 32 → slice_index ks j ≡ (scheduled (words_of key) j).1) → ks ≡ round_keys key
unfolding round_keys
all_keys key ks l h = fill_by_all (λ j. (scheduled (words_of key) j).1) ks 32 0 l h
