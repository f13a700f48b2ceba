-- Hexadecimal, digit by digit.
use Rattle.std.proofs.Common.{◌≡◌, ℕ, zero, suc, ◌+◌, ◌*◌, ◌/◌, ◌%◌, ◌<◌, ◌≤◌, false, List, [], ◌∷◌, ◌++◌, length, get_or, take, drop, Some, None, codes, Decides, Option, sym, refl, ap, ◌∙◌, append_assoc, append-nil, arith}
use Rattle.std.specs.Simd.{first_chunks}
use Rattle.std.proofs.lemmas.List.{drop_more, drop_all, take_more}
use Rattle.std.proofs.lemmas.Bool.Decides.{nat_tests, not_from_Decides}
use Rattle.base.specs.Bytes.{AllBytes}
use Rattle.text.specs.Hexadecimal.{value_of, digit_of, byte_of, before, pairs_of, bytes_of, digits_of, word_of}

-- bytes in front of bytes, if those are there
abbrev pub after : List ℕ → Option (List ℕ) → Option (List ℕ)
after front None = None
after front (Some bytes) = Some (front ++ bytes)

pub after_nil : (o : Option (List ℕ)) → after [] o ≡ o
after_nil None = refl
after_nil (Some bytes) = refl

pub after_push : (front : List ℕ) (b : ℕ) (o : Option (List ℕ)) → after front (before (Some b) o) ≡ after (front ++ (b ∷ [])) o
after_push front b None = refl
after_push front b (Some bytes) = ap Some (sym (append_assoc front (b ∷ []) bytes))

before_none : (o : Option ℕ) → before o None ≡ None
before_none None = refl
before_none (Some b) = refl

pub odd_pairs : (ds : List ℕ) → length ds % 2 ≡ 1 → pairs_of ds ≡ None
odd_pairs [] odd = absurd (omega arith)
odd_pairs (c ∷ []) odd = refl
odd_pairs (h ∷ (l ∷ more)) odd = ap (before (byte_of h l)) (odd_pairs more (omega arith)) ∙ before_none (byte_of h l)

-- a word that is not the dash, with the bytes of its digits
pub other_word : (word ds : List ℕ) → Decides false (word ≡ codes "-") → ds ≡ word → bytes_of word ≡ pairs_of ds
other_word word ds differs same = not-dash word (not_from_Decides false differs refl) ∙ ap pairs_of (sym same)
  where
    not-dash : (ds : List ℕ) → (ds ≡ codes "-" → ⊥) → bytes_of ds ≡ pairs_of ds
    not-dash [] other = refl
    not-dash (c ∷ []) other = let ne : c ≡ 45 → ⊥ = λ e. other (ap (λ x. x ∷ []) e) in grind (arith, nat_tests)
    not-dash (h ∷ (l ∷ more)) other = refl

-- the bytes that pairs of digits spell, one after another
abbrev pub spelled : List (List ℕ) → Option (List ℕ)
spelled [] = Some []
spelled (p ∷ pairs) = before (byte_of (get_or p 0 0) (get_or p 1 0)) (spelled pairs)

pairs_cut : (k : ℕ) (ds : List ℕ) → length ds ≡ k * 2 → pairs_of ds ≡ spelled (first_chunks 2 k ds)
pairs_cut zero [] long = refl
pairs_cut zero (c ∷ ds) long = absurd (omega arith)
pairs_cut (suc k) [] long = absurd (omega arith)
pairs_cut (suc k) (c ∷ []) long = absurd (omega arith)
pairs_cut (suc k) (h ∷ (l ∷ more)) long = ap (before (byte_of h l)) (pairs_cut k more (omega arith))

pub word_cut : (word ds : List ℕ) (pairs : List (List ℕ)) → Decides false (word ≡ codes "-") → ds ≡ word → pairs ≡ first_chunks 2 (length ds / 2) ds → length ds % 2 ≡ 0 → bytes_of word ≡ spelled pairs
word_cut word ds pairs differs same cut even = other_word word ds differs same ∙ pairs_cut (length ds / 2) ds (omega arith) ∙ ap spelled (sym cut)

module _ (pairs : List (List ℕ)) (i : ℕ) (within : i < length pairs) (bs : List ℕ) (so : spelled pairs ≡ after bs (spelled (drop i pairs))) where
  so_next : spelled pairs ≡ after bs (before (byte_of (get_or (get_or pairs i []) 0 0) (get_or (get_or pairs i []) 1 0)) (spelled (drop (i + 1) pairs)))
  so_next = so ∙ ap (λ rest. after bs (spelled rest)) (drop_more pairs i [] within)

  pub pairs_more : (b : ℕ) → byte_of (get_or (get_or pairs i []) 0 0) (get_or (get_or pairs i []) 1 0) ≡ Some b → spelled pairs ≡ after (bs ++ (b ∷ [])) (spelled (drop (i + 1) pairs))
  pairs_more b one = so_next ∙ ap (λ o. after bs (before o (spelled (drop (i + 1) pairs)))) one ∙ after_push bs b (spelled (drop (i + 1) pairs))

  pub pairs_wrong : byte_of (get_or (get_or pairs i []) 0 0) (get_or (get_or pairs i []) 1 0) ≡ None → spelled pairs ≡ None
  pairs_wrong wrong = so_next ∙ ap (λ o. after bs (before o (spelled (drop (i + 1) pairs)))) wrong

pub pairs_all : (pairs : List (List ℕ)) (i : ℕ) → length pairs ≤ i → (bs : List ℕ) → spelled pairs ≡ after bs (spelled (drop i pairs)) → spelled pairs ≡ Some bs
pairs_all pairs i all bs so = so ∙ ap (λ rest. after bs (spelled rest)) (drop_all i pairs all) ∙ ap Some (append-nil bs)

pub digits_push : (xs : List ℕ) (b : ℕ) → digits_of (xs ++ (b ∷ [])) ≡ (digits_of xs ++ (digit_of (b / 16) ∷ [])) ++ (digit_of (b % 16) ∷ [])
digits_push [] b = refl
digits_push (x ∷ xs) b = ap (λ r. digit_of (x / 16) ∷ (digit_of (x % 16) ∷ r)) (digits_push xs b)

pub digits_more : (bs : List ℕ) (i : ℕ) → i < length bs → digits_of (take (i + 1) bs) ≡ (digits_of (take i bs) ++ (digit_of (get_or bs i 0 / 16) ∷ [])) ++ (digit_of (get_or bs i 0 % 16) ∷ [])
digits_more bs i within = ap digits_of (take_more bs i 0 within) ∙ digits_push (take i bs) (get_or bs i 0)

value_digit : (v : ℕ) → v < 16 → value_of (digit_of v) ≡ Some v
value_digit v small = grind (arith, nat_tests)

byte_back : (b : ℕ) → b < 256 → byte_of (digit_of (b / 16)) (digit_of (b % 16)) ≡ Some b
byte_back b small =
    let high : value_of (digit_of (b / 16)) ≡ Some (b / 16) = value_digit (b / 16) (omega arith) in
    let low : value_of (digit_of (b % 16)) ≡ Some (b % 16) = value_digit (b % 16) (omega arith) in
    let whole : b / 16 * 16 + b % 16 ≡ b = omega arith in
    rw (high, low) (ap Some whole)

pairs_back : (bs : List ℕ) → AllBytes bs → pairs_of (digits_of bs) ≡ Some bs
pairs_back [] fit = refl
pairs_back (b ∷ bs) fit = rw (byte_back b (fit 0), pairs_back bs (λ i. fit (suc i))) refl

-- what was encoded is decoded again
pub decodes_back : (bs : List ℕ) → AllBytes bs → bytes_of (word_of bs) ≡ Some bs
decodes_back [] fit = refl
decodes_back (b ∷ bs) fit = pairs_back (b ∷ bs) fit

pub word_none : (bs : List ℕ) → length bs ≡ 0 → word_of bs ≡ codes "-"
word_none [] none = refl
word_none (b ∷ bs) none = absurd (omega arith)

pub word_some : (bs : List ℕ) → 0 < length bs → word_of bs ≡ digits_of bs
word_some [] some = absurd (omega arith)
word_some (b ∷ bs) some = refl

-- two digits more
pub encoded_more : (bs front middle end : List ℕ) (i high low : ℕ) → i < length bs → get_or bs i 0 < 256 → front ≡ digits_of (take i bs) → high ≡ digit_of (get_or bs i 0 / 16 % 16) → low ≡ digit_of (get_or bs i 0 % 16) → middle ≡ front ++ (high ∷ []) → end ≡ middle ++ (low ∷ []) → end ≡ digits_of (take (i + 1) bs)
encoded_more bs front middle end i high low within fit before-it h l first second =
    let upper : get_or bs i 0 / 16 % 16 ≡ get_or bs i 0 / 16 = omega arith in
    let more = digits_more bs i within in
    let high_is : high ≡ digit_of (get_or bs i 0 / 16) = h ∙ ap digit_of upper in
    cc
