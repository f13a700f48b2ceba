-- The expanded key: its length, its bytes, and that it begins with the key.
use Rattle.std.specs.Prelude.{◌≡◌, ℕ, zero, suc, ◌+◌, ◌-◌, ◌*◌, ◌/◌, ◌<◌, ◌≤◌, Bool, true, false, cond, List, [], ◌∷◌, length, take, drop}
use Rattle.std.proofs.Common.{◌∙◌, arith, length-append, length-drop}
use Rattle.std.proofs.lemmas.List.{length-take-le, take-append-le, take_all}
use Rattle.base.specs.Bytes.{AllBytes, xor_front}
use Rattle.base.proofs.Strings.{take_bytes, drop_bytes, append_bytes, front_long, front_bytes}
use Rattle.ciphers.specs.AesField.{substitution}
use Rattle.ciphers.specs.AesSteps.{word}
use Rattle.ciphers.specs.AesSchedule.{rot_word, sub_word, round_constant, turned_at, substituted_at, temp, next_word, expanded, key_expansion, rounds_of}
use Rattle.ciphers.specs.AesFieldLemmas.{power_lt}
use Rattle.ciphers.specs.AesTablesLemmas.{substitution_lt}
use Rattle.ciphers.specs.AesStepsLemmas.{map_fit, word_fit}

-- ---- its bytes

either_fit : (b : Bool) (xs ys : List ℕ) → AllBytes xs → AllBytes ys → AllBytes (cond b xs ys)
either_fit true xs ys h g = h
either_fit false xs ys h g = g

single_fit : (x : ℕ) → x < 256 → AllBytes (x ∷ [])
single_fit x h zero = h
single_fit x h (suc i) = omega arith

temp_fit : (nk i : ℕ) (w : List ℕ) → AllBytes w → AllBytes (temp nk i w)
unfolding temp round_constant
temp_fit nk i w h =
    let sub : (v : List ℕ) → AllBytes v → AllBytes (sub_word v) = λ v g. map_fit substitution substitution_lt v g in
    let rot : AllBytes (rot_word w) = append_bytes (drop 1 w) (take 1 w) (drop_bytes 1 w h) (take_bytes 1 w h) in
    let rc : AllBytes (round_constant (i / nk) ∷ []) = single_fit (round_constant (i / nk)) (power_lt 2 (i / nk - 1)) in
    either_fit (turned_at nk i) (xor_front (sub_word (rot_word w)) (round_constant (i / nk) ∷ [])) (cond (substituted_at nk i) (sub_word w) w)
    (front_bytes (sub_word (rot_word w)) (round_constant (i / nk) ∷ []) (sub (rot_word w) rot) rc)
    (either_fit (substituted_at nk i) (sub_word w) w (sub w h) h)

expanded_fit : (nk : ℕ) (key : List ℕ) → AllBytes key → (n : ℕ) → AllBytes (expanded nk key n)
unfolding expanded next_word
expanded_fit nk key h zero = h
expanded_fit nk key h (suc n) =
    let g : AllBytes (expanded nk key n) = expanded_fit nk key h n in
    append_bytes (expanded nk key n) (next_word nk (nk + n) (expanded nk key n)) g
    (front_bytes (word (nk + n - nk) (expanded nk key n)) (temp nk (nk + n) (word (nk + n - 1) (expanded nk key n)))
    (word_fit (nk + n - nk) (expanded nk key n) g) (temp_fit nk (nk + n) (word (nk + n - 1) (expanded nk key n)) (word_fit (nk + n - 1) (expanded nk key n) g)))

pub expansion_fit : (nk : ℕ) (key : List ℕ) → AllBytes key → AllBytes (key_expansion nk key)
unfolding key_expansion
expansion_fit nk key h = expanded_fit nk key h (4 * (rounds_of nk + 1) - nk)

-- ---- its length

pub next_long : (nk n : ℕ) (ws : List ℕ) → 0 < nk → length ws ≡ 4 * (nk + n) → length (next_word nk (nk + n) ws) ≡ 4
unfolding next_word
next_long nk n ws p l =
    front_long (word (nk + n - nk) ws) (temp nk (nk + n) (word (nk + n - 1) ws))
    ∙ length-take-le 4 (drop (4 * (nk + n - nk)) ws) (simp length-drop (omega arith))

pub expanded_long : (nk : ℕ) (key : List ℕ) → 0 < nk → length key ≡ 4 * nk → (n : ℕ) → length (expanded nk key n) ≡ 4 * (nk + n)
unfolding expanded
expanded_long nk key p l zero = omega arith
expanded_long nk key p l (suc n) =
    let e : length (expanded nk key n) ≡ 4 * (nk + n) = expanded_long nk key p l n in
    let f : length (next_word nk (nk + n) (expanded nk key n)) ≡ 4 = next_long nk n (expanded nk key n) p e in
    length-append (expanded nk key n) (next_word nk (nk + n) (expanded nk key n)) ∙ omega (arith, e, f)

-- ---- its first words are the key

key_within : (nk : ℕ) (key : List ℕ) (n : ℕ) → length key ≤ length (expanded nk key n)
unfolding expanded
key_within nk key zero = omega arith
key_within nk key (suc n) = omega (arith, key_within nk key n, length-append (expanded nk key n) (next_word nk (nk + n) (expanded nk key n)))

pub begins_with_key : (nk : ℕ) (key : List ℕ) (n : ℕ) → take (length key) (expanded nk key n) ≡ key
unfolding expanded
begins_with_key nk key zero = take_all (length key) key (omega arith)
begins_with_key nk key (suc n) = take-append-le (length key) (expanded nk key n) (next_word nk (nk + n) (expanded nk key n)) (key_within nk key n) ∙ begins_with_key nk key n
