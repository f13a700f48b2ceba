-- Going back undoes going forward, and forward undoes back.
use Rattle.std.specs.Prelude.{◌≡◌, ℕ, zero, suc, ◌^◌, ◌<◌, ◌≤◌, List, [], ◌∷◌, ◌++◌, map, length, take, drop, fold, bit_xor, refl}
use Rattle.std.proofs.Common.{sym, ◌∙◌, subst, zero-add, arith, length-append, length-take, length-drop}
use Rattle.std.proofs.Math.Path.{ap}
use Rattle.std.proofs.lemmas.Nat.{xor_lt}
use Rattle.std.specs.List.{range_with_len, AllByRecursion}
use Rattle.std.proofs.lemmas.List.{take_at, drop_at, take_all, drop_all, drop-drop, take-append-drop, append-nil}
use borrow.Rule.Slice.PartMut.{put_mid, post_of}
use Rattle.std.proofs.ByRecursion.{All-from_get_or}
use Rattle.std.proofs.lemmas.List.FromFn.{get_or-map-range_with_len, length-map-range_with_len}
use Rattle.base.specs.Bytes.{Block, AllBytes}
use Rattle.base.specs.Numbers.{number, bytes}
use Rattle.base.proofs.Strings.{take_bytes, drop_bytes, append_bytes, xor_twice}
use Rattle.base.proofs.Digits.{number_lt, number_bytes, bytes_number, bytes_long, bytes_fit}
use Rattle.ciphers.specs.Keys.{Key}
use Rattle.ciphers.specs.Words.{plus, minus, rotated_left, rotated_right}
use Rattle.ciphers.specs.Speck.{round, unround, round_a, round_b, unround_a, unround_b, rounds, unrounds, scheduled, words_of, block_of, round_keys, speck_forward, speck_back}
use Rattle.ciphers.specs.WordLaws.{rotated_lt, rotated_back, minus_plus, plus_minus, plus_lt, minus_lt}
use Rattle.ciphers.specs.SpeckRounds.{pair}

-- both words have 64 bits
pub record Fit (s : ℕ × ℕ) : Type 0 where
  pub first : s.0 < 2 ^ 64
  pub second : s.1 < 2 ^ 64

-- ---- one round

round_a_lt : (a b k : ℕ) → k < 2 ^ 64 → round_a a b k < 2 ^ 64
unfolding round_a
round_a_lt a b k h = xor_lt 64 (plus (rotated_right 8 a) b) k (plus_lt (rotated_right 8 a) b) h

round_b_lt : (a b k : ℕ) → k < 2 ^ 64 → b < 2 ^ 64 → round_b a b k < 2 ^ 64
unfolding round_b
round_b_lt a b k h g = xor_lt 64 (rotated_left 3 b) (round_a a b k) (rotated_lt 61 3 b g) (round_a_lt a b k h)

unround_b_lt : (a b : ℕ) → a < 2 ^ 64 → b < 2 ^ 64 → unround_b a b < 2 ^ 64
unfolding unround_b
unround_b_lt a b h g = rotated_lt 3 61 (bit_xor b a) (xor_lt 64 b a g h)

unround_a_lt : (a b k : ℕ) → unround_a a b k < 2 ^ 64
unfolding unround_a
unround_a_lt a b k = rotated_lt 56 8 (minus (bit_xor a k) (unround_b a b)) (minus_lt _ _)

round_fits : (s : ℕ × ℕ) (k : ℕ) → k < 2 ^ 64 → Fit s → Fit (round s k)
round_fits s k h f = record { first = round_a_lt s.0 s.1 k h; second = round_b_lt s.0 s.1 k h f.second }

unround_fits : (s : ℕ × ℕ) (k : ℕ) → Fit s → Fit (unround s k)
unround_fits s k f = record { first = unround_a_lt s.0 s.1 k; second = unround_b_lt s.0 s.1 f.first f.second }

un_b : (a b k : ℕ) → b < 2 ^ 64 → unround_b (round_a a b k) (round_b a b k) ≡ b
unfolding unround_b round_b
un_b a b k h = ap (rotated_right 3) (xor_twice (rotated_left 3 b) (round_a a b k)) ∙ rotated_back 61 3 b h

un_a : (a b k : ℕ) → a < 2 ^ 64 → b < 2 ^ 64 → unround_a (round_a a b k) (round_b a b k) k ≡ a
unfolding unround_a round_a
un_a a b k ha hb =
    ap (λ (z : ℕ). rotated_left 8 (minus (bit_xor (round_a a b k) k) z)) (un_b a b k hb)
    ∙ ap (λ (z : ℕ). rotated_left 8 (minus z b)) (xor_twice (plus (rotated_right 8 a) b) k)
    ∙ ap (rotated_left 8) (minus_plus (rotated_right 8 a) b (rotated_lt 8 56 a ha) hb)
    ∙ rotated_back 8 56 a ha

re_a : (a b k : ℕ) → a < 2 ^ 64 → b < 2 ^ 64 → k < 2 ^ 64 → round_a (unround_a a b k) (unround_b a b) k ≡ a
unfolding unround_a round_a
re_a a b k ha hb hk =
    ap (λ (z : ℕ). bit_xor (plus z (unround_b a b)) k) (rotated_back 56 8 (minus (bit_xor a k) (unround_b a b)) (minus_lt _ _))
    ∙ ap (λ (z : ℕ). bit_xor z k) (plus_minus (bit_xor a k) (unround_b a b) (xor_lt 64 a k ha hk) (unround_b_lt a b ha hb))
    ∙ xor_twice a k

re_b : (a b k : ℕ) → a < 2 ^ 64 → b < 2 ^ 64 → k < 2 ^ 64 → round_b (unround_a a b k) (unround_b a b) k ≡ b
unfolding unround_b round_b
re_b a b k ha hb hk =
    ap (λ (z : ℕ). bit_xor z (round_a (unround_a a b k) (unround_b a b) k)) (rotated_back 3 61 (bit_xor b a) (xor_lt 64 b a hb ha))
    ∙ ap (bit_xor (bit_xor b a)) (re_a a b k ha hb hk)
    ∙ xor_twice b a

unround_round : (s : ℕ × ℕ) (k : ℕ) → Fit s → unround (round s k) k ≡ s
unround_round s k f = pair _ _ s.0 s.1 (un_a s.0 s.1 k f.first f.second) (un_b s.0 s.1 k f.second)

round_unround : (s : ℕ × ℕ) (k : ℕ) → k < 2 ^ 64 → Fit s → round (unround s k) k ≡ s
round_unround s k h f = pair _ _ s.0 s.1 (re_a s.0 s.1 k f.first f.second h) (re_b s.0 s.1 k f.first f.second h)

-- ---- all rounds

rounds_fit : (ks : List ℕ) (s : ℕ × ℕ) → AllByRecursion (λ k. k < 2 ^ 64) ks → Fit s → Fit (rounds s ks)
unfolding rounds
rounds_fit [] s h f = f
rounds_fit (k ∷ ks) s h f = rounds_fit ks (round s k) h.1 (round_fits s k h.0 f)

unrounds_fit : (ks : List ℕ) (s : ℕ × ℕ) → Fit s → Fit (unrounds s ks)
unfolding unrounds
unrounds_fit [] s f = f
unrounds_fit (k ∷ ks) s f = unround_fits (unrounds s ks) k (unrounds_fit ks s f)

unrounds_rounds : (ks : List ℕ) (s : ℕ × ℕ) → AllByRecursion (λ k. k < 2 ^ 64) ks → Fit s → unrounds (rounds s ks) ks ≡ s
unfolding rounds unrounds
unrounds_rounds [] s h f = refl
unrounds_rounds (k ∷ ks) s h f =
    ap (λ (t : ℕ × ℕ). unround t k) (unrounds_rounds ks (round s k) h.1 (round_fits s k h.0 f)) ∙ unround_round s k f

rounds_unrounds : (ks : List ℕ) (s : ℕ × ℕ) → AllByRecursion (λ k. k < 2 ^ 64) ks → Fit s → rounds (unrounds s ks) ks ≡ s
unfolding rounds unrounds
rounds_unrounds [] s h f = refl
rounds_unrounds (k ∷ ks) s h f =
    ap (λ (t : ℕ × ℕ). fold round t ks) (round_unround (unrounds s ks) k h.0 (unrounds_fit ks s f)) ∙ rounds_unrounds ks s h.1 f

scheduled_fits : (s : ℕ × ℕ) (n : ℕ) → n < 64 → Fit s → Fit (scheduled s n)
unfolding scheduled
scheduled_fits s zero h f = f
scheduled_fits s (suc n) h f = round_fits (scheduled s n) n (omega arith) (scheduled_fits s n (omega arith) f)

-- ---- blocks and words

half_long : (b : List ℕ) → length b ≡ 16 → (length (take 8 b) ≡ 8) × (length (take 8 (drop 8 b)) ≡ 8)
half_long b l = (simp length-take (omega arith), simp (length-take, length-drop) (omega arith))

words_fit : (b : List ℕ) → length b ≡ 16 → AllBytes b → Fit (words_of b)
unfolding words_of
words_fit b l h = record {
  first = number_lt 8 (take 8 (drop 8 b)) (half_long b l).1 (take_bytes 8 (drop 8 b) (drop_bytes 8 b h));
  second = number_lt 8 (take 8 b) (half_long b l).0 (take_bytes 8 b h);
}

keys_fit : (key : List ℕ) → length key ≡ 16 → AllBytes key → AllByRecursion (λ k. k < 2 ^ 64) (round_keys key)
unfolding round_keys
keys_fit key l h =
    let f : ℕ → ℕ = λ i. (scheduled (words_of key) i).1 in
    All-from_get_or (λ k. k < 2 ^ 64) (map f (range_with_len 0 32)) 0
    (λ i g. let g' : i < 32 = omega (arith, length-map-range_with_len f 0 32) in
    subst (λ (x : ℕ). x < 2 ^ 64) (sym (get_or-map-range_with_len f 0 32 i i 0 g' (zero-add i)))
    (scheduled_fits (words_of key) i (omega arith) (words_fit key l h)).second)

words_block : (s : ℕ × ℕ) → Fit s → words_of (block_of s) ≡ s
unfolding words_of block_of
words_block s f =
    let d : drop 8 (bytes 8 s.1 ++ bytes 8 s.0) ≡ bytes 8 s.0 = drop_at (bytes 8 s.1) (bytes 8 s.0) 8 (bytes_long 8 s.1) in
    pair _ _ s.0 s.1
    (ap number (ap (take 8) d ∙ take_all 8 (bytes 8 s.0) (omega (arith, bytes_long 8 s.0))) ∙ number_bytes 8 s.0 f.first)
    (ap number (take_at (bytes 8 s.1) (bytes 8 s.0) 8 (bytes_long 8 s.1)) ∙ number_bytes 8 s.1 f.second)

block_words : (b : List ℕ) → Block b → block_of (words_of b) ≡ b
unfolding words_of block_of
block_words b k =
    let l : length b ≡ 16 = k.long in
    let m : length (drop 8 b) ≤ 8 = simp length-drop (omega arith) in
    ap (λ (z : List ℕ). z ++ bytes 8 (number (take 8 (drop 8 b)))) (bytes_number 8 (take 8 b) (half_long b l).0 (take_bytes 8 b k.fit))
    ∙ ap (λ (z : List ℕ). take 8 b ++ z) (bytes_number 8 (take 8 (drop 8 b)) (half_long b l).1 (take_bytes 8 (drop 8 b) (drop_bytes 8 b k.fit)) ∙ take_all 8 (drop 8 b) m)
    ∙ take-append-drop 8 b

block_of_lem : (s : ℕ × ℕ) → Block (block_of s)
unfolding block_of
block_of_lem s = record {
  long = length-append (bytes 8 s.1) (bytes 8 s.0) ∙ omega (arith, bytes_long 8 s.0, bytes_long 8 s.1);
  fit = append_bytes (bytes 8 s.1) (bytes 8 s.0) (bytes_fit 8 s.1) (bytes_fit 8 s.0);
}

-- ---- the laws

module _ (k : List ℕ) (key : Key 16 k) where
  schedule_fits : AllByRecursion (λ x. x < 2 ^ 64) (round_keys k)
  schedule_fits = keys_fit k key.long key.fit

  pub undone : (b : List ℕ) → Block b → speck_back k (speck_forward k b) ≡ b
  unfolding speck_forward speck_back
  undone b bl =
      let f : Fit (words_of b) = words_fit b bl.long bl.fit in
      ap (λ (s : ℕ × ℕ). block_of (unrounds s (round_keys k))) (words_block (rounds (words_of b) (round_keys k)) (rounds_fit (round_keys k) (words_of b) schedule_fits f))
      ∙ ap block_of (unrounds_rounds (round_keys k) (words_of b) schedule_fits f)
      ∙ block_words b bl

  pub redone : (b : List ℕ) → Block b → speck_forward k (speck_back k b) ≡ b
  unfolding speck_forward speck_back
  redone b bl =
      let f : Fit (words_of b) = words_fit b bl.long bl.fit in
      ap (λ (s : ℕ × ℕ). block_of (rounds s (round_keys k))) (words_block (unrounds (words_of b) (round_keys k)) (unrounds_fit (round_keys k) (words_of b) f))
      ∙ ap block_of (rounds_unrounds (round_keys k) (words_of b) schedule_fits f)
      ∙ block_words b bl

pub ahead : (k b : List ℕ) → Block (speck_forward k b)
unfolding speck_forward
ahead k b = block_of_lem _

pub behind : (k b : List ℕ) → Block (speck_back k b)
unfolding speck_back
behind k b = block_of_lem _

-- the two halves of a block, written one after the other
pub halves : (b x y : List ℕ) (s : ℕ × ℕ) → length b ≡ 16 → x ≡ bytes 8 s.1 → y ≡ bytes 8 s.0 → put_mid 8 8 (x ++ post_of 0 8 b) y ≡ block_of s
unfolding block_of
halves b x y s l e f =
    let lx : length x ≡ 8 = ap length e ∙ bytes_long 8 s.1 in
    let d : drop 8 (x ++ drop 8 b) ≡ drop 8 b = drop_at x (drop 8 b) 8 lx in
    let z : drop 8 (drop 8 (x ++ drop 8 b)) ≡ [] = ap (drop 8) d ∙ drop-drop 8 8 b ∙ drop_all 16 b (omega arith) in
    ap (λ (q : List ℕ). q ++ (y ++ drop 8 (drop 8 (x ++ drop 8 b)))) (take_at x (drop 8 b) 8 lx)
    ∙ ap (λ (q : List ℕ). x ++ (y ++ q)) z
    ∙ ap (λ (q : List ℕ). x ++ q) (append-nil y)
    ∙ ap (λ (q : List ℕ). q ++ y) e ∙ ap (λ (q : List ℕ). bytes 8 s.1 ++ q) f

-- a block read as words, run through the rounds, and written back
pub through : (run : ℕ × ℕ → List ℕ → ℕ × ℕ) (block key keys x y : List ℕ) (a b : ℕ) (s : ℕ × ℕ) → length block ≡ 16
    → a ≡ number (take 8 (drop 8 block)) → b ≡ number (take 8 block) → keys ≡ round_keys key → s ≡ run (a, b) keys
    → x ≡ bytes 8 s.1 → y ≡ bytes 8 s.0 → put_mid 8 8 (x ++ post_of 0 8 block) y ≡ block_of (run (words_of block) (round_keys key))
unfolding words_of
through run block key keys x y a b s l ea eb ek es ex ey =
    halves block x y s l ex ey
    ∙ ap block_of (es ∙ ap (λ (ks : List ℕ). run (a, b) ks) ek ∙ ap (λ (w : ℕ × ℕ). run w (round_keys key)) (pair _ _ _ _ ea eb))
