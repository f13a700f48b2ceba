-- Each step of a round gives a block, and is undone.
use Rattle.std.specs.Prelude.{◌≡◌, ℕ, zero, suc, ◌+◌, ◌-◌, ◌*◌, ◌/◌, ◌%◌, ◌<◌, List, [], ◌∷◌, ◌++◌, map, length, drop, slice_index, refl}
use Rattle.std.proofs.Common.{sym, ap, ◌∙◌, arith, length-drop}
use Rattle.std.specs.List.{range_with_len}
use Rattle.std.proofs.lemmas.List.FromFn.{fill_by_all}
use Rattle.std.proofs.lemmas.List.{length-take-le, length-map}
use Rattle.base.specs.Bytes.{AllBytes, Block}
use Rattle.base.proofs.Strings.{take_bytes, drop_bytes, append_bytes, front_long, front_bytes}
use Rattle.ciphers.specs.AesField.{substitution, inv_substitution}
use Rattle.ciphers.specs.AesSteps.{at, sub_bytes, inv_sub_bytes, shift_rows, inv_shift_rows, mix_column, inv_mix_column, word, columnwise, mix_columns, inv_mix_columns, add_round_key}
use Rattle.ciphers.specs.AesTablesLemmas.{substitution_lt, inv_substitution_lt, substitution_undone, substitution_redone}
use Rattle.ciphers.specs.AesColumns.{mix_column_fit, inv_mix_column_fit, mixing_undone, mixing_redone}

-- a state by its bytes
pub spelled : (s : List ℕ) → length s ≡ 16 → s ≡ map (λ i. slice_index s i) (range_with_len 0 16)
spelled s l = fill_by_all (λ i. slice_index s i) s 16 0 l (λ i h. refl)

-- ---- bytes one by one

pub map_fit : (f : ℕ → ℕ) → ((a : ℕ) → a < 256 → f a < 256) → (s : List ℕ) → AllBytes s → AllBytes (map f s)
map_fit f h [] g i = omega arith
map_fit f h (x ∷ s) g zero = h x (g 0)
map_fit f h (x ∷ s) g (suc i) = map_fit f h s (λ j. g (suc j)) i

map_undone : (f g : ℕ → ℕ) → ((a : ℕ) → a < 256 → g (f a) ≡ a) → (s : List ℕ) → AllBytes s → map g (map f s) ≡ s
map_undone f g e [] h = refl
map_undone f g e (x ∷ s) h = λ z. e x (h 0) z ∷ map_undone f g e s (λ j. h (suc j)) z

pub sub_block : (s : List ℕ) → Block s → Block (sub_bytes s)
unfolding sub_bytes
sub_block s b = record { long = length-map s substitution ∙ b.long; fit = map_fit substitution substitution_lt s b.fit }

pub inv_sub_block : (s : List ℕ) → Block s → Block (inv_sub_bytes s)
unfolding inv_sub_bytes
inv_sub_block s b = record { long = length-map s inv_substitution ∙ b.long; fit = map_fit inv_substitution inv_substitution_lt s b.fit }

pub sub_undone : (s : List ℕ) → Block s → inv_sub_bytes (sub_bytes s) ≡ s
unfolding sub_bytes inv_sub_bytes
sub_undone s b = map_undone substitution inv_substitution substitution_undone s b.fit

pub sub_redone : (s : List ℕ) → Block s → sub_bytes (inv_sub_bytes s) ≡ s
unfolding sub_bytes inv_sub_bytes
sub_redone s b = map_undone inv_substitution substitution substitution_redone s b.fit

-- ---- rows

moved_fit : (f : ℕ → ℕ) → ((i : ℕ) → f i < 256) → (xs : List ℕ) → AllBytes (map f xs)
moved_fit f h [] i = omega arith
moved_fit f h (x ∷ xs) zero = h x
moved_fit f h (x ∷ xs) (suc i) = moved_fit f h xs i

pub shift_block : (s : List ℕ) → Block s → Block (shift_rows s)
unfolding shift_rows
shift_block s b = record { long = refl; fit = moved_fit (λ i. at s (i % 4) ((i / 4 + i % 4) % 4)) (λ i. b.fit (i % 4 + 4 * ((i / 4 + i % 4) % 4))) (range_with_len 0 16) }

pub inv_shift_block : (s : List ℕ) → Block s → Block (inv_shift_rows s)
unfolding inv_shift_rows
inv_shift_block s b = record { long = refl; fit = moved_fit (λ i. at s (i % 4) ((i / 4 + 4 - i % 4) % 4)) (λ i. b.fit (i % 4 + 4 * ((i / 4 + 4 - i % 4) % 4))) (range_with_len 0 16) }

pub shift_undone : (s : List ℕ) → Block s → inv_shift_rows (shift_rows s) ≡ s
unfolding shift_rows inv_shift_rows
shift_undone s b = sym (spelled s b.long)

pub shift_redone : (s : List ℕ) → Block s → shift_rows (inv_shift_rows s) ≡ s
unfolding shift_rows inv_shift_rows
shift_redone s b = sym (spelled s b.long)

-- ---- columns

pub word_fit : (i : ℕ) (s : List ℕ) → AllBytes s → AllBytes (word i s)
word_fit i s h = take_bytes 4 (drop (4 * i) s) (drop_bytes (4 * i) s h)

columnwise_fit : (f : List ℕ → List ℕ) → ((w : List ℕ) → AllBytes w → AllBytes (f w)) → (n : ℕ) (s : List ℕ) → AllBytes s → AllBytes (columnwise f n s)
unfolding columnwise
columnwise_fit f g zero s h = λ i. omega arith
columnwise_fit f g (suc n) s h = append_bytes (columnwise f n s) (f (word n s)) (columnwise_fit f g n s h) (g (word n s) (word_fit n s h))

pub mix_block : (s : List ℕ) → Block s → Block (mix_columns s)
unfolding mix_columns columnwise mix_column
mix_block s b = record { long = refl; fit = columnwise_fit mix_column mix_column_fit 4 s b.fit }

pub inv_mix_block : (s : List ℕ) → Block s → Block (inv_mix_columns s)
unfolding inv_mix_columns columnwise inv_mix_column
inv_mix_block s b = record { long = refl; fit = columnwise_fit inv_mix_column inv_mix_column_fit 4 s b.fit }

-- four columns put together
joined : List ℕ → List ℕ → List ℕ → List ℕ → List ℕ
joined w x y z = ((([] ++ w) ++ x) ++ y) ++ z

joined_same : {w x y z w' x' y' z' : List ℕ} → w ≡ w' → x ≡ x' → y ≡ y' → z ≡ z' → joined w x y z ≡ joined w' x' y' z'
joined_same p q r s = λ i. joined (p i) (q i) (r i) (s i)

columns : (s : List ℕ) → length s ≡ 16 → joined (word 0 s) (word 1 s) (word 2 s) (word 3 s) ≡ s
unfolding joined
columns s l = ap (λ (t : List ℕ). joined (word 0 t) (word 1 t) (word 2 t) (word 3 t)) (spelled s l) ∙ sym (spelled s l)

word_long : (s : List ℕ) → length s ≡ 16 → (i : ℕ) → i < 4 → length (word i s) ≡ 4
word_long s l i h = length-take-le 4 (drop (4 * i) s) (simp length-drop (omega arith))

pub mix_undone : (s : List ℕ) → Block s → inv_mix_columns (mix_columns s) ≡ s
unfolding mix_columns inv_mix_columns columnwise mix_column joined
mix_undone s b =
    let one : (i : ℕ) → i < 4 → inv_mix_column (mix_column (word i s)) ≡ word i s = λ i h. mixing_undone (word i s) (word_fit i s b.fit) (word_long s b.long i h) in
    joined_same (one 0 (omega arith)) (one 1 (omega arith)) (one 2 (omega arith)) (one 3 (omega arith)) ∙ columns s b.long

pub mix_redone : (s : List ℕ) → Block s → mix_columns (inv_mix_columns s) ≡ s
unfolding mix_columns inv_mix_columns columnwise inv_mix_column joined
mix_redone s b =
    let one : (i : ℕ) → i < 4 → mix_column (inv_mix_column (word i s)) ≡ word i s = λ i h. mixing_redone (word i s) (word_fit i s b.fit) (word_long s b.long i h) in
    joined_same (one 0 (omega arith)) (one 1 (omega arith)) (one 2 (omega arith)) (one 3 (omega arith)) ∙ columns s b.long

-- ---- keys

pub add_block : (s k : List ℕ) → Block s → AllBytes k → Block (add_round_key s k)
add_block s k b h = record { long = front_long s k ∙ b.long; fit = front_bytes s k b.fit h }
