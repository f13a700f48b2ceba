-- The substitution tables keep their rule at each entry: one computed test over each table, carried to its entries.
use Rattle.std.specs.Prelude.{◌≡◌, ℕ, zero, suc, ◌<◌, Bool, T, ◌==◌, bit_xor, nat_lt, slice_index, slice_index_or}
use Rattle.std.proofs.Common.{sym, ap, ◌∙◌, subst, arith, one-add, eqb→eq, ltb→lt}
use Rattle.std.proofs.lemmas.Nat.{xor_lt}
use Rattle.std.specs.List.{range_with_len}
use Rattle.std.proofs.lemmas.List.FromFn.{get_or-range_with_len}
use Rattle.base.proofs.Doubling.{twice, mul_bits, mul}
use Rattle.ciphers.specs.AesField.{product, inverse, turned, affine, inv_affine, substitution, inv_substitution}
use Rattle.ciphers.specs.AesTables.{substitution_table, inv_substitution_table}
use Rattle.ciphers.specs.AesEntries.{at}
use Rattle.ciphers.specs.AesFieldLemmas.{product_mul, by_squares, inverse_squares, inverse_lt}

-- ---- a byte times its inverse

one_at : ℕ → ℕ → Bool
one_at k a = mul 7 27 a (by_squares 7 a) == 1

one_from : (k : ℕ) → k < 255 → mul 7 27 (suc k) (by_squares 7 (suc k)) ≡ 1
unfolding one_at by_squares mul mul_bits twice
one_from k h =
    let e : slice_index_or (range_with_len 1 255) k 0 ≡ suc k = get_or-range_with_len 1 255 k 0 h ∙ one-add k in
    eqb→eq (mul 7 27 (suc k) (by_squares 7 (suc k))) 1
    (subst (λ (a : ℕ). T (mul 7 27 a (by_squares 7 a) == 1)) e (at one_at (range_with_len 1 255) tt k h))

pub times_inverse : (a : ℕ) → 0 < a → a < 256 → product a (inverse a) ≡ 1
times_inverse zero p h = absurd (omega arith)
times_inverse (suc k) p h = product_mul (suc k) (inverse (suc k)) (inverse_lt (suc k)) ∙ ap (mul 7 27 (suc k)) (inverse_squares (suc k) h) ∙ one_from k (omega arith)

pub inverse_zero : inverse 0 ≡ 0
unfolding by_squares mul mul_bits twice
inverse_zero = inverse_squares 0 (omega arith)

-- ---- the rules

rule : ℕ → ℕ → Bool
rule k x = x == affine (by_squares 7 k)

pub entry : (a : ℕ) → a < 256 → slice_index substitution_table a ≡ affine (inverse a)
unfolding substitution_table rule affine turned by_squares mul mul_bits twice
entry a h = eqb→eq (slice_index substitution_table a) (affine (by_squares 7 a)) (at rule substitution_table tt a h) ∙ sym (ap affine (inverse_squares a h))

inv_affine_lt : (a : ℕ) → a < 256 → inv_affine a < 256
unfolding inv_affine turned
inv_affine_lt a h =
    let t6 : turned 6 a < 256 = omega arith in
    let t3 : turned 3 a < 256 = omega arith in
    let t1 : turned 1 a < 256 = omega arith in
    let two : bit_xor (turned 6 a) (turned 3 a) < 256 = xor_lt 8 (turned 6 a) (turned 3 a) t6 t3 in
    let three : bit_xor (bit_xor (turned 6 a) (turned 3 a)) (turned 1 a) < 256 = xor_lt 8 (bit_xor (turned 6 a) (turned 3 a)) (turned 1 a) two t1 in
    xor_lt 8 (bit_xor (bit_xor (turned 6 a) (turned 3 a)) (turned 1 a)) 5 three (omega arith)

inv_rule : ℕ → ℕ → Bool
inv_rule k x = x == by_squares 7 (inv_affine k)

pub inv_entry : (a : ℕ) → a < 256 → slice_index inv_substitution_table a ≡ inverse (inv_affine a)
unfolding inv_substitution_table inv_rule inv_affine turned by_squares mul mul_bits twice
inv_entry a h =
    eqb→eq (slice_index inv_substitution_table a) (by_squares 7 (inv_affine a)) (at inv_rule inv_substitution_table tt a h)
    ∙ sym (inverse_squares (inv_affine a) (inv_affine_lt a h))

-- ---- what a table gives is a byte, and the other leads back

small : ℕ → ℕ → Bool
small k x = nat_lt x 256

entry_lt : (a : ℕ) → a < 256 → slice_index substitution_table a < 256
unfolding small substitution_table
entry_lt a h = ltb→lt (slice_index substitution_table a) 256 (at small substitution_table tt a h)

inv_entry_lt : (a : ℕ) → a < 256 → slice_index inv_substitution_table a < 256
unfolding small inv_substitution_table
inv_entry_lt a h = ltb→lt (slice_index inv_substitution_table a) 256 (at small inv_substitution_table tt a h)

leads_back : ℕ → ℕ → Bool
leads_back k x = slice_index inv_substitution_table x == k

there_and_back : (a : ℕ) → a < 256 → slice_index inv_substitution_table (slice_index substitution_table a) ≡ a
unfolding leads_back substitution_table inv_substitution_table
there_and_back a h = eqb→eq (slice_index inv_substitution_table (slice_index substitution_table a)) a (at leads_back substitution_table tt a h)

leads_there : ℕ → ℕ → Bool
leads_there k x = slice_index substitution_table x == k

back_and_there : (a : ℕ) → a < 256 → slice_index substitution_table (slice_index inv_substitution_table a) ≡ a
unfolding leads_there substitution_table inv_substitution_table
back_and_there a h = eqb→eq (slice_index substitution_table (slice_index inv_substitution_table a)) a (at leads_there inv_substitution_table tt a h)

-- ---- the substitution and its undoing

pub entry_is : (a : ℕ) → a < 256 → slice_index substitution_table a ≡ substitution a
unfolding substitution
entry_is a h = entry a h

pub inv_entry_is : (a : ℕ) → a < 256 → slice_index inv_substitution_table a ≡ inv_substitution a
unfolding inv_substitution
inv_entry_is a h = inv_entry a h

pub substitution_lt : (a : ℕ) → a < 256 → substitution a < 256
substitution_lt a h = subst (λ (x : ℕ). x < 256) (entry_is a h) (entry_lt a h)

pub inv_substitution_lt : (a : ℕ) → a < 256 → inv_substitution a < 256
inv_substitution_lt a h = subst (λ (x : ℕ). x < 256) (inv_entry_is a h) (inv_entry_lt a h)

pub substitution_undone : (a : ℕ) → a < 256 → inv_substitution (substitution a) ≡ a
substitution_undone a h =
    sym (inv_entry_is (substitution a) (substitution_lt a h)) ∙ ap (λ (x : ℕ). slice_index inv_substitution_table x) (sym (entry_is a h)) ∙ there_and_back a h

pub substitution_redone : (a : ℕ) → a < 256 → substitution (inv_substitution a) ≡ a
substitution_redone a h =
    sym (entry_is (inv_substitution a) (inv_substitution_lt a h)) ∙ ap (λ (x : ℕ). slice_index substitution_table x) (sym (inv_entry_is a h)) ∙ back_and_there a h
