-- Laying a row into free cells, from its last piece to its first.
use Rattle.std.proofs.Common.{◌≡◌, ℕ, ◌+◌, ◌-◌, ◌*◌, ◌/◌, ◌%◌, ◌<◌, ◌≤◌, ◌⊎◌, List, [], ◌++◌, length, get_or, take, drop, set, sym, refl, ap, ◌∙◌, subst, inl, inr, ⊎_elim, Option, Some, None, IsSome, arith}
use Rattle.std.proofs.lemmas.List.{set-get_or, set-set, length-set, get_or-set_same, drop_all, drop-drop, length-drop, length-take-le, take-append-drop, nil_from_length, drop-set-lt, take_at, drop_at, take-take, drop-take, length-append}
use Rattle.std.proofs.lemmas.Bool.{cases_eq, cases_lt}
use Rattle.base.specs.Bytes.{AllBytes}
use Rattle.base.proofs.Strings.{append_bytes}
use Rattle.chain.specs.Cells.{used_of, FirstFree, cell_of, put_cell, chain_units, chains_of}
use Rattle.chain.specs.Memory.{LinkedIn, rows_in, other_chains, RowPut}
use Rattle.chain.proofs.Plans.{Before, cell_same, cell_other, length_cell}
use Rattle.chain.proofs.Has.{Has, cost, rows_are, has_push, push_others, has_none, has_free, cost_set}
use Rattle.chain.proofs.Linked.{has_linked, linked_has}
use Rattle.chain.proofs.Releasing.{cells_size, heads_size, size_again, take_set_in}

-- where the last piece begins of the first `at` bytes
abbrev pub start : ℕ → ℕ
start at = ((at - 1) / 30) * 30

-- the last piece of what is left of a row, and what is left then
pub back : (r x y p : List ℕ) → x ≡ take (length x) r → x ≡ y ++ p → (y ≡ take (length y) r) × (p ≡ take (length x - length y) (drop (length y) r))
back r x y p e f =
    let n : length x ≡ length y + length p = ap (λ t. length t) f ∙ length-append y p in
    let w : length y + (length x - length y) ≡ length x = omega (arith, n) in (
      sym (take_at y p (length y) refl) ∙ ap (take (length y)) (sym f ∙ e) ∙ take-take (length y) (length x) r (omega (arith, n)),
      sym (drop_at y p (length y) refl) ∙ ap (drop (length y)) (sym f ∙ e ∙ ap (λ t. take t r) (sym w)) ∙ drop-take (length y) (length x - length y) r,
    )

-- ---- the piece before `at`

module _ (r : List ℕ) (at : ℕ) (pos : 0 < at) (le : at ≤ length r) (full : (at % 30 ≡ 0) ⊎ (at ≡ length r)) where
  abbrev pub piece : List ℕ
  piece = take (at - start at) (drop (start at) r)

  pub piece_length : length piece ≡ at - start at
  piece_length = length-take-le (at - start at) (drop (start at) r) (omega (arith, length-drop (start at) r))

  pub piece_low : 1 ≤ length piece
  piece_low = omega (arith, piece_length)

  pub piece_high : length piece ≤ 30
  piece_high = omega (arith, piece_length)

  piece_before : Before piece (drop at r)
  piece_before = ⊎_elim (λ e. inl (omega (arith, piece_length))) (λ e. inr (drop_all at r (omega arith))) full

  piece_join : piece ++ drop at r ≡ drop (start at) r
  piece_join =
      let n : start at + (at - start at) ≡ at = omega arith in
      ap (λ t. piece ++ t) (sym (drop-drop (at - start at) (start at) r ∙ ap (λ t. drop t r) n)) ∙ take-append-drop (at - start at) (drop (start at) r)

  less : chain_units (length (drop at r)) < chain_units (length r)
  less = ⊎_elim (λ e. omega (arith, length-drop at r)) (λ e. omega (arith, length-drop at r)) full

-- ---- the loop: what follows `at` is laid out, the slot's chain begins at cur, and every cell before `from` is used

pub record Building (s c slot cur at from : ℕ) (r before now : List ℕ) : Type 0 where
  pub size : length now ≡ s + 32 * c
  pub has : Has c (drop s now) (set (take s now) slot cur) (set (rows_in s c before) slot (drop at r))
  pub others : set (chains_of c (drop s now) (set (take s now) slot cur)) slot [] ≡ other_chains s c before slot
  pub end : at ≤ length r
  pub full : (at % 30 ≡ 0) ⊎ (at ≡ length r)
  pub first : 1 ≤ from
  pub passed : (j : ℕ) → 1 ≤ j → j < from → 1 ≤ used_of (drop s now) j
  pub bytes : AllBytes (drop at r)

no_bytes : (n : ℕ) (xs : List ℕ) → length xs ≤ n → AllBytes (drop n xs)
no_bytes n xs h i = rw (drop_all n xs h) (omega arith)

pub build_start : (s c slot : ℕ) (r b : List ℕ) → length b ≡ s + 32 * c → LinkedIn s c b → slot < s → get_or (take s b) slot 0 ≡ 0 → Building s c slot 0 (length r) 1 r b b
build_start s c slot r b size l h e =
    let a = has_linked c (drop s b) (take s b) (cells_size s c b size) l in
    let rows = rows_in s c b in
    let ih : slot < length (take s b) = omega (arith, heads_size s c b size) in
    let hs : set (take s b) slot 0 ≡ take s b = ap (set (take s b) slot) (sym e) ∙ set-get_or (take s b) slot 0 in
    let n : get_or rows slot [] ≡ [] = nil_from_length (get_or rows slot []) (has_none c (drop s b) (take s b) rows a slot ih e) in
    let rs : set rows slot (drop (length r) r) ≡ rows = ap (set rows slot) (drop_all (length r) r (omega arith) ∙ sym n) ∙ set-get_or rows slot [] in
    record {
      size = size;
      has = rw (hs, rs) a;
      others = rw hs refl;
      end = omega arith;
      full = inr refl;
      first = omega arith;
      passed = λ j lo hi. absurd (omega arith);
      bytes = no_bytes (length r) r (omega arith);
    }

module _ (s c slot cur at from : ℕ) (r before b : List ℕ) (h : slot < s) (a : Building s c slot cur at from r before b) (pos : 0 < at) where
  abbrev p : List ℕ
  p = take (at - start at) (drop (start at) r)

  long : length (take s b) ≡ s
  long = heads_size s c b a.size

  rows_long : slot < length (rows_in s c before)
  rows_long = omega (arith, a.has.held, length-set (rows_in s c before) slot (drop at r), length-set (take s b) slot cur, long)

  -- a free cell is left
  pub build_free : cost (rows_in s c before) + chain_units (length r) ≤ c → (o : Option ℕ) → FirstFree c (drop s b) from o → IsSome o
  build_free room (Some k) f = refl
  build_free room None f = absurd (has_free c (drop s b) (set (take s b) slot cur) (set (rows_in s c before) slot (drop at r)) a.has
      (omega (arith, less r at pos a.end a.full, cost_set (rows_in s c before) slot (drop at r) rows_long))
      (λ j lo hi. ⊎_elim (λ l. a.passed j lo l) (λ l. f j l hi) (cases_lt j from)))

  module _ (k : ℕ) (lo : 1 ≤ k) (far : from ≤ k) (hi : k ≤ c) (z : used_of (drop s b) k ≡ 0) (skipped : (j : ℕ) → from ≤ j → j < k → 1 ≤ used_of (drop s b) j)
      (b' : List ℕ) (eh : take s b' ≡ take s b) (ec : drop s b' ≡ put_cell (drop s b) k (cell_of cur p)) (fits : AllBytes p) where
    abbrev roots : List ℕ
    roots = set (take s b) slot cur

    abbrev rows : List (List ℕ)
    rows = set (rows_in s c before) slot (drop at r)

    root_in : slot < length (set (take s b) slot cur)
    root_in = omega (arith, length-set (take s b) slot cur, long)

    at_root : get_or (set (take s b) slot cur) slot 0 ≡ cur
    at_root = get_or-set_same (take s b) slot cur 0 (omega (arith, long))

    mine : get_or (set (rows_in s c before) slot (drop at r)) slot [] ≡ drop at r
    mine = get_or-set_same (rows_in s c before) slot (drop at r) [] rows_long

    stands : Before p (get_or (set (rows_in s c before) slot (drop at r)) slot [])
    stands = subst (λ t. Before p t) (sym mine) (piece_before r at pos a.end a.full)

    p-low : 1 ≤ length p
    p-low = piece_low r at pos a.end a.full

    p-high : length p ≤ 30
    p-high = piece_high r at pos a.end a.full

    cells-next : drop s b' ≡ put_cell (drop s b) k (cell_of (get_or roots slot 0) p)
    cells-next = ec ∙ ap (λ t. put_cell (drop s b) k (cell_of t p)) (sym at_root)

    roots-next : set (take s b') slot k ≡ set roots slot k
    roots-next = ap (λ t. set t slot k) eh ∙ sym (set-set (take s b) slot cur k)

    rows_next : set (rows_in s c before) slot (drop (start at) r) ≡ set rows slot (p ++ get_or rows slot [])
    rows_next = ap (set (rows_in s c before) slot) (sym (piece_join r at pos a.end a.full) ∙ ap (λ t. p ++ t) (sym mine)) ∙ sym (set-set (rows_in s c before) slot (drop at r) (p ++ get_or rows slot []))

    has-next : Has c (drop s b') (set (take s b') slot k) (set (rows_in s c before) slot (drop (start at) r))
    has-next = rw (cells-next, roots-next, rows_next) (has_push c (drop s b) roots rows a.has slot root_in k lo hi z p p-low p-high stands)

    used-next : used_of (drop s b') k ≡ length p
    used-next = ap (λ t. used_of t k) ec ∙ ap (λ t. get_or t 1 0) (cell_same c (drop s b) a.has.size k lo hi (cell_of cur p) (length_cell cur p p-high))

    used-other : (j : ℕ) → 1 ≤ j → (j ≡ k → ⊥) → used_of (drop s b') j ≡ used_of (drop s b) j
    used-other j l ne = ap (λ t. used_of t j) ec ∙ ap (λ t. get_or t 1 0) (cell_other c (drop s b) a.has.size k lo hi (cell_of cur p) (length_cell cur p p-high) j l ne)

    pub build-step : Building s c slot k (start at) (k + 1) r before b'
    build-step = record {
      size = size_again s c b b' a.size eh has-next.size;
      has = has-next;
      others = rw (cells-next, roots-next) (push_others c (drop s b) roots rows a.has slot root_in k lo hi z p p-low p-high stands) ∙ a.others;
      end = omega (arith, a.end);
      full = inl (omega arith);
      first = omega arith;
      passed = λ j l q. ⊎_elim
          (λ e. rw e (omega (arith, used-next, p-low)))
          (λ ne. ⊎_elim (λ w. omega (arith, used-other j l ne, a.passed j l w)) (λ w. omega (arith, used-other j l ne, skipped j w (omega (arith, ne)))) (cases_lt j from))
          (cases_eq j k);
      bytes = subst (λ t. AllBytes t) (piece_join r at pos a.end a.full) (append_bytes p (drop at r) fits a.bytes);
    }

-- ---- the head is written once, at the end

module _ (s c slot cur at from : ℕ) (r before b : List ℕ) (h : slot < s) (a : Building s c slot cur at from r before b) (z : at ≡ 0) where
  heads_end : take s (set b slot cur) ≡ set (take s b) slot cur
  heads_end = take_set_in s b slot cur h

  cells_end : drop s (set b slot cur) ≡ drop s b
  cells_end = drop-set-lt s b slot cur h

  has_end : Has c (drop s b) (set (take s b) slot cur) (set (rows_in s c before) slot r)
  has_end = subst (λ t. Has c (drop s b) (set (take s b) slot cur) (set (rows_in s c before) slot (drop t r))) z a.has

  pub build_end : length before ≡ s + 32 * c → RowPut s c slot r before (set b slot cur)
  build_end e = record {
    size = length-set b slot cur ∙ a.size ∙ sym e;
    linked = rw (heads_end, cells_end) (linked_has c (drop s b) (set (take s b) slot cur) (set (rows_in s c before) slot r) has_end);
    rows = rw (heads_end, cells_end) (rows_are c (drop s b) (set (take s b) slot cur) (set (rows_in s c before) slot r) has_end);
    others = rw (heads_end, cells_end) a.others;
  }

  pub build_bytes : AllBytes r
  build_bytes = subst (λ t. AllBytes (drop t r)) z a.bytes

-- ---- one row in the place of another

pub row_again : (s c slot : ℕ) (r before between after : List ℕ) → RowPut s c slot [] before between → RowPut s c slot r between after → RowPut s c slot r before after
row_again s c slot r before between after a b = record {
  size = b.size ∙ a.size;
  linked = b.linked;
  rows = b.rows ∙ ap (λ t. set t slot r) a.rows ∙ set-set (rows_in s c before) slot [] r;
  others = b.others ∙ a.others;
}
