-- What a change of one slot's row leaves of the rest.
use Rattle.std.proofs.Common.{◌≡◌, ℕ, suc, ◌+◌, ◌*◌, ◌<◌, ◌≤◌, List, [], ◌∷◌, map, length, get_or, take, drop, set, sym, ap, ◌∙◌, subst, ⊎_elim, arith}
use Rattle.std.proofs.lemmas.List.{ext_get_or, length-map, length-set, map-set, get_or-set_same, get_or-set_other, nil_from_length}
use Rattle.std.proofs.lemmas.List.Sums.{sum_by-cons}
use Rattle.std.proofs.lemmas.Bool.{cases_eq, cases_lt}
use Rattle.devices.specs.Slots.{nothing, RowFits}
use Rattle.chain.specs.Cells.{cell, chain_from, times_in, times_on}
use Rattle.chain.specs.Memory.{chains_in, other_chains, rows_in, slot_in, chain_held, chain_shape, WellFormed, RowPut, Written, Cleared}
use Rattle.chain.proofs.Laid.{first, layout, Lies}
use Rattle.chain.proofs.Plans.{here_other, count_cons, times_set}
use Rattle.chain.proofs.Has.{Has}
use Rattle.chain.proofs.Linked.{has_linked, rows_length}
use Rattle.chain.proofs.Releasing.{cells_size, heads_size}

-- some chain has the cell
some_chain : (k : ℕ) (jss : List (List ℕ)) → 1 ≤ times_on k jss → (i : ℕ) × ((i < length jss) × (1 ≤ times_in k (get_or jss i [])))
some_chain k [] h = absurd (omega arith)
some_chain k (js ∷ jss) h = ⊎_elim
    (λ l. (0, (omega arith, l)))
    (λ l. let t = some_chain k jss (omega (arith, sum_by-cons (times_in k) js jss)) in (suc t.0, (omega (arith, t.1.0), t.1.1)))
    (cases_lt 0 (times_in k js))

-- maps that agree on a list agree on its members
same_member : (f g : ℕ → List ℕ) (k : ℕ) (js : List ℕ) → 1 ≤ times_in k js → map f js ≡ map g js → f k ≡ g k
same_member f g k [] h e = absurd (omega arith)
same_member f g k (j ∷ js) h e = ⊎_elim
    (λ q. let x : f j ≡ g j = cc in subst (λ t. f t ≡ g t) (sym q) x)
    (λ ne. let x : map f js ≡ map g js = cc in same_member f g k js (omega (arith, count_cons k j js, here_other k j ne)) x)
    (cases_eq k j)

module _ (s c slot : ℕ) (r before after : List ℕ) (size : length before ≡ s + 32 * c) (h : slot < s)
    (was : Has c (drop s before) (take s before) (rows_in s c before)) (a : RowPut s c slot r before after) where
  size_after : length after ≡ s + 32 * c
  size_after = a.size ∙ size

  is : Has c (drop s after) (take s after) (rows_in s c after)
  is = has_linked c (drop s after) (take s after) (cells_size s c after size_after) a.linked

  many : length (chains_in s c before) ≡ s
  many = length-map (take s before) (chain_from (drop s before) c) ∙ heads_size s c before size

  many_after : length (chains_in s c after) ≡ s
  many_after = length-map (take s after) (chain_from (drop s after) c) ∙ heads_size s c after size_after

  rows_many : length (rows_in s c before) ≡ s
  rows_many = rows_length c (drop s before) (take s before) ∙ heads_size s c before size

  -- ---- the other slots

  chain_same : (i : ℕ) → (i ≡ slot → ⊥) → get_or (chains_in s c after) i [] ≡ get_or (chains_in s c before) i []
  chain_same i ne = sym (get_or-set_other (chains_in s c after) slot i [] [] ne) ∙ ap (λ t. get_or t i []) a.others ∙ get_or-set_other (chains_in s c before) slot i [] [] ne

  row_same : (i : ℕ) → (i ≡ slot → ⊥) → get_or (rows_in s c after) i [] ≡ get_or (rows_in s c before) i []
  row_same i ne = ap (λ t. get_or t i []) a.rows ∙ get_or-set_other (rows_in s c before) slot i r [] ne

  pub heads_same : (i : ℕ) → i < s → (i ≡ slot → ⊥) → get_or (take s after) i 0 ≡ get_or (take s before) i 0
  heads_same i l ne = sym (is.chains i (omega (arith, heads_size s c after size_after))).starts ∙ ap first (chain_same i ne) ∙ (was.chains i (omega (arith, heads_size s c before size))).starts

  pub others_same : (k : ℕ) → 1 ≤ times_on k (other_chains s c before slot) → cell (drop s after) k ≡ cell (drop s before) k
  others_same k o =
      let t = some_chain k (other_chains s c before slot) o in
      let i = t.0 in
      let l : i < s = omega (arith, t.1.0, length-set (chains_in s c before) slot [], many) in
      let ne : i ≡ slot → ⊥ = λ e.
      (let z : times_in k (get_or (other_chains s c before slot) i []) ≡ 0 = rw e (ap (times_in k) (get_or-set_same (chains_in s c before) slot [] [] (omega (arith, many)))) in omega (arith, t.1.1)) in
      let on : 1 ≤ times_in k (get_or (chains_in s c before) i []) = subst (λ x. 1 ≤ times_in k x) (get_or-set_other (chains_in s c before) slot i [] [] ne) t.1.1 in
      let x = (is.chains i (omega (arith, heads_size s c after size_after))).cells in
      let y = (was.chains i (omega (arith, heads_size s c before size))).cells in
      let e : map (cell (drop s after)) (get_or (chains_in s c before) i []) ≡ map (cell (drop s before)) (get_or (chains_in s c before) i []) =
      subst (λ js. map (cell (drop s after)) js ≡ map (cell (drop s before)) (get_or (chains_in s c before) i [])) (chain_same i ne)
      (x ∙ sym (subst (λ js. map (cell (drop s before)) (get_or (chains_in s c before) i []) ≡ layout js (get_or (rows_in s c after) i [])) (sym (chain_same i ne))
      (y ∙ ap (layout (get_or (chains_in s c before) i [])) (sym (row_same i ne))))) in
      same_member (cell (drop s after)) (cell (drop s before)) k (get_or (chains_in s c before) i []) on e

  -- ---- how often a cell stands on the others

  times_before : (k : ℕ) → times_on k (other_chains s c before slot) + times_in k (get_or (chains_in s c before) slot []) ≡ times_on k (chains_in s c before)
  times_before k = omega (arith, times_set k (chains_in s c before) slot [] (omega (arith, many)))

  times_after : (k : ℕ) → times_on k (other_chains s c before slot) + times_in k (get_or (chains_in s c after) slot []) ≡ times_on k (chains_in s c after)
  times_after k = omega (arith, times_set k (chains_in s c after) slot [] (omega (arith, many_after)), ap (times_on k) a.others)

  pub written : Written s c slot before after
  written = record {
    heads = heads_same;
    others = λ k lo hi o. others_same k o;
    taken = λ k on. omega (arith, times_after k, is.once k);
    clean = a.linked.clean;
  }

  module _ (none : r ≡ []) where
    row_none : length (get_or (rows_in s c after) slot []) ≡ 0
    row_none = ap (λ t. length (get_or t slot [])) a.rows ∙ ap (λ t. length t) (get_or-set_same (rows_in s c before) slot r [] (omega (arith, rows_many))) ∙ ap (λ t. length t) none

    lies-slot : Lies c (drop s after) (get_or (take s after) slot 0) (get_or (chains_in s c after) slot []) (get_or (rows_in s c after) slot [])
    lies-slot = is.chains slot (omega (arith, heads_size s c after size_after))

    chain_none : get_or (chains_in s c after) slot [] ≡ []
    chain_none = nil_from_length (get_or (chains_in s c after) slot []) (omega (arith, lies-slot.count, row_none))

    head-none : get_or (take s after) slot 0 ≡ 0
    head-none = sym lies-slot.starts ∙ ap first chain_none

    heads-cleared : take s after ≡ set (take s before) slot 0
    heads-cleared = ext_get_or 0 (take s after) (set (take s before) slot 0)
        (heads_size s c after size_after ∙ sym (length-set (take s before) slot 0 ∙ heads_size s c before size))
        (λ i q. ⊎_elim
        (λ e. rw e (head-none ∙ sym (get_or-set_same (take s before) slot 0 0 (omega (arith, heads_size s c before size)))))
        (λ ne. heads_same i (omega (arith, heads_size s c after size_after)) ne ∙ sym (get_or-set_other (take s before) slot i 0 0 ne))
        (cases_eq i slot))

    on_none : (k : ℕ) → times_in k (get_or (chains_in s c after) slot []) ≡ 0
    on_none k = ap (times_in k) chain_none

    pub cleared : Cleared s c slot before after
    cleared = record {
      heads = heads-cleared;
      freed = λ k lo hi on. a.linked.clean k lo hi (omega (arith, times_after k, on_none k, times_before k, was.once k));
      others = λ k lo hi off. ⊎_elim
          (λ z. a.linked.clean k lo hi (omega (arith, times_after k, on_none k)) ∙ sym (was.free k lo hi (omega (arith, times_before k))))
          (λ ne. others_same k (omega (arith, ne)))
          (cases_eq (times_on k (other_chains s c before slot)) 0);
    }

-- ---- what is held, and that memory is well formed again

module _ (s m c slot : ℕ) (r before after : List ℕ) (size : length before ≡ s + 32 * c) (h : slot < s) (f : WellFormed s m c before) (a : RowPut s c slot r before after) where
  pub held_after : chain_held s c after ≡ set (chain_held s c before) slot (slot_in r)
  held_after = ap (map slot_in) a.rows ∙ map-set slot_in (rows_in s c before) slot r

  held_many : length (chain_held s c before) ≡ s
  held_many = length-map (rows_in s c before) slot_in ∙ (rows_length c (drop s before) (take s before) ∙ heads_size s c before size)

  pub formed_after : RowFits (chain_shape s m c) (slot_in r) → WellFormed s m c after
  formed_after fit = record {
    linked = a.linked;
    rows = λ i l. rw held_after (⊎_elim
        (λ e. rw e (rw (get_or-set_same (chain_held s c before) slot (slot_in r) nothing (omega (arith, held_many))) fit))
        (λ ne. rw (get_or-set_other (chain_held s c before) slot i (slot_in r) nothing ne) (f.rows i l))
        (cases_eq i slot));
  }
