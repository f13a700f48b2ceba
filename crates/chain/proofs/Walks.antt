-- What the functions of the bytes find of a plan: the cells of a chain, its row, and how many cells are used.
use Rattle.std.proofs.Common.{◌≡◌, ℕ, zero, suc, ◌+◌, ◌-◌, ◌<◌, ◌≤◌, false, eqb, List, [], ◌∷◌, map, length, get_or, take, drop, replicate, sum_by, count_by, sym, refl, ap, ◌∙◌, subst, ⊎_elim, arith}
use Rattle.std.proofs.lemmas.List.{take_at, length-drop, length-take, take-append-drop, nil_from_length}
use Rattle.std.proofs.lemmas.List.Sums.{sum_by-cons}
use Rattle.std.proofs.lemmas.Bool.{cases_eq, eq-eqb, ne_eqb}
use Rattle.chain.specs.Cells.{cell, next_of, used_of, piece_of, chain_from, row_in, cell_of, chain_units, times_on}
use Rattle.chain.proofs.Laid.{first, layout, Plan}
use Rattle.chain.proofs.Plans.{here, count_cons}

abbrev pub Inside : ℕ → List ℕ → Type 0
Inside c js = (p : ℕ) → p < length js → (1 ≤ get_or js p 0) × (get_or js p 0 ≤ c)

-- ---- one chain

-- the first cell of a chain
pub first_cell : (cs : List ℕ) (j : ℕ) (js r : List ℕ) → map (cell cs) (j ∷ js) ≡ layout (j ∷ js) r → cell cs j ≡ cell_of (first js) (take 30 r)
first_cell cs j js r e = cc

pub other_cells : (cs : List ℕ) (j : ℕ) (js r : List ℕ) → map (cell cs) (j ∷ js) ≡ layout (j ∷ js) r → map (cell cs) js ≡ layout js (drop 30 r)
other_cells cs j js r e = cc

pub first_next : (cs : List ℕ) (j : ℕ) (js r : List ℕ) → map (cell cs) (j ∷ js) ≡ layout (j ∷ js) r → next_of cs j ≡ first js
first_next cs j js r e = ap (λ t. get_or t 0 0) (first_cell cs j js r e)

pub first_used : (cs : List ℕ) (j : ℕ) (js r : List ℕ) → map (cell cs) (j ∷ js) ≡ layout (j ∷ js) r → used_of cs j ≡ length (take 30 r)
first_used cs j js r e = ap (λ t. get_or t 1 0) (first_cell cs j js r e)

pub first_piece : (cs : List ℕ) (j : ℕ) (js r : List ℕ) → map (cell cs) (j ∷ js) ≡ layout (j ∷ js) r → piece_of cs j ≡ take 30 r
first_piece cs j js r e =
    ap (λ t. take (get_or t 1 0) (drop 2 t)) (first_cell cs j js r e)
    ∙ take_at (take 30 r) (replicate (30 - length (take 30 r)) 0) (length (take 30 r)) refl

pub walk_is : (c : ℕ) (cs : List ℕ) (f : ℕ) (js r : List ℕ) → map (cell cs) js ≡ layout js r → Inside c js → length js ≤ f → chain_from cs f (first js) ≡ js
walk_is c cs zero [] r e h l = refl
walk_is c cs (suc f) [] r e h l = refl
walk_is c cs zero (j ∷ js) r e h l = absurd (omega arith)
walk_is c cs (suc f) (j ∷ js) r e h l =
    let ne : eqb j 0 ≡ false = ne_eqb j 0 (λ z. omega (arith, (h 0 (omega arith)).0)) in
    let t : chain_from cs f (next_of cs j) ≡ js = ap (chain_from cs f) (first_next cs j js r e) ∙ walk_is c cs f js (drop 30 r) (other_cells cs j js r e) (λ p q. h (suc p) (omega arith)) (omega arith) in
    rw ne (ap (λ x. j ∷ x) t)

pub row_is : (cs js r : List ℕ) → map (cell cs) js ≡ layout js r → length js ≡ chain_units (length r) → row_in cs js ≡ r
row_is cs [] r e h = sym (nil_from_length r (omega arith))
row_is cs (j ∷ js) r e h =
    let t : row_in cs js ≡ drop 30 r = row_is cs js (drop 30 r) (other_cells cs j js r e) (omega (arith, length-drop 30 r)) in
    let p = first_piece cs j js r e in
    rw (p, t) (take-append-drop 30 r)

-- ---- how many cells are on chains

-- over the cells 1 to n: how often they stand in a list, and in all lists
abbrev pub tally_one : ℕ → List ℕ → ℕ
tally_one zero js = 0
tally_one (suc n) js = count_by (eqb (suc n)) js + tally_one n js

abbrev pub tally : ℕ → List (List ℕ) → ℕ
tally zero jss = 0
tally (suc n) jss = times_on (suc n) jss + tally n jss

abbrev here_all : ℕ → ℕ → ℕ
here_all zero j = 0
here_all (suc n) j = here (suc n) j + here_all n j

here_past : (n j : ℕ) → n < j → here_all n j ≡ 0
here_past zero j h = refl
here_past (suc n) j h = let a : here (suc n) j ≡ 0 = rw (ne_eqb (suc n) j (λ e. omega arith)) refl in omega (arith, here_past n j (omega arith))

here_once : (n j : ℕ) → 1 ≤ j → j ≤ n → here_all n j ≡ 1
here_once zero j lo hi = absurd (omega arith)
here_once (suc n) j lo hi = ⊎_elim
    (λ e. let a : here (suc n) j ≡ 1 = rw (eq-eqb (suc n) j e) refl in omega (arith, here_past n j (omega arith)))
    (λ ne. let a : here (suc n) j ≡ 0 = rw (ne_eqb (suc n) j ne) refl in omega (arith, here_once n j lo (omega arith)))
    (cases_eq (suc n) j)

tally_cons_one : (n j : ℕ) (js : List ℕ) → tally_one n (j ∷ js) ≡ here_all n j + tally_one n js
tally_cons_one zero j js = refl
tally_cons_one (suc n) j js = omega (arith, count_cons (suc n) j js, tally_cons_one n j js)

tally_nil_one : (n : ℕ) → tally_one n [] ≡ 0
tally_nil_one zero = refl
tally_nil_one (suc n) = omega (arith, tally_nil_one n)

pub tally_length : (n : ℕ) (js : List ℕ) → Inside n js → tally_one n js ≡ length js
tally_length n [] h = tally_nil_one n
tally_length n (j ∷ js) h = omega (arith, tally_cons_one n j js, here_once n j (h 0 (omega arith)).0 (h 0 (omega arith)).1, tally_length n js (λ p q. h (suc p) (omega arith)))

tally_nil : (n : ℕ) → tally n [] ≡ 0
tally_nil zero = refl
tally_nil (suc n) = omega (arith, tally_nil n)

tally_cons : (n : ℕ) (js : List ℕ) (jss : List (List ℕ)) → tally n (js ∷ jss) ≡ tally_one n js + tally n jss
tally_cons zero js jss = refl
tally_cons (suc n) js jss = omega (arith, sum_by-cons (λ t. count_by (eqb (suc n)) t) js jss, tally_cons n js jss)

pub tally_lengths : (n : ℕ) (jss : List (List ℕ)) → ((i : ℕ) → i < length jss → Inside n (get_or jss i [])) → tally n jss ≡ sum_by (λ js. length js) jss
tally_lengths n [] h = tally_nil n
tally_lengths n (js ∷ jss) h = omega (arith, tally_cons n js jss, tally_length n js (h 0 (omega arith)), tally_lengths n jss (λ i q. h (suc i) (omega arith)), sum_by-cons (λ t. length t) js jss)

pub tally_low : (n : ℕ) (jss : List (List ℕ)) → ((k : ℕ) → times_on k jss ≤ 1) → tally n jss ≤ n
tally_low zero jss h = omega arith
tally_low (suc n) jss h = omega (arith, h (suc n), tally_low n jss h)

pub tally_full : (n : ℕ) (jss : List (List ℕ)) → ((k : ℕ) → 1 ≤ k → k ≤ n → 1 ≤ times_on k jss) → n ≤ tally n jss
tally_full zero jss h = omega arith
tally_full (suc n) jss h = omega (arith, h (suc n) (omega arith) (omega arith), tally_full n jss (λ k a b. h k a (omega arith)))

-- ---- of a plan

module _ (c : ℕ) (cs roots : List ℕ) (jss rows : List (List ℕ)) (a : Plan c cs roots jss rows) where
  pub plan_total : tally c jss ≡ sum_by (λ js. length js) jss
  plan_total = tally_lengths c jss (λ i q. (a.chains i (omega (arith, a.lists))).inside)

  pub plan_room : sum_by (λ js. length js) jss ≤ c
  plan_room = omega (arith, plan_total, tally_low c jss a.once)

  -- where not all cells are on chains, some cell is on none
  pub plan_full : ((k : ℕ) → 1 ≤ k → k ≤ c → 1 ≤ used_of cs k) → c ≤ sum_by (λ js. length js) jss
  plan_full h = omega (
    arith,
    plan_total,
    tally_full c jss (λ k x y. ⊎_elim
        (λ e. let z : used_of cs k ≡ 0 = ap (λ t. get_or t 1 0) (a.free k x y e) in absurd (omega (arith, h k x y)))
        (λ ne. omega arith)
        (cases_eq (times_on k jss) 0)),
  )

-- a cell with nothing used is on no chain
unused_one : (cs : List ℕ) (k : ℕ) (js r : List ℕ) → map (cell cs) js ≡ layout js r → length js ≡ chain_units (length r) → used_of cs k ≡ 0 → count_by (eqb k) js ≡ 0
unused_one cs k [] r e h z = refl
unused_one cs k (j ∷ js) r e h z =
    let t = unused_one cs k js (drop 30 r) (other_cells cs j js r e) (omega (arith, length-drop 30 r)) z in
    let u = first_used cs j js r e in
    let l = length-take 30 r in
    let ne : k ≡ j → ⊥ = λ q. (let v : used_of cs j ≡ 0 = subst (λ x. used_of cs x ≡ 0) q z in omega arith) in
    let w : here k j ≡ 0 = rw (ne_eqb k j ne) refl in
    omega (arith, count_cons k j js)

pub times_none_all : (k : ℕ) (jss : List (List ℕ)) → ((i : ℕ) → i < length jss → count_by (eqb k) (get_or jss i []) ≡ 0) → times_on k jss ≡ 0
times_none_all k [] h = refl
times_none_all k (js ∷ jss) h = omega (arith, sum_by-cons (λ t. count_by (eqb k) t) js jss, h 0 (omega arith), times_none_all k jss (λ i q. h (suc i) (omega arith)))

pub plan_unused : (c : ℕ) (cs roots : List ℕ) (jss rows : List (List ℕ)) → Plan c cs roots jss rows → (k : ℕ) → used_of cs k ≡ 0 → times_on k jss ≡ 0
plan_unused c cs roots jss rows a k z = times_none_all k jss (λ i q.
    let l = a.chains i (omega (arith, a.lists)) in
    unused_one cs k (get_or jss i []) (get_or rows i []) l.cells l.count z)
