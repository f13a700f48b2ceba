-- What cells and roots hold, with the cells of each chain found from the bytes.
use Rattle.std.proofs.Common.{◌≡◌, ℕ, suc, ◌+◌, ◌-◌, ◌<◌, ◌≤◌, List, [], ◌∷◌, ◌++◌, length, get_or, drop, set, replicate, sum_by, sym, refl, ap, ◌∙◌, subst, arith}
use Rattle.std.proofs.lemmas.List.{ext_get_or, length-map, get_or-map, set-set}
use Rattle.std.proofs.lemmas.List.Sums.{sum_by-cons, sum_by-set, get_or-le-sum_by}
use Rattle.chain.proofs.Parts.{put}
use Rattle.chain.specs.Cells.{next_of, used_of, chain_from, row_in, cell_of, chain_units, chains_of, rows_of}
use Rattle.chain.proofs.Laid.{first, Lies, Plan}
use Rattle.chain.proofs.Plans.{Before, plan_push, plan_pop}
use Rattle.chain.proofs.Walks.{walk_is, row_is, plan_room, plan_full, plan_unused}

-- the cells are well formed, and hold these rows
abbrev pub Has : ℕ → List ℕ → List ℕ → List (List ℕ) → Type 0
Has c cs roots rows = Plan c cs roots (chains_of c cs roots) rows

-- the cells that rows take
abbrev pub cost : List (List ℕ) → ℕ
cost rows = sum_by (λ r. chain_units (length r)) rows

pub walks_are : (c : ℕ) (cs roots : List ℕ) (jss rows : List (List ℕ)) → Plan c cs roots jss rows → chains_of c cs roots ≡ jss
walks_are c cs roots jss rows a = ext_get_or [] (chains_of c cs roots) jss (length-map roots (chain_from cs c) ∙ sym a.lists)
    (λ i q.
    let h : i < length roots = omega (arith, length-map roots (chain_from cs c)) in
    let l = a.chains i h in
    let le : length (get_or jss i []) ≤ c = omega (arith, get_or-le-sum_by (λ js. length js) jss i [] (omega (arith, a.lists)), plan_room c cs roots jss rows a) in
    get_or-map (chain_from cs c) roots i 0 [] h ∙ ap (chain_from cs c) (sym l.starts) ∙ walk_is c cs c (get_or jss i []) (get_or rows i []) l.cells l.inside le)

pub rows_are : (c : ℕ) (cs roots : List ℕ) (rows : List (List ℕ)) → Has c cs roots rows → rows_of c cs roots ≡ rows
rows_are c cs roots rows a = ext_get_or [] (rows_of c cs roots) rows (length-map (chains_of c cs roots) (row_in cs) ∙ a.lists ∙ sym a.held)
    (λ i q.
    let h : i < length roots = omega (arith, length-map (chains_of c cs roots) (row_in cs), a.lists) in
    let l = a.chains i h in
    get_or-map (row_in cs) (chains_of c cs roots) i [] [] (omega (arith, a.lists)) ∙ row_is cs (get_or (chains_of c cs roots) i []) (get_or rows i []) l.cells l.count)

pub has_plan : (c : ℕ) (cs roots : List ℕ) (jss rows : List (List ℕ)) → Plan c cs roots jss rows → Has c cs roots rows
has_plan c cs roots jss rows a = subst (λ t. Plan c cs roots t rows) (sym (walks_are c cs roots jss rows a)) a

pub has_push : (c : ℕ) (cs roots : List ℕ) (rows : List (List ℕ)) → Has c cs roots rows → (i : ℕ) → i < length roots → (k : ℕ) → 1 ≤ k → k ≤ c → used_of cs k ≡ 0 → (p : List ℕ) → 1 ≤ length p → length p ≤ 30 → Before p (get_or rows i []) →
    Has c (put 32 cs (k - 1) (cell_of (get_or roots i 0) p)) (set roots i k) (set rows i (p ++ get_or rows i []))
has_push c cs roots rows a i h k lo hi z p pl ph b =
    has_plan c (put 32 cs (k - 1) (cell_of (get_or roots i 0) p)) (set roots i k) (set (chains_of c cs roots) i (k ∷ get_or (chains_of c cs roots) i [])) (set rows i (p ++ get_or rows i []))
    (plan_push c cs roots (chains_of c cs roots) rows a i h k lo hi (plan_unused c cs roots (chains_of c cs roots) rows a k z) p pl ph b)

-- the other chains lie where they lay
pub push_others : (c : ℕ) (cs roots : List ℕ) (rows : List (List ℕ)) → Has c cs roots rows → (i : ℕ) → i < length roots → (k : ℕ) → 1 ≤ k → k ≤ c → used_of cs k ≡ 0 → (p : List ℕ) → 1 ≤ length p → length p ≤ 30 → Before p (get_or rows i []) →
    set (chains_of c (put 32 cs (k - 1) (cell_of (get_or roots i 0) p)) (set roots i k)) i [] ≡ set (chains_of c cs roots) i []
push_others c cs roots rows a i h k lo hi z p pl ph b =
    ap (λ t. set t i []) (walks_are c (put 32 cs (k - 1) (cell_of (get_or roots i 0) p)) (set roots i k) (set (chains_of c cs roots) i (k ∷ get_or (chains_of c cs roots) i [])) (set rows i (p ++ get_or rows i []))
    (plan_push c cs roots (chains_of c cs roots) rows a i h k lo hi (plan_unused c cs roots (chains_of c cs roots) rows a k z) p pl ph b))
    ∙ set-set (chains_of c cs roots) i (k ∷ get_or (chains_of c cs roots) i []) []

-- a chain whose root is a cell begins with it
pub begins_with : (js : List ℕ) (k : ℕ) → first js ≡ k → 1 ≤ k → (rest : List ℕ) × (js ≡ k ∷ rest)
begins_with [] k e h = absurd (omega arith)
begins_with (j ∷ js) k e h = (js, ap (λ t. t ∷ js) e)

pub has_pop : (c : ℕ) (cs roots : List ℕ) (rows : List (List ℕ)) → Has c cs roots rows → (i : ℕ) → i < length roots → (k : ℕ) → get_or roots i 0 ≡ k → 1 ≤ k →
    Has c (put 32 cs (k - 1) (replicate 32 0)) (set roots i (next_of cs k)) (set rows i (drop 30 (get_or rows i [])))
has_pop c cs roots rows a i h k e lo =
    let b = begins_with (get_or (chains_of c cs roots) i []) k ((a.chains i h).starts ∙ e) lo in
    has_plan c (put 32 cs (k - 1) (replicate 32 0)) (set roots i (next_of cs k)) (set (chains_of c cs roots) i b.0) (set rows i (drop 30 (get_or rows i [])))
    (plan_pop c cs roots (chains_of c cs roots) rows a i h k b.0 b.1)

pub pop_others : (c : ℕ) (cs roots : List ℕ) (rows : List (List ℕ)) → Has c cs roots rows → (i : ℕ) → i < length roots → (k : ℕ) → get_or roots i 0 ≡ k → 1 ≤ k →
    set (chains_of c (put 32 cs (k - 1) (replicate 32 0)) (set roots i (next_of cs k))) i [] ≡ set (chains_of c cs roots) i []
pop_others c cs roots rows a i h k e lo =
    let b = begins_with (get_or (chains_of c cs roots) i []) k ((a.chains i h).starts ∙ e) lo in
    ap (λ t. set t i []) (walks_are c (put 32 cs (k - 1) (replicate 32 0)) (set roots i (next_of cs k)) (set (chains_of c cs roots) i b.0) (set rows i (drop 30 (get_or rows i [])))
    (plan_pop c cs roots (chains_of c cs roots) rows a i h k b.0 b.1))
    ∙ set-set (chains_of c cs roots) i b.0 []

pub has_inside : (c : ℕ) (cs roots : List ℕ) (rows : List (List ℕ)) → Has c cs roots rows → (i : ℕ) → i < length roots → (k : ℕ) → get_or roots i 0 ≡ k → 1 ≤ k → (k ≤ c) × (1 ≤ length (get_or rows i []))
has_inside c cs roots rows a i h k e lo =
    let l = a.chains i h in
    let b = begins_with (get_or (chains_of c cs roots) i []) k (l.starts ∙ e) lo in
    let n : length (get_or (chains_of c cs roots) i []) ≡ suc (length b.0) = ap (λ t. length t) b.1 in
    let g : get_or (get_or (chains_of c cs roots) i []) 0 0 ≡ k = ap (λ t. get_or t 0 0) b.1 in
    (omega (arith, (l.inside 0 (omega arith)).1), omega (arith, l.count))

-- where a root is 0, its row is empty
pub has_none : (c : ℕ) (cs roots : List ℕ) (rows : List (List ℕ)) → Has c cs roots rows → (i : ℕ) → i < length roots → get_or roots i 0 ≡ 0 → length (get_or rows i []) ≡ 0
has_none c cs roots rows a i h e = none_at (get_or (chains_of c cs roots) i []) (a.chains i h) where
  none_at : (js : List ℕ) → Lies c cs (get_or roots i 0) js (get_or rows i []) → length (get_or rows i []) ≡ 0
  none_at [] l = omega (arith, l.count)
  none_at (j ∷ js) l = absurd (omega (arith, (l.inside 0 (omega arith)).0, l.starts, e))

-- how much the rows cost is how many cells are on chains
pub cost_is : (c : ℕ) (cs roots : List ℕ) (jss rows : List (List ℕ)) → length jss ≡ length rows → ((i : ℕ) → i < length rows → length (get_or jss i []) ≡ chain_units (length (get_or rows i []))) → sum_by (λ js. length js) jss ≡ cost rows
cost_is c cs roots [] [] e h = refl
cost_is c cs roots [] (r ∷ rows) e h = absurd (omega arith)
cost_is c cs roots (js ∷ jss) [] e h = absurd (omega arith)
cost_is c cs roots (js ∷ jss) (r ∷ rows) e h =
    omega (arith, sum_by-cons (λ t. length t) js jss, sum_by-cons (λ t. chain_units (length t)) r rows, h 0 (omega arith), cost_is c cs roots jss rows (omega arith) (λ i q. h (suc i) (omega arith)))

pub has_cost : (c : ℕ) (cs roots : List ℕ) (rows : List (List ℕ)) → Has c cs roots rows → sum_by (λ js. length js) (chains_of c cs roots) ≡ cost rows
has_cost c cs roots rows a = cost_is c cs roots (chains_of c cs roots) rows (a.lists ∙ sym a.held) (λ i q. (a.chains i (omega (arith, a.held))).count)

-- where the rows cost less than there are cells, some cell holds nothing
pub has_free : (c : ℕ) (cs roots : List ℕ) (rows : List (List ℕ)) → Has c cs roots rows → cost rows < c → ((k : ℕ) → 1 ≤ k → k ≤ c → 1 ≤ used_of cs k) → ⊥
has_free c cs roots rows a h u = omega (arith, plan_full c cs roots (chains_of c cs roots) rows a u, has_cost c cs roots rows a)

pub cost_set : (rows : List (List ℕ)) (i : ℕ) (r : List ℕ) → i < length rows → cost (set rows i r) + chain_units (length (get_or rows i [])) ≡ cost rows + chain_units (length r)
cost_set rows i r h = sum_by-set (λ t. chain_units (length t)) rows i r [] h
