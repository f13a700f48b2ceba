-- Lemmas on plans.
use Rattle.std.proofs.Common.{◌≡◌, ℕ, zero, suc, ◌+◌, ◌-◌, ◌*◌, ◌<◌, ◌≤◌, cond, eqb, ◌⊎◌, List, [], ◌∷◌, ◌++◌, map, length, get_or, take, drop, set, replicate, count_by, sym, refl, ap, ◌∙◌, subst, inl, inr, ⊎_elim, arith}
use Rattle.std.proofs.lemmas.List.{take_at, drop_at, take_all, drop_all, length-append, append-nil, length-drop, length-replicate, length-set, get_or-set_same, get_or-set_other}
use Rattle.std.proofs.lemmas.List.Sums.{sum_by-cons, sum_by-set, get_or-le-sum_by}
use Rattle.std.proofs.lemmas.Bool.{cases_eq, eq-eqb, ne_eqb}
use Rattle.chain.proofs.Parts.{put, length-put, part_same, part-other}
use Rattle.chain.specs.Cells.{cell, next_of, cell_of, chain_units, times_on}
use Rattle.chain.proofs.Laid.{first, layout, Lies, Plan}

-- ---- counting

abbrev pub here : ℕ → ℕ → ℕ
here k j = cond (eqb k j) 1 0

pub count_cons : (k j : ℕ) (js : List ℕ) → count_by (eqb k) (j ∷ js) ≡ here k j + count_by (eqb k) js
count_cons k j js = sum_by-cons (λ x. cond (eqb k x) 1 0) j js

pub here_same : (k : ℕ) → here k k ≡ 1
here_same k = rw (eq-eqb k k refl) refl

pub here_other : (k j : ℕ) → (k ≡ j → ⊥) → here k j ≡ 0
here_other k j ne = rw (ne_eqb k j ne) refl

-- a cell that is on no chain of a list is none of its members
pub apart : (k j : ℕ) (js : List ℕ) → count_by (eqb k) (j ∷ js) ≡ 0 → (j ≡ k → ⊥) × (count_by (eqb k) js ≡ 0)
apart k j js e =
    let s = count_cons k j js in
    ((λ q. let w : here k j ≡ 1 = rw q (here_same k) in omega arith), omega arith)

pub on_one : (k : ℕ) (jss : List (List ℕ)) (i : ℕ) → i < length jss → count_by (eqb k) (get_or jss i []) ≤ times_on k jss
on_one k jss i h = get_or-le-sum_by (λ js. count_by (eqb k) js) jss i [] h

pub times_set : (k : ℕ) (jss : List (List ℕ)) (i : ℕ) (js : List ℕ) → i < length jss → times_on k (set jss i js) + count_by (eqb k) (get_or jss i []) ≡ times_on k jss + count_by (eqb k) js
times_set k jss i js h = sum_by-set (λ t. count_by (eqb k) t) jss i js [] h

-- ---- cells

pub length_cell : (n : ℕ) (p : List ℕ) → length p ≤ 30 → length (cell_of n p) ≡ 32
length_cell n p h = omega (arith, length-append p (replicate (30 - length p) 0), length-replicate {A = ℕ} (30 - length p) 0)

module _ (c : ℕ) (cs : List ℕ) (size : length cs ≡ c * 32) (k : ℕ) (lo : 1 ≤ k) (hi : k ≤ c) (new : List ℕ) (l : length new ≡ 32) where
  pub cell_same : cell (put 32 cs (k - 1) new) k ≡ new
  cell_same = part_same 32 c cs size (k - 1) (omega arith) new l

  pub cell_other : (j : ℕ) → 1 ≤ j → (j ≡ k → ⊥) → cell (put 32 cs (k - 1) new) j ≡ cell cs j
  cell_other j p ne = part-other 32 c cs size (k - 1) (omega arith) new l (j - 1) (λ e. ne (omega arith))

  pub cells_other : (js : List ℕ) → ((p : ℕ) → p < length js → (1 ≤ get_or js p 0) × (get_or js p 0 ≤ c)) → count_by (eqb k) js ≡ 0 → map (cell (put 32 cs (k - 1) new)) js ≡ map (cell cs) js
  cells_other [] r e = refl
  cells_other (j ∷ js) r e =
      let a = apart k j js e in
      let h : cell (put 32 cs (k - 1) new) j ≡ cell cs j = cell_other j (r 0 (omega arith)).0 a.0 in
      let t : map (cell (put 32 cs (k - 1) new)) js ≡ map (cell cs) js = cells_other js (λ p q. r (suc p) (omega arith)) a.1 in
      cc

  pub lies_other : (root : ℕ) (js r : List ℕ) → count_by (eqb k) js ≡ 0 → Lies c cs root js r → Lies c (put 32 cs (k - 1) new) root js r
  lies_other root js r e a = record {
    starts = a.starts;
    cells = cells_other js a.inside e ∙ a.cells;
    count = a.count;
    inside = a.inside;
  }

-- ---- one chain: a piece in front, and the first piece away

pub inside_cons : (c k : ℕ) (js : List ℕ) → 1 ≤ k → k ≤ c → ((p : ℕ) → p < length js → (1 ≤ get_or js p 0) × (get_or js p 0 ≤ c)) → (p : ℕ) → p < length (k ∷ js) → (1 ≤ get_or (k ∷ js) p 0) × (get_or (k ∷ js) p 0 ≤ c)
inside_cons c k js lo hi h zero q = (lo, hi)
inside_cons c k js lo hi h (suc p) q = h p (omega arith)

-- a piece may stand before a row: it is full, or the row is empty
abbrev pub Before : List ℕ → List ℕ → Type 0
Before p r = (length p ≡ 30) ⊎ (r ≡ [])

pub front : (p r : List ℕ) → length p ≤ 30 → Before p r → (take 30 (p ++ r) ≡ p) × (drop 30 (p ++ r) ≡ r)
front p r h (inl e) = (take_at p r 30 e, drop_at p r 30 e)
front p r h (inr e) = rw (e, append-nil p) (take_all 30 p h, drop_all 30 p h)

pub units_front : (p r : List ℕ) (n : ℕ) → 1 ≤ length p → length p ≤ 30 → Before p r → n ≡ chain_units (length r) → suc n ≡ chain_units (length (p ++ r))
units_front p r n lo hi (inl e) h = let a = length-append p r in omega arith
units_front p r n lo hi (inr e) h = let a = length-append p r in let z : length r ≡ 0 = ap length e in omega arith

module _ (c : ℕ) (cs : List ℕ) (size : length cs ≡ c * 32) (k : ℕ) (lo : 1 ≤ k) (hi : k ≤ c) where
  pub lies_push : (root : ℕ) (js r p : List ℕ) → Lies c cs root js r → count_by (eqb k) js ≡ 0 → 1 ≤ length p → length p ≤ 30 → Before p r → Lies c (put 32 cs (k - 1) (cell_of root p)) k (k ∷ js) (p ++ r)
  lies_push root js r p a e pl ph b =
      let cs' = put 32 cs (k - 1) (cell_of root p) in
      let f = front p r ph b in
      let l = length_cell root p ph in
      let x : cell cs' k ≡ cell_of root p = cell_same c cs size k lo hi (cell_of root p) l in
      let y : map (cell cs') js ≡ layout js r = cells_other c cs size k lo hi (cell_of root p) l js a.inside e ∙ a.cells in
      let u : cell_of (first js) (take 30 (p ++ r)) ≡ cell_of root p = ap (λ t. cell_of (first js) t) f.0 ∙ ap (λ t. cell_of t p) a.starts in
      let v : layout js (drop 30 (p ++ r)) ≡ layout js r = ap (layout js) f.1 in
      record {
        starts = refl;
        cells = ap (λ t. t ∷ map (cell cs') js) (x ∙ sym u) ∙ ap (λ t. cell_of (first js) (take 30 (p ++ r)) ∷ t) (y ∙ sym v);
        count = units_front p r (length js) pl ph b a.count;
        inside = inside_cons c k js lo hi a.inside;
      }

  pub lies_next : (root : ℕ) (js r : List ℕ) → Lies c cs root (k ∷ js) r → first js ≡ next_of cs k
  lies_next root js r a = let h : cell cs k ≡ cell_of (first js) (take 30 r) = cc in sym (ap (λ t. get_or t 0 0) h)

  pub lies_pop : (root : ℕ) (js r : List ℕ) → Lies c cs root (k ∷ js) r → count_by (eqb k) js ≡ 0 → Lies c (put 32 cs (k - 1) (replicate 32 0)) (next_of cs k) js (drop 30 r)
  lies_pop root js r a e =
      let t : map (cell cs) js ≡ layout js (drop 30 r) = cc in
      record {
        starts = lies_next root js r a;
        cells = cells_other c cs size k lo hi (replicate 32 0) refl js (λ p q. a.inside (suc p) (omega arith)) e ∙ t;
        count = omega (arith, length-drop 30 r, a.count);
        inside = λ p q. a.inside (suc p) (omega arith);
      }

-- ---- the whole

-- a free cell is taken for a piece in front of chain i
pub plan_push : (c : ℕ) (cs roots : List ℕ) (jss rows : List (List ℕ)) → Plan c cs roots jss rows → (i : ℕ) → i < length roots → (k : ℕ) → 1 ≤ k → k ≤ c → times_on k jss ≡ 0 → (p : List ℕ) → 1 ≤ length p → length p ≤ 30 → Before p (get_or rows i []) →
    Plan c (put 32 cs (k - 1) (cell_of (get_or roots i 0) p)) (set roots i k) (set jss i (k ∷ get_or jss i [])) (set rows i (p ++ get_or rows i []))
plan_push c cs roots jss rows a i h k lo hi none p pl ph b =
    let root = get_or roots i 0 in
    let js = get_or jss i [] in
    let r = get_or rows i [] in
    let new = cell_of root p in
    let l = length_cell root p ph in
    let ij : i < length jss = omega (arith, a.lists) in
    let ir : i < length rows = omega (arith, a.held) in
    let off : (j : ℕ) → j < length jss → count_by (eqb k) (get_or jss j []) ≡ 0 = λ j q. omega (arith, on_one k jss j q) in
    let at : Lies c (put 32 cs (k - 1) new) k (k ∷ js) (p ++ r) = lies_push c cs a.size k lo hi root js r p (a.chains i h) (off i ij) pl ph b in
    record {
      size = length-put 32 c cs a.size (k - 1) (omega arith) new l ∙ a.size;
      lists = length-set jss i (k ∷ js) ∙ a.lists ∙ sym (length-set roots i k);
      held = length-set rows i (p ++ r) ∙ a.held ∙ sym (length-set roots i k);
      chains = λ j q.
          let jr : j < length roots = omega (arith, length-set roots i k) in
          ⊎_elim
          (λ e. rw e (rw (get_or-set_same roots i k 0 h, get_or-set_same jss i (k ∷ js) [] ij, get_or-set_same rows i (p ++ r) [] ir) at))
          (λ ne. rw (get_or-set_other roots i j k 0 ne, get_or-set_other jss i j (k ∷ js) [] ne, get_or-set_other rows i j (p ++ r) [] ne)
          (lies_other c cs a.size k lo hi new l (get_or roots j 0) (get_or jss j []) (get_or rows j []) (off j (omega (arith, a.lists))) (a.chains j jr)))
          (cases_eq j i);
      once = λ n.
          let s = times_set n jss i (k ∷ js) ij in
          let t = count_cons n k js in
          ⊎_elim
          (λ e. let z : times_on n jss ≡ 0 = rw e none in let w : here n k ≡ 1 = rw e (here_same k) in omega arith)
          (λ ne. let w = here_other n k ne in omega (arith, a.once n))
          (cases_eq n k);
      free = λ n x y z.
          let s = times_set n jss i (k ∷ js) ij in
          let t = count_cons n k js in
          let ne : n ≡ k → ⊥ = λ e. (let w : here n k ≡ 1 = rw e (here_same k) in omega arith) in
          cell_other c cs a.size k lo hi new l n x ne ∙ a.free n x y (omega arith);
    }

-- the first cell of chain i is given back
pub plan_pop : (c : ℕ) (cs roots : List ℕ) (jss rows : List (List ℕ)) → Plan c cs roots jss rows → (i : ℕ) → i < length roots → (k : ℕ) (js : List ℕ) → get_or jss i [] ≡ k ∷ js →
    Plan c (put 32 cs (k - 1) (replicate 32 0)) (set roots i (next_of cs k)) (set jss i js) (set rows i (drop 30 (get_or rows i [])))
plan_pop c cs roots jss rows a i h k js is =
    let root = get_or roots i 0 in
    let r = get_or rows i [] in
    let new : List ℕ = replicate 32 0 in
    let ij : i < length jss = omega (arith, a.lists) in
    let ir : i < length rows = omega (arith, a.held) in
    let was : Lies c cs root (k ∷ js) r = subst (λ t. Lies c cs root t r) is (a.chains i h) in
    let lo : 1 ≤ k = (was.inside 0 (omega arith)).0 in
    let hi : k ≤ c = (was.inside 0 (omega arith)).1 in
    let sum : count_by (eqb k) (get_or jss i []) ≡ 1 + count_by (eqb k) js = ap (λ t. count_by (eqb k) t) is ∙ count_cons k k js ∙ rw (here_same k) refl in
    let rest : count_by (eqb k) js ≡ 0 = omega (arith, on_one k jss i ij, a.once k) in
    let off : (j : ℕ) → j < length jss → (j ≡ i → ⊥) → count_by (eqb k) (get_or jss j []) ≡ 0 = λ j q ne.
    (let s = times_set k jss i [] ij in
    let o = on_one k (set jss i []) j (omega (arith, length-set jss i [])) in
    let g : count_by (eqb k) (get_or (set jss i []) j []) ≡ count_by (eqb k) (get_or jss j []) = ap (λ t. count_by (eqb k) t) (get_or-set_other jss i j [] [] ne) in
    omega (arith, a.once k)) in
    let at = lies_pop c cs a.size k lo hi root js r was rest in
    record {
      size = length-put 32 c cs a.size (k - 1) (omega arith) new refl ∙ a.size;
      lists = length-set jss i js ∙ a.lists ∙ sym (length-set roots i (next_of cs k));
      held = length-set rows i (drop 30 r) ∙ a.held ∙ sym (length-set roots i (next_of cs k));
      chains = λ j q.
          let jr : j < length roots = omega (arith, length-set roots i (next_of cs k)) in
          ⊎_elim
          (λ e. rw e (rw (get_or-set_same roots i (next_of cs k) 0 h, get_or-set_same jss i js [] ij, get_or-set_same rows i (drop 30 r) [] ir) at))
          (λ ne. rw (get_or-set_other roots i j (next_of cs k) 0 ne, get_or-set_other jss i j js [] ne, get_or-set_other rows i j (drop 30 r) [] ne)
          (lies_other c cs a.size k lo hi new refl (get_or roots j 0) (get_or jss j []) (get_or rows j []) (off j (omega (arith, a.lists)) ne) (a.chains j jr)))
          (cases_eq j i);
      once = λ n.
          let s = times_set n jss i js ij in
          let t : count_by (eqb n) (get_or jss i []) ≡ here n k + count_by (eqb n) js = ap (λ t. count_by (eqb n) t) is ∙ count_cons n k js in
          omega (arith, a.once n);
      free = λ n x y z.
          let s = times_set n jss i js ij in
          let t : count_by (eqb n) (get_or jss i []) ≡ here n k + count_by (eqb n) js = ap (λ t. count_by (eqb n) t) is ∙ count_cons n k js in
          ⊎_elim
          (λ e. rw e (cell_same c cs a.size k lo hi new refl))
          (λ ne. let w = here_other n k ne in cell_other c cs a.size k lo hi new refl n x ne ∙ a.free n x y (omega arith))
          (cases_eq n k);
    }
