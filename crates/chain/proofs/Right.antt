-- A chain that is right, as a walk finds it.
use Rattle.std.proofs.Common.{◌≡◌, ℕ, zero, suc, ◌+◌, ◌-◌, ◌≤◌, eqb, List, [], ◌∷◌, ◌++◌, map, length, get_or, take, drop, count_by, sym, refl, ap, ◌∙◌, subst, inl, inr, ⊎_elim, arith}
use Rattle.std.proofs.lemmas.List.{length-append, length-take, length-drop}
use Rattle.std.proofs.lemmas.Bool.{cases_eq, ne_eqb, eq-eqb}
use Rattle.chain.specs.Cells.{cell, next_of, used_of, piece_of, chain_from, row_in, cell_of, chain_units, RightCell, RightChain}
use Rattle.chain.proofs.Laid.{first, layout, Lies}
use Rattle.chain.proofs.Plans.{here, count_cons, Before, front, units_front, inside_cons}
use Rattle.chain.proofs.Walks.{first_cell, other_cells, first_next, first_used, first_piece}

-- a cell in front of a chain, in the same memory
lies_cons : (c : ℕ) (cs : List ℕ) (k root : ℕ) (js r p : List ℕ) → 1 ≤ k → k ≤ c → cell cs k ≡ cell_of root p → 1 ≤ length p → length p ≤ 30 → Before p r → Lies c cs root js r → Lies c cs k (k ∷ js) (p ++ r)
lies_cons c cs k root js r p lo hi x pl ph b a =
    let f = front p r ph b in
    let u : cell_of (first js) (take 30 (p ++ r)) ≡ cell_of root p = ap (λ t. cell_of (first js) t) f.0 ∙ ap (λ t. cell_of t p) a.starts in
    let v : layout js (drop 30 (p ++ r)) ≡ layout js r = ap (layout js) f.1 in
    record {
      starts = refl;
      cells = ap (λ t. t ∷ map (cell cs) js) (x ∙ sym u) ∙ ap (λ t. cell_of (first js) (take 30 (p ++ r)) ∷ t) (a.cells ∙ sym v);
      count = units_front p r (length js) pl ph b a.count;
      inside = inside_cons c k js lo hi a.inside;
    }

pub piece_length : (c : ℕ) (cs : List ℕ) (k : ℕ) → RightCell c cs k → length (piece_of cs k) ≡ used_of cs k
piece_length c cs k g = sym (ap (λ t. get_or t 1 0) g.is)

walk_zero : (cs : List ℕ) (f : ℕ) → chain_from cs f 0 ≡ []
walk_zero cs zero = refl
walk_zero cs (suc f) = refl

pub right_lies : (c : ℕ) (cs : List ℕ) (f k : ℕ) → RightChain c cs f k → Lies c cs k (chain_from cs f k) (row_in cs (chain_from cs f k))
right_lies c cs zero k g = record { starts = sym g; cells = refl; count = refl; inside = λ p q. absurd (omega arith) }
right_lies c cs (suc f) k g = ⊎_elim
    (λ z. rw (eq-eqb k 0 z) (record { starts = sym z; cells = refl; count = refl; inside = λ p q. absurd (omega arith) }))
    (λ ne.
    let h = g ne in
    let n = next_of cs k in
    let pl = piece_length c cs k h.0 in
    let b : Before (piece_of cs k) (row_in cs (chain_from cs f n)) = ⊎_elim (λ z. inr (ap (λ t. row_in cs (chain_from cs f t)) z ∙ ap (row_in cs) (walk_zero cs f))) (λ e. inl (pl ∙ h.0.full e)) (cases_eq n 0) in
    rw (ne_eqb k 0 ne) (lies_cons c cs k n (chain_from cs f n) (row_in cs (chain_from cs f n)) (piece_of cs k) (omega (arith, ne)) h.0.high h.0.is (omega (arith, h.0.least)) (omega (arith, h.0.most)) b (right_lies c cs f n h.1)))
    (cases_eq k 0)

right_first : (c : ℕ) (cs : List ℕ) (k : ℕ) (js r : List ℕ) → Lies c cs k (k ∷ js) r → RightCell c cs k
right_first c cs k js r a =
    let u = first_used cs k js r a.cells in
    let n = first_next cs k js r a.cells in
    let l = length-take 30 r in
    record {
      high = (a.inside 0 (omega arith)).1;
      least = omega (arith, a.count);
      most = omega arith;
      full = last_or js n a.count;
      is = first_cell cs k js r a.cells ∙ ap (λ t. cell_of t (take 30 r)) (sym n) ∙ ap (λ t. cell_of (next_of cs k) t) (sym (first_piece cs k js r a.cells));
    } where
      last_or : (is : List ℕ) → next_of cs k ≡ first is → suc (length is) ≡ chain_units (length r) → (next_of cs k ≡ 0 → ⊥) → used_of cs k ≡ 30
      last_or [] e q ne = absurd (ne e)
      last_or (i ∷ is) e q ne = omega (arith, first_used cs k js r a.cells, length-take 30 r)

tail_lies : (c : ℕ) (cs : List ℕ) (k : ℕ) (js r : List ℕ) → Lies c cs k (k ∷ js) r → Lies c cs (next_of cs k) js (drop 30 r)
tail_lies c cs k js r a = record {
  starts = sym (first_next cs k js r a.cells);
  cells = other_cells cs k js r a.cells;
  count = omega (arith, a.count, length-drop 30 r);
  inside = λ p q. a.inside (suc p) (omega arith);
}

pub lies_right : (c : ℕ) (cs : List ℕ) (f k : ℕ) (js r : List ℕ) → length js ≤ f → Lies c cs k js r → RightChain c cs f k
lies_right c cs zero k [] r l a = sym a.starts
lies_right c cs zero k (j ∷ js) r l a = absurd (omega arith)
lies_right c cs (suc f) k [] r l a = λ ne. absurd (ne (sym a.starts))
lies_right c cs (suc f) k (j ∷ js) r l a = λ ne.
    let b : Lies c cs k (k ∷ js) r = subst (λ t. Lies c cs k (t ∷ js) r) a.starts a in
    (right_first c cs k js r b, lies_right c cs f (next_of cs k) js (drop 30 r) (omega arith) (tail_lies c cs k js r b))

pub walk_short : (cs : List ℕ) (f k : ℕ) → length (chain_from cs f k) ≤ f
walk_short cs zero k = omega arith
walk_short cs (suc f) k = ⊎_elim
    (λ z. rw (eq-eqb k 0 z) (omega arith))
    (λ ne. rw (ne_eqb k 0 ne) (omega (arith, walk_short cs f (next_of cs k))))
    (cases_eq k 0)

-- one turn of the walk
pub right_more : (c : ℕ) (cs : List ℕ) (f k : ℕ) → 1 ≤ f → (k ≡ 0 → ⊥) → RightChain c cs f k → RightCell c cs k × RightChain c cs (f - 1) (next_of cs k)
right_more c cs zero k h ne g = absurd (omega arith)
right_more c cs (suc f) k h ne g = let e : suc f - 1 ≡ f = omega arith in rw e (g ne)

pub right_less : (c : ℕ) (cs : List ℕ) (f k : ℕ) → 1 ≤ f → RightCell c cs k → RightChain c cs (f - 1) (next_of cs k) → RightChain c cs f k
right_less c cs zero k h g t = absurd (omega arith)
right_less c cs (suc f) k h g t = let e : suc f - 1 ≡ f = omega arith in λ ne. (g, rw e at t)

pub row_more : (c : ℕ) (cs : List ℕ) (f k : ℕ) → 1 ≤ f → (k ≡ 0 → ⊥) → RightCell c cs k → length (row_in cs (chain_from cs f k)) ≡ used_of cs k + length (row_in cs (chain_from cs (f - 1) (next_of cs k)))
row_more c cs zero k h ne g = absurd (omega arith)
row_more c cs (suc f) k h ne g =
    let e : suc f - 1 ≡ f = omega arith in
    rw (ne_eqb k 0 ne, e) (length-append (piece_of cs k) (row_in cs (chain_from cs f (next_of cs k))) ∙ rw (piece_length c cs k g) refl)

pub row_none : (cs : List ℕ) (f k : ℕ) → k ≡ 0 → length (row_in cs (chain_from cs f k)) ≡ 0
row_none cs f k z = ap (λ t. length (row_in cs (chain_from cs f t))) z ∙ ap (λ t. length (row_in cs t)) (walk_zero cs f)

pub right_none : (c : ℕ) (cs : List ℕ) (f k : ℕ) → k ≡ 0 → RightChain c cs f k
right_none c cs zero k z = z
right_none c cs (suc f) k z = λ ne. absurd (ne z)

pub count_more : (cs : List ℕ) (j f k : ℕ) → 1 ≤ f → (k ≡ 0 → ⊥) → count_by (eqb j) (chain_from cs f k) ≡ here j k + count_by (eqb j) (chain_from cs (f - 1) (next_of cs k))
count_more cs j zero k h ne = absurd (omega arith)
count_more cs j (suc f) k h ne = let e : suc f - 1 ≡ f = omega arith in rw (ne_eqb k 0 ne, e) (count_cons j k (chain_from cs f (next_of cs k)))

pub count_zero : (cs : List ℕ) (j f k : ℕ) → k ≡ 0 → count_by (eqb j) (chain_from cs f k) ≡ 0
count_zero cs j f k z = ap (λ t. count_by (eqb j) (chain_from cs f t)) z ∙ ap (λ t. count_by (eqb j) t) (walk_zero cs f)
