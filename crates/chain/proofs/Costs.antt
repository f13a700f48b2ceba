-- What rows on chains cost.
use Rattle.std.proofs.Common.{◌≡◌, ℕ, ◌+◌, ◌<◌, ◌≤◌, List, [], ◌∷◌, map, length, get_or, take, set, sym, refl, ap, ◌∙◌, subst, arith}
use Rattle.std.proofs.lemmas.List.{map-set, length-set, get_or-set_same, get_or-set_other, take_all}
use Rattle.std.proofs.lemmas.List.Sums.{sum_by-cons, sum_by_more}
use Rattle.devices.specs.Slots.{units_in, units_held, units_of_others}
use Rattle.chain.specs.Cells.{chain_units}
use Rattle.chain.specs.Memory.{rows_in, slot_in, chain_held, chain_shape, RowPut}
use Rattle.chain.proofs.Has.{cost}

slot_cost : (s m c : ℕ) (r : List ℕ) → units_in (chain_shape s m c) (slot_in r) ≡ chain_units (length r)
slot_cost s m c [] = refl
slot_cost s m c (x ∷ r) = refl

pub held_cost : (s m c : ℕ) (rows : List (List ℕ)) → units_held (chain_shape s m c) (map slot_in rows) ≡ cost rows
held_cost s m c [] = refl
held_cost s m c (r ∷ rows) = omega (arith, sum_by-cons (units_in (chain_shape s m c)) (slot_in r) (map slot_in rows), sum_by-cons (λ t. chain_units (length t)) r rows, slot_cost s m c r, held_cost s m c rows)

pub others_cost : (s m c : ℕ) (b : List ℕ) (i : ℕ) → units_of_others (chain_shape s m c) (chain_held s c b) i ≡ cost (set (rows_in s c b) i [])
others_cost s m c b i = ap (units_held (chain_shape s m c)) (sym (map-set slot_in (rows_in s c b) i [])) ∙ held_cost s m c (set (rows_in s c b) i [])

-- a slot more in the sum over the others
pub sum_other : (rows : List (List ℕ)) (slot i sum n : ℕ) → i < length rows → sum ≡ cost (take i (set rows slot [])) → (i ≡ slot → ⊥) → n ≡ chain_units (length (get_or rows i [])) → sum + n ≡ cost (take (i + 1) (set rows slot []))
sum_other rows slot i sum n h e ne u =
    let m = sum_by_more (λ t. chain_units (length t)) (set rows slot []) i [] (omega (arith, length-set rows slot [])) in
    let g : chain_units (length (get_or (set rows slot []) i [])) ≡ chain_units (length (get_or rows i [])) = ap (λ t. chain_units (length t)) (get_or-set_other rows slot i [] [] ne) in
    omega arith

pub sum_own : (rows : List (List ℕ)) (slot i sum : ℕ) → i < length rows → sum ≡ cost (take i (set rows slot [])) → i ≡ slot → sum ≡ cost (take (i + 1) (set rows slot []))
sum_own rows slot i sum h e q =
    let m = sum_by_more (λ t. chain_units (length t)) (set rows slot []) i [] (omega (arith, length-set rows slot [])) in
    let g : chain_units (length (get_or (set rows slot []) i [])) ≡ 0 = rw q (ap (λ t. chain_units (length t)) (get_or-set_same rows slot [] [] (subst (λ t. t < length rows) q h))) in
    omega arith

pub sum_all : (rows : List (List ℕ)) (slot i sum : ℕ) → length rows ≤ i → sum ≡ cost (take i (set rows slot [])) → sum ≡ cost (set rows slot [])
sum_all rows slot i sum h e = e ∙ ap cost (take_all i (set rows slot []) (omega (arith, length-set rows slot [])))

-- after a slot's row is taken away, what is held costs what the others did
pub released_cost : (s m c slot : ℕ) (before after : List ℕ) → RowPut s c slot [] before after → units_held (chain_shape s m c) (chain_held s c after) ≡ units_of_others (chain_shape s m c) (chain_held s c before) slot
released_cost s m c slot before after a = ap (λ t. units_held (chain_shape s m c) (map slot_in t)) a.rows ∙ ap (units_held (chain_shape s m c)) (map-set slot_in (rows_in s c before) slot [])
