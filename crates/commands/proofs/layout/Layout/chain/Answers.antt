use Rattle.std.proofs.Common.{rules, ◌≡◌, ℕ, ◌<◌, ◌^◌, List, [], ◌∷◌, map, length, get_or, Bor}
use Rattle.text.specs.Decimal.{Spells}
use Rattle.text.specs.Faults.{AtFault}
use Rattle.text.specs.declared.fault.Fault.{Fault}
use Rattle.text.specs.declared.fault.Fault.TheVariants.{Line, Declined, Memory}
use Rattle.commands.specs.Wording.{OfChain, CanBeHeld}
use Rattle.commands.specs.declared.layout.Layout.{Layout}
use Rattle.commands.specs.declared.layout.Layout.TheVariants.{Tray, Chain}
use Rattle.commands.proofs.layout.Layout.chain.Goals as goal

-- what is read past the last word
abbrev nothing : Bor (List ℕ)
nothing = record { ref_ptr = (0, 0); now = [] }

-- the third word spells no count of cells
no_cells : (dims : List (Bor (List ℕ))) → length dims ≡ 3 → ((n : ℕ) → n < 2 ^ 64 → Spells (get_or dims 2 nothing).now n → ⊥) →
    (l : Layout) → CanBeHeld l → OfChain (map (λ w. w.now) dims) l → ⊥
no_cells dims long h (Tray l) held m = m
no_cells [] long h (Chain l) held m = m
no_cells (a ∷ []) long h (Chain l) held m = m
no_cells (a ∷ (b ∷ [])) long h (Chain l) held m = m
no_cells (a ∷ (b ∷ (c ∷ []))) long h (Chain l) held m = h l.cells held.2 m.2
no_cells (a ∷ (b ∷ (c ∷ (d ∷ more)))) long h (Chain l) held m = m

-- a fault for one reason, by which another holds
fault_for : (fault : Fault) {P Q : Type 0} → (P → Q) → AtFault fault P → AtFault fault Q
fault_for (Line wrong) f p = f p
fault_for (Declined why) f p = p
fault_for Memory f p = p

pub returns-in_err-number-in-len3-3 : goal.returns-in_err-number-in-len3-3
returns-in_err-number-in-len3-3 c =
    let dims = c.args.dims.now in
    let long : length dims ≡ 3 = search rules in
    search (rules, fault_for c.in_err-number-in-len3-3.field-0.0 (no_cells dims long))
