-- The part of the memory that is a slot's cell, and what it says.
use Rattle.std.proofs.Common.{◌≡◌, ℕ, ◌+◌, ◌-◌, ◌*◌, ◌<◌, true, List, length, get_or, take, drop, sym, ap, ◌∙◌, arith}
use Rattle.devices.specs.Slots.{nothing}
use Rattle.tray.specs.Layout.{slot_of, cell_at, cell_formed, tray_held, cells_formed}
use Rattle.tray.specs.Soundness.{cell_long, held_at, formed_at}

module _ (s m : ℕ) (memory : List ℕ) (i from to : ℕ) (h : i < s) (e : from ≡ i * (2 + m)) (f : to ≡ i * (2 + m) + (2 + m)) where
  part : take (to - from) (drop from memory) ≡ cell_at m memory i
  part = let w : to - from ≡ 2 + m = omega arith in ap (λ (n : ℕ). take n (drop from memory)) w ∙ ap (λ (n : ℕ). take (2 + m) (drop n memory)) e

  pub part_formed : length memory ≡ s * (2 + m) → cells_formed s m memory ≡ true →
      cell_formed (length (take (to - from) (drop from memory)) - 2) (take (to - from) (drop from memory)) ≡ true
  part_formed l ok =
      let w : length (cell_at m memory i) - 2 ≡ m = omega (arith, cell_long s m memory l i h) in
      ap (λ (cell : List ℕ). cell_formed (length cell - 2) cell) part ∙ ap (λ (n : ℕ). cell_formed n (cell_at m memory i)) w ∙ formed_at s m memory ok i h

  pub part_slot : slot_of (take (to - from) (drop from memory)) ≡ get_or (tray_held s m memory) i nothing
  part_slot = ap slot_of part ∙ sym (held_at s m memory i h)
