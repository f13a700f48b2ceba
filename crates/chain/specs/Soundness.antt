-- Well-formed memory keeps the limits of every device.
use Rattle.std.specs.Prelude.{◌≡◌, ℕ, zero, suc, ◌+◌, ◌*◌, ◌≤◌, List, length, slice_index, slice_index_or}
use Rattle.std.proofs.Common.{◌∙◌, arith}
use Rattle.std.proofs.Math.Logic.{∥∥₁_elim}
use mathlib.Core.HLevel.{×_prop}
use std.HLevel.{Π_prop}
use Rattle.std.proofs.Math.Bridge.{le_prop}
use Rattle.std.specs.Coded.{coded_ℕ, coded_list}
use denote.Struct.Props.{≡_prop}
use Rattle.std.proofs.lemmas.List.{length-map, length-take-le}
use Rattle.devices.specs.Limits.{Limits}
use Rattle.devices.specs.Slots.{Slot, nothing, row, Shape, RowFits, Sound}
use Rattle.chain.specs.Cells.{next_of, RightCell, RightChain, chain_from, row_in, Linked}
use Rattle.chain.specs.Memory.{heads_in, cells_in, slot_in, chain_held, chain_shape, WellFormed}

-- ---- memory is well formed in one way at most, so the truncation of that fact can be taken off

-- a cell is right in one way at most
right_cell_prop : (c : ℕ) (cs : List ℕ) (k : ℕ) → IsProp (RightCell c cs k)
right_cell_prop c cs k a b = λ i. record {
  high = le_prop a.high b.high i;
  least = le_prop a.least b.least i;
  most = le_prop a.most b.most i;
  full = Π_prop (λ n. ≡_prop coded_ℕ _ _) a.full b.full i;
  is = ≡_prop (coded_list coded_ℕ) _ _ a.is b.is i;
}

-- so is a chain
right_chain_prop : (c : ℕ) (cs : List ℕ) (f k : ℕ) → IsProp (RightChain c cs f k)
right_chain_prop c cs zero k = ≡_prop coded_ℕ _ _
right_chain_prop c cs (suc f) k = Π_prop (λ n. ×_prop (right_cell_prop c cs k) (right_chain_prop c cs f (next_of cs k)))

-- heads and cells are linked rightly in one way at most
linked_prop : (c : ℕ) (cs heads : List ℕ) → IsProp (Linked c cs heads)
linked_prop c cs heads a b = λ i. record {
  chains = Π_prop (λ j. Π_prop (λ h. right_chain_prop c cs c (slice_index heads j))) a.chains b.chains i;
  once = Π_prop (λ k. le_prop) a.once b.once i;
  clean = Π_prop (λ k. Π_prop (λ p. Π_prop (λ q. Π_prop (λ r. ≡_prop (coded_list coded_ℕ) _ _)))) a.clean b.clean i;
}

-- a slot is within the limits in one way at most
row_fits_prop : (s : Shape) (x : Slot) → IsProp (RowFits s x)
row_fits_prop s nothing a b = refl_unit where
  refl_unit : a ≡ b
  refl_unit = λ i. tt
row_fits_prop s (row r) a b = λ i. (le_prop a.0 b.0 i, le_prop a.1 b.1 i, Π_prop (λ j. le_prop) a.2 b.2 i)

-- so memory is well formed in one way at most
pub formed_prop : (s m c : ℕ) (memory : List ℕ) → IsProp (WellFormed s m c memory)
formed_prop s m c memory a b = λ i. record {
  linked = linked_prop c (cells_in s memory) (heads_in s memory) a.linked b.linked i;
  rows = Π_prop (λ j. Π_prop (λ h. row_fits_prop (chain_shape s m c) (slice_index_or (chain_held s c memory) j nothing))) a.rows b.rows i;
}

-- the fact itself, from the truncated one that a chain holds
pub untruncated : (s m c : ℕ) (memory : List ℕ) → ∥ WellFormed s m c memory ∥₁ → WellFormed s m c memory
untruncated s m c memory t = ∥∥₁_elim t (formed_prop s m c memory) (λ f. f)

-- ---- the limits

-- how many cells there may be: 1 to 255
abbrev pub CellLimits : ℕ → Type 0
CellLimits c = (1 ≤ c) × (c ≤ 255)

-- every chain keeps the limits of a device
pub chain_sound : (s m c : ℕ) (memory : List ℕ) → Limits s m → CellLimits c → length memory ≡ s + 32 * c → ∥ WellFormed s m c memory ∥₁ → Sound (chain_shape s m c) (chain_held s c memory)
chain_sound s m c memory l d n t = record {
  slots_low = l.0;
  slots_high = l.1;
  longest_low = l.2;
  longest_high = l.3;
  units_high = λ k lo hi. omega (arith, l.3);
  total_high = omega (arith, d.1);
  count = length-map _ slot_in ∙ (length-map _ (row_in (cells_in s memory)) ∙ (length-map (heads_in s memory) (chain_from (cells_in s memory) c) ∙ length-take-le s memory (omega arith)));
  rows = (untruncated s m c memory t).rows;
}
