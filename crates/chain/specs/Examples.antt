-- Worked examples of what rows cost on a chain, and of room.
use Rattle.std.specs.Prelude.{◌≡◌, ℕ, ◌≤◌, List, [], ◌∷◌, length, Ok, Err}
use Rattle.base.specs.declared.refusals.Refusal.TheVariants.{NoRoom}
use Rattle.devices.specs.Slots.{Slot, row}
use Rattle.devices.specs.Answers.{write_answer, clear_answer, held_after_clear}
use Rattle.chain.specs.Memory.{chain_shape}

-- two slots with rows in them
abbrev pub two_rows : List ℕ → List ℕ → List Slot
two_rows first second = row first ∷ row second ∷ []

-- what they hold once slot 1 was cleared
abbrev pub after_clear : ℕ → List ℕ → List ℕ → List Slot
after_clear m first second = held_after_clear (clear_answer (chain_shape 2 m 2) (two_rows first second) 1) (two_rows first second) 1

-- the examples, for every number of slots, longest row and number of cells that they leave open
pub record ChainExamples : Type 0 where
  -- rows of 30, 31 and 1,000 bytes cost 1, 2 and 34 units
  pub thirty : (s m c : ℕ) → (chain_shape s m c).units 30 ≡ 1
  pub thirty_one : (s m c : ℕ) → (chain_shape s m c).units 31 ≡ 2
  pub thousand : (s m c : ℕ) → (chain_shape s m c).units 1000 ≡ 34
  -- on two cells, with rows of 30 and 16 bytes in slots 0 and 1, there is no room for 31 bytes in slot 0
  pub no_room_for_both : (m : ℕ) → 31 ≤ m → (first second : List ℕ) → length first ≡ 30 → length second ≡ 16 → write_answer (chain_shape 2 m 2) (two_rows first second) 0 31 ≡ Err NoRoom
  -- and there is once slot 1 was cleared
  pub room_after_clear : (m : ℕ) → 31 ≤ m → (first second : List ℕ) → length first ≡ 30 → length second ≡ 16 → write_answer (chain_shape 2 m 2) (after_clear m first second) 0 31 ≡ Ok 0
