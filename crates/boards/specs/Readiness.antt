-- What keys and label ready for use are, and the rows of a board.
use Rattle.std.specs.Prelude.{◌≡◌, ℕ, List, Ok, Err, Result}
use Rattle.base.specs.declared.refusals.Refusal.{Refusal}
use Rattle.ciphers.specs.declared.cipher.BlockCipher.{Ghosts as Cipher}
use Rattle.mode.specs.Keys.{bundle_of}
use Rattle.devices.specs.Slots.{Slot}
use Rattle.boards.specs.declared.ready.Ready.{Ready}
use Rattle.boards.specs.Through.{through, keeping_length}
use Rattle.boards.specs.Contexts.{padded_label}
use Rattle.boards.specs.Modes.{opening_answer, sealed_row, opened_row}

-- the bundle that the keys were made from
abbrev pub bundle_in : {C : Type 0} → Cipher C → Ready C → List ℕ
bundle_in c ready = bundle_of c.key_of ready.keys

-- ready with this bundle and this label, which is kept padded
pub record ReadyWith {C : Type 0} (c : Cipher C) (ready : Ready C) (bundle label : List ℕ) : Type 0 where
  pub bundle_kept : bundle_in c ready ≡ bundle
  pub label_kept : ready.label.bytes ≡ padded_label label

-- what preparing may answer: keys and label ready for use where the opening is accepted, else why it is not
abbrev pub Prepared : {C : Type 0} → Cipher C → List ℕ → List ℕ → Result (Ready C) Refusal → Type 0
Prepared c bundle label (Ok ready) = (opening_answer c.key_length bundle label ≡ Ok 0) × ReadyWith c ready bundle label
Prepared c bundle label (Err why) = opening_answer c.key_length bundle label ≡ Err why

-- the sealed form of a row in a slot, and the opened form of what a slot holds, by keys and label ready for use; padding
-- the label again changes nothing, so these are the forms under the label itself
abbrev pub sealed_by : {C : Type 0} → Cipher C → Ready C → ℕ → List ℕ → List ℕ
sealed_by c ready = sealed_row c (bundle_in c ready) ready.label.bytes

abbrev pub opened_by : {C : Type 0} → Cipher C → Ready C → ℕ → List ℕ → List ℕ
opened_by c ready = opened_row c (bundle_in c ready) ready.label.bytes

-- the rows of a board over a device that holds this: the opened forms, each as long as what is held
abbrev pub board_rows : {C : Type 0} → Cipher C → Ready C → List Slot → List Slot
board_rows c ready held = through (keeping_length (opened_by c ready)) held
