-- What the device answers, from the rows on its chains.
use Rattle.std.proofs.Common.{◌≡◌, ℕ, ◌+◌, ◌*◌, ◌<◌, ◌≤◌, List, [], ◌∷◌, length, get_or, take, drop, Ok, Err, refl, ap, ◌∙◌, arith}
use Rattle.std.proofs.lemmas.List.{get_or-map}
use Rattle.std.proofs.lemmas.Bool.{le-leb, lt-leb, lt-ltb, le-ltb}
use Rattle.base.specs.declared.refusals.Refusal.TheVariants.{NoSuchSlot, EmptySlot, NoRoom}
use Rattle.base.specs.Bytes.{AllBytes}
use Rattle.devices.specs.Slots.{Slot, nothing, row, RowFits, units_of_others}
use Rattle.devices.specs.Answers.{write_answer, read_answer, clear_answer, length_answer, bytes_at}
use Rattle.chain.specs.Cells.{chain_units}
use Rattle.chain.specs.Memory.{rows_in, slot_in, chain_held, chain_shape}
use Rattle.chain.proofs.Linked.{rows_length}
use Rattle.chain.proofs.Releasing.{heads_size}

pub empty_slot_lem : (r : List ℕ) → length r ≡ 0 → slot_in r ≡ nothing
empty_slot_lem [] h = refl
empty_slot_lem (x ∷ r) h = absurd (omega arith)

pub row_slot : (r : List ℕ) → (length r ≡ 0 → ⊥) → slot_in r ≡ row r
row_slot [] h = absurd (h refl)
row_slot (x ∷ r) h = refl

-- a slot that is not there
pub no_slot : (s m c i : ℕ) (held : List Slot) → s ≤ i → Err NoSuchSlot ≡ length_answer (chain_shape s m c) held i
no_slot s m c i held h = rw (le-leb s i h) refl

pub no_slot_write : (s m c i n : ℕ) (held : List Slot) → s ≤ i → Err NoSuchSlot ≡ write_answer (chain_shape s m c) held i n
no_slot_write s m c i n held h = rw (le-leb s i h) refl

-- a row that a write admits fits the slot
pub row_fits : (s m c : ℕ) (r : List ℕ) → 16 ≤ length r → length r ≤ m → AllBytes r → RowFits (chain_shape s m c) (slot_in r)
row_fits s m c [] lo hi b = tt
row_fits s m c (x ∷ r) lo hi b = (lo, hi, b)

module _ (s m c : ℕ) (b : List ℕ) (size : length b ≡ s + 32 * c) (i : ℕ) (h : i < s) where
  abbrev mine : List ℕ
  mine = get_or (rows_in s c b) i []

  held_at : get_or (chain_held s c b) i nothing ≡ slot_in mine
  held_at = get_or-map slot_in (rows_in s c b) i [] nothing (omega (arith, rows_length c (drop s b) (take s b), heads_size s c b size))

  none_held : length mine ≡ 0 → get_or (chain_held s c b) i nothing ≡ nothing
  none_held z = held_at ∙ empty_slot_lem mine z

  pub row_held : (length mine ≡ 0 → ⊥) → get_or (chain_held s c b) i nothing ≡ row mine
  row_held ne = held_at ∙ row_slot mine ne

  pub look_empty : length mine ≡ 0 → Err EmptySlot ≡ length_answer (chain_shape s m c) (chain_held s c b) i
  look_empty z = rw (lt-leb s i h, none_held z) refl

  pub look_row : (n : ℕ) → n ≡ length mine → (n ≡ 0 → ⊥) → Ok n ≡ length_answer (chain_shape s m c) (chain_held s c b) i
  look_row n e ne = rw (lt-leb s i h, row_held (λ z. ne (e ∙ z))) (ap Ok e)

  pub read_row : (n k : ℕ) → n ≡ length mine → (n ≡ 0 → ⊥) → n ≤ k → Ok n ≡ read_answer (chain_shape s m c) (chain_held s c b) i k
  read_row n k e ne le = rw (lt-leb s i h, row_held (λ z. ne (e ∙ z)), le-ltb k (length mine) (omega arith)) (ap Ok e)

  pub clear_row : (length mine ≡ 0 → ⊥) → Ok 0 ≡ clear_answer (chain_shape s m c) (chain_held s c b) i
  clear_row ne = rw (lt-leb s i h, row_held ne) refl

  pub bytes_held : (length mine ≡ 0 → ⊥) → bytes_at (chain_held s c b) i ≡ mine
  bytes_held ne = rw (row_held ne) refl

  pub write_room : (n : ℕ) → 16 ≤ n → n ≤ m → units_of_others (chain_shape s m c) (chain_held s c b) i + chain_units n ≤ c → Ok 0 ≡ write_answer (chain_shape s m c) (chain_held s c b) i n
  write_room n lo hi r = rw (lt-leb s i h, le-ltb n 16 lo, le-ltb m n hi, le-ltb c (units_of_others (chain_shape s m c) (chain_held s c b) i + chain_units n) r) refl

  pub write_none : (n : ℕ) → 16 ≤ n → n ≤ m → c < units_of_others (chain_shape s m c) (chain_held s c b) i + chain_units n → Err NoRoom ≡ write_answer (chain_shape s m c) (chain_held s c b) i n
  write_none n lo hi r = rw (lt-leb s i h, le-ltb n 16 lo, le-ltb m n hi, lt-ltb c (units_of_others (chain_shape s m c) (chain_held s c b) i + chain_units n) r) refl
