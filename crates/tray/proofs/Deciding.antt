-- What the calls of a tray answer.
use Rattle.std.proofs.Common.{◌≡◌, ℕ, ◌<◌, ◌≤◌, List, [], ◌∷◌, set, Ok, refl, ◌∙◌, arith}
use Rattle.std.proofs.lemmas.List.Sums.{sum_by-cons}
use Rattle.std.proofs.lemmas.Bool.{lt-leb, le-ltb}
use Rattle.devices.specs.Slots.{Slot, nothing, row, units_in, units_held}
use Rattle.devices.specs.Answers.{write_answer}
use Rattle.tray.specs.Layout.{tray_shape}

-- no row of a tray costs units
no_units : (s m : ℕ) (held : List Slot) → units_held (tray_shape s m) held ≡ 0
no_units s m [] = refl
no_units s m (nothing ∷ held) = sum_by-cons (units_in (tray_shape s m)) nothing held ∙ omega (arith, no_units s m held)
no_units s m (row r ∷ held) = sum_by-cons (units_in (tray_shape s m)) (row r) held ∙ omega (arith, no_units s m held)

pub admitted : (s m : ℕ) (held : List Slot) (i n : ℕ) → i < s → 16 ≤ n → n ≤ m → Ok 0 ≡ write_answer (tray_shape s m) held i n
admitted s m held i n h low high = rw (lt-leb s i h, le-ltb n 16 low, le-ltb m n high, no_units s m (set held i nothing)) refl
