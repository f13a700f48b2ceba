-- What a screen shows of the plain board.
use Rattle.std.specs.Prelude.{◌≡◌, ℕ, Bool, true, false, List, Some, None, Option}
use Rattle.base.specs.Bytes.{AllBytes}
use Rattle.ciphers.specs.declared.cipher.BlockCipher.{Ghosts as Cipher}
use Rattle.devices.specs.Slots.{Slot, Shape, Sound}
use Rattle.devices.specs.declared.device.SlotDevice.{Ghosts as Device}
use Rattle.boards.specs.declared.ready.Ready.{Ready}
use Rattle.boards.specs.declared.runs.Screen.{Screen}
use Rattle.boards.specs.declared.runs.Screen.TheVariants as screen
use Rattle.boards.specs.Through.{through}
use Rattle.boards.specs.Kinds.{Kind, Admitted}
use Rattle.boards.specs.Modes.{mode_kind}
use Rattle.boards.specs.Readiness.{ReadyWith}
use Rattle.boards.specs.declared.calls.Call.{Call}
use Rattle.boards.specs.declared.calls.Reply.{Reply}
use Rattle.boards.specs.Plain.{Plain, seal_under, asked, buffer_of, Unchanging, next, May}

-- the device of a screen, whether a board is open over it or none
abbrev pub behind : {C D : Type 0} → Screen C D → D
behind (screen.Shut device) = device
behind (screen.Open board) = board.device

-- whether a board is open on it
abbrev pub shows_open : {C D : Type 0} → Screen C D → Bool
shows_open (screen.Shut device) = false
shows_open (screen.Open board) = true

-- the plain board's bundle and label were accepted and are bytes; where none were, it keeps what the device held at the start
abbrev pub AcceptedOrUnopened : Kind → List Slot → List Slot → Option (List ℕ × List ℕ) → Type 0
AcceptedOrUnopened k start rows None = rows ≡ start
AcceptedOrUnopened k start rows (Some u) = AllBytes u.0 × AllBytes u.1 × Admitted k u.0 u.1

-- a device of this shape that holds this keeps every row of the plain board sealed, and nothing else
pub record Stands (k : Kind) (start : List Slot) (s : Shape) (held : List Slot) (p : Plain) : Type 0 where
  pub sound : Sound s p.rows
  pub sealed : held ≡ through (seal_under k p.under) p.rows
  pub real : AcceptedOrUnopened k start p.rows p.under

-- keys and label ready for use are those of the plain board
abbrev pub ReadyUnder : {C : Type 0} → Cipher C → Ready C → Option (List ℕ × List ℕ) → Type 0
ReadyUnder c ready None = ⊥
ReadyUnder c ready (Some u) = ReadyWith c ready u.0 u.1

-- where a board is open, its keys and label are those that the plain board was opened with last
abbrev pub OpenUnder : {C D : Type 0} → Cipher C → Screen C D → Option (List ℕ × List ℕ) → Type 0
OpenUnder c (screen.Shut device) under = Unit {0}
OpenUnder c (screen.Open board) under = ReadyUnder c board.ready under

-- a screen whose device has this shape, and held `start` before the first call, shows the plain board
abbrev pub Shown : {C D : Type 0} → Cipher C → Device D → List Slot → Shape → Screen C D → Plain → Type 0
Shown c d start s (screen.Shut device) p =
    (p.is_open ≡ false) × (d.shape device ≡ s) × Stands (mode_kind c) start s (d.held device) p
Shown c d start s (screen.Open board) p =
    (p.is_open ≡ true) × (d.shape board.device ≡ s) × Stands (mode_kind c) start s (d.held board.device) p × ReadyUnder c board.ready p.under

-- one call on a screen: `done` is the call as it is left, and `then` the screen after it
pub record Stepped {C D : Type 0} (c : Cipher C) (d : Device D) (was : Screen C D) (call done : Call) (then : Screen C D) (reply : Reply) : Type 0 where
  pub asks_the_same : asked done ≡ asked call
  pub what_never_changes_is_kept : d.fixed (behind then) ≡ d.fixed (behind was)
  pub state_is_kept_where_no_write_or_clear_was_accepted : Unchanging reply (asked call) → d.state (behind then) ≡ d.state (behind was)
  pub shown : (start : List Slot) (s : Shape) (p : Plain) → Shown c d start s was p → Shown c d start s then (next (mode_kind c) s p call) × May (mode_kind c) s p call (buffer_of done) reply
