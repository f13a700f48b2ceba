-- What a list of calls on one screen shows, and what two lists on two screens show.
use Rattle.std.specs.Prelude.{◌≡◌, ℕ, ◌+◌, List, length, slice_index_or, Ok}
use Rattle.std.specs.List.{AllByRecursion}
use Rattle.base.specs.Bytes.{AllBytes}
use Rattle.devices.specs.Slots.{Slot, nothing, Sound}
use Rattle.ciphers.specs.declared.cipher.BlockCipher.{Ghosts as Cipher}
use Rattle.devices.specs.declared.device.SlotDevice.{Ghosts as Device}
use Rattle.boards.specs.declared.calls.Reply.{Reply}
use Rattle.boards.specs.declared.calls.Reply.TheVariants as replied
use Rattle.boards.specs.declared.calls.Entry.{Entry}
use Rattle.boards.specs.declared.runs.Screen.{Screen}
use Rattle.boards.specs.Through.{on_row}
use Rattle.boards.specs.Kinds.{Kind, StringOf, RowOf, Admitted}
use Rattle.boards.specs.Plain.{Asked, opening, asked, Unchanging, Plain, Answered, after, unopened, seal_under}
use Rattle.boards.specs.Screens.{behind, shows_open, AcceptedOrUnopened, OpenUnder}

-- what the device of a screen holds in a slot
abbrev pub held_at : {C D : Type 0} → Device D → Screen C D → ℕ → Slot
held_at d end n = slice_index_or (d.held (behind end)) n nothing

-- the plain board over a device after a list of calls, and its row in a slot
abbrev pub plain_after : {D : Type 0} → Kind → Device D → D → List Entry → Plain
plain_after k d device calls = after k (k.shape_over (d.shape device)) (unopened (d.held device)) calls

abbrev pub plain_row : {D : Type 0} → Kind → Device D → D → List Entry → ℕ → Slot
plain_row k d device calls n = slice_index_or (plain_after k d device calls).rows n nothing

-- ---- one screen: a list of calls, before and after, on a device that held anything at the start

pub record Ran {C D : Type 0} (c : Cipher C) (k : Kind) (d : Device D) (device : D) (calls done : List Entry) (end : Screen C D) : Type 0 where
  pub what_never_changes_is_kept : d.fixed (behind end) ≡ d.fixed device
  pub shape_is_kept : d.shape (behind end) ≡ d.shape device
  pub open_as_the_plain_board : shows_open end ≡ (plain_after k d device calls).is_open
  pub calls_are_answered_as_the_plain_board_may : Answered k (k.shape_over (d.shape device)) (unopened (d.held device)) calls done
  pub slots_hold_the_plain_rows_sealed : (n : ℕ) → held_at d end n ≡ on_row (seal_under k (plain_after k d device calls).under n) (plain_row k d device calls n)
  pub plain_rows_are_within_the_limits : Sound (k.shape_over (d.shape device)) (plain_after k d device calls).rows
  pub an_open_board_has_the_keys_and_label_accepted_last : OpenUnder c end (plain_after k d device calls).under
  pub state_is_kept_where_no_write_or_clear_was_accepted : AllByRecursion (λ e. Unchanging e.reply (asked e.call)) done → d.state (behind end) ≡ d.state device
  pub bundle_and_label_were_accepted : AcceptedOrUnopened k (d.held device) (plain_after k d device calls).rows (plain_after k d device calls).under

-- ---- two screens

-- every slot holds nothing
abbrev pub Empty : {D : Type 0} → Device D → D → Type 0
Empty d device = (n : ℕ) → slice_index_or (d.held device) n nothing ≡ nothing

-- an opening that was accepted used this bundle and label
abbrev pub OpeningUsed : List ℕ → List ℕ → Reply → Asked → Type 0
OpeningUsed bundle label reply (opening b l) = (n : ℕ) → reply ≡ replied.Answered (Ok n) → (b ≡ bundle) × (l ≡ label)
OpeningUsed bundle label reply _ = Unit {0}

-- every accepted opening of a list that was run used this bundle and label
abbrev pub OpeningsUsed : List ℕ → List ℕ → List Entry → Type 0
OpeningsUsed bundle label done = AllByRecursion (λ e. OpeningUsed bundle label e.reply (asked e.call)) done

-- two kinds of sealing seal every row alike under this bundle and label, where they are accepted
pub record SealAlike (k l : Kind) (bundle label : List ℕ) : Type 0 where
  pub seals_alike : AllBytes bundle → AllBytes label → Admitted k bundle label → (n : ℕ) (r : List ℕ) → RowOf k r → k.seal bundle label n r ≡ l.seal bundle label n r

-- q is the sealed form of exactly one row, which is shorter by what sealing adds
abbrev pub SealedOnce : Kind → List ℕ → List ℕ → ℕ → List ℕ → Type 0
SealedOnce k bundle label n q =
    (r : List ℕ) × RowOf k r × (length r + k.extra ≡ length q) × (k.seal bundle label n r ≡ q) × ((t : List ℕ) → RowOf k t → k.seal bundle label n t ≡ q → t ≡ r)

-- what the promise presupposes of two lists that were run
pub record Shared {D F : Type 0} (d : Device D) (f : Device F) (one : D) (two : F) (done₁ done₂ : List Entry) (bundle label : List ℕ) : Type 0 where
  pub first_device_was_empty : Empty d one
  pub second_device_was_empty : Empty f two
  pub first_openings_used_this_bundle_and_label : OpeningsUsed bundle label done₁
  pub second_openings_used_this_bundle_and_label : OpeningsUsed bundle label done₂

-- what is promised of them
pub record Agreement {C D E F : Type 0} (k l : Kind) (d : Device D) (f : Device F) (one : D) (two : F) (calls₁ done₁ calls₂ done₂ : List Entry) (end₁ : Screen C D) (end₂ : Screen E F) (bundle label : List ℕ) : Type 0 where
  pub same_rows_are_sealed_the_same : (n : ℕ) → plain_row k d one calls₁ n ≡ plain_row l f two calls₂ n → held_at d end₁ n ≡ held_at f end₂ n
  pub different_rows_are_sealed_differently : (n : ℕ) → held_at d end₁ n ≡ held_at f end₂ n → plain_row k d one calls₁ n ≡ plain_row l f two calls₂ n
  pub first_slots_hold_the_plain_rows_sealed : (n : ℕ) → held_at d end₁ n ≡ on_row (k.seal bundle label n) (plain_row k d one calls₁ n)
  pub second_slots_hold_the_plain_rows_sealed : (n : ℕ) → held_at f end₂ n ≡ on_row (l.seal bundle label n) (plain_row l f two calls₂ n)
  pub first_calls_are_answered_as_the_plain_board_may : Answered k (k.shape_over (d.shape one)) (unopened (d.held one)) calls₁ done₁
  pub second_calls_are_answered_as_the_plain_board_may : Answered l (l.shape_over (f.shape two)) (unopened (f.held two)) calls₂ done₂
  pub first_strings_are_sealed_once : AllBytes bundle → AllBytes label → Admitted k bundle label → (n : ℕ) (q : List ℕ) → StringOf (k.least + k.extra) (d.shape one).longest q → SealedOnce k bundle label n q
  pub second_strings_are_sealed_once : AllBytes bundle → AllBytes label → Admitted l bundle label → (n : ℕ) (q : List ℕ) → StringOf (l.least + l.extra) (f.shape two).longest q → SealedOnce l bundle label n q
