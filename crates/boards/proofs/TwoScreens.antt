-- From a run on each of two screens to what holds of both, for any two kinds of sealing.
use Rattle.std.proofs.Common.{◌≡◌, ℕ, ◌+◌, ◌≤◌, Bool, true, false, cond, ◌⊎◌, List, [], ◌∷◌, length, get_or, is_ok, Some, None, Ok, Err, vec_items, MatchBool, Option, sym, refl, ap, ◌∙◌, subst, inl, inr, ⊎_elim, arith}
use Rattle.std.proofs.lemmas.List.{get_or_past}
use Rattle.std.proofs.lemmas.Bool.{cases_lt}
use Rattle.base.specs.Bytes.{AllBytes}
use Rattle.devices.specs.Slots.{Slot, nothing, row, Shape}
use Rattle.devices.specs.Answers.{Answer}
use Rattle.ciphers.specs.declared.cipher.BlockCipher.{Ghosts as Cipher}
use Rattle.devices.specs.declared.device.SlotDevice.{Ghosts as Device}
use Rattle.boards.specs.declared.calls.Call.{Call}
use Rattle.boards.specs.declared.calls.Call.TheVariants.{Open, Write, Read, Clear, Length, Fits, Find, Shut}
use Rattle.boards.specs.declared.calls.Reply.{Reply}
use Rattle.boards.specs.declared.calls.Reply.TheVariants as replied
use Rattle.boards.specs.declared.calls.Entry.{Entry}
use Rattle.boards.specs.declared.runs.Screen.{Screen}
use Rattle.boards.specs.Through.{on_row}
use Rattle.boards.specs.Kinds.{StringOf, Kind, RowOf, SealedOf, Admitted, OpensSealed, SealsOpened, Lawful}
use Rattle.boards.specs.Plain.{asked, Plain, seal_under, rows_opened, next, after, unopened, May, MayOpen, MayShut, Answered, buffer_of}
use Rattle.boards.specs.Screens.{AcceptedOrUnopened}
use Rattle.boards.specs.Promise.{held_at, plain_after, plain_row, Ran, Empty, OpeningUsed, OpeningsUsed, SealAlike, SealedOnce, Shared, Agreement}
use Rattle.boards.proofs.Rows.{on_alike, held_row}

-- no bundle and label were accepted, or these
abbrev UnderIs : List ℕ → List ℕ → Option (List ℕ × List ℕ) → Type 0
UnderIs bundle label o = (o ≡ None) ⊎ (o ≡ Some (bundle, label))

module _ (k : Kind) (s : Shape) (bundle label : List ℕ) where
  under_step : (p : Plain) (call : Call) (left : List ℕ) (reply : Reply) → May k s p call left reply → OpeningUsed bundle label reply (asked call) → UnderIs bundle label p.under → UnderIs bundle label (next k s p call).under
  under_step p call left reply may by u = go p.is_open may where
    opened : (b l : List ℕ) (a : Answer) → reply ≡ replied.Answered a → ((n : ℕ) → reply ≡ replied.Answered (Ok n) → (b ≡ bundle) × (l ≡ label)) →
        UnderIs bundle label (cond {A = Plain} (is_ok a) (record { is_open = true; under = Some (b, l); rows = rows_opened k p b l }) (record { is_open = false; under = p.under; rows = p.rows })).under
    opened b l (Ok n) e h = let q = h n e in inr (ap (λ (x : List ℕ). Some (x, l)) q.0 ∙ ap (λ (x : List ℕ). Some (bundle, x)) q.1)
    opened b l (Err why) e h = u

    shut : (call : Call) → MayShut k call left reply → OpeningUsed bundle label reply (asked call) → UnderIs bundle label (next k s (record { is_open = false; under = p.under; rows = p.rows }) call).under
    shut (Open b l) m h = opened (vec_items b) (vec_items l) (k.admits (vec_items b) (vec_items l)) m.0 h
    shut (Write slot r) m h = u
    shut (Read slot buffer) m h = u
    shut (Clear slot) m h = u
    shut (Length slot) m h = u
    shut (Fits slot len) m h = u
    shut (Find front work) m h = u
    shut Shut m h = u

    go : (o : Bool) → MatchBool o (MayOpen s p.rows call left reply) (MayShut k call left reply) → UnderIs bundle label (next k s (record { is_open = o; under = p.under; rows = p.rows }) call).under
    go true m = u
    go false m = shut call m by

  pub under_after : (p : Plain) (es fs : List Entry) → Answered k s p es fs → OpeningsUsed bundle label fs → UnderIs bundle label p.under → UnderIs bundle label (after k s p es).under
  under_after p [] [] so by u = u
  under_after p [] (f ∷ fs) so by u = absurd so
  under_after p (e ∷ es) [] so by u = absurd so
  under_after p (e ∷ es) (f ∷ fs) so by u =
      under_after (next k s p e.call) es fs so.2 by.1
      (under_step p e.call (buffer_of f.call) f.reply so.1 (subst (OpeningUsed bundle label f.reply) so.0 by.0) u)

-- one screen that was empty, and whose accepted openings used this bundle and label
module _ {C D : Type 0} (k : Kind) (d : Device D) (device : D) (calls done : List Entry) (end : Screen C D) (bundle label : List ℕ) (low : k.least ≤ 16) (high : 1000 ≤ k.longest)
    {c : Cipher C} (ran : Ran c k d device calls done end) (empty : Empty d device) (by : OpeningsUsed bundle label done) where
  under : UnderIs bundle label (plain_after k d device calls).under
  under = under_after k (k.shape_over (d.shape device)) bundle label (unopened (d.held device)) calls done ran.calls_are_answered_as_the_plain_board_may by (inl refl)

  none_there : (o : Option (List ℕ × List ℕ)) (rows : List Slot) (n : ℕ) → AcceptedOrUnopened k (d.held device) rows o → o ≡ None → get_or rows n nothing ≡ nothing
  none_there None rows n real e = ap (λ (x : List Slot). get_or x n nothing) real ∙ empty n
  none_there (Some u) rows n real e = cc

  pub row_none : (plain_after k d device calls).under ≡ None → (n : ℕ) → plain_row k d device calls n ≡ nothing
  row_none e n = none_there (plain_after k d device calls).under (plain_after k d device calls).rows n ran.bundle_and_label_were_accepted e

  accepted_there : (o : Option (List ℕ × List ℕ)) (rows : List Slot) → AcceptedOrUnopened k (d.held device) rows o → o ≡ Some (bundle, label) → AllBytes bundle × AllBytes label × Admitted k bundle label
  accepted_there None rows real e = cc
  accepted_there (Some u) rows real e =
      let b : u.0 ≡ bundle = cc in
      let l : u.1 ≡ label = cc in
      (subst AllBytes b real.0, subst AllBytes l real.1, subst (λ (x : List ℕ). Admitted k bundle x) l (subst (λ (x : List ℕ). Admitted k x u.1) b real.2))

  -- where there is a row, bundle and label were accepted
  pub accepted : (n : ℕ) (r : List ℕ) → plain_row k d device calls n ≡ row r → AllBytes bundle × AllBytes label × Admitted k bundle label
  accepted n r e = ⊎_elim
      (λ none. let h = row_none none n in cc)
      (λ some. accepted_there (plain_after k d device calls).under (plain_after k d device calls).rows ran.bundle_and_label_were_accepted some)
      under

  pub sealed_by_lem : (n : ℕ) → held_at d end n ≡ on_row (k.seal bundle label n) (plain_row k d device calls n)
  sealed_by_lem n = ran.slots_hold_the_plain_rows_sealed n ∙ ⊎_elim
      (λ none. let h = row_none none n in ap (on_row (seal_under k (plain_after k d device calls).under n)) h ∙ ap (on_row (k.seal bundle label n)) (sym h))
      (λ some. ap (λ (o : Option (List ℕ × List ℕ)). on_row (seal_under k o n) (plain_row k d device calls n)) some)
      under

  pub row_of : (l : Kind) → l.least ≤ 16 → 1000 ≤ l.longest → (n : ℕ) (r : List ℕ) → plain_row k d device calls n ≡ row r → RowOf l r
  row_of l lo hi n r e = ⊎_elim
      (λ lt. let h = held_row (k.shape_over (d.shape device)) (plain_after k d device calls).rows n r ran.plain_rows_are_within_the_limits lt e in
      record { low = omega (arith, h.low); high = omega (arith, h.high); fit = h.fit })
      (λ le. let p = get_or_past (plain_after k d device calls).rows n nothing le in cc)
      (cases_lt n (length (plain_after k d device calls).rows))

-- every string is the sealed form of one row
pub sealed_once : (k : Kind) (bundle label : List ℕ) (M : ℕ) → M ≤ k.longest + k.extra → OpensSealed k bundle label → SealsOpened k bundle label → (n : ℕ) (q : List ℕ) → StringOf (k.least + k.extra) M q → SealedOnce k bundle label n q
sealed_once k bundle label M le S U n q h =
    let is : SealedOf k q = record { low = h.low; high = omega (arith, h.high); fit = h.fit } in
    let l = U.opened_long n q is in (
      k.unseal bundle label n q,
      record { low = omega (arith, l, h.low); high = omega (arith, l, h.high); fit = U.opened_fit n q is },
      l,
      U.seals n q is,
      λ t ht e. sym (S.opens n t ht) ∙ ap (k.unseal bundle label n) e,
    )

module _ {C D E F : Type 0} (k l : Kind) (d : Device D) (f : Device F) (one : D) (two : F) (calls₁ done₁ calls₂ done₂ : List Entry) (end₁ : Screen C D) (end₂ : Screen E F) (bundle label : List ℕ)
    (lowk : k.least ≤ 16) (highk : 1000 ≤ k.longest) (lowl : l.least ≤ 16) (highl : 1000 ≤ l.longest) (Lk : Lawful OpensSealed k) (Ll : Lawful OpensSealed l) (Ok : Lawful SealsOpened k) (Ol : Lawful SealsOpened l)
    {c : Cipher C} {e : Cipher E} (ran₁ : Ran c k d one calls₁ done₁ end₁) (ran₂ : Ran e l f two calls₂ done₂ end₂) (shared : Shared d f one two done₁ done₂ bundle label) (alike : SealAlike k l bundle label) where
  abbrev row₁ : ℕ → Slot
  row₁ n = plain_row k d one calls₁ n

  abbrev row₂ : ℕ → Slot
  row₂ n = plain_row l f two calls₂ n

  at₁ : (n : ℕ) → held_at d end₁ n ≡ on_row (k.seal bundle label n) (row₁ n)
  at₁ = sealed_by_lem k d one calls₁ done₁ end₁ bundle label lowk highk ran₁ shared.first_device_was_empty shared.first_openings_used_this_bundle_and_label

  at₂ : (n : ℕ) → held_at f end₂ n ≡ on_row (l.seal bundle label n) (row₂ n)
  at₂ = sealed_by_lem l f two calls₂ done₂ end₂ bundle label lowl highl ran₂ shared.second_device_was_empty shared.second_openings_used_this_bundle_and_label

  accepted₁ : (n : ℕ) (r : List ℕ) → row₁ n ≡ row r → AllBytes bundle × AllBytes label × Admitted k bundle label
  accepted₁ = accepted k d one calls₁ done₁ end₁ bundle label lowk highk ran₁ shared.first_device_was_empty shared.first_openings_used_this_bundle_and_label

  -- the rows of both are rows of the first kind
  row_of₁ : (n : ℕ) (r : List ℕ) → row₁ n ≡ row r → RowOf k r
  row_of₁ = row_of k d one calls₁ done₁ end₁ bundle label lowk highk ran₁ shared.first_device_was_empty shared.first_openings_used_this_bundle_and_label k lowk highk

  row_of₂ : (n : ℕ) (r : List ℕ) → row₂ n ≡ row r → RowOf k r
  row_of₂ = row_of l f two calls₂ done₂ end₂ bundle label lowl highl ran₂ shared.second_device_was_empty shared.second_openings_used_this_bundle_and_label k lowk highk

  alike_at : (n : ℕ) (r : List ℕ) → row₁ n ≡ row r → (t : List ℕ) → RowOf k t → k.seal bundle label n t ≡ l.seal bundle label n t
  alike_at n r e t ht = let h = accepted₁ n r e in alike.seals_alike h.0 h.1 h.2 n t ht

  same_seals : (n : ℕ) → row₁ n ≡ row₂ n → held_at d end₁ n ≡ held_at f end₂ n
  same_seals n e =
      at₁ n
      ∙ on_alike (k.seal bundle label n) (l.seal bundle label n) (row₁ n) (λ r at. alike_at n r at r (row_of₁ n r at))
      ∙ ap (on_row (l.seal bundle label n)) e ∙ sym (at₂ n)

  same_rows : (n : ℕ) → held_at d end₁ n ≡ held_at f end₂ n → row₁ n ≡ row₂ n
  same_rows n e = go (row₁ n) (row₂ n) refl refl (sym (at₁ n) ∙ e ∙ at₂ n) where
    go : (x y : Slot) → row₁ n ≡ x → row₂ n ≡ y → on_row (k.seal bundle label n) x ≡ on_row (l.seal bundle label n) y → x ≡ y
    go nothing nothing ex ey h = refl
    go nothing (row t) ex ey h = cc
    go (row r) nothing ex ey h = cc
    go (row r) (row t) ex ey h =
        let a = accepted₁ n r ex in
        let U = Lk bundle label a.0 a.1 a.2 in
        let q : k.seal bundle label n r ≡ l.seal bundle label n t = cc in
        let q' : k.seal bundle label n r ≡ k.seal bundle label n t = q ∙ sym (alike_at n r ex t (row_of₂ n t ey)) in
        ap (λ (x : List ℕ). row x) (sym (U.opens n r (row_of₁ n r ex)) ∙ ap (k.unseal bundle label n) q' ∙ U.opens n t (row_of₂ n t ey))

  pub agreement : Agreement k l d f one two calls₁ done₁ calls₂ done₂ end₁ end₂ bundle label
  agreement = record {
    same_rows_are_sealed_the_same = same_seals;
    different_rows_are_sealed_differently = same_rows;
    first_slots_hold_the_plain_rows_sealed = at₁;
    second_slots_hold_the_plain_rows_sealed = at₂;
    first_calls_are_answered_as_the_plain_board_may = ran₁.calls_are_answered_as_the_plain_board_may;
    second_calls_are_answered_as_the_plain_board_may = ran₂.calls_are_answered_as_the_plain_board_may;
    first_strings_are_sealed_once = λ fb fl adm n q h. sealed_once k bundle label (d.shape one).longest (omega (arith, (d.sound one).longest_high)) (Lk bundle label fb fl adm) (Ok bundle label fb fl adm) n q h;
    second_strings_are_sealed_once = λ fb fl adm n q h. sealed_once l bundle label (f.shape two).longest (omega (arith, (f.sound two).longest_high)) (Ll bundle label fb fl adm) (Ol bundle label fb fl adm) n q h;
  }
