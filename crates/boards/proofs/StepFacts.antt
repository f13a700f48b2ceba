-- One call on a screen, seen from the plain board.
use Rattle.std.proofs.Common.{◌≡◌, ℕ, Bool, true, false, cond, List, [], length, is_ok, Some, None, Ok, vec_items, Option, Vec, sym, refl, ap, ◌∙◌, subst, arith}
use Rattle.std.specs.Cmp.{first_so, second_so}
use Rattle.std.specs.Str.{bytes_eq}
use Rattle.std.proofs.lemmas.Slice.Eq.{bytes_eq-Decides}
use Rattle.base.specs.Bytes.{AllBytes}
use Rattle.ciphers.specs.declared.cipher.BlockCipher.{Ghosts as Cipher}
use Rattle.mode.specs.Bundles.{opened_under}
use Rattle.devices.specs.Slots.{Slot, Shape, Sound}
use Rattle.devices.specs.Answers.{Answer}
use Rattle.devices.specs.declared.device.SlotDevice.{Ghosts as Device}
use Rattle.boards.specs.declared.ready.Ready.{Ready}
use Rattle.boards.specs.declared.board.Board.{Board}
use Rattle.boards.specs.declared.runs.Screen.{Screen}
use Rattle.boards.specs.declared.runs.Screen.TheVariants as screen
use Rattle.boards.specs.declared.calls.Call.{Call}
use Rattle.boards.specs.declared.calls.Call.TheVariants.{Open, Write, Read, Clear, Length, Fits, Find, Shut}
use Rattle.boards.specs.declared.calls.Reply.{Reply}
use Rattle.boards.specs.declared.calls.Reply.TheVariants as replied
use Rattle.std.specs.declared.alloc.Global.{Global}
use Rattle.boards.specs.Through.{through, as_long_as, keeping_length}
use Rattle.boards.specs.Soundness.{sound_through}
use Rattle.boards.specs.Contexts.{Context, context_of}
use Rattle.boards.specs.Kinds.{StringOf, Admitted, OpensSealed, SealsOpened}
use Rattle.boards.specs.Modes.{sealed_row, opened_row, mode_kind}
use Rattle.boards.specs.Readiness.{ReadyWith, opened_by, board_rows}
use Rattle.boards.specs.Plain.{Plain, seal_under, is_under, rows_opened, rows_after, stays_open, next, MayOpen, May}
use Rattle.boards.specs.Screens.{behind, shows_open, OpenUnder, Stands, Shown, Stepped}
use Rattle.boards.proofs.Labels.{context_padded, unpadded_bytes}
use Rattle.boards.proofs.Rows.{as_is, through_alike, through_back, held_row}
use Rattle.boards.proofs.ModeFacts.{CipherFacts, opening_ok, opens_sealed, seals_opened, bundle_bytes, ready_opens}

stays : (call : Call) → (call ≡ Shut → ⊥) → stays_open call ≡ true
stays (Open bundle label) h = refl
stays (Write slot r) h = refl
stays (Read slot buffer) h = refl
stays (Clear slot) h = refl
stays (Length slot) h = refl
stays (Fits slot len) h = refl
stays (Find front work) h = refl
stays Shut h = absurd (h refl)

module _ {C : Type 0} (c : Cipher C) (L : CipherFacts c) (bundle label : List ℕ) (fb : AllBytes bundle) (fl : AllBytes label) (adm : Admitted (mode_kind c) bundle label) where
  S : OpensSealed (mode_kind c) bundle label
  S = opens_sealed c L bundle label fb fl adm

  U : SealsOpened (mode_kind c) bundle label
  U = seals_opened c L bundle label fb fl adm

  long_open : (n : ℕ) (q : List ℕ) → StringOf 16 1000 q → length (opened_row c bundle label n q) ≡ length q
  long_open n q h = let e = U.opened_long n q h in omega (arith, e)

  -- what keys and label ready for use open is what bundle and label open
  opens_as : (ready : Ready C) → ReadyWith c ready bundle label → (n : ℕ) (q : List ℕ) → opened_by c ready n q ≡ opened_row c bundle label n q
  unfolding opened_row
  opens_as ready w n q =
      ap (λ (b : List ℕ). opened_under c.forward c.back c.key_length b (context_of n ready.label.bytes).nonce (context_of n ready.label.bytes).associated q) w.bundle_kept
      ∙ ap (λ (l : List ℕ). opened_under c.forward c.back c.key_length bundle (context_of n l).nonce (context_of n l).associated q) w.label_kept
      ∙ ap (λ (x : Context). opened_under c.forward c.back c.key_length bundle x.nonce x.associated q) (context_padded n label (opening_ok c.key_length bundle label adm).1)

  -- rows of a sound device, opened: nothing is cut
  pub rows_opened_lem : (s : Shape) (held : List Slot) → Sound s held → through (keeping_length (opened_row c bundle label)) held ≡ through (opened_row c bundle label) held
  rows_opened_lem s held sound =
      through_alike (keeping_length (opened_row c bundle label)) (opened_row c bundle label) held
      (λ n q lt e. let h = held_row s held n q sound lt e in as_is q (opened_row c bundle label n q) (long_open n q h) (U.opened_fit n q h))

  pub board_opened : (ready : Ready C) → ReadyWith c ready bundle label → (s : Shape) (held : List Slot) → Sound s held → board_rows c ready held ≡ through (opened_row c bundle label) held
  board_opened ready w s held sound =
      through_alike (keeping_length (opened_by c ready)) (keeping_length (opened_row c bundle label)) held (λ n q lt e. ap (as_long_as q) (opens_as ready w n q))
      ∙ rows_opened_lem s held sound

  -- sealed rows open to what they were
  pub opened_back : (s : Shape) (rows : List Slot) → Sound s rows → through (opened_row c bundle label) (through (sealed_row c bundle label) rows) ≡ rows
  opened_back s rows sound = through_back (sealed_row c bundle label) (opened_row c bundle label) rows (λ n r lt e. S.opens n r (held_row s rows n r sound lt e))

  pub sealed_back : (s : Shape) (held : List Slot) → Sound s held → through (sealed_row c bundle label) (through (opened_row c bundle label) held) ≡ held
  sealed_back s held sound = through_back (opened_row c bundle label) (sealed_row c bundle label) held (λ n r lt e. U.seals n r (held_row s held n r sound lt e))

  pub opened_sound : (s : Shape) (held : List Slot) → Sound s held → Sound s (through (opened_row c bundle label) held)
  opened_sound s held sound = subst (Sound s) (rows_opened_lem s held sound) (sound_through s held (opened_row c bundle label) sound)

  -- an open board shows the plain rows
  pub board_shows : (ready : Ready C) → ReadyWith c ready bundle label → (s : Shape) (held rows : List Slot) → Sound s held → Sound s rows → held ≡ through (sealed_row c bundle label) rows → board_rows c ready held ≡ rows
  board_shows ready w s held rows sound sound' e = board_opened ready w s held sound ∙ ap (through (opened_row c bundle label)) e ∙ opened_back s rows sound'

  pub board_holds : (ready : Ready C) → ReadyWith c ready bundle label → (s : Shape) (held rows : List Slot) → Sound s held → board_rows c ready held ≡ rows → held ≡ through (sealed_row c bundle label) rows
  board_holds ready w s held rows sound e = sym (sealed_back s held sound) ∙ ap (through (sealed_row c bundle label)) (sym (board_opened ready w s held sound) ∙ e)

-- the rows of a board are the opened forms: nothing is cut
pub ready_rows : {C : Type 0} (c : Cipher C) (L : CipherFacts c) (ready : Ready C) (s : Shape) (held : List Slot) → Sound s held → board_rows c ready held ≡ through (opened_by c ready) held
ready_rows c L ready s held sound =
    let V = ready_opens c L ready in
    through_alike (keeping_length (opened_by c ready)) (opened_by c ready) held
    (λ n q lt e. let h = held_row s held n q sound lt e in as_is q (opened_by c ready n q) (let l = V.opened_long n q h in omega (arith, l)) (V.opened_fit n q h))

module _ {C D : Type 0} (c : Cipher C) (d : Device D) (L : CipherFacts c) (start : List Slot) (s : Shape) where
  -- a call on an open board
  pub open_step : (p : Plain) (b b' : Board C D) (call : Call) (left : List ℕ) (a : Reply) →
      b'.ready ≡ b.ready → d.shape b'.device ≡ d.shape b.device →
      board_rows c b'.ready (d.held b'.device) ≡ rows_after (d.shape b.device) (board_rows c b.ready (d.held b.device)) call →
      MayOpen (d.shape b.device) (board_rows c b.ready (d.held b.device)) call left a →
      (call ≡ Shut → ⊥) →
      Shown c d start s (screen.Open b) p →
      Shown c d start s (screen.Open b') (next (mode_kind c) s p call) × May (mode_kind c) s p call left a
  open_step p b b' call left a same shape held may not shown = go p.is_open p.under p.rows shown where
    go : (u : Bool) (o : Option (List ℕ × List ℕ)) (rows : List Slot) → Shown c d start s (screen.Open b) (record { is_open = u; under = o; rows = rows }) →
        Shown c d start s (screen.Open b') (next (mode_kind c) s (record { is_open = u; under = o; rows = rows }) call) × May (mode_kind c) s (record { is_open = u; under = o; rows = rows }) call left a
    go false o rows sh = let e = sh.0 in cc
    go true None rows sh = absurd sh.3
    go true (Some u) rows sh =
        let S = sh.2 in
        let R = S.real in
        let w' : ReadyWith c b'.ready u.0 u.1 = subst (λ (x : Ready C). ReadyWith c x u.0 u.1) (sym same) sh.3 in
        let sound : Sound s (d.held b.device) = subst (λ (x : Shape). Sound x (d.held b.device)) sh.1 (d.sound b.device) in
        let shape' : d.shape b'.device ≡ s = shape ∙ sh.1 in
        let sound' : Sound s (d.held b'.device) = subst (λ (x : Shape). Sound x (d.held b'.device)) shape' (d.sound b'.device) in
        let old : board_rows c b.ready (d.held b.device) ≡ rows = board_shows c L u.0 u.1 R.0 R.1 R.2 b.ready sh.3 s (d.held b.device) rows sound S.sound S.sealed in
        let new : board_rows c b'.ready (d.held b'.device) ≡ rows_after s rows call = held ∙ ap (λ (x : Shape). rows_after x (board_rows c b.ready (d.held b.device)) call) sh.1 ∙ ap (λ (x : List Slot). rows_after s x call) old in (
          (
            stays call not,
            shape',
            record {
              sound = subst (Sound s) new (sound_through s (d.held b'.device) (opened_by c b'.ready) sound');
              sealed = board_holds c L u.0 u.1 R.0 R.1 R.2 b'.ready w' s (d.held b'.device) (rows_after s rows call) sound' new;
              real = R;
            },
            w',
          ),
          subst (λ (x : List Slot). MayOpen s x call left a) old (subst (λ (x : Shape). MayOpen x (board_rows c b.ready (d.held b.device)) call left a) sh.1 may),
        )

  -- an accepted opening
  pub opened_stands : (p : Plain) (device : D) (ready : Ready C) (bundle label : List ℕ) → Admitted (mode_kind c) bundle label → ReadyWith c ready bundle label → d.shape device ≡ s → Stands (mode_kind c) start s (d.held device) p →
      Stands (mode_kind c) start s (d.held device) (record { is_open = true; under = Some (bundle, label); rows = rows_opened (mode_kind c) p bundle label })
  opened_stands p device ready bundle label adm w shape S = go (is_under p.under bundle label) refl where
    fb : AllBytes bundle
    fb = subst AllBytes w.bundle_kept (bundle_bytes c L ready)

    fl : AllBytes label
    fl = unpadded_bytes label (subst AllBytes w.label_kept ready.label.formed.1)

    sound : Sound s (d.held device)
    sound = subst (λ (x : Shape). Sound x (d.held device)) shape (d.sound device)

    own : (o : Option (List ℕ × List ℕ)) → is_under o bundle label ≡ true → o ≡ Some (bundle, label)
    own None e = cc
    own (Some u) e =
        let b : u.0 ≡ bundle = (bytes_eq-Decides u.0 bundle).0 (first_so (bytes_eq u.0 bundle) (bytes_eq u.1 label) e) in
        let l : u.1 ≡ label = (bytes_eq-Decides u.1 label).0 (second_so (bytes_eq u.0 bundle) (bytes_eq u.1 label) e) in
        ap (λ (x : List ℕ). Some (x, u.1)) b ∙ ap (λ (x : List ℕ). Some (bundle, x)) l

    again : List Slot
    again = through (opened_row c bundle label) (through (seal_under (mode_kind c) p.under) p.rows)

    go : (u : Bool) → is_under p.under bundle label ≡ u → Stands (mode_kind c) start s (d.held device) (record { is_open = true; under = Some (bundle, label); rows = cond u p.rows again })
    go true e = record {
      sound = S.sound;
      sealed = S.sealed ∙ ap (λ (o : Option (List ℕ × List ℕ)). through (seal_under (mode_kind c) o) p.rows) (own p.under e);
      real = (fb, fl, adm);
    }
    go false e = record {
      sound = subst (λ (x : List Slot). Sound s (through (opened_row c bundle label) x)) S.sealed (opened_sound c L bundle label fb fl adm s (d.held device) sound);
      sealed = sym (sealed_back c L bundle label fb fl adm s (d.held device) sound) ∙ ap (λ (x : List Slot). through (sealed_row c bundle label) (through (opened_row c bundle label) x)) S.sealed;
      real = (fb, fl, adm);
    }

  opening_shows : (p : Plain) (device : D) (b : Board C D) (bundle label : Vec ℕ Global) → Admitted (mode_kind c) (vec_items bundle) (vec_items label) → ReadyWith c b.ready (vec_items bundle) (vec_items label) → b.device ≡ device →
      Shown c d start s (screen.Shut device) p →
      Shown c d start s (screen.Open b) (next (mode_kind c) s p (Open bundle label)) × May (mode_kind c) s p (Open bundle label) [] (replied.Answered (Ok 0))
  opening_shows p device b bundle label adm w same shown = go p.is_open p.under p.rows shown where
    go : (u : Bool) (o : Option (List ℕ × List ℕ)) (rows : List Slot) → Shown c d start s (screen.Shut device) (record { is_open = u; under = o; rows = rows }) →
        Shown c d start s (screen.Open b) (next (mode_kind c) s (record { is_open = u; under = o; rows = rows }) (Open bundle label)) × May (mode_kind c) s (record { is_open = u; under = o; rows = rows }) (Open bundle label) [] (replied.Answered (Ok 0))
    go true o rows sh = let e = sh.0 in cc
    go false o rows sh =
        let old : Plain = record { is_open = false; under = o; rows = rows } in
        let new : Plain = record { is_open = true; under = Some (vec_items bundle, vec_items label); rows = rows_opened (mode_kind c) old (vec_items bundle) (vec_items label) } in
        let S : Stands (mode_kind c) start s (d.held b.device) new = subst (λ (x : D). Stands (mode_kind c) start s (d.held x) new) (sym same) (opened_stands old device b.ready (vec_items bundle) (vec_items label) adm w sh.1 sh.2) in
        subst (λ (x : Answer). Shown c d start s (screen.Open b) (cond (is_ok x) new old) × ((replied.Answered (Ok 0) ≡ replied.Answered x) × (◌≡◌ {A = List ℕ} [] []))) (sym adm)
        ((refl, ap d.shape same ∙ sh.1, S, w), (refl, refl))

pub opening_step : {C D : Type 0} (c : Cipher C) (d : Device D) (L : CipherFacts c) (device : D) (b : Board C D) (bundle label : Vec ℕ Global) →
    Admitted (mode_kind c) (vec_items bundle) (vec_items label) → ReadyWith c b.ready (vec_items bundle) (vec_items label) → b.device ≡ device →
    Stepped c d (screen.Shut device) (Open bundle label) (Open bundle label) (screen.Open b) (replied.Answered (Ok 0))
opening_step c d L device b bundle label adm w same = record {
  asks_the_same = refl;
  what_never_changes_is_kept = ap d.fixed same;
  state_is_kept_where_no_write_or_clear_was_accepted = λ quiet. ap d.state same;
  shown = λ start s p h. opening_shows c d L start s p device b bundle label adm w same h;
}

-- what a screen that shows the plain board says of it
pub shown_says : {C D : Type 0} (c : Cipher C) (d : Device D) (start : List Slot) (s : Shape) (end : Screen C D) (p : Plain) → Shown c d start s end p →
    (shows_open end ≡ p.is_open) × (d.shape (behind end) ≡ s) × Stands (mode_kind c) start s (d.held (behind end)) p × OpenUnder c end p.under
shown_says c d start s (screen.Shut x) p h = (sym h.0, h.1, h.2, tt)
shown_says c d start s (screen.Open b) p h = (sym h.0, h.1, h.2, h.3)

pub prepared_at : {C : Type 0} (c : Cipher C) (ready : Ready C) (b b' l l' : List ℕ) → b ≡ b' → l ≡ l' → Admitted (mode_kind c) b l × ReadyWith c ready b l → Admitted (mode_kind c) b' l' × ReadyWith c ready b' l'
prepared_at c ready b b' l l' e f h =
    subst (λ (x : List ℕ). Admitted (mode_kind c) b' x × ReadyWith c ready b' x) f (subst (λ (x : List ℕ). Admitted (mode_kind c) x l × ReadyWith c ready x l) e h)
