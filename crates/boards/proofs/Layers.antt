-- The answers of a board are those of its device: its rows are as long as what is held.
use Rattle.std.proofs.Common.{◌≡◌, ℕ, suc, ◌+◌, ◌<◌, ◌≤◌, false, List, [], ◌∷◌, ◌++◌, length, get_or, take, drop, set, Ok, Err, fold, sym, refl, ap, ◌∙◌, subst, arith}
use Rattle.std.proofs.lemmas.List.{take_at, drop_at}
use Rattle.base.specs.Bytes.{AllBytes}
use Rattle.devices.specs.Slots.{Slot, nothing, row, Shape, units_in, units_held, units_of_others, RowFits, Sound}
use Rattle.devices.specs.Answers.{Answer, is_nothing, bytes_in, bytes_at, write_answer, held_after_write, read_answer, clear_answer, held_after_clear, length_answer}
use Rattle.boards.specs.Kinds.{StringOf}
use Rattle.boards.specs.Through.{on_row, through_from, through, as_long_as, keeping_length}
use Rattle.boards.specs.Soundness.{get_or_through, as_long}
use Rattle.boards.proofs.Rows.{set_through, as_is}

-- what a read leaves in the buffer's first bytes
pub read_front : (h : List Slot) (n len m : ℕ) (buf b : List ℕ) → m ≡ len → len ≡ length (bytes_at h n) → b ≡ bytes_at h n ++ drop len buf → take m b ≡ bytes_at h n
read_front h n len m buf b em el eb = ap (take m) eb ∙ take_at (bytes_at h n) (drop len buf) m (sym (em ∙ el))

module _ (f : ℕ → List ℕ → List ℕ) where
  units_from : (s : Shape) (n a : ℕ) (xs : List Slot) → fold (λ b x. b + units_in s x) a (through_from (keeping_length f) n xs) ≡ fold (λ b x. b + units_in s x) a xs
  units_from s n a [] = refl
  units_from s n a (nothing ∷ xs) = units_from s (suc n) (a + 0) xs
  units_from s n a (row r ∷ xs) =
      ap (λ (k : ℕ). fold (λ b x. b + units_in s x) (a + s.units k) (through_from (keeping_length f) (suc n) xs)) (as_long r (f n r)) ∙ units_from s (suc n) (a + s.units (length r)) xs

  units_through : (s : Shape) (xs : List Slot) → units_held s (through (keeping_length f) xs) ≡ units_held s xs
  unfolding through
  units_through s xs = units_from s 0 0 xs

  others_through : (s : Shape) (xs : List Slot) (n : ℕ) → units_of_others s (through (keeping_length f) xs) n ≡ units_of_others s xs n
  others_through s xs n = ap (units_held s) (sym (set_through (keeping_length f) xs n nothing)) ∙ units_through s (set xs n nothing)

  nothing_on : (n : ℕ) (x : Slot) → is_nothing (on_row (keeping_length f n) x) ≡ is_nothing x
  nothing_on n nothing = refl
  nothing_on n (row r) = refl

  long_on : (n : ℕ) (x : Slot) → length (bytes_in (on_row (keeping_length f n) x)) ≡ length (bytes_in x)
  long_on n nothing = refl
  long_on n (row r) = as_long r (f n r)

  pub nothing_through : (xs : List Slot) (n : ℕ) → is_nothing (get_or (through (keeping_length f) xs) n nothing) ≡ is_nothing (get_or xs n nothing)
  nothing_through xs n = ap is_nothing (get_or_through (keeping_length f) xs n) ∙ nothing_on n (get_or xs n nothing)

  pub long_through : (xs : List Slot) (n : ℕ) → length (bytes_at (through (keeping_length f) xs) n) ≡ length (bytes_at xs n)
  long_through xs n = ap (λ (x : Slot). length (bytes_in x)) (get_or_through (keeping_length f) xs n) ∙ long_on n (get_or xs n nothing)

  pub write_through : (s : Shape) (xs : List Slot) (n len : ℕ) → write_answer s (through (keeping_length f) xs) n len ≡ write_answer s xs n len
  write_through s xs n len = rw (others_through s xs n)

  pub clear_through : (s : Shape) (xs : List Slot) (n : ℕ) → clear_answer s (through (keeping_length f) xs) n ≡ clear_answer s xs n
  clear_through s xs n = rw (nothing_through xs n)

  pub length_answer_through : (s : Shape) (xs : List Slot) (n : ℕ) → length_answer s (through (keeping_length f) xs) n ≡ length_answer s xs n
  length_answer_through s xs n = rw (nothing_through xs n, long_through xs n)

  pub read_through : (s : Shape) (xs : List Slot) (n room : ℕ) → read_answer s (through (keeping_length f) xs) n room ≡ read_answer s xs n room
  read_through s xs n room = rw (nothing_through xs n, long_through xs n)

  pub cleared_through : (a : Answer) (xs : List Slot) (n : ℕ) → through (keeping_length f) (held_after_clear a xs n) ≡ held_after_clear a (through (keeping_length f) xs) n
  cleared_through (Ok k) xs n = set_through (keeping_length f) xs n nothing
  cleared_through (Err why) xs n = refl

  -- a row that opens to r, written below
  pub written_through : (s s₁ : Shape) (h h₁ h₂ : List Slot) (n k : ℕ) (r q : List ℕ) (a : Answer) →
      Ok k ≡ write_answer s h n (length r) → s₁ ≡ s → h₁ ≡ h → length q ≡ length r → AllBytes r → f n q ≡ r →
      a ≡ write_answer s₁ h₁ n (length q) → h₂ ≡ held_after_write a h₁ n q →
      (a ≡ Ok k) × (a ≡ write_answer s (through (keeping_length f) h) n (length r)) × (through (keeping_length f) h₂ ≡ held_after_write a (through (keeping_length f) h) n r)
  written_through s s₁ h h₁ h₂ n k r q a ok es eh l fit back ea e₂ =
      let a₁ : a ≡ write_answer s h n (length r) = ea ∙ ap (λ (t : Shape). write_answer t h₁ n (length q)) es ∙ ap (λ (t : List Slot). write_answer s t n (length q)) eh ∙ ap (write_answer s h n) l in
      let a₂ : a ≡ Ok k = a₁ ∙ sym ok in
      let is : keeping_length f n q ≡ r = ap (as_long_as q) back ∙ as_is q r (sym l) fit in (
        a₂,
        a₁ ∙ sym (write_through s h n (length r)),
        ap (through (keeping_length f)) (e₂ ∙ ap (λ (t : Answer). held_after_write t h₁ n q) a₂ ∙ ap (λ (t : List Slot). set t n (row q)) eh)
            ∙ set_through (keeping_length f) h n (row q)
            ∙ ap (λ (t : List ℕ). set (through (keeping_length f) h) n (row t)) is
            ∙ ap (λ (t : Answer). held_after_write t (through (keeping_length f) h) n r) (sym a₂),
      )

  -- a row that was read below, opened in the buffer's first bytes
  pub read_opened : (h : List Slot) (n len m : ℕ) (buf b o : List ℕ) → m ≡ len → len ≡ length (bytes_at h n) → length o ≡ length (take m b) → AllBytes o → is_nothing (get_or h n nothing) ≡ false →
      b ≡ bytes_at h n ++ drop len buf → o ≡ f n (take m b) → o ++ drop m b ≡ bytes_at (through (keeping_length f) h) n ++ drop len buf
  read_opened h n len m buf b o em el long fit some eb eo =
      let front = read_front h n len m buf b em el eb in
      let rest : drop m b ≡ drop len buf = ap (drop m) eb ∙ drop_at (bytes_at h n) (drop len buf) m (sym (em ∙ el)) in
      let opened : o ≡ f n (bytes_at h n) = eo ∙ ap (f n) front in
      let is : bytes_at (through (keeping_length f) h) n ≡ o = ap bytes_in (get_or_through (keeping_length f) h n) ∙ on-bytes (get_or h n nothing) some opened (long ∙ ap length front) in
      ap (λ (t : List ℕ). t ++ drop m b) (sym is) ∙ ap (λ (t : List ℕ). bytes_at (through (keeping_length f) h) n ++ t) rest where
        on-bytes : (x : Slot) → is_nothing x ≡ false → o ≡ f n (bytes_in x) → length o ≡ length (bytes_in x) → bytes_in (on_row (keeping_length f n) x) ≡ o
        on-bytes nothing e eq l = cc
        on-bytes (row r) e eq l = ap (as_long_as r) (sym eq) ∙ as_is r o l fit

pub read_ok : (s : Shape) (h : List Slot) (n room len : ℕ) → Ok len ≡ read_answer s h n room → (n < s.slots) × (is_nothing (get_or h n nothing) ≡ false) × (len ≡ length (bytes_at h n)) × (len ≤ room)
read_ok s h n room len e = grind arith

-- a row that was read is within the limits
pub row_read : (s : Shape) (h : List Slot) (n m : ℕ) (b : List ℕ) → Sound s h → n < s.slots → is_nothing (get_or h n nothing) ≡ false → take m b ≡ bytes_at h n → StringOf 16 1000 (take m b)
row_read s h n m b sound lt some front = subst (StringOf 16 1000) (sym front) (there (get_or h n nothing) some (sound.rows n lt)) where
  there : (x : Slot) → is_nothing x ≡ false → RowFits s x → StringOf 16 1000 (bytes_in x)
  there nothing e fit = cc
  there (row r) e fit = record { low = fit.0; high = omega (arith, fit.1, sound.longest_high); fit = fit.2 }
