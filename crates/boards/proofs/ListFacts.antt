-- One more call of a list.
use Rattle.std.proofs.Common.{◌≡◌, ℕ, ◌+◌, ◌<◌, ◌≤◌, List, [], ◌∷◌, ◌++◌, length, get_or, take, drop, set, sym, refl, ap, ◌∙◌, subst, add-zero, arith}
use Rattle.std.specs.List.{AllByRecursion}
use Rattle.std.proofs.lemmas.List.{take_more, take_more_set, drop-set-lt, drop-drop, get_or-drop, take_all}
use Rattle.devices.specs.Slots.{Shape}
use Rattle.boards.specs.declared.calls.Entry.{Entry}
use Rattle.boards.specs.Kinds.{Kind}
use Rattle.boards.specs.Plain.{Plain, asked, buffer_of, Unchanging, next, May, Answered, after}

module _ (k : Kind) (s : Shape) where
  pub after_push : (p : Plain) (es : List Entry) (e : Entry) → after k s p (es ++ e ∷ []) ≡ next k s (after k s p es) e.call
  after_push p [] e = refl
  after_push p (x ∷ es) e = after_push (next k s p x.call) es e

  pub answered_push : (p : Plain) (es fs : List Entry) (e f : Entry) → Answered k s p es fs → asked f.call ≡ asked e.call → May k s (after k s p es) e.call (buffer_of f.call) f.reply → Answered k s p (es ++ e ∷ []) (fs ++ f ∷ [])
  answered_push p [] [] e f so hd m = (hd, m, tt)
  answered_push p [] (y ∷ fs) e f so hd m = absurd so
  answered_push p (x ∷ es) [] e f so hd m = absurd so
  answered_push p (x ∷ es) (y ∷ fs) e f so hd m = (so.0, so.1, answered_push (next k s p x.call) es fs e f so.2 hd m)

-- no call of the list was an accepted write or an accepted clear
abbrev pub Quiet : List Entry → Type 0
Quiet done = AllByRecursion (λ e. Unchanging e.reply (asked e.call)) done

quiet_last : (es : List Entry) (e : Entry) → Quiet (es ++ e ∷ []) → Quiet es × Unchanging e.reply (asked e.call)
quiet_last [] e h = (tt, h.0)
quiet_last (x ∷ es) e h = let r = quiet_last es e h.1 in ((h.0, r.0), r.1)

pub quiet_more : (is : List Entry) (i : ℕ) (f : Entry) → i < length is → Quiet (take (i + 1) (set is i f)) → Quiet (take i is) × Unchanging f.reply (asked f.call)
quiet_more is i f lt h = quiet_last (take i is) f (subst Quiet (take_more_set is i f lt) h)

-- the loop: `was` is the list at the start, `is` the list so far, and x the entry at i, which becomes f
module _ (was is : List Entry) (i : ℕ) (x : Entry) (within : i < length was) (long : length is ≡ length was) (rest : drop i is ≡ drop i was) (read : x ≡ get_or is i x) where
  at_was : get_or was i x ≡ x
  at_was =
      let a : get_or (drop i was) 0 x ≡ get_or was i x = get_or-drop i was 0 x ∙ ap (λ n. get_or was n x) (add-zero i) in
      let b : get_or (drop i is) 0 x ≡ get_or is i x = get_or-drop i is 0 x ∙ ap (λ n. get_or is n x) (add-zero i) in
      sym a ∙ ap (λ l. get_or l 0 x) (sym rest) ∙ b ∙ sym read

  more_was : take (i + 1) was ≡ take i was ++ x ∷ []
  more_was = take_more was i x within ∙ ap (λ y. take i was ++ y ∷ []) at_was

  pub more_rest : (f : Entry) → drop (i + 1) (set is i f) ≡ drop (i + 1) was
  more_rest f = drop-set-lt (i + 1) is i f (omega arith) ∙ sym (drop-drop 1 i is) ∙ ap (drop 1) rest ∙ drop-drop 1 i was

  pub more_after : (k : Kind) (s : Shape) (p : Plain) → after k s p (take (i + 1) was) ≡ next k s (after k s p (take i was)) x.call
  more_after k s p = ap (after k s p) more_was ∙ after_push k s p (take i was) x

  pub more_answered : (k : Kind) (s : Shape) (p : Plain) (f : Entry) → Answered k s p (take i was) (take i is) → asked f.call ≡ asked x.call → May k s (after k s p (take i was)) x.call (buffer_of f.call) f.reply → Answered k s p (take (i + 1) was) (take (i + 1) (set is i f))
  more_answered k s p f so hd m =
      let b : take (i + 1) (set is i f) ≡ take i is ++ f ∷ [] = take_more_set is i f (omega arith) in
      rw (more_was, b) (answered_push k s p (take i was) (take i is) x f so hd m)

pub all_taken : (P : List Entry → List Entry → Type 0) (was is : List Entry) (i : ℕ) → length was ≤ i → length is ≡ length was → P (take i was) (take i is) → P was is
all_taken P was is i le long p =
    let a : take i was ≡ was = take_all i was le in
    let b : take i is ≡ is = take_all i is (omega arith) in
    subst (λ (l : List Entry). P was l) b (subst (λ (l : List Entry). P l (take i is)) a p)
