-- A line cut into words, one after another.
use Rattle.std.proofs.Common.{◌≡◌, ℕ, false, List, [], ◌∷◌, ◌++◌, map, length, get_or, Some, Decides, sym, refl, subst, append_assoc, append-nil, arith, Bor}
use Rattle.std.specs.Char.{is_not_whitespace}
use Rattle.std.specs.Str.{NoCharPasses}
use Rattle.std.specs.Str.Iter.{split_whitespace_rest, split_whitespace_steps}
use Rattle.std.specs.declared.str.SplitWhitespace.{SplitWhitespace}
use Rattle.std.proofs.lemmas.Bool.Decides.{not_from_Decides}
use Rattle.text.specs.Lines.{First, Words, Marked, NoComment, Comment}

-- these words of the line were cut off, and rest is left
pub record CutOff (line rest : List ℕ) (words : List (List ℕ)) : Type 0 where
  pub joins : (later : List (List ℕ)) → Words rest later → Words line (words ++ later)
  pub begins : words ≡ [] → rest ≡ line
  pub plain : NoComment words

pub first_step : (s t : SplitWhitespace) (x : Bor (List ℕ)) → split_whitespace_steps s (Some x) t → First (split_whitespace_rest s) x.now (split_whitespace_rest t)
first_step s t x step = record { gap = step.0; whole = step.1; some = step.2; blank = step.3; solid = step.4; ended = step.5 }

pub cut_none : (line : List ℕ) → CutOff line line []
cut_none line = record { joins = λ later cut. cut; begins = λ e. refl; plain = tt }

pub cut_more : (line rest left w : List ℕ) (words : List (List ℕ)) → CutOff line rest words → First rest w left → (words ≡ [] → Marked w → ⊥) → CutOff line left (words ++ (w ∷ []))
cut_more line rest left w words off first unmarked = record {
  joins = λ later cut. subst (Words line) (sym (append_assoc words (w ∷ []) later)) (off.joins (w ∷ later) (left, first, cut));
  begins = λ e. absurd (not-empty words e);
  plain = still-plain words off.plain unmarked;
}
  where
    not-empty : (words : List (List ℕ)) → words ++ (w ∷ []) ≡ [] → ⊥
    not-empty [] e = let z : ◌≡◌ {A = ℕ} 0 1 = cc in absurd (omega arith)
    not-empty (v ∷ vs) e = let z : ◌≡◌ {A = ℕ} 0 1 = cc in absurd (omega arith)

    still-plain : (words : List (List ℕ)) → NoComment words → (words ≡ [] → Marked w → ⊥) → NoComment (words ++ (w ∷ []))
    still-plain [] plain unmarked = unmarked refl
    still-plain (v ∷ vs) plain unmarked = plain

pub cut_all : (line rest : List ℕ) (words : List (List ℕ)) → CutOff line rest words → NoCharPasses is_not_whitespace rest → Words line words × NoComment words
cut_all line rest words off blank = (subst (Words line) (append-nil words) (off.joins [] blank), off.plain)

pub cut_comment : (line rest left w : List ℕ) (words : List (List ℕ)) → CutOff line rest words → words ≡ [] → First rest w left → Marked w → Comment line
cut_comment line rest left w words off none first marked = let P : List ℕ → Type 0 = λ r. First r w left in (w, left, subst P (off.begins none) first, marked)

-- what a vector of words holds, as texts
abbrev pub texts : List (Bor (List ℕ)) → List (List ℕ)
texts words = map (λ w. w.now) words

pub texts_none : (words : List (Bor (List ℕ))) → length words ≡ 0 → texts words ≡ []
texts_none [] none = refl
texts_none (w ∷ words) none = absurd (omega arith)

pub texts_some : (words : List (Bor (List ℕ))) → (length words ≡ 0 → ⊥) → texts words ≡ [] → ⊥
texts_some [] some e = some refl
texts_some (w ∷ words) some e = let z : ◌≡◌ {A = ℕ} 0 1 = cc in absurd (omega arith)

pub unmarked : (w : List ℕ) → Decides false (get_or w 0 0 ≡ 35) → Marked w → ⊥
unmarked w differs = not_from_Decides false differs refl
