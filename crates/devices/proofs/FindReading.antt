-- A read from a slot that is there, into a buffer as long as the longest row.
use Rattle.std.proofs.Common.{◌≡◌, ℕ, ◌<◌, ◌≤◌, cond, List, ◌++◌, length, get_or, take, drop, Ok, Err, refl, ap, ◌∙◌, arith}
use Rattle.std.proofs.lemmas.List.{take_at}
use Rattle.std.proofs.lemmas.Slice.{drop-append-drop}
use Rattle.std.proofs.lemmas.Bool.{lt-leb, le-ltb}
use Rattle.base.specs.declared.refusals.Refusal.TheVariants.{EmptySlot}
use Rattle.devices.specs.Slots.{Slot, nothing, row, Shape, Sound, RowFits}
use Rattle.devices.specs.Answers.{Answer, read_answer, buffer_after_read, bytes_in, is_nothing}

-- such a read is declined only where the slot is empty
wide_answer : Slot → Answer
wide_answer x = cond (is_nothing x) (Err EmptySlot) (Ok (length (bytes_in x)))

wide : (s : Shape) (held : List Slot) (i n : ℕ) (x : Slot) → get_or held i nothing ≡ x → RowFits s x → i < s.slots → s.longest ≤ n →
    read_answer s held i n ≡ wide_answer x
unfolding wide_answer
wide s held i n nothing e fits h k = rw (lt-leb s.slots i h, e) refl
wide s held i n (row r) e fits h k = rw (lt-leb s.slots i h, e, le-ltb n (length r) (omega arith)) refl

-- what an accepted read of n bytes says of the slot's row and of the buffer after it
pub record Taken (s : Shape) (x : Slot) (n : ℕ) (before after : List ℕ) : Type 0 where
  pub is : x ≡ row (bytes_in x)
  pub high : n ≤ s.longest
  pub bytes : take n after ≡ bytes_in x
  pub rest : drop s.longest after ≡ drop s.longest before

taken_at : (s : Shape) (x : Slot) (n : ℕ) (before after : List ℕ) → RowFits s x → Ok n ≡ wide_answer x → after ≡ bytes_in x ++ drop n before →
    Taken s x n before after
unfolding wide_answer
taken_at s nothing n before after fits e f = let q : ◌≡◌ {A = ℕ} 0 1 = cc in absurd (omega arith)
taken_at s (row r) n before after fits e f =
    let l : length r ≡ n = cc in
    record {
      is = refl;
      high = omega arith;
      bytes = ap (take n) f ∙ take_at r (drop n before) n l;
      rest = ap (drop s.longest) f ∙ drop-append-drop n before r s.longest (omega arith) l;
    }

pub taken : (s : Shape) (held : List Slot) (i n : ℕ) (before after : List ℕ) → Sound s held → i < s.slots → s.longest ≤ length before →
    Ok n ≡ read_answer s held i (length before) → after ≡ buffer_after_read (Ok n) held i before → Taken s (get_or held i nothing) n before after
taken s held i n before after ok h k e f =
    let fits = ok.rows i h in
    taken_at s (get_or held i nothing) n before after fits (e ∙ wide s held i (length before) (get_or held i nothing) refl fits h k) f
