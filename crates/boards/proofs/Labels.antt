-- Labels padded with zeros, and what a slot's nonce is made of.
use Rattle.std.proofs.Common.{◌≡◌, ℕ, ◌+◌, ◌-◌, ◌/◌, ◌%◌, ◌≤◌, List, [], ◌∷◌, ◌++◌, length, drop, sym, refl, ap, ◌∙◌, subst, arith, length-append}
use Rattle.std.proofs.lemmas.List.{append-nil, length-replicate, drop-replicate, take_at}
use Rattle.base.specs.Bytes.{AllBytes, zeros}
use Rattle.base.specs.Numbers.{bytes}
use Rattle.base.proofs.Digits.{to_le_32}
use Rattle.base.proofs.Strings.{append_bytes, zeros_bytes, take_bytes}
use borrow.Rule.Slice.PartMut.{put_mid}
use Rattle.boards.specs.Contexts.{label_limit, padded_label, context_of}

pub padded_long : (label : List ℕ) → length label ≤ label_limit → length (padded_label label) ≡ 12
unfolding padded_label
padded_long label h = length-append label (zeros (12 - length label)) ∙ ap (λ (n : ℕ). length label + n) (length-replicate (12 - length label) 0) ∙ omega arith

pub padded_bytes : (label : List ℕ) → AllBytes label → AllBytes (padded_label label)
unfolding padded_label
padded_bytes label h = append_bytes label (zeros (12 - length label)) h (zeros_bytes (12 - length label))

-- a label is bytes if the padded one is
pub unpadded_bytes : (label : List ℕ) → AllBytes (padded_label label) → AllBytes label
unfolding padded_label
unpadded_bytes label h = subst AllBytes (take_at label (zeros (12 - length label)) (length label) refl) (take_bytes (length label) (label ++ zeros (12 - length label)) h)

-- padding twice adds nothing
pub padded_again : (bs : List ℕ) → length bs ≡ 12 → padded_label bs ≡ bs
unfolding padded_label
padded_again bs h = ap (λ (n : ℕ). bs ++ zeros (12 - n)) h ∙ append-nil bs

pub context_padded : (n : ℕ) (label : List ℕ) → length label ≤ label_limit → context_of n (padded_label label) ≡ context_of n label
unfolding context_of
context_padded n label h = ap (λ (p : List ℕ). record { nonce = bytes 4 n ++ p; associated = [] }) (padded_again (padded_label label) (padded_long label h))

-- a label copied over zeros
pub copied_label : (label copy : List ℕ) → copy ≡ label → length label ≤ label_limit → copy ++ drop (length label) (zeros 12) ≡ padded_label label
unfolding padded_label
copied_label label copy e h = ap (λ (c : List ℕ). c ++ drop (length label) (zeros 12)) e ∙ ap (λ (z : List ℕ). label ++ z) (drop-replicate (length label) 12 0)

-- a slot's number and a label side by side
pub nonce_made : (slot : ℕ) (number label : List ℕ) → number ≡ bytes 4 slot → length label ≡ 12 → number ++ label ≡ (context_of slot label).nonce
unfolding context_of
nonce_made slot number label e h = ap (λ (x : List ℕ). x ++ label) e ∙ ap (λ (x : List ℕ). bytes 4 slot ++ x) (sym (padded_again label h))

-- the same, as it is written over zeros
pub nonce_put : (slot : ℕ) (number given label : List ℕ) → number ≡ (slot % 256) ∷ (slot / 256 % 256) ∷ (slot / 65536 % 256) ∷ (slot / 16777216 % 256) ∷ [] → given ≡ label → length label ≡ 12 → put_mid 4 12 (number ++ zeros 12) given ≡ (context_of slot label).nonce
nonce_put slot number given label e g h =
    ap (λ (x : List ℕ). put_mid 4 12 (x ++ zeros 12) given) e
    ∙ ap (λ (x : List ℕ). (slot % 256) ∷ (slot / 256 % 256) ∷ (slot / 65536 % 256) ∷ (slot / 16777216 % 256) ∷ x) (append-nil given ∙ g)
    ∙ nonce_made slot ((slot % 256) ∷ (slot / 256 % 256) ∷ (slot / 65536 % 256) ∷ (slot / 16777216 % 256) ∷ []) label (to_le_32 slot) h
