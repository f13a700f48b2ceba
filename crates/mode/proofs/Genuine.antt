-- Spare bytes made zero in place.
use Rattle.std.proofs.Common.{◌≡◌, ℕ, ◌-◌, ◌≤◌, Bool, true, List, [], ◌++◌, length, take, drop, sym, ap, ◌∙◌, arith, length-append, length-drop, length-take}
use borrow.Rule.Slice.PartMut.{put_mid}
use Rattle.std.proofs.lemmas.List.{take_rest, drop_at, drop-drop, drop_all, append-nil}
use Rattle.base.specs.Bytes.{zeros, all_zero}
use Rattle.base.specs.Blocks.{Message}
use Rattle.base.proofs.Strings.{zeros_long, zeros_bytes, take_bytes, append_bytes}
use Rattle.base.proofs.Zeros.{zeros_zero}
use Rattle.mode.specs.Calls.{genuine, spare_zeroed}

spare_front : (m : List ℕ) → 16 ≤ length m → length (take (length m - 16) m) ≡ length m - 16
spare_front m h = length-take (length m - 16) m ∙ omega arith

pub zeroed_long : (m : List ℕ) → 16 ≤ length m → length (spare_zeroed m) ≡ length m
zeroed_long m h = length-append (take (length m - 16) m) (zeros 16) ∙ omega (arith, zeros_long 16, spare_front m h)

pub zeroed_message : (m : List ℕ) → Message m → Message (spare_zeroed m)
zeroed_message m h = record {
  long = omega (arith, zeroed_long m h.long, h.long);
  fit = append_bytes (take (length m - 16) m) (zeros 16) (take_bytes (length m - 16) m h.fit) (zeros_bytes 16);
}

pub zeroed_genuine : (m : List ℕ) → 16 ≤ length m → genuine (spare_zeroed m) ≡ true
zeroed_genuine m h =
    ap (λ (k : ℕ). all_zero (drop (k - 16) (spare_zeroed m))) (zeroed_long m h)
    ∙ ap all_zero (drop_at (take (length m - 16) m) (zeros 16) (length m - 16) (spare_front m h)) ∙ zeros_zero 16

-- what wiping the last sixteen bytes leaves
pub wiped_spare : (m new : List ℕ) → 16 ≤ length m → new ≡ zeros (length (take (length m - (length m - 16)) (drop (length m - 16) m))) → put_mid (length m - 16) (length m - (length m - 16)) m new ≡ spare_zeroed m
wiped_spare m new h e =
    let k : length (take (length m - (length m - 16)) (drop (length m - 16) m)) ≡ 16 = length-take (length m - (length m - 16)) (drop (length m - 16) m) ∙ simp length-drop (omega arith) in
    let z : drop (length m - (length m - 16)) (drop (length m - 16) m) ≡ [] = drop-drop (length m - (length m - 16)) (length m - 16) m ∙ drop_all _ m (omega arith) in
    ap (λ (q : List ℕ). take (length m - 16) m ++ (new ++ q)) z
    ∙ ap (λ (q : List ℕ). take (length m - 16) m ++ q) (append-nil new ∙ e ∙ ap zeros k)

-- what the test of the last sixteen bytes says of an opened message
pub spare_tested : (m last : List ℕ) (t : Bool) → last ≡ m → t ≡ all_zero (take (length last - (length last - 16)) (drop (length last - 16) last)) → genuine m ≡ t
spare_tested m last t e h = sym (h ∙ ap all_zero (take_rest last (length last - 16)) ∙ ap genuine e)
