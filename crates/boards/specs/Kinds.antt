-- Kinds of sealing: what an opening answers, and the sealed and the opened form of a row in a slot.
use Rattle.std.specs.Prelude.{◌≡◌, ℕ, ◌+◌, ◌≤◌, List, length, Ok}
use Rattle.base.specs.Bytes.{AllBytes}
use Rattle.devices.specs.Slots.{Shape}
use Rattle.devices.specs.Answers.{Answer}

-- a string of `least` to `longest` bytes
pub record StringOf (least longest : ℕ) (r : List ℕ) : Type 0 where
  pub low : least ≤ length r
  pub high : length r ≤ longest
  pub fit : AllBytes r

-- a kind of sealing; a bundle and a label come first, then the slot
pub record Kind : Type 0 where
  -- what an opening answers
  pub admits : List ℕ → List ℕ → Answer
  -- the sealed form of a row, and the opened form of what a slot holds
  pub seal : List ℕ → List ℕ → ℕ → List ℕ → List ℕ
  pub unseal : List ℕ → List ℕ → ℕ → List ℕ → List ℕ
  -- the shortest and the longest row, and how much longer its sealed form is
  pub least : ℕ
  pub longest : ℕ
  pub extra : ℕ
  -- the shape of a board, its longest row and its units with it, over a device of a shape
  pub shape_over : Shape → Shape

-- a row of this kind, and a string that may be a sealed one
abbrev pub RowOf : Kind → List ℕ → Type 0
RowOf k r = StringOf k.least k.longest r

abbrev pub SealedOf : Kind → List ℕ → Type 0
SealedOf k q = StringOf (k.least + k.extra) (k.longest + k.extra) q

-- an opening with this bundle and label is accepted
abbrev pub Admitted : Kind → List ℕ → List ℕ → Type 0
Admitted k bundle label = k.admits bundle label ≡ Ok 0

-- ---- what the proof of the promise asks of a kind; no contract rests on these

-- under one bundle and label: in each slot, opening gives a sealed row back
pub record OpensSealed (k : Kind) (bundle label : List ℕ) : Type 0 where
  pub opens : (n : ℕ) (r : List ℕ) → RowOf k r → k.unseal bundle label n (k.seal bundle label n r) ≡ r
  pub sealed_long : (n : ℕ) (r : List ℕ) → RowOf k r → length (k.seal bundle label n r) ≡ length r + k.extra
  pub sealed_fit : (n : ℕ) (r : List ℕ) → RowOf k r → AllBytes (k.seal bundle label n r)

-- what a kind may have besides: in each slot, every string as long as a sealed row opens to a row, of which it is the
-- sealed form
pub record SealsOpened (k : Kind) (bundle label : List ℕ) : Type 0 where
  pub seals : (n : ℕ) (q : List ℕ) → SealedOf k q → k.seal bundle label n (k.unseal bundle label n q) ≡ q
  pub opened_long : (n : ℕ) (q : List ℕ) → SealedOf k q → length (k.unseal bundle label n q) + k.extra ≡ length q
  pub opened_fit : (n : ℕ) (q : List ℕ) → SealedOf k q → AllBytes (k.unseal bundle label n q)

-- so it is under every bundle and label that are accepted
abbrev pub Lawful : (Kind → List ℕ → List ℕ → Type 0) → Kind → Type 0
Lawful Facts k = (bundle label : List ℕ) → AllBytes bundle → AllBytes label → Admitted k bundle label → Facts k bundle label
