-- What words stand for: a layout, a call.
use Rattle.std.specs.Prelude.{◌≡◌, ℕ, ◌^◌, ◌<◌, ◌≤◌, List, [], ◌∷◌, Some, vec_items, vec_len, codes, MatchResult, Result}
use Rattle.base.specs.Bytes.{zeros}
use Rattle.text.specs.Hexadecimal.{bytes_of}
use Rattle.text.specs.Decimal.{Spells}
use Rattle.text.specs.Faults.{AtFault, AtFaultOrFull}
use Rattle.text.specs.declared.fault.Fault.{Fault}
use Rattle.boards.specs.declared.calls.Call.{Call}
use Rattle.boards.specs.declared.calls.Call.TheVariants.{Open, Write, Read, Clear, Length, Fits, Find, Shut}
use Rattle.commands.specs.declared.layout.Layout.{Layout}
use Rattle.commands.specs.declared.layout.Layout.TheVariants.{Tray, Chain}

-- ---- layouts

-- the dimensions of a tray
abbrev pub OfTray : List (List ℕ) → Layout → Type 0
OfTray words (Chain l) = ⊥
OfTray [] (Tray l) = ⊥
OfTray (a ∷ []) (Tray l) = ⊥
OfTray (slots ∷ (longest ∷ [])) (Tray l) = Spells slots l.slots × Spells longest l.longest
OfTray (a ∷ (b ∷ (c ∷ more))) (Tray l) = ⊥

-- those of a chain
abbrev pub OfChain : List (List ℕ) → Layout → Type 0
OfChain words (Tray l) = ⊥
OfChain [] (Chain l) = ⊥
OfChain (a ∷ []) (Chain l) = ⊥
OfChain (a ∷ (b ∷ [])) (Chain l) = ⊥
OfChain (slots ∷ (longest ∷ (cells ∷ []))) (Chain l) = Spells slots l.slots × Spells longest l.longest × Spells cells l.cells
OfChain (a ∷ (b ∷ (c ∷ (d ∷ more)))) (Chain l) = ⊥

-- all the words of a layout: its kind, and its dimensions
abbrev pub LayoutMeans : List (List ℕ) → Layout → Type 0
LayoutMeans [] layout = ⊥
LayoutMeans (kind ∷ dims) (Tray l) = (kind ≡ codes "tray") × OfTray dims (Tray l)
LayoutMeans (kind ∷ dims) (Chain l) = (kind ≡ codes "chain") × OfChain dims (Chain l)

-- its dimensions are numbers that can be held
abbrev pub CanBeHeld : Layout → Type 0
CanBeHeld (Tray l) = (l.slots < 2 ^ 64) × (l.longest < 2 ^ 64)
CanBeHeld (Chain l) = (l.slots < 2 ^ 64) × (l.longest < 2 ^ 64) × (l.cells < 2 ^ 64)

-- a layout was read: M holds of it; or the words are at fault, since M holds of none that can be held
abbrev pub LayoutRead : (Layout → Type 0) → Result Layout Fault → Type 0
LayoutRead M r = MatchResult r M (λ fault. AtFault fault ((layout : Layout) → CanBeHeld layout → M layout → ⊥))

-- ---- calls

-- a name alone
abbrev pub OfNone : List ℕ → Call → Type 0
OfNone name (Open bundle label) = ⊥
OfNone name (Write slot row) = ⊥
OfNone name (Read slot buffer) = ⊥
OfNone name (Clear slot) = ⊥
OfNone name (Length slot) = ⊥
OfNone name (Fits slot len) = ⊥
OfNone name (Find front work) = ⊥
OfNone name Shut = name ≡ codes "shut"

-- a name and one word
abbrev pub OfOne : List ℕ → List ℕ → Call → Type 0
OfOne name word (Open bundle label) = ⊥
OfOne name word (Write slot row) = ⊥
OfOne name word (Read slot buffer) = ⊥
OfOne name word (Clear slot) = (name ≡ codes "clear") × Spells word slot
OfOne name word (Length slot) = (name ≡ codes "length") × Spells word slot
OfOne name word (Fits slot len) = ⊥
OfOne name word (Find front work) = ⊥
OfOne name word Shut = ⊥

-- a name and two words; a buffer is zeros, as many as its word says
abbrev pub OfTwo : List ℕ → List ℕ → List ℕ → Call → Type 0
OfTwo name first second (Open bundle label) = (name ≡ codes "open") × (bytes_of first ≡ Some (vec_items bundle)) × (bytes_of second ≡ Some (vec_items label))
OfTwo name first second (Write slot row) = (name ≡ codes "write") × Spells first slot × (bytes_of second ≡ Some (vec_items row))
OfTwo name first second (Read slot buffer) = (name ≡ codes "read") × Spells first slot × Spells second (vec_len buffer) × (vec_items buffer ≡ zeros (vec_len buffer))
OfTwo name first second (Clear slot) = ⊥
OfTwo name first second (Length slot) = ⊥
OfTwo name first second (Fits slot len) = (name ≡ codes "fits") × Spells first slot × Spells second len
OfTwo name first second (Find front work) = (name ≡ codes "find") × (bytes_of first ≡ Some (vec_items front)) × Spells second (vec_len work) × (vec_items work ≡ zeros (vec_len work))
OfTwo name first second Shut = ⊥

-- all the words of a call
abbrev pub Means : List (List ℕ) → Call → Type 0
Means [] call = ⊥
Means (name ∷ []) call = OfNone name call
Means (name ∷ (word ∷ [])) call = OfOne name word call
Means (name ∷ (first ∷ (second ∷ []))) call = OfTwo name first second call
Means (name ∷ (first ∷ (second ∷ (third ∷ more)))) call = ⊥

-- the longest buffer that a call may ask for
abbrev pub longest_buffer : ℕ
longest_buffer = 70000

-- its numbers can be held, and its buffer is not too long
abbrev pub CanBeMade : Call → Type 0
CanBeMade (Open bundle label) = Unit {0}
CanBeMade (Write slot row) = slot < 2 ^ 64
CanBeMade (Read slot buffer) = (slot < 2 ^ 64) × (vec_len buffer ≤ longest_buffer)
CanBeMade (Clear slot) = slot < 2 ^ 64
CanBeMade (Length slot) = slot < 2 ^ 64
CanBeMade (Fits slot len) = (slot < 2 ^ 64) × (len < 2 ^ 64)
CanBeMade (Find front work) = vec_len work ≤ longest_buffer
CanBeMade Shut = Unit {0}

-- a call was read: it can be made, and M holds of it; or the words are at fault, since M holds of none that can be made
abbrev pub CallRead : (Call → Type 0) → Result Call Fault → Type 0
CallRead M r = MatchResult r (λ call. CanBeMade call × M call) (λ fault. AtFaultOrFull fault ((call : Call) → CanBeMade call → M call → ⊥))
