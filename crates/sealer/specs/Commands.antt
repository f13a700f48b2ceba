-- What is answered to a line.
use Rattle.std.specs.Prelude.{◌≡◌, ℕ, ◌⊎◌, List, [], ◌∷◌, ◌++◌, Some, None, Ok, Option, Result, codes}
use Rattle.base.specs.declared.refusals.Refusal.{Refusal}
use Rattle.base.specs.Numbers.{number, bytes}
use Rattle.mode.specs.Cmac.{cmac_of}
use Rattle.mode.specs.Hash.{hash_of}
use Rattle.text.specs.Faults.{answer_to}
use Rattle.text.specs.Hexadecimal.{bytes_of, word_of}
use Rattle.text.specs.Kinds.{name_of}
use Rattle.text.specs.declared.fault.Fault.{Fault}
use Rattle.text.specs.declared.kinds.CipherKind.{CipherKind}
use Rattle.text.specs.Lines.{ReadAs}
use Rattle.sealer.specs.Work.{turned, forward_of, back_of}
use Rattle.sealer.specs.Sealing.{Reads, sealed, opened, sealed_with_proof, opened_with_proof}
use Rattle.sealer.specs.declared.sealing.Sealing.{Sealing}
use Rattle.sealer.specs.declared.work.Way.{Way}
use Rattle.sealer.specs.declared.work.Way.TheVariants.{Forward, Back}

-- the line of an accepted call that answers bytes
abbrev pub accepted : List ℕ → List ℕ
accepted bytes = codes "ok " ++ word_of bytes

-- a block turned under a key, by their words
abbrev pub Turned : Way → List ℕ → List ℕ → List ℕ → List ℕ → Type 0
Turned way cipher key block line =
    (kind : CipherKind) × (k : List ℕ) × (b : List ℕ) × (cipher ≡ name_of kind) × (bytes_of key ≡ Some k) × (bytes_of block ≡ Some b) × (line ≡ accepted (turned way (forward_of kind) (back_of kind) k b))

-- the CMAC of a message under a key, by their words
abbrev pub Coded : List ℕ → List ℕ → List ℕ → List ℕ → Type 0
Coded cipher key message line =
    (kind : CipherKind) × (k : List ℕ) × (m : List ℕ) × (cipher ≡ name_of kind) × (bytes_of key ≡ Some k) × (bytes_of message ≡ Some m) × (line ≡ accepted (cmac_of (forward_of kind k) m))

-- the hash of a message at tau, by their words
abbrev pub Hashed : List ℕ → List ℕ → List ℕ → Type 0
Hashed tau message line =
    (t : List ℕ) × (m : List ℕ) × (bytes_of tau ≡ Some t) × (bytes_of message ≡ Some m) × (line ≡ accepted (bytes 16 (hash_of (number t) m)))

-- a message sealed or opened by a step, by its words
abbrev pub Stepped : (Sealing → Result (List ℕ) Refusal) → List (List ℕ) → List ℕ → Type 0
Stepped step words line = (s : Sealing) × (m : List ℕ) × Reads words s × (step s ≡ Ok m) × (line ≡ accepted m)

-- two words, and three, of which P holds
abbrev pub OfTwo : (List ℕ → List ℕ → Type 0) → List (List ℕ) → Type 0
OfTwo P [] = ⊥
OfTwo P (a ∷ []) = ⊥
OfTwo P (a ∷ (b ∷ [])) = P a b
OfTwo P (a ∷ (b ∷ (word ∷ more))) = ⊥

abbrev pub OfThree : (List ℕ → List ℕ → List ℕ → Type 0) → List (List ℕ) → Type 0
OfThree P [] = ⊥
OfThree P (a ∷ []) = ⊥
OfThree P (a ∷ (b ∷ [])) = ⊥
OfThree P (a ∷ (b ∷ (c ∷ []))) = P a b c
OfThree P (a ∷ (b ∷ (c ∷ (word ∷ more)))) = ⊥

-- the line that is answered to an accepted command on a message, by the command's name and the words after it
abbrev pub OnMessage : List ℕ → List (List ℕ) → List ℕ → Type 0
OnMessage name words line =
    ((name ≡ codes "seal") × Stepped sealed words line)
    ⊎ (((name ≡ codes "open") × Stepped opened words line)
    ⊎ (((name ≡ codes "seal-proof") × Stepped sealed_with_proof words line)
    ⊎ ((name ≡ codes "open-proof") × Stepped opened_with_proof words line)))

-- and to any accepted command
abbrev pub Obeyed : List ℕ → List (List ℕ) → List ℕ → Type 0
Obeyed name words line =
    ((name ≡ codes "encrypt") × OfThree (λ cipher key block. Turned Forward cipher key block line) words)
    ⊎ (((name ≡ codes "decrypt") × OfThree (λ cipher key block. Turned Back cipher key block line) words)
    ⊎ (((name ≡ codes "cmac") × OfThree (λ cipher key message. Coded cipher key message line) words)
    ⊎ (((name ≡ codes "hash") × OfTwo (λ tau message. Hashed tau message line) words)
    ⊎ OnMessage name words line)))

abbrev pub Accepted : List (List ℕ) → List ℕ → Type 0
Accepted [] line = ⊥
Accepted (name ∷ words) line = Obeyed name words line

-- what is answered to a line: nothing where it has no words, and else the line of an accepted command or of a fault
abbrev pub Answered : List ℕ → Option (List ℕ) → Type 0
Answered line None = ReadAs line []
Answered line (Some text) = ((words : List (List ℕ)) × ReadAs line words × Accepted words text) ⊎ ((fault : Fault) × (answer_to fault ≡ Some text))
