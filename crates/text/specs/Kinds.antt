-- The kinds of cipher by their names in a command.
use Rattle.std.specs.Prelude.{◌≡◌, ◌≢◌, ℕ, List, codes, MatchResult, Result}
use Rattle.text.specs.Faults.{AtFault}
use Rattle.text.specs.declared.fault.Fault.{Fault}
use Rattle.text.specs.declared.kinds.CipherKind.{CipherKind}
use Rattle.text.specs.declared.kinds.CipherKind.TheVariants.{Aes128, Speck128}

abbrev pub name_of : CipherKind → List ℕ
name_of Aes128 = codes "aes128"
name_of Speck128 = codes "speck128"

-- what a word is read as: the kind of this name, or the word is at fault, since no kind has this name
abbrev pub ReadsAs : List ℕ → Result CipherKind Fault → Type 0
ReadsAs word r = MatchResult r (λ kind. word ≡ name_of kind) (λ fault. AtFault fault ((kind : CipherKind) → word ≢ name_of kind))
