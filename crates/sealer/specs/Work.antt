-- What the commands ask of a cipher: forward and back are its two functions.
use Rattle.std.specs.Prelude.{ℕ, List}
use Rattle.ciphers.specs.Aes.{forward, back}
use Rattle.ciphers.specs.Speck.{speck_forward, speck_back}
use Rattle.text.specs.declared.kinds.CipherKind.{CipherKind}
use Rattle.text.specs.declared.kinds.CipherKind.TheVariants.{Aes128, Speck128}
use Rattle.sealer.specs.declared.work.Way.{Way}
use Rattle.sealer.specs.declared.work.Way.TheVariants.{Forward, Back}

-- a block turned under a key
abbrev pub turned : Way → (List ℕ → List ℕ → List ℕ) → (List ℕ → List ℕ → List ℕ) → List ℕ → List ℕ → List ℕ
turned Forward forward back key block = forward key block
turned Back forward back key block = back key block

-- the two functions of a kind of cipher
abbrev pub forward_of : CipherKind → List ℕ → List ℕ → List ℕ
forward_of Aes128 = forward 4
forward_of Speck128 = speck_forward

abbrev pub back_of : CipherKind → List ℕ → List ℕ → List ℕ
back_of Aes128 = back 4
back_of Speck128 = speck_back
