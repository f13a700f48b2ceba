use Rattle.std.proofs.Common.{◌≡◌, take, string_bytes}
use Rattle.text.specs.Hexadecimal.{digits_of}
use Rattle.text.proofs.hex.encode.Given as goal

abbrev pub invariant-loop-b : goal.invariant-loop-b
invariant-loop-b l = string_bytes l.word ≡ digits_of (take l.b-index l.bytes)
