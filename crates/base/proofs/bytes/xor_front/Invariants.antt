use Rattle.std.proofs.Common.{◌≡◌, take}
use Rattle.base.specs.Bytes.{xor_front}
use Rattle.base.proofs.bytes.xor_front.Given as goal

abbrev pub invariant-loop-i : goal.invariant-loop-i
invariant-loop-i l = l.a ≡ xor_front l.initial.a (take l.i l.b)
