use Rattle.std.proofs.Common.{◌≡◌, ◌-◌}
use lib.Bits.{bit_xor}
use Rattle.base.proofs.Doubling.{mul_bits, mul}
use Rattle.ciphers.proofs.aes.field.times.Given as goal

abbrev pub invariant-loop-i : goal.invariant-loop-i
invariant-loop-i l = bit_xor l.sum (mul_bits 7 27 (8 - l._i) l.bits l.multiple) ≡ mul 7 27 l.factor l.a
