use Rattle.std.proofs.Common.{◌≡◌, ◌-◌, ◌^◌, ◌<◌}
use lib.Bits.{bit_xor}
use Rattle.base.proofs.Doubling.{mul_bits, mul}
use Rattle.field.proofs.product.Given as goal

abbrev pub invariant-loop-bit : goal.invariant-loop-bit
invariant-loop-bit l =
    (l.multiple < 2 ^ 128) × (bit_xor l.sum (mul_bits 127 135 (128 - l._bit) l.rest l.multiple) ≡ mul 127 135 l.a l.b)
