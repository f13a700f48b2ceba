use Rattle.std.proofs.Common.{◌≡◌, ◌*◌, ◌/◌, ◌%◌, ◌^◌, rules}
use lib.Bits.{xor_zero_r}
use Rattle.base.proofs.Doubling.{twice}
use Rattle.field.proofs.Products.{times_z_twice}
use Rattle.field.proofs.double.Goals as goal

pub returns-then-a-eq1 : goal.returns-then-a-eq1
unfolding twice
returns-then-a-eq1 c =
    let top : c.args.a / 2 ^ 127 % 2 ≡ 1 = search rules in
    let e = times_z_twice c.args.a (search rules) in
    cc

pub returns-else-a-eq1 : goal.returns-else-a-eq1
unfolding twice
returns-else-a-eq1 c =
    let top : c.args.a / 2 ^ 127 % 2 ≡ 0 = search rules in
    let e = times_z_twice c.args.a (search rules) in
    let z = xor_zero_r ((c.args.a * 2) % 2 ^ 128) in
    cc
