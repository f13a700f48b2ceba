use Rattle.std.proofs.Common.{◌≡◌, ℕ, ◌*◌, ◌%◌, ◌^◌, mod-eq_of_lt, arith}
use Rattle.field.proofs.Places.{reduction}
use Rattle.field.proofs.factors.reduced.Goals as goal

pub returns : goal.returns
returns c =
    let t : ℕ = c.args.top in
    let a : (t * 128) % 2 ^ 128 ≡ t * 128 = mod-eq_of_lt (omega arith) in
    let b : (t * 4) % 2 ^ 128 ≡ t * 4 = mod-eq_of_lt (omega arith) in
    let d : (t * 2) % 2 ^ 128 ≡ t * 2 = mod-eq_of_lt (omega arith) in
    let e = reduction t c.requires in
    cc
