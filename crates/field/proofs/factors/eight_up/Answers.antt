use Rattle.std.proofs.Common.{rules}
use Rattle.field.proofs.Places.{eight_up_lem}
use Rattle.field.proofs.factors.eight_up.Goals as goal

pub returns : goal.returns
returns c = let e = eight_up_lem c.args.a (search rules) in cc
