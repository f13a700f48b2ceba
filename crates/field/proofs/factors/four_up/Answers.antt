use Rattle.std.proofs.Common.{rules}
use Rattle.field.proofs.Places.{four_up_lem}
use Rattle.field.proofs.factors.four_up.Goals as goal

pub returns : goal.returns
returns c = let e = four_up_lem c.args.a (search rules) in cc
