use Rattle.std.proofs.Common.{rules}
use Rattle.base.proofs.Zeros.{zero_each}
use Rattle.base.proofs.bytes.all_zero.Goals as goal

pub returns : goal.returns
returns c = zero_each c.args.bytes.now c.all.result (search rules)
