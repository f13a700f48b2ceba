use Rattle.std.proofs.Common.{sym, ◌∙◌, arith, rules}
use Rattle.base.proofs.Strings.{front_none, front_more, front_enough}
use Rattle.base.proofs.bytes.xor_front.Goals as goal

pub loop-i-init : goal.loop-i-init
loop-i-init c = sym (front_none c.args.a.now)

pub loop-i-preserved : goal.loop-i-preserved
loop-i-preserved c = front_more c.args.a.now c.args.b.now c.loop-i.a c.loop-i.i c.loop-i.invariant (search rules) (search rules)

pub returns : goal.returns
returns c = c.loop-i.invariant ∙ front_enough c.loop-i.i c.args.a.now c.args.b.now (λ l. omega arith)
