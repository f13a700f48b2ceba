use Rattle.std.proofs.Common.{arith, rules}
use Rattle.tray.proofs.Deciding.{admitted}
use Rattle.tray.proofs.Tray.admit.Goals as goal

pub returns-clause-answer : goal.returns-clause-answer
returns-clause-answer c = let t = c.args.self.now in admitted t.layout.slots t.layout.longest _ c.args.slot c.args.len (omega arith) (search rules) (search rules)
