use Rattle.std.proofs.Common.{rules}
use Rattle.std.proofs.lemmas.List.{take_min}
use Rattle.commands.proofs.answers.front.Goals as goal

pub returns : goal.returns
returns c = search (rules, take_min c.args.n c.args.bytes.now)
