use Rattle.std.proofs.Common.{arith}
use borrow.Author.Tests.{ltb-true, ltb-false}
use Rattle.sealer.proofs.Words.{five}
use Rattle.sealer.proofs.sealing.Sealing.read.Goals as goal
use Rattle.sealer.proofs.sealing.Sealing.read.Goals.{in_default-via-then-words-lt5, in_default-via-else-words-lt5+else-words-lt6}

pub returns-in_default : goal.returns-in_default
returns-in_default c s =
    five c.args.words.now s (λ long. elim c.in_default.branch [
      | in_default-via-then-words-lt5 w ↦ grind (arith, ltb-true, ltb-false)
      | in_default-via-else-words-lt5+else-words-lt6 w ↦ grind (arith, ltb-true, ltb-false)
    ])
