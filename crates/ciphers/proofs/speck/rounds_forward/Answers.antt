use Rattle.std.proofs.Common.{rules}
use Rattle.std.proofs.lemmas.Iterator.{YieldsList-from_slice}
use Rattle.std.proofs.lemmas.Iterator.Consumers.{fold_from_yields_List}
use Rattle.ciphers.specs.Speck.{round, rounds}
use Rattle.ciphers.proofs.speck.rounds_forward.Goals as goal

pub returns : goal.returns
unfolding rounds
returns c = fold_from_yields_List _ round c.args.words c.fold.result c.fold.ensures.ran (YieldsList-from_slice c.args.keys.now c.iter.ensures.rest) (λ a x b q k. search rules)
