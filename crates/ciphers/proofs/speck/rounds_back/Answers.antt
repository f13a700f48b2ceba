use Rattle.std.proofs.Common.{sym, ◌∙◌, rules}
use Rattle.std.proofs.lemmas.Iterator.Adapters.{YieldsList-from_rev_slice}
use Rattle.std.proofs.lemmas.Iterator.Consumers.{fold_from_yields_List}
use Rattle.ciphers.specs.Speck.{unround}
use Rattle.ciphers.specs.SpeckRounds.{unrounds_reversed}
use Rattle.ciphers.proofs.speck.rounds_back.Goals as goal

pub returns : goal.returns
returns c =
    fold_from_yields_List _ unround c.args.words c.fold.result c.fold.ensures.ran (YieldsList-from_rev_slice c.args.keys.now (search rules)) (λ a x b q k. search rules)
    ∙ sym (unrounds_reversed c.args.words c.args.keys.now)
