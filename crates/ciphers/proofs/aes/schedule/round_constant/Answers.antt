use Rattle.std.proofs.Common.{◌-◌, refl, ◌∙◌, rules}
use Rattle.std.proofs.lemmas.Iterator.{YieldsList-from_range}
use Rattle.std.proofs.lemmas.Iterator.Consumers.{fold_from_yields_List}
use Rattle.ciphers.specs.AesField.{product}
use Rattle.ciphers.proofs.AesWords.{constant_doubled}
use Rattle.ciphers.proofs.aes.schedule.round_constant.Goals as goal

pub returns : goal.returns
returns c =
    fold_from_yields_List _ (λ p x. product 2 p) 1 c.fold.result c.fold.ensures.ran (YieldsList-from_range 1 c.args.j (c.args.j - 1) refl refl) (λ a x b q k. search rules)
    ∙ constant_doubled c.args.j
