use Rattle.std.proofs.Common.{◌∙◌, rules}
use Rattle.ciphers.specs.AesTables.{inv_substitution_table}
use Rattle.ciphers.proofs.AesLoops.{looked_up_back}
use Rattle.ciphers.proofs.aes.steps.inv_shift_sub.Goals as goal

pub returns : goal.returns
unfolding inv_substitution_table
returns c = c.looked_up.ensures ∙ looked_up_back c.args.block (λ i. search rules)
