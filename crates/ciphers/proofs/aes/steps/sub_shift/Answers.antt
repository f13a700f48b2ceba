use Rattle.std.proofs.Common.{◌∙◌, rules}
use Rattle.ciphers.specs.AesTables.{substitution_table}
use Rattle.ciphers.proofs.AesLoops.{looked_up_ahead}
use Rattle.ciphers.proofs.aes.steps.sub_shift.Goals as goal

pub returns : goal.returns
unfolding substitution_table
returns c = c.looked_up.ensures ∙ looked_up_ahead c.args.block (search rules) (λ i. search rules)
