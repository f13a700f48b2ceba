use Rattle.ciphers.specs.AesSteps.{mixed_by, mix_column, mix_columns}
use Rattle.ciphers.proofs.aes.steps.mix_columns.Goals as goal

pub returns : goal.returns
unfolding mixed_by mix_column mix_columns
returns c = c.mix.ensures
