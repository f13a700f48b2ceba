use Rattle.ciphers.specs.AesSteps.{mixed_by, inv_mix_column, inv_mix_columns}
use Rattle.ciphers.proofs.aes.steps.inv_mix_columns.Goals as goal

pub returns : goal.returns
unfolding mixed_by inv_mix_column inv_mix_columns
returns c = c.mix.ensures
