use Rattle.ciphers.specs.AesSteps.{row}
use Rattle.ciphers.proofs.aes.steps.row.Goals as goal

pub returns : goal.returns
unfolding row
returns c = cc
