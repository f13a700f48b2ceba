use Rattle.mode.specs.Sealing.{sealed_with}
use Rattle.mode.proofs.sealing.seal_with.Goals as goal

pub returns : goal.returns
unfolding sealed_with
returns g c = cc
