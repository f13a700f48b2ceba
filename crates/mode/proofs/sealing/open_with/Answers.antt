use Rattle.mode.specs.Sealing.{opened_with}
use Rattle.mode.proofs.sealing.open_with.Goals as goal

pub returns : goal.returns
unfolding opened_with
returns g c = cc
