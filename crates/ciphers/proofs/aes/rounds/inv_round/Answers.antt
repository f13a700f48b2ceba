use Rattle.std.proofs.Common.{rules}
use Rattle.ciphers.specs.Aes.{inv_round}
use Rattle.ciphers.proofs.aes.rounds.inv_round.Goals as goal

pub returns : goal.returns
unfolding inv_round
returns c = search rules
