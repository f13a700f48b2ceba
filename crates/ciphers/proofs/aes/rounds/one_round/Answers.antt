use Rattle.std.proofs.Common.{rules}
use Rattle.ciphers.specs.Aes.{round}
use Rattle.ciphers.proofs.aes.rounds.one_round.Goals as goal

pub returns : goal.returns
unfolding round
returns c = search rules
