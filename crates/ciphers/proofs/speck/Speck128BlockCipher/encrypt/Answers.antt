use Rattle.ciphers.specs.Speck.{speck_forward}
use Rattle.ciphers.proofs.speck.Speck128BlockCipher.encrypt.Goals as goal

pub returns : goal.returns
unfolding speck_forward
returns c = let e = c.args.self.now.made in cc
