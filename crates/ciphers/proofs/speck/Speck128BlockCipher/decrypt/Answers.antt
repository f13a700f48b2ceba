use Rattle.ciphers.specs.Speck.{speck_back}
use Rattle.ciphers.proofs.speck.Speck128BlockCipher.decrypt.Goals as goal

pub returns : goal.returns
unfolding speck_back
returns c = let e = c.args.self.now.made in cc
