use Rattle.ciphers.proofs.AesMade.{forward_held}
use Rattle.ciphers.proofs.aes.Aes128BlockCipher.encrypt.Goals as goal

pub returns : goal.returns
returns c = let e = forward_held 4 c.args.self.now.schedule c.args.block.now c.args.self.now.long c.args.self.now.made in cc
