use Rattle.ciphers.proofs.AesMade.{back_held}
use Rattle.ciphers.proofs.aes.Aes128BlockCipher.decrypt.Goals as goal

pub returns : goal.returns
returns c = let e = back_held 4 c.args.self.now.schedule c.args.block.now c.args.self.now.long c.args.self.now.made in cc
