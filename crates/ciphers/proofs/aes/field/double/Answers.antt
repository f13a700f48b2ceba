use Rattle.std.proofs.Common.{rules}
use Rattle.ciphers.specs.AesFieldLemmas.{product_two}
use Rattle.ciphers.proofs.aes.field.double.Goals as goal

pub returns : goal.returns
returns c = product_two c.args.a (search rules)
