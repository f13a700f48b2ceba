use Rattle.std.proofs.Common.{rules}
use Rattle.ciphers.specs.AesTables.{substitution_table}
use Rattle.ciphers.specs.AesTablesLemmas.{entry_is}
use Rattle.ciphers.proofs.aes.tables.substitute.Goals as goal

pub returns : goal.returns
unfolding substitution_table
returns c = entry_is c.args.a (search rules)
