use Rattle.std.proofs.Common.{◌*◌, ◌%◌, get_or, rules}
use Rattle.ciphers.proofs.Made.{made}
use Rattle.ciphers.proofs.aes.steps.looked_up.Goals as goal

pub returns : goal.returns
returns c = made _ _ (λ i. get_or c.args.table.now (get_or c.args.block (c.args.step * i % 16) 0) 0) 16 0 (λ i y q h k. search rules) c.from_fn.result c.from_fn.ensures.items
