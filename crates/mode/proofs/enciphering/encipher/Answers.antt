use Rattle.std.proofs.Common.{ℕ, List, ◌∙◌, rules}
use Rattle.base.specs.Bytes.{AllBytes}
use Rattle.mode.proofs.Steps.{enc_empty, enc_some}
use Rattle.mode.proofs.enciphering.encipher.Goals as goal

pub returns-then-message-ne0 : goal.returns-then-message-ne0
returns-then-message-ne0 g c =
    let fit : AllBytes c.args.message.now = search rules in
    let key : List ℕ = g.C.BlockCipher.key_of c.args.cipher.now in
    let keyed = g.met.C.BlockCipher.keyed c.args.cipher.now in
    enc_some (g.C.BlockCipher.forward key) (λ b h. g.met.C.BlockCipher.ahead key b keyed h)
    c.args.message.now (record { long = c.requires; fit = fit }) c.all_blocks.new.message c.mix_tail.new.message c.last_block.new.message (search rules) c.all_blocks.ensures c.mix_tail.ensures c.last_block.ensures

pub returns-else-message-ne0 : goal.returns-else-message-ne0
returns-else-message-ne0 g c =
    let fit : AllBytes c.args.message.now = search rules in
    let key : List ℕ = g.C.BlockCipher.key_of c.args.cipher.now in
    let keyed = g.met.C.BlockCipher.keyed c.args.cipher.now in
    c.all_blocks.ensures
    ∙ enc_empty (g.C.BlockCipher.forward key) (λ b h. g.met.C.BlockCipher.ahead key b keyed h)
    c.args.message.now (record { long = c.requires; fit = fit }) (search rules)
