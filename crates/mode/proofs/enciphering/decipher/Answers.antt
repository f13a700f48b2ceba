use Rattle.std.proofs.Common.{ℕ, List, ap, ◌∙◌, rules}
use Rattle.base.specs.Bytes.{AllBytes}
use Rattle.mode.specs.Enciphering.{all_through}
use Rattle.mode.proofs.Steps.{dec_empty, dec_some}
use Rattle.mode.proofs.enciphering.decipher.Goals as goal
use Rattle.mode.proofs.enciphering.decipher.Goals.{then-message-ne0, else-message-ne0}

pub returns : goal.returns
returns g c =
    let fit : AllBytes c.args.message.now = search rules in
    let key : List ℕ = g.C.BlockCipher.key_of c.args.cipher.now in
    let keyed = g.met.C.BlockCipher.keyed c.args.cipher.now in
    elim c.if-message-ne0.branch [
      | then-message-ne0 w ↦ dec_some (g.C.BlockCipher.back key) (λ b h. g.met.C.BlockCipher.behind key b keyed h)
          c.args.message.now (record { long = c.requires; fit = fit }) w.last_block.new.message w.mix_tail.new.message c.all_blocks.new.message (search rules) w.last_block.ensures w.mix_tail.ensures
          (c.all_blocks.ensures ∙ ap (all_through (g.C.BlockCipher.back key)) w.message-is)
      | else-message-ne0 w ↦ c.all_blocks.ensures ∙ ap (all_through (g.C.BlockCipher.back key)) w.message-is
          ∙ dec_empty (g.C.BlockCipher.back key) (λ b h. g.met.C.BlockCipher.behind key b keyed h)
          c.args.message.now (record { long = c.requires; fit = fit }) (search rules)
    ]
