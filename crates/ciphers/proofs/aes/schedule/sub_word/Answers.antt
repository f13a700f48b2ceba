use Rattle.std.proofs.Common.{◌≡◌, ℕ, ◌<◌, [], ◌∷◌, get_or, sym, ap, ◌∙◌, arith, rules}
use Rattle.ciphers.specs.AesField.{substitution}
use Rattle.ciphers.specs.AesSchedule.{sub_word}
use Rattle.ciphers.proofs.AesLoops.{four_spelled}
use Rattle.ciphers.proofs.aes.schedule.sub_word.Goals as goal

pub returns : goal.returns
returns c =
    let one : (i : ℕ) → i < 4 → get_or c.map.result i 0 ≡ substitution (get_or c.args.w i 0) = λ i h. let k = c.map.ensures.items.at i 0 0 h in search rules in
    four_spelled c.map.result c.map.ensures.items.long
    ∙ (λ z. one 0 (omega arith) z ∷ one 1 (omega arith) z ∷ one 2 (omega arith) z ∷ one 3 (omega arith) z ∷ [])
    ∙ sym (ap sub_word (four_spelled c.args.w (search rules)))
