use Rattle.std.proofs.Common.{ℕ, ◌-◌, List, [], length, get_or, take, drop, fold, ap, ◌∙◌, rules}
use Rattle.std.proofs.lemmas.Iterator.{YieldsList-from_slice}
use Rattle.std.proofs.lemmas.Iterator.Consumers.{fold_from_yields_List}
use Rattle.ciphers.specs.AesSteps.{sub_bytes, shift_rows, add_round_key}
use Rattle.ciphers.specs.Aes.{round}
use Rattle.ciphers.proofs.AesMade.{cipher_folded}
use Rattle.ciphers.proofs.aes.rounds.encrypt_block.Goals as goal

pub returns : goal.returns
returns c =
    let ks : List (List ℕ) = c.as_chunks.result.0.now in
    let middle : List (List ℕ) = take (length ks - 1 - 1) (drop 1 ks) in
    c.last_round.ensures
    ∙ ap (λ (x : List ℕ). add_round_key (shift_rows (sub_bytes x)) (get_or ks (length ks - 1) []))
    (fold_from_yields_List _ round c.with_key-start.result c.fold-mixed.result c.fold-mixed.ensures.ran (YieldsList-from_slice middle (search rules)) (λ a x b q k. search rules)
    ∙ ap (λ (s : List ℕ). fold round s middle) c.with_key-start.ensures)
    ∙ cipher_folded c.args.schedule.now ks c.as_chunks.ensures.front c.as_chunks.ensures.front_len c.args.block c.requires
