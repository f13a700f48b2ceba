use Rattle.std.proofs.Common.{ℕ, ◌-◌, List, [], reverse, length, get_or, take, drop, fold, ap, ◌∙◌, rules}
use Rattle.std.proofs.lemmas.Iterator.Adapters.{YieldsList-from_rev_slice}
use Rattle.std.proofs.lemmas.Iterator.Consumers.{fold_from_yields_List}
use Rattle.ciphers.specs.AesSteps.{add_round_key}
use Rattle.ciphers.specs.Aes.{inv_round}
use Rattle.ciphers.proofs.AesMade.{inv_cipher_folded}
use Rattle.ciphers.proofs.aes.rounds.decrypt_block.Goals as goal

pub returns : goal.returns
returns c =
    let ks : List (List ℕ) = c.as_chunks.result.0.now in
    let middle : List (List ℕ) = take (length ks - 1 - 1) (drop 1 ks) in
    c.with_key.ensures
    ∙ ap (λ (x : List ℕ). add_round_key x (get_or ks 0 []))
    (fold_from_yields_List _ inv_round c.inv_last_round-start.result c.fold-unmixed.result c.fold-unmixed.ensures.ran (YieldsList-from_rev_slice middle (search rules)) (λ a x b q k. search rules)
    ∙ ap (λ (s : List ℕ). fold inv_round s (reverse middle)) c.inv_last_round-start.ensures)
    ∙ inv_cipher_folded c.args.schedule.now ks c.as_chunks.ensures.front c.as_chunks.ensures.front_len c.args.block c.requires
