use Rattle.std.proofs.Common.{◌≡◌, map, string_bytes, vec_items, inl, inr, ap, ◌∙◌}
use Rattle.std.proofs.lemmas.Result.{IfOk-weaker}
use Rattle.sealer.specs.Commands.{accepted, OnMessage}
use Rattle.sealer.proofs.commands.on_message.Goals as goal

pub returns-in_ok-seal-in-seal : goal.returns-in_ok-seal-in-seal
returns-in_ok-seal-in-seal c =
    IfOk-weaker c.ok.result (λ line. string_bytes line ≡ accepted c.deref.result.now)
    (λ line. OnMessage c.args.name.now (map (λ w. w.now) c.args.words.now) (string_bytes line))
    (λ line e. inl (c.in-seal.is, (c.in_ok-read-in-seal.field-0, vec_items c.in_ok-seal-in-seal.field-0, c.in_ok-read-in-seal.ensures, c.in_ok-seal-in-seal.ensures, e ∙ ap accepted c.deref.ensures.value)))
    c.ok.ensures

pub returns-in_ok-open-in-open : goal.returns-in_ok-open-in-open
returns-in_ok-open-in-open c =
    IfOk-weaker c.ok-in-open.result (λ line. string_bytes line ≡ accepted c.deref-in-open.result.now)
    (λ line. OnMessage c.args.name.now (map (λ w. w.now) c.args.words.now) (string_bytes line))
    (λ line e. inr (inl (c.in-open.is, (c.in_ok-read-in-open.field-0, vec_items c.in_ok-open-in-open.field-0, c.in_ok-read-in-open.ensures, c.in_ok-open-in-open.ensures, e ∙ ap accepted c.deref-in-open.ensures.value))))
    c.ok-in-open.ensures

pub returns-in_ok-seal_with_proof-in-text : goal.returns-in_ok-seal_with_proof-in-text
returns-in_ok-seal_with_proof-in-text c =
    IfOk-weaker c.ok-in-text.result (λ line. string_bytes line ≡ accepted c.deref-in-text.result.now)
    (λ line. OnMessage c.args.name.now (map (λ w. w.now) c.args.words.now) (string_bytes line))
    (λ line e. inr (inr (inl (c.in-text.is, (c.in_ok-read-in-text.field-0, vec_items c.in_ok-seal_with_proof-in-text.field-0, c.in_ok-read-in-text.ensures, c.in_ok-seal_with_proof-in-text.ensures, e ∙ ap accepted c.deref-in-text.ensures.value)))))
    c.ok-in-text.ensures

pub returns-in_ok-open_with_proof-in-text-2 : goal.returns-in_ok-open_with_proof-in-text-2
returns-in_ok-open_with_proof-in-text-2 c =
    IfOk-weaker c.ok-in-text-2.result (λ line. string_bytes line ≡ accepted c.deref-in-text-2.result.now)
    (λ line. OnMessage c.args.name.now (map (λ w. w.now) c.args.words.now) (string_bytes line))
    (λ line e. inr (inr (inr ((c.in-text-2.is, (c.in_ok-read-in-text-2.field-0, vec_items c.in_ok-open_with_proof-in-text-2.field-0, c.in_ok-read-in-text-2.ensures, c.in_ok-open_with_proof-in-text-2.ensures, e ∙ ap accepted c.deref-in-text-2.ensures.value))))))
    c.ok-in-text-2.ensures
