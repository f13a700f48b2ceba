use Rattle.std.proofs.Common.{◌-◌, ◌<◌, map, length, get_or, take, drop, string_bytes, arith}
use Rattle.std.proofs.lemmas.Result.{IfOk-weaker}
use Rattle.sealer.specs.Commands.{Accepted, OnMessage}
use Rattle.sealer.proofs.Words.{nothing, on_message}
use Rattle.sealer.proofs.commands.obey.Goals as goal

pub returns-in-len1-up : goal.returns-in-len1-up
returns-in-len1-up c =
    let words = c.args.words.now in
    let some : 0 < length words = grind arith in
    IfOk-weaker c.on_message.result (λ line. OnMessage (get_or words 0 nothing).now (map (λ w. w.now) (take (length words - 1) (drop 1 words))) (string_bytes line)) (λ line. Accepted (map (λ w. w.now) words) (string_bytes line)) (λ line h. on_message words (string_bytes line) some h) c.on_message.ensures
