use Rattle.std.proofs.Common.{length, Ok, sym}
use Rattle.base.specs.Numbers.{number, bytes}
use Rattle.base.proofs.Digits.{to_le_128}
use Rattle.mode.specs.Hash.{hash_of}
use Rattle.mode.specs.Calls.{message_checks}
use Rattle.mode.proofs.Deciding.{passed_too}
use Rattle.mode.proofs.hashing.hash.Goals as goal

pub returns : goal.returns
returns c =
    let spelled = to_le_128 c.poly_hash.result in
    let passed = passed_too (message_checks (length c.args.message.now)) tt c.in_ok-check_message.field-0 (Ok (bytes 16 (hash_of (number c.args.tau.now) c.args.message.now))) (sym c.in_ok-check_message.ensures.answer) in
    cc
