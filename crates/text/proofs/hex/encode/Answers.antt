use Rattle.std.proofs.Common.{◌≡◌, ◌<◌, ◌++◌, length, get_or, Some, string_bytes, codes, sym, ap, ◌∙◌, arith, rules}
use Rattle.std.proofs.lemmas.List.{take_all}
use Rattle.std.proofs.lemmas.Result.{IfOk-weaker}
use Rattle.std.proofs.lemmas.Bool.Decides.{nat_tests}
use Rattle.base.specs.Bytes.{AllBytes}
use Rattle.text.specs.Hexadecimal.{bytes_of, word_of, digits_of}
use Rattle.text.proofs.Spelling.{word_none, word_some, decodes_back, encoded_more}
use Rattle.text.proofs.hex.encode.Goals as goal

pub returns-then-is_empty : goal.returns-then-is_empty
returns-then-is_empty c =
    let bs = c.args.bytes.now in
    let fit : AllBytes bs = λ i. search (rules, c.type_inv.bytes i) in
    let none : length bs ≡ 0 = grind (arith, nat_tests, c.if-is_empty.ensures) in
    let dash = sym (word_none bs none) in
    record {
      word = IfOk-weaker c.from_str.result (λ t. string_bytes t ≡ codes "-") (λ t. string_bytes t ≡ word_of bs) (λ t e. e ∙ dash) c.from_str.ensures.ok;
      back = IfOk-weaker c.from_str.result (λ t. string_bytes t ≡ codes "-") (λ t. bytes_of (string_bytes t) ≡ Some bs) (λ t e. ap bytes_of (e ∙ dash) ∙ decodes_back bs fit) c.from_str.ensures.ok;
    }

pub loop-b-preserved : goal.loop-b-preserved
loop-b-preserved c =
    let bs = c.args.bytes.now in
    let fit : get_or bs c.loop-b.b-index 0 < 256 = search (rules, c.type_inv.bytes c.loop-b.b-index) in
    let first = c.in_ok-push.ensures.bytes ∙ ap (λ e. string_bytes c.loop-b.word ++ e) (c.in_ok-push.ensures.ascii c.digit.ensures.ascii) in
    let second = c.in_ok-push-2.ensures.bytes ∙ ap (λ e. string_bytes c.push.new.self ++ e) (c.in_ok-push-2.ensures.ascii c.digit-in-loop-b.ensures.ascii) in
    encoded_more bs _ _ _ c.loop-b.b-index _ _ c.loop-b-test.true fit c.loop-b.invariant c.digit.ensures.value c.digit-in-loop-b.ensures.value first second

pub returns : goal.returns
returns c =
    let bs = c.args.bytes.now in
    let fit : AllBytes bs = λ i. search (rules, c.type_inv.bytes i) in
    let some : 0 < length bs = grind (arith, nat_tests, c.if-is_empty.ensures) in
    let word : string_bytes c.loop-b.word ≡ word_of bs = c.loop-b.invariant ∙ ap digits_of (take_all _ bs c.loop-b-test.false) ∙ sym (word_some bs some) in
    record { word = word; back = ap bytes_of word ∙ decodes_back bs fit }
