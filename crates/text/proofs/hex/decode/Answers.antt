use Rattle.std.proofs.Common.{◌≡◌, ◌+◌, ◌%◌, length, drop, vec_items, codes, false, sym, ap, ◌∙◌, arith}
use Rattle.std.proofs.lemmas.Slice.Eq.{slice_eq-Decides}
use Rattle.std.proofs.lemmas.Bool.Decides.{Decides-eqb, nat_tests}
use Rattle.text.proofs.Spelling.{after, after_nil, spelled, other_word, odd_pairs, word_cut, pairs_more, pairs_wrong, pairs_all}
use Rattle.text.proofs.hex.decode.Goals as goal

pub returns-then-not-is_empty : goal.returns-then-not-is_empty
returns-then-not-is_empty c =
    let ds = c.as_bytes.result.now in
    let odd : length ds % 2 ≡ 1 = grind (arith, nat_tests, c.if-not-is_empty.ensures, c.as_chunks.ensures.back_len) in
    other_word c.args.word.now ds (slice_eq-Decides Decides-eqb c.args.word.now (codes "-") false c.if-eq.ensures) c.as_bytes.ensures.value ∙ odd_pairs ds odd

pub loop-high-init : goal.loop-high-init
loop-high-init c = sym (ap (λ bs. after bs (spelled c.as_chunks.result.0.now)) c.new-bytes.ensures.items ∙ after_nil (spelled c.as_chunks.result.0.now))

pub returns-in-None : goal.returns-in-None
returns-in-None c =
    let ds = c.as_bytes.result.now in
    let even : length ds % 2 ≡ 0 = grind (arith, nat_tests, c.if-not-is_empty.ensures, c.as_chunks.ensures.back_len) in
    word_cut c.args.word.now ds c.as_chunks.result.0.now (slice_eq-Decides Decides-eqb c.args.word.now (codes "-") false c.if-eq.ensures) c.as_bytes.ensures.value c.as_chunks.ensures.front even
    ∙ pairs_wrong c.as_chunks.result.0.now c.loop-high.high-index c.loop-high-test.true (vec_items c.loop-high.bytes) c.loop-high.invariant (sym c.in-None.ensures)

pub loop-high-preserved : goal.loop-high-preserved
loop-high-preserved c =
    pairs_more c.as_chunks.result.0.now c.loop-high.high-index c.loop-high-test.true (vec_items c.loop-high.bytes) c.loop-high.invariant c.in-Some.b (sym c.in-Some.ensures)
    ∙ ap (λ bs. after bs (spelled (drop (c.loop-high.high-index + 1) c.as_chunks.result.0.now))) (sym c.in_ok-push-in-Some.ensures.items)

pub returns : goal.returns
returns c =
    let ds = c.as_bytes.result.now in
    let even : length ds % 2 ≡ 0 = grind (arith, nat_tests, c.if-not-is_empty.ensures, c.as_chunks.ensures.back_len) in
    word_cut c.args.word.now ds c.as_chunks.result.0.now (slice_eq-Decides Decides-eqb c.args.word.now (codes "-") false c.if-eq.ensures) c.as_bytes.ensures.value c.as_chunks.ensures.front even
    ∙ pairs_all c.as_chunks.result.0.now c.loop-high.high-index c.loop-high-test.false (vec_items c.loop-high.bytes) c.loop-high.invariant
