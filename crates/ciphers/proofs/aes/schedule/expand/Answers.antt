use Rattle.std.proofs.Common.{◌≡◌, ℕ, ◌+◌, ◌-◌, ◌*◌, ◌/◌, ◌<◌, List, ◌++◌, length, take, drop, refl, ap, ◌∙◌, arith, length-append, length-drop, rules}
use Rattle.ciphers.specs.AesSchedule.{expanded}
use Rattle.ciphers.proofs.AesWords.{words_none, word_chunked, word_next, words_more, words_all}
use Rattle.ciphers.proofs.aes.schedule.expand.Goals as goal

pub loop-i-init : goal.loop-i-init
loop-i-init c =
    let key : List ℕ = c.args.key.now in
    let rest : List ℕ = drop (length key) c.args.schedule.now in
    words_none (length key / 4) key rest (c.copy_from_slice.new.self ++ rest) (search rules) (ap (λ (z : List ℕ). z ++ rest) c.copy_from_slice.ensures.after)

pub loop-i-preserved : goal.loop-i-preserved
loop-i-preserved c =
    let key : List ℕ = c.args.key.now in
    let nk : ℕ = length key / 4 in
    let old : List ℕ = c.copy_from_slice.new.self ++ drop (length key) c.args.schedule.now in
    let p : 0 < length c.args.key.now / 4 = search rules in
    let l : length c.args.key.now ≡ 4 * (length c.args.key.now / 4) = search rules in
    let k : 4 * c.loop-i.i + 4 - 4 * c.loop-i.i ≡ 4 = omega arith in
    words_more nk key p l c.loop-i.i _ old c.loop-i.schedule c.copy_from_slice-in-loop-i.new.self (search rules) k
    (c.copy_from_slice-in-loop-i.ensures.after ∙ c.next_word-next.ensures
    ∙ word_chunked nk (take (4 * c.loop-i.i) c.loop-i.schedule) c.as_chunks.result.0.now p (search rules) c.as_chunks.ensures.front c.as_chunks.ensures.front_len
    ∙ word_next nk key p l c.loop-i.i old c.loop-i.schedule _ (search rules) refl c.loop-i.invariant)
    c.loop-i.invariant

pub returns : goal.returns
returns c =
    let key : List ℕ = c.args.key.now in
    let nk : ℕ = length key / 4 in
    let old : List ℕ = c.copy_from_slice.new.self ++ drop (length key) c.args.schedule.now in
    let p : 0 < length c.args.key.now / 4 = search rules in
    let l : length c.args.key.now ≡ 4 * (length c.args.key.now / 4) = search rules in
    let o : length (c.copy_from_slice.new.self ++ drop (length c.args.key.now) c.args.schedule.now) ≡ length c.args.schedule.now =
    simp (length-append, length-drop) (search rules) in
    let n : c.loop-i.i - length c.args.key.now / 4 ≡ length c.args.schedule.now / 4 - length c.args.key.now / 4 = omega arith in
    words_all nk key p l c.loop-i.i old c.loop-i.schedule (omega arith) c.loop-i.invariant ∙ ap (expanded nk key) n
