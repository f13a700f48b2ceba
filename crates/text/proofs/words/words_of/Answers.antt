use Rattle.std.proofs.Common.{◌≡◌, true, false, [], length, vec_items, sym, refl, ap, ◌∙◌, subst, inl, inr, arith}
use Rattle.std.specs.Str.Iter.{split_whitespace_rest}
use Rattle.std.proofs.lemmas.List.{map_push}
use Rattle.std.proofs.lemmas.Str.Pattern.{starts_char}
use Rattle.std.proofs.lemmas.Bool.Decides.{nat_tests}
use Rattle.text.specs.Lines.{Marked}
use Rattle.text.proofs.Cutting.{CutOff, first_step, cut_none, cut_more, cut_all, cut_comment, texts, texts_none, texts_some, unmarked}
use Rattle.text.proofs.words.words_of.Goals as goal
use Rattle.text.proofs.words.words_of.Goals.{else-is_empty-via-then-is_empty+else-starts_with, else-is_empty-via-else-is_empty}

pub loop-word-init : goal.loop-word-init
loop-word-init c =
    let line = c.args.line.now in
    let rest : split_whitespace_rest c.into_iter-word-iterator.result ≡ line = ap split_whitespace_rest c.into_iter-word-iterator.ensures.into_iter_gives ∙ c.split_whitespace-word-items.ensures.rest ∙ c.in-Ok.ensures.cases.0 in
    subst (λ r. CutOff line r (texts (vec_items c.new-words.result))) (sym rest)
    (subst (λ ws. CutOff line line (texts ws)) (sym c.new-words.ensures.items) (cut_none line))

pub returns-then-starts_with : goal.returns-then-starts_with
returns-then-starts_with c =
    let ws = c.loop-word.words in
    let none : length (vec_items ws) ≡ 0 = grind (arith, nat_tests, c.if-is_empty.ensures, ws.ok.0) in
    let marked : Marked c.in-Some.word.now = (starts_char 35 c.in-Some.word.now true c.if-starts_with.ensures.cases (omega arith) (omega arith)).0 refl in
    let empty = texts_none (vec_items ws) none in (
      c.in-Ok.ensures.cases.1,
      inr (cut_comment c.args.line.now (split_whitespace_rest c.loop-word.word-iterator) (split_whitespace_rest c.next.new.self) c.in-Some.word.now (texts (vec_items ws)) c.loop-word.invariant empty (first_step c.loop-word.word-iterator c.next.new.self c.in-Some.word c.in-Some.ensures.steps) marked, empty),
    )

pub loop-word-preserved : goal.loop-word-preserved
loop-word-preserved c =
    let ws = c.loop-word.words in
    let line = c.args.line.now in
    let w = c.in-Some.word in
    let left = split_whitespace_rest c.next.new.self in
    let plain : texts (vec_items ws) ≡ [] → Marked w.now → ⊥ =
    elim c.else-is_empty.branch [
      | else-is_empty-via-then-is_empty+else-starts_with v ↦ λ _. unmarked w.now (starts_char 35 w.now false v.if-starts_with.ensures.cases (omega arith) (omega arith))
      | else-is_empty-via-else-is_empty v ↦ λ e _. texts_some (vec_items ws) (λ z. grind (arith, nat_tests, v.if-is_empty.ensures, ws.ok.0)) e
    ] in
    subst (λ ts. CutOff line left ts)
    (sym (ap texts c.in_ok-push.ensures.items ∙ map_push (λ v. v.now) (vec_items ws) w))
    (cut_more line (split_whitespace_rest c.loop-word.word-iterator) left w.now (texts (vec_items ws)) c.loop-word.invariant (first_step c.loop-word.word-iterator c.next.new.self w c.in-Some.ensures.steps) plain)

pub returns : goal.returns
returns c = (
  c.in-Ok.ensures.cases.1,
  inl (cut_all c.args.line.now (split_whitespace_rest c.loop-word.word-iterator) (texts (vec_items c.loop-word.words)) c.loop-word.invariant c.in-None.ensures.steps.1),
)
