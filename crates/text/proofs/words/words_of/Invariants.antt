use Rattle.std.proofs.Common.{map, vec_items}
use Rattle.std.specs.Str.Iter.{split_whitespace_rest}
use Rattle.text.proofs.Cutting.{CutOff}
use Rattle.text.proofs.words.words_of.Given as goal

abbrev pub invariant-loop-word : goal.invariant-loop-word
invariant-loop-word l = CutOff l.line (split_whitespace_rest l.word-iterator) (map (λ w. w.now) (vec_items l.words))
