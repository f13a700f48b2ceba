use Rattle.std.proofs.Common.{◌<◌, ◌≢◌, length, refl, ap, ◌∙◌, arith, length-set, get_or-set_other, get_or-set_same, rules, below_more}
use Rattle.ciphers.specs.Speck.{words_of}
use Rattle.ciphers.specs.SpeckRounds.{scheduled_none, scheduled_more, all_keys}
use Rattle.ciphers.proofs.speck.round_keys.Goals as goal

pub loop-i-init : goal.loop-i-init
loop-i-init c = (c.read_words-words.ensures ∙ scheduled_none _, refl, λ j h. absurd (omega arith))

pub loop-i-preserved : goal.loop-i-preserved
loop-i-preserved c = (
  scheduled_more (words_of c.args.key.now) c.loop-i.words c.round-words.result c.loop-i.i c.loop-i.invariant.0 c.round-words.ensures,
  length-set _ _ _ ∙ c.loop-i.invariant.1,
  below_more _ _
      (λ k h. let ne : k ≢ c.loop-i.i = omega arith in rw get_or-set_other (c.loop-i.invariant.2 k h))
      (let lt : c.loop-i.i < length c.loop-i.round_key-items = search rules in rw get_or-set_same (ap (λ p. p.1) c.loop-i.invariant.0)),
)

pub returns : goal.returns
returns c = all_keys _ _ c.loop-i.invariant.1 (search rules)
