use Rattle.std.proofs.Common.{refl}
use Rattle.std.proofs.lemmas.Bool.{le-ltb}
use Rattle.chain.proofs.examples.chain_examples.Goals as goal

pub returns : goal.returns
returns c = record {
  value = refl;
  examples = record {
    thirty = λ s m c. refl;
    thirty_one = λ s m c. refl;
    thousand = λ s m c. refl;
    no_room_for_both = λ m h first second e f. rw (le-ltb m 31 h, f) refl;
    room_after_clear = λ m h first second e f. rw (le-ltb m 31 h) refl;
  };
}
