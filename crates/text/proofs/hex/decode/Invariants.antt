use Rattle.std.proofs.Common.{◌≡◌, drop, vec_items}
use Rattle.text.proofs.Spelling.{after, spelled}
use Rattle.text.proofs.hex.decode.Given as goal

abbrev pub invariant-loop-high : goal.invariant-loop-high
invariant-loop-high l = spelled l.pairs ≡ after (vec_items l.bytes) (spelled (drop l.high-index l.pairs))
