use Rattle.std.proofs.Common.{◌≡◌, ℕ, ◌<◌, length, get_or}
use Rattle.ciphers.specs.Speck.{scheduled, words_of}
use Rattle.ciphers.proofs.speck.round_keys.Given as goal

abbrev pub invariant-loop-i : goal.invariant-loop-i
invariant-loop-i l = (l.words ≡ scheduled (words_of l.key) l.i) × (length l.round_key-items ≡ 32) × ((j : ℕ) → j < l.i → get_or l.round_key-items j 0 ≡ (scheduled (words_of l.key) j).1)
