use Rattle.std.proofs.Common.{◌≡◌}
use Rattle.mode.specs.Hash.{element_at}
use Rattle.mode.proofs.Horner.{weighed}
use Rattle.mode.proofs.hashing.poly_hash.Given as goal

abbrev pub invariant-loop-block : goal.invariant-loop-block
invariant-loop-block l = l.sum ≡ weighed l.tau (λ i. element_at i l.message) l.block-index
