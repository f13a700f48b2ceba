use Rattle.std.proofs.Common.{◌≡◌, ◌*◌, ◌++◌, drop}
use Rattle.ciphers.specs.AesSteps.{columnwise, mixed_by}
use Rattle.ciphers.proofs.aes.steps.mix.Given as goal

abbrev pub invariant-loop-i : goal.invariant-loop-i
invariant-loop-i l = l.mixed ≡ columnwise (mixed_by l.factors) l.i l.fn.block ++ drop (4 * l.i) l.initial.mixed
