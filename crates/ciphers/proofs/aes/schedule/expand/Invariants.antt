use Rattle.std.proofs.Common.{◌≡◌, ◌-◌, ◌*◌, ◌++◌, drop}
use Rattle.ciphers.specs.AesSchedule.{expanded}
use Rattle.ciphers.proofs.aes.schedule.expand.Given as goal

abbrev pub invariant-loop-i : goal.invariant-loop-i
invariant-loop-i l = l.schedule ≡ expanded l.nk l.key (l.i - l.nk) ++ drop (4 * l.i) l.initial.schedule
