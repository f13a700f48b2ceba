use Rattle.std.proofs.Common.{◌≡◌, ◌*◌, ◌++◌, drop}
use Rattle.base.specs.Blocks.{blocks_joined, block_at}
use Rattle.mode.proofs.enciphering.all_blocks.Given as goal

abbrev pub invariant-loop-i : goal.invariant-loop-i
invariant-loop-i g l = l.message ≡ blocks_joined (λ j. g.T.Turn.turned l.way (block_at j l.initial.message)) l.i ++ drop (l.i * 16) l.initial.message
