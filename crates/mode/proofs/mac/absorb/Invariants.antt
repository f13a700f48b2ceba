use Rattle.std.proofs.Common.{◌≡◌}
use Rattle.std.specs.Slice.Iter.{chunks_rest, chunks_size}
use Rattle.mode.specs.Cmac.{absorbed}
use Rattle.mode.proofs.mac.absorb.Given as goal

-- what is still to be taken into the state ends it as the whole input does
abbrev pub invariant-loop-block : goal.invariant-loop-block
invariant-loop-block g l =
    (chunks_size l.block-iterator ≡ 16)
    × (absorbed (g.C.BlockCipher.forward (g.C.BlockCipher.key_of l.cipher)) l.state (chunks_rest l.block-iterator) ≡ absorbed (g.C.BlockCipher.forward (g.C.BlockCipher.key_of l.cipher)) l.initial.state l.input)
