use Rattle.std.proofs.Common.{ℕ}
use lib.Bits.{bit_xor}
use Rattle.base.specs.Numbers.{bytes}
use Rattle.mode.specs.Hash.{hashed}
use Rattle.mode.proofs.Chunks.{spread_last}
use Rattle.mode.proofs.hashing.hash_with.Goals as goal

pub returns : goal.returns
unfolding hashed
returns c =
    let r : ℕ = c.poly_hash-r.result in
    let e = spread_last r c.args.beta c.args.message.now c.spread_over.new.blocks (bytes 16 (bit_xor r c.args.beta)) c.requires c.spread_over.ensures in
    cc
