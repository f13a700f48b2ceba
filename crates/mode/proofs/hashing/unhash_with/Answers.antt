use Rattle.std.proofs.Common.{◌≡◌, ℕ, List}
use lib.Bits.{bit_xor}
use Rattle.base.specs.Numbers.{bytes}
use Rattle.base.specs.Blocks.{last_index, tail_of}
use Rattle.mode.specs.Hash.{spread, unhashed, held_hash}
use Rattle.base.proofs.Digits.{bytes_long}
use Rattle.base.proofs.Cutting.{put_last}
use Rattle.mode.proofs.Chunks.{spread_last}
use Rattle.mode.proofs.hashing.unhash_with.Goals as goal

pub returns : goal.returns
unfolding unhashed
returns c =
    let m : List ℕ = c.args.message.now in
    let beta : ℕ = c.args.beta in
    let r : ℕ = bit_xor c.element_at.result beta in
    let held : r ≡ held_hash beta m = cc in
    let half = spread_last r beta m c.spread_over.new.blocks (bytes 16 0) c.requires c.spread_over.ensures in
    let whole = put_last (spread r beta m) (last_index m) (bytes 16 0) (bytes 16 (bit_xor r c.poly_hash-rest.result)) (tail_of m) (λ j h. bytes_long 16 _) (bytes_long 16 0) in
    cc
