use Rattle.std.proofs.Common.{◌≡◌, ℕ, ap, ◌∙◌, rules}
use lib.Bits.{bit_xor}
use Rattle.ciphers.specs.Words.{rotated_right, rotated_left, plus}
use Rattle.ciphers.specs.Speck.{round_a, round_b}
use Rattle.ciphers.specs.WordLaws.{rotate_left, rotate_right}
use Rattle.ciphers.specs.SpeckRounds.{pair}
use Rattle.ciphers.proofs.speck.round.Goals as goal

pub returns : goal.returns
unfolding round_a round_b plus
returns c =
    let right : c.rotate_right.result ≡ rotated_right 8 c.args.words.0 = c.rotate_right.ensures ∙ rotate_right 8 56 c.args.words.0 (search rules) in
    let left : c.rotate_left.result ≡ rotated_left 3 c.args.words.1 = c.rotate_left.ensures ∙ rotate_left 61 3 c.args.words.1 (search rules) in
    let a = ap (λ (x : ℕ). bit_xor (plus x c.args.words.1) c.args.key) right in
    pair _ _ _ _ a (λ i. bit_xor (left i) (a i))
