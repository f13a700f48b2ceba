use Rattle.std.proofs.Common.{◌≡◌, ℕ, ◌^◌, ◌<◌, ap, ◌∙◌, rules}
use lib.Bits.{bit_xor, xor_lt}
use Rattle.ciphers.specs.Words.{rotated_left, minus}
use Rattle.ciphers.specs.Speck.{unround_a, unround_b}
use Rattle.ciphers.specs.WordLaws.{rotate_left, rotate_right, minus_lt}
use Rattle.ciphers.specs.SpeckRounds.{pair}
use Rattle.ciphers.proofs.speck.unround.Goals as goal

pub returns : goal.returns
unfolding unround_a unround_b minus
returns c =
    let sum : bit_xor c.args.words.1 c.args.words.0 < 2 ^ 64 = xor_lt 64 c.args.words.1 c.args.words.0 (search rules) (search rules) in
    let b : c.rotate_right-old_b.result ≡ unround_b c.args.words.0 c.args.words.1 = c.rotate_right-old_b.ensures ∙ rotate_right 3 61 (bit_xor c.args.words.1 c.args.words.0) sum in
    let left : c.rotate_left.result ≡ rotated_left 8 (minus (bit_xor c.args.words.0 c.args.key) c.rotate_right-old_b.result) =
    c.rotate_left.ensures ∙ rotate_left 56 8 (minus (bit_xor c.args.words.0 c.args.key) c.rotate_right-old_b.result) (minus_lt _ _) in
    pair _ _ _ _ (left ∙ ap (λ (x : ℕ). rotated_left 8 (minus (bit_xor c.args.words.0 c.args.key) x)) b) b
