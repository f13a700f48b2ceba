use Rattle.std.proofs.Common.{All, rules}
use Rattle.std.specs.Char.{IsAsciiDigit}
use Rattle.text.proofs.Reading.{parsed}
use Rattle.text.proofs.words.number.Goals as goal

pub returns : goal.returns
returns c =
    let word = c.args.word.now in
    let digits : All IsAsciiDigit word = search rules in
    parsed word c.parse.result c.map_err.result _ (λ i within. digits i 0 within) c.parse.ensures.value.0 c.map_err.ensures.cases (λ e f told P p. search rules)
