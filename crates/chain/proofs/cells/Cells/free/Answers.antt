use Rattle.std.proofs.Common.{◌≡◌, ◌≤◌, rules}
use borrow.Author.Tests.{tests}
use Rattle.std.proofs.lemmas.Iterator.{first_from_Range}
use Rattle.chain.specs.Cells.{used_of}
use Rattle.chain.proofs.Bytes.{first_free}
use Rattle.chain.proofs.cells.Cells.free.Goals as goal

pub returns : goal.returns
returns c =
    let s = c.args.self.now in
    first_free s.count c.args.from s.bytes.now c.find.result
    (first_from_Range _ _ _ c.find.result (λ k. used_of s.bytes.now k ≡ 0) (λ k. 1 ≤ used_of s.bytes.now k) c.find.ensures.ran (λ x q k. search (rules, tests)) (λ x q k. search (rules, tests)))
