use Rattle.std.proofs.Common.{◌≡◌, ◌+◌, ◌||◌, true, false, get_or, rules, refl, arith}
use borrow.Author.Tests.{tests}
use Rattle.base.specs.Bytes.{all_zero}
use Rattle.std.proofs.lemmas.Iterator.{cases_from_all, YieldsList-from_range}
use Rattle.chain.specs.Cells.{cell}
use Rattle.chain.proofs.Following.{rest_checked}
use Rattle.chain.proofs.cells.Cells.rest_zero.Goals as goal

pub returns : goal.returns
returns c =
    let s = c.args.self.now in
    let b = s.bytes.now in
    let m = c.args.met.now in
    rest_checked s.count b m s.size c.all.result
    (cases_from_all _ _ c.all.result (λ k. (get_or m k false || all_zero (cell b k)) ≡ true) (λ k. (get_or m k false || all_zero (cell b k)) ≡ false) c.all.ensures.ran
    (YieldsList-from_range 1 (s.count + 1) s.count refl (omega arith)) (λ x q k. search (rules, tests)) (λ x q k. search (rules, tests)))
