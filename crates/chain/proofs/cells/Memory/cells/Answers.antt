use Rattle.std.proofs.Common.{◌≡◌, ◌-◌, length, take, drop, ap, ◌∙◌, arith}
use Rattle.std.proofs.lemmas.List.{take_all, length-drop}
use Rattle.chain.proofs.Releasing.{cells_size}
use Rattle.chain.proofs.cells.Memory.cells.Goals as goal

pub invariant_of-result : goal.invariant_of-result
invariant_of-result c =
    let m = c.args.self.now in
    let s = m.layout.slots in
    let b = m.loan.bytes.now in
    let e : take (length b - s) (drop s b) ≡ drop s b = take_all (length b - s) (drop s b) (omega (arith, length-drop s b)) in
    record { size = ap (λ t. length t) e ∙ cells_size s m.layout.cells b m.size; limit = m.count.1 }

pub returns-clause-bytes : goal.returns-clause-bytes
returns-clause-bytes c = let m = c.args.self.now in take_all _ _ (omega (arith, length-drop m.layout.slots m.loan.bytes.now))
