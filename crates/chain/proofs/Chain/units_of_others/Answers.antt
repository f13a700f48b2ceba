use Rattle.std.proofs.Common.{◌≡◌, ◌<◌, ◌≤◌, [], length, get_or, sym, ap, ◌∙◌, arith}
use Rattle.chain.specs.Cells.{chain_units}
use Rattle.chain.specs.Lent.{rows_held}
use Rattle.chain.proofs.Costs.{others_cost, sum_other, sum_own, sum_all}
use Rattle.chain.proofs.Gathering.{rows_many}
use Rattle.chain.proofs.Chain.units_of_others.Goals as goal
use Rattle.chain.proofs.Chain.units_of_others.Goals.{then-i-slot, else-i-slot}

pub loop-i-preserved : goal.loop-i-preserved
loop-i-preserved c =
    let m = c.args.self.now.memory in
    let l = m.layout in
    let rows = rows_held m in
    let i = c.loop-i.i in
    let inv = c.loop-i.invariant in
    let lt : i < length rows = omega (arith, rows_many l.slots l.cells m.loan.bytes.now m.size) in
    elim c.if-i-slot.branch [
      | then-i-slot w ↦
          (let u : w.units-sum.result ≡ chain_units (length (get_or rows i [])) = w.units-sum.ensures ∙ ap chain_units w.row_length.ensures.value in
          let few : w.units-sum.result ≤ 255 = omega (arith, w.units-sum.ensures, w.row_length.ensures.short, m.count.1) in
          (w.sum-is ∙ sum_other rows c.args.slot i c.loop-i.sum w.units-sum.result lt inv.0 w.if-i-slot.true u, omega (arith, w.sum-is, inv.1)))
      | else-i-slot w ↦ (w.sum-is ∙ sum_own rows c.args.slot i c.loop-i.sum lt inv.0 w.if-i-slot.false, omega (arith, w.sum-is, inv.1))
    ]

pub returns : goal.returns
returns c =
    let m = c.args.self.now.memory in
    let l = m.layout in
    let b = m.loan.bytes.now in
    record {
      value = sum_all (rows_held m) c.args.slot c.loop-i.i c.loop-i.sum (omega (arith, rows_many l.slots l.cells b m.size)) c.loop-i.invariant.0 ∙ sym (others_cost l.slots l.longest l.cells b c.args.slot);
      few = omega (arith, c.loop-i.invariant.1);
    }
