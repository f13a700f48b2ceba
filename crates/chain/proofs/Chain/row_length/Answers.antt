use Rattle.std.proofs.Common.{◌≡◌, ◌+◌, ◌≤◌, [], length, get_or, drop, sym, ap, ◌∙◌, subst, arith, rules}
use Rattle.chain.specs.Cells.{cell}
use Rattle.chain.specs.Lent.{cells_of, rows_held}
use Rattle.chain.specs.Soundness.{untruncated}
use Rattle.chain.proofs.Laid.{Lies}
use Rattle.chain.proofs.Gathering.{Turn, turn, turn_start, gather_end, gather_short}
use Rattle.chain.proofs.Chain.row_length.Goals as goal

pub loop-k-init : goal.loop-k-init
loop-k-init c =
    let t = c.args.self.now in
    let m = t.memory in
    let l = m.layout in
    turn_start l.slots l.cells c.args.slot m.loan.bytes.now m.size (untruncated l.slots l.longest l.cells m.loan.bytes.now t.formed).linked c.requires

pub cell-cell-requires : goal.cell-cell-requires
cell-cell-requires c =
    let m = c.args.self.now.memory in
    let i = c.loop-k.invariant in
    let t = turn m.layout.cells (cells_of m) (get_or (rows_held m) c.args.slot []) [] c.loop-k.k c.loop-k.at (omega arith) i.1 i.0.0 i.0.1 in
    record { first = omega arith; last = omega (arith, t.inside, c.cells-cells.ensures.count) }

pub overflow_add-at : goal.overflow_add-at
overflow_add-at c =
    let s = c.args.self.now in
    let m = s.memory in
    let l = m.layout in
    let i = c.loop-k.invariant in
    let t = turn l.cells (cells_of m) (get_or (rows_held m) c.args.slot []) [] c.loop-k.k c.loop-k.at (omega arith) i.1 i.0.0 i.0.1 in
    let g = gather_short l.slots l.cells c.args.slot m.loan.bytes.now m.size (untruncated l.slots l.longest l.cells m.loan.bytes.now s.formed).linked c.requires in
    let u = ap (λ x. get_or x 1 0) (c.cell-cell.ensures.cell ∙ ap (λ b. cell b c.loop-k.k) c.cells-cells.ensures.bytes) in
    let e : c.loop-k.at + get_or c.cell-cell.result.now 1 0 ≤ 7650 = omega (arith, u, t.used, t.end, m.count.1) in
    search rules

pub loop-k-smaller : goal.loop-k-smaller
loop-k-smaller c =
    let m = c.args.self.now.memory in
    let i = c.loop-k.invariant in
    let t = turn m.layout.cells (cells_of m) (get_or (rows_held m) c.args.slot []) [] c.loop-k.k c.loop-k.at (omega arith) i.1 i.0.0 i.0.1 in
    omega (arith, t.used, t.end, t.low, ap (λ x. get_or x 1 0) (c.cell-cell.ensures.cell ∙ ap (λ b. cell b c.loop-k.k) c.cells-cells.ensures.bytes))

pub loop-k-preserved : goal.loop-k-preserved
loop-k-preserved c =
    let m = c.args.self.now.memory in
    let cs = cells_of m in
    let r = get_or (rows_held m) c.args.slot [] in
    let i = c.loop-k.invariant in
    let e = (c.cell-cell.ensures.cell ∙ ap (λ b. cell b c.loop-k.k) c.cells-cells.ensures.bytes) in
    let t = turn m.layout.cells cs r [] c.loop-k.k c.loop-k.at (omega arith) i.1 i.0.0 i.0.1 in
    let u = subst (λ x. Turn m.layout.cells cs r [] c.loop-k.k c.loop-k.at x) (sym (ap (λ x. get_or x 1 0) e ∙ t.used)) t in (
      (u.rest.0, subst (λ x. Lies m.layout.cells cs x u.rest.0 (drop (c.loop-k.at + get_or c.cell-cell.result.now 1 0) r)) (sym (ap (λ x. get_or x 0 0) e)) u.rest.1),
      u.end,
    )

pub returns : goal.returns
returns c =
    let s = c.args.self.now in
    let m = s.memory in
    let l = m.layout in
    let i = c.loop-k.invariant in
    let e : c.loop-k.at ≡ length (get_or (rows_held m) c.args.slot []) = gather_end l.cells (cells_of m) _ c.loop-k.k c.loop-k.at (omega arith) i.1 i.0.0 i.0.1 in
    record { value = e; short = omega (arith, gather_short l.slots l.cells c.args.slot m.loan.bytes.now m.size (untruncated l.slots l.longest l.cells m.loan.bytes.now s.formed).linked c.requires) }
