use Rattle.std.proofs.Common.{◌≡◌, ◌+◌, ◌≤◌, [], ◌++◌, length, get_or, drop, sym, refl, ap, ◌∙◌, subst, arith, rules}
use Rattle.std.proofs.lemmas.List.{take_all}
use Rattle.chain.specs.Cells.{cell, piece_of}
use Rattle.chain.specs.Lent.{cells_of, rows_held}
use Rattle.chain.specs.Soundness.{untruncated}
use Rattle.chain.proofs.Laid.{Lies}
use Rattle.chain.proofs.Bytes.{put_part, piece_there}
use Rattle.chain.proofs.Gathering.{Turn, turn, turn_start, gather_end}
use Rattle.chain.proofs.Chain.copy_row.Goals as goal

pub loop-k-init : goal.loop-k-init
loop-k-init c =
    let t = c.args.self.now in
    let m = t.memory in
    let l = m.layout in
    let s = turn_start l.slots l.cells c.args.slot m.loan.bytes.now m.size (untruncated l.slots l.longest l.cells m.loan.bytes.now t.formed).linked c.requires.slot in
    (s.0, s.1, refl)

pub cell-cell-requires : goal.cell-cell-requires
cell-cell-requires c =
    let m = c.args.self.now.memory in
    let i = c.loop-k.invariant in
    let t = turn m.layout.cells (cells_of m) (get_or (rows_held m) c.args.slot []) c.args.buffer.now c.loop-k.k c.loop-k.at (omega arith) i.1 i.0.0 i.0.1 in
    record { first = omega arith; last = omega (arith, t.inside, c.cells-cells.ensures.count) }

pub overflow_add-at : goal.overflow_add-at
overflow_add-at c =
    let m = c.args.self.now.memory in
    let i = c.loop-k.invariant in
    let t = turn m.layout.cells (cells_of m) (get_or (rows_held m) c.args.slot []) c.args.buffer.now c.loop-k.k c.loop-k.at (omega arith) i.1 i.0.0 i.0.1 in
    let u = ap (λ x. get_or x 1 0) (c.cell-cell.ensures.cell ∙ ap (λ b. cell b c.loop-k.k) c.cells-cells.ensures.bytes) in
    let e : c.loop-k.at + get_or c.cell-cell.result.now 1 0 ≤ length c.args.buffer.now = omega (arith, u, t.used, t.end, c.requires.room) in
    search rules

pub loop-k-smaller : goal.loop-k-smaller
loop-k-smaller c =
    let m = c.args.self.now.memory in
    let i = c.loop-k.invariant in
    let t = turn m.layout.cells (cells_of m) (get_or (rows_held m) c.args.slot []) c.args.buffer.now c.loop-k.k c.loop-k.at (omega arith) i.1 i.0.0 i.0.1 in
    omega (arith, t.used, t.end, t.low, ap (λ x. get_or x 1 0) (c.cell-cell.ensures.cell ∙ ap (λ b. cell b c.loop-k.k) c.cells-cells.ensures.bytes))

pub loop-k-preserved : goal.loop-k-preserved
loop-k-preserved c =
    let m = c.args.self.now.memory in
    let cs = cells_of m in
    let r = get_or (rows_held m) c.args.slot [] in
    let i = c.loop-k.invariant in
    let e = (c.cell-cell.ensures.cell ∙ ap (λ b. cell b c.loop-k.k) c.cells-cells.ensures.bytes) in
    let n = get_or c.cell-cell.result.now 1 0 in
    let t = turn m.layout.cells cs r c.args.buffer.now c.loop-k.k c.loop-k.at (omega arith) i.1 i.0.0 i.0.1 in
    let q = ap (λ x. get_or x 1 0) e in
    let u = subst (λ x. Turn m.layout.cells cs r c.args.buffer.now c.loop-k.k c.loop-k.at x) (sym (q ∙ t.used)) t in
    let p : c.copy_from_slice.new.self ≡ piece_of cs c.loop-k.k = c.copy_from_slice.ensures.after ∙ piece_there cs c.loop-k.k n c.cell-cell.result.now e q in (
      (u.rest.0, subst (λ x. Lies m.layout.cells cs x u.rest.0 (drop (c.loop-k.at + n) r)) (sym (ap (λ x. get_or x 0 0) e)) u.rest.1),
      u.end,
      u.joined c.loop-k.buffer _ (omega (arith, i.1, c.requires.room)) i.2 (put_part c.loop-k.at n c.loop-k.buffer _ _ p),
    )

pub returns : goal.returns
returns c =
    let m = c.args.self.now.memory in
    let r = get_or (rows_held m) c.args.slot [] in
    let i = c.loop-k.invariant in
    let e : c.loop-k.at ≡ length r = gather_end m.layout.cells (cells_of m) r c.loop-k.k c.loop-k.at (omega arith) i.1 i.0.0 i.0.1 in
    record { value = e; after = i.2 ∙ ap (λ t. t ++ drop c.loop-k.at c.args.buffer.now) (take_all c.loop-k.at r (omega arith)) }

pub slice_bounds-copy_from_slice-end : goal.slice_bounds-copy_from_slice-end
slice_bounds-copy_from_slice-end c =
    let m = c.args.self.now.memory in
    let i = c.loop-k.invariant in
    let t = turn m.layout.cells (cells_of m) (get_or (rows_held m) c.args.slot []) c.args.buffer.now c.loop-k.k c.loop-k.at (omega arith) i.1 i.0.0 i.0.1 in
    omega (arith, t.used, t.end, c.requires.room, ap (λ x. get_or x 1 0) (c.cell-cell.ensures.cell ∙ ap (λ b. cell b c.loop-k.k) c.cells-cells.ensures.bytes), c.loop-k.auto.buffer)
