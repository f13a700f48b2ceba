use Rattle.std.proofs.Common.{◌≡◌, ◌+◌, ◌≤◌, ◌∙◌, length, sym, refl, ap, subst, arith}
use Rattle.std.proofs.lemmas.List.{take_all}
use Rattle.base.specs.Bytes.{AllBytes}
use Rattle.chain.specs.Cells.{chain_units}
use Rattle.chain.specs.Memory.{rows_in}
use Rattle.chain.proofs.Has.{cost}
use Rattle.chain.proofs.Costs.{held_cost}
use Rattle.chain.proofs.Building.{piece, start, back, build_start, build_free, build-step, build_end, build_bytes, piece_low, piece_high}
use Rattle.chain.proofs.cells.Memory.build.Goals as goal

pub loop-piece-init : goal.loop-piece-init
loop-piece-init c =
    let m = c.args.self.now in
    let l = m.layout in
    let b = m.loan.bytes.now in
    let r = c.args.row.now in
    let e : c.into_iter-piece-iterator.result.iter ≡ c.chunks.result = ap (λ t. t.iter) c.into_iter-piece-iterator.ensures.into_iter_gives ∙ c.rev-piece-items.ensures.source in
    let x : c.into_iter-piece-iterator.result.iter.rest.now ≡ r = ap (λ t. t.rest.now) e ∙ c.chunks.ensures.rest in (
      refl,
      ap (λ t. t.size) e ∙ c.chunks.ensures.size,
      rw x (sym (take_all (length r) r (omega arith))),
      rw x (build_start l.slots l.cells c.args.slot r b m.size c.requires.linked c.requires.slot c.requires.none),
    )

pub free-requires : goal.free-requires
free-requires c = c.loop-piece.invariant.3.first

pub unwrap-k-requires : goal.unwrap-k-requires
unwrap-k-requires c =
    let m = c.args.self.now in
    let l = m.layout in
    let b = m.loan.bytes.now in
    let r = c.args.row.now in
    let i = c.loop-piece.invariant in
    let room : cost (rows_in l.slots l.cells b) + chain_units (length r) ≤ l.cells = omega (arith, c.requires.room, held_cost l.slots l.longest l.cells (rows_in l.slots l.cells b)) in
    build_free l.slots l.cells c.args.slot c.loop-piece.next _ c.loop-piece.from r b c.loop-piece.self.loan.bytes.now c.requires.slot i.3 c.in-Some.ensures.steps.1.2 room c.free.result (let f = rw (c.cells.ensures.count, c.cells.ensures.bytes) at c.free.ensures in rw i.0 at f)

pub link-requires : goal.link-requires
link-requires c =
    let r = c.args.row.now in
    let x = c.loop-piece.piece-iterator.iter.rest.now in
    let i = c.loop-piece.invariant in
    let f = rw (c.unwrap-k.ensures, c.cells.ensures.count, c.cells.ensures.bytes) at c.free.ensures in
    let s = c.in-Some.ensures.steps in
    let z : length c.next.new.self.iter.rest.now ≡ start (length x) = rw i.1 at s.1.1 in
    let p : c.in-Some.piece.now ≡ piece r (length x) s.1.2 i.3.end i.3.full = (let w = back r x c.next.new.self.iter.rest.now c.in-Some.piece.now i.2 s.1.0 in rw z at w.1) in
    record {
      low = rw p (piece_low r (length x) s.1.2 i.3.end i.3.full);
      high = rw p (piece_high r (length x) s.1.2 i.3.end i.3.full);
      first = omega (arith, f.0, i.3.first);
      last = f.1;
    }

pub loop-piece-preserved : goal.loop-piece-preserved
loop-piece-preserved c =
    let m = c.args.self.now in
    let l = m.layout in
    let r = c.args.row.now in
    let x = c.loop-piece.piece-iterator.iter.rest.now in
    let b = c.loop-piece.self.loan.bytes.now in
    let b' = c.link.new.self.loan.bytes.now in
    let i = c.loop-piece.invariant in
    let k = c.unwrap-k.result in
    let f = rw (c.unwrap-k.ensures, c.cells.ensures.count, c.cells.ensures.bytes) at c.free.ensures in
    let s = c.in-Some.ensures.steps in
    let z : length c.next.new.self.iter.rest.now ≡ start (length x) = rw i.1 at s.1.1 in
    let w = back r x c.next.new.self.iter.rest.now c.in-Some.piece.now i.2 s.1.0 in
    let p : c.in-Some.piece.now ≡ piece r (length x) s.1.2 i.3.end i.3.full = rw z at w.1 in
    let h = c.link.ensures.put in (
      h.layout ∙ i.0,
      s.0 ∙ i.1,
      w.0,
      rw z (build-step l.slots l.cells c.args.slot c.loop-piece.next (length x) c.loop-piece.from r m.loan.bytes.now b c.requires.slot i.3 s.1.2 k (omega (arith, f.0, i.3.first)) f.0
          (rw i.0 at f.1) (rw i.0 at f.2) (rw i.0 at f.3)
          b' (rw i.0 at h.heads) (rw (i.0, p) at h.cells) (subst (λ t. AllBytes t) p c.link.ensures.bytes)),
    )

pub bounds-self-slot : goal.bounds-self-slot
bounds-self-slot c = omega (arith, c.loop-piece.invariant.3.size, c.requires.slot)

pub returns : goal.returns
returns c =
    let m = c.args.self.now in
    let l = m.layout in
    let r = c.args.row.now in
    let i = c.loop-piece.invariant in
    let z = c.in-None.ensures.steps.1.0 in
    record {
      put = record {
        layout = i.0;
        row = build_end l.slots l.cells c.args.slot c.loop-piece.next _ c.loop-piece.from r m.loan.bytes.now c.loop-piece.self.loan.bytes.now c.requires.slot i.3 z m.size;
      };
      bytes = build_bytes l.slots l.cells c.args.slot c.loop-piece.next _ c.loop-piece.from r m.loan.bytes.now c.loop-piece.self.loan.bytes.now c.requires.slot i.3 z;
    }
