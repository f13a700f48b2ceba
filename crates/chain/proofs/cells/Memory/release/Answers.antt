use Rattle.std.proofs.Common.{◌≡◌, ◌≤◌, take, drop, set, refl, ◌∙◌, subst, arith}
use Rattle.std.proofs.lemmas.List.{get_or-set_same, get_or-take}
use Rattle.base.specs.Bytes.{zeros}
use Rattle.chain.specs.Cells.{next_of, put_cell}
use Rattle.chain.proofs.Releasing.{release_start, release_inside, release-step, release-less, release-end}
use Rattle.chain.proofs.cells.Memory.release.Goals as goal

pub loop-k-init : goal.loop-k-init
loop-k-init c =
    let m = c.args.self.now in
    (refl, release_start m.layout.slots m.layout.cells c.args.slot _ m.loan.bytes.now m.size c.requires.linked c.requires.slot refl)

pub unlink-k-requires : goal.unlink-k-requires
unlink-k-requires c =
    let m = c.args.self.now in
    let i = c.loop-k.invariant in
    let lo : 1 ≤ c.loop-k.k = omega arith in
    record {
      first = lo;
      last = rw i.0 (release_inside m.layout.slots m.layout.cells c.args.slot c.loop-k.k m.loan.bytes.now c.loop-k.self.loan.bytes.now c.requires.slot i.1 lo);
    }

pub loop-k-smaller : goal.loop-k-smaller
loop-k-smaller c =
    let m = c.args.self.now in
    let l = m.layout in
    let b = c.loop-k.self.loan.bytes.now in
    let b' = c.unlink-k.new.self.loan.bytes.now in
    let i = c.loop-k.invariant in
    let e = c.unlink-k.ensures in
    release-less l.slots l.cells c.args.slot c.loop-k.k m.loan.bytes.now b c.requires.slot i.1 (omega arith) b' c.unlink-k.result
    (subst (λ t. c.unlink-k.result ≡ next_of (drop t.slots b) c.loop-k.k) i.0 e.next)
    (subst (λ t. take t.slots b' ≡ take t.slots b) i.0 e.put.heads)
    (subst (λ t. drop t.slots b' ≡ put_cell (drop t.slots b) c.loop-k.k (zeros 32)) i.0 e.put.cells)

pub loop-k-preserved : goal.loop-k-preserved
loop-k-preserved c =
    let m = c.args.self.now in
    let l = m.layout in
    let b = c.loop-k.self.loan.bytes.now in
    let b' = c.unlink-k.new.self.loan.bytes.now in
    let i = c.loop-k.invariant in
    let e = c.unlink-k.ensures in (
      e.put.layout ∙ i.0,
      release-step l.slots l.cells c.args.slot c.loop-k.k m.loan.bytes.now b c.requires.slot i.1 (omega arith) b' c.unlink-k.result
          (subst (λ t. c.unlink-k.result ≡ next_of (drop t.slots b) c.loop-k.k) i.0 e.next)
          (subst (λ t. take t.slots b' ≡ take t.slots b) i.0 e.put.heads)
          (subst (λ t. drop t.slots b' ≡ put_cell (drop t.slots b) c.loop-k.k (zeros 32)) i.0 e.put.cells),
    )

pub bounds-self-slot-2 : goal.bounds-self-slot-2
bounds-self-slot-2 c = omega (arith, c.loop-k.invariant.1.size, c.requires.slot)

pub returns : goal.returns
returns c =
    let m = c.args.self.now in
    let l = m.layout in
    let b = c.loop-k.self.loan.bytes.now in
    let s = c.args.slot in
    let i = c.loop-k.invariant in
    record {
      put = record { layout = i.0; row = release-end l.slots l.cells s c.loop-k.k m.loan.bytes.now b c.requires.slot i.1 (omega arith) m.size };
      head = rw i.0 (get_or-take l.slots (set b s 0) s 0 c.requires.slot ∙ get_or-set_same b s 0 0 (omega (arith, i.1.size, c.requires.slot)));
    }
