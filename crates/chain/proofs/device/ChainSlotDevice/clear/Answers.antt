use Rattle.std.proofs.Common.{[], refl, arith}
use Rattle.std.proofs.lemmas.Bool.{true≢false}
use Rattle.chain.specs.Lent.{cells_of, heads_of}
use Rattle.chain.specs.Soundness.{untruncated}
use Rattle.chain.proofs.Calls.{clear_row}
use Rattle.chain.proofs.Linked.{has_linked}
use Rattle.chain.proofs.Releasing.{cells_size}
use Rattle.chain.proofs.Kept.{held_after, formed_after, cleared}
use Rattle.chain.proofs.device.ChainSlotDevice.clear.Goals as goal

pub release-requires : goal.release-requires
release-requires c =
    let t = c.args.self.now in
    let l = t.memory.layout in
    record { linked = (untruncated l.slots l.longest l.cells t.memory.loan.bytes.now t.formed).linked; slot = c.in_ok-look.ensures.inside.0 }

pub invariant_of-self : goal.invariant_of-self
invariant_of-self c =
    let t = c.args.self.now in
    let m = t.memory in
    let l = m.layout in
    let b = m.loan.bytes.now in
    let a = c.release.ensures.put in
    let f = untruncated l.slots l.longest l.cells b t.formed in
    record { formed = rw a.layout (∣ formed_after l.slots l.longest l.cells c.args.slot [] b c.release.new.self.loan.bytes.now m.size c.in_ok-look.ensures.inside.0 f a.row tt ∣₁) }

pub returns : goal.returns
returns c =
    let t = c.args.self.now in
    let m = t.memory in
    let l = m.layout in
    let b = m.loan.bytes.now in
    let b' = c.release.new.self.loan.bytes.now in
    let a = c.release.ensures.put in
    let f = untruncated l.slots l.longest l.cells b t.formed in
    let i = c.in_ok-look.ensures.inside in
    record {
      fixed = a.layout;
      shape = rw a.layout refl;
      answer = clear_row l.slots l.longest l.cells b m.size c.args.slot i.0 (λ z. omega (arith, i.1, i.2));
      held = rw a.layout (held_after l.slots l.longest l.cells c.args.slot [] b b' m.size i.0 f a.row);
      kept = λ e. absurd (true≢false e);
      memory = cleared l.slots l.cells c.args.slot [] b b' m.size i.0 (has_linked l.cells (cells_of m) (heads_of m) (cells_size l.slots l.cells b m.size) f.linked) a.row refl;
    }
