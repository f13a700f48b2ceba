use Rattle.std.proofs.Common.{◌≡◌, length, set, refl, ap, ◌∙◌, arith}
use Rattle.std.proofs.lemmas.Bool.{true≢false}
use Rattle.base.specs.Bytes.{zeros}
use Rattle.chain.specs.Lent.{cells_of, heads_of, memory_holds}
use Rattle.chain.specs.Soundness.{untruncated}
use Rattle.chain.proofs.Calls.{row_slot, row_fits, write_room}
use Rattle.chain.proofs.Linked.{has_linked}
use Rattle.chain.proofs.Releasing.{cells_size}
use Rattle.chain.proofs.Kept.{held_after, formed_after, written}
use Rattle.chain.proofs.device.ChainSlotDevice.write.Goals as goal

pub replace-requires : goal.replace-requires
replace-requires c =
    let t = c.args.self.now in
    let l = t.memory.layout in
    let i = c.in_ok-admit.ensures.inside in
    record { linked = (untruncated l.slots l.longest l.cells t.memory.loan.bytes.now t.formed).linked; slot = i.0; room = i.3 }

pub invariant_of-self : goal.invariant_of-self
invariant_of-self c =
    let t = c.args.self.now in
    let m = t.memory in
    let l = m.layout in
    let b = m.loan.bytes.now in
    let r = c.args.row.now in
    let a = c.replace.ensures.put in
    let f = untruncated l.slots l.longest l.cells b t.formed in
    let i = c.in_ok-admit.ensures.inside in
    record { formed = rw a.layout (∣ formed_after l.slots l.longest l.cells c.args.slot r b c.replace.new.self.loan.bytes.now m.size i.0 f a.row (row_fits l.slots l.longest l.cells r i.1 i.2 c.replace.ensures.bytes) ∣₁) }

pub returns : goal.returns
returns c =
    let t = c.args.self.now in
    let m = t.memory in
    let l = m.layout in
    let b = m.loan.bytes.now in
    let b' = c.replace.new.self.loan.bytes.now in
    let r = c.args.row.now in
    let a = c.replace.ensures.put in
    let f = untruncated l.slots l.longest l.cells b t.formed in
    let i = c.in_ok-admit.ensures.inside in
    let w : c.wipe.new.s ≡ zeros (length r) = c.wipe.ensures in
    record {
      fixed = a.layout;
      shape = rw a.layout refl;
      answer = write_room l.slots l.longest l.cells b m.size c.args.slot i.0 (length r) i.1 i.2 i.3;
      held = rw a.layout (held_after l.slots l.longest l.cells c.args.slot r b b' m.size i.0 f a.row ∙ ap (set (memory_holds m) c.args.slot) (row_slot r (λ z. omega (arith, i.1))));
      after = w;
      kept = λ e. absurd (true≢false e);
      memory = written l.slots l.cells c.args.slot r b b' m.size i.0 (has_linked l.cells (cells_of m) (heads_of m) (cells_size l.slots l.cells b m.size) f.linked) a.row;
    }
