use Rattle.std.proofs.Common.{◌≡◌, ◌++◌, length, drop, sym, refl, ap, ◌∙◌, arith}
use Rattle.chain.proofs.Calls.{read_row, bytes_held}
use Rattle.chain.proofs.device.ChainSlotDevice.read.Goals as goal

pub copy_row-requires : goal.copy_row-requires
copy_row-requires c =
    let i = c.in_ok-n.ensures.inside in
    record { slot = i.0; room = omega (arith, i.2) }

pub returns : goal.returns
returns c =
    let m = c.args.self.now.memory in
    let l = m.layout in
    let b = m.loan.bytes.now in
    let i = c.in_ok-n.ensures.inside in
    let e = c.copy_row.ensures.value in
    let ne : c.copy_row.result ≡ 0 → ⊥ = λ z. omega (arith, i.1, i.2) in
    let h = bytes_held l.slots l.longest l.cells b m.size c.args.slot i.0 (λ z. ne (e ∙ z)) in
    record {
      fixed = refl;
      shape = refl;
      answer = read_row l.slots l.longest l.cells b m.size c.args.slot i.0 c.copy_row.result (length c.args.buffer.now) e ne (omega (arith, i.2));
      held = refl;
      after = c.copy_row.ensures.after ∙ ap (λ x. x ++ drop c.copy_row.result c.args.buffer.now) (sym h);
      kept = refl;
    }
