use Rattle.std.proofs.Common.{length}
use Rattle.chain.proofs.Empty.{right_dimensions}
use Rattle.chain.proofs.Chain.attach.Goals as goal

pub invariant_of-memory : goal.invariant_of-memory
invariant_of-memory c =
    let l = c.args.layout in
    let d = right_dimensions l.slots l.longest l.cells (length c.args.memory.now) c.requires.dimensions in
    record { limits = d.0; count = d.1; size = d.2 }

pub invariant_of-result : goal.invariant_of-result
invariant_of-result c = record { formed = ∣ c.requires.formed ∣₁ }
