use Rattle.std.proofs.Common.{length, refl}
use Rattle.chain.specs.Soundness.{untruncated}
use Rattle.chain.proofs.Empty.{dimensions_right}
use Rattle.chain.proofs.Chain.give_up.Goals as goal

pub returns : goal.returns
returns c =
    let t = c.args.self in
    let m = t.memory in
    let l = m.layout in
    let b = m.loan.bytes.now in
    record {
      memory = refl;
      attachable = record {
        dimensions = dimensions_right l.slots l.longest l.cells (length b) m.limits m.count m.size;
        formed = untruncated l.slots l.longest l.cells b t.formed;
      };
    }
