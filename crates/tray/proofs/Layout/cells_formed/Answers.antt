use Rattle.std.proofs.Common.{◌∙◌, ap, arith, rules}
use Rattle.std.specs.Slice.Iter.{chunks_exact_size, chunks_exact_rest}
use Rattle.tray.proofs.Checking.{all_chunks}
use Rattle.tray.proofs.Layout.cells_formed.Goals as goal

pub returns : goal.returns
returns c =
    let r = c.all.ensures.runs in
    let n = ap chunks_exact_size r.1 ∙ c.chunks_exact.ensures.size ∙ c.cell_len.ensures in
    let k = c.chunks_exact.ensures.runs r.0 r.0.seen in
    all_chunks r.0 c.args.self.slots c.args.self.longest _ c.args.memory.now _ c.requires.4 n (ap chunks_exact_rest r.1 ∙ c.chunks_exact.ensures.rest) (k (omega (arith, n))) _ _ (λ a b q h. search rules) (λ x b h. search rules) _ r.2
