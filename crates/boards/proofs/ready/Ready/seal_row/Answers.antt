use Rattle.boards.specs.Readiness.{bundle_in}
use Rattle.boards.proofs.RowSealing.{row_sealed, row_back}
use Rattle.boards.proofs.ready.Ready.seal_row.Goals as goal

pub returns-clause-after : goal.returns-clause-after
returns-clause-after g c =
    let it = c.args.self.now in
    row_sealed g.C.BlockCipher (bundle_in g.C.BlockCipher it) it.label.bytes c.nonce-nonce.result c.args.row.now c.seal.new.message c.args.slot c.seal.result
    c.nonce-nonce.ensures it.label.formed.0 c.requires.row.low c.requires.row.high c.seal.ensures.answer c.seal.ensures.after

pub returns-clause-back : goal.returns-clause-back
returns-clause-back g c =
    let it = c.args.self.now in
    row_back g.C.BlockCipher (bundle_in g.C.BlockCipher it) it.label.bytes c.nonce-nonce.result c.args.row.now c.seal.new.message c.args.slot c.seal.result
    c.nonce-nonce.ensures it.label.formed.0 c.requires.row.low c.requires.row.high c.seal.ensures.answer c.seal.ensures.back
