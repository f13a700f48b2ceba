use Rattle.boards.specs.Readiness.{bundle_in}
use Rattle.boards.proofs.RowSealing.{row_opened}
use Rattle.boards.proofs.ready.Ready.open_row.Goals as goal

pub returns-clause-after : goal.returns-clause-after
returns-clause-after g c =
    let it = c.args.self.now in
    row_opened g.C.BlockCipher (bundle_in g.C.BlockCipher it) it.label.bytes c.nonce-nonce.result c.args.row.now c.open.new.message c.args.slot c.open.result
    c.nonce-nonce.ensures it.label.formed.0 c.requires.row.low c.requires.row.high c.open.ensures.answer c.open.ensures.after
