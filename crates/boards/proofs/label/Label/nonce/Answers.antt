use Rattle.std.proofs.Common.{◌∙◌}
use Rattle.boards.proofs.Labels.{nonce_put}
use Rattle.boards.proofs.label.Label.nonce.Goals as goal

pub returns : goal.returns
returns c =
    let it = c.args.self.now in
    let e = c.to_le_bytes.ensures in
    nonce_put c.args.slot c.copy_from_slice.new.self c.copy_from_slice-2.new.self it.bytes (c.copy_from_slice.ensures.after ∙ e) c.copy_from_slice-2.ensures.after it.formed.0
