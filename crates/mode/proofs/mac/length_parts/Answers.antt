use Rattle.mode.proofs.Chaining.{parts_joined}
use Rattle.mode.proofs.mac.length_parts.Goals as goal

pub returns : goal.returns
returns c =
    parts_joined c.args.nonce c.args.ad c.args.message c.to_le_bytes.result c.to_le_bytes-2.result c.to_le_bytes-3.result c.to_le_bytes.ensures c.to_le_bytes-2.ensures c.to_le_bytes-3.ensures
