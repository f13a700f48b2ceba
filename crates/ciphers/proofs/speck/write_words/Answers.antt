use Rattle.std.proofs.Common.{◌∙◌}
use Rattle.base.proofs.Digits.{to_le_64}
use Rattle.ciphers.specs.SpeckUndoing.{halves}
use Rattle.ciphers.proofs.speck.write_words.Goals as goal

pub returns : goal.returns
returns c =
    halves c.args.bytes.now c.copy_from_slice.new.self c.copy_from_slice-2.new.self c.args.words c.requires
    (c.copy_from_slice.ensures.after ∙ c.to_le_bytes.ensures ∙ to_le_64 c.args.words.1)
    (c.copy_from_slice-2.ensures.after ∙ c.to_le_bytes-2.ensures ∙ to_le_64 c.args.words.0)
