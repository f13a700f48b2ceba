use Rattle.std.proofs.Common.{sym, ap, rules}
use Rattle.ciphers.specs.AesSchedule.{rot_word}
use Rattle.ciphers.proofs.AesLoops.{four_spelled}
use Rattle.ciphers.proofs.aes.schedule.rot_word.Goals as goal

pub returns : goal.returns
returns c = sym (ap rot_word (four_spelled c.args.w (search rules)))
