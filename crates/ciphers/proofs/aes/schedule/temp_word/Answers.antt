use Rattle.std.proofs.Common.{◌≡◌, true, false}
use Rattle.ciphers.specs.AesSchedule.{turned_at, substituted_at}
use Rattle.ciphers.proofs.AesWords.{temp_turned, temp_substituted, temp_plain}
use Rattle.ciphers.proofs.aes.schedule.temp_word.Goals as goal

pub returns-then-is_turned : goal.returns-then-is_turned
returns-then-is_turned c =
    let h : turned_at c.args.nk c.args.i ≡ true = cc in
    let e = temp_turned c.args.nk c.args.i c.args.last h in
    cc

pub returns-then-is_substituted : goal.returns-then-is_substituted
returns-then-is_substituted c =
    let h : turned_at c.args.nk c.args.i ≡ false = cc in
    let k : substituted_at c.args.nk c.args.i ≡ true = cc in
    let e = temp_substituted c.args.nk c.args.i c.args.last h k in
    cc

pub returns-else-is_substituted : goal.returns-else-is_substituted
returns-else-is_substituted c =
    let h : turned_at c.args.nk c.args.i ≡ false = cc in
    let k : substituted_at c.args.nk c.args.i ≡ false = cc in
    temp_plain c.args.nk c.args.i c.args.last h k
