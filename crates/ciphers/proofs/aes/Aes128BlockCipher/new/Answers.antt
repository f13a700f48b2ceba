use Rattle.std.proofs.Common.{◌≡◌, length, take, sym, refl, ap, ◌∙◌, subst, arith, rules}
use Rattle.base.specs.Bytes.{AllBytes}
use Rattle.ciphers.specs.AesSchedule.{key_expansion}
use Rattle.ciphers.proofs.AesMade.{schedule_made, schedule_key, schedule_long}
use Rattle.ciphers.proofs.aes.Aes128BlockCipher.new.Goals as goal

pub invariant_of-result : goal.invariant_of-result
invariant_of-result c =
    let l : length c.args.key.now ≡ 16 = search rules in
    let made : c.expand.new.schedule ≡ key_expansion 4 c.args.key.now = schedule_made 4 44 c.args.key.now c.expand.new.schedule l refl c.expand.ensures in
    let key : take 16 c.expand.new.schedule ≡ c.args.key.now = schedule_key 4 c.args.key.now c.expand.new.schedule l made in record {
      long = schedule_long 4 c.args.key.now c.expand.new.schedule (omega arith) l made;
      fit = subst AllBytes (sym key) (λ i. search rules);
      made = made ∙ ap (key_expansion 4) (sym key);
    }

pub returns : goal.returns
returns c =
    let l : length c.args.key.now ≡ 16 = search rules in
    (l, schedule_key 4 c.args.key.now c.expand.new.schedule l (schedule_made 4 44 c.args.key.now c.expand.new.schedule l refl c.expand.ensures))
