use Rattle.ciphers.proofs.aes.schedule.next_word.Goals as goal

pub returns : goal.returns
returns c = cc
