use Rattle.ciphers.specs.Speck.{words_of}
use Rattle.ciphers.specs.SpeckRounds.{pair}
use Rattle.ciphers.proofs.speck.read_words.Goals as goal

pub returns : goal.returns
unfolding words_of
returns c = pair _ _ _ _ c.read_word.ensures c.read_word-2.ensures
