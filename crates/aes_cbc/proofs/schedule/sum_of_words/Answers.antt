use Rattle.aes_cbc.proofs.WordLemmas.{sum_of_words_from}
use Rattle.aes_cbc.proofs.schedule.sum_of_words.Goals as goal

pub returns : goal.returns
returns c = sum_of_words_from c.args.left.now c.args.right.now c.told-left c.told-right
