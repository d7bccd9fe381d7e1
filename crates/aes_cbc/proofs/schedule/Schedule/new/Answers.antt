use Rattle.std.proofs.Common.{refl, ◌∙◌, arith}
use Rattle.std.proofs.lemmas.List.{length-set}
use Rattle.aes_cbc.specs.Expansion.{first_words}
use Rattle.aes_cbc.proofs.WordLemmas.{words_more, all_words}
use Rattle.aes_cbc.proofs.schedule.Schedule.new.Goals as goal

pub words-init : goal.words-init
unfolding first_words
words-init c = (refl, refl)

pub words-preserved : goal.words-preserved
words-preserved c = (
  length-set c.words.words c.words.i c.next_word.result ∙ c.words.invariant.0,
  words_more c.args.key.now c.words.words c.words.i c.next_word.result (omega (arith, c.words.invariant.0)) c.words.invariant.1 c.next_word.ensures,
)

pub returns : goal.returns
returns c = all_words c.args.key.now c.words.words c.words.i c.words.invariant.0 (omega arith) c.words.invariant.1
