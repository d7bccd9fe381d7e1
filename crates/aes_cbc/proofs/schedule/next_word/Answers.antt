use Rattle.std.proofs.Common.{◌∙◌, sym, ap, arith}
use Rattle.aes_cbc.specs.Block.{sum_of_bytes}
use Rattle.aes_cbc.proofs.WordLemmas.{next_word_from_key, next_word_of_words}
use Rattle.aes_cbc.proofs.schedule.next_word.Goals as goal

pub returns-then-i-lt4 : goal.returns-then-i-lt4
returns-then-i-lt4 c = next_word_from_key c.args.key.now c.args.words.now c.args.i c.told-key (omega arith)

pub returns : goal.returns
returns c =
    c.sum_of_words.ensures ∙ ap (sum_of_bytes _) c.round_addend.ensures
    ∙ sym (next_word_of_words c.args.key.now c.args.words.now c.args.i (omega arith))
