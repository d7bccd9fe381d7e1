use Rattle.schedule_text.proofs.Words.{not_one, one_word_is}
use Rattle.schedule_text.proofs.pieces.one_word.Goals as goal

pub returns-in-Some : goal.returns-in-Some
returns-in-Some c = not_one c.args.line.now c.in-Some.field-0.0.now c.in-Some.field-0.1.now c.in-Some.ensures

pub returns-in-None : goal.returns-in-None
returns-in-None c = one_word_is c.args.line.now c.in-None.ensures
