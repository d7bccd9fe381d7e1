use Rattle.std.proofs.Common.{[], ◌∷◌}
use Rattle.schedule_text.specs.Grammar.{AnyText}
use Rattle.schedule_text.specs.Refusals.{words_of}
use Rattle.schedule_text.proofs.Forms.{no_form_by_length}
use Rattle.schedule_text.proofs.Readings.{one_text_read}
use Rattle.schedule_text.proofs.text_word.one_text.Goals as goal

pub returns-in_default : goal.returns-in_default
returns-in_default c = no_form_by_length (words_of c.args.line.now) (AnyText ∷ []) c.in_default.ensures

pub returns : goal.returns
returns c = one_text_read c.args.line.now c.in-Some.word.now c.text_in.result c.in-Some.ensures c.text_in.ensures
