use Rattle.std.proofs.Common.{[], ◌∷◌}
use Rattle.schedule_text.specs.Grammar.{Between}
use Rattle.schedule_text.specs.Refusals.{words_of}
use Rattle.schedule_text.proofs.Forms.{no_form_by_length}
use Rattle.schedule_text.proofs.Readings.{one_number_read}
use Rattle.schedule_text.proofs.number.one_number.Goals as goal

pub returns-in_default : goal.returns-in_default
returns-in_default c = no_form_by_length (words_of c.args.line.now) (Between 1 c.args.high ∷ []) c.in_default.ensures

pub returns : goal.returns
returns c = one_number_read c.args.line.now c.in-Some.word.now c.args.high c.number_up_to.result c.in-Some.ensures c.number_up_to.ensures
