use Rattle.std.proofs.Common.{[], ◌∷◌}
use Rattle.schedule_text.specs.Grammar.{Between}
use Rattle.schedule_text.specs.Limits.{MAX_SEED}
use Rattle.schedule_text.specs.Refusals.{words_of}
use Rattle.schedule_text.proofs.Forms.{no_form_by_length}
use Rattle.schedule_text.proofs.LineReadings.{seed_read}
use Rattle.schedule_text.proofs.place.seed_of.Goals as goal

pub returns-in_default : goal.returns-in_default
returns-in_default c = no_form_by_length (words_of c.args.line.now) (Between 1 MAX_SEED ∷ []) c.in_default.ensures

pub returns : goal.returns
returns c = seed_read c.args.line.now c.in-Some.word.now c.number_in.result c.in-Some.ensures c.number_in.ensures
