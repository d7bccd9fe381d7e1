use Rattle.schedule_text.specs.Refusals.{words_of}
use Rattle.schedule_text.proofs.LineReadings.{pass_read}
use Rattle.schedule_text.proofs.place.pass_of.Goals as goal

pub returns : goal.returns
returns c = pass_read (words_of c.args.line.now) c.one_text.result c.one_text.ensures
