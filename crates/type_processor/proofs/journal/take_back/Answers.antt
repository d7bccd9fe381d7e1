use Rattle.type_processor.proofs.JournalLemmas.{back_to_none, back_to_some}
use Rattle.type_processor.proofs.journal.take_back.Goals as goal

pub returns-in-None : goal.returns-in-None
returns-in-None c = λ before change_is.
    back_to_none c.args.change before c.args.trackers.now c.remove.new.self c.in-None.is c.remove.ensures change_is

pub returns-in-Some : goal.returns-in-Some
returns-in-Some c = λ before change_is.
    back_to_some c.args.change before c.args.trackers.now c.put_back.new.self c.in-Some.tracker c.in-Some.is c.put_back.ensures change_is
