use Rattle.type_processor.proofs.JournalLemmas.{goes_back}
use Rattle.type_processor.proofs.journal.take_all_back.Goals as goal

pub changes-preserved : goal.changes-preserved
changes-preserved c = λ first leads.
    goes_back c.in-Some.change c.pop_front.new.self.items c.changes.changes.items first c.changes.trackers c.take_back.new.trackers
    c.in-Some.ensures.items c.take_back.ensures (c.changes.invariant first leads)
