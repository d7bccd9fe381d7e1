use Rattle.type_processor.proofs.JournalLemmas.{at_start}
use Rattle.type_processor.proofs.notes.note_offers.Goals as goal

pub returns-in-Err-clause-err : goal.returns-in-Err-clause-err
returns-in-Err-clause-err c =
    c.take_all_back.ensures c.args.trackers.now
    (c.note_each.ensures.leads c.args.trackers.now (at_start c.new-changes.result.items c.args.trackers.now c.new-changes.ensures.items))
