use Rattle.type_processor.proofs.JournalLemmas.{at_start}
use Rattle.type_processor.proofs.updates.apply_updates.Goals as goal

pub returns-in-Err-clause-err : goal.returns-in-Err-clause-err
returns-in-Err-clause-err g c =
    c.take_all_back.ensures c.args.trackers.now
    (c.apply_each.ensures.leads c.args.trackers.now (at_start c.new-changes.result.items c.args.trackers.now c.new-changes.ensures.items))
