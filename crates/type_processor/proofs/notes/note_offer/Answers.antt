use Rattle.std.proofs.Common.{refl}
use Rattle.type_processor.proofs.NoteLemmas.{offer_put}
use Rattle.type_processor.proofs.notes.note_offer.Goals as goal

pub returns-clause-states : goal.returns-clause-states
returns-clause-states c =
    offer_put c.args.trackers.now c.put_changed.new.trackers c.args.offer.now.hash c.in_ok-tracker.tracker c.note_offered.new.self c.args.offer.now
    c.in_ok-tracker.ensures refl c.in_ok-note_offered.ensures.ok c.in_ok-put_changed.ensures.ok c.requires
