use Rattle.std.proofs.Common.{◌≡◌, drop}
use Rattle.std.specs.List.{AllByRecursion}
use Rattle.sync_model.specs.Sides.{States, after_offers}
use Rattle.type_processor.specs.Fits.{IsOwnOffer}
use Rattle.type_processor.specs.Journals.{LeadsBack}
use Rattle.type_processor.proofs.notes.note_each.Given as goal

abbrev pub invariant-loop-offer : goal.invariant-loop-offer
invariant-loop-offer l = record {
  own : AllByRecursion (IsOwnOffer l.trackers) (drop l.offer-index l.offers);
  states : after_offers l.trackers (drop l.offer-index l.offers) ≡ after_offers l.initial.trackers l.offers;
  leads : (first : States) → LeadsBack l.initial.changes.items first l.initial.trackers → LeadsBack l.changes.items first l.trackers;
}
