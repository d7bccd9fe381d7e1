use Rattle.std.proofs.Common.{◌∙◌, subst, sym}
use Rattle.std.specs.List.{AllByRecursion}
use Rattle.std.specs.Option.{option_copied}
use Rattle.type_processor.specs.Fits.{AreStatesOf, IsOfferOf, IsOwnOffer, OffersHaveHashes}
use Rattle.type_processor.proofs.OffersFit.{offers_are, offers_are_own}
use Rattle.type_processor.proofs.Soundness.{offers_kept_are}
use Rattle.type_processor.proofs.processor.Processor.offers.Goals as goal

pub note_offers-requires : goal.note_offers-requires
note_offers-requires g c =
    subst (AllByRecursion (IsOwnOffer c.self.inside.trackers)) (sym (c.as_slice.ensures ∙ c.in_ok-offers.ensures.offers))
    (offers_are_own c.self.inside.kind c.self.inside.last_edit (option_copied c.args.wanted) c.args.max c.self.inside.trackers
    c.self.invariant.states c.have_own_hashes.ensures)

pub invariant_of-self-2 : goal.invariant_of-self-2
invariant_of-self-2 g c = record {
  states =
      subst (AreStatesOf c.self.inside.kind c.self.inside.last_edit) (sym c.in_ok-note_offers.ensures.states)
      (offers_kept_are c.self.inside.kind c.self.inside.last_edit c.self.inside.trackers c.as_slice.result.now c.self.invariant.states);
  mailbox = c.self.invariant.mailbox;
}

pub returns-clause-fit : goal.returns-clause-fit
returns-clause-fit g c =
    rw (← c.self.view_is)
    (subst (AllByRecursion (IsOfferOf c.self.inside.kind)) (sym c.in_ok-offers.ensures.offers)
    (offers_are c.self.inside.kind c.self.inside.last_edit (option_copied c.args.wanted) c.args.max c.self.inside.trackers c.self.invariant.states
    (subst OffersHaveHashes c.in_ok-offers.ensures.offers c.in_ok-offers.ensures.hashes)))
