use Rattle.std.proofs.Common.{◌≡◌, ◌+◌, ◌∷◌, ◌∙◌, List, ap, drop, sym}
use Rattle.std.proofs.lemmas.List.{drop_more}
use Rattle.sync_model.specs.declared.message.Offer.{Offer}
use Rattle.type_processor.proofs.NoteLemmas.{rest_are_own, rest_after}
use Rattle.type_processor.proofs.notes.note_each.Goals as goal

pub loop-offer-preserved : goal.loop-offer-preserved
loop-offer-preserved c =
    let left : List Offer = drop c.loop-offer.offer-index c.args.offers.now in
    let rest : List Offer = drop (c.loop-offer.offer-index + 1) c.args.offers.now in
    let is : left ≡ c.offer-item.result ∷ rest =
    drop_more c.args.offers.now c.loop-offer.offer-index c.offer-item.result c.loop-offer-test.true
    ∙ ap (λ (offer : Offer). offer ∷ rest) (sym c.offer-item.is) in
    record {
      own =
          rest_are_own c.loop-offer.trackers c.note_offer.new.trackers left rest c.offer-item.result is c.in_ok-note_offer.ensures.states
          c.loop-offer.invariant.own;
      states =
          rest_after c.loop-offer.trackers c.note_offer.new.trackers _ left rest c.offer-item.result is c.in_ok-note_offer.ensures.states
          c.loop-offer.invariant.states;
      leads = λ first leads. c.in_ok-note_offer.ensures.leads first (c.loop-offer.invariant.leads first leads);
    }
