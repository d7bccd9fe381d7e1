-- Keeping that a value was offered changes nothing else of its key.
use Rattle.std.proofs.Common.{◌≡◌, ℕ, List, [], ◌∷◌, refl, sym, ap, ◌∙◌, subst}
use Rattle.std.specs.List.{AllByRecursion}
use Rattle.sync_values.specs.declared.value.Value.{Value}
use Rattle.entity_tracker.specs.Tracked.{Tracked}
use Rattle.sync_model.specs.declared.message.Offer.{Offer}
use Rattle.sync_model.specs.declared.state.KeyState.{KeyState}
use Rattle.sync_model.specs.KeyStates.{noted}
use Rattle.sync_model.specs.Sides.{States, state_at, with_state, after_offer, after_offers}
use Rattle.type_processor.specs.Fits.{IsOwnOffer}
use Rattle.type_processor.specs.Keyed.{key_of}
use Rattle.type_processor.proofs.ChangedKeys.{state_put, put_at}

-- the states once a key's own value was offered
pub offer_put : (old new : States) (hash : List ℕ) (tracker put : Tracked) (offer : Offer) → key_of tracker ≡ (hash, state_at old hash)
    → hash ≡ offer.hash → put ≡ record tracker { state = noted tracker.state tracker.state.last_edit tracker.state.own }
    → new ≡ with_state old put.hash put.state → IsOwnOffer old offer → new ≡ after_offer old offer
offer_put old new hash tracker put offer is same put_is new_is own =
    state_put old new hash offer.hash tracker put (λ (state : KeyState). noted state state.last_edit state.own) is same
    (ap key_of put_is) new_is
    ∙ (λ i. with_state old offer.hash (noted (state_at old offer.hash) (sym own.number i) (sym own.value i)))

last_stays : (state : KeyState) (number : ℕ) (value : Value) → (noted state number value).last_edit ≡ state.last_edit
unfolding noted
last_stays state number value = refl

own_stays : (state : KeyState) (number : ℕ) (value : Value) → (noted state number value).own ≡ state.own
unfolding noted
own_stays state number value = refl

own_after : (states : States) (offer other : Offer) → IsOwnOffer states other → IsOwnOffer (after_offer states offer) other
own_after states offer other own = record {
  number =
      put_at (λ (state : KeyState). other.number ≡ state.last_edit) states offer.hash other.hash (noted (state_at states offer.hash) offer.number offer.value)
      (λ same. own.number ∙ ap (λ (hash : List ℕ). (state_at states hash).last_edit) (sym same)
      ∙ sym (last_stays (state_at states offer.hash) offer.number offer.value)) own.number;
  value =
      put_at (λ (state : KeyState). other.value ≡ state.own) states offer.hash other.hash (noted (state_at states offer.hash) offer.number offer.value)
      (λ same. own.value ∙ ap (λ (hash : List ℕ). (state_at states hash).own) (sym same)
      ∙ sym (own_stays (state_at states offer.hash) offer.number offer.value)) own.value;
}

all_own_after : (states : States) (offer : Offer) (offers : List Offer) → AllByRecursion (IsOwnOffer states) offers
    → AllByRecursion (IsOwnOffer (after_offer states offer)) offers
all_own_after states offer [] own = tt
all_own_after states offer (other ∷ others) own = (own_after states offer other own.0, all_own_after states offer others own.1)

all_own_kept : (old new : States) (offer : Offer) (offers : List Offer) → new ≡ after_offer old offer
    → AllByRecursion (IsOwnOffer old) offers → AllByRecursion (IsOwnOffer new) offers
all_own_kept old new offer offers is own =
    subst (λ (states : States). AllByRecursion (IsOwnOffer states) offers) (sym is) (all_own_after old offer offers own)

-- one offer less is to be kept
pub rest_are_own : (old new : States) (left rest : List Offer) (offer : Offer) → left ≡ offer ∷ rest → new ≡ after_offer old offer
    → AllByRecursion (IsOwnOffer old) left → AllByRecursion (IsOwnOffer new) rest
rest_are_own old new left rest offer is new_is own =
    let both : AllByRecursion (IsOwnOffer old) (offer ∷ rest) = subst (AllByRecursion (IsOwnOffer old)) is own in
    all_own_kept old new offer rest new_is both.1

pub rest_after : (old new wanted : States) (left rest : List Offer) (offer : Offer) → left ≡ offer ∷ rest → new ≡ after_offer old offer
    → after_offers old left ≡ wanted → after_offers new rest ≡ wanted
unfolding after_offers
rest_after old new wanted left rest offer is new_is before =
    ap (λ (states : States). after_offers states rest) new_is ∙ ap (after_offers old) (sym is) ∙ before
