-- What a type offers is of the type, and each offer is of its key's last edit.
use Rattle.std.proofs.Common.{◌≡◌, ℕ, zero, suc, Bool, true, false, cond, List, [], ◌∷◌, ◌++◌, take, Option, Some, None, sym, ap, subst}
use Rattle.std.specs.Prelude.{nat_le, unwrap_or, IfSome}
use Rattle.std.specs.List.{AllByRecursion}
use Rattle.client_tags.specs.declared.Kind.{Kind}
use Rattle.client_tags.specs.Hashes.{IsHash}
use Rattle.sync_model.specs.declared.message.Offer.{Offer}
use Rattle.sync_model.specs.declared.state.KeyState.{KeyState}
use Rattle.sync_model.specs.KeyStates.{new_state, needs_seal}
use Rattle.sync_model.specs.Sides.{States, state_at}
use Rattle.sync_model.specs.Offers.{offer_for, placed, with_due, with_all_due, with_reseals, due_offers, reseal_offers, offers_of}
use Rattle.type_processor.specs.Fits.{IsOfferOf, IsOwnOffer, AreStatesOf, OffersHaveHashes}
use Rattle.type_processor.specs.Keyed.{found_at, HaveOwnHashes}

-- what holds of the offer of each key by the number of its last edit holds of all that is offered
module _ (P : Offer → Type 0) where
  abbrev Holds : List Offer → Type 0
  Holds offers = AllByRecursion P offers

  abbrev pub Offers : List ℕ × KeyState → Type 0
  Offers key = P (offer_for key.0 key.1 key.1.last_edit) × IfSome key.1.due (λ (number : ℕ). number ≡ key.1.last_edit)

  placed_by : (offer next : Offer) (rest others : List Offer) (before : Bool) → P offer → Holds (next ∷ rest) → Holds others
      → Holds (cond before (next ∷ others) (offer ∷ next ∷ rest))
  placed_by offer next rest others true is are more = (are.0, more)
  placed_by offer next rest others false is are more = (is, are)

  placed_are : (rank : Offer → ℕ) (offer : Offer) (offers : List Offer) → P offer → Holds offers → Holds (placed rank offer offers)
  placed_are rank offer [] is are = (is, tt)
  placed_are rank offer (next ∷ rest) is are =
      placed_by offer next rest (placed rank offer rest) (nat_le (rank next) (rank offer)) is are (placed_are rank offer rest is are.1)

  due_by : (hash : List ℕ) (state : KeyState) (offers : List Offer) (due : Option ℕ) → P (offer_for hash state state.last_edit)
      → IfSome due (λ (number : ℕ). number ≡ state.last_edit) → Holds offers → Holds (with_due offers hash state due)
  due_by hash state offers None is last are = are
  due_by hash state offers (Some number) is last are =
      placed_are (λ offer. offer.number) (offer_for hash state number) offers
      (subst (λ (edit : ℕ). P (offer_for hash state edit)) (sym last) is) are

  all_due_are : (states : States) (offers : List Offer) → AllByRecursion Offers states → Holds offers → Holds (with_all_due offers states)
  unfolding with_all_due
  all_due_are [] offers states_are are = are
  all_due_are (key ∷ states) offers states_are are =
      all_due_are states (with_due offers key.0 key.1 key.1.due) states_are.1
      (due_by key.0 key.1 offers key.1.due states_are.0.0 states_are.0.1 are)

  reseal_by : (key : List ℕ × KeyState) (offers : List Offer) (needs : Bool) → P (offer_for key.0 key.1 key.1.last_edit) → Holds offers
      → Holds (cond needs (placed (λ offer. offer.known) (offer_for key.0 key.1 key.1.last_edit) offers) offers)
  reseal_by key offers true is are = placed_are (λ offer. offer.known) (offer_for key.0 key.1 key.1.last_edit) offers is are
  reseal_by key offers false is are = are

  all_reseals_are : (name : Option (List ℕ)) (states : States) (offers : List Offer) → AllByRecursion Offers states → Holds offers
      → Holds (with_reseals name offers states)
  unfolding with_reseals
  all_reseals_are name [] offers states_are are = are
  all_reseals_are name (key ∷ states) offers states_are are =
      all_reseals_are name states _ states_are.1 (reseal_by key offers (needs_seal name key.1) states_are.0.0 are)

  both_are : (xs ys : List Offer) → Holds xs → Holds ys → Holds (xs ++ ys)
  both_are [] ys xs_are ys_are = ys_are
  both_are (x ∷ xs) ys xs_are ys_are = (xs_are.0, both_are xs ys xs_are.1 ys_are)

  first_are : (room : ℕ) (offers : List Offer) → Holds offers → Holds (take room offers)
  first_are zero offers are = tt
  first_are (suc room) [] are = tt
  first_are (suc room) (offer ∷ offers) are = (are.0, first_are room offers are.1)

  pub all_offers_are : (name : Option (List ℕ)) (room : ℕ) (states : States) → AllByRecursion Offers states → Holds (offers_of name room states)
  all_offers_are name room states are =
      first_are room (due_offers states ++ reseal_offers name states)
      (both_are (due_offers states) (reseal_offers name states) (all_due_are states [] are tt) (all_reseals_are name states [] are tt))

-- an offer whose hash has twenty bytes is of the type
abbrev FitsWithHash : Kind → Offer → Type 0
FitsWithHash kind offer = IsHash offer.hash → IsOfferOf kind offer

fit_by : (kind : Kind) (last : ℕ) (states : States) → AreStatesOf kind last states → AllByRecursion (Offers (FitsWithHash kind)) states
fit_by kind last [] are = tt
fit_by kind last (key ∷ states) are =
    ((λ hash. record { hash = hash; known = are.0.known; value = are.0.own }, are.0.due), fit_by kind last states are.1)

with_hashes : (kind : Kind) (offers : List Offer) → AllByRecursion (FitsWithHash kind) offers → OffersHaveHashes offers → AllByRecursion (IsOfferOf kind) offers
with_hashes kind [] fit hashes = tt
with_hashes kind (offer ∷ offers) fit hashes = (fit.0 hashes.0, with_hashes kind offers fit.1 hashes.1)

-- what is offered of states of a type is of the type
pub offers_are : (kind : Kind) (last : ℕ) (name : Option (List ℕ)) (room : ℕ) (states : States) → AreStatesOf kind last states
    → OffersHaveHashes (offers_of name room states) → AllByRecursion (IsOfferOf kind) (offers_of name room states)
offers_are kind last name room states are =
    with_hashes kind (offers_of name room states) (all_offers_are (FitsWithHash kind) name room states (fit_by kind last states are))

found_state : (states : States) (key : List ℕ × KeyState) → found_at states key.0 ≡ Some key.1 → key.1 ≡ state_at states key.0
found_state states key found = sym (ap (λ (state : Option KeyState). unwrap_or state new_state) found)

own_by : (kind : Kind) (last : ℕ) (all states : States) → AreStatesOf kind last states
    → AllByRecursion (λ (key : List ℕ × KeyState). found_at all key.0 ≡ Some key.1) states → AllByRecursion (Offers (IsOwnOffer all)) states
own_by kind last all [] are found = tt
own_by kind last all (key ∷ states) are found = (
  (
    record {
      number = ap (λ (state : KeyState). state.last_edit) (found_state all key found.0);
      value = ap (λ (state : KeyState). state.own) (found_state all key found.0);
    },
    are.0.due,
  ),
  own_by kind last all states are.1 found.1,
)

-- what is offered are the own values of keys, by their last edits
pub offers_are_own : (kind : Kind) (last : ℕ) (name : Option (List ℕ)) (room : ℕ) (states : States) → AreStatesOf kind last states
    → HaveOwnHashes states → AllByRecursion (IsOwnOffer states) (offers_of name room states)
offers_are_own kind last name room states are found =
    all_offers_are (IsOwnOffer states) name room states (own_by kind last states states are found)
