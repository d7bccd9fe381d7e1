-- Offers that a side notes leave all of its keys but what was offered.
use Rattle.std.proofs.Common.{◌≡◌, ℕ, ◌<◌, ◌⊎◌, List, [], ◌∷◌, inl, inr, refl, sym, ap, ◌∙◌, subst, arith}
use Rattle.sync_values.specs.declared.value.Value.{Value}
use Rattle.sync_model.specs.declared.message.Offer.{Offer}
use Rattle.sync_model.specs.declared.state.KeyState.{KeyState}
use Rattle.sync_model.specs.declared.state.Offered.{Offered}
use Rattle.sync_model.specs.KeyStates.{new_state, with_offered, noted}
use Rattle.sync_model.specs.Sides.{States, state_at, after_offer, after_offers}
use Rattle.sync_model.specs.FateFacts.{IsNumbered, AreNumbered, IsOnlyOf, StandsOn}
use Rattle.sync_model.proofs.KeyLookups.{with_state-IsSetAt}
use Rattle.sync_model.proofs.FateKeys.{Each, each_at, each_put}

-- a state is another one but for what was offered
abbrev pub IsNotedFrom : KeyState → KeyState → Type 0
IsNotedFrom old new = (offered : List Offered) × (new ≡ record old { offered = offered })

-- a state that notes an offer
pub noted-is : (state : KeyState) (number : ℕ) (value : Value) → IsNotedFrom state (noted state number value)
unfolding noted
noted-is state number value = (with_offered state.offered number value, refl)

noted_again : (old new next : KeyState) → IsNotedFrom old new → IsNotedFrom new next → IsNotedFrom old next
noted_again old new next one more = (more.0, more.1 ∙ ap (λ (state : KeyState). record state { offered = more.0 }) one.1)

-- one offer
pub after_offer_at : (states : States) (offer : Offer) (hash : List ℕ) → IsNotedFrom (state_at states hash) (state_at (after_offer states offer) hash)
after_offer_at states offer hash = by (with_state-IsSetAt states offer.hash (noted (state_at states offer.hash) offer.number offer.value) hash)
  where
    by : ((state_at (after_offer states offer) hash ≡ state_at states hash)
        ⊎ ((state_at (after_offer states offer) hash ≡ noted (state_at states offer.hash) offer.number offer.value) × (hash ≡ offer.hash)))
        → IsNotedFrom (state_at states hash) (state_at (after_offer states offer) hash)
    by (inl same) = ((state_at states hash).offered, same)
    by (inr put) = subst (λ (found : KeyState). IsNotedFrom (state_at states hash) found) (sym put.0)
        (subst (λ (key : List ℕ). IsNotedFrom (state_at states key) (noted (state_at states offer.hash) offer.number offer.value)) (sym put.1)
        (noted-is (state_at states offer.hash) offer.number offer.value))

-- the state of a key after some offers is as before but for what was offered
pub after_offers_at : (states : States) (offers : List Offer) (hash : List ℕ) → IsNotedFrom (state_at states hash) (state_at (after_offers states offers) hash)
unfolding after_offers
after_offers_at states [] hash = ((state_at states hash).offered, refl)
after_offers_at states (offer ∷ offers) hash =
    noted_again (state_at states hash) (state_at (after_offer states offer) hash) (state_at (after_offers (after_offer states offer) offers) hash)
    (after_offer_at states offer hash) (after_offers_at (after_offer states offer) offers hash)

-- what holds of a key's state whatever was offered does after some offers
pub noted_keeps : (P : KeyState → Type 0) (states : States) (offers : List Offer) (hash : List ℕ)
    → ((offered : List Offered) → P (record (state_at states hash) { offered = offered })) → P (state_at (after_offers states offers) hash)
noted_keeps P states offers hash keeps =
    let is : IsNotedFrom (state_at states hash) (state_at (after_offers states offers) hash) = after_offers_at states offers hash
    in subst P (sym is.1) (keeps is.0)

-- what holds of each listed key whatever was offered, and of new ones, does after some offers
pub each_noted : (P : List ℕ → KeyState → Type 0) (states : States) (offers : List Offer) → ((hash : List ℕ) → P hash new_state)
    → ((hash : List ℕ) (state : KeyState) (offered : List Offered) → P hash state → P hash (record state { offered = offered }))
    → Each P states → Each P (after_offers states offers)
unfolding after_offers noted
each_noted P states [] new keeps all = all
each_noted P states (offer ∷ offers) new keeps all =
    each_noted P (after_offer states offer) offers new keeps
    (each_put P states offer.hash (noted (state_at states offer.hash) offer.number offer.value)
    (keeps offer.hash (state_at states offer.hash) (with_offered (state_at states offer.hash).offered offer.number offer.value)
    (each_at P states offer.hash (new offer.hash) all)) all)

-- so the keys of a side stay numbered
pub noted_numbered : (last : ℕ) (states : States) (offers : List Offer) → AreNumbered last states → AreNumbered last (after_offers states offers)
noted_numbered last states offers =
    each_noted (λ hash state. IsNumbered last state) states offers (λ hash. record { due = tt; within = omega arith })
    (λ hash state offered is. record { due = is.due; within = is.within })

-- and an edit that stands still does
pub noted_stands : (edit : ℕ) (hash : List ℕ) (value : Value) (states : States) (offers : List Offer) → 0 < edit
    → StandsOn edit hash value states → StandsOn edit hash value (after_offers states offers)
noted_stands edit hash value states offers some stands =
    let is : IsNotedFrom (state_at states hash) (state_at (after_offers states offers) hash) = after_offers_at states offers hash
    in record {
      due = ap (λ (state : KeyState). state.due) is.1 ∙ stands.due;
      own = ap (λ (state : KeyState). state.own) is.1 ∙ stands.own;
      alone = each_noted (IsOnlyOf edit hash value) states offers (λ other is. absurd (omega (arith, some, is)))
          (λ other state offered only. only) stands.alone;
    }
