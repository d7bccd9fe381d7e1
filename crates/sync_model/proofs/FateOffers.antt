-- What a side offers says of each edit what is said of the keys: so do the entries that are held.
use Rattle.std.proofs.Common.{◌≡◌, ℕ, ◌-◌, ◌++◌, Bool, true, false, cond, List, [], ◌∷◌, length, Option, Some, None, sym, subst, IfSome, nat_le}
use Rattle.std.specs.List.{AllByRecursion}
use Rattle.client_tags.specs.declared.Kind.{Kind}
use Rattle.sync_model.specs.declared.message.Offer.{Offer}
use Rattle.sync_model.specs.declared.state.KeyState.{KeyState}
use Rattle.sync_model.specs.KeyStates.{needs_seal}
use Rattle.sync_model.specs.Settings.{Setting}
use Rattle.sync_model.specs.Sides.{States}
use Rattle.sync_model.specs.Offers.{offer_for, placed, with_due, with_all_due, due_offers, with_reseal, with_reseals, reseal_offers, offers_of}
use Rattle.sync_model.specs.Clients.{Client, side_of, wanted_name}
use Rattle.sync_model.specs.Sending.{MAX_ENTRIES, Draws, lock_for, drawn_after, sealed, is_held_back, lacks_own_lock, asked_offers, gathered}
use Rattle.sync_model.specs.FateFacts.{Saying, IsSaidOfEntry}
use Rattle.sync_model.proofs.TrueAcks.{all_append}
use Rattle.sync_model.proofs.WantedWrites.{all_take}
use Rattle.sync_model.proofs.FateKeys.{Each}

-- this is said of an offer
abbrev pub IsSaidOfOffer : Saying → Kind → Offer → Type 0
IsSaidOfOffer Says kind offer = Says kind offer.number offer.value

-- this is said of a key's own value and its last edit, which is what is due, if anything is
abbrev pub IsSaidOfKey : Saying → Kind → KeyState → Type 0
IsSaidOfKey Says kind state = IfSome state.due (λ due. due ≡ state.last_edit) × Says kind state.last_edit state.own

-- an offer that is placed among others
placed_by : (P : Offer → Type 0) (offer next : Offer) (more rest : List Offer) (before : Bool) → P offer → AllByRecursion P (next ∷ rest)
    → AllByRecursion P more → AllByRecursion P (cond before (next ∷ more) (offer ∷ next ∷ rest))
placed_by P offer next more rest true is all placed_there = (all.0, placed_there)
placed_by P offer next more rest false is all placed_there = (is, all)

pub placed_all : (P : Offer → Type 0) (rank : Offer → ℕ) (offer : Offer) (offers : List Offer) → P offer → AllByRecursion P offers
    → AllByRecursion P (placed rank offer offers)
placed_all P rank offer [] is all = (is, tt)
placed_all P rank offer (next ∷ rest) is all =
    placed_by P offer next (placed rank offer rest) rest (nat_le (rank next) (rank offer)) is all (placed_all P rank offer rest is all.1)

with_due_said : (Says : Saying) (kind : Kind) (offers : List Offer) (hash : List ℕ) (state : KeyState) (due : Option ℕ)
    → IfSome due (λ number. number ≡ state.last_edit) → Says kind state.last_edit state.own → AllByRecursion (IsSaidOfOffer Says kind) offers
    → AllByRecursion (IsSaidOfOffer Says kind) (with_due offers hash state due)
with_due_said Says kind offers hash state None is said all = all
with_due_said Says kind offers hash state (Some number) is said all =
    placed_all (IsSaidOfOffer Says kind) (λ offer. offer.number) (offer_for hash state number) offers
    (subst (λ (edit : ℕ). Says kind edit state.own) (sym is) said) all

all_due_said : (Says : Saying) (kind : Kind) (offers : List Offer) (states : States) → Each (λ hash. IsSaidOfKey Says kind) states
    → AllByRecursion (IsSaidOfOffer Says kind) offers → AllByRecursion (IsSaidOfOffer Says kind) (with_all_due offers states)
unfolding with_all_due
all_due_said Says kind offers [] said all = all
all_due_said Says kind offers (key ∷ states) said all =
    all_due_said Says kind (with_due offers key.0 key.1 key.1.due) states said.1
    (with_due_said Says kind offers key.0 key.1 key.1.due said.0.0 said.0.1 all)

reseals_said : (Says : Saying) (kind : Kind) (name : Option (List ℕ)) (offers : List Offer) (states : States) → Each (λ hash. IsSaidOfKey Says kind) states
    → AllByRecursion (IsSaidOfOffer Says kind) offers → AllByRecursion (IsSaidOfOffer Says kind) (with_reseals name offers states)
unfolding with_reseals
reseals_said Says kind name offers [] said all = all
reseals_said Says kind name offers (key ∷ states) said all =
    reseals_said Says kind name (with_reseal name offers key.0 key.1) states said.1 (by (needs_seal name key.1))
  where
    by : (needed : Bool) → AllByRecursion (IsSaidOfOffer Says kind)
        (cond needed (placed (λ offer. offer.known) (offer_for key.0 key.1 key.1.last_edit) offers) offers)
    by true = placed_all (IsSaidOfOffer Says kind) (λ offer. offer.known) (offer_for key.0 key.1 key.1.last_edit) offers said.0.1 all
    by false = all

offers_said : (Says : Saying) (kind : Kind) (name : Option (List ℕ)) (room : ℕ) (states : States) → Each (λ hash. IsSaidOfKey Says kind) states
    → AllByRecursion (IsSaidOfOffer Says kind) (offers_of name room states)
offers_said Says kind name room states said =
    all_take (IsSaidOfOffer Says kind) room (due_offers states ++ reseal_offers name states)
    (all_append (IsSaidOfOffer Says kind) (due_offers states) (reseal_offers name states)
    (all_due_said Says kind [] states said tt) (reseals_said Says kind name [] states said tt))

-- what a gather asks a side for, and what may be sent of it
pub asked_said : (Says : Saying) (setting : Setting) (kind : Kind) (client : Client) → Each (λ hash. IsSaidOfKey Says kind) (side_of client kind).states
    → AllByRecursion (IsSaidOfOffer Says kind) (asked_offers setting kind client)
asked_said Says setting kind client said = by (is_held_back setting client kind)
  where
    by : (held_back : Bool) → AllByRecursion (IsSaidOfOffer Says kind) (cond held_back []
        (offers_of (wanted_name setting client kind) (MAX_ENTRIES - length client.held) (side_of client kind).states))
    by true = tt
    by false = offers_said Says kind (wanted_name setting client kind) (MAX_ENTRIES - length client.held) (side_of client kind).states said

pub gathered_said : (Says : Saying) (setting : Setting) (kind : Kind) (client : Client) → Each (λ hash. IsSaidOfKey Says kind) (side_of client kind).states
    → AllByRecursion (IsSaidOfOffer Says kind) (gathered setting kind client)
gathered_said Says setting kind client said = by (lacks_own_lock setting kind client.bag (asked_offers setting kind client))
  where
    by : (lacks : Bool) → AllByRecursion (IsSaidOfOffer Says kind) (cond lacks [] (asked_offers setting kind client))
    by true = tt
    by false = asked_said Says setting kind client said

-- offers as entries
pub sealed_said : (Says : Saying) (draws : Draws) (kind : Kind) (name : Option (List ℕ)) (drawn : ℕ) (offers : List Offer)
    → AllByRecursion (IsSaidOfOffer Says kind) offers → AllByRecursion (IsSaidOfEntry Says) (sealed draws kind name drawn offers)
unfolding sealed
sealed_said Says draws kind name drawn [] all = tt
sealed_said Says draws kind name drawn (offer ∷ offers) all =
    (all.0, sealed_said Says draws kind name (drawn_after (lock_for kind name offer.value) drawn) offers all.1)
