-- What the offers, edits and tasks of a side keep of its keys' offered pairs; and that a side offers what stands at its keys.
use Rattle.std.proofs.Common.{◌≡◌, ℕ, ◌⊎◌, ◌++◌, Bool, true, false, cond, List, [], ◌∷◌, Option, Some, None, unwrap_or, refl, sym, ap, ◌∙◌, subst, nat_cmp, is_eq, Ordering, Less, Equal, Greater, inl, inr, IfSome}
use Rattle.std.specs.BTreeMap.{is_at}
use Rattle.std.specs.Cmp.Lexicographic.{slice_cmp}
use Rattle.std.specs.List.{AllByRecursion}
use Rattle.std.specs.Map.{lookup}
use Rattle.std.specs.Ordering.{match_ordering, ordering_reverse}
use Rattle.std.proofs.lemmas.Bool.{cond-true, cond-false}
use Rattle.std.proofs.lemmas.Cmp.{nat_list_cmp_total}
use Rattle.client_tags.specs.declared.Kind.{Kind}
use Rattle.sync_values.specs.declared.value.Value.{Value}
use Rattle.sync_model.specs.declared.conflict.Decision.{Decision}
use Rattle.sync_model.specs.declared.message.Ack.{Ack}
use Rattle.sync_model.specs.declared.message.Offer.{Offer}
use Rattle.sync_model.specs.declared.message.Task.{Task}
use Rattle.sync_model.specs.declared.message.Task.TheVariants.{Batch as Updating, Acks}
use Rattle.sync_model.specs.declared.message.Update.{Update}
use Rattle.sync_model.specs.declared.state.KeyState.{KeyState}
use Rattle.sync_model.specs.KeyStates.{new_state, noted, is_old, updated, is_ignored, acknowledged, needs_seal}
use Rattle.sync_model.specs.Offers.{offer_for, placed, with_due, with_all_due, due_offers, with_reseal, with_reseals, reseal_offers, offers_of}
use Rattle.sync_model.specs.Sides.{States, Side, state_at, with_state, after_offer, after_offers, after_update, after_updates, after_ack, after_acks, after_task}
use Rattle.sync_model.specs.Facts.{key_of}
use Rattle.sync_model.specs.EchoFacts.{Offering, Offerings, ArePairsKept, IsOfferKept, AreInOrder, AreStatesKept}
use Rattle.sync_model.proofs.Longer.{all_then}
use Rattle.sync_model.proofs.TrueAcks.{all_append}
use Rattle.sync_model.proofs.WantedWrites.{all_take}
use Rattle.sync_model.proofs.KeyLookups.{tested_itself, with_state-IsSetAt, state_at-with_state, set_keeps}
use Rattle.sync_model.proofs.FateKeys.{Each, each_put}
use Rattle.sync_model.proofs.FateOffers.{placed_all}
use Rattle.sync_model.proofs.NotedKeys.{IsNotedFrom, after_offer_at}
use Rattle.sync_model.proofs.EchoKeys.{KeepsKey, rises_keeps, updated_rises, acknowledged_rises, noted_keeps, noted_offer}

-- keys in order stay so where a state is put
put_in_order : (order : Ordering) (states : States) (here : List ℕ × KeyState) (hash : List ℕ) (state : KeyState)
    → slice_cmp nat_cmp hash here.0 ≡ order → AreInOrder (here ∷ states) → AreInOrder (with_state states hash state)
    → AreInOrder (match_ordering order ((hash, state) ∷ here ∷ states) ((here.0, state) ∷ states) (here ∷ with_state states hash state))
put_in_order Less states here hash state is ordered rest = (
  (
    is,
    all_then (λ (next : List ℕ × KeyState) (less : slice_cmp nat_cmp here.0 next.0 ≡ Less). nat_list_cmp_total.trans hash here.0 next.0 is less)
        states ordered.0,
  ),
  ordered,
)
put_in_order Equal states here hash state is ordered rest = (ordered.0, ordered.1)
put_in_order Greater states here hash state is ordered rest = (
  each_put (λ key state. slice_cmp nat_cmp here.0 key ≡ Less) states hash state
      (nat_list_cmp_total.antisymm here.0 hash ∙ ap ordering_reverse is) ordered.0,
  rest,
)

with_state_in_order : (states : States) (hash : List ℕ) (state : KeyState) → AreInOrder states → AreInOrder (with_state states hash state)
with_state_in_order [] hash state ordered = (tt, tt)
with_state_in_order (here ∷ states) hash state ordered =
    put_in_order (slice_cmp nat_cmp hash here.0) states here hash state refl ordered (with_state_in_order states hash state ordered.1)

-- each listed state, of which this holds, is what stands at its key
abbrev ListedIn : States → States → Type 0
ListedIn whole states = Each (λ hash state. state_at whole hash ≡ state) states

behind : (here : List ℕ × KeyState) (states : States) (next : List ℕ × KeyState) → slice_cmp nat_cmp here.0 next.0 ≡ Less
    → state_at states next.0 ≡ next.1 → state_at (here ∷ states) next.0 ≡ next.1
behind here states next less at =
    let greater : slice_cmp nat_cmp next.0 here.0 ≡ Greater = nat_list_cmp_total.antisymm next.0 here.0 ∙ ap ordering_reverse less
    in ap (λ (found : Option KeyState). unwrap_or found new_state)
    (cond-false (is_eq (slice_cmp nat_cmp next.0 here.0)) (Some here.1) (lookup (is_at (slice_cmp nat_cmp next.0)) states) (ap is_eq greater)) ∙ at

all_behind : (here : List ℕ × KeyState) (states rest : States) → AllByRecursion (λ next. slice_cmp nat_cmp here.0 next.0 ≡ Less) rest
    → ListedIn states rest → ListedIn (here ∷ states) rest
all_behind here states [] less listed = tt
all_behind here states (next ∷ rest) less listed = (behind here states next less.0 listed.0, all_behind here states rest less.1 listed.1)

all_listed : (states : States) → AreInOrder states → ListedIn states states
all_listed [] ordered = tt
all_listed (here ∷ states) ordered = (
  ap (λ (found : Option KeyState). unwrap_or found new_state)
      (cond-true (is_eq (slice_cmp nat_cmp here.0 here.0)) (Some here.1) (lookup (is_at (slice_cmp nat_cmp here.0)) states) (tested_itself here.0)),
  all_behind here states states ordered.0 (all_listed states ordered.1),
)

-- an offer is of what stands at its key
pub record IsOfferAt (states : States) (offer : Offer) : Type 0 where
  pub known : offer.known ≡ (state_at states offer.hash).known
  pub value : offer.value ≡ (state_at states offer.hash).own
  pub number : offer.number ≡ (state_at states offer.hash).last_edit

-- what is due of a key is its last edit
abbrev pub IsDueLast : KeyState → Type 0
IsDueLast state = IfSome state.due (λ due. due ≡ state.last_edit)

offer_at : (whole : States) (hash : List ℕ) (state : KeyState) (number : ℕ) → state_at whole hash ≡ state → number ≡ state.last_edit
    → IsOfferAt whole (offer_for hash state number)
offer_at whole hash state number at is = record {
  known = ap (λ (found : KeyState). found.known) (sym at);
  value = ap (λ (found : KeyState). found.own) (sym at);
  number = is ∙ ap (λ (found : KeyState). found.last_edit) (sym at);
}

with_due_at : (whole : States) (offers : List Offer) (hash : List ℕ) (state : KeyState) (due : Option ℕ) → state_at whole hash ≡ state
    → IfSome due (λ number. number ≡ state.last_edit) → AllByRecursion (IsOfferAt whole) offers
    → AllByRecursion (IsOfferAt whole) (with_due offers hash state due)
with_due_at whole offers hash state None at is all = all
with_due_at whole offers hash state (Some number) at is all =
    placed_all (IsOfferAt whole) (λ offer. offer.number) (offer_for hash state number) offers (offer_at whole hash state number at is) all

all_due_at : (whole : States) (offers : List Offer) (states : States) → ListedIn whole states → Each (λ hash. IsDueLast) states
    → AllByRecursion (IsOfferAt whole) offers → AllByRecursion (IsOfferAt whole) (with_all_due offers states)
unfolding with_all_due
all_due_at whole offers [] listed due all = all
all_due_at whole offers (key ∷ states) listed due all =
    all_due_at whole (with_due offers key.0 key.1 key.1.due) states listed.1 due.1
    (with_due_at whole offers key.0 key.1 key.1.due listed.0 due.0 all)

with_reseal_at : (whole : States) (offers : List Offer) (hash : List ℕ) (state : KeyState) (needed : Bool) → state_at whole hash ≡ state
    → AllByRecursion (IsOfferAt whole) offers
    → AllByRecursion (IsOfferAt whole) (cond needed (placed (λ offer. offer.known) (offer_for hash state state.last_edit) offers) offers)
with_reseal_at whole offers hash state true at all =
    placed_all (IsOfferAt whole) (λ offer. offer.known) (offer_for hash state state.last_edit) offers (offer_at whole hash state state.last_edit at refl) all
with_reseal_at whole offers hash state false at all = all

reseals_at : (whole : States) (name : Option (List ℕ)) (offers : List Offer) (states : States) → ListedIn whole states
    → AllByRecursion (IsOfferAt whole) offers → AllByRecursion (IsOfferAt whole) (with_reseals name offers states)
unfolding with_reseals
reseals_at whole name offers [] listed all = all
reseals_at whole name offers (key ∷ states) listed all =
    reseals_at whole name (with_reseal name offers key.0 key.1) states listed.1
    (with_reseal_at whole offers key.0 key.1 (needs_seal name key.1) listed.0 all)

-- a side offers what stands at its keys
pub offers_at : (name : Option (List ℕ)) (room : ℕ) (states : States) → AreInOrder states → Each (λ hash. IsDueLast) states
    → AllByRecursion (IsOfferAt states) (offers_of name room states)
offers_at name room states ordered due =
    all_take (IsOfferAt states) room (due_offers states ++ reseal_offers name states)
    (all_append (IsOfferAt states) (due_offers states) (reseal_offers name states)
    (all_due_at states [] states (all_listed states ordered) due tt) (reseals_at states name [] states (all_listed states ordered) tt))

-- what is made of some states moves the offers of each key
abbrev pub MovesOffers : Offerings → Kind → States → States → Type 0
MovesOffers Was kind old new = (hash : List ℕ) (version number : ℕ) (value : Value)
    → IsOfferKept (Was (key_of kind hash)) (state_at old hash) version number value
    → IsOfferKept (Was (key_of kind hash)) (state_at new hash) version number value

-- what is made of some states keeps what is so of them and of the offers of each key
abbrev pub KeepsStates : Offerings → Kind → States → States → Type 0
KeepsStates Was kind old new = AreStatesKept Was kind old → AreStatesKept Was kind new × MovesOffers Was kind old new

pub same_states : (Was : Offerings) (kind : Kind) (states : States) → KeepsStates Was kind states states
same_states Was kind states kept = (kept, λ hash version number value is. is)

then_states : (Was : Offerings) (kind : Kind) (first second third : States) → KeepsStates Was kind first second → KeepsStates Was kind second third
    → KeepsStates Was kind first third
then_states Was kind first second third one other kept =
    let next = one kept in let last = other next.0
    in (last.0, λ hash version number value is. last.1 hash version number value (next.1 hash version number value is))

-- a state is put at a key
pub with_state_keeps : (Was : Offerings) (kind : Kind) (states : States) (hash : List ℕ) (state : KeyState)
    → KeepsKey (Was (key_of kind hash)) (state_at states hash) state → KeepsStates Was kind states (with_state states hash state)
with_state_keeps Was kind states hash state keeps kept = (
  record {
    in_order = with_state_in_order states hash state kept.in_order;
    pairs = set_keeps (λ other found. ArePairsKept (Was (key_of kind other)) found) states (with_state states hash state) hash state
        (with_state-IsSetAt states hash state) (keeps (kept.pairs hash)).0 kept.pairs;
  },
  λ other version number value. by other version number value (with_state-IsSetAt states hash state other),
)
  where
    by : (other : List ℕ) (version number : ℕ) (value : Value)
        → ((state_at (with_state states hash state) other ≡ state_at states other) ⊎ ((state_at (with_state states hash state) other ≡ state) × (other ≡ hash)))
        → IsOfferKept (Was (key_of kind other)) (state_at states other) version number value
        → IsOfferKept (Was (key_of kind other)) (state_at (with_state states hash state) other) version number value
    by other version number value (inl same) is =
        subst (λ (found : KeyState). IsOfferKept (Was (key_of kind other)) found version number value) (sym same) is
    by other version number value (inr put) is =
        subst (λ (found : KeyState). IsOfferKept (Was (key_of kind other)) found version number value) (sym put.0)
        (subst (λ (key : List ℕ). IsOfferKept (Was (key_of kind key)) state version number value) (sym put.1)
        ((keeps (kept.pairs hash)).1 version number value
        (subst (λ (key : List ℕ). IsOfferKept (Was (key_of kind key)) (state_at states key) version number value) put.1 is)))

-- a note of an offer of a key
offer_noted : (Was : Offering) (state : KeyState) (known number : ℕ) (value : Value) → known ≡ state.known → number ≡ state.last_edit → value ≡ state.own
    → Was known number
    → KeepsKey Was state (noted state number value) × (ArePairsKept Was state → IsOfferKept Was (noted state number value) known number value)
offer_noted Was state known number value known_is number_is value_is was =
    let there : Was state.known state.last_edit
    = subst (λ (edit : ℕ). Was state.known edit) number_is (subst (λ (version : ℕ). Was version number) known_is was)
    in subst (λ (version : ℕ). KeepsKey Was state (noted state number value) × (ArePairsKept Was state → IsOfferKept Was (noted state number value) version number value)) (sym known_is)
    (subst (λ (edit : ℕ). KeepsKey Was state (noted state edit value) × (ArePairsKept Was state → IsOfferKept Was (noted state edit value) state.known edit value)) (sym number_is)
    (subst (λ (own : Value). KeepsKey Was state (noted state state.last_edit own)
    × (ArePairsKept Was state → IsOfferKept Was (noted state state.last_edit own) state.known state.last_edit own)) (sym value_is)
    (noted_keeps Was state there, noted_offer Was state there)))

-- a note leaves what else stands at the keys
still_at : (states : States) (offer other : Offer) → IsOfferAt states other → IsOfferAt (after_offer states offer) other
still_at states offer other at =
    let noted : IsNotedFrom (state_at states other.hash) (state_at (after_offer states offer) other.hash) = after_offer_at states offer other.hash
    in record {
      known = at.known ∙ ap (λ (found : KeyState). found.known) (sym noted.1);
      value = at.value ∙ ap (λ (found : KeyState). found.own) (sym noted.1);
      number = at.number ∙ ap (λ (found : KeyState). found.last_edit) (sym noted.1);
    }

-- an offer stands as what a key of some states offered
abbrev pub IsKeptIn : Offerings → Kind → States → Offer → Type 0
IsKeptIn Was kind states offer = IsOfferKept (Was (key_of kind offer.hash)) (state_at states offer.hash) offer.known offer.number offer.value

-- an offer was made
abbrev pub WasMade : Offerings → Kind → Offer → Type 0
WasMade Was kind offer = Was (key_of kind offer.hash) offer.known offer.number

-- notes of some offers keep what is so of the keys, and each of the offers stands
pub offers_keep : (Was : Offerings) (kind : Kind) (states : States) (offers : List Offer) → AllByRecursion (IsOfferAt states) offers
    → AllByRecursion (WasMade Was kind) offers → AreStatesKept Was kind states
    → AreStatesKept Was kind (after_offers states offers) × MovesOffers Was kind states (after_offers states offers)
    × AllByRecursion (IsKeptIn Was kind (after_offers states offers)) offers
unfolding after_offers
offers_keep Was kind states [] at was kept = (kept, (λ hash version number value is. is), tt)
offers_keep Was kind states (offer ∷ offers) at was kept =
    let one : KeepsKey (Was (key_of kind offer.hash)) (state_at states offer.hash) (noted (state_at states offer.hash) offer.number offer.value)
    × (ArePairsKept (Was (key_of kind offer.hash)) (state_at states offer.hash)
    → IsOfferKept (Was (key_of kind offer.hash)) (noted (state_at states offer.hash) offer.number offer.value) offer.known offer.number offer.value)
    = offer_noted (Was (key_of kind offer.hash)) (state_at states offer.hash) offer.known offer.number offer.value at.0.known at.0.number at.0.value was.0
    in let first : AreStatesKept Was kind (after_offer states offer) × MovesOffers Was kind states (after_offer states offer)
    = with_state_keeps Was kind states offer.hash (noted (state_at states offer.hash) offer.number offer.value) one.0 kept
    in let rest : AreStatesKept Was kind (after_offers (after_offer states offer) offers)
    × MovesOffers Was kind (after_offer states offer) (after_offers (after_offer states offer) offers)
    × AllByRecursion (IsKeptIn Was kind (after_offers (after_offer states offer) offers)) offers
    = offers_keep Was kind (after_offer states offer) offers (all_then (λ other. still_at states offer other) offers at.1) was.1 first.0
    in (
      rest.0,
      λ hash version number value is. rest.1 hash version number value (first.1 hash version number value is),
      (
        rest.1 offer.hash offer.known offer.number offer.value
            (subst (λ (found : KeyState). IsOfferKept (Was (key_of kind offer.hash)) found offer.known offer.number offer.value)
            (sym (state_at-with_state states offer.hash (noted (state_at states offer.hash) offer.number offer.value)))
            (one.1 (kept.pairs offer.hash))),
        rest.2,
      ),
    )

-- updates
after_update_keeps : (Was : Offerings) (kind : Kind) (decided : Value → Value → Decision) (states : States) (update : Update)
    → KeepsStates Was kind states (after_update decided states update)
unfolding after_update
after_update_keeps Was kind decided states update = by (is_old (state_at states update.hash) update)
  where
    by : (old : Bool) → KeepsStates Was kind states (cond old states (with_state states update.hash (updated decided (state_at states update.hash) update)))
    by true = same_states Was kind states
    by false = with_state_keeps Was kind states update.hash (updated decided (state_at states update.hash) update)
        (rises_keeps (Was (key_of kind update.hash)) (state_at states update.hash) (updated decided (state_at states update.hash) update)
        (updated_rises decided (state_at states update.hash) update))

after_updates_keep : (Was : Offerings) (kind : Kind) (decided : Value → Value → Decision) (states : States) (updates : List Update)
    → KeepsStates Was kind states (after_updates decided states updates)
unfolding after_updates
after_updates_keep Was kind decided states [] = same_states Was kind states
after_updates_keep Was kind decided states (update ∷ updates) =
    then_states Was kind states (after_update decided states update) (after_updates decided (after_update decided states update) updates)
    (after_update_keeps Was kind decided states update) (after_updates_keep Was kind decided (after_update decided states update) updates)

-- acknowledgements
after_ack_keeps : (Was : Offerings) (kind : Kind) (states : States) (ack : Ack) → KeepsStates Was kind states (after_ack states ack)
unfolding after_ack
after_ack_keeps Was kind states ack = by (is_ignored (state_at states ack.hash) ack)
  where
    by : (ignored : Bool) → KeepsStates Was kind states (cond ignored states (with_state states ack.hash (acknowledged (state_at states ack.hash) ack)))
    by true = same_states Was kind states
    by false = with_state_keeps Was kind states ack.hash (acknowledged (state_at states ack.hash) ack)
        (rises_keeps (Was (key_of kind ack.hash)) (state_at states ack.hash) (acknowledged (state_at states ack.hash) ack)
        (acknowledged_rises (state_at states ack.hash) ack))

after_acks_keep : (Was : Offerings) (kind : Kind) (states : States) (acks : List Ack) → KeepsStates Was kind states (after_acks states acks)
unfolding after_acks
after_acks_keep Was kind states [] = same_states Was kind states
after_acks_keep Was kind states (ack ∷ acks) =
    then_states Was kind states (after_ack states ack) (after_acks (after_ack states ack) acks)
    (after_ack_keeps Was kind states ack) (after_acks_keep Was kind (after_ack states ack) acks)

-- a task
pub after_task_keeps : (Was : Offerings) (kind : Kind) (decided : Value → Value → Decision) (side : Side) (task : Task)
    → KeepsStates Was kind side.states (after_task decided side task).states
unfolding after_task
after_task_keeps Was kind decided side (Updating batch) = after_updates_keep Was kind decided side.states batch.updates
after_task_keeps Was kind decided side (Acks acks) = after_acks_keep Was kind side.states acks
