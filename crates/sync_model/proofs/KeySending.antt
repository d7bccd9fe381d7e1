-- What a client gathers and requests keeps the profile's keys, and leaves it with the keys that it knows and sends.
use Rattle.std.proofs.Common.{◌≡◌, ℕ, ◌+◌, ◌-◌, ◌≤◌, false, cond, ◌||◌, List, [], ◌∷◌, ◌++◌, length, drop, Option, Some, None, is_some, refl, sym, ap, ◌∙◌, subst, IsTrue, nat_eq, append_assoc, arith}
use Rattle.std.proofs.lemmas.Bool.{false≢true, cond-false, cond_both}
use Rattle.client_tags.specs.declared.Kind.{Kind}
use Rattle.client_tags.specs.declared.Kind.TheVariants.{Nigori, Preference, Password}
use Rattle.key_derivation.specs.declared.NigoriKey.{NigoriKey}
use Rattle.sync_values.specs.declared.value.Value.{Value}
use Rattle.sync_values.specs.declared.value.Value.TheVariants.{Absent, Preference as Setting_value, Password as Login_value, Nigori as Keys_value}
use Rattle.sync_model.specs.declared.event.EventOutcome.{EventOutcome}
use Rattle.sync_model.specs.declared.event.EventOutcome.TheVariants.{Done, Requested}
use Rattle.sync_model.specs.declared.message.Batch.{Batch}
use Rattle.sync_model.specs.declared.message.Content.{Content}
use Rattle.sync_model.specs.declared.message.Entry.{Entry}
use Rattle.sync_model.specs.declared.message.Offer.{Offer}
use Rattle.sync_model.specs.declared.state.KeyState.{KeyState}
use Rattle.sync_model.specs.declared.state.Offered.{Offered}
use Rattle.sync_model.specs.Values.{same_kind, is_absent, keys_in}
use Rattle.sync_model.specs.Settings.{Setting, nigori_hash, names_of, has_key}
use Rattle.sync_model.specs.Sides.{States, Side, state_at, after_offer, after_offers, side_offered}
use Rattle.sync_model.specs.KeyStates.{MAX_OFFERED, is_offered, with_offered, noted}
use Rattle.sync_model.specs.Offers.{with_due, with_all_due, with_reseals, offers_of}
use Rattle.sync_model.specs.Clients.{Client, side_of, plain_effect, nigori_base, lock_if_had, default_name, needs_default, wanted_name, opens, batch_mailed}
use Rattle.sync_model.specs.Sending.{Draws, drawing, MAX_ENTRIES, own_lock, lock_for, drawn_after, entry_of, sealed, is_held_back, lacks_own_lock, asked_offers, gathered, holding, gathering, is_gather_void, gather_effect, is_busy, ask_of, ask_effect, commit_of, offer_effect}
use Rattle.sync_model.specs.Outcomes.{entries_sent}
use Rattle.sync_model.specs.Laws.{lock_names, newest_keys}
use Rattle.sync_model.specs.KeyFacts.{Each, HaveNames, HaveOffered, names_in, profile_value, profile_at, HistoryHasKeys, CarriesKeys, KeepsKeys, PendingTells, names_sent, names_awaited, names_in_letter, names_in_tasks, under_way, StateHasKeys, IsOneEntity, ClientHasKeys, HasKeys}
use Rattle.sync_model.proofs.EachLemmas.{Each-append, Each-drop, Each-take}
use Rattle.sync_model.proofs.KeyNames.{has_names-self, has_names-through, has_names-both}
use Rattle.sync_model.proofs.KeyClients.{Has, has_four, way_parts, outcome_at-last, ClientHasKeys-less}
use Rattle.sync_model.proofs.KeyTurns.{StatesHaveKeys, one-HoldsOfEntity, state_of_entity, with_state-HoldsOfEntity}
use Rattle.sync_model.proofs.KeyEvents.{MayHaveKeys, unless-MayHaveKeys, HasKeys-next, with_side-HasKeys}
use Rattle.sync_model.proofs.NotedKeys.{IsNotedFrom, after_offer_at}
use Rattle.sync_model.proofs.KeyMails.{mailed-HasKeys, batch_mailed-HasKeys}

-- an offer of the one entity of the profile's keys: its own value, which is due
record IsOwnOffer (setting : Setting) (state : KeyState) (offer : Offer) : Type 0 where
  pub hash : offer.hash ≡ nigori_hash setting
  pub known : state.known ≡ offer.known
  pub own : state.own ≡ offer.value
  pub due : IsTrue (is_some state.due)

with_due-own : (setting : Setting) (hash : List ℕ) (state : KeyState) (due : Option ℕ) → hash ≡ nigori_hash setting → state.due ≡ due
    → Each (IsOwnOffer setting state) (with_due [] hash state due)
with_due-own setting hash state None is at = tt
with_due-own setting hash state (Some number) is at =
    (record { hash = is; known = refl; own = refl; due = ap (λ (due : Option ℕ). is_some due) at }, tt)

-- what the profile's keys have to send is their own value, where it is due
offers-own : (setting : Setting) (room : ℕ) (states : States) → IsOneEntity setting states
    → Each (IsOwnOffer setting (state_at states (nigori_hash setting))) (offers_of None room states)
unfolding with_all_due with_reseals
offers-own setting room [] entity = Each-take (IsOwnOffer setting (state_at [] (nigori_hash setting))) room [] tt
offers-own setting room (entry ∷ []) entity =
    let holds = one-HoldsOfEntity setting (λ (state : KeyState). Each (IsOwnOffer setting state) (with_due [] entry.0 entry.1 entry.1.due ++ [])) entry.0 entry.1 entity
    (Each-append (IsOwnOffer setting entry.1) (with_due [] entry.0 entry.1 entry.1.due) [] (with_due-own setting entry.0 entry.1 entry.1.due entity refl) tt)
    in Each-take (IsOwnOffer setting (state_at (entry ∷ []) (nigori_hash setting))) room (with_due [] entry.0 entry.1 entry.1.due ++ []) holds.state
offers-own setting room (first ∷ second ∷ rest) entity = absurd entity

asked-own : (setting : Setting) (client : Client) → IsOneEntity setting client.nigori.states
    → Each (IsOwnOffer setting (state_at client.nigori.states (nigori_hash setting))) (asked_offers setting Nigori client)
asked-own setting client entity =
    cond_both (is_held_back setting client Nigori) [] (offers_of None (MAX_ENTRIES - length client.held) client.nigori.states)
    (λ (some : List Offer). Each (IsOwnOffer setting (state_at client.nigori.states (nigori_hash setting))) some) (λ held_back. tt)
    (λ sent. offers-own setting (MAX_ENTRIES - length client.held) client.nigori.states entity)

gathered-own : (setting : Setting) (client : Client) → IsOneEntity setting client.nigori.states
    → Each (IsOwnOffer setting (state_at client.nigori.states (nigori_hash setting))) (gathered setting Nigori client)
gathered-own setting client entity =
    cond_both (lacks_own_lock setting Nigori client.bag (asked_offers setting Nigori client)) [] (asked_offers setting Nigori client)
    (λ (some : List Offer). Each (IsOwnOffer setting (state_at client.nigori.states (nigori_hash setting))) some) (λ lacks. tt)
    (λ has. asked-own setting client entity)

-- an own value that is offered leaves a state with its keys
noted-StateHasKeys : (setting : Setting) (history : List (Entry Content)) (bag : List NigoriKey) (way : List (List ℕ)) (state : KeyState) (offer : Offer)
    → IsOwnOffer setting state offer → StateHasKeys setting history bag way state
    → StateHasKeys setting history bag way (noted state offer.number offer.value)
unfolding noted
noted-StateHasKeys setting history bag way state offer own has = record {
  known = has.known;
  had = has.had;
  waits = λ due. record {
    has_lock = (has.waits due).has_lock;
    has_base = (has.waits due).has_base;
    has_way = (has.waits due).has_way;
    had = (has.waits due).had;
  };
  offered = more bag has.offered (has.waits own.due).had;
  waits_offered = λ due. more (keys_in state.own) (has.waits_offered due) (has_names-self (names_in setting state.own));
}
  where
    more : (keys : List NigoriKey) → HaveOffered setting keys state.offered → HaveNames setting keys (names_in setting state.own)
        → HaveOffered setting keys (with_offered state.offered offer.number offer.value)
    more keys have here =
        let pair : Offered = record { number = offer.number; value = offer.value }
        in let Is : Offered → Type 0 = λ (pair : Offered). HaveNames setting keys (names_in setting pair.value)
        in cond_both (is_offered state.offered offer.number) state.offered
        (drop (length state.offered + 1 - MAX_OFFERED) (state.offered ++ pair ∷ [])) (λ (offered : List Offered). HaveOffered setting keys offered) (λ noted. have)
        (λ new. Each-drop Is (length state.offered + 1 - MAX_OFFERED) (state.offered ++ pair ∷ [])
        (Each-append Is state.offered (pair ∷ []) have (subst (λ (value : Value). HaveNames setting keys (names_in setting value)) own.own here, tt)))

-- what is offered of a state is of that state with other offers too
own_again : (setting : Setting) (state : KeyState) (offered : List Offered) (offers : List Offer)
    → Each (IsOwnOffer setting state) offers → Each (IsOwnOffer setting (record state { offered = offered })) offers
own_again setting state offered [] own = tt
own_again setting state offered (offer ∷ offers) own = (
  record { hash = own.0.hash; known = own.0.known; own = own.0.own; due = own.0.due },
  own_again setting state offered offers own.1,
)

-- own values that are offered leave the one entity's state with its keys
noted-StatesHaveKeys : (setting : Setting) (history : List (Entry Content)) (bag : List NigoriKey) (way : List (List ℕ)) (states : States) (offers : List Offer)
    → Each (IsOwnOffer setting (state_at states (nigori_hash setting))) offers
    → StatesHaveKeys setting history bag way states → StatesHaveKeys setting history bag way (after_offers states offers)
unfolding after_offers
noted-StatesHaveKeys setting history bag way states [] own has = has
noted-StatesHaveKeys setting history bag way states (offer ∷ offers) own has =
    let here : IsOwnOffer setting (state_at states offer.hash) offer
    = subst (λ (hash : List ℕ). IsOwnOffer setting (state_at states hash) offer) (sym own.0.hash) own.0
    in let is : IsNotedFrom (state_at states (nigori_hash setting)) (state_at (after_offer states offer) (nigori_hash setting))
    = after_offer_at states offer (nigori_hash setting)
    in noted-StatesHaveKeys setting history bag way (after_offer states offer) offers
    (subst (λ (state : KeyState). Each (IsOwnOffer setting state) offers) (sym is.1)
    (own_again setting (state_at states (nigori_hash setting)) is.0 offers own.1))
    (with_state-HoldsOfEntity setting (StateHasKeys setting history bag way) states offer.hash (noted (state_at states offer.hash) offer.number offer.value)
    own.0.hash has.entity (noted-StateHasKeys setting history bag way (state_at states offer.hash) offer here
    (state_of_entity setting (StateHasKeys setting history bag way) states offer.hash own.0.hash has)))

-- a client whose side of the profile's keys notes what it offers
noted-HasKeys : (setting : Setting) (history : List (Entry Content)) (outcomes : List EventOutcome) (side : Side) (bag : List NigoriKey)
    (held : List (Entry Content)) (outstanding : Option ℕ) (offers : List Offer)
    → Each (IsOwnOffer setting (state_at side.states (nigori_hash setting))) offers
    → ClientHasKeys setting history outcomes side bag held outstanding → ClientHasKeys setting history outcomes (side_offered side offers) bag held outstanding
noted-HasKeys setting history outcomes side bag held outstanding offers own has =
    let states : StatesHaveKeys setting history bag (under_way setting outcomes side held outstanding) (after_offers side.states offers)
    = noted-StatesHaveKeys setting history bag (under_way setting outcomes side held outstanding) side.states offers own
    record { entity = has.entity; state = has.state }
    in record {
      entity = states.entity;
      state = states.state;
      way = has.way;
      holds = has.holds;
      requested = has.requested;
      mailbox = has.mailbox;
      opened = has.opened;
      letter = has.letter;
      pending = has.pending;
    }

-- an entry of an own value that waits with its keys carries them
carries_own : (setting : Setting) (history : List (Entry Content)) (bag : List NigoriKey) (way : List (List ℕ)) (state : KeyState)
    (draws : Draws) (name : Option (List ℕ)) (drawn : ℕ) (offer : Offer) → StateHasKeys setting history bag way state → IsOwnOffer setting state offer
    → CarriesKeys setting history (entry_of draws Nigori (lock_for Nigori name offer.value) drawn offer)
carries_own setting history bag way state draws name drawn offer has own =
    let waits = has.waits own.due
    in let base : HaveNames setting (keys_in state.own) (names_in setting (profile_at history state.known))
    = subst (λ (value : Value). HaveNames setting (keys_in state.own) (names_in setting value)) has.known.is waits.has_base
    in record {
      hash = own.hash;
      lock = refl;
      has_lock = subst (λ (value : Value). HaveNames setting (keys_in value) (lock_names (own_lock value))) own.own waits.has_lock;
      known = subst (λ (version : ℕ). version ≤ length history) own.known has.known.within;
      has_base = subst (λ (version : ℕ). HaveNames setting (keys_in offer.value) (names_in setting (profile_at history version))) own.known
          (subst (λ (value : Value). HaveNames setting (keys_in value) (names_in setting (profile_at history state.known))) own.own base);
    }

sealed_own : (setting : Setting) (history : List (Entry Content)) (bag : List NigoriKey) (way : List (List ℕ)) (state : KeyState)
    (draws : Draws) (name : Option (List ℕ)) (drawn : ℕ) (offers : List Offer) → StateHasKeys setting history bag way state → Each (IsOwnOffer setting state) offers
    → Each (KeepsKeys setting history) (sealed draws Nigori name drawn offers)
unfolding sealed
sealed_own setting history bag way state draws name drawn [] has own = tt
sealed_own setting history bag way state draws name drawn (offer ∷ offers) has own = (
  record {
    of_profile = λ is. carries_own setting history bag way state draws name drawn offer has own.0;
    of_others = λ other. absurd (false≢true (sym other));
  },
  sealed_own setting history bag way state draws name (drawn_after (lock_for Nigori name offer.value) drawn) offers has own.1,
)

-- the keys in these entries are those of the own value
sealed_own-names : (setting : Setting) (names : List (List ℕ)) (state : KeyState) (draws : Draws) (name : Option (List ℕ)) (drawn : ℕ) (offers : List Offer)
    → (IsTrue (is_some state.due) → Has names (names_in setting state.own)) → Each (IsOwnOffer setting state) offers
    → Has names (names_sent setting (sealed draws Nigori name drawn offers))
unfolding sealed
sealed_own-names setting names state draws name drawn [] had own = refl
sealed_own-names setting names state draws name drawn (offer ∷ offers) had own =
    has_names-both names (names_in setting offer.value)
    (names_sent setting (sealed draws Nigori name (drawn_after (lock_for Nigori name offer.value) drawn) offers))
    (subst (λ (value : Value). Has names (names_in setting value)) own.0.own (had own.0.due))
    (sealed_own-names setting names state draws name (drawn_after (lock_for Nigori name offer.value) drawn) offers had own.1)

-- a lock of another type is the one that is wanted, if any
lock_for-names : (kind : Kind) (names : List (List ℕ)) (name : Option (List ℕ)) (value : Value) → same_kind kind Nigori ≡ false
    → Has names (lock_names name) → Has names (lock_names (lock_for kind name value))
lock_for-names Nigori names name value other has = absurd (false≢true (sym other))
lock_for-names Preference names name value other has =
    cond_both (is_absent value) None name (λ (lock : Option (List ℕ)). Has names (lock_names lock)) (λ absent. refl) (λ present. has)
lock_for-names Password names name value other has =
    cond_both (is_absent value) None name (λ (lock : Option (List ℕ)). Has names (lock_names lock)) (λ absent. refl) (λ present. has)

sealed_others : (setting : Setting) (history : List (Entry Content)) (kind : Kind) (draws : Draws) (name : Option (List ℕ)) (drawn : ℕ) (offers : List Offer)
    → same_kind kind Nigori ≡ false → HaveNames setting (newest_keys history) (lock_names name)
    → Each (KeepsKeys setting history) (sealed draws kind name drawn offers)
unfolding sealed
sealed_others setting history kind draws name drawn [] other has = tt
sealed_others setting history kind draws name drawn (offer ∷ offers) other has = (
  record {
    of_profile = λ is. absurd (false≢true (sym other ∙ is));
    of_others = λ is. lock_for-names kind (names_of setting (newest_keys history)) name offer.value other has;
  },
  sealed_others setting history kind draws name (drawn_after (lock_for kind name offer.value) drawn) offers other has,
)

-- entries of other types carry none of the profile's keys
sealed_others-names : (setting : Setting) (names : List (List ℕ)) (kind : Kind) (draws : Draws) (name : Option (List ℕ)) (drawn : ℕ) (offers : List Offer)
    → same_kind kind Nigori ≡ false → Has names (names_sent setting (sealed draws kind name drawn offers))
unfolding sealed
sealed_others-names setting names kind draws name drawn [] other = refl
sealed_others-names setting names kind draws name drawn (offer ∷ offers) other =
    has_names-both names (names_in setting (cond (same_kind kind Nigori) offer.value Absent))
    (names_sent setting (sealed draws kind name (drawn_after (lock_for kind name offer.value) drawn) offers))
    (subst (λ (value : Value). Has names (names_in setting value)) (sym (cond-false (same_kind kind Nigori) offer.value Absent other)) refl)
    (sealed_others-names setting names kind draws name (drawn_after (lock_for kind name offer.value) drawn) offers other)

-- a lock that is had is a value's own
lock_if_had-names : (setting : Setting) (bag : List NigoriKey) (names : List (List ℕ)) (value : Value) → Has names (lock_names (own_lock value))
    → Has names (lock_names (lock_if_had setting bag value))
lock_if_had-names setting bag names Absent has = refl
lock_if_had-names setting bag names (Setting_value preference) has = refl
lock_if_had-names setting bag names (Login_value password) has = refl
lock_if_had-names setting bag names (Keys_value nigori) has =
    cond_both (has_key setting bag nigori.lock) (Some nigori.lock) None (λ (lock : Option (List ℕ)). Has names (lock_names lock)) (λ had. has) (λ lacks. refl)

-- a client's default key is in the newest write of the profile's keys
default_name-newest : (setting : Setting) (history : List (Entry Content)) (outcomes : List EventOutcome) (client : Client)
    → HistoryHasKeys setting history → HasKeys setting history outcomes client
    → HaveNames setting (newest_keys history) (lock_names (default_name setting client))
default_name-newest setting history outcomes client kept has =
    let state : KeyState = state_at client.nigori.states (nigori_hash setting)
    in let newest : List (List ℕ) = names_of setting (newest_keys history)
    in lock_if_had-names setting client.bag newest state.base
    (subst (λ (value : Value). Has newest (lock_names (own_lock value))) (sym has.state.known.is)
    (has_names-through newest (names_in setting (profile_at history state.known)) (lock_names (own_lock (profile_at history state.known)))
    (kept.grows state.known) (kept.own_locks state.known)))

wanted_name-newest : (setting : Setting) (history : List (Entry Content)) (outcomes : List EventOutcome) (kind : Kind) (client : Client)
    → HistoryHasKeys setting history → HasKeys setting history outcomes client
    → HaveNames setting (newest_keys history) (lock_names (wanted_name setting client kind))
wanted_name-newest setting history outcomes kind client kept has =
    cond_both (needs_default (nigori_base setting client) kind) (default_name setting client) None
    (λ (name : Option (List ℕ)). HaveNames setting (newest_keys history) (lock_names name))
    (λ needs. default_name-newest setting history outcomes client kept has) (λ plain. refl)

-- the names in the entries of two lists
names_sent-append : (setting : Setting) (first second : List (Entry Content)) → names_sent setting (first ++ second) ≡ names_sent setting first ++ names_sent setting second
names_sent-append setting [] second = refl
names_sent-append setting (entry ∷ first) second =
    ap (λ (names : List (List ℕ)). names_in setting (profile_value entry) ++ names) (names_sent-append setting first second)
    ∙ sym (append_assoc (names_in setting (profile_value entry)) (names_sent setting first) (names_sent setting second))

-- names that have all under way have it where more is held, if they have that
has_held : (setting : Setting) (names : List (List ℕ)) (outcomes : List EventOutcome) (side : Side) (held new : List (Entry Content)) (outstanding : Option ℕ)
    → Has names (under_way setting outcomes side held outstanding) → Has names (names_sent setting new)
    → Has names (under_way setting outcomes side (held ++ new) outstanding)
has_held setting names outcomes side held new outstanding has more =
    let way : List (List ℕ) = under_way setting outcomes side held outstanding
    in let parts = way_parts setting outcomes side held outstanding
    in let before : Has names (names_sent setting held) = has_names-through names way (names_sent setting held) has parts.held
    in has_four names (names_sent setting (held ++ new)) (names_awaited setting outcomes outstanding) (names_in_letter setting side.letter) (names_in_tasks setting side.mailbox)
    (subst (λ (others : List (List ℕ)). Has names others) (sym (names_sent-append setting held new))
    (has_names-both names (names_sent setting held) (names_sent setting new) before more))
    (has_names-through names way (names_awaited setting outcomes outstanding) has parts.awaited)
    (has_names-through names way (names_in_letter setting side.letter) has parts.letter)
    (has_names-through names way (names_in_tasks setting side.mailbox) has parts.mailbox)

-- entries join what is held
held-HasKeys : (setting : Setting) (history : List (Entry Content)) (outcomes : List EventOutcome) (client : Client) (new : List (Entry Content))
    → Each (KeepsKeys setting history) new → HaveNames setting client.bag (names_sent setting new)
    → (IsTrue (is_some (state_at client.nigori.states (nigori_hash setting)).due)
    → Has (names_in setting (state_at client.nigori.states (nigori_hash setting)).own) (names_sent setting new))
    → HasKeys setting history outcomes client
    → ClientHasKeys setting history outcomes client.nigori client.bag (client.held ++ new) client.outstanding
held-HasKeys setting history outcomes client new keeps had own has =
    let state : KeyState = state_at client.nigori.states (nigori_hash setting)
    in record {
      entity = has.entity;
      state = record {
        known = has.state.known;
        had = has.state.had;
        waits = λ due. let waits = has.state.waits due in record {
          has_lock = waits.has_lock;
          has_base = waits.has_base;
          has_way = has_held setting (names_in setting state.own) outcomes client.nigori client.held new client.outstanding waits.has_way (own due);
          had = waits.had;
        };
        offered = has.state.offered;
        waits_offered = has.state.waits_offered;
      };
      way = has_held setting (names_of setting client.bag) outcomes client.nigori client.held new client.outstanding has.way had;
      holds = Each-append (KeepsKeys setting history) client.held new has.holds keeps;
      requested = has.requested;
      mailbox = has.mailbox;
      opened = has.opened;
      letter = has.letter;
      pending = has.pending;
    }

-- the profile's keys are gathered
gathered_of_profile : (setting : Setting) (history : List (Entry Content)) (outcomes : List EventOutcome) (number : ℕ) (client : Client) (pending : Option Batch)
    → PendingTells setting history pending → HasKeys setting history outcomes client
    → HasKeys setting history outcomes (gathering setting number Nigori client pending)
gathered_of_profile setting history outcomes number client None tells has =
    let state : KeyState = state_at client.nigori.states (nigori_hash setting)
    in let draws : Draws = drawing setting number client
    in let name : Option (List ℕ) = wanted_name setting client Nigori
    in let own = gathered-own setting client has.entity
    in noted-HasKeys setting history outcomes client.nigori client.bag (client.held ++ sealed draws Nigori name client.drawn (gathered setting Nigori client)) client.outstanding
    (asked_offers setting Nigori client) (asked-own setting client has.entity)
    (held-HasKeys setting history outcomes client (sealed draws Nigori name client.drawn (gathered setting Nigori client))
    (sealed_own setting history client.bag (under_way setting outcomes client.nigori client.held client.outstanding) state draws name client.drawn (gathered setting Nigori client) has.state own)
    (sealed_own-names setting (names_of setting client.bag) state draws name client.drawn (gathered setting Nigori client) (λ due. (has.state.waits due).had) own)
    (λ due. sealed_own-names setting (names_in setting state.own) state draws name client.drawn (gathered setting Nigori client) (λ again. has_names-self (names_in setting state.own)) own)
    has)
gathered_of_profile setting history outcomes number client (Some batch) tells has =
    cond_both (opens setting client.bag batch) (batch_mailed setting client Nigori client.nigori batch) client (λ (next : Client). HasKeys setting history outcomes next)
    (λ open_now. mailed-HasKeys setting history outcomes client.nigori client.bag client.held client.outstanding batch tells has) (λ waits. has)

-- another type is gathered
gathered_of_other : (setting : Setting) (history : List (Entry Content)) (outcomes : List EventOutcome) (number : ℕ) (kind : Kind) (client : Client) (pending : Option Batch)
    → same_kind kind Nigori ≡ false → HistoryHasKeys setting history → HasKeys setting history outcomes client
    → HasKeys setting history outcomes (gathering setting number kind client pending)
gathered_of_other setting history outcomes number kind client None other kept has =
    let name : Option (List ℕ) = wanted_name setting client kind
    in let draws : Draws = drawing setting number client
    in let holds : Client = holding draws kind name (gathered setting kind client) client
    in with_side-HasKeys setting history outcomes holds kind (side_offered (side_of holds kind) (asked_offers setting kind client)) other
    (held-HasKeys setting history outcomes client (sealed draws kind name client.drawn (gathered setting kind client))
    (sealed_others setting history kind draws name client.drawn (gathered setting kind client) other (wanted_name-newest setting history outcomes kind client kept has))
    (sealed_others-names setting (names_of setting client.bag) kind draws name client.drawn (gathered setting kind client) other)
    (λ due. sealed_others-names setting (names_in setting (state_at client.nigori.states (nigori_hash setting)).own) kind draws name client.drawn (gathered setting kind client) other)
    has)
gathered_of_other setting history outcomes number kind client (Some batch) other kept has =
    cond_both (opens setting client.bag batch) (batch_mailed setting client kind (side_of client kind) batch) client (λ (next : Client). HasKeys setting history outcomes next)
    (λ open_now. batch_mailed-HasKeys setting history outcomes client kind (side_of client kind) batch other has) (λ waits. has)

gathering-HasKeys : (setting : Setting) (history : List (Entry Content)) (outcomes : List EventOutcome) (number : ℕ) (kind : Kind) (client : Client)
    → HistoryHasKeys setting history → HasKeys setting history outcomes client
    → HasKeys setting history outcomes (gathering setting number kind client (side_of client kind).pending)
gathering-HasKeys setting history outcomes number Nigori client kept has = gathered_of_profile setting history outcomes number client client.nigori.pending has.pending has
gathering-HasKeys setting history outcomes number Preference client kept has =
    gathered_of_other setting history outcomes number Preference client client.preference.pending refl kept has
gathering-HasKeys setting history outcomes number Password client kept has =
    gathered_of_other setting history outcomes number Password client client.password.pending refl kept has

pub gather_effect-HasKeys : (setting : Setting) (history : List (Entry Content)) (outcomes : List EventOutcome) (number : ℕ) (kind : Kind) (client : Client)
    → HistoryHasKeys setting history → HasKeys setting history outcomes client → MayHaveKeys setting history outcomes (gather_effect setting number kind client)
unfolding gather_effect
gather_effect-HasKeys setting history outcomes number kind client kept has =
    unless-MayHaveKeys setting history outcomes (is_gather_void kind client)
    (plain_effect (gathering setting number kind client (side_of client kind).pending) Done) record {
      client = gathering-HasKeys setting history (Done ∷ outcomes) number kind client kept (HasKeys-next setting history Done outcomes client has);
      sent = tt;
      gave = tt;
    }

-- a request that is made next sends these entries, in place of what is held
requested-HasKeys : (setting : Setting) (history : List (Entry Content)) (outcome : EventOutcome) (outcomes : List EventOutcome) (client : Client)
    (left : List (Entry Content)) → Each (KeepsKeys setting history) left
    → Has (under_way setting (outcome ∷ outcomes) client.nigori client.held client.outstanding) (names_sent setting left)
    → Has (under_way setting (outcome ∷ outcomes) client.nigori client.held client.outstanding) (names_sent setting (entries_sent outcome))
    → HasKeys setting history outcomes client
    → ClientHasKeys setting history (outcome ∷ outcomes) client.nigori client.bag left (Some (length outcomes + 1))
requested-HasKeys setting history outcome outcomes client left keeps kept sent has =
    let way : List (List ℕ) = under_way setting (outcome ∷ outcomes) client.nigori client.held client.outstanding
    in let parts = way_parts setting (outcome ∷ outcomes) client.nigori client.held client.outstanding
    in let next = HasKeys-next setting history outcome outcomes client has
    in ClientHasKeys-less setting history (outcome ∷ outcomes) client.nigori client.nigori client.bag client.bag client.held left client.outstanding
    (Some (length outcomes + 1)) refl (has_names-self (names_of setting client.bag))
    (has_four way (names_sent setting left) (names_awaited setting (outcome ∷ outcomes) (Some (length outcomes + 1)))
    (names_in_letter setting client.nigori.letter) (names_in_tasks setting client.nigori.mailbox) kept
    (subst (λ (made : EventOutcome). Has way (names_sent setting (entries_sent made))) (sym (outcome_at-last outcome outcomes)) sent)
    parts.letter parts.mailbox)
    keeps (omega arith) next.mailbox next.opened next.letter next.pending next

pub ask_effect-HasKeys : (setting : Setting) (history : List (Entry Content)) (outcomes : List EventOutcome) (number : ℕ) (client : Client)
    → HasKeys setting history outcomes client → MayHaveKeys setting history outcomes (ask_effect number (length outcomes + 1) client)
unfolding ask_effect
ask_effect-HasKeys setting history outcomes number client has =
    let outcome : EventOutcome = Requested number (ask_of client)
    in let parts = way_parts setting (outcome ∷ outcomes) client.nigori client.held client.outstanding
    in unless-MayHaveKeys setting history outcomes (is_busy client)
    (plain_effect (record client { outstanding = Some (length outcomes + 1) }) outcome) record {
      client = requested-HasKeys setting history outcome outcomes client client.held has.holds parts.held refl has;
      sent = tt;
      gave = tt;
    }

pub offer_effect-HasKeys : (setting : Setting) (history : List (Entry Content)) (outcomes : List EventOutcome) (number : ℕ) (client : Client)
    → HasKeys setting history outcomes client → MayHaveKeys setting history outcomes (offer_effect number (length outcomes + 1) client)
unfolding offer_effect
offer_effect-HasKeys setting history outcomes number client has =
    let outcome : EventOutcome = Requested number (commit_of client)
    in let parts = way_parts setting (outcome ∷ outcomes) client.nigori client.held client.outstanding
    in unless-MayHaveKeys setting history outcomes (is_busy client || nat_eq (length client.held) 0)
    (plain_effect (record client { held = []; outstanding = Some (length outcomes + 1) }) outcome) record {
      client = requested-HasKeys setting history outcome outcomes client [] tt refl parts.held has;
      sent = has.holds;
      gave = tt;
    }
