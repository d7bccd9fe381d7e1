-- What a client of preferences that nothing seals sends.
use Rattle.std.proofs.Common.{◌≡◌, ℕ, zero, suc, ◌-◌, arith, ◌≤◌, ◌<◌, ◌^◌, Bool, true, false, cond, List, [], ◌∷◌, ◌++◌, length, take, Option, Some, None, refl, sym, ap, ◌∙◌, subst}
use Rattle.std.proofs.lemmas.List.{append-nil, length-take}
use Rattle.std.specs.Prelude.{◌==◌, ◌||◌, IsSome, if◌then◌else◌}
use Rattle.std.specs.List.{AllByRecursion}
use Rattle.client_tags.specs.declared.Kind.{Kind}
use Rattle.client_tags.specs.declared.Kind.TheVariants.{Nigori, Preference, Password}
use Rattle.sync_values.specs.declared.value.Value.TheVariants as values
use Rattle.run_setting.specs.Hashed.{hashed}
use Rattle.sync_model.specs.declared.event.EventOutcome.TheVariants.{Void, Done, Requested}
use Rattle.sync_model.specs.declared.message.Call.TheVariants.{Commit, Updates as AskUpdates}
use Rattle.sync_model.specs.declared.message.Content.{Content}
use Rattle.sync_model.specs.declared.message.Entry.{Entry}
use Rattle.sync_model.specs.declared.message.Marker.{Marker}
use Rattle.sync_model.specs.declared.message.Offer.{Offer}
use Rattle.sync_model.specs.Clients.{Client, side_of, with_side, plain_effect, nigori_base, wanted_name}
use Rattle.sync_model.specs.Offers.{with_all_due, with_reseals, due_offers, reseal_offers, offers_of, reseal_count}
use Rattle.sync_model.specs.Settings.{nigori_hash}
use Rattle.sync_model.specs.Sides.{States, state_at, after_offers, side_offered}
use Rattle.sync_model.specs.Values.{is_absent}
use Rattle.sync_model.specs.Sending.{MAX_ENTRIES, Draws, drawing, entry_of, sealed, drawn_for, drawn_after, is_held_back, lacks_own_lock, asked_offers, offers_if_had, gathered, holding, noting, gathering, is_gather_void, gather_effect, is_busy, seen_marks, ask_of, ask_effect, commit_of, offer_effect}
use Rattle.replay_client.specs.Draws.{no_draws}
use Rattle.type_processor.specs.Fits.{IsOfferOf}
use Rattle.replay_messages.specs.Forms.{IsPlain, IsPlainValue}
use Rattle.replay_client.specs.declared.client.Client.TheInside.{Inside}
use Rattle.replay_client.specs.Clients.{client_of, HavePlainValues}
use Rattle.replay_client.specs.Requests.{marks_with}
use Rattle.replay_client.specs.Happenings.{HappensAlone}
use Rattle.replay_client.proofs.Effects.{voided, made, has_effect, alone_void, alone}
use Rattle.replay_client.proofs.HeldLemmas.{either_way, undrawn, none_drawn, all_append}
use Rattle.replay_client.proofs.PlainStates.{HasPlainValue, due_offers_plain}

-- a client without states of keys has no keys
pub no_base : (client : Client) → client.nigori.states ≡ [] → nigori_base hashed client ≡ values.Absent
no_base client none = ap (λ (states : States). (state_at states (nigori_hash hashed)).base) none

-- no key is wanted where there are none
pub plain_wanted : (client : Client) (kind : Kind) → client.nigori.states ≡ [] → wanted_name hashed client kind ≡ None
plain_wanted client Nigori none = refl
plain_wanted client Preference none = rw none refl
plain_wanted client Password none = rw none refl

-- nothing is to be sealed anew where no key is wanted
no_reseals : (offers : List Offer) (states : States) → with_reseals None offers states ≡ offers
unfolding with_reseals
no_reseals offers [] = refl
no_reseals offers (key ∷ states) = no_reseals offers states

pub no_reseal_count : (states : States) → reseal_count None states ≡ 0
no_reseal_count [] = refl
no_reseal_count (key ∷ states) = no_reseal_count states

-- all that is offered of preferences is asked for, and may be sent
plain_asked : (client : Client) → client.nigori.states ≡ [] → asked_offers hashed Preference client ≡ offers_of None (MAX_ENTRIES - length client.held) client.preference.states
plain_asked client none = rw none refl

-- what is to be sent of preferences joins what is held, and is noted
pub joined : (number : ℕ) (client : Client) (held : List (Entry Content)) (room : ℕ) (offers : List Offer) → client.nigori.states ≡ [] → client.drawn ≡ 0
    → room ≡ MAX_ENTRIES - length client.held → offers ≡ offers_of None room client.preference.states → held ≡ client.held ++ sealed no_draws Preference None 0 offers
    → (record client { held = held; preference = side_offered client.preference offers }) ≡ gathering hashed number Preference client None
joined number client held room offers none none_yet is_room is_offers is_held =
    let all : List Offer = asked_offers hashed Preference client in
    let same : offers ≡ all = is_offers ∙ ap (λ n. offers_of None n client.preference.states) is_room ∙ sym (plain_asked client none) in
    let after : (record client { held = held; preference = side_offered client.preference offers }) ≡ noting Preference all (holding (drawing hashed number client) Preference None all client) =
    (λ i. record client {
      held = (is_held ∙ (λ j. client.held ++ sealed no_draws Preference None (sym none_yet j) (same j))
          ∙ ap (λ entries. client.held ++ entries) (sym (undrawn (drawing hashed number client) client.drawn all))) i;
      drawn = sym (none_drawn client.drawn all) i;
      preference = side_offered client.preference (same i);
    }) in
    after ∙ ap (λ name. noting Preference all (holding (drawing hashed number client) Preference name all client)) (sym (plain_wanted client Preference none))

either_nil : (test : Bool) → cond test [] [] ≡ (let none : List Offer = [] in none)
either_nil true = refl
either_nil false = refl

take_nil : (room : ℕ) → take room [] ≡ (let none : List Offer = [] in none)
take_nil zero = refl
take_nil (suc room) = refl

-- a type without states has nothing to send
nothing_asked : (client : Client) (kind : Kind) → (side_of client kind).states ≡ [] → asked_offers hashed kind client ≡ []
unfolding with_all_due with_reseals
nothing_asked client kind none =
    ap (λ (states : States). if is_held_back hashed client kind then []
    else offers_of (wanted_name hashed client kind) (MAX_ENTRIES - length client.held) states) none
    ∙ ap (λ (offers : List Offer). if is_held_back hashed client kind then [] else offers) (take_nil (MAX_ENTRIES - length client.held))
    ∙ either_nil (is_held_back hashed client kind)

nothing_gathered : (client : Client) (kind : Kind) → (side_of client kind).states ≡ [] → gathered hashed kind client ≡ []
nothing_gathered client kind none =
    ap (offers_if_had hashed kind client.bag) (nothing_asked client kind none) ∙ either_nil (lacks_own_lock hashed kind client.bag [])

nothing_held : (draws : Draws) (client : Client) (kind : Kind) (name : Option (List ℕ)) → holding draws kind name [] client ≡ client
unfolding sealed drawn_for
nothing_held draws client kind name = ap (λ held. record client { held = held }) (append-nil client.held)

own_side : (client : Client) (kind : Kind) → with_side client kind (side_of client kind) ≡ client
own_side client Nigori = refl
own_side client Preference = refl
own_side client Password = refl

nothing_noted : (client : Client) (kind : Kind) → noting kind [] client ≡ client
unfolding after_offers
nothing_noted client kind = own_side client kind

idle : (number : ℕ) (client : Client) (kind : Kind) → (side_of client kind).states ≡ [] → client ≡ gathering hashed number kind client None
idle number client kind none =
    sym (ap (λ asked. noting kind asked (holding (drawing hashed number client) kind (wanted_name hashed client kind) (gathered hashed kind client) client)) (nothing_asked client kind none)
    ∙ ap (λ offers. noting kind [] (holding (drawing hashed number client) kind (wanted_name hashed client kind) offers client)) (nothing_gathered client kind none)
    ∙ ap (noting kind []) (nothing_held (drawing hashed number client) client kind (wanted_name hashed client kind))
    ∙ nothing_noted client kind)

pub gather_void : (number : ℕ) (client : Client) (kind : Kind) → is_gather_void kind client ≡ true → HappensAlone (gather_effect hashed number kind client) Void client client
unfolding gather_effect
gather_void number client kind is =
    alone_void (gather_effect hashed number kind client) client client
    (voided (is_gather_void kind client) (plain_effect (gathering hashed number kind client (side_of client kind).pending) Done) is) refl

pub gather_done : (number : ℕ) (client : Client) (kind : Kind) (new : Client) → is_gather_void kind client ≡ false → new ≡ gathering hashed number kind client (side_of client kind).pending
    → HappensAlone (gather_effect hashed number kind client) Done client new
unfolding gather_effect
gather_done number client kind new is is_new =
    alone (gather_effect hashed number kind client) (gathering hashed number kind client (side_of client kind).pending) Done Done client new
    (made (is_gather_void kind client) (plain_effect (gathering hashed number kind client (side_of client kind).pending) Done) is) refl is_new

pub gather_has_effect : (number : ℕ) (client : Client) (kind : Kind) → is_gather_void kind client ≡ false → IsSome (gather_effect hashed number kind client)
unfolding gather_effect
gather_has_effect number client kind is =
    has_effect (is_gather_void kind client) (plain_effect (gathering hashed number kind client (side_of client kind).pending) Done) is

pub ask_has_effect : (number event : ℕ) (client : Client) → is_busy client ≡ false → IsSome (ask_effect number event client)
unfolding ask_effect
ask_has_effect number event client is =
    has_effect (is_busy client) (plain_effect (record client { outstanding = Some event }) (Requested number (ask_of client))) is

pub offer_has_effect : (number event : ℕ) (client : Client) → (is_busy client || length client.held == 0) ≡ false → IsSome (offer_effect number event client)
unfolding offer_effect
offer_has_effect number event client is =
    has_effect (is_busy client || length client.held == 0) (plain_effect (record client { held = []; outstanding = Some event }) (Requested number (commit_of client))) is

pub ask_void : (number event : ℕ) (client : Client) → is_busy client ≡ true → HappensAlone (ask_effect number event client) Void client client
unfolding ask_effect
ask_void number event client is =
    alone_void (ask_effect number event client) client client
    (voided (is_busy client) (plain_effect (record client { outstanding = Some event }) (Requested number (ask_of client))) is) refl

pub ask_done : (number event : ℕ) (client : Client) (birthday : Option (List ℕ)) (marks : List Marker) → is_busy client ≡ false → birthday ≡ client.birthday → marks ≡ seen_marks client
    → HappensAlone (ask_effect number event client) (Requested number record { birthday = birthday; call = AskUpdates marks }) client (record client { outstanding = Some event })
unfolding ask_effect
ask_done number event client birthday marks is is_birthday is_marks =
    alone (ask_effect number event client) (record client { outstanding = Some event }) (Requested number (ask_of client))
    (Requested number record { birthday = birthday; call = AskUpdates marks }) client (record client { outstanding = Some event })
    (made (is_busy client) (plain_effect (record client { outstanding = Some event }) (Requested number (ask_of client))) is)
    (λ i. Requested number record { birthday = is_birthday i; call = AskUpdates (is_marks i) }) refl

pub offer_void : (number event : ℕ) (client : Client) → (is_busy client || length client.held == 0) ≡ true → HappensAlone (offer_effect number event client) Void client client
unfolding offer_effect
offer_void number event client is =
    alone_void (offer_effect number event client) client client
    (voided (is_busy client || length client.held == 0) (plain_effect (record client { held = []; outstanding = Some event }) (Requested number (commit_of client))) is) refl

pub offer_done : (number event : ℕ) (client : Client) (birthday : Option (List ℕ)) (entries rest : List (Entry Content)) → (is_busy client || length client.held == 0) ≡ false
    → birthday ≡ client.birthday → entries ≡ client.held → rest ≡ []
    → HappensAlone (offer_effect number event client) (Requested number record { birthday = birthday; call = Commit entries }) client (record client { held = rest; outstanding = Some event })
unfolding offer_effect
offer_done number event client birthday entries rest is is_birthday is_entries is_rest =
    alone (offer_effect number event client) (record client { held = []; outstanding = Some event }) (Requested number (commit_of client))
    (Requested number record { birthday = birthday; call = Commit entries }) client (record client { held = rest; outstanding = Some event })
    (made (is_busy client || length client.held == 0) (plain_effect (record client { held = []; outstanding = Some event }) (Requested number (commit_of client))) is)
    (λ i. Requested number record { birthday = is_birthday i; call = Commit (is_entries i) })
    (ap (λ held. record client { held = held; outstanding = Some event }) is_rest)

-- an offer of a preference as an entry
plain_entry : (offer : Offer) → IsOfferOf Preference offer → IsPlainValue offer.value → IsPlain (entry_of no_draws Preference None 0 offer)
plain_entry offer fits plain = record {
  kind = refl;
  hash = fits.hash;
  value = plain;
  unlocked = refl;
  undrawn = refl;
  version = omega (arith, fits.known);
}

-- nothing seals what is offered of preferences
sealed_plain : (offers : List Offer) → AllByRecursion (IsOfferOf Preference) offers → AllByRecursion HasPlainValue offers
    → AllByRecursion IsPlain (sealed no_draws Preference None 0 offers)
unfolding sealed
sealed_plain [] all plain = tt
sealed_plain (offer ∷ offers) all plain =
    subst (λ lock. AllByRecursion IsPlain (entry_of no_draws Preference lock 0 offer ∷ sealed no_draws Preference None (drawn_after lock 0) offers))
    (sym (either_way (is_absent offer.value))) (plain_entry offer all.0 plain.0, sealed_plain offers all.1 plain.1)

-- what is offered of a type that is preferences, whose values are plain
offers_plain : (kind : Kind) (offers items : List Offer) (room : ℕ) (states : States) → kind ≡ Preference → items ≡ offers
    → AllByRecursion (IsOfferOf kind) offers → offers ≡ offers_of None room states → HavePlainValues states
    → AllByRecursion IsPlain (sealed no_draws Preference None 0 items)
offers_plain kind offers items room states is same all are plain =
    sealed_plain items (rw (same, ← is) all) (subst (AllByRecursion HasPlainValue) (sym (same ∙ are)) (asked_plain room states plain))
  where
    all_of_first : (count : ℕ) (offers : List Offer) → AllByRecursion HasPlainValue offers → AllByRecursion HasPlainValue (take count offers)
    all_of_first zero offers all = tt
    all_of_first (suc count) [] all = tt
    all_of_first (suc count) (offer ∷ offers) all = (all.0, all_of_first count offers all.1)

    asked_plain : (room : ℕ) (states : States) → HavePlainValues states → AllByRecursion HasPlainValue (offers_of None room states)
    asked_plain room states plain =
        all_of_first room (due_offers states ++ reseal_offers None states)
        (all_append HasPlainValue (due_offers states) (reseal_offers None states) (due_offers_plain states plain)
        (subst (AllByRecursion HasPlainValue) (sym (no_reseals [] states)) tt))

-- what is held and the offers that join it
pub joined_plain : (held joined : List (Entry Content)) (kind : Kind) (offers items : List Offer) (room : ℕ) (states : States)
    → joined ≡ held ++ sealed no_draws Preference None 0 items → AllByRecursion IsPlain held → kind ≡ Preference → items ≡ offers
    → AllByRecursion (IsOfferOf kind) offers → offers ≡ offers_of None room states → HavePlainValues states → AllByRecursion IsPlain joined
joined_plain held joined kind offers items room states is plain is_kind same all are values =
    subst (λ (all : List (Entry Content)). AllByRecursion IsPlain all) (sym is)
    (all_append IsPlain held (sealed no_draws Preference None 0 items) plain (offers_plain kind offers items room states is_kind same all are values))

-- no more are offered than there is room for
pub few_offers : (room : ℕ) (offers : List Offer) (states : States) → offers ≡ offers_of None room states → length offers ≤ room
few_offers room offers states is = omega (arith, ap length is, length-take room (due_offers states ++ reseal_offers None states))

-- nothing of another type is to be sent
pub idle_kind : (number : ℕ) (inside : Inside) (kind : Kind) → (kind ≡ Preference → ⊥) → inside.nigori.processor.states ≡ [] → inside.password.processor.states ≡ []
    → client_of inside ≡ gathering hashed number kind (client_of inside) (side_of (client_of inside) kind).pending
idle_kind number inside Nigori other keys logins = idle number (client_of inside) Nigori keys
idle_kind number inside Preference other keys logins = absurd (other refl)
idle_kind number inside Password other keys logins = idle number (client_of inside) Password logins

-- the marks that a client asks with fit
pub plain_marks : (first second third : ℕ) (marks : List Marker) → first < 2 ^ 64 → second < 2 ^ 64 → third < 2 ^ 64 → marks ≡ marks_with first second third
    → AllByRecursion (λ (marker : Marker). marker.mark < 2 ^ 64) marks
plain_marks first second third marks a b c is = subst (AllByRecursion (λ (marker : Marker). marker.mark < 2 ^ 64)) (sym is) (a, (b, (c, tt)))
