-- What each event of a client keeps of its keys' offered pairs, and of the entries that it holds and sends.
use Rattle.std.proofs.Common.{◌≡◌, ℕ, ◌+◌, ◌-◌, ◌<◌, ◌⊎◌, ◌++◌, ◌||◌, Bool, true, false, cond, List, [], ◌∷◌, length, Option, Some, None, is_some, refl, sym, ap, subst, eqb, arith, inl, inr, not, IfSome}
use Rattle.std.specs.List.{AllByRecursion}
use Rattle.client_tags.specs.declared.Kind.{Kind}
use Rattle.client_tags.specs.declared.Kind.TheVariants.{Nigori, Preference, Password}
use Rattle.key_derivation.specs.declared.NigoriKey.{NigoriKey}
use Rattle.sync_values.specs.declared.edit.Edit.{Edit}
use Rattle.sync_values.specs.declared.edit.Edit.TheVariants.{SetNigori}
use Rattle.sync_values.specs.declared.value.Value.{Value}
use Rattle.sync_model.specs.declared.event.EventOutcome.TheVariants.{Done, Requested}
use Rattle.sync_model.specs.declared.message.Batch.{Batch}
use Rattle.sync_model.specs.declared.message.Content.{Content}
use Rattle.sync_model.specs.declared.message.Entry.{Entry}
use Rattle.sync_model.specs.declared.message.Offer.{Offer}
use Rattle.sync_model.specs.declared.message.Reply.{Reply}
use Rattle.sync_model.specs.declared.message.Request.{Request}
use Rattle.sync_model.specs.declared.message.Task.{Task}
use Rattle.sync_model.specs.declared.message.Task.TheVariants.{Batch as Updating, Acks}
use Rattle.sync_model.specs.declared.state.KeyState.{KeyState}
use Rattle.sync_model.specs.Values.{same_kind}
use Rattle.sync_model.specs.Edits.{edit_kind, edit_value}
use Rattle.sync_model.specs.Settings.{Setting, decided_by, with_key}
use Rattle.sync_model.specs.KeyStates.{edited}
use Rattle.sync_model.specs.Offers.{offers_of}
use Rattle.sync_model.specs.Sides.{States, Side, state_at, side_edited, side_offered, after_offers, mailed}
use Rattle.sync_model.specs.Clients.{Client, Effect, side_of, with_side, restarted, plain_effect, wanted_name, opens, batch_mailed}
use Rattle.sync_model.specs.Changes.{own_at, edit_hash, edit_refusal, edit_taken, edit_effect, change_effect, cut_short, cut_effect, crash_effect, pass_value, set_pass_refusal, set_pass_effect, give_pass_refusal, give_pass_effect}
use Rattle.sync_model.specs.Sending.{Draws, drawing, MAX_ENTRIES, lock_for, drawn_after, sealed, drawn_for, lacks_own_lock, is_held_back, asked_offers, gathered, noting, gathering, is_gather_void, gather_effect, ask_of, is_busy, ask_effect, commit_of, offer_effect, lose_effect}
use Rattle.sync_model.specs.Receiving.{posted, post_effect_at, post_effect, turn_effect_at, turn_effect, told, is_other_store, is_fit, answer_effect}
use Rattle.sync_model.specs.Outcomes.{entries_in}
use Rattle.sync_model.specs.Facts.{key_of}
use Rattle.sync_model.specs.FateFacts.{IsNumbered, AreNumbered}
use Rattle.sync_model.specs.EchoFacts.{Offerings, IsEntryKept, AreInOrder, AreStatesKept}
use Rattle.sync_model.proofs.Longer.{all_then}
use Rattle.sync_model.proofs.TrueAcks.{all_append}
use Rattle.sync_model.proofs.KnownClients.{with_side_keeps, alike}
use Rattle.sync_model.proofs.FateKeys.{numbered_at}
use Rattle.sync_model.proofs.FateStarts.{side_of-with_side}
use Rattle.sync_model.proofs.FateWays.{with_side-rest}
use Rattle.sync_model.proofs.EchoKeys.{edited_keeps}
use Rattle.sync_model.proofs.EchoStates.{IsOfferAt, offers_at, MovesOffers, KeepsStates, same_states, with_state_keeps, IsKeptIn, WasMade, offers_keep, after_task_keeps}

-- what holds of a client's keys and of what it holds
pub record IsHolding (Was : Offerings) (client : Client) : Type 0 where
  pub sides : (kind : Kind) → AreStatesKept Was kind (side_of client kind).states
  pub held : AllByRecursion (IsEntryKept Was client) client.held

-- what an effect leaves: the same holds of the client after it and of what it sends, and each offer is moved
pub record IsEffectKept (Was : Offerings) (number : ℕ) (old : Client) (effect : Effect) : Type 0 where
  pub sides : (kind : Kind) → AreStatesKept Was kind (side_of effect.client kind).states
  pub moves : (kind : Kind) → MovesOffers Was kind (side_of old kind).states (side_of effect.client kind).states
  pub held : AllByRecursion (IsEntryKept Was effect.client) effect.client.held
  pub sent : (author : ℕ) (request : Request Content) → effect.outcome ≡ Requested author request
      → (author ≡ number) × AllByRecursion (IsEntryKept Was effect.client) (entries_in request.call)

-- an effect offers nothing: it keeps each side's keys, holds what was held or nothing, and sends that or nothing
pub record OffersNothing (Was : Offerings) (number : ℕ) (old : Client) (effect : Effect) : Type 0 where
  pub sides : (kind : Kind) → KeepsStates Was kind (side_of old kind).states (side_of effect.client kind).states
  pub held : (effect.client.held ≡ old.held) ⊎ (effect.client.held ≡ [])
  pub sent : (author : ℕ) (request : Request Content) → effect.outcome ≡ Requested author request
      → (author ≡ number) × ((entries_in request.call ≡ old.held) ⊎ (entries_in request.call ≡ []))

-- entries are those that are kept, or none
either_kept : (Is : Entry Content → Type 0) (entries held : List (Entry Content)) → (entries ≡ held) ⊎ (entries ≡ [])
    → AllByRecursion Is held → AllByRecursion Is entries
either_kept Is entries held (inl same) all = subst (λ (found : List (Entry Content)). AllByRecursion Is found) (sym same) all
either_kept Is entries held (inr none) all = subst (λ (found : List (Entry Content)). AllByRecursion Is found) (sym none) tt

-- entries move with the keys
entries_move : (Was : Offerings) (old new : Client) → ((kind : Kind) → MovesOffers Was kind (side_of old kind).states (side_of new kind).states)
    → (entries : List (Entry Content)) → AllByRecursion (IsEntryKept Was old) entries → AllByRecursion (IsEntryKept Was new) entries
entries_move Was old new moves entries all =
    all_then {P = IsEntryKept Was old} {Q = IsEntryKept Was new}
    (λ entry is. moves entry.key.kind entry.key.hash entry.version entry.content.number entry.content.value is) entries all

pub sent_move : (Was : Offerings) (old : Client) (number : ℕ) (effect : Effect) → IsEffectKept Was number old effect
    → (entries : List (Entry Content)) → AllByRecursion (IsEntryKept Was old) entries → AllByRecursion (IsEntryKept Was effect.client) entries
sent_move Was old number effect kept entries all = entries_move Was old effect.client kept.moves entries all

nothing_kept : (Was : Offerings) (number : ℕ) (old : Client) (effect : Effect) → IsHolding Was old → OffersNothing Was number old effect
    → IsEffectKept Was number old effect
nothing_kept Was number old effect kept is = record {
  sides = λ kind. (is.sides kind (kept.sides kind)).0;
  moves = moves;
  held = either_kept (IsEntryKept Was effect.client) effect.client.held old.held is.held held;
  sent = λ author request made.
      let parts : (author ≡ number) × ((entries_in request.call ≡ old.held) ⊎ (entries_in request.call ≡ [])) = is.sent author request made
      in (parts.0, either_kept (IsEntryKept Was effect.client) (entries_in request.call) old.held parts.1 held);
}
  where
    moves : (kind : Kind) → MovesOffers Was kind (side_of old kind).states (side_of effect.client kind).states
    moves kind = (is.sides kind (kept.sides kind)).1

    held : AllByRecursion (IsEntryKept Was effect.client) old.held
    held = entries_move Was old effect.client (λ kind. (is.sides kind (kept.sides kind)).1) old.held kept.held

-- nothing is sent
done_sent : (number : ℕ) (held : List (Entry Content)) (author : ℕ) (request : Request Content) → Done ≡ Requested author request
    → (author ≡ number) × ((entries_in request.call ≡ held) ⊎ (entries_in request.call ≡ []))
done_sent number held author request is = absurd (cc is)

-- another side of a type
put_sides : (Was : Offerings) (client : Client) (kind : Kind) (side : Side) → KeepsStates Was kind (side_of client kind).states side.states
    → (other : Kind) → KeepsStates Was other (side_of client other).states (side_of (with_side client kind side) other).states
put_sides Was client kind side keeps =
    with_side_keeps (λ other side. KeepsStates Was other (side_of client other).states side.states) client kind side keeps
    (λ other. same_states Was other (side_of client other).states)

-- the same sides
alike_sides : (Was : Offerings) (client old new : Client) → new.nigori ≡ old.nigori → new.preference ≡ old.preference → new.password ≡ old.password
    → ((kind : Kind) → KeepsStates Was kind (side_of client kind).states (side_of old kind).states)
    → (kind : Kind) → KeepsStates Was kind (side_of client kind).states (side_of new kind).states
alike_sides Was client old new = alike (λ kind side. KeepsStates Was kind (side_of client kind).states side.states) old new

same_sides : (Was : Offerings) (client new : Client) → new.nigori ≡ client.nigori → new.preference ≡ client.preference → new.password ≡ client.password
    → (kind : Kind) → KeepsStates Was kind (side_of client kind).states (side_of new kind).states
same_sides Was client new nigori preference password =
    alike_sides Was client client new nigori preference password (λ kind. same_states Was kind (side_of client kind).states)

-- a client that restarts
restarted_sides : (Was : Offerings) (old client : Client) → ((kind : Kind) → KeepsStates Was kind (side_of old kind).states (side_of client kind).states)
    → (kind : Kind) → KeepsStates Was kind (side_of old kind).states (side_of (restarted client) kind).states
restarted_sides Was old client sides Nigori = sides Nigori
restarted_sides Was old client sides Preference = sides Preference
restarted_sides Was old client sides Password = sides Password

restart : (Was : Offerings) (number : ℕ) (old client : Client)
    → ((kind : Kind) → KeepsStates Was kind (side_of old kind).states (side_of client kind).states)
    → OffersNothing Was number old (plain_effect (restarted client) Done)
restart Was number old client sides = record {
  sides = restarted_sides Was old client sides;
  held = inr refl;
  sent = done_sent number old.held;
}

-- an event with another side of a type, or with the same sides
put : (Was : Offerings) (number : ℕ) (client : Client) (kind : Kind) (side : Side) → KeepsStates Was kind (side_of client kind).states side.states
    → OffersNothing Was number client (plain_effect (with_side client kind side) Done)
put Was number client kind side keeps = record {
  sides = put_sides Was client kind side keeps;
  held = inl ((with_side-rest client kind side).0);
  sent = done_sent number client.held;
}

-- what an effect offers, if there is one
abbrev pub NoneOffered : Offerings → ℕ → Client → Option Effect → Type 0
NoneOffered Was number client effect = IfSome effect (OffersNothing Was number client)

-- all keys of a client are numbered
abbrev pub AreSidesNumbered : Client → Type 0
AreSidesNumbered client = (kind : Kind) → AreNumbered (side_of client kind).last_edit (side_of client kind).states

-- an edit
edit_taken-offers : (Was : Offerings) (number author : ℕ) (setting : Setting) (edit : Edit) (client : Client) → AreSidesNumbered client
    → OffersNothing Was number client (edit_taken setting author edit client)
edit_taken-offers Was number author setting edit client numbered = record {
  sides = put_sides Was client (edit_kind edit) new (with_state_keeps Was (edit_kind edit) side.states hash (edited (state_at side.states hash) value (side.last_edit + 1))
      (edited_keeps (Was (key_of (edit_kind edit) hash)) (state_at side.states hash) value (side.last_edit + 1) above));
  held = inl ((with_side-rest client (edit_kind edit) new).0);
  sent = λ author request is. absurd (cc is);
}
  where
    side : Side
    side = side_of client (edit_kind edit)

    hash : List ℕ
    hash = edit_hash setting edit

    value : Value
    value = edit_value (own_at (side_of client (edit_kind edit)) (edit_hash setting edit)) edit

    new : Side
    new = side_edited (side_of client (edit_kind edit)) (edit_hash setting edit) (edit_value (own_at (side_of client (edit_kind edit)) (edit_hash setting edit)) edit)

    above : (state_at (side_of client (edit_kind edit)).states (edit_hash setting edit)).last_edit < (side_of client (edit_kind edit)).last_edit + 1
    above =
        let here : IsNumbered (side_of client (edit_kind edit)).last_edit (state_at (side_of client (edit_kind edit)).states (edit_hash setting edit))
        = numbered_at (side_of client (edit_kind edit)).last_edit (side_of client (edit_kind edit)).states (edit_hash setting edit) (numbered (edit_kind edit))
        in omega (arith, here.within)

edit_effect-offers : (Was : Offerings) (number author : ℕ) (setting : Setting) (edit : Edit) (client : Client) → AreSidesNumbered client
    → NoneOffered Was number client (edit_effect setting author edit client)
unfolding edit_effect
edit_effect-offers Was number author setting edit client numbered = by (is_some (edit_refusal setting client edit))
  where
    by : (refused : Bool) → NoneOffered Was number client (cond refused None (Some (edit_taken setting author edit client)))
    by true = tt
    by false = edit_taken-offers Was number author setting edit client numbered

pub change_effect-offers : (Was : Offerings) (number author : ℕ) (setting : Setting) (edit : Edit) (client : Client) → AreSidesNumbered client
    → NoneOffered Was number client (change_effect setting author edit client)
unfolding change_effect
change_effect-offers Was number author setting edit client numbered = by (same_kind (edit_kind edit) Nigori)
  where
    by : (refused : Bool) → NoneOffered Was number client (cond refused None (edit_effect setting author edit client))
    by true = tt
    by false = edit_effect-offers Was number author setting edit client numbered

-- an edit that is cut short, and a crash
cut_short-offers : (Was : Offerings) (number : ℕ) (kept : Bool) (client : Client) (effect : Option Effect) → NoneOffered Was number client effect
    → NoneOffered Was number client (cut_short kept client effect)
cut_short-offers Was number kept client None made = tt
cut_short-offers Was number true client (Some effect) made = record {
  sides = restarted_sides Was client effect.client made.sides;
  held = inr refl;
  sent = done_sent number client.held;
}
cut_short-offers Was number false client (Some effect) made =
    restart Was number client client (λ kind. same_states Was kind (side_of client kind).states)

pub cut_effect-offers : (Was : Offerings) (number author : ℕ) (setting : Setting) (kept : Bool) (edit : Edit) (client : Client) → AreSidesNumbered client
    → NoneOffered Was number client (cut_effect setting author kept edit client)
unfolding cut_effect
cut_effect-offers Was number author setting kept edit client numbered =
    cut_short-offers Was number kept client (change_effect setting author edit client) (change_effect-offers Was number author setting edit client numbered)

pub crash_effect-offers : (Was : Offerings) (number : ℕ) (client : Client) → NoneOffered Was number client (crash_effect client)
unfolding crash_effect
crash_effect-offers Was number client = restart Was number client client (λ kind. same_states Was kind (side_of client kind).states)

-- passphrases
with_bag-offers : (Was : Offerings) (number author : ℕ) (setting : Setting) (edit : Edit) (client : Client) (bag : List NigoriKey) → AreSidesNumbered client
    → OffersNothing Was number client (edit_taken setting author edit (record client { bag = bag }))
with_bag-offers Was number author setting edit client bag numbered =
    let made : OffersNothing Was number (record client { bag = bag }) (edit_taken setting author edit (record client { bag = bag }))
    = edit_taken-offers Was number author setting edit (record client { bag = bag })
    (alike (λ kind side. AreNumbered side.last_edit side.states) client (record client { bag = bag }) refl refl refl numbered)
    in record {
      sides = alike (λ kind side. KeepsStates Was kind side.states (side_of (edit_taken setting author edit (record client { bag = bag })).client kind).states)
          (record client { bag = bag }) client refl refl refl made.sides;
      held = made.held;
      sent = made.sent;
    }

pub set_pass_effect-offers : (Was : Offerings) (number author : ℕ) (setting : Setting) (pass : List ℕ) (client : Client) → AreSidesNumbered client
    → NoneOffered Was number client (set_pass_effect setting setting.pass_kind author pass client)
unfolding set_pass_effect
set_pass_effect-offers Was number author setting pass client numbered = by (is_some (set_pass_refusal setting setting.pass_kind pass client))
  where
    by : (refused : Bool) → NoneOffered Was number client (cond refused None (Some (edit_taken setting author (SetNigori (pass_value setting setting.pass_kind client.bag pass))
        (record client { bag = with_key setting client.bag (setting.pass_key pass) }))))
    by true = tt
    by false = with_bag-offers Was number author setting (SetNigori (pass_value setting setting.pass_kind client.bag pass)) client
        (with_key setting client.bag (setting.pass_key pass)) numbered

pub give_pass_effect-offers : (Was : Offerings) (number : ℕ) (setting : Setting) (pass : List ℕ) (client : Client)
    → NoneOffered Was number client (give_pass_effect setting pass client)
unfolding give_pass_effect
give_pass_effect-offers Was number setting pass client = by (is_some (give_pass_refusal setting pass client)) _
  where
    by : (refused : Bool) (bag : List NigoriKey) → NoneOffered Was number client (cond refused None (Some (plain_effect (record client { bag = bag }) Done)))
    by true bag = tt
    by false bag = record { sides = same_sides Was client (record client { bag = bag }) refl refl refl; held = inl refl; sent = done_sent number client.held }

-- a batch goes to the mailbox
batch_mailed-offers : (Was : Offerings) (number : ℕ) (setting : Setting) (client : Client) (kind : Kind) (side : Side) (batch : Batch)
    → side.states ≡ (side_of client kind).states → OffersNothing Was number client (plain_effect (batch_mailed setting client kind side batch) Done)
batch_mailed-offers Was number setting client kind side batch same = record {
  sides = alike_sides Was client (with_side client kind (mailed side batch)) (batch_mailed setting client kind side batch) refl refl refl
      (put_sides Was client kind (mailed side batch) (states_are Was client kind side same));
  held = inl ((with_side-rest client kind (mailed side batch)).0);
  sent = done_sent number client.held;
}
  where
    states_are : (Was : Offerings) (client : Client) (kind : Kind) (side : Side) → side.states ≡ (side_of client kind).states
        → KeepsStates Was kind (side_of client kind).states side.states
    states_are Was client kind side same =
        subst (λ (states : States). KeepsStates Was kind (side_of client kind).states states) (sym same) (same_states Was kind (side_of client kind).states)

-- a letter is posted
posted-offers : (Was : Offerings) (number : ℕ) (setting : Setting) (client : Client) (kind : Kind) (task : Task)
    → OffersNothing Was number client (plain_effect (posted setting client kind (side_of client kind) task) Done)
posted-offers Was number setting client kind (Acks acks) =
    put Was number client kind _ (same_states Was kind (side_of client kind).states)
posted-offers Was number setting client kind (Updating batch) = by (opens setting client.bag batch)
  where
    by : (opened : Bool) → OffersNothing Was number client (plain_effect (cond opened (batch_mailed setting client kind (record (side_of client kind) { letter = None }) batch)
        (with_side client kind (record (side_of client kind) { pending = Some batch; letter = None }))) Done)
    by true = batch_mailed-offers Was number setting client kind (record (side_of client kind) { letter = None }) batch refl
    by false = put Was number client kind _ (same_states Was kind (side_of client kind).states)

post_effect_at-offers : (Was : Offerings) (number : ℕ) (setting : Setting) (client : Client) (kind : Kind) (letter : Option Task)
    → NoneOffered Was number client (post_effect_at setting client kind (side_of client kind) letter)
post_effect_at-offers Was number setting client kind None = tt
post_effect_at-offers Was number setting client kind (Some task) = posted-offers Was number setting client kind task

pub post_effect-offers : (Was : Offerings) (number : ℕ) (setting : Setting) (kind : Kind) (client : Client)
    → NoneOffered Was number client (post_effect setting kind client)
unfolding post_effect
post_effect-offers Was number setting kind client = post_effect_at-offers Was number setting client kind (side_of client kind).letter

-- a turn
turn_effect_at-offers : (Was : Offerings) (number : ℕ) (setting : Setting) (client : Client) (kind : Kind) (tasks : List Task)
    → NoneOffered Was number client (turn_effect_at setting client kind (side_of client kind) tasks)
turn_effect_at-offers Was number setting client kind [] = tt
turn_effect_at-offers Was number setting client kind (task ∷ tasks) = record {
  sides = put_sides Was client kind _ (after_task_keeps Was kind (decided_by setting kind) (record (side_of client kind) { mailbox = tasks }) task);
  held = inl ((with_side-rest client kind _).0);
  sent = done_sent number client.held;
}

pub turn_effect-offers : (Was : Offerings) (number : ℕ) (setting : Setting) (kind : Kind) (client : Client)
    → NoneOffered Was number client (turn_effect setting kind client)
unfolding turn_effect
turn_effect-offers Was number setting kind client = turn_effect_at-offers Was number setting client kind (side_of client kind).mailbox

-- a request has the author and the call that its outcome says
author_is : (number author : ℕ) (made request : Request Content) → Requested number made ≡ Requested author request → author ≡ number
author_is number author made request is = cc is

entries_are : (number author : ℕ) (made request : Request Content) → Requested number made ≡ Requested author request
    → entries_in request.call ≡ entries_in made.call
entries_are number author made request is =
    let same : request ≡ made = cc is in ap (λ (found : Request Content). entries_in found.call) same

pub ask_effect-offers : (Was : Offerings) (number event : ℕ) (client : Client) → NoneOffered Was number client (ask_effect number event client)
unfolding ask_effect
ask_effect-offers Was number event client = by (is_busy client)
  where
    by : (busy : Bool) → NoneOffered Was number client (cond busy None (Some (plain_effect (record client { outstanding = Some event }) (Requested number (ask_of client)))))
    by true = tt
    by false = record {
      sides = same_sides Was client (record client { outstanding = Some event }) refl refl refl;
      held = inl refl;
      sent = λ author request is. (author_is number author (ask_of client) request is, inr (entries_are number author (ask_of client) request is));
    }

pub offer_effect-offers : (Was : Offerings) (number event : ℕ) (client : Client) → NoneOffered Was number client (offer_effect number event client)
unfolding offer_effect
offer_effect-offers Was number event client = by (is_busy client || eqb (length client.held) 0)
  where
    by : (busy : Bool) → NoneOffered Was number client (cond busy None (Some (plain_effect (record client { held = []; outstanding = Some event }) (Requested number (commit_of client)))))
    by true = tt
    by false = record {
      sides = same_sides Was client (record client { held = []; outstanding = Some event }) refl refl refl;
      held = inr refl;
      sent = λ author request is. (author_is number author (commit_of client) request is, inl (entries_are number author (commit_of client) request is));
    }

pub lose_effect-offers : (Was : Offerings) (number : ℕ) (client : Client) → NoneOffered Was number client (lose_effect client)
unfolding lose_effect
lose_effect-offers Was number client = by (is_some client.outstanding)
  where
    by : (waits : Bool) → NoneOffered Was number client (cond waits (Some (plain_effect (record client { outstanding = None }) Done)) None)
    by true = record { sides = same_sides Was client (record client { outstanding = None }) refl refl refl; held = inl refl; sent = done_sent number client.held }
    by false = tt

-- a reply
told_sides : (Was : Offerings) (request : Request Content) (reply : Reply Content) (client : Client) (kind : Kind)
    → KeepsStates Was kind (side_of client kind).states (side_of (told request.call reply client) kind).states
told_sides Was request reply client Nigori = same_states Was Nigori client.nigori.states
told_sides Was request reply client Preference = same_states Was Preference client.preference.states
told_sides Was request reply client Password = same_states Was Password client.password.states

pub answer_effect-offers : (Was : Offerings) (number : ℕ) (request : Request Content) (reply : Reply Content) (client : Client)
    → NoneOffered Was number client (answer_effect request reply client)
unfolding answer_effect
answer_effect-offers Was number request reply client = by (is_other_store client.birthday reply.birthday || not (is_fit request.call reply.verdict))
  where
    by : (ends : Bool) → OffersNothing Was number client (plain_effect (cond ends (record client { outstanding = None }) (told request.call reply client)) Done)
    by true = record { sides = same_sides Was client (record client { outstanding = None }) refl refl refl; held = inl refl; sent = done_sent number client.held }
    by false = record { sides = told_sides Was request reply client; held = inl refl; sent = done_sent number client.held }

-- offers as entries
sealed_kept : (Was : Offerings) (client : Client) (draws : Draws) (kind : Kind) (name : Option (List ℕ)) (drawn : ℕ) (offers : List Offer)
    → AllByRecursion (IsKeptIn Was kind (side_of client kind).states) offers → AllByRecursion (IsEntryKept Was client) (sealed draws kind name drawn offers)
unfolding sealed
sealed_kept Was client draws kind name drawn [] all = tt
sealed_kept Was client draws kind name drawn (offer ∷ offers) all =
    (all.0, sealed_kept Was client draws kind name (drawn_after (lock_for kind name offer.value) drawn) offers all.1)

-- some offers, or none
all_or_none : (Is : Offer → Type 0) (none : Bool) (offers : List Offer) → AllByRecursion Is offers → AllByRecursion Is (cond none [] offers)
all_or_none Is true offers all = tt
all_or_none Is false offers all = all

-- what a gather asks a side for stands at its keys
asked_at : (setting : Setting) (kind : Kind) (client : Client) → AreInOrder (side_of client kind).states → AreSidesNumbered client
    → AllByRecursion (IsOfferAt (side_of client kind).states) (asked_offers setting kind client)
asked_at setting kind client ordered numbered =
    all_or_none (IsOfferAt (side_of client kind).states) (is_held_back setting client kind)
    (offers_of (wanted_name setting client kind) (MAX_ENTRIES - length client.held) (side_of client kind).states)
    (offers_at (wanted_name setting client kind) (MAX_ENTRIES - length client.held) (side_of client kind).states ordered
    (all_then (λ (entry : List ℕ × KeyState) (is : IsNumbered (side_of client kind).last_edit entry.1). is.due) (side_of client kind).states (numbered kind)))

-- a client that holds more has the same sides
holding_side : (client : Client) (held : List (Entry Content)) (drawn : ℕ) (kind : Kind)
    → side_of (record client { held = held; drawn = drawn }) kind ≡ side_of client kind
holding_side client held drawn Nigori = refl
holding_side client held drawn Preference = refl
holding_side client held drawn Password = refl

-- a side notes some offers, and some of them are held
noting_kept : (Was : Offerings) (number : ℕ) (client : Client) (draws : Draws) (kind : Kind) (name : Option (List ℕ)) (lacks : Bool) (drawn : ℕ) (offers : List Offer)
    → IsHolding Was client → AllByRecursion (IsOfferAt (side_of client kind).states) offers → AllByRecursion (WasMade Was kind) offers
    → IsEffectKept Was number client (plain_effect (noting kind offers
    (record client { held = client.held ++ sealed draws kind name client.drawn (cond lacks [] offers); drawn = drawn })) Done)
noting_kept Was number client draws kind name lacks drawn offers kept at was = record {
  sides = λ other. (steps other).0;
  moves = λ other. (steps other).1;
  held = subst (λ (held : List (Entry Content)). AllByRecursion (IsEntryKept Was new) held) (sym (with_side-rest holder kind noted).0)
      (all_append (IsEntryKept Was new) client.held (sealed draws kind name client.drawn (cond lacks [] offers))
      (entries_move Was client new (λ other. (steps other).1) client.held kept.held)
      (sealed_kept Was new draws kind name client.drawn (cond lacks [] offers) (all_or_none (IsKeptIn Was kind (side_of new kind).states) lacks offers
      (subst (λ (side : Side). AllByRecursion (IsKeptIn Was kind side.states) offers) (sym (side_of-with_side holder kind noted))
      (subst (λ (side : Side). AllByRecursion (IsKeptIn Was kind (after_offers side.states offers)) offers) (sym same)
      (offers_keep Was kind (side_of client kind).states offers at was (kept.sides kind)).2)))));
  sent = λ author request is. absurd (cc is);
}
  where
    holder : Client
    holder = record client { held = client.held ++ sealed draws kind name client.drawn (cond lacks [] offers); drawn = drawn }

    same : side_of (record client { held = client.held ++ sealed draws kind name client.drawn (cond lacks [] offers); drawn = drawn }) kind ≡ side_of client kind
    same = holding_side client (client.held ++ sealed draws kind name client.drawn (cond lacks [] offers)) drawn kind

    noted : Side
    noted = side_offered (side_of (record client { held = client.held ++ sealed draws kind name client.drawn (cond lacks [] offers); drawn = drawn }) kind) offers

    new : Client
    new = noting kind offers (record client { held = client.held ++ sealed draws kind name client.drawn (cond lacks [] offers); drawn = drawn })

    -- what becomes of each side
    steps : (other : Kind) → AreStatesKept Was other (side_of new other).states
        × MovesOffers Was other (side_of client other).states (side_of new other).states
    steps = with_side_keeps (λ other side. AreStatesKept Was other side.states × MovesOffers Was other (side_of client other).states side.states)
        holder kind noted
        (subst (λ (side : Side). AreStatesKept Was kind (after_offers side.states offers)
        × MovesOffers Was kind (side_of client kind).states (after_offers side.states offers)) (sym same) (
          (offers_keep Was kind (side_of client kind).states offers at was (kept.sides kind)).0,
          (offers_keep Was kind (side_of client kind).states offers at was (kept.sides kind)).1,
        ))
        (λ other. subst (λ (side : Side). AreStatesKept Was other side.states × MovesOffers Was other (side_of client other).states side.states)
        (sym (holding_side client (client.held ++ sealed draws kind name client.drawn (cond lacks [] offers)) drawn other))
        (kept.sides other, λ hash version edit value is. is))

-- what an effect keeps, if there is one
abbrev pub IsKept : Offerings → ℕ → Client → Option Effect → Type 0
IsKept Was number client effect = IfSome effect (IsEffectKept Was number client)

pub none_kept : (Was : Offerings) (number : ℕ) (client : Client) (effect : Option Effect) → IsHolding Was client → NoneOffered Was number client effect
    → IsKept Was number client effect
none_kept Was number client None kept is = tt
none_kept Was number client (Some effect) kept is = nothing_kept Was number client effect kept is

-- a gather, where what it asks for was offered
gathering_kept : (Was : Offerings) (number author : ℕ) (setting : Setting) (kind : Kind) (client : Client) (pending : Option Batch)
    → AreSidesNumbered client → (pending ≡ None → AllByRecursion (WasMade Was kind) (asked_offers setting kind client)) → IsHolding Was client
    → IsEffectKept Was number client (plain_effect (gathering setting author kind client pending) Done)
gathering_kept Was number author setting kind client (Some batch) numbered was kept = by (opens setting client.bag batch)
  where
    by : (opened : Bool) → IsEffectKept Was number client (plain_effect (cond opened (batch_mailed setting client kind (side_of client kind) batch) client) Done)
    by true = nothing_kept Was number client (plain_effect (batch_mailed setting client kind (side_of client kind) batch) Done) kept
        (batch_mailed-offers Was number setting client kind (side_of client kind) batch refl)
    by false = nothing_kept Was number client (plain_effect client Done) kept
        record { sides = λ other. same_states Was other (side_of client other).states; held = inl refl; sent = done_sent number client.held }
gathering_kept Was number author setting kind client None numbered was kept =
    noting_kept Was number client (drawing setting author client) kind (wanted_name setting client kind) (lacks_own_lock setting kind client.bag (asked_offers setting kind client))
    (drawn_for kind (wanted_name setting client kind) client.drawn (gathered setting kind client)) (asked_offers setting kind client) kept
    (asked_at setting kind client (kept.sides kind).in_order numbered) (was refl)

pub gather_effect-kept : (Was : Offerings) (number author : ℕ) (setting : Setting) (kind : Kind) (client : Client) → AreSidesNumbered client
    → (is_gather_void kind client ≡ false → (side_of client kind).pending ≡ None → AllByRecursion (WasMade Was kind) (asked_offers setting kind client))
    → IsHolding Was client → IsKept Was number client (gather_effect setting author kind client)
unfolding gather_effect
gather_effect-kept Was number author setting kind client numbered was kept = by (is_gather_void kind client) refl
  where
    by : (void : Bool) → is_gather_void kind client ≡ void
        → IsKept Was number client (cond void None (Some (plain_effect (gathering setting author kind client (side_of client kind).pending) Done)))
    by true is = tt
    by false is = gathering_kept Was number author setting kind client (side_of client kind).pending numbered (was is) kept
