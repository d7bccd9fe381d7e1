-- What a user does, a crash, and a turn: a client has the keys that it knows and sends after it, if it had them before.
use Rattle.std.proofs.Common.{◌≡◌, ℕ, ◌+◌, Bool, true, false, cond, List, [], ◌∷◌, Option, Some, None, is_some, refl, sym}
use Rattle.std.proofs.lemmas.Bool.{false≢true}
use Rattle.client_tags.specs.declared.Kind.{Kind}
use Rattle.client_tags.specs.declared.Kind.TheVariants.{Nigori, Preference, Password}
use Rattle.key_derivation.specs.declared.NigoriKey.{NigoriKey}
use Rattle.sync_values.specs.declared.edit.Edit.{Edit}
use Rattle.sync_values.specs.declared.edit.Edit.TheVariants.{SetNigori}
use Rattle.sync_values.specs.declared.value.Value.TheVariants.{Nigori as Keys_value}
use Rattle.sync_model.specs.declared.event.EventOutcome.{EventOutcome}
use Rattle.sync_model.specs.declared.event.EventOutcome.TheVariants.{Done, Edited}
use Rattle.sync_model.specs.declared.message.Content.{Content}
use Rattle.sync_model.specs.declared.message.Entry.{Entry}
use Rattle.sync_model.specs.declared.state.KeyState.{KeyState}
use Rattle.sync_model.specs.Values.{same_kind}
use Rattle.sync_model.specs.Edits.{edit_kind}
use Rattle.sync_model.specs.Settings.{Setting, nigori_hash, names_of, with_key, with_keys}
use Rattle.sync_model.specs.KeyStates.{edited}
use Rattle.sync_model.specs.Sides.{Side, state_at, restarted_side, side_edited}
use Rattle.sync_model.specs.Clients.{Client, with_side, restarted, Effect, plain_effect}
use Rattle.sync_model.specs.Sending.{lose_effect}
use Rattle.sync_model.specs.Changes.{edit_refusal, edit_taken, edit_effect, change_effect, cut_short, cut_effect, crash_effect, asked_for, pass_value, set_pass_refusal, set_pass_effect, keys_of_update, give_pass_refusal, give_pass_effect}
use Rattle.sync_model.specs.Outcomes.{entries_sent, writes_given}
use Rattle.sync_model.specs.KeyFacts.{Each, HaveNames, names_in, KeepsKeys, IsGiven, names_sent, names_in_letter, names_in_tasks, under_way, StateHasKeys, HasKeys}
use Rattle.sync_model.proofs.KeyNames.{has_names-self, has_names-through, with_key-keeps, with_key-has, with_keys-keeps}
use Rattle.sync_model.proofs.KeyHistory.{GoesOn-self}
use Rattle.sync_model.proofs.KeyClients.{has_four, offered-through, way_parts, ClientHasKeys-later, ClientHasKeys-less, ClientHasKeys-more}
use Rattle.sync_model.proofs.KeyTurns.{with_state-HoldsOfEntity, StatesHaveKeys}

-- after an effect its client has its keys, and what it requested keeps them
pub record EffectHasKeys (setting : Setting) (history : List (Entry Content)) (outcomes : List EventOutcome) (effect : Effect) : Type 0 where
  pub client : HasKeys setting history (effect.outcome ∷ outcomes) effect.client
  pub sent : Each (KeepsKeys setting history) (entries_sent effect.outcome)
  pub gave : Each (IsGiven setting history) (writes_given effect.outcome)

-- an effect is void, or its client has its keys after it
abbrev pub MayHaveKeys : Setting → List (Entry Content) → List EventOutcome → Option Effect → Type 0
MayHaveKeys setting history outcomes None = Unit {0}
MayHaveKeys setting history outcomes (Some effect) = EffectHasKeys setting history outcomes effect

-- an effect that a test makes void
pub unless-MayHaveKeys : (setting : Setting) (history : List (Entry Content)) (outcomes : List EventOutcome) (test : Bool) (effect : Effect)
    → EffectHasKeys setting history outcomes effect → MayHaveKeys setting history outcomes (cond test None (Some effect))
unless-MayHaveKeys setting history outcomes true effect has = tt
unless-MayHaveKeys setting history outcomes false effect has = has

-- a client that does nothing has its keys where the log grows
pub HasKeys-next : (setting : Setting) (history : List (Entry Content)) (outcome : EventOutcome) (outcomes : List EventOutcome) (client : Client)
    → HasKeys setting history outcomes client → HasKeys setting history (outcome ∷ outcomes) client
HasKeys-next setting history outcome outcomes client has =
    ClientHasKeys-later setting history history outcome outcomes client.nigori client.bag client.held client.outstanding (GoesOn-self setting history) has

-- another type's side may change
pub with_side-HasKeys : (setting : Setting) (history : List (Entry Content)) (outcomes : List EventOutcome) (client : Client) (kind : Kind) (side : Side)
    → same_kind kind Nigori ≡ false → HasKeys setting history outcomes client → HasKeys setting history outcomes (with_side client kind side)
with_side-HasKeys setting history outcomes client Nigori side other has = absurd (false≢true (sym other))
with_side-HasKeys setting history outcomes client Preference side other has = has
with_side-HasKeys setting history outcomes client Password side other has = has

-- an edit of another type
edit_effect-HasKeys : (setting : Setting) (history : List (Entry Content)) (outcomes : List EventOutcome) (number : ℕ) (edit : Edit) (client : Client)
    → same_kind (edit_kind edit) Nigori ≡ false → HasKeys setting history outcomes client
    → MayHaveKeys setting history outcomes (edit_effect setting number edit client)
unfolding edit_effect
edit_effect-HasKeys setting history outcomes number edit client other has =
    unless-MayHaveKeys setting history outcomes (is_some (edit_refusal setting client edit)) (edit_taken setting number edit client) record {
      client = with_side-HasKeys setting history _ client (edit_kind edit) _ other (HasKeys-next setting history _ outcomes client has);
      sent = tt;
      gave = tt;
    }

change_by : (setting : Setting) (history : List (Entry Content)) (outcomes : List EventOutcome) (number : ℕ) (edit : Edit) (client : Client) (of : Bool)
    → same_kind (edit_kind edit) Nigori ≡ of → HasKeys setting history outcomes client
    → MayHaveKeys setting history outcomes (cond of None (edit_effect setting number edit client))
change_by setting history outcomes number edit client true is has = tt
change_by setting history outcomes number edit client false is has = edit_effect-HasKeys setting history outcomes number edit client is has

pub change_effect-HasKeys : (setting : Setting) (history : List (Entry Content)) (outcomes : List EventOutcome) (number : ℕ) (edit : Edit) (client : Client)
    → HasKeys setting history outcomes client → MayHaveKeys setting history outcomes (change_effect setting number edit client)
unfolding change_effect
change_effect-HasKeys setting history outcomes number edit client has =
    change_by setting history outcomes number edit client (same_kind (edit_kind edit) Nigori) refl has

-- what a crash leaves has its keys
restarted-HasKeys : (setting : Setting) (history : List (Entry Content)) (outcomes : List EventOutcome) (client : Client)
    → HasKeys setting history outcomes client → HasKeys setting history outcomes (restarted client)
restarted-HasKeys setting history outcomes client has =
    ClientHasKeys-less setting history outcomes client.nigori (restarted_side client.nigori) client.bag client.bag client.held [] client.outstanding None refl
    (has_names-self (names_of setting client.bag)) refl tt tt tt tt tt tt has

-- a client that stops, and starts again
restarted_next : (setting : Setting) (history : List (Entry Content)) (outcomes : List EventOutcome) (client : Client)
    → HasKeys setting history outcomes client → EffectHasKeys setting history outcomes (plain_effect (restarted client) Done)
restarted_next setting history outcomes client has = record {
  client = restarted-HasKeys setting history (Done ∷ outcomes) client (HasKeys-next setting history Done outcomes client has);
  sent = tt;
  gave = tt;
}

pub crash_effect-HasKeys : (setting : Setting) (history : List (Entry Content)) (outcomes : List EventOutcome) (client : Client)
    → HasKeys setting history outcomes client → MayHaveKeys setting history outcomes (crash_effect client)
unfolding crash_effect
crash_effect-HasKeys setting history outcomes client has = restarted_next setting history outcomes client has

-- what a crash leaves of a client has its keys whatever the last event was, since it waits for none
forgets-HasKeys : (setting : Setting) (history : List (Entry Content)) (outcome other : EventOutcome) (outcomes : List EventOutcome) (client : Client)
    → HasKeys setting history (outcome ∷ outcomes) client → HasKeys setting history (other ∷ outcomes) (restarted client)
forgets-HasKeys setting history outcome other outcomes client has =
    let done = restarted-HasKeys setting history (outcome ∷ outcomes) client has
    in record {
      entity = done.entity;
      state = done.state;
      way = done.way;
      holds = done.holds;
      requested = tt;
      mailbox = done.mailbox;
      opened = done.opened;
      letter = done.letter;
      pending = done.pending;
    }

cut_short-HasKeys : (setting : Setting) (history : List (Entry Content)) (outcomes : List EventOutcome) (kept : Bool) (client : Client) (effect : Option Effect)
    → HasKeys setting history outcomes client → MayHaveKeys setting history outcomes effect
    → MayHaveKeys setting history outcomes (cut_short kept client effect)
cut_short-HasKeys setting history outcomes kept client None has after = tt
cut_short-HasKeys setting history outcomes true client (Some effect) has after = record {
  client = forgets-HasKeys setting history effect.outcome Done outcomes effect.client after.client;
  sent = tt;
  gave = tt;
}
cut_short-HasKeys setting history outcomes false client (Some effect) has after = restarted_next setting history outcomes client has

pub cut_effect-HasKeys : (setting : Setting) (history : List (Entry Content)) (outcomes : List EventOutcome) (number : ℕ) (kept : Bool) (edit : Edit) (client : Client)
    → HasKeys setting history outcomes client → MayHaveKeys setting history outcomes (cut_effect setting number kept edit client)
unfolding cut_effect
cut_effect-HasKeys setting history outcomes number kept edit client has =
    cut_short-HasKeys setting history outcomes kept client (change_effect setting number edit client) has
    (change_effect-HasKeys setting history outcomes number edit client has)

-- a client that gives up its request
pub gives_up : (setting : Setting) (history : List (Entry Content)) (outcomes : List EventOutcome) (client : Client)
    → HasKeys setting history outcomes client → HasKeys setting history outcomes (record client { outstanding = None })
gives_up setting history outcomes client has =
    let parts = way_parts setting outcomes client.nigori client.held client.outstanding
    in ClientHasKeys-less setting history outcomes client.nigori client.nigori client.bag client.bag client.held client.held client.outstanding None refl
    (has_names-self (names_of setting client.bag))
    (has_four _ (names_sent setting client.held) [] (names_in_letter setting client.nigori.letter) (names_in_tasks setting client.nigori.mailbox)
    parts.held refl parts.letter parts.mailbox)
    has.holds tt has.mailbox has.opened has.letter has.pending has

lose_by : (setting : Setting) (history : List (Entry Content)) (outcomes : List EventOutcome) (client : Client) (test : Bool)
    → HasKeys setting history outcomes client
    → MayHaveKeys setting history outcomes (cond test (Some (plain_effect (record client { outstanding = None }) Done)) None)
lose_by setting history outcomes client true has = record {
  client = gives_up setting history (Done ∷ outcomes) client (HasKeys-next setting history Done outcomes client has);
  sent = tt;
  gave = tt;
}
lose_by setting history outcomes client false has = tt

pub lose_effect-HasKeys : (setting : Setting) (history : List (Entry Content)) (outcomes : List EventOutcome) (client : Client)
    → HasKeys setting history outcomes client → MayHaveKeys setting history outcomes (lose_effect client)
unfolding lose_effect
lose_effect-HasKeys setting history outcomes client has = lose_by setting history outcomes client (is_some client.outstanding) has

-- a passphrase that is given
pub give_pass_effect-HasKeys : (setting : Setting) (history : List (Entry Content)) (outcomes : List EventOutcome) (pass : List ℕ) (client : Client)
    → HasKeys setting history outcomes client → MayHaveKeys setting history outcomes (give_pass_effect setting pass client)
unfolding give_pass_effect
give_pass_effect-HasKeys setting history outcomes pass client has =
    let first : List NigoriKey = with_key setting client.bag (setting.pass_key pass)
    in let more : List NigoriKey = with_keys setting first (keys_of_update (asked_for client.nigori.pending))
    in unless-MayHaveKeys setting history outcomes (is_some (give_pass_refusal setting pass client)) (plain_effect (record client { bag = more }) Done) record {
      client = ClientHasKeys-more setting history (Done ∷ outcomes) client.nigori client.bag more client.held client.outstanding
          (has_names-through (names_of setting more) (names_of setting first) (names_of setting client.bag)
          (with_keys-keeps setting first (keys_of_update (asked_for client.nigori.pending))) (with_key-keeps setting client.bag (setting.pass_key pass)))
          (HasKeys-next setting history Done outcomes client has);
      sent = tt;
      gave = tt;
    }

-- a new passphrase's keys wait with all that the bag has, its own key among them
chosen-StateHasKeys : (setting : Setting) (history : List (Entry Content)) (bag : List NigoriKey) (way : List (List ℕ)) (state : KeyState) (pass : List ℕ) (number : ℕ)
    → HaveNames setting bag way → StateHasKeys setting history bag way state
    → StateHasKeys setting history (with_key setting bag (setting.pass_key pass)) way (edited state (Keys_value (pass_value setting setting.pass_kind bag pass)) number)
chosen-StateHasKeys setting history bag way state pass number had has =
    let more : List NigoriKey = with_key setting bag (setting.pass_key pass)
    in let grows : HaveNames setting more (names_of setting bag) = with_key-keeps setting bag (setting.pass_key pass)
    in let base : HaveNames setting more (names_in setting state.base)
    = has_names-through (names_of setting more) (names_of setting bag) (names_in setting state.base) grows has.had
    in record {
      known = has.known;
      had = base;
      waits = λ due. record {
        has_lock = with_key-has setting bag (setting.pass_key pass);
        has_base = base;
        has_way = has_names-through (names_of setting more) (names_of setting bag) way grows had;
        had = has_names-self (names_of setting more);
      };
      offered = offered-through setting bag more state.offered grows has.offered;
      waits_offered = λ due. offered-through setting bag more state.offered grows has.offered;
    }

-- a client whose user chooses a passphrase
chosen-HasKeys : (setting : Setting) (history : List (Entry Content)) (outcomes : List EventOutcome) (pass : List ℕ) (client : Client)
    → HasKeys setting history outcomes client
    → HasKeys setting history outcomes (with_side (record client { bag = with_key setting client.bag (setting.pass_key pass) }) Nigori
    (side_edited client.nigori (nigori_hash setting) (Keys_value (pass_value setting setting.pass_kind client.bag pass))))
chosen-HasKeys setting history outcomes pass client has =
    let more : List NigoriKey = with_key setting client.bag (setting.pass_key pass)
    in let way : List (List ℕ) = under_way setting outcomes client.nigori client.held client.outstanding
    in let grows : HaveNames setting more (names_of setting client.bag) = with_key-keeps setting client.bag (setting.pass_key pass)
    in let larger = ClientHasKeys-more setting history outcomes client.nigori client.bag more client.held client.outstanding grows has
    in let holds : StatesHaveKeys setting history more way (side_edited client.nigori (nigori_hash setting) (Keys_value (pass_value setting setting.pass_kind client.bag pass))).states
    = with_state-HoldsOfEntity setting (StateHasKeys setting history more way) client.nigori.states (nigori_hash setting)
    (edited (state_at client.nigori.states (nigori_hash setting)) (Keys_value (pass_value setting setting.pass_kind client.bag pass)) (client.nigori.last_edit + 1)) refl has.entity
    (chosen-StateHasKeys setting history client.bag way (state_at client.nigori.states (nigori_hash setting)) pass (client.nigori.last_edit + 1) has.way has.state)
    in record {
      entity = holds.entity;
      state = holds.state;
      way = larger.way;
      holds = larger.holds;
      requested = larger.requested;
      mailbox = larger.mailbox;
      opened = larger.opened;
      letter = larger.letter;
      pending = larger.pending;
    }

pub set_pass_effect-HasKeys : (setting : Setting) (history : List (Entry Content)) (outcomes : List EventOutcome) (number : ℕ) (pass : List ℕ) (client : Client)
    → HasKeys setting history outcomes client → MayHaveKeys setting history outcomes (set_pass_effect setting setting.pass_kind number pass client)
unfolding set_pass_effect
set_pass_effect-HasKeys setting history outcomes number pass client has =
    let outcome : EventOutcome = Edited number Nigori (client.nigori.last_edit + 1)
    in unless-MayHaveKeys setting history outcomes (is_some (set_pass_refusal setting setting.pass_kind pass client))
    (edit_taken setting number (SetNigori (pass_value setting setting.pass_kind client.bag pass)) (record client { bag = with_key setting client.bag (setting.pass_key pass) })) record {
      client = chosen-HasKeys setting history (outcome ∷ outcomes) pass client (HasKeys-next setting history outcome outcomes client has);
      sent = tt;
      gave = tt;
    }
