-- What every event keeps of the profile's keys: in the history, in what was requested and given, and on each client.
use Rattle.std.specs.Prelude.{◌≡◌, ℕ, ◌+◌, ◌≤◌, false, ◌==◌, if◌then◌else◌, IsTrue, List, [], ◌∷◌, ◌++◌, length, slice_index_or, Option, Some, None, is_some}
use Rattle.client_tags.specs.declared.Kind.TheVariants.{Nigori}
use Rattle.key_derivation.specs.declared.NigoriKey.{NigoriKey}
use Rattle.sync_values.specs.declared.value.Value.{Value}
use Rattle.sync_values.specs.declared.value.Value.TheVariants.{Absent}
use Rattle.sync_model.specs.declared.event.EventOutcome.{EventOutcome}
use Rattle.sync_model.specs.declared.message.Ack.{Ack}
use Rattle.sync_model.specs.declared.message.Batch.{Batch}
use Rattle.sync_model.specs.declared.message.Content.{Content}
use Rattle.sync_model.specs.declared.message.Entry.{Entry}
use Rattle.sync_model.specs.declared.message.Key.{Key}
use Rattle.sync_model.specs.declared.message.Task.{Task}
use Rattle.sync_model.specs.declared.message.Task.TheVariants.{Batch as Updating, Acks}
use Rattle.sync_model.specs.declared.message.Update.{Update}
use Rattle.sync_model.specs.declared.state.KeyState.{KeyState}
use Rattle.sync_model.specs.declared.state.Offered.{Offered}
use Rattle.sync_model.specs.Values.{same_kind, keys_in, has_names}
use Rattle.sync_model.specs.Settings.{Setting, nigori_hash, names_of}
use Rattle.sync_model.specs.History.{last_version}
use Rattle.sync_model.specs.Sides.{States, Side, state_at}
use Rattle.sync_model.specs.Clients.{Client, new_client}
use Rattle.sync_model.specs.Sending.{own_lock}
use Rattle.sync_model.specs.Laws.{lock_names, newest_keys, AreLocksKept}
use Rattle.sync_model.specs.Outcomes.{entries_sent, writes_given}
use Rattle.sync_model.specs.Worlds.{World, outcome_at}

-- each of some things is so
abbrev pub Each : {X : Type 0} → (X → Type 0) → List X → Type 0
Each Is [] = Unit {0}
Each Is (x ∷ xs) = Is x × Each Is xs

-- all of these names are among those of some keys
abbrev pub HaveNames : Setting → List NigoriKey → List (List ℕ) → Type 0
HaveNames setting keys names = IsTrue (has_names (names_of setting keys) names)

-- the names of the keys that a value carries
abbrev pub names_in : Setting → Value → List (List ℕ)
names_in setting value = names_of setting (keys_in value)

-- what names the one entity that has a profile's keys
abbrev pub profile_key : Setting → Key
profile_key setting = record { kind = Nigori; hash = nigori_hash setting }

-- the value of a write of the profile's keys; none of another one
abbrev pub profile_value : Entry Content → Value
profile_value write = if same_kind write.key.kind Nigori then write.content.value else Absent

-- the value of the write of a version, if it is one of the profile's keys; else none
abbrev pub profile_at : List (Entry Content) → ℕ → Value
profile_at [] version = Absent
profile_at (write ∷ older) version = if version == length older + 1 then profile_value write else profile_at older version

-- a write of the profile's keys is of the one entity that has them
abbrev pub IsOfProfile : Setting → Entry Content → Type 0
IsOfProfile setting write = IsTrue (same_kind write.key.kind Nigori) → write.key.hash ≡ nigori_hash setting

-- the newest write of the profile's keys is their entity's last one, and has the keys of each older one and each lock
pub record HistoryHasKeys (setting : Setting) (history : List (Entry Content)) : Type 0 where
  pub entities : Each (IsOfProfile setting) history
  pub newest : newest_keys history ≡ keys_in (profile_at history (last_version history (profile_key setting)))
  pub locks : AreLocksKept setting history
  pub grows : (version : ℕ) → HaveNames setting (newest_keys history) (names_in setting (profile_at history version))
  pub own_locks : (version : ℕ) → HaveNames setting (keys_in (profile_at history version)) (lock_names (own_lock (profile_at history version)))

-- an entry of the profile's keys has the key that seals it, and all keys of the write that it is based on
pub record CarriesKeys (setting : Setting) (history : List (Entry Content)) (entry : Entry Content) : Type 0 where
  pub hash : entry.key.hash ≡ nigori_hash setting
  pub lock : entry.content.lock ≡ own_lock entry.content.value
  pub has_lock : HaveNames setting (keys_in entry.content.value) (lock_names (own_lock entry.content.value))
  pub known : entry.version ≤ length history
  pub has_base : HaveNames setting (keys_in entry.content.value) (names_in setting (profile_at history entry.version))

-- an entry carries the keys that it has to, or is sealed by one that the newest write of the profile's keys has
pub record KeepsKeys (setting : Setting) (history : List (Entry Content)) (entry : Entry Content) : Type 0 where
  pub of_profile : IsTrue (same_kind entry.key.kind Nigori) → CarriesKeys setting history entry
  pub of_others : same_kind entry.key.kind Nigori ≡ false → HaveNames setting (newest_keys history) (lock_names entry.content.lock)

-- a value is that of the write of a version, or none is known
pub record IsKnown (history : List (Entry Content)) (version : ℕ) (value : Value) : Type 0 where
  pub within : version ≤ length history
  pub is : value ≡ profile_at history version

-- this is told of the profile's keys: the value of a write of the one entity that has them
pub record IsTold (setting : Setting) (history : List (Entry Content)) (hash : List ℕ) (version : ℕ) (value : Value) : Type 0 where
  pub entity : hash ≡ nigori_hash setting
  pub known : IsKnown history version value

-- a write of the profile's keys that is given is in the history
abbrev pub IsGiven : Setting → List (Entry Content) → Entry Content → Type 0
IsGiven setting history write =
    IsTrue (same_kind write.key.kind Nigori) → IsTold setting history write.key.hash write.version write.content.value

-- an update of the profile's keys is in the history
abbrev pub UpdateTells : Setting → List (Entry Content) → Update → Type 0
UpdateTells setting history update = IsTold setting history update.hash update.version update.value

-- an acknowledged value of the profile's keys is in the history
abbrev pub AckTells : Setting → List (Entry Content) → Ack → Type 0
AckTells setting history ack = IsTold setting history ack.hash ack.version ack.value

-- what a task says of the profile's keys is in the history
abbrev pub TaskTells : Setting → List (Entry Content) → Task → Type 0
TaskTells setting history (Updating batch) = Each (UpdateTells setting history) batch.updates
TaskTells setting history (Acks acks) = Each (AckTells setting history) acks

-- what a letter says of the profile's keys is in the history
abbrev pub LetterTells : Setting → List (Entry Content) → Option Task → Type 0
LetterTells setting history None = Unit {0}
LetterTells setting history (Some task) = TaskTells setting history task

-- what a batch that waits says of the profile's keys is in the history
abbrev pub PendingTells : Setting → List (Entry Content) → Option Batch → Type 0
PendingTells setting history None = Unit {0}
PendingTells setting history (Some batch) = Each (UpdateTells setting history) batch.updates

-- the names of the keys that entries of the profile's keys carry
abbrev pub names_sent : Setting → List (Entry Content) → List (List ℕ)
names_sent setting [] = []
names_sent setting (entry ∷ entries) = names_in setting (profile_value entry) ++ names_sent setting entries

-- the names of the keys in the request that a client waits for
abbrev pub names_awaited : Setting → List EventOutcome → Option ℕ → List (List ℕ)
names_awaited setting outcomes None = []
names_awaited setting outcomes (Some event) = names_sent setting (entries_sent (outcome_at outcomes event))

-- the names of the keys in some acknowledged values
abbrev pub names_acked : Setting → List Ack → List (List ℕ)
names_acked setting [] = []
names_acked setting (ack ∷ acks) = names_in setting ack.value ++ names_acked setting acks

-- the names of the keys in the acknowledged values of a task
abbrev pub names_in_task : Setting → Task → List (List ℕ)
names_in_task setting (Updating batch) = []
names_in_task setting (Acks acks) = names_acked setting acks

-- the names of the keys in the acknowledged values of a letter
abbrev pub names_in_letter : Setting → Option Task → List (List ℕ)
names_in_letter setting None = []
names_in_letter setting (Some task) = names_in_task setting task

-- the names of the keys in the acknowledged values of a mailbox
abbrev pub names_in_tasks : Setting → List Task → List (List ℕ)
names_in_tasks setting [] = []
names_in_tasks setting (task ∷ tasks) = names_in_task setting task ++ names_in_tasks setting tasks

-- the names of the keys that a client sends, from when they are held until their acknowledgement is applied
abbrev pub under_way : Setting → List EventOutcome → Side → List (Entry Content) → Option ℕ → List (List ℕ)
under_way setting outcomes side held outstanding =
    names_sent setting held ++ (names_awaited setting outcomes outstanding ++ (names_in_letter setting side.letter ++ names_in_tasks setting side.mailbox))

-- the names of the keys in some updates
abbrev pub names_updated : Setting → List Update → List (List ℕ)
names_updated setting [] = []
names_updated setting (update ∷ updates) = names_in setting update.value ++ names_updated setting updates

-- a bag has the keys in the updates of a task
abbrev pub IsOpened : Setting → List NigoriKey → Task → Type 0
IsOpened setting bag (Updating batch) = HaveNames setting bag (names_updated setting batch.updates)
IsOpened setting bag (Acks acks) = Unit {0}

-- an own value of the profile's keys that waits has its own lock among its keys, and all that are known or under way
pub record WaitsWithKeys (setting : Setting) (bag : List NigoriKey) (way : List (List ℕ)) (base own : Value) : Type 0 where
  pub has_lock : HaveNames setting (keys_in own) (lock_names (own_lock own))
  pub has_base : HaveNames setting (keys_in own) (names_in setting base)
  pub has_way : HaveNames setting (keys_in own) way
  pub had : HaveNames setting bag (names_in setting own)

-- some keys have those of each value that was offered
abbrev pub HaveOffered : Setting → List NigoriKey → List Offered → Type 0
HaveOffered setting keys offered = Each (λ (pair : Offered). HaveNames setting keys (names_in setting pair.value)) offered

-- what a client knows of the profile's keys is in the history, and its bag has these keys and those of what it offered; so
-- has an own value that waits
pub record StateHasKeys (setting : Setting) (history : List (Entry Content)) (bag : List NigoriKey) (way : List (List ℕ)) (state : KeyState) : Type 0 where
  pub known : IsKnown history state.known state.base
  pub had : HaveNames setting bag (names_in setting state.base)
  pub waits : IsTrue (is_some state.due) → WaitsWithKeys setting bag way state.base state.own
  pub offered : HaveOffered setting bag state.offered
  pub waits_offered : IsTrue (is_some state.due) → HaveOffered setting (keys_in state.own) state.offered

-- the profile's keys are the one entity of their type
abbrev pub IsOneEntity : Setting → States → Type 0
IsOneEntity setting [] = Unit {0}
IsOneEntity setting (entry ∷ []) = entry.0 ≡ nigori_hash setting
IsOneEntity setting (first ∷ second ∷ rest) = ⊥

-- a request that a client waits for was made
abbrev pub IsRequested : List EventOutcome → Option ℕ → Type 0
IsRequested outcomes None = Unit {0}
IsRequested outcomes (Some event) = event ≤ length outcomes

-- a client has the keys that it knows and sends, and whatever it holds, waits for and was told of them is so
pub record ClientHasKeys (setting : Setting) (history : List (Entry Content)) (outcomes : List EventOutcome) (side : Side)
    (bag : List NigoriKey) (held : List (Entry Content)) (outstanding : Option ℕ) : Type 0 where
  pub entity : IsOneEntity setting side.states
  pub state : StateHasKeys setting history bag (under_way setting outcomes side held outstanding) (state_at side.states (nigori_hash setting))
  pub way : HaveNames setting bag (under_way setting outcomes side held outstanding)
  pub holds : Each (KeepsKeys setting history) held
  pub requested : IsRequested outcomes outstanding
  pub mailbox : Each (TaskTells setting history) side.mailbox
  pub opened : Each (IsOpened setting bag) side.mailbox
  pub letter : LetterTells setting history side.letter
  pub pending : PendingTells setting history side.pending

-- the same of a client of a world
abbrev pub HasKeys : Setting → List (Entry Content) → List EventOutcome → Client → Type 0
HasKeys setting history outcomes client =
    ClientHasKeys setting history outcomes client.nigori client.bag client.held client.outstanding

-- a world keeps the profile's keys: its history does, and so do all requests, replies and clients
pub record WorldHasKeys (setting : Setting) (world : World) : Type 0 where
  pub history : HistoryHasKeys setting world.history
  pub requests : (event : ℕ) → Each (KeepsKeys setting world.history) (entries_sent (outcome_at world.outcomes event))
  pub gives : (event : ℕ) → Each (IsGiven setting world.history) (writes_given (outcome_at world.outcomes event))
  pub clients : (place : ℕ) → HasKeys setting world.history world.outcomes (slice_index_or world.clients place new_client)
