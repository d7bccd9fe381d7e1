-- What holds of every run, whatever is delivered and lost, and however often.
use Rattle.std.specs.Prelude.{◌≡◌, ℕ, ◌+◌, ◌<◌, ◌≤◌, true, false, if◌then◌else◌, IsTrue, List, [], ◌∷◌, ◌++◌, length, Option, Some, None}
use Rattle.std.specs.List.{slice_get, Contains, AllByRecursion}
use Rattle.std.specs.List.Sorted.{IsStrictlyIncreasing}
use Rattle.client_tags.specs.declared.Kind.{Kind}
use Rattle.client_tags.specs.declared.Kind.TheVariants.{Nigori}
use Rattle.key_derivation.specs.declared.NigoriKey.{NigoriKey}
use Rattle.sync_values.specs.declared.edit.Edit.{Edit}
use Rattle.sync_values.specs.declared.edit.Edit.TheVariants.{SetNigori}
use Rattle.sync_values.specs.declared.value.Value.{Value}
use Rattle.sync_values.specs.declared.value.Value.TheVariants.{Absent}
use Rattle.sync_model.specs.declared.conflict.Choice.{Choice}
use Rattle.sync_model.specs.declared.conflict.Choice.TheVariants.{Remote, Merged as MergedInto}
use Rattle.sync_model.specs.declared.conflict.Row.{Row}
use Rattle.sync_model.specs.declared.event.Event.{Event}
use Rattle.sync_model.specs.declared.event.Event.TheVariants.{Edit as EditEvent, Cut, Turn, SetPass}
use Rattle.sync_model.specs.declared.event.EventOutcome.{EventOutcome}
use Rattle.sync_model.specs.declared.event.EventOutcome.TheVariants.{Edited, Requested, Delivered}
use Rattle.sync_model.specs.declared.event.Schedule.{Schedule}
use Rattle.sync_model.specs.declared.fate.Fate.{Fate}
use Rattle.sync_model.specs.declared.fate.Fate.TheVariants.{Followed, Committed, Matched, Taken, Merged}
use Rattle.sync_model.specs.declared.message.Answer.{Answer}
use Rattle.sync_model.specs.declared.message.Batch.{Batch}
use Rattle.sync_model.specs.declared.message.Answer.TheVariants.{Success}
use Rattle.sync_model.specs.declared.message.Content.{Content}
use Rattle.sync_model.specs.declared.message.Entry.{Entry}
use Rattle.sync_model.specs.declared.message.Key.{Key}
use Rattle.sync_model.specs.declared.message.Marker.{Marker}
use Rattle.sync_model.specs.declared.message.Request.{Request}
use Rattle.sync_model.specs.declared.message.Verdict.{Verdict}
use Rattle.sync_model.specs.declared.message.Verdict.TheVariants.{Committed as CommitAnswers}
use Rattle.sync_model.specs.declared.state.KeyState.{KeyState}
use Rattle.sync_model.specs.Values.{same_kind, keys_in, has_names}
use Rattle.sync_model.specs.Edits.{edit_kind, edit_value}
use Rattle.sync_model.specs.Settings.{Setting, IsSetting, decided_by, nigori_hash, names_of}
use Rattle.sync_model.specs.History.{last_version, last_write, write_at, IsBased}
use Rattle.sync_model.specs.Conflicts.{row_of, choice_of}
use Rattle.sync_model.specs.KeyStates.{is_echo}
use Rattle.sync_model.specs.Servers.{as_given, wanted_writes, updates_of}
use Rattle.sync_model.specs.Sides.{Side, state_at, is_caught_up}
use Rattle.sync_model.specs.Clients.{Client, side_of, opens}
use Rattle.sync_model.specs.Receiving.{updates_in, batch_of}
use Rattle.sync_model.specs.Changes.{edit_hash, pass_value}
use Rattle.sync_model.specs.Worlds.{World, opening, client_at, pass_at, outcome_at, stepped, run, world_of}
use Rattle.sync_model.specs.Fates.{fate_of, edits_made}
use Rattle.sync_model.specs.Outcomes.{entries_in, writes_given}
use Rattle.sync_model.specs.Report.{is_void}

-- an event keeps each write based on the last write of its key before it
abbrev pub EveryEventKeepsBased : Type 0
EveryEventKeepsBased = (setting : Setting) (event : Event) (world : World) → IsBased world.history → IsBased (stepped setting event world).history

-- each write is based on the last write of its key before it
abbrev pub WritesAreBased : Setting → Schedule → Type 0
WritesAreBased setting schedule = IsBased (world_of setting schedule).history

-- whatever is delivered, and however often, each write is based on the last write of its key before it
abbrev pub EveryWriteIsBased : Type 0
EveryWriteIsBased = (setting : Setting) (schedule : Schedule) → WritesAreBased setting schedule

-- the answer to the entry at a place of a commit, if there is one
abbrev pub answer_in : {C : Type 0} → Verdict C → ℕ → Option Answer
answer_in (CommitAnswers answers) place = slice_get answers place
answer_in _ place = None

-- a delivery of the request of an event stored the entry at a place as the write of this version
abbrev pub Stores : EventOutcome → ℕ → ℕ → ℕ → Type 0
Stores (Delivered event reply) request place version = (event ≡ request) × (answer_in reply.verdict place ≡ Some (Success version))
Stores _ request place version = ⊥

-- the entry at a place of the request of an event is the author of the write of this version
abbrev pub IsAuthor : World → ℕ → ℕ → ℕ → Type 0
IsAuthor world request place version = (delivery : ℕ) × Stores (outcome_at world.outcomes delivery) request place version

-- each entry of each request is the author of at most one write
abbrev pub EntriesWriteOnce : Setting → Schedule → Type 0
EntriesWriteOnce setting schedule = (request place first second : ℕ)
    → IsAuthor (world_of setting schedule) request place first → IsAuthor (world_of setting schedule) request place second → first ≡ second

-- each entry of each request of every run is the author of at most one write
abbrev pub EveryEntryWritesOnce : Type 0
EveryEntryWritesOnce = (setting : Setting) (schedule : Schedule) → EntriesWriteOnce setting schedule

-- the entry at a place of the request of an event is a write: its key, its version and its content are that write's
pub record IsEntryOf (world : World) (request place : ℕ) (write : Entry Content) : Type 0 where
  pub client : ℕ
  pub made : Request Content
  pub is_made : outcome_at world.outcomes request ≡ Requested client made
  pub is_entry : slice_get (entries_in made.call) place ≡ Some write

-- the write of a version has one author: an entry of a request, which is that write, and no other
pub record HasOneAuthor (world : World) (version : ℕ) : Type 0 where
  pub request : ℕ
  pub place : ℕ
  pub is_author : IsAuthor world request place version
  pub write : Entry Content
  pub is_write : write_at world.history version ≡ Some write
  pub is_entry : IsEntryOf world request place write
  pub alone : (other entry : ℕ) → IsAuthor world other entry version → (other ≡ request) × (entry ≡ place)

-- each write has one author
abbrev pub WritesHaveOneAuthor : Setting → Schedule → Type 0
WritesHaveOneAuthor setting schedule = (version : ℕ) → 0 < version → version ≤ length (world_of setting schedule).history
    → HasOneAuthor (world_of setting schedule) version

-- an author is one of a write that there is
abbrev pub AuthorsWrite : Setting → Schedule → Type 0
AuthorsWrite setting schedule = (request place version : ℕ) → IsAuthor (world_of setting schedule) request place version
    → (0 < version) × (version ≤ length (world_of setting schedule).history)

-- each write of every run has one author, and each author has a write
abbrev pub EveryWriteHasOneAuthor : Type 0
EveryWriteHasOneAuthor = (setting : Setting) (schedule : Schedule) → WritesHaveOneAuthor setting schedule × AuthorsWrite setting schedule

-- the world of a schedule when only these first of its events have come
abbrev pub world_before : Setting → Schedule → List Event → World
world_before setting schedule before = run setting (opening schedule.clients schedule.seed schedule.passes) before

-- the client whose user an event is of, or 0 where it is of none
abbrev pub user_of : Event → ℕ
user_of (EditEvent client edit) = client
user_of (Cut client kept edit) = client
user_of (SetPass client pass) = client
user_of _ = 0

-- the edit that an event makes where it is not void; one that is cut and lost makes none
abbrev pub edit_by : Setting → World → Event → Option Edit
edit_by setting world (EditEvent client edit) = Some edit
edit_by setting world (Cut client true edit) = Some edit
edit_by setting world (SetPass client pass) =
    Some (SetNigori (pass_value setting setting.pass_kind (client_at world.clients client).bag (pass_at world.passes pass)))
edit_by setting world _ = None

-- what came of the last event
abbrev pub last_outcome : World → EventOutcome
last_outcome world = outcome_at world.outcomes (length world.outcomes)

-- the key that an edit changes
abbrev pub edit_key : Setting → Edit → Key
edit_key setting edit = record { kind = edit_kind edit; hash = edit_hash setting edit }

-- what a client of a world has of the key that an edit changes
abbrev pub state_of_edit : Setting → World → ℕ → Edit → KeyState
state_of_edit setting world client edit =
    state_at (side_of (client_at world.clients client) (edit_kind edit)).states (edit_hash setting edit)

-- an edit of this number was made on a client, or kept by a cut, and made this value: an event of the schedule makes it, and is
-- not void
pub record IsMade (setting : Setting) (schedule : Schedule) (client number : ℕ) (edit : Edit) (value : Value) : Type 0 where
  pub before : List Event
  pub event : Event
  pub later : List Event
  pub splits : schedule.events ≡ before ++ event ∷ later
  pub user : user_of event ≡ client
  pub makes : edit_by setting (world_before setting schedule before) event ≡ Some edit
  pub counts : number ≡ (side_of (client_at (world_before setting schedule before).clients client) (edit_kind edit)).last_edit + 1
  pub done : is_void (last_outcome (stepped setting event (world_before setting schedule before))) ≡ false
  pub is_value : value ≡ edit_value (state_of_edit setting (world_before setting schedule before) client edit).own edit

-- an edit of this number was made on a client, and acknowledged to its user
pub record IsAcknowledged (setting : Setting) (schedule : Schedule) (client number : ℕ) (edit : Edit) (value : Value) : Type 0 where
  pub made : IsMade setting schedule client number edit value
  pub tells : last_outcome (stepped setting made.event (world_before setting schedule made.before)) ≡ Edited client (edit_kind edit) number

-- two edits that were made are one: by the same event of the schedule, with the same value
pub record AreOneEdit {setting : Setting} {schedule : Schedule} {client number : ℕ} {first second : Edit} {one other : Value}
    (left : IsMade setting schedule client number first one) (right : IsMade setting schedule client number second other) : Type 0 where
  pub before : left.before ≡ right.before
  pub event : left.event ≡ right.event
  pub later : left.later ≡ right.later
  pub edit : first ≡ second
  pub value : one ≡ other

-- two edits of a client and a type that have one number are one edit
abbrev pub NumbersAreOfOneEdit : Setting → Schedule → Type 0
NumbersAreOfOneEdit setting schedule = (client number : ℕ) (first second : Edit) (one other : Value) → edit_kind first ≡ edit_kind second
    → (left : IsMade setting schedule client number first one) (right : IsMade setting schedule client number second other)
    → AreOneEdit left right

-- two acknowledged edits of a client and a type that have one number are one edit
abbrev pub AcknowledgedNumbersAreOfOneEdit : Setting → Schedule → Type 0
AcknowledgedNumbersAreOfOneEdit setting schedule = (client number : ℕ) (first second : Edit) (one other : Value)
    → edit_kind first ≡ edit_kind second
    → (left : IsAcknowledged setting schedule client number first one) (right : IsAcknowledged setting schedule client number second other)
    → AreOneEdit left.made right.made

-- an edit of a client and a type was acknowledged under this number
pub record IsListed (setting : Setting) (schedule : Schedule) (client : ℕ) (kind : Kind) (number : ℕ) : Type 0 where
  pub edit : Edit
  pub value : Value
  pub of_kind : edit_kind edit ≡ kind
  pub is_acknowledged : IsAcknowledged setting schedule client number edit value

-- the edits of a client and a type that a report lists are exactly those that were acknowledged
abbrev pub ListsAreOfAcknowledged : Setting → Schedule → Type 0
ListsAreOfAcknowledged setting schedule = (client : ℕ) (kind : Kind) (number : ℕ)
    → (Contains (edits_made client kind (world_of setting schedule).outcomes) number → IsListed setting schedule client kind number)
    × (IsListed setting schedule client kind number → Contains (edits_made client kind (world_of setting schedule).outcomes) number)

-- a report lists the edits of a client and a type by ascending numbers
abbrev pub ListsAscend : Setting → Schedule → Type 0
ListsAscend setting schedule = (client : ℕ) (kind : Kind) → IsStrictlyIncreasing (edits_made client kind (world_of setting schedule).outcomes)

-- the numbers of edits: no two edits of a client and a type have one, and a report lists those that were acknowledged, in order
pub record NumbersAreTrue (setting : Setting) (schedule : Schedule) : Type 0 where
  pub made : NumbersAreOfOneEdit setting schedule
  pub acknowledged : AcknowledgedNumbersAreOfOneEdit setting schedule
  pub listed : ListsAreOfAcknowledged setting schedule
  pub ascending : ListsAscend setting schedule

-- the numbers of the edits of every run are true
abbrev pub EveryNumberIsTrue : Type 0
EveryNumberIsTrue = (setting : Setting) (schedule : Schedule) → NumbersAreTrue setting schedule

-- an edit stands: its key is due with its number, and what it made is the own value
pub record Stands (setting : Setting) (world : World) (client number : ℕ) (edit : Edit) (value : Value) : Type 0 where
  pub due : (state_of_edit setting world client edit).due ≡ Some number
  pub own : (state_of_edit setting world client edit).own ≡ value

-- a later edit of the same key was made on the same client
pub record IsFollowed (setting : Setting) (schedule : Schedule) (client number : ℕ) (edit : Edit) (later : ℕ) : Type 0 where
  pub greater : number < later
  pub next : Edit
  pub next_value : Value
  pub made : IsMade setting schedule client later next next_value
  pub kind : edit_kind next ≡ edit_kind edit
  pub hash : edit_hash setting next ≡ edit_hash setting edit

-- the write of a version is of the key of an edit
pub record IsOfKey (setting : Setting) (world : World) (version : ℕ) (edit : Edit) : Type 0 where
  pub write : Entry Content
  pub is_write : write_at world.history version ≡ Some write
  pub key : write.key ≡ edit_key setting edit

-- the write of a version is of the key of an edit, and has what the edit made
pub record IsOfEdit (setting : Setting) (world : World) (version : ℕ) (edit : Edit) (value : Value) : Type 0 where
  pub of_key : IsOfKey setting world version edit
  pub is_value : of_key.write.content.value ≡ value

-- the author of a write is an entry of a request of this client
pub record IsAuthoredBy (world : World) (client version : ℕ) : Type 0 where
  pub event : ℕ
  pub request : Request Content
  pub made : outcome_at world.outcomes event ≡ Requested client request
  pub place : ℕ
  pub author : IsAuthor world event place version

-- a choice takes the server's value
abbrev pub IsTaking : Choice → Type 0
IsTaking choice = choice ≡ Remote

-- a choice merges the two values
abbrev pub IsMerging : Choice → Type 0
IsMerging choice = (value : Value) × (choice ≡ MergedInto value)

-- A turn of the client settles an edit that stood until then, by a write of its key, and this is the row of the
-- conflict table over what the world had before that turn: the values that were offered, the base and the own value of the
-- key, and the write's. This holds of what the row does.
pub record IsSettledByRow (setting : Setting) (schedule : Schedule) (client number : ℕ) (edit : Edit) (version : ℕ) (row : Row)
    (fate : Fate) (Does : Choice → Type 0) : Type 0 where
  pub before : List Event
  pub later : List Event
  pub splits : schedule.events ≡ before ++ Turn client (edit_kind edit) ∷ later
  pub stood : fate_of (world_before setting schedule before).settlements client (edit_kind edit) number ≡ None
  pub settles : fate_of (stepped setting (Turn client (edit_kind edit)) (world_before setting schedule before)).settlements
      client (edit_kind edit) number ≡ Some fate
  pub due : (state_of_edit setting (world_before setting schedule before) client edit).due ≡ Some number
  pub of_key : IsOfKey setting (world_before setting schedule before) version edit
  pub fits : row_of (is_echo (state_of_edit setting (world_before setting schedule before) client edit) of_key.write.content.value)
      (state_of_edit setting (world_before setting schedule before) client edit).base
      (state_of_edit setting (world_before setting schedule before) client edit).own of_key.write.content.value ≡ row
  pub does : Does (choice_of row (decided_by setting (edit_kind edit)
      (state_of_edit setting (world_before setting schedule before) client edit).own of_key.write.content.value))

-- what the fate of an acknowledged edit that made this value says is so
abbrev pub IsTrueFate : Setting → Schedule → ℕ → ℕ → Edit → Value → Option Fate → Type 0
IsTrueFate setting schedule client number edit value None = Stands setting (world_of setting schedule) client number edit value
IsTrueFate setting schedule client number edit value (Some (Followed later)) = IsFollowed setting schedule client number edit later
IsTrueFate setting schedule client number edit value (Some (Committed version)) =
    IsOfEdit setting (world_of setting schedule) version edit value × IsAuthoredBy (world_of setting schedule) client version
IsTrueFate setting schedule client number edit value (Some (Matched version)) =
    IsOfEdit setting (world_of setting schedule) version edit value
IsTrueFate setting schedule client number edit value (Some (Taken version row)) =
    IsSettledByRow setting schedule client number edit version row (Taken version row) IsTaking
IsTrueFate setting schedule client number edit value (Some (Merged version row)) =
    IsSettledByRow setting schedule client number edit version row (Merged version row) IsMerging

-- each acknowledged edit has one fate, and what it says is so
abbrev pub FatesAreTrue : Setting → Schedule → Type 0
FatesAreTrue setting schedule = (client number : ℕ) (edit : Edit) (value : Value)
    → IsAcknowledged setting schedule client number edit value
    → IsTrueFate setting schedule client number edit value
    (fate_of (world_of setting schedule).settlements client (edit_kind edit) number)

-- each acknowledged edit of every run has one fate, and what it says is so
abbrev pub EveryFateIsTrue : Type 0
EveryFateIsTrue = (setting : Setting) → IsSetting setting → (schedule : Schedule) → FatesAreTrue setting schedule

-- the value of a write, or none where there is no write
abbrev pub value_of : Option (Entry Content) → Value
value_of None = Absent
value_of (Some write) = write.content.value

-- a side that has all that the server has: the own value of each of its keys is that of the key's last write
abbrev pub Agrees : List (Entry Content) → Kind → Side → Type 0
Agrees history kind side = (hash : List ℕ) → (state_at side.states hash).own ≡ value_of (last_write history record { kind = kind; hash = hash })

-- each side that is caught up agrees with the server
abbrev pub CaughtUpSidesAgree : Setting → Schedule → Type 0
CaughtUpSidesAgree setting schedule = (client : ℕ) (kind : Kind)
    → IsTrue (is_caught_up (length (world_of setting schedule).history) (side_of (client_at (world_of setting schedule).clients client) kind))
    → Agrees (world_of setting schedule).history kind (side_of (client_at (world_of setting schedule).clients client) kind)

-- each side of every run that is caught up agrees with the server
abbrev pub EveryCaughtUpSideAgrees : Type 0
EveryCaughtUpSideAgrees = (setting : Setting) → IsSetting setting → (schedule : Schedule) → CaughtUpSidesAgree setting schedule

-- the name of the key that seals a write, if one does
abbrev pub lock_names : Option (List ℕ) → List (List ℕ)
lock_names None = []
lock_names (Some name) = name ∷ []

-- the names of the keys that seal the writes of a history
abbrev pub locks_of : List (Entry Content) → List (List ℕ)
locks_of [] = []
locks_of (write ∷ older) = lock_names write.content.lock ++ locks_of older

-- the keys in the newest write of a profile's keys, if there is one
abbrev pub newest_keys : List (Entry Content) → List NigoriKey
newest_keys [] = []
newest_keys (write ∷ older) = if same_kind write.key.kind Nigori then keys_in write.content.value else newest_keys older

-- at each time of a history, each key that seals a write is in the newest write of the profile's keys
abbrev pub AreLocksKept : Setting → List (Entry Content) → Type 0
AreLocksKept setting [] = Unit {0}
AreLocksKept setting (write ∷ older) =
    IsTrue (has_names (names_of setting (newest_keys (write ∷ older))) (locks_of (write ∷ older))) × AreLocksKept setting older

-- no key that seals a write is lost from the profile's keys
abbrev pub LocksAreKept : Setting → Schedule → Type 0
LocksAreKept setting schedule = AreLocksKept setting (world_of setting schedule).history

-- no key that seals a write is ever lost from the profile's keys
abbrev pub NoLockIsLost : Type 0
NoLockIsLost = (setting : Setting) → IsSetting setting → (schedule : Schedule) → LocksAreKept setting schedule

-- a client knows the newest write of the profile's keys
abbrev pub KnowsNewestKeys : Setting → List (Entry Content) → Client → Type 0
KnowsNewestKeys setting history client =
    (state_at client.nigori.states (nigori_hash setting)).known ≡ last_version history record { kind = Nigori; hash = nigori_hash setting }

-- a client that knows the newest write of the profile's keys has each key that seals a write
abbrev pub CurrentClientsHaveTheKeys : Setting → Schedule → Type 0
CurrentClientsHaveTheKeys setting schedule = (client : ℕ)
    → KnowsNewestKeys setting (world_of setting schedule).history (client_at (world_of setting schedule).clients client)
    → IsTrue (has_names (names_of setting (client_at (world_of setting schedule).clients client).bag) (locks_of (world_of setting schedule).history))

-- the same in every run
abbrev pub EveryCurrentClientHasTheKeys : Type 0
EveryCurrentClientHasTheKeys = (setting : Setting) → IsSetting setting → (schedule : Schedule) → CurrentClientsHaveTheKeys setting schedule

-- an entry is a write of a history, given with the version of that write
pub record IsGivenWrite (history : List (Entry Content)) (entry : Entry Content) : Type 0 where
  pub write : Entry Content
  pub is_write : write_at history entry.version ≡ Some write
  pub is_given : entry ≡ as_given entry.version write

-- a batch of a type, of some entries
abbrev pub batch_with : Kind → List (Entry Content) → ℕ → Batch
batch_with kind entries mark = record { updates = updates_in kind entries; mark = mark }

-- a client that knows the newest write of the profile's keys opens every batch of writes, however old
abbrev pub CurrentClientsOpenWrites : Setting → Schedule → Type 0
CurrentClientsOpenWrites setting schedule = (client : ℕ)
    → KnowsNewestKeys setting (world_of setting schedule).history (client_at (world_of setting schedule).clients client)
    → (kind : Kind) (entries : List (Entry Content)) (mark : ℕ)
    → AllByRecursion (IsGivenWrite (world_of setting schedule).history) entries
    → IsTrue (opens setting (client_at (world_of setting schedule).clients client).bag (batch_with kind entries mark))

-- each entry of each reply is a write of the history
abbrev pub RepliesGiveWrites : Setting → Schedule → Type 0
RepliesGiveWrites setting schedule = (delivery : ℕ)
    → AllByRecursion (IsGivenWrite (world_of setting schedule).history) (writes_given (outcome_at (world_of setting schedule).outcomes delivery))

-- the batch of a type that a delivery gives to one who asks with these marks
abbrev pub batch_given : List (Entry Content) → Kind → ℕ → List Marker → Batch
batch_given history kind asked marks = batch_of kind asked (updates_of history marks (wanted_writes marks history history))

-- a client that knows the newest write of the profile's keys opens every batch that a delivery may give it
abbrev pub CurrentClientsOpen : Setting → Schedule → Type 0
CurrentClientsOpen setting schedule = (client : ℕ)
    → KnowsNewestKeys setting (world_of setting schedule).history (client_at (world_of setting schedule).clients client)
    → (kind : Kind) (asked : ℕ) (marks : List Marker)
    → IsTrue (opens setting (client_at (world_of setting schedule).clients client).bag
    (batch_given (world_of setting schedule).history kind asked marks))

-- the same in every run, of every batch of writes
abbrev pub EveryCurrentClientOpensWrites : Type 0
EveryCurrentClientOpensWrites = (setting : Setting) → IsSetting setting → (schedule : Schedule) → CurrentClientsOpenWrites setting schedule

-- each entry of each reply of every run is a write of the history
abbrev pub EveryReplyGivesWrites : Type 0
EveryReplyGivesWrites = (setting : Setting) (schedule : Schedule) → RepliesGiveWrites setting schedule

-- a client of every run that knows the newest write of the profile's keys opens every batch that a delivery may give it
abbrev pub EveryCurrentClientOpens : Type 0
EveryCurrentClientOpens = (setting : Setting) → IsSetting setting → (schedule : Schedule) → CurrentClientsOpen setting schedule
