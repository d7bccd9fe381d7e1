-- A side: what a client has of one type.
use Rattle.std.specs.Prelude.{ℕ, ◌+◌, ◌-◌, ◌^◌, Bool, ◌||◌, ◌&&◌, ◌==◌, nat_le, max, not, if◌then◌else◌, List, [], ◌∷◌, ◌++◌, length, count_by, Option, Some, None, is_some, unwrap_or}
use Rattle.std.specs.Ordering.{nat_cmp}
use Rattle.std.specs.Cmp.Lexicographic.{slice_cmp}
use Rattle.std.specs.BTreeMap.{is_at, insert_entry}
use Rattle.std.specs.Map.{lookup}
use Rattle.sync_values.specs.declared.value.Value.{Value}
use Rattle.sync_model.specs.declared.conflict.Decision.{Decision}
use Rattle.sync_model.specs.declared.fate.Fate.{Fate}
use Rattle.sync_model.specs.declared.fate.Fate.TheVariants.{Committed}
use Rattle.sync_model.specs.declared.fate.Note.{Note}
use Rattle.sync_model.specs.declared.message.Ack.{Ack}
use Rattle.sync_model.specs.declared.message.Batch.{Batch}
use Rattle.sync_model.specs.declared.message.Offer.{Offer}
use Rattle.sync_model.specs.declared.message.Task.{Task}
use Rattle.sync_model.specs.declared.message.Task.TheVariants.{Batch as Updating, Acks}
use Rattle.sync_model.specs.declared.message.Update.{Update}
use Rattle.sync_model.specs.declared.state.KeyState.{KeyState}
use Rattle.sync_model.specs.KeyStates.{new_state, edited, noted, is_old, updated, fate_of_update, is_ignored, acknowledged, ended}

-- key states by ascending hash
abbrev pub States : Type 0
States = List (List ℕ × KeyState)

-- the state of a key; one that is not there is new
abbrev pub state_at : States → List ℕ → KeyState
state_at states hash = unwrap_or (lookup (is_at (slice_cmp nat_cmp hash)) states) new_state

-- the key has a state
abbrev pub has_state : States → List ℕ → Bool
has_state states hash = is_some (lookup (is_at (slice_cmp nat_cmp hash)) states)

-- the states with another one at a key
abbrev pub with_state : States → List ℕ → KeyState → States
with_state states hash state = insert_entry (slice_cmp nat_cmp) states hash state

-- What is kept: the version up to which the side has all writes, its key states, and the number of the last
-- edit. What a crash forgets: the version up to which it has seen all writes, the tasks that wait for a turn,
-- the batch that waits for a key, and what the last reply says of the type and is not yet posted.
pub record Side : Type 0 where
  pub mark : ℕ
  pub states : States
  pub last_edit : ℕ
  pub seen : ℕ
  pub mailbox : List Task
  pub pending : Option Batch
  pub letter : Option Task

-- a side that nothing has happened to
abbrev pub new_side : Side
new_side = record { mark = 0; states = []; last_edit = 0; seen = 0; mailbox = []; pending = None; letter = None }

-- what a crash leaves of a side
abbrev pub restarted_side : Side → Side
restarted_side side = record {
  mark = side.mark;
  states = side.states;
  last_edit = side.last_edit;
  seen = side.mark;
  mailbox = [];
  pending = None;
  letter = None;
}

-- how many keys a side has room for
abbrev pub MAX_STATES : ℕ
MAX_STATES = 100000

-- the number of the last edit that there is
abbrev pub LAST_EDIT : ℕ
LAST_EDIT = 2 ^ 64 - 1

-- a side has no room for an edit of this key
abbrev pub is_full : Side → List ℕ → Bool
is_full side hash = (nat_le MAX_STATES (length side.states) && not (has_state side.states hash)) || nat_le LAST_EDIT side.last_edit

-- the states once a value of a key was offered
abbrev pub after_offer : States → Offer → States
after_offer states offer = with_state states offer.hash (noted (state_at states offer.hash) offer.number offer.value)

-- the states once some values were offered, one after another
unfoldable pub after_offers : States → List Offer → States
after_offers states [] = states
after_offers states (offer ∷ offers) = after_offers (after_offer states offer) offers

-- a side once some of its values were offered
abbrev pub side_offered : Side → List Offer → Side
side_offered side offers = record side { states = after_offers side.states offers }

-- the side after an edit of a key
abbrev pub side_edited : Side → List ℕ → Value → Side
side_edited side hash value = record side {
  states = with_state side.states hash (edited (state_at side.states hash) value (side.last_edit + 1));
  last_edit = side.last_edit + 1;
}

-- the states after an update; one that changes nothing leaves no state behind
unfoldable pub after_update : (Value → Value → Decision) → States → Update → States
after_update decided states update =
    if is_old (state_at states update.hash) update then states
    else with_state states update.hash (updated decided (state_at states update.hash) update)

-- the states after some updates, one after another
unfoldable pub after_updates : (Value → Value → Decision) → States → List Update → States
after_updates decided states [] = states
after_updates decided states (update ∷ updates) = after_updates decided (after_update decided states update) updates

-- the states after an acknowledgement; one that changes nothing leaves no state behind
unfoldable pub after_ack : States → Ack → States
after_ack states ack =
    if is_ignored (state_at states ack.hash) ack then states
    else with_state states ack.hash (acknowledged (state_at states ack.hash) ack)

-- the states after some acknowledgements, one after another
unfoldable pub after_acks : States → List Ack → States
after_acks states [] = states
after_acks states (ack ∷ acks) = after_acks (after_ack states ack) acks

-- the note of an edit, if there is one, and of its fate, if it has one
abbrev pub note_with : Option ℕ → Option Fate → List Note
note_with (Some number) (Some fate) = record { number = number; fate = fate } ∷ []
note_with _ _ = []

-- what some updates settle, in their order
unfoldable pub update_notes : (Value → Value → Decision) → States → List Update → List Note
update_notes decided states [] = []
update_notes decided states (update ∷ updates) =
    note_with (state_at states update.hash).due (fate_of_update decided (state_at states update.hash) update)
    ++ update_notes decided (after_update decided states update) updates

-- the edit that an acknowledgement ends, if any, with the version that it has
abbrev pub note_of : Option ℕ → ℕ → List Note
note_of None version = []
note_of (Some number) version = record { number = number; fate = Committed version } ∷ []

-- what some acknowledgements settle, in their order
unfoldable pub notes_of : States → List Ack → List Note
notes_of states [] = []
notes_of states (ack ∷ acks) =
    note_of (ended (state_at states ack.hash) ack) ack.version ++ notes_of (after_ack states ack) acks

-- a side after a task; a batch raises the mark
unfoldable pub after_task : (Value → Value → Decision) → Side → Task → Side
after_task decided side (Updating batch) =
    record side { states = after_updates decided side.states batch.updates; mark = max side.mark batch.mark }
after_task decided side (Acks acks) = record side { states = after_acks side.states acks }

-- what a task settles
unfoldable pub task_notes : (Value → Value → Decision) → States → Task → List Note
task_notes decided states (Updating batch) = update_notes decided states batch.updates
task_notes decided states (Acks acks) = notes_of states acks

-- a batch goes to the mailbox, and is seen; none waits for a key then
abbrev pub mailed : Side → Batch → Side
mailed side batch = record side { mailbox = side.mailbox ++ Updating batch ∷ []; seen = max side.seen batch.mark; pending = None }

-- how many keys have something to send
abbrev pub due_count : States → ℕ
due_count states = count_by (λ entry. is_some entry.1.due) states

-- how many updates wait for a key
abbrev pub pending_count : Option Batch → ℕ
pending_count None = 0
pending_count (Some batch) = length batch.updates

-- the side has all that the server has, and nothing waits
abbrev pub is_caught_up : ℕ → Side → Bool
is_caught_up version side =
    side.mark == version && length side.mailbox == 0 && not (is_some side.pending) && due_count side.states == 0
