-- What a client knows of one key, and what an edit, an update and an acknowledgement make of it.
use Rattle.std.specs.Prelude.{ℕ, ◌+◌, ◌-◌, ◌==◌, Bool, false, ◌&&◌, ◌||◌, not, nat_le, nat_lt, if◌then◌else◌, List, [], ◌∷◌, ◌++◌, length, drop, Option, Some, None, is_some}
use Rattle.std.specs.List.{list_any}
use Rattle.std.specs.Str.{bytes_eq}
use Rattle.sync_values.specs.declared.value.Value.{Value}
use Rattle.sync_values.specs.declared.value.Value.TheVariants.{Absent}
use Rattle.sync_model.specs.declared.conflict.Choice.{Choice}
use Rattle.sync_model.specs.declared.conflict.Choice.TheVariants.{Same, Remote, Local, Merged as MergedInto}
use Rattle.sync_model.specs.declared.conflict.Decision.{Decision}
use Rattle.sync_model.specs.declared.conflict.Resolution.{Resolution}
use Rattle.sync_model.specs.declared.fate.Fate.{Fate}
use Rattle.sync_model.specs.declared.fate.Fate.TheVariants.{Matched, Taken, Merged}
use Rattle.sync_model.specs.declared.message.Ack.{Ack}
use Rattle.sync_model.specs.declared.message.Update.{Update}
use Rattle.sync_model.specs.declared.state.KeyState.{KeyState}
use Rattle.sync_model.specs.declared.state.Offered.{Offered}
use Rattle.sync_model.specs.Conflicts.{resolved}
use Rattle.sync_model.specs.Values.{is_absent, same_value}

-- nothing is known of the key
abbrev pub new_state : KeyState
new_state = record { known = 0; base = Absent; own = Absent; due = None; last_edit = 0; lock = None; offered = [] }

-- an edit sets the own value, which is due from then on
abbrev pub edited : KeyState → Value → ℕ → KeyState
edited state value number = record state { own = value; due = Some number; last_edit = number }

-- how many offered values of a key are kept
abbrev pub MAX_OFFERED : ℕ
MAX_OFFERED = 8

-- a value was offered by the edit of this number
abbrev pub is_offered : List Offered → ℕ → Bool
is_offered offered number = list_any (λ (pair : Offered). pair.number == number) offered

-- offered values with that of an edit, if it is not there; where there is no room, the one of the least number goes
abbrev pub with_offered : List Offered → ℕ → Value → List Offered
with_offered offered number value =
    if is_offered offered number then offered
    else drop (length offered + 1 - MAX_OFFERED) (offered ++ record { number = number; value = value } ∷ [])

-- a key's own value was offered, by the edit of this number
unfoldable pub noted : KeyState → ℕ → Value → KeyState
noted state number value = record state { offered = with_offered state.offered number value }

-- a value is one that was offered by an edit before this one
abbrev pub is_earlier_offer : List Offered → ℕ → Value → Bool
is_earlier_offer offered due value = list_any (λ (pair : Offered). nat_lt pair.number due && same_value pair.value value) offered

-- a value is that of an edit which was offered before the one that is due
abbrev pub is_echo_of : List Offered → Option ℕ → Value → Bool
is_echo_of offered None value = false
is_echo_of offered (Some due) value = is_earlier_offer offered due value

-- a write has an earlier own value: the client's own edit comes back to it
unfoldable pub is_echo : KeyState → Value → Bool
is_echo state value = is_echo_of state.offered state.due value

-- an update that is not above what is known changes nothing
abbrev pub is_old : KeyState → Update → Bool
is_old state update = nat_le update.version state.known

-- an update is known, and is the own value; nothing is due then, and nothing was offered over it
abbrev pub accepted : KeyState → Update → KeyState
accepted state update = record {
  known = update.version;
  base = update.value;
  own = update.value;
  due = None;
  last_edit = state.last_edit;
  lock = update.lock;
  offered = [];
}

-- an update is known, and this value is the own one; what is due stays, and nothing was offered over the update
abbrev pub rebased : KeyState → Update → Value → KeyState
rebased state update own = record {
  known = update.version;
  base = update.value;
  own = own;
  due = state.due;
  last_edit = state.last_edit;
  lock = update.lock;
  offered = [];
}

-- an update where an edit is due: what the row that fits makes of it
abbrev pub settled : KeyState → Update → Choice → KeyState
settled state update Same = accepted state update
settled state update Remote = accepted state update
settled state update Local = rebased state update state.own
settled state update (MergedInto value) = rebased state update value

-- which row fits an update, and what it does
abbrev pub resolution_of : (Value → Value → Decision) → KeyState → Update → Resolution
resolution_of decided state update = resolved decided (is_echo state update.value) state.base state.own update.value

-- an update sets what is known; an own value that is due meets it by the conflict table
unfoldable pub updated : (Value → Value → Decision) → KeyState → Update → KeyState
updated decided state update =
    if is_old state update then state
    else (if is_some state.due then settled state update (resolution_of decided state update).choice
    else accepted state update)

-- the fate that a row gives to a due edit where a write of this version comes, if it gives one
abbrev pub fate_by : ℕ → Resolution → Choice → Option Fate
fate_by version resolution Same = Some (Matched version)
fate_by version resolution Remote = Some (Taken version resolution.row)
fate_by version resolution Local = None
fate_by version resolution (MergedInto value) = Some (Merged version resolution.row)

-- the fate that an update gives to the due edit, if there is one and it gives one
unfoldable pub fate_of_update : (Value → Value → Decision) → KeyState → Update → Option Fate
fate_of_update decided state update =
    if is_old state update || not (is_some state.due) then None
    else fate_by update.version (resolution_of decided state update) (resolution_of decided state update).choice

-- an acknowledgement that is old, or of an edit that was not made, changes nothing
abbrev pub is_ignored : KeyState → Ack → Bool
is_ignored state ack = nat_le ack.version state.known || nat_lt state.last_edit ack.number

-- what is due after an acknowledgement: an edit that is not above its number is due no more
abbrev pub still_due : Option ℕ → ℕ → Option ℕ
still_due None number = None
still_due (Some due) number = if nat_le due number then None else Some due

-- an acknowledgement sets what is known, and the own value where nothing is due then
unfoldable pub acknowledged : KeyState → Ack → KeyState
acknowledged state ack =
    if is_ignored state ack then state else record {
      known = ack.version;
      base = ack.value;
      own = if is_some (still_due state.due ack.number) then state.own else ack.value;
      due = still_due state.due ack.number;
      last_edit = state.last_edit;
      lock = ack.lock;
      offered = [];
    }

-- the due edit that an acknowledgement ends, by its number
unfoldable pub ended : KeyState → Ack → Option ℕ
ended state ack =
    if is_ignored state ack then None else (if is_some (still_due state.due ack.number) then None else state.due)

-- what is known is sealed under the key of this name
abbrev pub is_locked_by : Option (List ℕ) → List ℕ → Bool
is_locked_by None name = false
is_locked_by (Some lock) name = bytes_eq lock name

-- a value that is not due is to be sealed anew: the server has it, but not under the key that is wanted
abbrev pub needs_seal : Option (List ℕ) → KeyState → Bool
needs_seal None state = false
needs_seal (Some name) state =
    not (is_some state.due) && nat_lt 0 state.known && not (is_absent state.own) && not (is_locked_by state.lock name)
