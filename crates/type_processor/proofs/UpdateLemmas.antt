-- An update sets the state of its key, or is old.
use Rattle.std.proofs.Common.{◌≡◌, ℕ, ◌≤◌, ◌<◌, arith, true, false, List, [], Option, Some, None, refl, ap, subst}
use Rattle.std.specs.Prelude.{nat_le}
use Rattle.std.proofs.lemmas.Bool.Decides.{nat_tests}
use Rattle.entity_tracker.specs.Tracked.{Tracked}
use Rattle.sync_values.specs.declared.value.Value.{Value}
use Rattle.sync_model.specs.declared.conflict.Decision.{Decision}
use Rattle.sync_model.specs.declared.fate.Fate.{Fate}
use Rattle.sync_model.specs.declared.fate.Note.{Note}
use Rattle.sync_model.specs.declared.message.Update.{Update}
use Rattle.sync_model.specs.declared.state.KeyState.{KeyState}
use Rattle.sync_model.specs.KeyStates.{updated, fate_of_update}
use Rattle.sync_model.specs.Sides.{States, with_state, state_at, after_update, note_with}
use Rattle.type_processor.specs.Keyed.{key_of}
use Rattle.type_processor.proofs.ChangedKeys.{state_there, state_put}

is_within : (version known : ℕ) → version ≤ known → nat_le version known ≡ true
is_within version known within = grind (arith, nat_tests)

is_above : (version known : ℕ) → known < version → nat_le version known ≡ false
is_above version known above = grind (arith, nat_tests)

known_there : (states : States) (hash key : List ℕ) (tracker : Tracked) → key_of tracker ≡ (hash, state_at states hash) → hash ≡ key
    → tracker.state.known ≡ (state_at states key).known
known_there states hash key tracker is same = ap (λ (state : KeyState). state.known) (state_there states hash key tracker is same)

-- an old update changes nothing
pub old_update : (decided : Value → Value → Decision) (states : States) (hash : List ℕ) (tracker : Tracked) (update : Update)
    → key_of tracker ≡ (hash, state_at states hash) → hash ≡ update.hash → update.version ≤ tracker.state.known
    → states ≡ after_update decided states update
unfolding after_update
old_update decided states hash tracker update is same old =
    rw (is_within update.version (state_at states update.hash).known (subst (λ (known : ℕ). update.version ≤ known) (known_there states hash update.hash tracker is same) old)) refl

abbrev no_fate : Option Fate
no_fate = None

abbrev pub no_notes : List Note
no_notes = []

without_fate : (due : Option ℕ) → no_notes ≡ note_with due no_fate
without_fate None = refl
without_fate (Some number) = refl

-- and settles nothing
pub old_update_note : (decided : Value → Value → Decision) (states : States) (hash : List ℕ) (tracker : Tracked) (update : Update)
    → key_of tracker ≡ (hash, state_at states hash) → hash ≡ update.hash → update.version ≤ tracker.state.known
    → no_notes ≡ note_with (state_at states update.hash).due (fate_of_update decided (state_at states update.hash) update)
unfolding fate_of_update
old_update_note decided states hash tracker update is same old =
    rw (is_within update.version (state_at states update.hash).known (subst (λ (known : ℕ). update.version ≤ known) (known_there states hash update.hash tracker is same) old))
    (without_fate (state_at states update.hash).due)

-- the states after an update that is not old
pub new_update : (decided : Value → Value → Decision) (old new : States) (hash : List ℕ) (tracker put : Tracked) (update : Update)
    → key_of tracker ≡ (hash, state_at old hash) → hash ≡ update.hash → tracker.state.known < update.version
    → key_of put ≡ (tracker.hash, updated decided tracker.state update) → new ≡ with_state old put.hash put.state
    → new ≡ after_update decided old update
unfolding after_update
new_update decided old new hash tracker put update is same newer put_is new_is =
    let above : nat_le update.version (state_at old update.hash).known ≡ false =
    is_above update.version (state_at old update.hash).known (subst (λ (known : ℕ). known < update.version) (known_there old hash update.hash tracker is same) newer) in
    rw above (state_put old new hash update.hash tracker put (λ (state : KeyState). updated decided state update) is same put_is new_is)
