-- An acknowledgement sets the state of its key, or is ignored.
use Rattle.std.proofs.Common.{◌≡◌, ℕ, Bool, true, false, List, [], refl, ap, ◌∙◌}
use Rattle.entity_tracker.specs.Tracked.{Tracked}
use Rattle.sync_model.specs.declared.fate.Note.{Note}
use Rattle.sync_model.specs.declared.message.Ack.{Ack}
use Rattle.sync_model.specs.declared.state.KeyState.{KeyState}
use Rattle.sync_model.specs.KeyStates.{acknowledged, ended, is_ignored}
use Rattle.sync_model.specs.Sides.{States, state_at, with_state, after_ack, note_of}
use Rattle.type_processor.specs.Keyed.{key_of}
use Rattle.type_processor.proofs.ChangedKeys.{state_there, state_put}

ignored_there : (states : States) (hash : List ℕ) (tracker : Tracked) (ack : Ack) (ignored : Bool) → key_of tracker ≡ (hash, state_at states hash)
    → hash ≡ ack.hash → ignored ≡ is_ignored tracker.state ack → ignored ≡ is_ignored (state_at states ack.hash) ack
ignored_there states hash tracker ack ignored is same told =
    told ∙ ap (λ (state : KeyState). is_ignored state ack) (state_there states hash ack.hash tracker is same)

-- an acknowledgement that is ignored changes nothing
pub ack_ignored : (states : States) (hash : List ℕ) (tracker : Tracked) (ack : Ack) → key_of tracker ≡ (hash, state_at states hash)
    → hash ≡ ack.hash → true ≡ is_ignored tracker.state ack → states ≡ after_ack states ack
unfolding after_ack
ack_ignored states hash tracker ack is same told = rw (← ignored_there states hash tracker ack true is same told) refl

abbrev pub no_notes : List Note
no_notes = []

-- and ends nothing
pub ack_ignored_note : (states : States) (hash : List ℕ) (tracker : Tracked) (ack : Ack) → key_of tracker ≡ (hash, state_at states hash)
    → hash ≡ ack.hash → true ≡ is_ignored tracker.state ack → no_notes ≡ note_of (ended (state_at states ack.hash) ack) ack.version
unfolding ended
ack_ignored_note states hash tracker ack is same told = rw (← ignored_there states hash tracker ack true is same told) refl

-- the states after an acknowledgement that is taken
pub ack_put : (old new : States) (hash : List ℕ) (tracker put : Tracked) (ack : Ack) → key_of tracker ≡ (hash, state_at old hash)
    → hash ≡ ack.hash → false ≡ is_ignored tracker.state ack → key_of put ≡ (tracker.hash, acknowledged tracker.state ack)
    → new ≡ with_state old put.hash put.state → new ≡ after_ack old ack
unfolding after_ack
ack_put old new hash tracker put ack is same told put_is new_is =
    rw (← ignored_there old hash tracker ack false is same told)
    (state_put old new hash ack.hash tracker put (λ (state : KeyState). acknowledged state ack) is same put_is new_is)
