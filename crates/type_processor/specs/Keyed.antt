-- The states that trackers hold, by their keys.
use Rattle.std.specs.Prelude.{◌≡◌, ℕ, List, map, Option, Some, None}
use Rattle.std.specs.List.{AllByRecursion}
use Rattle.std.specs.BTreeMap.{is_at}
use Rattle.std.specs.Cmp.Lexicographic.{slice_cmp}
use Rattle.std.specs.Map.{lookup}
use Rattle.std.specs.Ordering.{nat_cmp}
use Rattle.client_tags.specs.declared.hash.TagHash.{TagHash}
use Rattle.entity_tracker.specs.Tracked.{Tracked}
use Rattle.sync_model.specs.declared.state.KeyState.{KeyState}
use Rattle.sync_model.specs.Sides.{States}

-- the state of a key and its tracker
abbrev pub state_of : TagHash × Tracked → List ℕ × KeyState
state_of entry = (entry.0, entry.1.state)

-- the states of some keys and their trackers
abbrev pub states_of : List (TagHash × Tracked) → States
states_of entries = map state_of entries

-- each tracker is that of its key
abbrev pub AreKeyed : List (TagHash × Tracked) → Type 0
AreKeyed entries = AllByRecursion (λ entry. entry.1.hash ≡ entry.0) entries

-- the hashes of some keys
abbrev pub hashes_of : States → List (List ℕ)
hashes_of states = map (λ key. key.0) states

-- a tracker's key and its state
abbrev pub key_of : Tracked → List ℕ × KeyState
key_of tracked = (tracked.hash, tracked.state)

-- what there is of a key, if it has a state
abbrev pub found_at : States → List ℕ → Option KeyState
found_at states hash = lookup (is_at (slice_cmp nat_cmp hash)) states

-- a key and this state, if it has one
abbrev pub key_with : List ℕ → Option KeyState → Option (List ℕ × KeyState)
key_with hash None = None
key_with hash (Some state) = Some (hash, state)

-- a key and its state, if it has one
abbrev pub key_at : States → List ℕ → Option (List ℕ × KeyState)
key_at states hash = key_with hash (found_at states hash)

-- each key is found by its hash: no two have one
abbrev pub HaveOwnHashes : States → Type 0
HaveOwnHashes states = AllByRecursion (λ (key : List ℕ × KeyState). found_at states key.0 ≡ Some key.1) states
