-- What an index from keys to the versions of their last writes has.
use Rattle.std.specs.Prelude.{◌≡◌, ℕ, Bool, true, List, Option, is_some, unwrap_or}
use Rattle.std.specs.Map.{lookup}
use Rattle.sync_specifics.specs.declared.specifics.Specifics.{Specifics}
use Rattle.sync_model.specs.declared.message.Entry.{Entry}
use Rattle.sync_model.specs.declared.message.Key.{Key}
use Rattle.sync_model.specs.History.{last_version}
use Rattle.sync_model.specs.Values.{same_key}
use Rattle.loopback_server.specs.declared.write.EntityKey.{EntityKey}

-- an entity's key in the model's words
abbrev pub key_of : EntityKey → Key
key_of key = record { kind = key.kind; hash = key.hash }

-- two keys are one
abbrev pub is_key : EntityKey → EntityKey → Bool
is_key key other = same_key (key_of key) (key_of other)

-- what an index has at a key
abbrev pub indexed : List (EntityKey × ℕ) → EntityKey → Option ℕ
indexed index key = lookup (is_key key) index

-- the index has a place for a key
abbrev pub HasPlace : List (EntityKey × ℕ) → EntityKey → Type 0
HasPlace index key = is_some (indexed index key) ≡ true

-- the version that an index has at a key, 0 where it has nothing
abbrev pub version_at : List (EntityKey × ℕ) → EntityKey → ℕ
version_at index key = unwrap_or (indexed index key) 0

-- an index has the version of each key's last write, 0 or nothing where it has none
abbrev pub HasVersions : List (EntityKey × ℕ) → List (Entry (Option Specifics)) → Type 0
HasVersions index history = (key : EntityKey) → version_at index key ≡ last_version history (key_of key)
