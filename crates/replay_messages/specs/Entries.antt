-- How a server reads the entities of a commit. Its writes are entries that carry specifics; an entry without
-- specifics is one that may not be stored.
use Rattle.std.specs.Prelude.{Bool, true, false, if◌then◌else◌, is_none, [], Option, Some, None}
use Rattle.std.specs.Int.{w64, cast_unsigned}
use Rattle.client_tags.specs.declared.Kind.{Kind}
use Rattle.client_tags.specs.declared.Kind.TheVariants as kinds
use Rattle.client_tags.specs.declared.hash.TagHash.{TagHash}
use Rattle.sync_specifics.specs.declared.specifics.Specifics.{Specifics}
use Rattle.sync_specifics.specs.declared.specifics.Specifics.TheVariants.{EmptyOf, Preference, SealedPreference, Password, Nigori}
use Rattle.sync_messages.specs.declared.message.Entity.{Entity}
use Rattle.sync_model.specs.declared.message.Entry.{Entry}
use Rattle.sync_model.specs.Values.{same_kind}

-- the type of an entity that holds these specifics
abbrev pub kind_of : Specifics → Kind
kind_of (EmptyOf kind) = kind
kind_of (Preference preference) = kinds.Preference
kind_of (SealedPreference sealed) = kinds.Preference
kind_of (Password sealed) = kinds.Password
kind_of (Nigori keys) = kinds.Nigori

-- specifics say no more than a type
abbrev pub is_empty : Specifics → Bool
is_empty (EmptyOf kind) = true
is_empty (Preference preference) = false
is_empty (SealedPreference sealed) = false
is_empty (Password sealed) = false
is_empty (Nigori keys) = false

-- specifics that may not be stored: empty ones of what is not deleted, and the deletion of a profile's keys
abbrev pub may_not_be_stored : Bool → Specifics → Bool
may_not_be_stored deleted specifics =
    if deleted then same_kind (kind_of specifics) kinds.Nigori else is_empty specifics

-- specifics as they are stored: of what is deleted the type alone
abbrev pub stored : Bool → Specifics → Specifics
stored deleted specifics = if deleted then EmptyOf (kind_of specifics) else specifics

-- An entity that may not be stored has no key. Its entry has no specifics and holds only its place among the
-- answers, so its own key (of a profile's keys, with an empty hash) and version are never looked at.
abbrev pub no_entry : Entry (Option Specifics)
no_entry = record { key = record { kind = kinds.Nigori; hash = [] }; version = 0; content = None }

-- An entity with these specifics and this hash as an entry. A negative version is read as one past the last,
-- which no write has.
abbrev pub entry_with : Entity → Specifics → TagHash → Entry (Option Specifics)
entry_with entity specifics hash = record {
  key = record { kind = kind_of specifics; hash = hash };
  version = cast_unsigned w64 entity.version;
  content = Some (stored entity.deleted specifics);
}

-- an entity with these specifics and this hash, if it has them, as an entry
abbrev pub entry_by : Entity → Option Specifics → Option TagHash → Entry (Option Specifics)
entry_by entity None hash = no_entry
entry_by entity (Some specifics) None = no_entry
entry_by entity (Some specifics) (Some hash) =
    if may_not_be_stored entity.deleted specifics then no_entry else entry_with entity specifics hash

-- an entity of a commit as an entry
unfoldable pub entry_in : Entity → Entry (Option Specifics)
entry_in entity = entry_by entity entity.specifics entity.hash

-- an entry that may not be stored
abbrev pub is_invalid : Entry (Option Specifics) → Bool
is_invalid entry = is_none entry.content
