-- Which entities of a reply a type takes, and as what.
use Rattle.std.specs.Prelude.{ℕ, ℤ, pos, negsuc, nat_lt, Bool, true, ◌&&◌, not, if◌then◌else◌, List, Option, Some, None, filter_map}
use Rattle.std.specs.Int.{w64, cast_unsigned}
use Rattle.std.specs.Str.{bytes_eq}
use Rattle.client_tags.specs.declared.Kind.{Kind}
use Rattle.client_tags.specs.declared.Kind.TheVariants as kinds
use Rattle.client_tags.specs.Hashes.{tag_hash}
use Rattle.client_tags.specs.Tags.{nigori_tag}
use Rattle.sync_specifics.specs.declared.specifics.Specifics.{Specifics}
use Rattle.sync_messages.specs.declared.message.Entity.{Entity}
use Rattle.sync_model.specs.Values.{same_kind}
use Rattle.replay_messages.specs.Entries.{kind_of, is_empty, stored}
use Rattle.type_worker.specs.declared.pending.SentEntry.{SentEntry}

-- a server gives this version to a write: it is above 0
abbrev pub is_written : ℤ → Bool
is_written (pos version) = nat_lt 0 version
is_written (negsuc version) = Bool.false

-- A type takes an entity of its own: of a profile's keys only the one entity that there is, and never its deletion.
abbrev pub is_of : Kind → List ℕ → Specifics → Bool
is_of kinds.Nigori hash specifics = bytes_eq hash (tag_hash kinds.Nigori nigori_tag) && not (is_empty specifics)
is_of kinds.Preference hash specifics = true
is_of kinds.Password hash specifics = true

-- an entity of this version, hash and specifics as a type takes it, if it does
abbrev pub entry_at : Kind → ℤ → List ℕ → Specifics → Option SentEntry
entry_at kind version hash specifics =
    if same_kind (kind_of specifics) kind && is_written version && is_of kind hash specifics
    then Some (record { hash = hash; version = cast_unsigned w64 version; specifics = specifics })
    else None

-- an entity with this hash and these specifics, if it has both, as a type takes it; of what is deleted it takes the
-- type alone
abbrev pub entry_with : Kind → Entity → Option (List ℕ) → Option Specifics → Option SentEntry
entry_with kind entity (Some hash) (Some specifics) =
    entry_at kind entity.version hash (stored entity.deleted specifics)
entry_with kind entity _ _ = None

-- an entity as a type takes it, if it does
unfoldable pub entry_of : Kind → Entity → Option SentEntry
entry_of kind entity = entry_with kind entity entity.hash entity.specifics

-- what a type takes of the entities of a reply, in their order; the others are passed over
abbrev pub entries_of : Kind → List Entity → List SentEntry
entries_of kind entities = filter_map (entry_of kind) entities
