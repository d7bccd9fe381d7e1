-- Entities as messages.
use Rattle.std.specs.Prelude.{◌≡◌, ℕ, not, ◌==◌, List, [], ◌∷◌, map, Option, Some, None, Result}
use Rattle.std.specs.Int.{w64, cast_signed}
use Rattle.std.specs.List.{AllZip}
use Rattle.client_tags.specs.Hashes.{hash_bytes_of}
use Rattle.message_fields.specs.declared.field.Known.{Known}
use Rattle.message_fields.specs.declared.field.Part.{Part}
use Rattle.message_fields.specs.declared.fault.MessageFault.{MessageFault}
use Rattle.message_fields.specs.Fields.{whole_of}
use Rattle.message_fields.specs.Readings.{IsReading}
use Rattle.message_fields.specs.Tables.{bytes, varint}
use Rattle.message_fields.specs.Lookups.{bytes_of, bytes_in_field, number_or, parts_of, AreWithin}
use Rattle.message_fields.specs.Faults.{first_fault, wire_fault, wrong_kind, said_unless}
use Rattle.sync_specifics.specs.Specifics.{AreSpecificsFields, AreAllWithin, specifics_fault, specifics_of}
use Rattle.sync_messages.specs.declared.message.Entity.{Entity}
use Rattle.sync_messages.specs.declared.entity.EntityFields.{EntityFields}

-- the fields of an entity: id, version, whether it was deleted, specifics, and the hash of its client tag
abbrev pub entity_fields : List Known
entity_fields = bytes 1 ∷ varint 4 ∷ varint 18 ∷ bytes 21 ∷ bytes 23 ∷ []

-- the messages in an entity of this part
pub record AreEntityFields (input : List ℕ) (part : Part) (all : EntityFields) : Type 0 where
  pub own : IsReading entity_fields input (part ∷ []) all.own
  pub specifics : AreSpecificsFields input (parts_of 21 all.own.fields) all.specifics

-- the contents of the messages in an entity stand within the input
pub record AreEntityWithin (input : List ℕ) (all : EntityFields) : Type 0 where
  pub own : AreWithin input all.own.fields
  pub specifics : AreAllWithin input all.specifics

-- the messages in the entities of these parts
abbrev pub AreEntities : List ℕ → List Part → List EntityFields → Type 0
AreEntities input parts entities = AllZip (λ part all. AreEntityFields input part all) parts entities

-- what is at fault in an entity
abbrev pub entity_fault : EntityFields → Option MessageFault
entity_fault all =
    first_fault (specifics_fault all.specifics ∷ wire_fault all.own ∷ wrong_kind entity_fields all.own ∷ [])

-- what is at fault in some entities
abbrev pub entities_fault : List EntityFields → Option MessageFault
entities_fault entities = first_fault (map entity_fault entities)

-- the hash that a field has as its text; none where it is not there or is no such text
abbrev pub hash_in : Option (List ℕ) → Option (List ℕ)
hash_in None = None
hash_in (Some text) = hash_bytes_of text

-- what an entity says
abbrev pub entity_of : List ℕ → EntityFields → Entity
entity_of input all = record {
  id = bytes_of input 1 all.own.fields;
  version = cast_signed w64 (number_or 0 4 all.own.fields);
  deleted = not (number_or 0 18 all.own.fields == 0);
  specifics = specifics_of input all.specifics;
  hash = hash_in (bytes_in_field input 23 all.own.fields);
}

-- the entities that stand in these parts, and the first fault in them
pub record AreEntitiesIn (input : List ℕ) (parts : List Part) (fault : Option MessageFault) (entities : List Entity) : Type 0 where
  pub fields : List EntityFields
  pub are_fields : AreEntities input parts fields
  pub is_fault : fault ≡ entities_fault fields
  pub are_entities : entities ≡ map (entity_of input) fields

-- what these bytes say as an entity
pub record SaysEntity (input : List ℕ) (said : Result Entity MessageFault) : Type 0 where
  pub all : EntityFields
  pub are_fields : AreEntityFields input (whole_of input) all
  pub is_said : said ≡ said_unless (entity_fault all) (entity_of input all)
