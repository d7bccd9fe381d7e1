-- What the bytes of entities say.
use Rattle.std.proofs.Common.{◌≡◌, ℕ, ℤ, ◌^◌, ◌<◌, Bool, true, false, not, ◌==◌, List, [], ◌∷◌, Option, Some, None, option_to_list, Ok, length, map, FitsSigned, refl, sym, ap, subst, ◌∙◌, arith}
use Rattle.std.specs.Int.{w64, cast_signed, cast_unsigned}
use Rattle.std.specs.List.{AllByRecursion}
use Rattle.std.proofs.Math.Facts.{Fits-of_z}
use Rattle.std.proofs.lemmas.Int.{to_z-of_z}
use Rattle.std.proofs.lemmas.List.{append-nil}
use Rattle.wire_format.specs.Spellings.{bytes_field}
use Rattle.client_tags.specs.Hashes.{hash_text}
use Rattle.client_tags.proofs.HashTexts.{bytes_of_text}
use Rattle.message_fields.specs.declared.field.Part.{Part}
use Rattle.message_fields.specs.declared.message.Message.{Message}
use Rattle.message_fields.specs.Written.{varint_unless_zero, bytes_unless_empty}
use Rattle.message_fields.specs.Fields.{whole_of}
use Rattle.message_fields.specs.Lookups.{number_or}
use Rattle.message_fields.specs.Faults.{said_unless, wire_fault, wrong_kind}
use Rattle.message_fields.proofs.WrittenMessages.{written, StandsAt, whole_stands, nothing_is_read}
use Rattle.sync_specifics.specs.declared.fields.SpecificsFields.{SpecificsFields}
use Rattle.sync_specifics.specs.declared.specifics.Specifics.{Specifics}
use Rattle.sync_specifics.specs.SealedTexts.{sealed_fields}
use Rattle.sync_specifics.specs.Preferences.{preference_fields}
use Rattle.sync_specifics.specs.Specifics.{specifics_fields, password_fields, nigori_fields, AreSpecificsFields, specifics_fault, specifics_of, specifics_bytes}
use Rattle.message_fields.proofs.WrittenExtras.{nothing_whole}
use Rattle.sync_specifics.proofs.SpecificsInside.{nothing, specifics_inside}
use Rattle.sync_specifics.specs.Extras.{HasCanonicalExtraIfSome}
use Rattle.sync_messages.proofs.Below.{decode_of-hash_text}
use Rattle.sync_messages.specs.declared.message.Entity.{Entity}
use Rattle.sync_messages.specs.declared.entity.EntityFields.{EntityFields}
use Rattle.sync_messages.specs.Entities.{entity_fields, AreEntityFields, entity_fault, hash_in, entity_of, AreEntitiesIn}
use Rattle.sync_messages.specs.Spellings.{flag_if_true, specifics_if_some, hash_if_some, entity_bytes}
use Rattle.sync_messages.specs.Laws.{IsHashIfSome, IsEntity, EntitiesAreRead}
use Rattle.sync_messages.proofs.FieldRuns.{Run, numbers, contents, run_bytes, all_fields, pieces_are, HasRun, runs_message, runs_read, right_kinds, IsRunIn, run_in}
use Rattle.sync_messages.proofs.RunReadings.{unless_empty, unless_zero, bytes_are, varint_is, values_fit, text_is, text_if_some, number_is, Stand, ArePartsFor, parts_are}
use Rattle.sync_messages.proofs.ListsRead.{no_first, IsReadAs, list_read, all_said}

-- the number of a flag
abbrev flag_number : Bool → ℕ
flag_number false = 0
flag_number true = 1

-- the contents of the field of specifics
abbrev specifics_texts : Option Specifics → List (List ℕ)
specifics_texts None = []
specifics_texts (Some specifics) = specifics_bytes specifics ∷ []

-- the text of a hash, if there is one
abbrev text_of_hash : Option (List ℕ) → Option (List ℕ)
text_of_hash None = None
text_of_hash (Some hash) = Some (hash_text hash)

-- the fields of an entity, as they are written
abbrev id_run : Entity → Run
id_run entity = contents 1 (unless_empty entity.id)

abbrev version_run : Entity → Run
version_run entity = numbers 4 (unless_zero (cast_unsigned w64 entity.version))

abbrev deleted_run : Entity → Run
deleted_run entity = numbers 18 (unless_zero (flag_number entity.deleted))

abbrev specifics_run : Entity → Run
specifics_run entity = contents 21 (specifics_texts entity.specifics)

abbrev hash_run : Entity → Run
hash_run entity = contents 23 (option_to_list (text_of_hash entity.hash))

abbrev entity_runs : Entity → List Run
entity_runs entity = id_run entity ∷ version_run entity ∷ deleted_run entity ∷ specifics_run entity ∷ hash_run entity ∷ []

flag_are : (deleted : Bool) → flag_if_true 18 deleted ≡ run_bytes (numbers 18 (unless_zero (flag_number deleted)))
flag_are false = refl
flag_are true = varint_is 18 1

specifics_are : (specifics : Option Specifics) → specifics_if_some specifics ≡ run_bytes (contents 21 (specifics_texts specifics))
specifics_are None = refl
specifics_are (Some specifics) = sym (append-nil (bytes_field 21 (specifics_bytes specifics)))

hash_are : (hash : Option (List ℕ)) → hash_if_some hash ≡ run_bytes (contents 23 (option_to_list (text_of_hash hash)))
hash_are None = refl
hash_are (Some hash) = sym (append-nil (bytes_field 23 (hash_text hash)))

entity_is_written : (entity : Entity) → entity_bytes entity ≡ written (all_fields (entity_runs entity))
entity_is_written entity =
    pieces_are
    (bytes_unless_empty 1 entity.id ∷ varint_unless_zero 4 (cast_unsigned w64 entity.version) ∷ flag_if_true 18 entity.deleted
    ∷ specifics_if_some entity.specifics ∷ hash_if_some entity.hash ∷ []) (entity_runs entity) (
      bytes_are 1 entity.id,
      (
        varint_is 4 (cast_unsigned w64 entity.version),
        (
          flag_are entity.deleted,
          (specifics_are entity.specifics, (hash_are entity.hash, tt)),
        ),
      ),
    )

-- a version fits a varint
pub version_fits : (version : ℤ) → FitsSigned w64 version → cast_unsigned w64 version < 2 ^ 64
version_fits version fits = (Fits-of_z {w = w64} {z = version} fits).fits

-- a version is read from its number
pub version_said : (version : ℤ) (number : ℕ) → FitsSigned w64 version → cast_unsigned w64 version ≡ number → version ≡ cast_signed w64 number
version_said version number fits is = sym (to_z-of_z w64 version fits) ∙ ap (cast_signed w64) is

flag_said : (deleted : Bool) → deleted ≡ not (flag_number deleted == 0)
flag_said false = refl
flag_said true = refl

hash_said : (hash : Option (List ℕ)) → IsHashIfSome hash → hash ≡ hash_in (text_of_hash hash)
hash_said None is = refl
hash_said (Some hash) is =
    bytes_of_text (hash_text hash) hash (decode_of-hash_text hash is) is.has_20

-- specifics that are read of some parts, if there are any
record AreInside (input : List ℕ) (parts : List Part) (specifics : Option Specifics) : Type 0 where
  pub all : SpecificsFields
  pub are_fields : AreSpecificsFields input parts all
  pub no_fault : None ≡ specifics_fault all
  pub is_said : specifics ≡ specifics_of input all

specifics_of_parts : (input : List ℕ) (specifics : Option Specifics) (parts : List Part) → HasCanonicalExtraIfSome specifics → length input < 2 ^ 64 →
    Stand input parts (specifics_texts specifics) → AreInside input parts specifics
specifics_of_parts input None [] canonical small stand = record {
  all = record {
    own = nothing specifics_fields;
    sealed = nothing sealed_fields;
    preference = nothing preference_fields;
    password = nothing password_fields;
    sealed_password = nothing sealed_fields;
    nigori = nothing nigori_fields;
    sealed_keys = nothing sealed_fields;
  };
  are_fields = record {
    own = nothing_is_read specifics_fields input;
    sealed = nothing_is_read sealed_fields input;
    preference = nothing_whole input;
    password = nothing_is_read password_fields input;
    sealed_password = nothing_is_read sealed_fields input;
    nigori = nothing_is_read nigori_fields input;
    sealed_keys = nothing_is_read sealed_fields input;
  };
  no_fault = refl;
  is_said = refl;
}
specifics_of_parts input None (part ∷ parts) canonical small stand = absurd stand
specifics_of_parts input (Some specifics) [] canonical small stand = absurd stand
specifics_of_parts input (Some specifics) (part ∷ []) canonical small stand =
    let inside = specifics_inside input specifics part.begin part.end canonical small stand.0 in
    record { all = inside.all; are_fields = inside.are_fields; no_fault = inside.no_fault; is_said = inside.is_said }
specifics_of_parts input (Some specifics) (part ∷ other ∷ parts) canonical small stand = absurd stand.1

entity_same : (a b : Entity) → a.id ≡ b.id → a.version ≡ b.version → a.deleted ≡ b.deleted → a.specifics ≡ b.specifics → a.hash ≡ b.hash → a ≡ b
entity_same a b ids versions flags specifics hashes =
    ap (λ id. record a { id = id }) ids
    ∙ ap (λ version. record a { id = b.id; version = version }) versions
    ∙ ap (λ flag. record b { deleted = flag; specifics = a.specifics; hash = a.hash }) flags
    ∙ ap (λ inner. record b { specifics = inner; hash = a.hash }) specifics
    ∙ ap (λ hash. record b { hash = hash }) hashes

-- an entity is read of the part in which its bytes stand
pub entity_read : (input : List ℕ) (entity : Entity) (part : Part) → length input < 2 ^ 64 → IsEntity entity →
    StandsAt input (entity_bytes entity) part.begin part.end →
    IsReadAs (AreEntityFields input) entity_fault (λ all. entity ≡ entity_of input all) part
entity_read input entity part small is whole =
    let runs : List Run = entity_runs entity in
    let own : Message = runs_message part.begin part.end runs in
    let stands = subst (λ bytes. StandsAt input bytes part.begin part.end) (entity_is_written entity) whole in
    let id : IsRunIn input 1 own.fields (id_run entity)
    = run_in input 1 part.begin part.end [] (id_run entity)
    (version_run entity ∷ deleted_run entity ∷ specifics_run entity ∷ hash_run entity ∷ []) tt (refl, (refl, (refl, (refl, tt)))) stands in
    let version : IsRunIn input 4 own.fields (version_run entity)
    = run_in input 4 part.begin part.end (id_run entity ∷ []) (version_run entity)
    (deleted_run entity ∷ specifics_run entity ∷ hash_run entity ∷ []) (refl, tt) (refl, (refl, (refl, tt))) stands in
    let deleted : IsRunIn input 18 own.fields (deleted_run entity)
    = run_in input 18 part.begin part.end (id_run entity ∷ version_run entity ∷ []) (deleted_run entity)
    (specifics_run entity ∷ hash_run entity ∷ []) (refl, (refl, tt)) (refl, (refl, tt)) stands in
    let specifics : IsRunIn input 21 own.fields (specifics_run entity)
    = run_in input 21 part.begin part.end (id_run entity ∷ version_run entity ∷ deleted_run entity ∷ []) (specifics_run entity)
    (hash_run entity ∷ []) (refl, (refl, (refl, tt))) (refl, tt) stands in
    let hash : IsRunIn input 23 own.fields (hash_run entity)
    = run_in input 23 part.begin part.end (id_run entity ∷ version_run entity ∷ deleted_run entity ∷ specifics_run entity ∷ [])
    (hash_run entity) [] (refl, (refl, (refl, (refl, tt)))) tt stands in
    let parts = parts_are input 21 own.fields (specifics_texts entity.specifics) specifics in
    let inside = specifics_of_parts input entity.specifics parts.parts is.extra small parts.stand in
    let fits = version_fits entity.version is.fits.version in
    let all : EntityFields = record { own = own; specifics = inside.all } in
    record {
      thing = all;
      reads = record {
        own = runs_read entity_fields input part.begin part.end runs small (
          (omega arith, omega arith),
          (
            ((omega arith, omega arith), values_fit (cast_unsigned w64 entity.version) fits),
            (
              ((omega arith, omega arith), values_fit (flag_number entity.deleted) (flag_fits entity.deleted)),
              ((omega arith, omega arith), ((omega arith, omega arith), tt)),
            ),
          ),
        )
            (entity_has entity) stands;
        specifics = subst (λ places. AreSpecificsFields input places inside.all) (sym parts.are) inside.are_fields;
      };
      no_fault = no_first (specifics_fault inside.all ∷ wire_fault own ∷ wrong_kind entity_fields own ∷ [])
          (inside.no_fault, (refl, (right_kinds entity_fields part.begin part.end runs (entity_has entity), tt)));
      says = entity_same entity (entity_of input all)
          (text_is input 1 own.fields entity.id id)
          (version_said entity.version (number_or 0 4 own.fields) is.fits.version (number_is input 4 own.fields (cast_unsigned w64 entity.version) version))
          (flag_said entity.deleted ∙ ap (λ number. not (number == 0)) (number_is input 18 own.fields (flag_number entity.deleted) deleted))
          inside.is_said
          (hash_said entity.hash is.fits.hash ∙ ap hash_in (text_if_some input 23 own.fields (text_of_hash entity.hash) hash));
    }
  where
    flag_fits : (deleted : Bool) → flag_number deleted < 2 ^ 64
    flag_fits false = omega arith
    flag_fits true = omega arith

    entity_has : (entity : Entity) → AllByRecursion (HasRun entity_fields) (entity_runs entity)
    entity_has entity =
        (λ at text. (refl, refl), (λ at value. (refl, refl), (λ at value. (refl, refl), (λ at text. (refl, refl), (λ at text. (refl, refl), tt)))))

-- some entities are read
pub entities_read : (input : List ℕ) (entities : List Entity) (found : List Part) → length input < 2 ^ 64 → AllByRecursion IsEntity entities →
    ArePartsFor input found (map entity_bytes entities) → AreEntitiesIn input found None entities
entities_read input entities found small are parts =
    let all = list_read input (AreEntityFields input) entity_fault
    (λ (entity : Entity) all. entity ≡ entity_of input all) entity_bytes IsEntity
    (λ entity part is stands. entity_read input entity part small is stands) entities parts.parts are parts.stand in
    subst (λ places. AreEntitiesIn input places None entities) (sym parts.are) (record {
      fields = all.things;
      are_fields = all.are_read;
      is_fault = no_first (map entity_fault all.things) all.no_faults;
      are_entities = all_said (entity_of input) entities all.things all.say;
    })

pub entities_are_read : EntitiesAreRead
entities_are_read entity is small =
    let input : List ℕ = entity_bytes entity in
    let read = entity_read input entity (whole_of input) small is (whole_stands input) in
    record {
      all = read.thing;
      are_fields = read.reads;
      is_said = ap Ok read.says ∙ ap (λ fault. said_unless fault (entity_of input read.thing)) read.no_fault;
    }
