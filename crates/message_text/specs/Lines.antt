-- The lines in which messages are shown.
use Rattle.std.specs.Prelude.{ℕ, Bool, true, false, List, [], ◌∷◌, ◌++◌, length, codes, Option, Some, None}
use Rattle.std.specs.Fmt.{decimal, signed_decimal}
use Rattle.client_tags.specs.declared.Kind.{Kind}
use Rattle.client_tags.specs.declared.Kind.TheVariants as kinds
use Rattle.client_tags.specs.Hashes.{hash_text}
use Rattle.sync_values.specs.PassKinds.{pass_kind_number}
use Rattle.sync_specifics.specs.declared.sealed.Sealed.{Sealed}
use Rattle.sync_specifics.specs.declared.specifics.NigoriContent.{NigoriContent}
use Rattle.sync_specifics.specs.declared.specifics.Specifics.{Specifics}
use Rattle.sync_specifics.specs.declared.specifics.Specifics.TheVariants.{EmptyOf, Preference, SealedPreference, Password, Nigori}
use Rattle.sync_messages.specs.declared.message.Entity.{Entity}
use Rattle.sync_messages.specs.declared.message.EntryAnswer.{EntryAnswer}
use Rattle.sync_messages.specs.declared.message.Marker.{Marker}
use Rattle.sync_messages.specs.Answers.{outcome_number}
use Rattle.sync_model.specs.Text.{text_word, kind_word}
use Rattle.sync_model.specs.Report.{preference_text}

-- a sealed text: the name of its key, and how long it is
abbrev pub sealed_text : Sealed → List ℕ
sealed_text sealed = text_word sealed.key_name ++ 32 ∷ decimal (length sealed.blob)

-- a sealed text of a type
unfoldable pub sealed_of_kind : Kind → Sealed → List ℕ
sealed_of_kind kind sealed = codes "sealed " ++ kind_word kind ++ 32 ∷ sealed_text sealed

-- sealed keys of a profile, and the number of the kind of the passphrase that locks them
unfoldable pub nigori_text : NigoriContent → List ℕ
nigori_text content = codes "nigori " ++ sealed_text content.bag ++ 32 ∷ decimal (pass_kind_number content.pass_kind)

-- what an entity holds
unfoldable pub specifics_text : Option Specifics → List ℕ
specifics_text None = codes "none"
specifics_text (Some (EmptyOf kind)) = codes "empty " ++ kind_word kind
specifics_text (Some (Preference preference)) = codes "preference " ++ preference_text preference
specifics_text (Some (SealedPreference sealed)) = sealed_of_kind kinds.Preference sealed
specifics_text (Some (Password sealed)) = sealed_of_kind kinds.Password sealed
specifics_text (Some (Nigori content)) = nigori_text content

-- the hash of a client tag, or that there is none
unfoldable pub hash_word : Option (List ℕ) → List ℕ
hash_word None = codes "none"
hash_word (Some hash) = hash_text hash

-- whether an entity was deleted
unfoldable pub deleted_text : Bool → List ℕ
deleted_text true = codes " deleted 1"
deleted_text false = codes " deleted 0"

-- what the line of an entity begins with: its id, its version, and whether it was deleted
unfoldable pub entity_head : Entity → List ℕ
entity_head entity =
    codes "entity " ++ text_word entity.id ++ codes " version " ++ signed_decimal entity.version ++ deleted_text entity.deleted

-- the line of an entity
unfoldable pub entity_line : Entity → List ℕ
entity_line entity =
    entity_head entity ++ codes " hash " ++ hash_word entity.hash ++ 32 ∷ specifics_text entity.specifics ++ 10 ∷ []

-- the line of a progress marker
unfoldable pub mark_line : Marker → List ℕ
mark_line marker = codes "mark " ++ kind_word marker.kind ++ 32 ∷ decimal marker.mark.version ++ 10 ∷ []

-- the line of a server's answer to an entry
unfoldable pub answer_line : EntryAnswer → List ℕ
answer_line answer =
    codes "answer " ++ decimal (outcome_number answer.outcome) ++ 32 ∷ text_word answer.id ++ 32 ∷ signed_decimal answer.version
    ++ 10 ∷ []
