-- What holds of all messages, by the definitions alone.
use Rattle.std.specs.Prelude.{◌≡◌, ℕ, List, [], ◌∷◌, None}
use Rattle.message_fields.specs.declared.field.Part.{Part}
use Rattle.message_fields.specs.declared.field.Known.{Known}
use Rattle.message_fields.specs.declared.message.Message.{Message}
use Rattle.message_fields.specs.Fields.{ArePartsOf, whole_of}
use Rattle.message_fields.specs.Readings.{IsReading, IsWholeReading}
use Rattle.message_fields.specs.Unknown.{extra_of, IsCanonicalExtra}

-- pieces of an input are one message at most
abbrev pub PiecesAreOneMessage : Type 0
PiecesAreOneMessage =
    (known : List Known) → (input : List ℕ) → (parts : List Part) → (message other : Message) → ArePartsOf input parts →
    IsReading known input parts message → IsReading known input parts other → message ≡ other

-- with all their fields they are one message at most too
abbrev pub PiecesAreOneWholeMessage : Type 0
PiecesAreOneWholeMessage =
    (input : List ℕ) → (parts : List Part) → (message other : Message) → ArePartsOf input parts →
    IsWholeReading input parts message → IsWholeReading input parts other → message ≡ other

-- the extra of a message without a wire fault is canonical
abbrev pub ExtrasAreCanonical : Type 0
ExtrasAreCanonical =
    (known : List Known) → (input : List ℕ) → (parts : List Part) → (message : Message) → ArePartsOf input parts →
    IsWholeReading input parts message → message.wire_fault ≡ None → IsCanonicalExtra known (extra_of known input message.fields)

-- a canonical extra is read as a message without a wire fault, and is the extra of that
abbrev pub CanonicalExtrasStay : Type 0
CanonicalExtrasStay =
    (known : List Known) → (extra : List ℕ) → (message : Message) → IsCanonicalExtra known extra →
    IsWholeReading extra (whole_of extra ∷ []) message → (message.wire_fault ≡ None) × (extra_of known extra message.fields ≡ extra)
