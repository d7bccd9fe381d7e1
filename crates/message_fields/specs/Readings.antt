-- Reading a message: the fields of its pieces, up to the first wire fault.
use Rattle.std.specs.Prelude.{◌≡◌, ◌⊎◌, ℕ, Bool, true, ◌==◌, List, [], ◌∷◌, ◌++◌, Option, Some, None}
use Rattle.std.specs.Borrow.{Bor}
use Rattle.std.specs.List.{filter, list_any, AllZip}
use Rattle.wire_format.specs.declared.fault.WireFault.{WireFault}
use Rattle.message_fields.specs.declared.field.Part.{Part}
use Rattle.message_fields.specs.declared.field.Known.{Known}
use Rattle.message_fields.specs.declared.field.PlacedField.{PlacedField}
use Rattle.message_fields.specs.declared.message.Message.{Message}
use Rattle.message_fields.specs.Fields.{AreFieldsIn, IsFaultyPart}

-- the table has a field of this number
abbrev pub is_known : List Known → PlacedField → Bool
is_known known field = list_any (λ (entry : Known). entry.0 == field.number) known

-- the fields of a piece that is whole, and those of the pieces after it
pub record IsWholePiece (Follow : List PlacedField → Type 0) (input : List ℕ) (part : Part) (fields : List PlacedField) : Type 0 where
  pub first : List PlacedField
  pub rest : List PlacedField
  pub are_both : fields ≡ first ++ rest
  pub is_whole : AreFieldsIn input part.begin first part.end
  pub follow : Follow rest

-- the fields of a piece up to its fault
pub record IsFaultyPiece (input : List ℕ) (part : Part) (fields : List PlacedField) (fault : Option WireFault) : Type 0 where
  pub found : WireFault
  pub is_fault : fault ≡ Some found
  pub is_faulty : IsFaultyPart input part fields found

-- the fields of these pieces, one after another, up to the first fault of one of them
abbrev pub AreFieldsOf : List ℕ → List Part → List PlacedField → Option WireFault → Type 0
AreFieldsOf input [] fields fault = (fields ≡ []) × (fault ≡ None)
AreFieldsOf input (part ∷ parts) fields fault =
    IsWholePiece (λ rest. AreFieldsOf input parts rest fault) input part fields ⊎ IsFaultyPiece input part fields fault

-- where the last of some pieces ends; 0 without one
abbrev pub end_of : ℕ → List Part → ℕ
end_of end [] = end
end_of end (part ∷ parts) = end_of part.end parts

-- a message as these pieces have it: of its fields those that are kept
pub record IsReadingOf (kept : PlacedField → Bool) (input : List ℕ) (parts : List Part) (message : Message) : Type 0 where
  pub fields : List PlacedField
  pub are_fields : AreFieldsOf input parts fields message.wire_fault
  pub are_known : message.fields ≡ filter kept fields
  pub is_end : message.end ≡ end_of 0 parts

-- a message as these pieces have it: of its fields those that its table knows
abbrev pub IsReading : List Known → List ℕ → List Part → Message → Type 0
IsReading known = IsReadingOf (is_known known)

-- a message as these pieces have it, with all its fields
pub record IsWholeReading (input : List ℕ) (parts : List Part) (message : Message) : Type 0 where
  pub are_fields : AreFieldsOf input parts message.fields message.wire_fault
  pub is_end : message.end ≡ end_of 0 parts

-- what was found of a piece: whole fields, or fields up to a fault
abbrev pub IsPieceRead : List ℕ → Part → List PlacedField → Option WireFault → Type 0
IsPieceRead input part fields None = AreFieldsIn input part.begin fields part.end
IsPieceRead input part fields (Some fault) = IsFaultyPart input part fields fault

-- a field is kept: one that a table knows, or any field without a table
abbrev pub is_kept : Option (Bor (List Known)) → PlacedField → Bool
is_kept None field = true
is_kept (Some known) field = is_known known.now field

-- a piece was read: those of its fields that are kept were added
pub record IsRead (kept : PlacedField → Bool) (input : List ℕ) (part : Part) (old new : List PlacedField) (fault : Option WireFault) : Type 0 where
  pub fields : List PlacedField
  pub is_piece : IsPieceRead input part fields fault
  pub is_added : new ≡ old ++ filter kept fields

-- messages that have one of these pieces each
abbrev pub AreReadings : List Known → List ℕ → List Part → List Message → Type 0
AreReadings known input parts messages = AllZip (λ part message. IsReading known input (part ∷ []) message) parts messages
