-- Progress markers as messages.
use Rattle.std.specs.Prelude.{◌≡◌, ℕ, Bool, ◌-◌, ◌==◌, ◌||◌, ◌&&◌, if◌then◌else◌, List, [], ◌∷◌, map, Option, Some, None, is_some, is_none}
use Rattle.std.specs.List.{filter_map}
use Rattle.client_tags.specs.declared.Kind.{Kind}
use Rattle.client_tags.specs.Kinds.{kind_of_number}
use Rattle.progress_marker.specs.Tokens.{version_of}
use Rattle.message_fields.specs.declared.field.Known.{Known}
use Rattle.message_fields.specs.declared.field.Part.{Part}
use Rattle.message_fields.specs.declared.message.Message.{Message}
use Rattle.message_fields.specs.declared.fault.MessageFault.{MessageFault}
use Rattle.message_fields.specs.declared.fault.MessageReason.TheVariants.{BadToken}
use Rattle.message_fields.specs.Readings.{AreReadings}
use Rattle.message_fields.specs.Tables.{bytes, varint}
use Rattle.message_fields.specs.Lookups.{bytes_of, number_of, content_of}
use Rattle.message_fields.specs.Faults.{first_fault, wire_fault, wrong_kind, missing, fault_of}
use Rattle.sync_messages.specs.declared.message.Marker.{Marker}

-- the fields of a marker: the number of its type, and its token
abbrev pub marker_fields : List Known
marker_fields = varint 1 ∷ bytes 2 ∷ []

-- the type of a number that may be there
abbrev pub kind_named : Option ℕ → Option Kind
kind_named None = None
kind_named (Some number) = kind_of_number number

-- the type that a marker names, if it names one of the types
abbrev pub marker_kind : Message → Option Kind
marker_kind marker = kind_named (number_of 1 marker.fields)

-- a marker names another type: it is read over
abbrev pub is_of_other_type : Message → Bool
is_of_other_type marker = is_some (number_of 1 marker.fields) && is_none (marker_kind marker)

-- a token has another length than 0 and 8
abbrev pub token_fault : Message → Option Part → Option MessageFault
token_fault marker None = None
token_fault marker (Some part) =
    if part.end - part.begin == 0 || part.end - part.begin == 8 then None
    else fault_of 2 (BadToken (part.end - part.begin)) marker

-- what is at fault in a marker; of another type's marker the token is not looked at
abbrev pub marker_fault : Message → Option MessageFault
marker_fault marker =
    if is_of_other_type marker then first_fault (wire_fault marker ∷ wrong_kind (varint 1 ∷ []) marker ∷ [])
    else first_fault (wire_fault marker ∷ wrong_kind marker_fields marker
    ∷ token_fault marker (content_of 2 marker.fields) ∷ missing 1 marker ∷ [])

-- what is at fault in some markers
abbrev pub markers_fault : List Message → Option MessageFault
markers_fault markers = first_fault (map marker_fault markers)

-- a mark of a type
abbrev pub mark_of_kind : List ℕ → Message → Option Kind → Option Marker
mark_of_kind input marker None = None
mark_of_kind input marker (Some kind) =
    Some (record { kind = kind; mark = record { version = version_of (bytes_of input 2 marker.fields) } })

-- what a marker says, if it is of one of the types
abbrev pub marker_of : List ℕ → Message → Option Marker
marker_of input marker = mark_of_kind input marker (marker_kind marker)

-- the markers that stand in these parts, and the first fault in them
pub record AreMarkersIn (input : List ℕ) (parts : List Part) (fault : Option MessageFault) (markers : List Marker) : Type 0 where
  pub messages : List Message
  pub are_readings : AreReadings marker_fields input parts messages
  pub is_fault : fault ≡ markers_fault messages
  pub are_markers : markers ≡ filter_map (marker_of input) messages
