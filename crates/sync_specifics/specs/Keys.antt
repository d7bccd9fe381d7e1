-- The keys of a profile as messages by themselves.
use Rattle.std.specs.Prelude.{◌≡◌, ℕ, ◌-◌, ◌==◌, if◌then◌else◌, List, [], ◌∷◌, ◌++◌, length, map, replicate, Option, Some, None, Result}
use Rattle.std.specs.List.{flat_map, zip}
use Rattle.wire_format.specs.Spellings.{bytes_field}
use Rattle.key_derivation.specs.declared.NigoriKey.{NigoriKey}
use Rattle.message_fields.specs.declared.field.Known.{Known}
use Rattle.message_fields.specs.declared.field.Part.{Part}
use Rattle.message_fields.specs.declared.message.Message.{Message}
use Rattle.message_fields.specs.declared.fault.MessageFault.{MessageFault}
use Rattle.message_fields.specs.declared.fault.MessageReason.TheVariants.{Range}
use Rattle.message_fields.specs.Fields.{whole_of}
use Rattle.message_fields.specs.Readings.{IsReading, AreReadings}
use Rattle.message_fields.specs.Tables.{bytes}
use Rattle.message_fields.specs.Written.{bytes_unless_empty}
use Rattle.message_fields.specs.Lookups.{content_of, bytes_of, parts_of}
use Rattle.message_fields.specs.Faults.{first_fault, wire_fault, wrong_kind, missing, fault_of, said_unless}

-- the fields of a key: its name, which is read over, and its three parts
abbrev pub key_fields : List Known
key_fields = bytes 1 ∷ bytes 2 ∷ bytes 3 ∷ bytes 4 ∷ []

-- a part that stands there has another length than 16 bytes
abbrev pub length_fault : ℕ → Message → Option Part → Option MessageFault
length_fault number message None = None
length_fault number message (Some part) =
    if part.end - part.begin == 16 then None else fault_of number (Range number) message

-- a part of a key has another length than 16 bytes
abbrev pub part_fault : ℕ → Message → Option MessageFault
part_fault number message = length_fault number message (content_of number message.fields)

-- what is at fault in a key: its parts have to be there, with 16 bytes each
abbrev pub key_fault : Message → Option MessageFault
key_fault message =
    first_fault (wire_fault message ∷ wrong_kind key_fields message ∷ part_fault 2 message ∷ part_fault 3 message
    ∷ part_fault 4 message ∷ missing 2 message ∷ missing 3 message ∷ missing 4 message ∷ [])

-- sixteen bytes; zeros in the place of another number of bytes, which is a fault
abbrev pub sixteen : List ℕ → List ℕ
sixteen part = if length part == 16 then part else replicate 16 0

-- what a key says
abbrev pub key_of : List ℕ → Message → NigoriKey
key_of input message = record {
  user = sixteen (bytes_of input 2 message.fields);
  enc = sixteen (bytes_of input 3 message.fields);
  mac = sixteen (bytes_of input 4 message.fields);
}

-- what these bytes say as a key
pub record SaysKey (input : List ℕ) (said : Result NigoriKey MessageFault) : Type 0 where
  pub message : Message
  pub is_reading : IsReading key_fields input (whole_of input ∷ []) message
  pub is_said : said ≡ said_unless (key_fault message) (key_of input message)

-- the fields of a bag
abbrev pub bag_fields : List Known
bag_fields = bytes 2 ∷ []

-- what is at fault in a bag of these keys
abbrev pub bag_fault : Message → List Message → Option MessageFault
bag_fault bag keys = first_fault (map key_fault keys ++ wire_fault bag ∷ wrong_kind bag_fields bag ∷ [])

-- the keys that stand in these parts, and the first fault in them
pub record AreKeysIn (input : List ℕ) (parts : List Part) (fault : Option MessageFault) (keys : List NigoriKey) : Type 0 where
  pub messages : List Message
  pub are_readings : AreReadings key_fields input parts messages
  pub is_fault : fault ≡ first_fault (map key_fault messages)
  pub are_keys : keys ≡ map (key_of input) messages

-- what these bytes say as some keys
pub record SaysKeys (input : List ℕ) (said : Result (List NigoriKey) MessageFault) : Type 0 where
  pub bag : Message
  pub is_bag : IsReading bag_fields input (whole_of input ∷ []) bag
  pub keys : List Message
  pub are_keys : AreReadings key_fields input (parts_of 2 bag.fields) keys
  pub is_said : said ≡ said_unless (bag_fault bag keys) (map (key_of input) keys)

-- the bytes of a key of this name; an empty name is left out
abbrev pub key_bytes : List ℕ → NigoriKey → List ℕ
key_bytes name key =
    bytes_unless_empty 1 name ++ bytes_field 2 key.user ++ bytes_field 3 key.enc ++ bytes_field 4 key.mac

-- the bytes of some keys with these names
abbrev pub keys_bytes : List (List ℕ) → List NigoriKey → List ℕ
keys_bytes names keys = flat_map (λ named. bytes_field 2 (key_bytes named.0 named.1)) (zip names keys)
