-- What the bytes of keys say.
use Rattle.std.proofs.Common.{◌≡◌, ℕ, suc, ◌-◌, ◌^◌, ◌<◌, false, ◌==◌, if◌then◌else◌, List, [], ◌∷◌, Option, Some, None, Ok, length, replicate, sym, ap, subst, ◌∙◌, arith}
use Rattle.std.proofs.lemmas.Bool.Decides.{nat_tests}
use Rattle.wire_format.specs.Spellings.{bytes_field}
use Rattle.key_derivation.specs.declared.NigoriKey.{NigoriKey}
use Rattle.message_fields.specs.declared.field.Part.{Part}
use Rattle.message_fields.specs.declared.message.Message.{Message}
use Rattle.message_fields.specs.declared.fault.MessageFault.{MessageFault}
use Rattle.message_fields.specs.declared.fault.MessageReason.TheVariants.{Range}
use Rattle.message_fields.specs.Readings.{IsReading}
use Rattle.message_fields.specs.Lookups.{content_or_none}
use Rattle.message_fields.specs.Faults.{first_fault, fault_of, said_unless}
use Rattle.message_fields.proofs.WrittenMessages.{Written, some_bytes, written, joined, joined_are, StandsAt, whole_stands, slice_is, contents_stand, message_of, written_is_read}
use Rattle.sync_specifics.specs.Keys.{key_fields, key_fault, key_of, key_bytes, sixteen, length_fault, part_fault}
use Rattle.sync_specifics.specs.Laws.{IsKey, KeysAreRead}

-- the fields of a key, as they are written; an empty name is left out
abbrev key_parts : NigoriKey → List Written
key_parts key = some_bytes 2 key.user ∷ some_bytes 3 key.enc ∷ some_bytes 4 key.mac ∷ []

abbrev pub key_texts : List ℕ → NigoriKey → List Written
key_texts [] key = key_parts key
key_texts (byte ∷ name) key = some_bytes 1 (byte ∷ name) ∷ key_parts key

not_empty : (size : ℕ) → (suc size == 0) ≡ false
not_empty size = grind (arith, nat_tests)

texts_are : (name : List ℕ) (key : NigoriKey) → key_bytes name key ≡ written (key_texts name key)
texts_are [] key = joined_are (key_parts key)
texts_are (byte ∷ name) key =
    ap (λ b. joined (if b then [] else bytes_field 1 (byte ∷ name)) (key_parts key)) (not_empty (length name))
    ∙ joined_are (some_bytes 1 (byte ∷ name) ∷ key_parts key)

key_stands : (input name : List ℕ) (key : NigoriKey) (begin end : ℕ) → StandsAt input (key_bytes name key) begin end →
    StandsAt input (written (key_texts name key)) begin end
key_stands input name key begin end stands = subst (λ bytes. StandsAt input bytes begin end) (texts_are name key) stands

-- they are read
pub key_read : (input name : List ℕ) (key : NigoriKey) (begin end : ℕ) → length input < 2 ^ 64 →
    StandsAt input (key_bytes name key) begin end →
    IsReading key_fields input (record { begin = begin; end = end } ∷ []) (message_of key_fields begin end (key_texts name key))
key_read input [] key begin end small stands =
    written_is_read key_fields input begin end (key_parts key) small
    ((omega arith, omega arith), ((omega arith, omega arith), ((omega arith, omega arith), tt)))
    (key_stands input [] key begin end stands)
key_read input (byte ∷ name) key begin end small stands =
    written_is_read key_fields input begin end (some_bytes 1 (byte ∷ name) ∷ key_parts key) small
    ((omega arith, omega arith), ((omega arith, omega arith), ((omega arith, omega arith), ((omega arith, omega arith), tt))))
    (key_stands input (byte ∷ name) key begin end stands)

key_same : (a b : NigoriKey) → a.user ≡ b.user → a.enc ≡ b.enc → a.mac ≡ b.mac → a ≡ b
key_same a b users encs macs =
    ap (λ part. record a { user = part }) users ∙ ap (λ part. record a { user = b.user; enc = part }) encs
    ∙ ap (λ part. record b { mac = part }) macs

-- a part of 16 bytes has the right length
right_length : (input content : List ℕ) (part : Part) (number : ℕ) (message : Message) → length content ≡ 16 →
    StandsAt input content part.begin part.end → length_fault number message (Some part) ≡ None
right_length input content part number message long stands =
    let size : part.end - part.begin ≡ 16 = omega (arith, stands.ends, long) in
    ap (λ n. if n == 16 then None else fault_of number (Range number) message) size

-- a part of 16 bytes is itself
is_sixteen : (input content : List ℕ) (part : Part) → length content ≡ 16 → StandsAt input content part.begin part.end →
    content ≡ sixteen (content_or_none input (Some part))
is_sixteen input content part long stands =
    sym (ap sixteen (slice_is input content part.begin part.end stands)
    ∙ ap (λ n. if n == 16 then content else replicate 16 0) long)

-- where the lengths of all parts are right, nothing is at fault
no_fault : (user enc mac : Option MessageFault) → user ≡ None → enc ≡ None → mac ≡ None →
    first_fault (None ∷ None ∷ user ∷ enc ∷ mac ∷ None ∷ None ∷ None ∷ []) ≡ None
no_fault user enc mac users encs macs =
    ap (λ fault. first_fault (None ∷ None ∷ fault ∷ enc ∷ mac ∷ None ∷ None ∷ None ∷ [])) users
    ∙ ap (λ fault. first_fault (None ∷ None ∷ None ∷ fault ∷ mac ∷ None ∷ None ∷ None ∷ [])) encs
    ∙ ap (λ fault. first_fault (None ∷ None ∷ None ∷ None ∷ fault ∷ None ∷ None ∷ None ∷ [])) macs

-- nothing is at fault in them
pub key_has_no_fault : (input name : List ℕ) (key : NigoriKey) (begin end : ℕ) → IsKey key → StandsAt input (key_bytes name key) begin end →
    key_fault (message_of key_fields begin end (key_texts name key)) ≡ None
key_has_no_fault input [] key begin end is_key stands =
    let all = contents_stand input begin end (key_parts key) (key_stands input [] key begin end stands) in
    let message : Message = message_of key_fields begin end (key_parts key) in
    no_fault (part_fault 2 message) (part_fault 3 message) (part_fault 4 message)
    (right_length input key.user _ 2 message is_key.0 all.0) (right_length input key.enc _ 3 message is_key.1 all.1.0)
    (right_length input key.mac _ 4 message is_key.2 all.1.1.0)
key_has_no_fault input (byte ∷ name) key begin end is_key stands =
    let fields : List Written = some_bytes 1 (byte ∷ name) ∷ key_parts key in
    let all = contents_stand input begin end fields (key_stands input (byte ∷ name) key begin end stands) in
    let message : Message = message_of key_fields begin end fields in
    no_fault (part_fault 2 message) (part_fault 3 message) (part_fault 4 message)
    (right_length input key.user _ 2 message is_key.0 all.1.0) (right_length input key.enc _ 3 message is_key.1 all.1.1.0)
    (right_length input key.mac _ 4 message is_key.2 all.1.1.1.0)

-- they say the key
pub key_is : (input name : List ℕ) (key : NigoriKey) (begin end : ℕ) → IsKey key → StandsAt input (key_bytes name key) begin end →
    key ≡ key_of input (message_of key_fields begin end (key_texts name key))
key_is input [] key begin end is_key stands =
    let all = contents_stand input begin end (key_parts key) (key_stands input [] key begin end stands) in
    key_same key (key_of input (message_of key_fields begin end (key_parts key)))
    (is_sixteen input key.user _ is_key.0 all.0) (is_sixteen input key.enc _ is_key.1 all.1.0)
    (is_sixteen input key.mac _ is_key.2 all.1.1.0)
key_is input (byte ∷ name) key begin end is_key stands =
    let fields : List Written = some_bytes 1 (byte ∷ name) ∷ key_parts key in
    let all = contents_stand input begin end fields (key_stands input (byte ∷ name) key begin end stands) in
    key_same key (key_of input (message_of key_fields begin end fields))
    (is_sixteen input key.user _ is_key.0 all.1.0) (is_sixteen input key.enc _ is_key.1 all.1.1.0)
    (is_sixteen input key.mac _ is_key.2 all.1.1.1.0)

pub keys_are_read : KeysAreRead
keys_are_read name key is_key small =
    let input : List ℕ = key_bytes name key in
    let message : Message = message_of key_fields 0 (length input) (key_texts name key) in
    record {
      message = message;
      is_reading = key_read input name key 0 (length input) small (whole_stands input);
      is_said = ap Ok (key_is input name key 0 (length input) is_key (whole_stands input))
          ∙ ap (λ fault. said_unless fault (key_of input message))
          (sym (key_has_no_fault input name key 0 (length input) is_key (whole_stands input)));
    }
