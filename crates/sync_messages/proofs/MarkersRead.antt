-- What the bytes of markers say.
use Rattle.std.proofs.Common.{◌≡◌, ℕ, ◌+◌, ◌-◌, ◌^◌, ◌<◌, true, ◌==◌, ◌||◌, ◌&&◌, if◌then◌else◌, List, [], ◌∷◌, Option, Some, None, is_none, length, map, refl, sym, ap, subst, ◌∙◌, arith}
use Rattle.std.specs.List.{AllByRecursion}
use Rattle.std.proofs.lemmas.Nat.{from_be_bytes-to_be_bytes_8}
use Rattle.client_tags.specs.declared.Kind.{Kind}
use Rattle.client_tags.specs.declared.Kind.TheVariants.{Nigori, Preference, Password}
use Rattle.client_tags.specs.Kinds.{kind_number, kind_of_number}
use Rattle.wire_format.specs.Spellings.{varint_field}
use Rattle.progress_marker.specs.Tokens.{token_of, version_of}
use Rattle.message_fields.specs.declared.field.Part.{Part}
use Rattle.message_fields.specs.declared.fault.MessageReason.TheVariants.{BadToken}
use Rattle.message_fields.specs.declared.message.Message.{Message}
use Rattle.message_fields.specs.Readings.{IsReading}
use Rattle.message_fields.specs.Tables.{varint}
use Rattle.message_fields.specs.Faults.{first_fault, wrong_kind, fault_of}
use Rattle.message_fields.proofs.WrittenMessages.{Written, a_number, some_bytes, written, joined_are, StandsAt, slice_is, contents_stand, content_begin, content_end, message_of, written_is_read}
use Rattle.sync_messages.specs.declared.message.Marker.{Marker}
use Rattle.sync_messages.specs.Markers.{marker_fields, token_fault, marker_fault, mark_of_kind, marker_of, AreMarkersIn}
use Rattle.sync_messages.specs.Spellings.{marker_bytes}
use Rattle.sync_messages.specs.Laws.{IsMarker}
use Rattle.sync_messages.proofs.RunReadings.{ArePartsFor}
use Rattle.sync_messages.proofs.ListsRead.{no_first, IsReadAs, list_read, all_told}

-- the number of a type tells it
pub kind_is : (kind : Kind) → Some kind ≡ kind_of_number (kind_number kind)
kind_is Nigori = refl
kind_is Preference = refl
kind_is Password = refl

kind_small : (kind : Kind) → kind_number kind < 2 ^ 64
kind_small Nigori = omega arith
kind_small Preference = omega arith
kind_small Password = omega arith

token_long : (version : ℕ) → length (token_of version) ≡ 8
unfolding token_of
token_long version = refl

version_is : (version : ℕ) → version < 2 ^ 64 → version ≡ version_of (token_of version)
unfolding token_of version_of
version_is version fits = sym (from_be_bytes-to_be_bytes_8 version fits)

-- the fields of a marker, as they are written
abbrev marker_texts : Marker → List Written
marker_texts marker = a_number 1 (kind_number marker.kind) ∷ some_bytes 2 (token_of marker.mark.version) ∷ []

-- where its token is read
abbrev token_part : ℕ → Marker → Part
token_part at marker =
    let begin : ℕ = at + length (varint_field 1 (kind_number marker.kind)) in
    record { begin = content_begin begin 2 (token_of marker.mark.version); end = content_end begin 2 (token_of marker.mark.version) }

marker_stands : (input : List ℕ) (marker : Marker) (begin end : ℕ) → StandsAt input (marker_bytes marker) begin end →
    StandsAt input (written (marker_texts marker)) begin end
marker_stands input marker begin end stands =
    subst (λ bytes. StandsAt input bytes begin end) (joined_are (marker_texts marker)) stands

-- a token of eight bytes has the right length
token_right : (input token : List ℕ) (part : Part) (marker : Message) → length token ≡ 8 → StandsAt input token part.begin part.end →
    token_fault marker (Some part) ≡ None
token_right input token part marker long stands =
    let size : part.end - part.begin ≡ 8 = omega (arith, stands.ends, long) in
    ap (λ n. if n == 0 || n == 8 then None else fault_of 2 (BadToken n) marker) size

-- nothing is at fault in a marker
marker_right : (kind : Kind) (message : Message) (found : Option Kind) (part : Part) → Some kind ≡ found →
    None ≡ token_fault message (Some part) →
    None ≡ (if true && is_none found then first_fault (None ∷ wrong_kind (varint 1 ∷ []) message ∷ [])
    else first_fault (None ∷ None ∷ token_fault message (Some part) ∷ None ∷ []))
marker_right kind message found part named token =
    no_first (None ∷ None ∷ token_fault message (Some part) ∷ None ∷ []) (refl, (refl, (token, (refl, tt))))
    ∙ ap (λ named. if true && is_none named then first_fault (None ∷ wrong_kind (varint 1 ∷ []) message ∷ [])
    else first_fault (None ∷ None ∷ token_fault message (Some part) ∷ None ∷ [])) named

pub marker_read : (input : List ℕ) (marker : Marker) (part : Part) → length input < 2 ^ 64 → IsMarker marker →
    StandsAt input (marker_bytes marker) part.begin part.end →
    IsReadAs (λ part message. IsReading marker_fields input (part ∷ []) message) marker_fault (λ message. Some marker ≡ marker_of input message) part
marker_read input marker part small fits stands =
    let texts : List Written = marker_texts marker in
    let held = marker_stands input marker part.begin part.end stands in
    let all = contents_stand input part.begin part.end texts held in
    let message : Message = message_of marker_fields part.begin part.end texts in
    record {
      thing = message;
      reads = written_is_read marker_fields input part.begin part.end texts small
          (((omega arith, omega arith), kind_small marker.kind), ((omega arith, omega arith), tt)) held;
      no_fault = marker_right marker.kind message (kind_of_number (kind_number marker.kind)) (token_part part.begin marker) (kind_is marker.kind)
          (sym (token_right input (token_of marker.mark.version) (token_part part.begin marker) message (token_long marker.mark.version) all.1.0));
      says = ap (λ version. Some (record { kind = marker.kind; mark = record { version = version } }))
          (version_is marker.mark.version fits
          ∙ sym (ap version_of (slice_is input (token_of marker.mark.version) _ _ all.1.0)))
          ∙ ap (mark_of_kind input message) (kind_is marker.kind);
    }

-- some markers are read
pub markers_read : (input : List ℕ) (markers : List Marker) (found : List Part) → length input < 2 ^ 64 → AllByRecursion IsMarker markers →
    ArePartsFor input found (map marker_bytes markers) → AreMarkersIn input found None markers
markers_read input markers found small fit parts =
    let all = list_read input (λ part message. IsReading marker_fields input (part ∷ []) message) marker_fault
    (λ (marker : Marker) message. Some marker ≡ marker_of input message) marker_bytes IsMarker
    (λ marker part is stands. marker_read input marker part small is stands) markers parts.parts fit parts.stand in
    subst (λ places. AreMarkersIn input places None markers) (sym parts.are) (record {
      messages = all.things;
      are_readings = all.are_read;
      is_fault = no_first (map marker_fault all.things) all.no_faults;
      are_markers = all_told (marker_of input) markers all.things all.say;
    })
