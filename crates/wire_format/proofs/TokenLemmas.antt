-- Tokens at the front of some bytes.
use Rattle.std.proofs.Common.{◌≡◌, ℕ, ◌+◌, ◌-◌, ◌*◌, ◌/◌, ◌%◌, ◌≤◌, List, length, take, drop, sym, subst, arith}
use Rattle.std.proofs.lemmas.List.{take-append-drop, length-take-le, length-drop, take-take, take_all}
use Rattle.std.proofs.Math.Seq.{take-add}
use Rattle.wire_format.specs.declared.field.Payload.{Payload}
use Rattle.wire_format.specs.Varints.{IsVarint}
use Rattle.wire_format.specs.Fields.{IsHeader, IsDelimited, IsPlain, IsPlainField, header_kind}
use Rattle.wire_format.specs.Faults.{HasHeader}

-- a header of any number and kind, of which something holds
pub has_header : (Holds : ℕ → ℕ → List ℕ → ℕ → Type 0) (bytes : List ℕ) (size value : ℕ) → size ≤ length bytes →
    IsVarint (take size bytes) value → Holds (value / 8) (value % 8) (drop size bytes) size → HasHeader Holds bytes
has_header Holds bytes size value inside varint holds = record {
  header = take size bytes;
  body = drop size bytes;
  number = value / 8;
  kind = value % 8;
  is_whole = sym (take-append-drop size bytes);
  is_varint = subst (IsVarint (take size bytes)) (let same : value ≡ value / 8 * 8 + value % 8 = omega arith in same) varint;
  is_kind = omega arith;
  holds = subst (Holds (value / 8) (value % 8) (drop size bytes)) (sym (length-take-le size bytes inside)) holds;
}

-- a length, and so many bytes of content
pub delimited : (bytes : List ℕ) (size value : ℕ) → size ≤ length bytes → IsVarint (take size bytes) value →
    value ≤ length bytes - size →
    IsDelimited (take (size + value) bytes) (take value (take (length bytes - size) (drop size bytes)))
delimited bytes size value inside varint within =
    let rest : length (drop size bytes) ≡ length bytes - size = length-drop size bytes in
    let content : take value (take (length bytes - size) (drop size bytes)) ≡ take value (drop size bytes)
    = take-take value (length bytes - size) (drop size bytes) within in
    subst (IsDelimited (take (size + value) bytes)) (sym content) (record {
      count = take size bytes;
      is_whole = take-add size value bytes;
      is_count = subst (IsVarint (take size bytes))
          (sym (length-take-le value (drop size bytes) (omega (arith, rest, within)))) varint;
    })

-- a header, and what follows it
pub plain_field : (bytes : List ℕ) (number kind header size : ℕ) (payload : Payload) → header ≤ length bytes →
    IsHeader (take header bytes) number kind → header_kind payload ≡ kind →
    IsPlain (take size (drop header bytes)) payload → IsPlainField (take (header + size) bytes) number payload
plain_field bytes number kind header size payload inside is_header same plain = record {
  header = take header bytes;
  body = take size (drop header bytes);
  is_whole = take-add header size bytes;
  is_header = subst (IsHeader (take header bytes) number) (sym same) is_header;
  is_plain = plain;
}

-- what follows a place, as a slice from there on is shown
pub from_place : (bytes : List ℕ) (place : ℕ) → take (length bytes - place) (drop place bytes) ≡ drop place bytes
from_place bytes place =
    take_all (length bytes - place) (drop place bytes) (omega (arith, length-drop place bytes))
