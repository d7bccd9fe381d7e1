-- Bytes are one list of fields at most.
use Rattle.std.proofs.Common.{◌≡◌, ℕ, ◌+◌, ◌<◌, List, [], ◌∷◌, ◌++◌, inl, inr, length, take, drop, sym, ap, subst, ◌∙◌, arith}
use Rattle.std.proofs.lemmas.List.{length-append, length-take-le, take-append-drop}
use Rattle.wire_format.specs.declared.field.Payload.{Payload}
use Rattle.wire_format.specs.declared.field.Payload.TheVariants.{Varint, Eight, Bytes, Group, Four}
use Rattle.wire_format.specs.Fields.{IsHeader, IsField, IsFieldAt, IsSomeField, AreFields, MayFill, header_kind}
use Rattle.wire_format.specs.FieldLists.{AreTheseFields}
use Rattle.wire_format.specs.Laws.{BytesAreOneList, ListsAreFields}
use Rattle.wire_format.proofs.Nesting.{no_fields}
use Rattle.wire_format.proofs.OneField.{split, one_field}

header_some : (header : List ℕ) (number kind : ℕ) → IsHeader header number kind → 0 < length header
header_some header number kind is =
    omega (arith, ap length is.is_varint.is_whole, length-append is.is_varint.front (is.is_varint.last ∷ []))

pub field_some : (bytes : List ℕ) (number : ℕ) (payload : Payload) → IsField bytes number payload → 0 < length bytes
field_some bytes number payload field =
    let parts = split bytes number payload field in
    omega (
      arith,
      ap length parts.is_whole,
      length-append parts.header parts.body,
      header_some parts.header number (header_kind payload) parts.is_header,
    )

-- no field stands where no bytes are
none_at_end : (bytes : List ℕ) (size number : ℕ) (payload : Payload) → bytes ≡ [] → IsFieldAt bytes size number payload → ⊥
none_at_end bytes size number payload none field =
    omega (arith, ap length none, field_some (take size bytes) number payload field.1, length-take-le size bytes field.0, field.0)

pub one_list : BytesAreOneList
one_list [] [] at bytes these those = tt
one_list [] (other ∷ others) at bytes these those =
    absurd (none_at_end bytes those.size other.number other.payload these those.is_field)
one_list (field ∷ fields) [] at bytes these those =
    absurd (none_at_end bytes these.size field.number field.payload those these.is_field)
one_list (field ∷ fields) (other ∷ others) at bytes these those =
    let one = one_field bytes these.size those.size field.number other.number field.payload other.payload these.is_field those.is_field in
    let behind : AreTheseFields others (at + these.size) (drop these.size bytes)
    = subst (λ size. AreTheseFields others (at + size) (drop size bytes)) (sym one.0) those.is_followed in (
      (one.1, these.is_place ∙ sym those.is_place, one.2),
      one_list fields others (at + these.size) (drop these.size bytes) these.is_followed behind,
    )

pub some_field : (bytes : List ℕ) (number : ℕ) (payload : Payload) → IsField bytes number payload → IsSomeField (MayFill 32) bytes
some_field bytes number (Varint value) field = inl (record { number = number; payload = Varint value; is_plain = field })
some_field bytes number (Eight value) field = inl (record { number = number; payload = Eight value; is_plain = field })
some_field bytes number (Bytes content) field = inl (record { number = number; payload = Bytes content; is_plain = field })
some_field bytes number (Group content) field = inr (record { number = number; content = content.now; is_group = field })
some_field bytes number (Four value) field = inl (record { number = number; payload = Four value; is_plain = field })

-- one field before others
field_before : (bytes : List ℕ) (size : ℕ) → IsSomeField (MayFill 32) (take size bytes) → AreFields (drop size bytes) → AreFields bytes
field_before bytes size field rest = record {
  pieces = take size bytes ∷ rest.pieces;
  is_whole = sym (take-append-drop size bytes) ∙ ap (λ behind. take size bytes ++ behind) rest.is_whole;
  are_fields = (field, rest.are_fields);
}

pub lists_are_fields : ListsAreFields
lists_are_fields [] at bytes these = subst AreFields (sym these) (no_fields (MayFill 32))
lists_are_fields (field ∷ fields) at bytes these =
    field_before bytes these.size (some_field (take these.size bytes) field.number field.payload these.is_field.1)
    (lists_are_fields fields (at + these.size) (drop these.size bytes) these.is_followed)
