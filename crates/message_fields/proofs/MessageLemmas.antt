-- Reading a message, piece by piece.
use Rattle.std.proofs.Common.{◌≡◌, ℕ, ◌+◌, ◌≤◌, Bool, true, false, cond, List, [], ◌∷◌, ◌++◌, Option, Some, None, length, drop, refl, sym, ap, subst, ◌∙◌, inl, inr, is_some, true≢false}
use Rattle.std.specs.List.{filter}
use Rattle.std.proofs.lemmas.List.{append_assoc, append-nil, at_drop_all}
use Rattle.std.proofs.lemmas.List.Elements.{filter-append}
use Rattle.wire_format.specs.declared.fault.WireFault.{WireFault}
use Rattle.message_fields.specs.declared.field.Part.{Part}
use Rattle.message_fields.specs.declared.field.Known.{Known}
use Rattle.message_fields.specs.declared.field.PlacedField.{PlacedField}
use Rattle.message_fields.specs.declared.message.Message.{Message}
use Rattle.wire_format.specs.declared.field.Payload.{Payload}
use Rattle.wire_format.specs.declared.field.Payload.TheVariants.{Varint, Eight, Bytes, Group, Four}
use Rattle.message_fields.specs.declared.field.Held.{Held}
use Rattle.message_fields.specs.Fields.{Holds, AreFieldsIn}
use Rattle.message_fields.specs.Lookups.{IsWithin, AreWithin}
use Rattle.message_fields.specs.Readings.{AreFieldsOf, IsReading, IsReadingOf, IsWholeReading, IsRead, is_known, end_of}

-- the pieces up to one of them were read, and each was whole
pub record ReadUpTo (kept : PlacedField → Bool) (input : List ℕ) (parts : List Part) (index : ℕ) (found : List PlacedField) : Type 0 where
  pub fields : List PlacedField
  pub goes_on : (rest : List PlacedField) → (fault : Option WireFault) → AreFieldsOf input (drop index parts) rest fault →
      AreFieldsOf input parts (fields ++ rest) fault
  pub are_known : found ≡ filter kept fields

-- no piece was read
pub none_read : (kept : PlacedField → Bool) (input : List ℕ) (parts : List Part) → ReadUpTo kept input parts 0 []
none_read kept input parts = record { fields = []; goes_on = λ rest fault are. are; are_known = refl }

-- a piece was read whole
one_whole : (kept : PlacedField → Bool) (input : List ℕ) (parts : List Part) (index : ℕ) (part : Part) (old new : List PlacedField) →
    drop index parts ≡ part ∷ drop (index + 1) parts → ReadUpTo kept input parts index old → IsRead kept input part old new None →
    ReadUpTo kept input parts (index + 1) new
one_whole kept input parts index part old new more so_far read = record {
  fields = so_far.fields ++ read.fields;
  goes_on = λ rest fault are.
      subst (λ fields. AreFieldsOf input parts fields fault) (sym (append_assoc so_far.fields read.fields rest))
      (so_far.goes_on (read.fields ++ rest) fault
      (subst (λ pieces. AreFieldsOf input pieces (read.fields ++ rest) fault) (sym more)
      (inl (record { first = read.fields; rest = rest; are_both = refl; is_whole = read.is_piece; follow = are }))));
  are_known = read.is_added ∙ ap (λ front. front ++ filter kept read.fields) so_far.are_known
      ∙ sym (filter-append kept so_far.fields read.fields);
}

-- a piece is at fault
one_faulty : (kept : PlacedField → Bool) (input : List ℕ) (parts : List Part) (index : ℕ) (part : Part) (old new : List PlacedField)
    (fault : WireFault) → drop index parts ≡ part ∷ drop (index + 1) parts → ReadUpTo kept input parts index old →
    IsRead kept input part old new (Some fault) →
    IsReadingOf kept input parts (record { fields = new; wire_fault = Some fault; end = end_of 0 parts })
one_faulty kept input parts index part old new fault more so_far read = record {
  fields = so_far.fields ++ read.fields;
  are_fields = so_far.goes_on read.fields (Some fault)
      (subst (λ pieces. AreFieldsOf input pieces read.fields (Some fault)) (sym more)
      (inr (record { found = fault; is_fault = refl; is_faulty = read.is_piece })));
  are_known = read.is_added ∙ ap (λ front. front ++ filter kept read.fields) so_far.are_known
      ∙ sym (filter-append kept so_far.fields read.fields);
  is_end = refl;
}

-- a piece is whole, as the test of its fault says
pub goes_on : (kept : PlacedField → Bool) (input : List ℕ) (parts : List Part) (index : ℕ) (part : Part) (old new : List PlacedField)
    (fault : Option WireFault) → drop index parts ≡ part ∷ drop (index + 1) parts → ReadUpTo kept input parts index old →
    IsRead kept input part old new fault → is_some fault ≡ false → ReadUpTo kept input parts (index + 1) new
goes_on kept input parts index part old new None more so_far read none =
    one_whole kept input parts index part old new more so_far read
goes_on kept input parts index part old new (Some fault) more so_far read none = absurd (true≢false none)

-- a piece is at fault, as the test of its fault says
pub stops : (kept : PlacedField → Bool) (input : List ℕ) (parts : List Part) (index : ℕ) (part : Part) (old new : List PlacedField)
    (fault : Option WireFault) → drop index parts ≡ part ∷ drop (index + 1) parts → ReadUpTo kept input parts index old →
    IsRead kept input part old new fault → is_some fault ≡ true →
    IsReadingOf kept input parts (record { fields = new; wire_fault = fault; end = end_of 0 parts })
stops kept input parts index part old new None more so_far read some = absurd (true≢false (sym some))
stops kept input parts index part old new (Some fault) more so_far read some =
    one_faulty kept input parts index part old new fault more so_far read

-- all pieces were read
pub all_read : (kept : PlacedField → Bool) (input : List ℕ) (parts : List Part) (index : ℕ) (found : List PlacedField) →
    length parts ≤ index → ReadUpTo kept input parts index found →
    IsReadingOf kept input parts (record { fields = found; wire_fault = None; end = end_of 0 parts })
all_read kept input parts index found ended so_far = record {
  fields = so_far.fields;
  are_fields = subst (λ fields. AreFieldsOf input parts fields None) (append-nil so_far.fields)
      (so_far.goes_on [] None (subst (λ pieces. AreFieldsOf input pieces [] None) (sym (at_drop_all (λ pieces. pieces) parts index ended)) (refl, refl)));
  are_known = so_far.are_known;
  is_end = refl;
}

-- what a field holds stands within the input
holds_within : (input : List ℕ) (at end number : ℕ) (payload : Payload) (held : Held) → Holds input at end number payload held →
    IsWithin input held
holds_within input at end number (Varint value) held holds = subst (IsWithin input) (sym holds) tt
holds_within input at end number (Eight value) held holds = subst (IsWithin input) (sym holds.is_held) holds.is_part
holds_within input at end number (Bytes content) held holds = subst (IsWithin input) (sym holds.is_held) holds.is_part
holds_within input at end number (Group content) held holds = subst (IsWithin input) (sym holds.is_held) holds.is_part
holds_within input at end number (Four value) held holds = subst (IsWithin input) (sym holds.is_held) holds.is_part

fields_within : (input : List ℕ) (begin : ℕ) (fields : List PlacedField) (end : ℕ) → AreFieldsIn input begin fields end → AreWithin input fields
fields_within input begin [] end are = tt
fields_within input begin (field ∷ fields) end are = (
  holds_within input field.at are.end field.number are.is_field.payload field.held are.is_field.holds,
  fields_within input are.end fields end are.follow,
)

both_within : (input : List ℕ) (first rest : List PlacedField) → AreWithin input first → AreWithin input rest → AreWithin input (first ++ rest)
both_within input [] rest one other = other
both_within input (field ∷ first) rest one other = (one.0, both_within input first rest one.1 other)

all_within : (input : List ℕ) (parts : List Part) (fields : List PlacedField) (fault : Option WireFault) →
    AreFieldsOf input parts fields fault → AreWithin input fields
all_within input [] fields fault are = subst (AreWithin input) (sym are.0) tt
all_within input (part ∷ parts) fields fault are =
    elim are as (λ a. AreWithin input fields) [
      | inl piece ↦ subst (AreWithin input) (sym piece.are_both)
          (both_within input piece.first piece.rest (fields_within input part.begin piece.first part.end piece.is_whole)
          (all_within input parts piece.rest fault piece.follow))
      | inr piece ↦ fields_within input part.begin fields piece.is_faulty.place piece.is_faulty.are_fields
    ]

known_within : (input : List ℕ) (p : PlacedField → Bool) (fields : List PlacedField) → AreWithin input fields → AreWithin input (filter p fields)
known_within input p [] within = tt
known_within input p (field ∷ fields) within =
    elim (p field) as (λ b. AreWithin input (cond b (field ∷ filter p fields) (filter p fields))) [
      | true ↦ (within.0, known_within input p fields within.1)
      | false ↦ known_within input p fields within.1
    ]

-- the contents of the fields that were kept stand within the input
pub kept_within : (kept : PlacedField → Bool) (input : List ℕ) (parts : List Part) (message : Message) →
    IsReadingOf kept input parts message → AreWithin input message.fields
kept_within kept input parts message reading =
    subst (AreWithin input) (sym reading.are_known)
    (known_within input kept reading.fields (all_within input parts reading.fields message.wire_fault reading.are_fields))

-- the contents of a message that was read stand within the input
pub reading_within : (known : List Known) (input : List ℕ) (parts : List Part) (message : Message) →
    IsReading known input parts message → AreWithin input message.fields
reading_within known input parts message reading = kept_within (is_known known) input parts message reading

-- the contents of a whole message stand within the input
pub whole_within : (input : List ℕ) (parts : List Part) (message : Message) → IsWholeReading input parts message →
    AreWithin input message.fields
whole_within input parts message reading = all_within input parts message.fields message.wire_fault reading.are_fields

all_kept : (fields : List PlacedField) → filter (λ field. true) fields ≡ fields
all_kept [] = refl
all_kept (field ∷ fields) = ap (λ rest. field ∷ rest) (all_kept fields)

-- a reading of which every field is kept is a whole one
pub whole_read : (input : List ℕ) (parts : List Part) (message : Message) → IsReadingOf (λ field. true) input parts message →
    IsWholeReading input parts message
whole_read input parts message reading = record {
  are_fields = subst (λ fields. AreFieldsOf input parts fields message.wire_fault)
      (sym (reading.are_known ∙ all_kept reading.fields)) reading.are_fields;
  is_end = reading.is_end;
}
