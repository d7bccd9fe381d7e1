-- Reading a piece of a message, field by field.
use Rattle.std.proofs.Common.{◌≡◌, ℕ, ◌+◌, ◌-◌, ◌<◌, ◌≤◌, Bool, List, [], ◌∷◌, ◌++◌, Option, Some, None, Result, Ok, length, take, drop, slice_range, refl, sym, ap, subst, ◌∙◌, arith}
use Rattle.std.specs.List.{filter}
use Rattle.std.proofs.lemmas.List.{append_assoc, length-drop, length-take-le, take_all}
use Rattle.std.proofs.lemmas.List.Elements.{filter-append}
use Rattle.wire_format.specs.declared.field.Field.{Field}
use Rattle.wire_format.specs.declared.fault.WireFault.{WireFault}
use Rattle.wire_format.specs.Fields.{IsField}
use Rattle.wire_format.specs.Faults.{IsFault, HasNoField}
use Rattle.wire_format.specs.Readers.{Reading, IsRead as IsFieldRead, IsFaulty, IsNext}
use Rattle.wire_format.proofs.FieldLemmas.{field_some, fault_within}
use Rattle.message_fields.specs.declared.field.Part.{Part}
use Rattle.message_fields.specs.declared.field.PlacedField.{PlacedField}
use Rattle.message_fields.specs.Fields.{IsPartOf, bytes_in, IsFieldIn, AreFieldsIn}
use Rattle.message_fields.specs.Readings.{IsRead}
use Rattle.message_fields.proofs.PartLemmas.{length_part, part_of_part}

-- of a piece these fields were read so far, and what the table knows of them was added
pub record ReadSoFar (kept : PlacedField → Bool) (input : List ℕ) (part : Part) (old new : List PlacedField) (reader : Reading) : Type 0 where
  pub fields : List PlacedField
  pub are_fields : AreFieldsIn input part.begin fields (part.begin + reader.at)
  pub is_added : new ≡ old ++ filter kept fields
  pub is_piece : reader.bytes ≡ bytes_in input part
  pub is_within : reader.at ≤ part.end - part.begin
  pub has_no_fault : reader.fault ≡ None

-- a field of the piece stands in the input up to where the reader is
pub record StandsIn (input : List ℕ) (part : Part) (old : Reading) (field : Field) (new : Reading) : Type 0 where
  pub is_field : IsField (slice_range input (part.begin + field.at) (part.begin + new.at)) field.number field.payload
  pub is_next : field.at ≡ old.at
  pub goes_on : old.at < new.at
  pub is_within : new.at ≤ part.end - part.begin
  pub is_same : new.bytes ≡ old.bytes
  pub keeps : new.fault ≡ old.fault

-- a reader read a field of the piece
pub stands_in : (input : List ℕ) (part : Part) (old new : Reading) (field : Field) → IsPartOf input part →
    old.bytes ≡ bytes_in input part → old.at ≤ part.end - part.begin → IsFieldRead old field new → StandsIn input part old field new
stands_in input part old new field is_part piece within read =
    let long = length_part input part.begin part.end is_part.0 is_part.1 in
    let fits : old.at + read.size ≤ part.end - part.begin
    = omega (arith, read.within, length-drop old.at old.bytes, ap length piece, long, within) in
    let same : take read.size (drop old.at old.bytes) ≡ slice_range input (part.begin + old.at) (part.begin + old.at + read.size)
    = ap (λ bytes. take read.size (drop old.at bytes)) piece
    ∙ part_of_part input part.begin part.end old.at read.size is_part.0 fits in
    let at : new.at ≡ old.at + read.size = ap (λ (reading : Reading). reading.at) read.goes_on in
    let end : part.begin + old.at + read.size ≡ part.begin + new.at = omega (arith, at) in
    let some : 0 < read.size = omega (
      arith,
      field_some (take read.size (drop old.at old.bytes)) field.number field.payload read.is_field,
      length-take-le read.size (drop old.at old.bytes) read.within,
    ) in
    record {
      is_field = subst (λ bytes. IsField bytes field.number field.payload)
          (same ∙ ap (slice_range input (part.begin + old.at)) end
          ∙ ap (λ place. slice_range input (part.begin + place) (part.begin + new.at)) (sym read.is_place)) read.is_field;
      is_next = read.is_place;
      goes_on = omega (arith, at, some);
      is_within = omega (arith, at, fits);
      is_same = ap (λ (reading : Reading). reading.bytes) read.goes_on;
      keeps = ap (λ (reading : Reading). reading.fault) read.goes_on;
    }

-- the next field of a piece, as a call of the reader gave it
pub next_stands : (kept : PlacedField → Bool) (input : List ℕ) (part : Part) (fields now : List PlacedField) (old new : Reading)
    (result : Result (Option Field) WireFault) (found : Option Field) (field : Field) → IsPartOf input part →
    ReadSoFar kept input part fields now old → (old.fault ≡ None → IsNext old result new) → result ≡ Ok found → found ≡ Some field →
    StandsIn input part old field new
next_stands kept input part fields now old new result found field is_part so_far next ok some =
    stands_in input part old new field is_part so_far.is_piece so_far.is_within
    (subst (λ told. IsNext old told new) (ok ∙ ap Ok some) (next so_far.has_no_fault))

-- one more field
one_more : (input : List ℕ) (fields : List PlacedField) (begin : ℕ) (field : PlacedField) (end : ℕ) →
    AreFieldsIn input begin fields field.at → IsFieldIn input field end → field.at ≤ end →
    AreFieldsIn input begin (fields ++ field ∷ []) end
one_more input [] begin field end are is_field before = record {
  end = end;
  is_next = sym are;
  is_field = is_field;
  is_after = omega (arith, are, before);
  follow = refl;
}
one_more input (first ∷ fields) begin field end are is_field before = record {
  end = are.end;
  is_next = are.is_next;
  is_field = are.is_field;
  is_after = are.is_after;
  follow = one_more input fields are.end field end are.follow is_field before;
}

-- a field that was read is one more
pub read_more : (kept : PlacedField → Bool) (input : List ℕ) (part : Part) (old new added : List PlacedField) (reader next : Reading)
    (field : Field) (placed : PlacedField) → ReadSoFar kept input part old new reader → StandsIn input part reader field next →
    IsFieldIn input placed (part.begin + next.at) → placed.at ≡ part.begin + field.at →
    added ≡ new ++ filter kept (placed ∷ []) → ReadSoFar kept input part old added next
read_more kept input part old new added reader next field placed so_far stands is_field at is_added = record {
  fields = so_far.fields ++ placed ∷ [];
  are_fields = one_more input so_far.fields part.begin placed (part.begin + next.at)
      (subst (AreFieldsIn input part.begin so_far.fields) (ap (λ place. part.begin + place) (sym stands.is_next) ∙ sym at) so_far.are_fields)
      is_field (omega (arith, at, stands.is_next, stands.goes_on));
  is_added = is_added ∙ ap (λ front. front ++ filter kept (placed ∷ [])) so_far.is_added
      ∙ append_assoc old (filter kept so_far.fields) (filter kept (placed ∷ []))
      ∙ ap (λ back. old ++ back) (sym (filter-append kept so_far.fields (placed ∷ [])));
  is_piece = stands.is_same ∙ so_far.is_piece;
  is_within = stands.is_within;
  has_no_fault = stands.keeps ∙ so_far.has_no_fault;
}

-- nothing is left of the piece
pub read_whole : (kept : PlacedField → Bool) (input : List ℕ) (part : Part) (old new : List PlacedField) (reader : Reading) →
    IsPartOf input part → ReadSoFar kept input part old new reader → drop reader.at reader.bytes ≡ [] →
    IsRead kept input part old new None
read_whole kept input part old new reader is_part so_far none =
    let long = length_part input part.begin part.end is_part.0 is_part.1 in
    let end : part.begin + reader.at ≡ part.end
    = omega (arith, is_part.0, so_far.is_within, ap length none, length-drop reader.at reader.bytes, ap length so_far.is_piece, long) in
    record {
      fields = so_far.fields;
      is_piece = subst (AreFieldsIn input part.begin so_far.fields) end so_far.are_fields;
      is_added = so_far.is_added;
    }

-- what is left of a piece
pub rest_of : (input : List ℕ) (part : Part) (reader : Reading) → IsPartOf input part → reader.bytes ≡ bytes_in input part →
    reader.at ≤ part.end - part.begin → drop reader.at reader.bytes ≡ slice_range input (part.begin + reader.at) part.end
rest_of input part reader is_part piece within =
    let size : ℕ = part.end - part.begin - reader.at in
    let long : length (drop reader.at reader.bytes) ≡ size
    = omega (arith, length-drop reader.at reader.bytes, ap length piece, length_part input part.begin part.end is_part.0 is_part.1) in
    let fits : reader.at + size ≤ part.end - part.begin = omega (arith, within) in
    let end : part.begin + reader.at + size ≡ part.end = omega (arith, within, is_part.0) in
    sym (take_all size (drop reader.at reader.bytes) (omega (arith, long)))
    ∙ ap (λ bytes. take size (drop reader.at bytes)) piece
    ∙ part_of_part input part.begin part.end reader.at size is_part.0 fits
    ∙ ap (slice_range input (part.begin + reader.at)) end

-- the piece is at fault
pub read_faulty : (kept : PlacedField → Bool) (input : List ℕ) (part : Part) (old new : List PlacedField) (reader next : Reading)
    (found told : WireFault) → IsPartOf input part → ReadSoFar kept input part old new reader → IsFaulty reader found next →
    (told.at ≡ part.begin + found.at) × (told.reason ≡ found.reason) → IsRead kept input part old new (Some told)
read_faulty kept input part old new reader next found told is_part so_far faulty same = record {
  fields = so_far.fields;
  is_piece = record {
    place = part.begin + reader.at;
    offset = faulty.place;
    are_fields = so_far.are_fields;
    is_within = omega (arith, so_far.is_within, is_part.0);
    is_fault = subst (λ reason. IsFault (slice_range input (part.begin + reader.at) part.end) reason faulty.place) (sym same.1)
        (subst (λ bytes. IsFault bytes found.reason faulty.place)
        (rest_of input part reader is_part so_far.is_piece so_far.is_within) faulty.is_fault);
    is_next = subst HasNoField (rest_of input part reader is_part so_far.is_piece so_far.is_within) faulty.is_first;
    is_place = omega (arith, same.0, faulty.is_place);
  };
  is_added = so_far.is_added;
}

-- the place of a fault is one of the input
pub fault_fits : (input : List ℕ) (part : Part) (reader next : Reading) (found : WireFault) → IsPartOf input part →
    reader.bytes ≡ bytes_in input part → reader.at ≤ part.end - part.begin → IsFaulty reader found next →
    part.begin + found.at ≤ length input
fault_fits input part reader next found is_part piece within faulty =
    omega (
      arith,
      fault_within (drop reader.at reader.bytes) found.reason faulty.place faulty.is_fault,
      faulty.is_place,
      length-drop reader.at reader.bytes,
      ap length piece,
      length_part input part.begin part.end is_part.0 is_part.1,
      within,
      is_part.0,
      is_part.1,
    )
