-- A message of fields as they are written, and then an extra, and what is read of it.
use Rattle.std.proofs.Common.{◌≡◌, ℕ, ◌+◌, ◌^◌, ◌<◌, false, List, [], ◌∷◌, ◌++◌, inl, Option, None, length, refl, sym, ap, subst, ◌∙◌}
use Rattle.std.specs.List.{AllByRecursion, fold}
use Rattle.std.proofs.lemmas.List.{append-nil}
use Rattle.message_fields.specs.declared.fault.MessageFault.{MessageFault}
use Rattle.message_fields.specs.declared.field.Known.{Known}
use Rattle.message_fields.specs.declared.field.PlacedField.{PlacedField}
use Rattle.message_fields.specs.declared.message.Message.{Message}
use Rattle.message_fields.specs.Fields.{AreFieldsIn}
use Rattle.message_fields.specs.Readings.{IsWholeReading}
use Rattle.message_fields.specs.Unknown.{extra_of}
use Rattle.message_fields.specs.Faults.{first_of, first_fault}
use Rattle.message_fields.proofs.WrittenMessages.{Written, written, placed, IsSound, StandsAt, front_stands, rest_stands, fields_in}
use Rattle.message_fields.proofs.ExtraFields.{Kept, IsKept, knows, all_bytes, kept_placed, kept_fields_in, kept_extra, kept_unknown, extra_both}
use Rattle.message_fields.proofs.UnknownLookups.{AreUnknown}

-- the fields of an extra, as they are read after some fields
abbrev pub kept_after : ℕ → List Written → List Kept → List PlacedField
kept_after begin texts kept = kept_placed (begin + length (written texts)) kept

-- the message of some fields and of an extra between two places
abbrev pub message_with : ℕ → ℕ → List Written → List Kept → Message
message_with begin end texts kept = record { fields = placed begin texts ++ kept_after begin texts kept; wire_fault = None; end = end }

fields_join : (input : List ℕ) (begin middle end : ℕ) (first rest : List PlacedField) → AreFieldsIn input begin first middle →
    AreFieldsIn input middle rest end → AreFieldsIn input begin (first ++ rest) end
fields_join input begin middle end [] rest one two = subst (λ place. AreFieldsIn input place rest end) (sym one) two
fields_join input begin middle end (field ∷ first) rest one two = record {
  end = one.end;
  is_next = one.is_next;
  is_field = one.is_field;
  is_after = one.is_after;
  follow = fields_join input one.end middle end first rest one.follow two;
}

-- it is read
pub extra_is_read : (input : List ℕ) (begin end : ℕ) (texts : List Written) (kept : List Kept) → length input < 2 ^ 64 →
    AllByRecursion IsSound texts → AllByRecursion IsKept kept → StandsAt input (written texts ++ all_bytes kept) begin end →
    IsWholeReading input (record { begin = begin; end = end } ∷ []) (message_with begin end texts kept)
extra_is_read input begin end texts kept small sound are stands =
    let middle : ℕ = begin + length (written texts) in
    let fields : List PlacedField = placed begin texts ++ kept_after begin texts kept in
    record {
      are_fields = inl (record {
        first = fields;
        rest = [];
        are_both = sym (append-nil fields);
        is_whole = fields_join input begin middle end (placed begin texts) (kept_after begin texts kept)
            (fields_in input begin middle texts small sound (front_stands input (written texts) (all_bytes kept) begin end stands))
            (kept_fields_in input middle end kept are (rest_stands input (written texts) (all_bytes kept) begin end stands));
        follow = (refl, refl);
      });
      is_end = refl;
    }

-- without pieces nothing is read
pub nothing_whole : (input : List ℕ) → IsWholeReading input [] (message_with 0 0 [] [])
nothing_whole input = record { are_fields = (refl, refl); is_end = refl }

-- the table lacks the fields of the extra
pub after_unknown : (known : List Known) (begin : ℕ) (texts : List Written) (kept : List Kept) →
    AllByRecursion (λ (kept : Kept). knows known kept.number ≡ false) kept → AreUnknown known (kept_after begin texts kept)
after_unknown known begin texts kept are = kept_unknown known (begin + length (written texts)) kept are

-- it has this extra, where the table has the fields before it
pub extra_is : (known : List Known) (input : List ℕ) (begin end : ℕ) (texts : List Written) (kept : List Kept) →
    AllByRecursion IsKept kept → AllByRecursion (λ (kept : Kept). knows known kept.number ≡ false) kept →
    StandsAt input (written texts ++ all_bytes kept) begin end → extra_of known input (placed begin texts) ≡ [] →
    extra_of known input (message_with begin end texts kept).fields ≡ all_bytes kept
extra_is known input begin end texts kept are unknown stands none =
    extra_both known input (placed begin texts) (kept_after begin texts kept)
    ∙ ap (λ front. front ++ extra_of known input (kept_after begin texts kept)) none
    ∙ kept_extra known input (begin + length (written texts)) end kept are unknown
    (rest_stands input (written texts) (all_bytes kept) begin end stands)

-- where nothing is at fault, none of the faults is there
pub all_none : (faults : List (Option MessageFault)) → AllByRecursion (λ (fault : Option MessageFault). fault ≡ None) faults →
    first_fault faults ≡ None
all_none [] are = refl
all_none (fault ∷ faults) are = ap (λ first. fold first_of (first_of None first) faults) are.0 ∙ all_none faults are.1
