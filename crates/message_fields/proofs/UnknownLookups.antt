-- Fields that a table lacks change no look-up of a field that it has.
use Rattle.std.proofs.Common.{◌≡◌, ℕ, ◌==◌, ◌||◌, ◌&&◌, Bool, true, false, cond, not, List, [], ◌∷◌, ◌++◌, Some, None, if◌then◌else◌, is_some, refl, sym, ap, ◌∙◌, arith, true≢false}
use Rattle.std.specs.List.{AllByRecursion, filter, find, last_or}
use Rattle.std.proofs.lemmas.Bool.Decides.{nat_tests}
use Rattle.std.proofs.lemmas.List.{append-nil}
use Rattle.std.proofs.lemmas.List.Elements.{filter-append}
use Rattle.message_fields.specs.declared.fault.MessageReason.TheVariants.{Missing}
use Rattle.message_fields.specs.declared.field.Known.{Known}
use Rattle.message_fields.specs.declared.field.PlacedField.{PlacedField}
use Rattle.message_fields.specs.Lookups.{has_number, last_of, has, varint_held, bytes_held, held_by, content_or_none, bytes_of, number_or}
use Rattle.message_fields.specs.Readings.{is_known}
use Rattle.message_fields.specs.Faults.{is_of_kind, is_of_wrong_kind, missing}
use Rattle.message_fields.proofs.ExtraFields.{knows}

-- the table lacks these fields
abbrev pub AreUnknown : List Known → List PlacedField → Type 0
AreUnknown known fields = AllByRecursion (λ (field : PlacedField). is_known known field ≡ false) fields

neither : (a b : Bool) → (a || b) ≡ false → (a ≡ false) × (b ≡ false)
neither true b is = absurd (true≢false is)
neither false b is = (refl, is)

other_number : (entry number field : ℕ) → (entry == number) ≡ true → (entry == field) ≡ false → (field == number) ≡ false
other_number entry number field same other = grind (arith, nat_tests, same, other)

-- a field that the table lacks has another number than one that it has
lacks : (known : List Known) (number : ℕ) (field : PlacedField) → knows known number ≡ true → is_known known field ≡ false →
    has_number number field ≡ false
lacks [] number field has is = absurd (true≢false (sym has))
lacks (entry ∷ known) number field has is =
    let parts = neither (entry.0 == field.number) (is_known known field) is in
    either entry known number field (entry.0 == number) refl has parts.0 (λ more. lacks known number field more parts.1)
  where
    either : (entry : Known) (known : List Known) (number : ℕ) (field : PlacedField) (b : Bool) → (entry.0 == number) ≡ b →
        (b || knows known number) ≡ true → (entry.0 == field.number) ≡ false →
        (knows known number ≡ true → has_number number field ≡ false) → has_number number field ≡ false
    either entry known number field true same has other later = other_number entry.0 number field.number same other
    either entry known number field false same has other later = later has

none_of_number : (known : List Known) (number : ℕ) (fields : List PlacedField) → knows known number ≡ true → AreUnknown known fields →
    filter (has_number number) fields ≡ []
none_of_number known number [] has are = refl
none_of_number known number (field ∷ fields) has are =
    ap (λ b. cond b (field ∷ filter (has_number number) fields) (filter (has_number number) fields)) (lacks known number field has are.0)
    ∙ none_of_number known number fields has are.1

-- the last field of a number that the table has
pub known_last : (known : List Known) (number : ℕ) (first rest : List PlacedField) → knows known number ≡ true → AreUnknown known rest →
    last_of number (first ++ rest) ≡ last_of number first
known_last known number first rest has are =
    ap (last_or None) (filter-append (has_number number) first rest
    ∙ ap (λ back. filter (has_number number) first ++ back) (none_of_number known number rest has are)
    ∙ append-nil (filter (has_number number) first))

-- a field that the table lacks has no wrong kind
right_kind : (known : List Known) (field : PlacedField) → is_known known field ≡ false → is_of_wrong_kind known field ≡ false
right_kind [] field is = refl
right_kind (entry ∷ known) field is =
    let parts = neither (entry.0 == field.number) (is_known known field) is in
    ap (λ b. (b && not (is_of_kind entry.1 field.held)) || is_of_wrong_kind known field) parts.0 ∙ right_kind known field parts.1

right_kinds : (known : List Known) (fields : List PlacedField) → AreUnknown known fields → find (is_of_wrong_kind known) fields ≡ None
right_kinds known [] are = refl
right_kinds known (field ∷ fields) are =
    ap (λ b. cond b (Some field) (find (is_of_wrong_kind known) fields)) (right_kind known field are.0) ∙ right_kinds known fields are.1

-- the first field of a wrong kind
pub first_wrong : (known : List Known) (first rest : List PlacedField) → AreUnknown known rest →
    find (is_of_wrong_kind known) (first ++ rest) ≡ find (is_of_wrong_kind known) first
first_wrong known [] rest are = right_kinds known rest are
first_wrong known (field ∷ first) rest are =
    ap (λ found. cond (is_of_wrong_kind known field) (Some field) found) (first_wrong known first rest are)

-- a field that is there still is
pub still_there : (known : List Known) (number : ℕ) (first rest : List PlacedField) (end : ℕ) → knows known number ≡ true →
    AreUnknown known rest → has number first ≡ true →
    missing number (record { fields = first ++ rest; wire_fault = None; end = end }) ≡ None
still_there known number first rest end knows are is =
    ap (λ b. if b then None else Some (record { at = end; reason = Missing number }))
    (ap (λ found. is_some found) (known_last known number first rest knows are) ∙ is)

-- the content of a bytes field
pub same_content : (known : List Known) (input : List ℕ) (number : ℕ) (first rest : List PlacedField) → knows known number ≡ true →
    AreUnknown known rest → bytes_of input number (first ++ rest) ≡ bytes_of input number first
same_content known input number first rest knows are =
    ap (λ found. content_or_none input (held_by bytes_held found)) (known_last known number first rest knows are)

-- the value of a varint field
pub same_number : (known : List Known) (absent number : ℕ) (first rest : List PlacedField) → knows known number ≡ true →
    AreUnknown known rest → number_or absent number (first ++ rest) ≡ number_or absent number first
same_number known absent number first rest knows are =
    ap (λ found. elim (held_by varint_held found) as (λ held. ℕ) [ None ↦ absent | Some value ↦ value ])
    (known_last known number first rest knows are)
