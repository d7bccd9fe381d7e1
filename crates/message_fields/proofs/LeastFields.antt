-- Fields of least length, and the extras that are made of them.
use Rattle.std.proofs.Common.{◌≡◌, ℕ, zero, suc, ◌+◌, ◌-◌, ◌*◌, ◌/◌, ◌%◌, ◌<◌, ◌≤◌, Bool, true, false, ◌==◌, ◌&&◌, cond, not, List, [], ◌∷◌, ◌++◌, ◌⊎◌, inl, inr, Option, Some, None, Result, Ok, length, take, drop, slice_range, get_or, refl, sym, ap, subst, ◌∙◌, arith, true≢false}
use Rattle.std.specs.List.{AllByRecursion, filter, flat_map}
use Rattle.std.proofs.lemmas.List.{append_assoc, length-append, length-drop, take-append-drop, drop-drop, nil_from_length, take_all}
use Rattle.std.proofs.lemmas.Bool.Decides.{nat_tests}
use Rattle.wire_format.specs.declared.field.Field.{Field}
use Rattle.wire_format.specs.declared.field.Payload.{Payload}
use Rattle.wire_format.specs.declared.field.Payload.TheVariants.{Varint, Eight, Bytes, Group, Four}
use Rattle.wire_format.specs.declared.fault.WireFault.{WireFault}
use Rattle.wire_format.specs.Varints.{GoOn, groups_value, IsVarint}
use Rattle.wire_format.specs.Fields.{IsField}
use Rattle.wire_format.specs.Readers.{Reading, IsFaulty, IsNext}
use Rattle.wire_format.specs.Faults.{HasNoField}
use Rattle.wire_format.specs.Spellings.{least_groups, varint_of, header_of, varint_field, bytes_field, group_field}
use Rattle.wire_format.proofs.FieldLemmas.{field_some}
use Rattle.wire_format.proofs.LeastGroups.{one_group, more_groups, last_group}
use Rattle.wire_format.proofs.WrittenFields.{shortest}
use Rattle.message_fields.specs.declared.field.Known.{Known}
use Rattle.message_fields.specs.declared.field.Held.{Held}
use Rattle.message_fields.specs.declared.field.PlacedField.{PlacedField}
use Rattle.message_fields.specs.Fields.{bytes_in, whole_of, Holds, IsFieldIn, AreFieldsIn}
use Rattle.message_fields.specs.Readings.{is_known}
use Rattle.message_fields.specs.Unknown.{spelled_held, spelled, is_unknown, is_least, extra_of, IsCanonicalExtra}
use Rattle.message_fields.proofs.PartLemmas.{length_part, at_end}
use Rattle.message_fields.proofs.PieceLemmas.{StandsIn, stands_in, rest_of}
use Rattle.message_fields.proofs.OneMessage.{fields_same, stands_at_front, no_fault_of_nothing}

-- bytes of eight bits
abbrev pub AreBytes : List ℕ → Type 0
AreBytes bytes = AllByRecursion (λ byte. byte < 256) bytes

pub are_bytes : (bytes : List ℕ) → ((i : ℕ) → get_or bytes i 0 < 256) → AreBytes bytes
are_bytes [] fits = tt
are_bytes (byte ∷ bytes) fits = (fits 0, are_bytes bytes (λ i. fits (suc i)))

front_bytes : (a b : List ℕ) → AreBytes (a ++ b) → AreBytes a
front_bytes [] b are = tt
front_bytes (byte ∷ a) b are = (are.0, front_bytes a b are.1)

back_bytes : (a b : List ℕ) → AreBytes (a ++ b) → AreBytes b
back_bytes [] b are = are
back_bytes (byte ∷ a) b are = back_bytes a b are.1

drop_bytes : (count : ℕ) (bytes : List ℕ) → AreBytes bytes → AreBytes (drop count bytes)
drop_bytes count bytes are = back_bytes (take count bytes) (drop count bytes) (subst AreBytes (sym (take-append-drop count bytes)) are)

take_bytes : (count : ℕ) (bytes : List ℕ) → AreBytes bytes → AreBytes (take count bytes)
take_bytes count bytes are = front_bytes (take count bytes) (drop count bytes) (subst AreBytes (sym (take-append-drop count bytes)) are)

small_or_large : (value : ℕ) → (value < 128) ⊎ (128 ≤ value)
small_or_large value = grind arith

-- groups as few as the least ones are those
least_same : (more : ℕ) (front : List ℕ) (last : ℕ) → GoOn front → last < 128 → AreBytes front →
    length (front ++ last ∷ []) ≤ length (least_groups more (groups_value (front ++ last ∷ []))) →
    least_groups more (groups_value (front ++ last ∷ [])) ≡ front ++ last ∷ []
unfolding groups_value
least_same more [] last goes ends are few =
    let same : last % 128 + 128 * 0 ≡ last = omega (arith, ends) in
    ap (least_groups more) same ∙ one_group more last ends
least_same zero (byte ∷ front) last goes ends are few =
    absurd (omega (arith, few, ap length (last_group (byte % 128 + 128 * groups_value (front ++ last ∷ []))), length-append front (last ∷ [])))
least_same (suc more) (byte ∷ front) last goes ends are few =
    either more byte front last goes are few (least_same more front last goes.1 ends are.1)
    (small_or_large (byte % 128 + 128 * groups_value (front ++ last ∷ [])))
  where
    either : (more byte : ℕ) (front : List ℕ) (last : ℕ) → GoOn (byte ∷ front) → AreBytes (byte ∷ front) →
        length (byte ∷ (front ++ last ∷ [])) ≤ length (least_groups (suc more) (byte % 128 + 128 * groups_value (front ++ last ∷ []))) →
        (length (front ++ last ∷ []) ≤ length (least_groups more (groups_value (front ++ last ∷ []))) →
        least_groups more (groups_value (front ++ last ∷ [])) ≡ front ++ last ∷ []) →
        (byte % 128 + 128 * groups_value (front ++ last ∷ []) < 128) ⊎ (128 ≤ byte % 128 + 128 * groups_value (front ++ last ∷ [])) →
        least_groups (suc more) (byte % 128 + 128 * groups_value (front ++ last ∷ [])) ≡ byte ∷ (front ++ last ∷ [])
    either more byte front last goes are few later (inl small) =
        absurd (omega (
          arith,
          few,
          ap length (one_group (suc more) (byte % 128 + 128 * groups_value (front ++ last ∷ [])) small),
          length-append front (last ∷ []),
        ))
    either more byte front last goes are few later (inr large) =
        let value : ℕ = byte % 128 + 128 * groups_value (front ++ last ∷ []) in
        let rest : value / 128 ≡ groups_value (front ++ last ∷ []) = omega arith in
        let first : value % 128 + 128 ≡ byte = omega (arith, goes.0, are.0) in
        let groups = more_groups more value large in
        groups ∙ ap (λ byte. byte ∷ least_groups more (value / 128)) first
        ∙ ap (λ number. byte ∷ least_groups more number) rest
        ∙ ap (λ back. byte ∷ back) (later (omega (arith, few, ap length groups, ap (λ number. length (least_groups more number)) rest)))

-- these bytes are at least as many as the others, and those where they are no more
pub record IsAtMost (bytes least : List ℕ) : Type 0 where
  pub short : length least ≤ length bytes
  pub same : AreBytes bytes → length bytes ≤ length least → least ≡ bytes

at_most_itself : (bytes : List ℕ) → IsAtMost bytes bytes
at_most_itself bytes = record { short = omega arith; same = λ are few. refl }

at_most_varint : (bytes : List ℕ) (value : ℕ) → IsVarint bytes value → IsAtMost bytes (varint_of value)
at_most_varint bytes value varint = record {
  short = shortest bytes value varint;
  same = λ are few.
      let is : value ≡ groups_value (varint.front ++ varint.last ∷ []) = varint.is_value ∙ ap groups_value varint.is_whole in
      ap varint_of is
      ∙ least_same 9 varint.front varint.last varint.goes_on varint.ends
      (front_bytes varint.front (varint.last ∷ []) (subst AreBytes varint.is_whole are))
      (omega (arith, few, ap length varint.is_whole, ap (λ number. length (varint_of number)) is))
      ∙ sym varint.is_whole;
}

at_most_both : (a x b y : List ℕ) → IsAtMost a x → IsAtMost b y → IsAtMost (a ++ b) (x ++ y)
at_most_both a x b y one two = record {
  short = omega (arith, one.short, two.short, length-append a b, length-append x y);
  same = λ are few.
      ap (λ front. front ++ y) (one.same (front_bytes a b are) (omega (arith, few, two.short, length-append a b, length-append x y)))
      ∙ ap (λ back. a ++ back) (two.same (back_bytes a b are) (omega (arith, few, one.short, length-append a b, length-append x y)));
}

-- fixed bytes at the end of a field are what follows its header
pub fixed_is : (input : List ℕ) (at end size begin last : ℕ) (header body : List ℕ) → at ≤ end → end ≤ length input →
    last ≡ begin + size → last ≡ end → length body ≡ size → slice_range input at end ≡ header ++ body → slice_range input begin last ≡ body
fixed_is input at end size begin last header body before within long ends fixed whole =
    let start : begin ≡ end - length body = omega (arith, long, ends, fixed) in
    ap (slice_range input begin) ends ∙ ap (λ place. slice_range input place end) start
    ∙ at_end input at end header body before within whole

-- no spelling of what a field holds is shorter than its least one
at_most : (input : List ℕ) (at end number : ℕ) (payload : Payload) (held : Held) → at ≤ end → end ≤ length input →
    IsField (slice_range input at end) number payload → Holds input at end number payload held →
    IsAtMost (slice_range input at end) (spelled_held input number held)
at_most input at end number (Varint value) held before within field holds =
    subst (λ found. IsAtMost (slice_range input at end) (spelled_held input number found)) (sym holds)
    (subst (λ bytes. IsAtMost bytes (varint_field number value)) (sym field.is_whole)
    (at_most_both field.header (header_of number 0) field.body (varint_of value)
    (at_most_varint field.header (number * 8 + 0) field.is_header.is_varint) (at_most_varint field.body value field.is_plain)))
at_most input at end number (Eight value) held before within field holds =
    let content : bytes_in input holds.part ≡ field.body
    = fixed_is input at end 8 holds.part.begin holds.part.end field.header field.body before within holds.is_long holds.ends field.is_plain.0 field.is_whole in
    subst (λ found. IsAtMost (slice_range input at end) (spelled_held input number found)) (sym holds.is_held)
    (subst (λ bytes. IsAtMost bytes (header_of number 1 ++ bytes_in input holds.part)) (sym field.is_whole)
    (at_most_both field.header (header_of number 1) field.body (bytes_in input holds.part)
    (at_most_varint field.header (number * 8 + 1) field.is_header.is_varint)
    (subst (λ bytes. IsAtMost field.body bytes) (sym content) (at_most_itself field.body))))
at_most input at end number (Bytes content) held before within field holds =
    let body = field.is_plain in
    subst (λ found. IsAtMost (slice_range input at end) (spelled_held input number found)) (sym holds.is_held)
    (subst (λ held. IsAtMost (slice_range input at end) (bytes_field number held)) (sym holds.is_content)
    (subst (λ bytes. IsAtMost bytes (bytes_field number content.now))
    (append_assoc field.header body.count content.now ∙ ap (λ rest. field.header ++ rest) (sym body.is_whole) ∙ sym field.is_whole)
    (at_most_both (field.header ++ body.count) (header_of number 2 ++ varint_of (length content.now)) content.now content.now
    (at_most_both field.header (header_of number 2) body.count (varint_of (length content.now))
    (at_most_varint field.header (number * 8 + 2) field.is_header.is_varint)
    (at_most_varint body.count (length content.now) body.is_count)) (at_most_itself content.now))))
at_most input at end number (Group content) held before within field holds =
    subst (λ found. IsAtMost (slice_range input at end) (spelled_held input number found)) (sym holds.is_held)
    (subst (λ held. IsAtMost (slice_range input at end) (group_field number held)) (sym holds.is_content)
    (subst (λ bytes. IsAtMost bytes (group_field number content.now)) (sym field.is_whole)
    (at_most_both (field.start ++ content.now) (header_of number 3 ++ content.now) field.end (header_of number 4)
    (at_most_both field.start (header_of number 3) content.now content.now
    (at_most_varint field.start (number * 8 + 3) field.is_start.is_varint) (at_most_itself content.now))
    (at_most_varint field.end (number * 8 + 4) field.is_end.is_varint))))
at_most input at end number (Four value) held before within field holds =
    let content : bytes_in input holds.part ≡ field.body
    = fixed_is input at end 4 holds.part.begin holds.part.end field.header field.body before within holds.is_long holds.ends field.is_plain.0 field.is_whole in
    subst (λ found. IsAtMost (slice_range input at end) (spelled_held input number found)) (sym holds.is_held)
    (subst (λ bytes. IsAtMost bytes (header_of number 5 ++ bytes_in input holds.part)) (sym field.is_whole)
    (at_most_both field.header (header_of number 5) field.body (bytes_in input holds.part)
    (at_most_varint field.header (number * 8 + 5) field.is_header.is_varint)
    (subst (λ bytes. IsAtMost field.body bytes) (sym content) (at_most_itself field.body))))

-- no spelling of a field is shorter than its least one
field_at_most : (input : List ℕ) (field : PlacedField) (end : ℕ) → field.at ≤ end → end ≤ length input → IsFieldIn input field end →
    IsAtMost (slice_range input field.at end) (spelled input field)
field_at_most input field end before within is =
    at_most input field.at end field.number is.payload field.held before within is.is_field is.holds

-- a field stands next that the table lacks, of least length, and up to the end of the input others follow
pub record IsLeastNext (Follow : ℕ → Type 0) (known : List Known) (input : List ℕ) (begin : ℕ) (field : PlacedField) : Type 0 where
  pub end : ℕ
  pub is_next : field.at ≡ begin
  pub is_field : IsFieldIn input field end
  pub is_after : begin ≤ end
  pub is_within : end ≤ length input
  pub is_unknown : is_known known field ≡ false
  pub is_least : length (spelled input field) ≡ end - begin
  pub follow : Follow end

-- the input is such fields, from a place on
abbrev pub AreLeast : List Known → List ℕ → ℕ → List PlacedField → Type 0
AreLeast known input begin [] = begin ≡ length input
AreLeast known input begin (field ∷ fields) = IsLeastNext (λ next. AreLeast known input next fields) known input begin field

pub record IsLeastFrom (known : List Known) (input : List ℕ) (begin : ℕ) : Type 0 where
  pub fields : List PlacedField
  pub are_least : AreLeast known input begin fields

-- a field more of an extra
pub one_extra : (known : List Known) (input : List ℕ) (field : PlacedField) (fields : List PlacedField) (b : Bool) → is_known known field ≡ b →
    extra_of known input (field ∷ fields) ≡ cond b [] (spelled input field) ++ extra_of known input fields
one_extra known input field fields true is =
    ap (λ b. flat_map (spelled input) (cond (not b) (field ∷ filter (is_unknown known) fields) (filter (is_unknown known) fields))) is
one_extra known input field fields false is =
    ap (λ b. flat_map (spelled input) (cond (not b) (field ∷ filter (is_unknown known) fields) (filter (is_unknown known) fields))) is

-- such fields are fields, and their extra is what they are
least_are : (known : List Known) (input : List ℕ) (begin : ℕ) (fields : List PlacedField) → AreBytes input → begin ≤ length input →
    AreLeast known input begin fields → AreFieldsIn input begin fields (length input) × (extra_of known input fields ≡ drop begin input)
least_are known input begin [] are within least = (least, sym (drop_end input begin least))
  where
    drop_end : (input : List ℕ) (begin : ℕ) → begin ≡ length input → drop begin input ≡ []
    drop_end input begin ends = nil_from_length (drop begin input) (omega (arith, length-drop begin input, ends))
least_are known input begin (field ∷ fields) are within least =
    let rest = least_are known input least.end fields are least.is_within least.follow in
    let most = field_at_most input field least.end (omega (arith, least.is_next, least.is_after)) least.is_within least.is_field in
    let long : length (slice_range input field.at least.end) ≡ least.end - begin
    = omega (arith, least.is_next, length_part input field.at least.end (omega (arith, least.is_next, least.is_after)) least.is_within) in
    let same : spelled input field ≡ slice_range input begin least.end
    = most.same (take_bytes (least.end - field.at) (drop field.at input) (drop_bytes field.at input are)) (omega (arith, long, least.is_least))
    ∙ ap (λ place. slice_range input place least.end) least.is_next in
    let end : begin + (least.end - begin) ≡ least.end = omega (arith, least.is_after) in (
      record { end = least.end; is_next = least.is_next; is_field = least.is_field; is_after = least.is_after; follow = rest.0 },
      one_extra known input field fields false least.is_unknown ∙ ap (λ front. front ++ extra_of known input fields) same
          ∙ ap (λ back. slice_range input begin least.end ++ back)
          (rest.1 ∙ ap (λ place. drop place input) (sym end) ∙ sym (drop-drop (least.end - begin) begin input))
          ∙ take-append-drop (least.end - begin) (drop begin input),
    )

-- an extra is no longer than its fields
extra_short : (known : List Known) (input : List ℕ) (begin : ℕ) (fields : List PlacedField) (end : ℕ) → end ≤ length input →
    AreFieldsIn input begin fields end → begin + length (extra_of known input fields) ≤ end
extra_short known input begin [] end within are = omega (arith, are)
extra_short known input begin (field ∷ fields) end within are =
    let rest = extra_short known input are.end fields end within are.follow in
    either known input field fields begin are.end (is_known known field) refl are.is_after
    (let most = field_at_most input field are.end (omega (arith, are.is_next, are.is_after)) (omega (arith, rest, within)) are.is_field in
    omega (arith, most.short, are.is_next, length_part input field.at are.end (omega (arith, are.is_next, are.is_after)) (omega (arith, rest, within))))
    end rest
  where
    either : (known : List Known) (input : List ℕ) (field : PlacedField) (fields : List PlacedField) (begin next : ℕ) (b : Bool) →
        is_known known field ≡ b → begin ≤ next → begin + length (spelled input field) ≤ next → (end : ℕ) →
        next + length (extra_of known input fields) ≤ end → begin + length (extra_of known input (field ∷ fields)) ≤ end
    either known input field fields begin next true is after short end rest =
        omega (arith, after, rest, ap length (one_extra known input field fields true is))
    either known input field fields begin next false is after short end rest =
        omega (
          arith,
          short,
          rest,
          ap length (one_extra known input field fields false is),
          length-append (spelled input field) (extra_of known input fields),
        )

-- fields whose extra is the rest of the input are such fields
extra_least : (known : List Known) (input : List ℕ) (begin : ℕ) (fields : List PlacedField) → AreFieldsIn input begin fields (length input) →
    begin + length (extra_of known input fields) ≡ length input → AreLeast known input begin fields
extra_least known input begin [] are long = are
extra_least known input begin (field ∷ fields) are long =
    let rest = extra_short known input are.end fields (length input) (omega arith) are.follow in
    let within : are.end ≤ length input = omega (arith, rest) in
    let before : field.at ≤ are.end = omega (arith, are.is_next, are.is_after) in
    let part = length_part input field.at are.end before within in
    let most = field_at_most input field are.end before within are.is_field in
    let some = field_some (slice_range input field.at are.end) field.number are.is_field.payload are.is_field.is_field in
    either known input field fields begin are.end (is_known known field) refl (omega (arith, some, part, are.is_next)) within are.is_next are.is_field
    (omega (arith, most.short, part, are.is_next)) rest long (extra_least known input are.end fields are.follow)
  where
    either : (known : List Known) (input : List ℕ) (field : PlacedField) (fields : List PlacedField) (begin end : ℕ) (b : Bool) →
        is_known known field ≡ b → begin < end → end ≤ length input → field.at ≡ begin → IsFieldIn input field end →
        begin + length (spelled input field) ≤ end → end + length (extra_of known input fields) ≤ length input →
        begin + length (extra_of known input (field ∷ fields)) ≡ length input →
        (end + length (extra_of known input fields) ≡ length input → AreLeast known input end fields) →
        AreLeast known input begin (field ∷ fields)
    either known input field fields begin end true is after within at is_field short rest long later =
        absurd (omega (arith, after, rest, long, ap length (one_extra known input field fields true is)))
    either known input field fields begin end false is after within at is_field short rest long later =
        let both = ap length (one_extra known input field fields false is) in
        let sum = length-append (spelled input field) (extra_of known input fields) in
        record {
          end = end;
          is_next = at;
          is_field = is_field;
          is_after = omega (arith, after);
          is_within = within;
          is_unknown = is;
          is_least = omega (arith, short, rest, long, both, sum, after);
          follow = later (omega (arith, short, rest, long, both, sum));
        }

-- bytes are canonical where they are such fields
pub least_is_canonical : (known : List Known) (extra : List ℕ) → AreBytes extra → IsLeastFrom known extra 0 → IsCanonicalExtra known extra
least_is_canonical known extra are least =
    let is = least_are known extra 0 least.fields are (omega arith) least.are_least in
    record { fields = least.fields; are_fields = is.0; is_extra = is.1 }

canonical_is_least : (known : List Known) (extra : List ℕ) → IsCanonicalExtra known extra → IsLeastFrom known extra 0
canonical_is_least known extra canonical = record {
  fields = canonical.fields;
  are_least = extra_least known extra 0 canonical.fields canonical.are_fields (omega (arith, ap length canonical.is_extra));
}

whole_is : (extra : List ℕ) → bytes_in extra (whole_of extra) ≡ extra
whole_is extra = take_all (length extra - 0) extra (omega arith)

-- the reader has come to a place, and whether the bytes are canonical is a matter of what is left
pub record CanonicalSoFar (known : List Known) (extra : List ℕ) (reader : Reading) : Type 0 where
  pub is_bytes : reader.bytes ≡ extra
  pub is_within : reader.at ≤ length extra
  pub has_no_fault : reader.fault ≡ None
  pub goes_on : IsLeastFrom known extra reader.at → IsCanonicalExtra known extra
  pub comes : IsCanonicalExtra known extra → IsLeastFrom known extra reader.at

pub at_front : (known : List Known) (extra : List ℕ) (reader : Reading) → AreBytes extra →
    reader ≡ record { bytes = extra; at = 0; fault = None } → CanonicalSoFar known extra reader
at_front known extra reader are is =
    subst (CanonicalSoFar known extra) (sym is) (record {
      is_bytes = refl;
      is_within = omega arith;
      has_no_fault = refl;
      goes_on = least_is_canonical known extra are;
      comes = canonical_is_least known extra;
    })

-- the next field stands in the bytes
pub field_stands : (known : List Known) (extra : List ℕ) (old new : Reading) (result : Result (Option Field) WireFault) (found : Option Field)
    (field : Field) → CanonicalSoFar known extra old → (old.fault ≡ None → IsNext old result new) → result ≡ Ok found → found ≡ Some field →
    StandsIn extra (whole_of extra) old field new
field_stands known extra old new result found field so_far next ok some =
    stands_in extra (whole_of extra) old new field (omega arith, omega arith) (so_far.is_bytes ∙ sym (whole_is extra)) (omega (arith, so_far.is_within))
    (subst (λ told. IsNext old told new) (ok ∙ ap Ok some) (next so_far.has_no_fault))

-- what is left begins with a field that stands there
first_least : (known : List Known) (extra : List ℕ) (begin end : ℕ) (field : PlacedField) → field.at ≡ begin → begin < end →
    end ≤ length extra → IsFieldIn extra field end → (fields : List PlacedField) → AreLeast known extra begin fields →
    (is_known known field ≡ false) × (length (spelled extra field) ≡ end - begin) × IsLeastFrom known extra end
first_least known extra begin end field at after within is [] least = absurd (omega (arith, least, after, within))
first_least known extra begin end field at after within is (first ∷ fields) least =
    let same = fields_same extra first field least.end end (least.is_next ∙ sym at) (omega (arith, least.is_next, least.is_after))
    (omega (arith, least.is_next, after)) least.is_within within least.is_field is in (
      ap (is_known known) (sym same.1) ∙ least.is_unknown,
      ap (λ field. length (spelled extra field)) (sym same.1) ∙ least.is_least ∙ ap (λ place. place - begin) same.0,
      record { fields = fields; are_least = subst (λ place. AreLeast known extra place fields) same.0 least.follow },
    )

least_parts : (known : Bool) (long size : ℕ) → (not known && (long == size)) ≡ true → (known ≡ false) × (long ≡ size)
least_parts true long size is = absurd (true≢false (sym is))
least_parts false long size is = (refl, grind (arith, nat_tests, is))

both_parts : (known : Bool) (long size : ℕ) → known ≡ false → long ≡ size → (not known && (long == size)) ≡ false → ⊥
both_parts true long size unknown same is = true≢false unknown
both_parts false long size unknown same is = grind (arith, nat_tests, same, is)

-- a field that an extra may have was read
pub goes_on : (known : List Known) (extra : List ℕ) (old new : Reading) (field : Field) (placed : PlacedField) → CanonicalSoFar known extra old →
    StandsIn extra (whole_of extra) old field new → IsFieldIn extra placed new.at → placed.at ≡ 0 + field.at →
    is_least known extra placed new.at ≡ true → CanonicalSoFar known extra new
goes_on known extra old new field placed so_far stands is at least =
    let parts = least_parts (is_known known placed) (length (spelled extra placed)) (new.at - placed.at) least in
    let here : placed.at ≡ old.at = omega (arith, at, stands.is_next) in
    let within : new.at ≤ length extra = omega (arith, stands.is_within) in
    record {
      is_bytes = stands.is_same ∙ so_far.is_bytes;
      is_within = within;
      has_no_fault = stands.keeps ∙ so_far.has_no_fault;
      goes_on = λ rest. so_far.goes_on (record {
        fields = placed ∷ rest.fields;
        are_least = record {
          end = new.at;
          is_next = here;
          is_field = is;
          is_after = omega (arith, stands.goes_on);
          is_within = within;
          is_unknown = parts.0;
          is_least = omega (arith, parts.1, here);
          follow = rest.are_least;
        };
      });
      comes = λ canonical.
          let least = so_far.comes canonical in
          (first_least known extra old.at new.at placed here stands.goes_on within is least.fields least.are_least).2;
    }

-- a field that no extra has was read
pub stops : (known : List Known) (extra : List ℕ) (old new : Reading) (field : Field) (placed : PlacedField) → CanonicalSoFar known extra old →
    StandsIn extra (whole_of extra) old field new → IsFieldIn extra placed new.at → placed.at ≡ 0 + field.at →
    is_least known extra placed new.at ≡ false → IsCanonicalExtra known extra → ⊥
stops known extra old new field placed so_far stands is at fails canonical =
    let here : placed.at ≡ old.at = omega (arith, at, stands.is_next) in
    let least = so_far.comes canonical in
    let first = first_least known extra old.at new.at placed here stands.goes_on (omega (arith, stands.is_within)) is least.fields least.are_least in
    both_parts (is_known known placed) (length (spelled extra placed)) (new.at - placed.at) first.0 (omega (arith, first.1, here)) fails

-- nothing is left
pub ends : (known : List Known) (extra : List ℕ) (reader : Reading) → CanonicalSoFar known extra reader → drop reader.at reader.bytes ≡ [] →
    IsCanonicalExtra known extra
ends known extra reader so_far none =
    so_far.goes_on (record {
      fields = [];
      are_least = omega (arith, so_far.is_within, ap length none, length-drop reader.at reader.bytes, ap length so_far.is_bytes);
    })

-- what is left is at fault
pub is_at_fault : (known : List Known) (extra : List ℕ) (old new : Reading) (fault : WireFault) → CanonicalSoFar known extra old →
    IsFaulty old fault new → IsCanonicalExtra known extra → ⊥
is_at_fault known extra old new fault so_far faulty canonical =
    let least = so_far.comes canonical in
    let same = rest_of extra (whole_of extra) old (omega arith, omega arith) (so_far.is_bytes ∙ sym (whole_is extra)) (omega (arith, so_far.is_within)) in
    let place : 0 + old.at ≡ old.at = omega arith in
    no_least known extra old.at least.fields
    (subst HasNoField (same ∙ ap (λ begin. slice_range extra begin (length extra)) place) faulty.is_first)
    (λ none. no_fault_of_nothing (drop old.at old.bytes) fault.reason faulty.place
    (nil_from_length (drop old.at old.bytes) (omega (arith, length-drop old.at old.bytes, ap length so_far.is_bytes, none))) faulty.is_fault)
    so_far.is_within least.are_least
  where
    no_least : (known : List Known) (extra : List ℕ) (begin : ℕ) (fields : List PlacedField) → HasNoField (slice_range extra begin (length extra)) →
        (begin ≡ length extra → ⊥) → begin ≤ length extra → AreLeast known extra begin fields → ⊥
    no_least known extra begin [] none some within least = some least
    no_least known extra begin (field ∷ fields) none some within least =
        stands_at_front extra begin (length extra) least.end field least.is_next least.is_after least.is_within (omega arith) least.is_field none
