-- Groups of one number, as they are written, and what is read of them.
use Rattle.std.proofs.Common.{◌≡◌, ℕ, ◌+◌, ◌^◌, ◌<◌, if◌then◌else◌, List, [], ◌∷◌, ◌++◌, inl, None, length, map, refl, sym, ap, subst, ◌∙◌, arith}
use Rattle.std.specs.Borrow.{Bor}
use Rattle.std.specs.List.{AllByRecursion, concat, cons_option, flat_map}
use Rattle.std.proofs.lemmas.List.{append_assoc, append-nil, length-append}
use Rattle.wire_format.specs.declared.field.Payload.TheVariants.{Varint, Bytes, Group}
use Rattle.wire_format.specs.Fields.{MAX_NESTING, IsHeader, IsField, IsSomePlain, IsSomeField, MayFill}
use Rattle.wire_format.specs.Faults.{IsNumber}
use Rattle.wire_format.specs.Spellings.{varint_of, header_of, group_field}
use Rattle.wire_format.proofs.WrittenFields.{varint_field_is, bytes_field_is, group_field_is}
use Rattle.sync_messages.proofs.Below.{header_is}
use Rattle.message_fields.specs.declared.field.Held.TheVariants.{Group as HeldGroup}
use Rattle.message_fields.specs.declared.field.Known.{Known}
use Rattle.message_fields.specs.declared.field.Part.{Part}
use Rattle.message_fields.specs.declared.field.PlacedField.{PlacedField}
use Rattle.message_fields.specs.declared.message.Message.{Message}
use Rattle.message_fields.specs.Fields.{IsFieldIn, AreFieldsIn}
use Rattle.message_fields.specs.Lookups.{group_held, groups_of}
use Rattle.message_fields.specs.Readings.{IsReading}
use Rattle.message_fields.specs.Faults.{kind_fault, wrong_kind}
use Rattle.message_fields.proofs.WrittenMessages.{Written, a_number, some_bytes, spelled, written, IsSound, StandsAt, slice_is}
use Rattle.sync_messages.proofs.FieldRuns.{IsInTable, all_kept, none_wrong, middle_stands}
use Rattle.sync_messages.proofs.RunReadings.{same_number, Stand, ArePartsFor}

-- fields that are written are whole fields, one after another
pieces_of : (fields : List Written) → written fields ≡ concat (map spelled fields)
pieces_of [] = refl
pieces_of (field ∷ fields) = ap (λ rest. spelled field ++ rest) (pieces_of fields)

one_plain : (field : Written) → IsSound field → length (spelled field) < 2 ^ 64 → IsSomePlain (spelled field)
one_plain (a_number number value) sound small =
    record { number = number; payload = Varint value; is_plain = varint_field_is number value sound.0 sound.1 }
one_plain (some_bytes number content) sound small =
    let held : Bor (List ℕ) = record { ref_ptr = (0, 0); now = content } in
    record {
      number = number;
      payload = Bytes held;
      is_plain = bytes_field_is number held sound
          (omega (arith, small, length-append (header_of number 2 ++ varint_of (length content)) content));
    }

all_plain : (room : ℕ) (fields : List Written) → AllByRecursion IsSound fields → length (written fields) < 2 ^ 64 →
    AllByRecursion (IsSomeField (MayFill room)) (map spelled fields)
all_plain room [] sound small = tt
all_plain room (field ∷ fields) sound small = (
  inl (one_plain field sound.0 (omega (arith, small, length-append (spelled field) (written fields)))),
  all_plain room fields sound.1 (omega (arith, small, length-append (spelled field) (written fields))),
)

-- fields that are no groups may stand in a group
pub may_fill : (fields : List Written) → AllByRecursion IsSound fields → length (written fields) < 2 ^ 64 → MayFill MAX_NESTING (written fields)
may_fill fields sound small = record {
  pieces = map spelled fields;
  is_whole = pieces_of fields;
  are_fields = all_plain 31 fields sound small;
}

-- where the content of a group begins
abbrev pub group_begin : ℕ → ℕ → ℕ
group_begin at number = at + length (header_of number 3)

-- where it stands
abbrev pub group_part : ℕ → ℕ → List ℕ → Part
group_part at number content = record { begin = group_begin at number; end = group_begin at number + length content }

-- a group as it is read at a place
abbrev pub group_at : ℕ → ℕ → List ℕ → PlacedField
group_at at number content = record { number = number; at = at; held = HeldGroup (group_part at number content) }

-- where the next field begins
abbrev after : ℕ → ℕ → List ℕ → ℕ
after at number content = at + length (group_field number content)

-- some groups as they are read from a place on
abbrev pub groups_at : ℕ → ℕ → List (List ℕ) → List PlacedField
groups_at at number [] = []
groups_at at number (content ∷ contents) = group_at at number content ∷ groups_at (after at number content) number contents

-- where their contents stand
abbrev pub group_parts : ℕ → ℕ → List (List ℕ) → List Part
group_parts at number [] = []
group_parts at number (content ∷ contents) = group_part at number content ∷ group_parts (after at number content) number contents

-- the bytes of some groups
abbrev pub groups_bytes : ℕ → List (List ℕ) → List ℕ
groups_bytes number contents = flat_map (λ (content : List ℕ). group_field number content) contents

-- the first of two byte strings stands where both do, and so does the second
front_stands : (input first rest : List ℕ) (begin end : ℕ) → StandsAt input (first ++ rest) begin end →
    StandsAt input first begin (begin + length first)
front_stands input first rest begin end stands = record {
  front = stands.front;
  back = rest ++ stands.back;
  is_whole = stands.is_whole ∙ ap (λ more. stands.front ++ more) (append_assoc first rest stands.back);
  begins = stands.begins;
  ends = refl;
}

rest_stands : (input first rest : List ℕ) (begin end : ℕ) → StandsAt input (first ++ rest) begin end →
    StandsAt input rest (begin + length first) end
rest_stands input first rest begin end stands = record {
  front = stands.front ++ first;
  back = stands.back;
  is_whole = stands.is_whole ∙ ap (λ more. stands.front ++ more) (append_assoc first rest stands.back)
      ∙ sym (append_assoc stands.front first (rest ++ stands.back));
  begins = omega (arith, stands.begins, length-append stands.front first);
  ends = omega (arith, stands.ends, length-append first rest);
}

-- the content of a group stands where it is read
group_stands : (input : List ℕ) (at end number : ℕ) (content : List ℕ) → StandsAt input (group_field number content) at end →
    StandsAt input content (group_begin at number) (group_begin at number + length content)
group_stands input at end number content stands =
    middle_stands input (header_of number 3) content (header_of number 4) at end
    (subst (λ bytes. StandsAt input bytes at end) (append_assoc (header_of number 3) content (header_of number 4)) stands)

-- a group is read where it stands
group_in : (input : List ℕ) (at number : ℕ) (content : List ℕ) → IsNumber number → MayFill MAX_NESTING content →
    StandsAt input (group_field number content) at (after at number content) →
    IsFieldIn input (group_at at number content) (after at number content)
group_in input at number content sound filled stands =
    let start : List ℕ = header_of number 3 in
    let stop : List ℕ = header_of number 4 in
    let end : ℕ = after at number content in
    let held : Bor (List ℕ) = record { ref_ptr = (0, 0); now = content } in
    let inner = group_stands input at end number content stands in
    let first = front_stands input start (content ++ stop) at end
    (subst (λ bytes. StandsAt input bytes at end) (append_assoc start content stop) stands) in
    record {
      payload = Group held;
      is_field = subst (λ bytes. IsField bytes number (Group held)) (sym (slice_is input (group_field number content) at end stands))
          (group_field_is number held sound filled);
      holds = record {
        part = group_part at number content;
        is_held = refl;
        is_part = (
          omega arith,
          omega (
            arith,
            inner.begins,
            ap length inner.is_whole,
            length-append inner.front (content ++ inner.back),
            length-append content inner.back,
          ),
        );
        is_content = slice_is input content (group_begin at number) (group_begin at number + length content) inner;
        starts = subst (λ bytes. IsHeader bytes number 3) (sym (slice_is input start at (at + length start) first))
            (header_is number 3 (omega arith) sound);
        is_before = omega (arith, length-append (start ++ content) stop, length-append start content);
      };
    }

-- some groups are read where they stand
groups_in : (input : List ℕ) (begin end number : ℕ) (contents : List (List ℕ)) → IsNumber number → AllByRecursion (MayFill MAX_NESTING) contents →
    StandsAt input (groups_bytes number contents) begin end → AreFieldsIn input begin (groups_at begin number contents) end
groups_in input begin end number [] sound filled stands = omega (arith, stands.ends)
groups_in input begin end number (content ∷ contents) sound filled stands = record {
  end = after begin number content;
  is_next = refl;
  is_field = group_in input begin number content sound filled.0
      (front_stands input (group_field number content) (groups_bytes number contents) begin end stands);
  is_after = omega arith;
  follow = groups_in input (after begin number content) end number contents sound filled.1
      (rest_stands input (group_field number content) (groups_bytes number contents) begin end stands);
}

-- the message of some groups between two places
abbrev pub groups_message : ℕ → ℕ → ℕ → List (List ℕ) → Message
groups_message begin end number contents = record { fields = groups_at begin number contents; wire_fault = None; end = end }

-- the table has the groups of this number
abbrev pub HasGroups : List Known → ℕ → Type 0
HasGroups known number = (at : ℕ) → (content : List ℕ) → IsInTable known (group_at at number content)

all_in_table : (known : List Known) (at number : ℕ) (contents : List (List ℕ)) → HasGroups known number →
    AllByRecursion (IsInTable known) (groups_at at number contents)
all_in_table known at number [] has = tt
all_in_table known at number (content ∷ contents) has =
    (has at content, all_in_table known (after at number content) number contents has)

-- a message of some groups is read
pub groups_read : (known : List Known) (input : List ℕ) (begin end number : ℕ) (contents : List (List ℕ)) → IsNumber number →
    AllByRecursion (MayFill MAX_NESTING) contents → HasGroups known number → StandsAt input (groups_bytes number contents) begin end →
    IsReading known input (record { begin = begin; end = end } ∷ []) (groups_message begin end number contents)
groups_read known input begin end number contents sound filled has stands = record {
  fields = groups_at begin number contents;
  are_fields = inl (record {
    first = groups_at begin number contents;
    rest = [];
    are_both = sym (append-nil (groups_at begin number contents));
    is_whole = groups_in input begin end number contents sound filled stands;
    follow = (refl, refl);
  });
  are_known = sym (all_kept known (groups_at begin number contents) (all_in_table known begin number contents has));
  is_end = refl;
}

-- no field of it has a wrong kind
pub right_groups : (known : List Known) (begin end number : ℕ) (contents : List (List ℕ)) → HasGroups known number →
    None ≡ wrong_kind known (groups_message begin end number contents)
right_groups known begin end number contents has =
    ap kind_fault (none_wrong known (groups_at begin number contents) (all_in_table known begin number contents has))

groups_found : (at number : ℕ) (contents : List (List ℕ)) → groups_of number (groups_at at number contents) ≡ group_parts at number contents
groups_found at number [] = refl
groups_found at number (content ∷ contents) =
    ap (λ b. cons_option (if b then group_held (group_at at number content).held else None)
    (groups_of number (groups_at (after at number content) number contents))) (same_number number)
    ∙ ap (λ parts. group_part at number content ∷ parts) (groups_found (after at number content) number contents)

groups_stand : (input : List ℕ) (begin end number : ℕ) (contents : List (List ℕ)) → StandsAt input (groups_bytes number contents) begin end →
    Stand input (group_parts begin number contents) contents
groups_stand input begin end number [] stands = tt
groups_stand input begin end number (content ∷ contents) stands = (
  group_stands input begin (after begin number content) number content
      (front_stands input (group_field number content) (groups_bytes number contents) begin end stands),
  groups_stand input (after begin number content) end number contents
      (rest_stands input (group_field number content) (groups_bytes number contents) begin end stands),
)

-- the contents of the groups stand in the input
pub groups_are : (input : List ℕ) (begin end number : ℕ) (contents : List (List ℕ)) → StandsAt input (groups_bytes number contents) begin end →
    ArePartsFor input (groups_of number (groups_at begin number contents)) contents
groups_are input begin end number contents stands = record {
  parts = group_parts begin number contents;
  are = groups_found begin number contents;
  stand = groups_stand input begin end number contents stands;
}
