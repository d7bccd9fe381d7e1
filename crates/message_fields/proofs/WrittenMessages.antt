-- A message of fields as they are written, and what is read of it.
use Rattle.std.proofs.Common.{◌≡◌, ℕ, ◌+◌, ◌-◌, ◌^◌, ◌<◌, ◌≤◌, List, [], ◌∷◌, ◌++◌, inl, None, length, take, drop, slice_range, refl, sym, ap, subst, ◌∙◌, arith}
use Rattle.std.specs.Borrow.{Bor}
use Rattle.std.specs.List.{AllByRecursion, filter}
use Rattle.std.proofs.lemmas.List.{append_assoc, append-nil, length-append}
use Rattle.std.proofs.Math.Seq.{drop-append_seam, take-append_seam}
use Rattle.wire_format.specs.declared.field.Payload.TheVariants.{Varint, Bytes}
use Rattle.wire_format.specs.Fields.{IsField}
use Rattle.wire_format.specs.Faults.{IsNumber}
use Rattle.wire_format.specs.Spellings.{varint_of, header_of, varint_field, bytes_field}
use Rattle.wire_format.proofs.WrittenFields.{varint_field_is, bytes_field_is}
use Rattle.message_fields.specs.declared.field.Held.TheVariants.{Varint as HeldVarint, Bytes as HeldBytes}
use Rattle.message_fields.specs.declared.field.Known.{Known}
use Rattle.message_fields.specs.declared.field.PlacedField.{PlacedField}
use Rattle.message_fields.specs.declared.message.Message.{Message}
use Rattle.message_fields.specs.Fields.{IsFieldIn, AreFieldsIn}
use Rattle.message_fields.specs.Readings.{is_known, IsReading}

-- a field as it is written: a number, or some bytes
pub data Written : Type 0 where
  a_number : (number value : ℕ) → Written
  some_bytes : (number : ℕ) (content : List ℕ) → Written

-- its bytes
abbrev pub spelled : Written → List ℕ
spelled (a_number number value) = varint_field number value
spelled (some_bytes number content) = bytes_field number content

-- the bytes of some fields
abbrev pub written : List Written → List ℕ
written [] = []
written (field ∷ fields) = spelled field ++ written fields

-- these bytes, and those of some fields that are appended one by one
abbrev pub joined : List ℕ → List Written → List ℕ
joined front [] = front
joined front (field ∷ fields) = joined (front ++ spelled field) fields

-- appended one by one, they are the same
joined_to : (front : List ℕ) (fields : List Written) → joined front fields ≡ front ++ written fields
joined_to front [] = sym (append-nil front)
joined_to front (field ∷ fields) =
    joined_to (front ++ spelled field) fields ∙ append_assoc front (spelled field) (written fields)

pub joined_are : (fields : List Written) → joined [] fields ≡ written fields
joined_are fields = joined_to [] fields

-- a number that a field may have, and a value that a varint may
abbrev pub IsSound : Written → Type 0
IsSound (a_number number value) = IsNumber number × (value < 2 ^ 64)
IsSound (some_bytes number content) = IsNumber number

-- where the content begins of a field of bytes, and where it ends
abbrev pub content_begin : ℕ → ℕ → List ℕ → ℕ
content_begin at number content = at + length (header_of number 2 ++ varint_of (length content))

abbrev pub content_end : ℕ → ℕ → List ℕ → ℕ
content_end at number content = at + length (bytes_field number content)

-- a field as it is read at a place
abbrev pub placed_at : ℕ → Written → PlacedField
placed_at at (a_number number value) = record { number = number; at = at; held = HeldVarint value }
placed_at at (some_bytes number content) = record {
  number = number;
  at = at;
  held = HeldBytes (record {
    begin = content_begin at number content;
    end = content_end at number content;
  });
}

-- some fields as they are read from a place on
abbrev pub placed : ℕ → List Written → List PlacedField
placed at [] = []
placed at (field ∷ fields) = placed_at at field ∷ placed (at + length (spelled field)) fields

-- these bytes stand in the input between two places
pub record StandsAt (input content : List ℕ) (begin end : ℕ) : Type 0 where
  pub front : List ℕ
  pub back : List ℕ
  pub is_whole : input ≡ front ++ (content ++ back)
  pub begins : begin ≡ length front
  pub ends : end ≡ begin + length content

-- all bytes stand in themselves
pub whole_stands : (input : List ℕ) → StandsAt input input 0 (length input)
whole_stands input = record {
  front = [];
  back = [];
  is_whole = sym (append-nil input);
  begins = refl;
  ends = omega arith;
}

-- bytes stand where they are
pub slice_is : (input content : List ℕ) (begin end : ℕ) → StandsAt input content begin end → slice_range input begin end ≡ content
slice_is input content begin end stands =
    let long : end - begin ≡ length content = omega (arith, stands.ends) in
    let rest : drop begin input ≡ content ++ stands.back
    = ap (drop begin) stands.is_whole ∙ ap (λ place. drop place (stands.front ++ (content ++ stands.back))) stands.begins
    ∙ drop-append_seam stands.front (content ++ stands.back) in
    ap (λ size. take size (drop begin input)) long ∙ ap (take (length content)) rest ∙ take-append_seam content stands.back

-- they stand within the input
pub within : (input content : List ℕ) (begin end : ℕ) → StandsAt input content begin end → (begin ≤ end) × (end ≤ length input) × (length content ≤ length input)
within input content begin end stands =
    let whole = ap length stands.is_whole in
    let front = length-append stands.front (content ++ stands.back) in
    let back = length-append content stands.back in
    (omega (arith, stands.ends), omega (arith, stands.ends, stands.begins, whole, front, back), omega (arith, whole, front, back))

-- the first of two texts of bytes stands where both do
pub front_stands : (input first rest : List ℕ) (begin end : ℕ) → StandsAt input (first ++ rest) begin end →
    StandsAt input first begin (begin + length first)
front_stands input first rest begin end stands = record {
  front = stands.front;
  back = rest ++ stands.back;
  is_whole = stands.is_whole ∙ ap (λ more. stands.front ++ more) (append_assoc first rest stands.back);
  begins = stands.begins;
  ends = refl;
}

-- and so does the second
pub rest_stands : (input first rest : List ℕ) (begin end : ℕ) → StandsAt input (first ++ rest) begin end →
    StandsAt input rest (begin + length first) end
rest_stands input first rest begin end stands = record {
  front = stands.front ++ first;
  back = stands.back;
  is_whole = stands.is_whole ∙ ap (λ more. stands.front ++ more) (append_assoc first rest stands.back)
      ∙ sym (append_assoc stands.front first (rest ++ stands.back));
  begins = omega (arith, stands.begins, length-append stands.front first);
  ends = omega (arith, stands.ends, length-append first rest);
}

-- the content of a field
content_stands : (input : List ℕ) (at end number : ℕ) (content : List ℕ) → StandsAt input (bytes_field number content) at end →
    StandsAt input content (content_begin at number content) (content_end at number content)
content_stands input at end number content stands =
    let header : List ℕ = header_of number 2 ++ varint_of (length content) in
    record {
      front = stands.front ++ header;
      back = stands.back;
      is_whole = stands.is_whole ∙ ap (λ rest. stands.front ++ rest) (append_assoc header content stands.back)
          ∙ sym (append_assoc stands.front header (content ++ stands.back));
      begins = omega (arith, stands.begins, length-append stands.front header);
      ends = omega (arith, length-append header content);
    }

-- the content of a field stands where it is read
abbrev pub ContentStands : List ℕ → ℕ → Written → Type 0
ContentStands input at (a_number number value) = Unit {0}
ContentStands input at (some_bytes number content) =
    StandsAt input content (content_begin at number content) (content_end at number content)

-- the contents of some fields stand where they are read
abbrev pub ContentsStand : List ℕ → ℕ → List Written → Type 0
ContentsStand input at [] = Unit {0}
ContentsStand input at (field ∷ fields) = ContentStands input at field × ContentsStand input (at + length (spelled field)) fields

one_stands : (input : List ℕ) (at end : ℕ) (field : Written) → StandsAt input (spelled field) at end → ContentStands input at field
one_stands input at end (a_number number value) stands = tt
one_stands input at end (some_bytes number content) stands = content_stands input at end number content stands

pub contents_stand : (input : List ℕ) (begin end : ℕ) (fields : List Written) → StandsAt input (written fields) begin end →
    ContentsStand input begin fields
contents_stand input begin end [] stands = tt
contents_stand input begin end (field ∷ fields) stands = (
  one_stands input begin (begin + length (spelled field)) field (front_stands input (spelled field) (written fields) begin end stands),
  contents_stand input (begin + length (spelled field)) end fields (rest_stands input (spelled field) (written fields) begin end stands),
)

-- a field is read where it stands
field_in : (input : List ℕ) (at : ℕ) (field : Written) → length input < 2 ^ 64 → IsSound field →
    StandsAt input (spelled field) at (at + length (spelled field)) →
    IsFieldIn input (placed_at at field) (at + length (spelled field))
field_in input at (a_number number value) small sound stands = record {
  payload = Varint value;
  is_field = subst (λ bytes. IsField bytes number (Varint value))
      (sym (slice_is input (varint_field number value) at (at + length (varint_field number value)) stands))
      (varint_field_is number value sound.0 sound.1);
  holds = refl;
}
field_in input at (some_bytes number content) small sound stands =
    let end : ℕ = content_end at number content in
    let begin : ℕ = content_begin at number content in
    let inner = content_stands input at end number content stands in
    let fits = within input content begin end inner in
    let held : Bor (List ℕ) = record { ref_ptr = (0, 0); now = content } in
    record {
      payload = Bytes held;
      is_field = subst (λ bytes. IsField bytes number (Bytes held))
          (sym (slice_is input (bytes_field number content) at end stands))
          (bytes_field_is number held sound (omega (arith, fits.2, small)));
      holds = record {
        part = record { begin = begin; end = end };
        is_held = refl;
        is_part = (fits.0, fits.1);
        is_content = slice_is input content begin end inner;
        ends = refl;
      };
    }

starts : (at : ℕ) (field : Written) → (placed_at at field).at ≡ at
starts at (a_number number value) = refl
starts at (some_bytes number content) = refl

-- fields are read where they stand
pub fields_in : (input : List ℕ) (begin end : ℕ) (fields : List Written) → length input < 2 ^ 64 → AllByRecursion IsSound fields →
    StandsAt input (written fields) begin end → AreFieldsIn input begin (placed begin fields) end
fields_in input begin end [] small sound stands = omega (arith, stands.ends)
fields_in input begin end (field ∷ fields) small sound stands = record {
  end = begin + length (spelled field);
  is_next = starts begin field;
  is_field = field_in input begin field small sound.0 (front_stands input (spelled field) (written fields) begin end stands);
  is_after = omega arith;
  follow = fields_in input (begin + length (spelled field)) end fields small sound.1 (rest_stands input (spelled field) (written fields) begin end stands);
}

-- the message of some fields between two places
abbrev pub message_of : List Known → ℕ → ℕ → List Written → Message
message_of known begin end fields =
    record { fields = filter (is_known known) (placed begin fields); wire_fault = None; end = end }

-- a message that was written is read
pub written_is_read : (known : List Known) (input : List ℕ) (begin end : ℕ) (fields : List Written) → length input < 2 ^ 64 →
    AllByRecursion IsSound fields → StandsAt input (written fields) begin end →
    IsReading known input (record { begin = begin; end = end } ∷ []) (message_of known begin end fields)
written_is_read known input begin end fields small sound stands = record {
  fields = placed begin fields;
  are_fields = inl (record {
    first = placed begin fields;
    rest = [];
    are_both = sym (append-nil (placed begin fields));
    is_whole = fields_in input begin end fields small sound stands;
    follow = (refl, refl);
  });
  are_known = refl;
  is_end = refl;
}

-- without pieces nothing is read
pub nothing_is_read : (known : List Known) (input : List ℕ) → IsReading known input [] (message_of known 0 0 [])
nothing_is_read known input = record { fields = []; are_fields = (refl, refl); are_known = refl; is_end = refl }
