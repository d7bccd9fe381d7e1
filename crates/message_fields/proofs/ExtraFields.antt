-- The fields of an extra, as they are spelled and read.
use Rattle.std.proofs.Common.{◌≡◌, ℕ, ◌+◌, ◌*◌, ◌^◌, ◌<◌, ◌≤◌, ◌==◌, Bool, true, false, List, [], ◌∷◌, ◌++◌, inl, inr, Option, Some, None, length, slice_range, refl, sym, ap, subst, ◌∙◌, arith}
use Rattle.std.specs.List.{AllByRecursion, filter, flat_map, list_any}
use Rattle.std.proofs.lemmas.List.{append_assoc, append-nil, length-append}
use Rattle.std.proofs.lemmas.List.Elements.{filter-append}
use Rattle.std.proofs.lemmas.Grind.{flat_map-append}
use Rattle.wire_format.specs.declared.field.Payload.{Payload}
use Rattle.wire_format.specs.declared.field.Payload.TheVariants.{Varint, Eight, Bytes, Group, Four}
use Rattle.wire_format.specs.declared.fault.WireFault.{WireFault}
use Rattle.wire_format.specs.Varints.{groups_value, IsVarint}
use Rattle.wire_format.specs.Fields.{IsHeader, IsField}
use Rattle.wire_format.specs.Faults.{IsNumber}
use Rattle.wire_format.specs.Spellings.{varint_of, header_of, varint_field, bytes_field, group_field}
use Rattle.wire_format.proofs.SevenBitGroups.{varint_fits}
use Rattle.wire_format.proofs.WrittenFields.{least_varint, varint_field_is, bytes_field_is, group_field_is}
use Rattle.message_fields.specs.declared.field.Known.{Known}
use Rattle.message_fields.specs.declared.field.Part.{Part}
use Rattle.message_fields.specs.declared.field.Held.{Held}
use Rattle.message_fields.specs.declared.field.Held.TheVariants.{Varint as HeldVarint, Eight as HeldEight, Bytes as HeldBytes, Group as HeldGroup, Four as HeldFour}
use Rattle.message_fields.specs.declared.field.PlacedField.{PlacedField}
use Rattle.message_fields.specs.declared.message.Message.{Message}
use Rattle.message_fields.specs.Fields.{bytes_in, whole_of, ArePartsOf, Holds, IsFieldIn, AreFieldsIn}
use Rattle.message_fields.specs.Readings.{is_known, AreFieldsOf}
use Rattle.message_fields.specs.Unknown.{spelled_held, spelled, is_unknown, extra_of, IsCanonicalExtra}
use Rattle.message_fields.specs.Laws.{ExtrasAreCanonical, CanonicalExtrasStay}
use Rattle.message_fields.proofs.WrittenMessages.{StandsAt, whole_stands, slice_is, within, front_stands, rest_stands}
use Rattle.message_fields.proofs.OneMessage.{ends_after, one_whole_message}
use Rattle.message_fields.proofs.LeastFields.{fixed_is, one_extra}

-- a field that is kept: what stands before its content, the content, what stands after it, and what it is read as
pub record Kept : Type 0 where
  pub number : ℕ
  pub front : List ℕ
  pub content : List ℕ
  pub back : List ℕ
  pub payload : Payload
  pub form : Part → Held

-- its bytes
abbrev pub kept_bytes : Kept → List ℕ
kept_bytes kept = kept.front ++ (kept.content ++ kept.back)

-- where its content stands
abbrev pub part_at : ℕ → Kept → Part
part_at at kept = record { begin = at + length kept.front; end = at + length kept.front + length kept.content }

-- it, as it is read at a place
abbrev pub kept_at : ℕ → Kept → PlacedField
kept_at at kept = record { number = kept.number; at = at; held = kept.form (part_at at kept) }

-- its bytes are a field, are read as what it is, and are the least spelling of that
pub record IsKept (kept : Kept) : Type 0 where
  pub is_field : IsField (kept_bytes kept) kept.number kept.payload
  pub holds : (input : List ℕ) → (at : ℕ) → StandsAt input (kept_bytes kept) at (at + length (kept_bytes kept)) →
      Holds input at (at + length (kept_bytes kept)) kept.number kept.payload (kept.form (part_at at kept))
  pub spells : (input : List ℕ) → (part : Part) → bytes_in input part ≡ kept.content →
      spelled_held input kept.number (kept.form part) ≡ kept_bytes kept

-- what stands between two others
inside : (input front content back : List ℕ) (at end : ℕ) → StandsAt input (front ++ (content ++ back)) at end →
    StandsAt input content (at + length front) (at + length front + length content)
inside input front content back at end stands =
    front_stands input content back (at + length front) end (rest_stands input front (content ++ back) at end stands)

-- a field that is kept is read where it stands
kept_in : (input : List ℕ) (at : ℕ) (kept : Kept) → IsKept kept → StandsAt input (kept_bytes kept) at (at + length (kept_bytes kept)) →
    IsFieldIn input (kept_at at kept) (at + length (kept_bytes kept))
kept_in input at kept is stands = record {
  payload = kept.payload;
  is_field = subst (λ bytes. IsField bytes kept.number kept.payload)
      (sym (slice_is input (kept_bytes kept) at (at + length (kept_bytes kept)) stands)) is.is_field;
  holds = is.holds input at stands;
}

-- what is read is spelled as it was
kept_spelled : (input : List ℕ) (at : ℕ) (kept : Kept) → IsKept kept → StandsAt input (kept_bytes kept) at (at + length (kept_bytes kept)) →
    spelled input (kept_at at kept) ≡ kept_bytes kept
kept_spelled input at kept is stands =
    is.spells input (part_at at kept)
    (slice_is input kept.content (at + length kept.front) (at + length kept.front + length kept.content)
    (inside input kept.front kept.content kept.back at (at + length (kept_bytes kept)) stands))

-- a varint's number fits into 64 bits
number_fits : (bytes : List ℕ) (value : ℕ) → IsVarint bytes value → value < 2 ^ 64
number_fits bytes value varint =
    let is : value ≡ groups_value (varint.front ++ varint.last ∷ []) = varint.is_value ∙ ap groups_value varint.is_whole in
    omega (arith, is, varint_fits varint.front varint.last varint.is_short varint.ends varint.tenth)

header_is : (number kind : ℕ) → kind < 8 → IsNumber number → IsHeader (header_of number kind) number kind
header_is number kind small is = record {
  is_varint = least_varint (number * 8 + kind) (omega (arith, is.1, small));
  is_number = is.0;
  is_small = is.1;
}

-- a field of the input, kept
pub record IsRespelled (input : List ℕ) (number : ℕ) (held : Held) : Type 0 where
  pub kept : Kept
  pub is_kept : IsKept kept
  pub same_number : kept.number ≡ number
  pub same_bytes : kept_bytes kept ≡ spelled_held input number held

varint_kept : (input : List ℕ) (number value : ℕ) (held : Held) → IsNumber number → value < 2 ^ 64 → held ≡ HeldVarint value →
    IsRespelled input number held
varint_kept input number value held is small holds =
    let bytes : List ℕ = varint_field number value in
    record {
      kept = record { number = number; front = bytes; content = []; back = []; payload = Varint value; form = λ part. HeldVarint value };
      is_kept = record {
        is_field = subst (λ b. IsField b number (Varint value)) (sym (append-nil bytes)) (varint_field_is number value is small);
        holds = λ input at stands. refl;
        spells = λ input part same. sym (append-nil bytes);
      };
      same_number = refl;
      same_bytes = append-nil bytes ∙ ap (spelled_held input number) (sym holds);
    }

eight_kept : (input : List ℕ) (number value : ℕ) (body : List ℕ) (part : Part) (held : Held) → IsNumber number →
    IsField (header_of number 1 ++ (body ++ [])) number (Eight value) → length body ≡ 8 → held ≡ HeldEight part → bytes_in input part ≡ body →
    IsRespelled input number held
eight_kept input number value body part held is field long holds content =
    let header : List ℕ = header_of number 1 in
    record {
      kept = record { number = number; front = header; content = body; back = []; payload = Eight value; form = HeldEight };
      is_kept = record {
        is_field = field;
        holds = λ input at stands.
            let fits = within input body (at + length header) (at + length header + length body) (inside input header body [] at _ stands) in
            record {
              part = record { begin = at + length header; end = at + length header + length body };
              is_held = refl;
              is_part = (fits.0, fits.1);
              is_long = omega (arith, long);
              ends = omega (arith, length-append header (body ++ []), length-append body []);
            };
        spells = λ input part same. ap (λ rest. header ++ rest) (same ∙ sym (append-nil body));
      };
      same_number = refl;
      same_bytes = ap (λ rest. header ++ rest) (append-nil body ∙ sym content) ∙ ap (spelled_held input number) (sym holds);
    }

four_kept : (input : List ℕ) (number value : ℕ) (body : List ℕ) (part : Part) (held : Held) → IsNumber number →
    IsField (header_of number 5 ++ (body ++ [])) number (Four value) → length body ≡ 4 → held ≡ HeldFour part → bytes_in input part ≡ body →
    IsRespelled input number held
four_kept input number value body part held is field long holds content =
    let header : List ℕ = header_of number 5 in
    record {
      kept = record { number = number; front = header; content = body; back = []; payload = Four value; form = HeldFour };
      is_kept = record {
        is_field = field;
        holds = λ input at stands.
            let fits = within input body (at + length header) (at + length header + length body) (inside input header body [] at _ stands) in
            record {
              part = record { begin = at + length header; end = at + length header + length body };
              is_held = refl;
              is_part = (fits.0, fits.1);
              is_long = omega (arith, long);
              ends = omega (arith, length-append header (body ++ []), length-append body []);
            };
        spells = λ input part same. ap (λ rest. header ++ rest) (same ∙ sym (append-nil body));
      };
      same_number = refl;
      same_bytes = ap (λ rest. header ++ rest) (append-nil body ∙ sym content) ∙ ap (spelled_held input number) (sym holds);
    }

-- a field of the input is kept
respelled : (input : List ℕ) (at end number : ℕ) (payload : Payload) (held : Held) → at ≤ end → end ≤ length input →
    IsField (slice_range input at end) number payload → Holds input at end number payload held → IsRespelled input number held
respelled input at end number (Varint value) held before fits field holds =
    varint_kept input number value held (field.is_header.is_number, field.is_header.is_small) (number_fits field.body value field.is_plain) holds
respelled input at end number (Eight value) held before fits field holds =
    eight_kept input number value field.body holds.part held (field.is_header.is_number, field.is_header.is_small) (record {
      header = header_of number 1;
      body = field.body;
      is_whole = ap (λ rest. header_of number 1 ++ rest) (append-nil field.body);
      is_header = header_is number 1 (omega arith) (field.is_header.is_number, field.is_header.is_small);
      is_plain = field.is_plain;
    }) field.is_plain.0 holds.is_held
    (fixed_is input at end 8 holds.part.begin holds.part.end field.header field.body before fits holds.is_long holds.ends field.is_plain.0 field.is_whole)
respelled input at end number (Bytes content) held before fits field holds =
    let front : List ℕ = header_of number 2 ++ varint_of (length content.now) in
    let small = number_fits field.is_plain.count (length content.now) field.is_plain.is_count in
    record {
      kept = record { number = number; front = front; content = content.now; back = []; payload = Bytes content; form = HeldBytes };
      is_kept = record {
        is_field = subst (λ rest. IsField (front ++ rest) number (Bytes content)) (sym (append-nil content.now))
            (bytes_field_is number content (field.is_header.is_number, field.is_header.is_small) small);
        holds = λ input at stands.
            let inner = inside input front content.now [] at _ stands in
            let fits = within input content.now (at + length front) (at + length front + length content.now) inner in
            record {
              part = record { begin = at + length front; end = at + length front + length content.now };
              is_held = refl;
              is_part = (fits.0, fits.1);
              is_content = slice_is input content.now (at + length front) (at + length front + length content.now) inner;
              ends = omega (arith, length-append front (content.now ++ []), length-append content.now []);
            };
        spells = λ input part same. ap (bytes_field number) same ∙ ap (λ rest. front ++ rest) (sym (append-nil content.now));
      };
      same_number = refl;
      same_bytes = ap (λ rest. front ++ rest) (append-nil content.now) ∙ ap (bytes_field number) (sym holds.is_content)
          ∙ ap (spelled_held input number) (sym holds.is_held);
    }
respelled input at end number (Group content) held before fits field holds =
    let start : List ℕ = header_of number 3 in
    let stop : List ℕ = header_of number 4 in
    let is : IsNumber number = (field.is_start.is_number, field.is_start.is_small) in
    record {
      kept = record { number = number; front = start; content = content.now; back = stop; payload = Group content; form = HeldGroup };
      is_kept = record {
        is_field = subst (λ bytes. IsField bytes number (Group content)) (append_assoc start content.now stop)
            (group_field_is number content is field.is_filled);
        holds = λ input at stands.
            let inner = inside input start content.now stop at _ stands in
            let fits = within input content.now (at + length start) (at + length start + length content.now) inner in
            record {
              part = record { begin = at + length start; end = at + length start + length content.now };
              is_held = refl;
              is_part = (fits.0, fits.1);
              is_content = slice_is input content.now (at + length start) (at + length start + length content.now) inner;
              starts = subst (λ bytes. IsHeader bytes number 3)
                  (sym (slice_is input start at (at + length start) (front_stands input start (content.now ++ stop) at _ stands)))
                  (header_is number 3 (omega arith) is);
              is_before = omega (arith, length-append start (content.now ++ stop), length-append content.now stop);
            };
        spells = λ input part same. ap (group_field number) same ∙ append_assoc start content.now stop;
      };
      same_number = refl;
      same_bytes = sym (append_assoc start content.now stop) ∙ ap (group_field number) (sym holds.is_content)
          ∙ ap (spelled_held input number) (sym holds.is_held);
    }
respelled input at end number (Four value) held before fits field holds =
    four_kept input number value field.body holds.part held (field.is_header.is_number, field.is_header.is_small) (record {
      header = header_of number 5;
      body = field.body;
      is_whole = ap (λ rest. header_of number 5 ++ rest) (append-nil field.body);
      is_header = header_is number 5 (omega arith) (field.is_header.is_number, field.is_header.is_small);
      is_plain = field.is_plain;
    }) field.is_plain.0 holds.is_held
    (fixed_is input at end 4 holds.part.begin holds.part.end field.header field.body before fits holds.is_long holds.ends field.is_plain.0 field.is_whole)

-- the table has a field of this number
abbrev pub knows : List Known → ℕ → Bool
knows known number = list_any (λ (entry : Known). entry.0 == number) known

-- the bytes of some fields
abbrev pub all_bytes : List Kept → List ℕ
all_bytes [] = []
all_bytes (kept ∷ rest) = kept_bytes kept ++ all_bytes rest

-- they, as they are read from a place on
abbrev pub kept_placed : ℕ → List Kept → List PlacedField
kept_placed at [] = []
kept_placed at (kept ∷ rest) = kept_at at kept ∷ kept_placed (at + length (kept_bytes kept)) rest

-- an extra as the fields that it is
pub record IsOfKept (known : List Known) (extra : List ℕ) : Type 0 where
  pub fields : List Kept
  pub are_kept : AllByRecursion IsKept fields
  pub are_unknown : AllByRecursion (λ (kept : Kept). knows known kept.number ≡ false) fields
  pub is_bytes : extra ≡ all_bytes fields

-- they are read where they stand
pub kept_fields_in : (input : List ℕ) (begin end : ℕ) (fields : List Kept) → AllByRecursion IsKept fields →
    StandsAt input (all_bytes fields) begin end → AreFieldsIn input begin (kept_placed begin fields) end
kept_fields_in input begin end [] are stands = omega (arith, stands.ends)
kept_fields_in input begin end (kept ∷ fields) are stands = record {
  end = begin + length (kept_bytes kept);
  is_next = refl;
  is_field = kept_in input begin kept are.0 (front_stands input (kept_bytes kept) (all_bytes fields) begin end stands);
  is_after = omega arith;
  follow = kept_fields_in input (begin + length (kept_bytes kept)) end fields are.1
      (rest_stands input (kept_bytes kept) (all_bytes fields) begin end stands);
}

-- the table lacks them
pub kept_unknown : (known : List Known) (at : ℕ) (fields : List Kept) → AllByRecursion (λ (kept : Kept). knows known kept.number ≡ false) fields →
    AllByRecursion (λ (field : PlacedField). is_known known field ≡ false) (kept_placed at fields)
kept_unknown known at [] are = tt
kept_unknown known at (kept ∷ fields) are = (are.0, kept_unknown known (at + length (kept_bytes kept)) fields are.1)

-- they are spelled as they were
pub kept_extra : (known : List Known) (input : List ℕ) (begin end : ℕ) (fields : List Kept) → AllByRecursion IsKept fields →
    AllByRecursion (λ (kept : Kept). knows known kept.number ≡ false) fields → StandsAt input (all_bytes fields) begin end →
    extra_of known input (kept_placed begin fields) ≡ all_bytes fields
kept_extra known input begin end [] are unknown stands = refl
kept_extra known input begin end (kept ∷ fields) are unknown stands =
    let next : ℕ = begin + length (kept_bytes kept) in
    one_extra known input (kept_at begin kept) (kept_placed next fields) false unknown.0
    ∙ ap (λ front. front ++ extra_of known input (kept_placed next fields))
    (kept_spelled input begin kept are.0 (front_stands input (kept_bytes kept) (all_bytes fields) begin end stands))
    ∙ ap (λ back. kept_bytes kept ++ back)
    (kept_extra known input next end fields are.1 unknown.1 (rest_stands input (kept_bytes kept) (all_bytes fields) begin end stands))

-- fields that are kept are a canonical extra
pub kept_is_canonical : (known : List Known) (extra : List ℕ) → IsOfKept known extra → IsCanonicalExtra known extra
kept_is_canonical known extra is =
    let stands : StandsAt extra (all_bytes is.fields) 0 (length extra)
    = subst (λ bytes. StandsAt extra bytes 0 (length extra)) is.is_bytes (whole_stands extra) in
    record {
      fields = kept_placed 0 is.fields;
      are_fields = kept_fields_in extra 0 (length extra) is.fields is.are_kept stands;
      is_extra = kept_extra known extra 0 (length extra) is.fields is.are_kept is.are_unknown stands ∙ sym is.is_bytes;
    }

-- the extra of some fields is fields that are kept
pub fields_kept : (known : List Known) (input : List ℕ) (begin : ℕ) (fields : List PlacedField) (end : ℕ) → end ≤ length input →
    AreFieldsIn input begin fields end → IsOfKept known (extra_of known input fields)
fields_kept known input begin [] end fits are = record { fields = []; are_kept = tt; are_unknown = tt; is_bytes = refl }
fields_kept known input begin (field ∷ fields) end fits are =
    let after = ends_after input are.end fields end are.follow in
    either known input field fields (is_known known field) refl
    (respelled input field.at are.end field.number are.is_field.payload field.held (omega (arith, are.is_next, are.is_after)) (omega (arith, after, fits))
    are.is_field.is_field are.is_field.holds) (fields_kept known input are.end fields end fits are.follow)
  where
    either : (known : List Known) (input : List ℕ) (field : PlacedField) (fields : List PlacedField) (b : Bool) → is_known known field ≡ b →
        IsRespelled input field.number field.held → IsOfKept known (extra_of known input fields) →
        IsOfKept known (extra_of known input (field ∷ fields))
    either known input field fields true is one rest = subst (IsOfKept known) (sym (one_extra known input field fields true is)) rest
    either known input field fields false is one rest = record {
      fields = one.kept ∷ rest.fields;
      are_kept = (one.is_kept, rest.are_kept);
      are_unknown = (ap (knows known) one.same_number ∙ is, rest.are_unknown);
      is_bytes = one_extra known input field fields false is ∙ ap (λ front. front ++ extra_of known input fields) (sym one.same_bytes)
          ∙ ap (λ back. kept_bytes one.kept ++ back) rest.is_bytes;
    }

-- a canonical extra is fields that are kept
pub canonical_is_kept : (known : List Known) (extra : List ℕ) → IsCanonicalExtra known extra → IsOfKept known extra
canonical_is_kept known extra is =
    subst (IsOfKept known) is.is_extra (fields_kept known extra 0 is.fields (length extra) (omega arith) is.are_fields)

-- the extra of fields before others
pub extra_both : (known : List Known) (input : List ℕ) (first rest : List PlacedField) →
    extra_of known input (first ++ rest) ≡ extra_of known input first ++ extra_of known input rest
extra_both known input first rest =
    ap (flat_map (spelled input)) (filter-append (is_unknown known) first rest)
    ∙ flat_map-append (spelled input) (filter (is_unknown known) first) (filter (is_unknown known) rest)

bytes_both : (first rest : List Kept) → all_bytes (first ++ rest) ≡ all_bytes first ++ all_bytes rest
bytes_both [] rest = refl
bytes_both (kept ∷ first) rest =
    ap (λ back. kept_bytes kept ++ back) (bytes_both first rest) ∙ sym (append_assoc (kept_bytes kept) (all_bytes first) (all_bytes rest))

all_both : (P : Kept → Type 0) (first rest : List Kept) → AllByRecursion P first → AllByRecursion P rest → AllByRecursion P (first ++ rest)
all_both P [] rest one two = two
all_both P (kept ∷ first) rest one two = (one.0, all_both P first rest one.1 two)

both_kept : (known : List Known) (first rest : List ℕ) → IsOfKept known first → IsOfKept known rest → IsOfKept known (first ++ rest)
both_kept known first rest one two = record {
  fields = one.fields ++ two.fields;
  are_kept = all_both IsKept one.fields two.fields one.are_kept two.are_kept;
  are_unknown = all_both (λ (kept : Kept). knows known kept.number ≡ false) one.fields two.fields one.are_unknown two.are_unknown;
  is_bytes = ap (λ front. front ++ rest) one.is_bytes ∙ ap (λ back. all_bytes one.fields ++ back) two.is_bytes
      ∙ sym (bytes_both one.fields two.fields);
}

-- the extra of the fields of some pieces
pieces_kept : (known : List Known) (input : List ℕ) (parts : List Part) (fields : List PlacedField) (fault : Option WireFault) →
    ArePartsOf input parts → AreFieldsOf input parts fields fault → fault ≡ None → IsOfKept known (extra_of known input fields)
pieces_kept known input [] fields fault within are none =
    subst (λ found. IsOfKept known (extra_of known input found)) (sym are.0)
    (record { fields = []; are_kept = tt; are_unknown = tt; is_bytes = refl })
pieces_kept known input (part ∷ parts) fields fault within (inl piece) none =
    subst (λ found. IsOfKept known (extra_of known input found)) (sym piece.are_both)
    (subst (IsOfKept known) (sym (extra_both known input piece.first piece.rest))
    (both_kept known (extra_of known input piece.first) (extra_of known input piece.rest)
    (fields_kept known input part.begin piece.first part.end within.0.1 piece.is_whole)
    (pieces_kept known input parts piece.rest fault within.1 piece.follow none)))
pieces_kept known input (part ∷ parts) fields fault within (inr piece) none = absurd (no_fault piece.found (sym none ∙ piece.is_fault))
  where
    no_fault : (found : WireFault) → None ≡ Some found → ⊥
    no_fault found same = cc

pub extras_are_canonical : ExtrasAreCanonical
extras_are_canonical known input parts message within reading none =
    kept_is_canonical known (extra_of known input message.fields)
    (pieces_kept known input parts message.fields message.wire_fault within reading.are_fields none)

-- the reading of a canonical extra by itself
pub extras_stay : CanonicalExtrasStay
extras_stay known extra message canonical reading =
    let own : Message = record { fields = canonical.fields; wire_fault = None; end = length extra } in
    let same : message ≡ own = one_whole_message extra (whole_of extra ∷ []) message own ((omega arith, omega arith), tt) reading (record {
      are_fields = inl (record {
        first = canonical.fields;
        rest = [];
        are_both = sym (append-nil canonical.fields);
        is_whole = canonical.are_fields;
        follow = (refl, refl);
      });
      is_end = refl;
    }) in (
      ap (λ (read : Message). read.wire_fault) same,
      ap (λ (read : Message). extra_of known extra read.fields) same ∙ canonical.is_extra,
    )
