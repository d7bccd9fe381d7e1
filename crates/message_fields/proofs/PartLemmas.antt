-- Parts of the input, and parts of those.
use Rattle.std.proofs.Common.{◌≡◌, ℕ, ◌+◌, ◌-◌, ◌<◌, ◌≤◌, List, [], ◌∷◌, ◌++◌, length, take, drop, slice_range, sym, ap, subst, ◌∙◌, refl, arith}
use Rattle.std.proofs.lemmas.List.{append_assoc, length-append, length-take-le, length-drop, take-take, drop-take, drop_at, take_at, drop-drop, append-nil}
use Rattle.std.specs.Borrow.{Bor}
use Rattle.wire_format.specs.declared.field.Payload.TheVariants.{Eight, Bytes, Group, Four}
use Rattle.wire_format.specs.Varints.{GoOn}
use Rattle.wire_format.specs.Fields.{IsHeader, IsField}
use Rattle.message_fields.specs.declared.field.Held.TheVariants.{Eight as HeldEight, Bytes as HeldBytes, Group as HeldGroup, Four as HeldFour}
use Rattle.message_fields.specs.Fields.{IsContent, IsGroupContent, IsFixed}

-- how many bytes a part has
pub length_part : (input : List ℕ) (begin end : ℕ) → begin ≤ end → end ≤ length input →
    length (slice_range input begin end) ≡ end - begin
length_part input begin end before within =
    length-take-le (end - begin) (drop begin input) (omega (arith, before, within, length-drop begin input))

-- a part of a part
pub part_of_part : (input : List ℕ) (begin end at size : ℕ) → begin ≤ end → at + size ≤ end - begin →
    take size (drop at (slice_range input begin end)) ≡ slice_range input (begin + at) (begin + at + size)
part_of_part input begin end at size before within =
    ap (λ part. take size part)
    (ap (λ count. drop at (take count (drop begin input))) (let same : end - begin ≡ at + (end - begin - at) = omega (arith, within) in same)
    ∙ drop-take at (end - begin - at) (drop begin input))
    ∙ take-take size (end - begin - at) (drop at (drop begin input)) (omega (arith, within))
    ∙ ap (take size) (drop-drop at begin input)
    ∙ ap (λ count. take count (drop (begin + at) input)) (let same : size ≡ begin + at + size - (begin + at) = omega arith in same)

-- what stands in the middle of a part
pub middle : (input : List ℕ) (begin end : ℕ) (front content back : List ℕ) → begin ≤ end → end ≤ length input →
    slice_range input begin end ≡ front ++ (content ++ back) →
    slice_range input (begin + length front) (begin + length front + length content) ≡ content
middle input begin end front content back before within whole =
    sym (part_of_part input begin end (length front) (length content) before
    (omega (arith, length_part input begin end before within, ap length whole, length-append front (content ++ back), length-append content back)))
    ∙ ap (λ part. take (length content) (drop (length front) part)) whole
    ∙ ap (take (length content)) (drop_at front (content ++ back) (length front) refl)
    ∙ take_at content back (length content) refl

-- the content at the end of a part
pub at_end : (input : List ℕ) (begin end : ℕ) (front content : List ℕ) → begin ≤ end → end ≤ length input →
    slice_range input begin end ≡ front ++ content → slice_range input (end - length content) end ≡ content
at_end input begin end front content before within whole =
    let long : end - begin ≡ length front + length content
    = omega (arith, length_part input begin end before within, ap length whole, length-append front content) in
    let start : end - length content ≡ begin + length front = omega (arith, long) in
    let stop : end ≡ begin + length front + length content = omega (arith, long) in
    ap (λ place. slice_range input place end) start
    ∙ ap (λ place. slice_range input (begin + length front) place) stop
    ∙ middle input begin end front content [] before within (whole ∙ ap (λ back. front ++ back) (sym (append-nil content)))

-- the content at the front of a part
pub at_front : (input : List ℕ) (begin end : ℕ) (content back : List ℕ) → begin ≤ end → end ≤ length input →
    slice_range input begin end ≡ content ++ back → slice_range input begin (begin + length content) ≡ content
at_front input begin end content back before within whole =
    ap (λ place. slice_range input place (place + length content)) (let same : begin ≡ begin + 0 = omega arith in same)
    ∙ middle input begin end [] content back before within whole

-- what a length-delimited field holds
pub bytes_held_at_end : (input : List ℕ) (at end number : ℕ) (content : Bor (List ℕ)) → at ≤ end → end ≤ length input →
    IsField (slice_range input at end) number (Bytes content) →
    IsContent input end content.now (HeldBytes (record { begin = end - length content.now; end = end }))
bytes_held_at_end input at end number content before within field =
    let body = field.is_plain in
    record {
      part = record { begin = end - length content.now; end = end };
      is_held = refl;
      is_part = (omega arith, within);
      is_content = at_end input at end (field.header ++ body.count) content.now before within
          (field.is_whole ∙ ap (λ rest. field.header ++ rest) body.is_whole ∙ sym (append_assoc field.header body.count content.now));
      ends = refl;
    }

-- what a group holds, whose start has so many bytes
pub group_held_inside : (input : List ℕ) (at end number size : ℕ) (content : Bor (List ℕ)) → at ≤ end → end ≤ length input →
    IsField (slice_range input at end) number (Group content) →
    ((front : List ℕ) → (last : ℕ) → (after : List ℕ) → slice_range input at end ≡ (front ++ last ∷ []) ++ after →
    GoOn front → last < 128 → size ≡ length front + 1) →
    IsGroupContent input at end number content.now
    (HeldGroup (record { begin = at + size; end = at + size + length content.now }))
group_held_inside input at end number size content before within field is_size =
    let varint = field.is_start.is_varint in
    let whole : slice_range input at end ≡ field.start ++ (content.now ++ field.end)
    = field.is_whole ∙ append_assoc field.start content.now field.end in
    let long : size ≡ length varint.front + 1
    = is_size varint.front varint.last (content.now ++ field.end)
    (whole ∙ ap (λ start. start ++ (content.now ++ field.end)) varint.is_whole) varint.goes_on varint.ends in
    let start : size ≡ length field.start
    = omega (arith, long, ap length varint.is_whole, length-append varint.front (varint.last ∷ [])) in
    let all : end - at ≡ length field.start + length content.now + length field.end
    = omega (
      arith,
      length_part input at end before within,
      ap length whole,
      length-append field.start (content.now ++ field.end),
      length-append content.now field.end,
    ) in
    record {
      part = record { begin = at + size; end = at + size + length content.now };
      is_held = refl;
      is_part = (omega arith, omega (arith, all, start, within));
      is_content = ap (λ count. slice_range input (at + count) (at + count + length content.now)) start
          ∙ middle input at end field.start content.now field.end before within whole;
      starts = subst (λ bytes. IsHeader bytes number 3)
          (sym (ap (λ count. slice_range input at (at + count)) start
          ∙ at_front input at end field.start (content.now ++ field.end) before within whole)) field.is_start;
      is_before = omega (arith, all, start);
    }

-- eight bytes stand at the end of their field
pub eight_held_at_end : (input : List ℕ) (at end number value : ℕ) → at ≤ end → end ≤ length input →
    IsField (slice_range input at end) number (Eight value) →
    (8 ≤ end) × IsFixed input end 8 HeldEight (HeldEight (record { begin = end - 8; end = end }))
eight_held_at_end input at end number value before within field =
    let long : 8 ≤ end = omega (
      arith,
      length_part input at end before within,
      ap length field.is_whole,
      length-append field.header field.body,
      field.is_plain.0,
    ) in (
      long,
      record {
        part = record { begin = end - 8; end = end };
        is_held = refl;
        is_part = (omega arith, within);
        is_long = omega (arith, long);
        ends = refl;
      },
    )

-- four bytes stand at the end of their field
pub four_held_at_end : (input : List ℕ) (at end number value : ℕ) → at ≤ end → end ≤ length input →
    IsField (slice_range input at end) number (Four value) →
    (4 ≤ end) × IsFixed input end 4 HeldFour (HeldFour (record { begin = end - 4; end = end }))
four_held_at_end input at end number value before within field =
    let long : 4 ≤ end = omega (
      arith,
      length_part input at end before within,
      ap length field.is_whole,
      length-append field.header field.body,
      field.is_plain.0,
    ) in (
      long,
      record {
        part = record { begin = end - 4; end = end };
        is_held = refl;
        is_part = (omega arith, within);
        is_long = omega (arith, long);
        ends = refl;
      },
    )
