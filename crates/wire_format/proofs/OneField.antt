-- One field at most stands at the front of some bytes.
use Rattle.std.proofs.Common.{◌≡◌, ℕ, ◌+◌, ◌*◌, ◌<◌, List, [], ◌++◌, length, take, drop, refl, sym, ap, subst, ◌∙◌, arith}
use Rattle.std.proofs.lemmas.List.{append_assoc, length-append, length-take-le, take-append-drop}
use Rattle.byteorder.specs.Endian.{little_number}
use Rattle.wire_format.specs.declared.field.Payload.{Payload}
use Rattle.wire_format.specs.declared.field.Payload.TheVariants.{Varint, Eight, Bytes, Group, Four}
use Rattle.wire_format.specs.Fields.{IsHeader, IsPlain, IsField, MayFill, header_kind}
use Rattle.wire_format.specs.FieldLists.{HoldSame}
use Rattle.wire_format.specs.Laws.{OneFieldStandsAtAFront}
use Rattle.wire_format.proofs.OneReading.{varint_same, length_same}
use Rattle.wire_format.proofs.TokenWalks.{Step, IsStep, IsStuck, one_walk}
use Rattle.wire_format.proofs.Leading.{fields_lead}
use Rattle.wire_format.proofs.NoFault.{next_end}

-- the content of a group, and its end
pub record IsRest (number : ℕ) (body content : List ℕ) : Type 0 where
  pub end : List ℕ
  pub is_whole : body ≡ content ++ end
  pub is_end : IsHeader end number 4
  pub is_filled : MayFill 32 content

-- what follows the header of a field
abbrev pub IsAfter : ℕ → List ℕ → Payload → Type 0
IsAfter number body (Varint value) = IsPlain body (Varint value)
IsAfter number body (Eight value) = IsPlain body (Eight value)
IsAfter number body (Bytes content) = IsPlain body (Bytes content)
IsAfter number body (Group content) = IsRest number body content.now
IsAfter number body (Four value) = IsPlain body (Four value)

-- a field as its header, and what follows that
pub record Split (bytes : List ℕ) (number : ℕ) (payload : Payload) : Type 0 where
  pub header : List ℕ
  pub body : List ℕ
  pub is_whole : bytes ≡ header ++ body
  pub is_header : IsHeader header number (header_kind payload)
  pub is_after : IsAfter number body payload

pub split : (bytes : List ℕ) (number : ℕ) (payload : Payload) → IsField bytes number payload → Split bytes number payload
split bytes number (Varint value) field = record { header = field.header; body = field.body; is_whole = field.is_whole; is_header = field.is_header; is_after = field.is_plain }
split bytes number (Eight value) field = record { header = field.header; body = field.body; is_whole = field.is_whole; is_header = field.is_header; is_after = field.is_plain }
split bytes number (Bytes content) field = record { header = field.header; body = field.body; is_whole = field.is_whole; is_header = field.is_header; is_after = field.is_plain }
split bytes number (Four value) field = record { header = field.header; body = field.body; is_whole = field.is_whole; is_header = field.is_header; is_after = field.is_plain }
split bytes number (Group content) field = record {
  header = field.start;
  body = content.now ++ field.end;
  is_whole = field.is_whole ∙ append_assoc field.start content.now field.end;
  is_header = field.is_start;
  is_after = record { end = field.end; is_whole = refl; is_end = field.is_end; is_filled = field.is_filled };
}

-- the end of a group is no token that may stand where no group is open
pub stuck_at_an_end : (end after : List ℕ) (number : ℕ) → IsHeader end number 4 → IsStuck [] (end ++ after)
stuck_at_an_end end after number header =
    λ (token : Step) (behind : List ℕ) (piece : IsStep token) (same : token.bytes ++ behind ≡ end ++ after).
    let joined : piece.header ++ (piece.body ++ behind) ≡ end ++ after
    = sym (append_assoc piece.header piece.body behind) ∙ ap (λ front. front ++ behind) (sym piece.is_whole) ∙ same in
    let one = varint_same piece.header end (piece.body ++ behind) after (token.number * 8 + token.kind) (number * 8 + 4)
    piece.is_header.is_varint header.is_varint joined in
    next_end token [] (omega (arith, one.2, piece.is_kind))

-- a group's content ends at one place
contents_same : (number : ℕ) (a b content other x y : List ℕ) → IsRest number a content → IsRest number b other → a ++ x ≡ b ++ y →
    (a ≡ b) × (content ≡ other)
contents_same number a b content other x y f g same =
    let mine = fields_lead 31 content f.is_filled [] (omega arith) in
    let theirs = fields_lead 31 other g.is_filled [] (omega arith) in
    let joined : content ++ (f.end ++ x) ≡ other ++ (g.end ++ y)
    = sym (append_assoc content f.end x) ∙ ap (λ front. front ++ x) (sym f.is_whole) ∙ same
    ∙ ap (λ front. front ++ y) g.is_whole ∙ append_assoc other g.end y in
    let one = one_walk mine.tokens theirs.tokens [] [] [] (f.end ++ x) (g.end ++ y) mine.are_tokens theirs.are_tokens mine.leads theirs.leads
    (ap (λ front. front ++ (f.end ++ x)) (sym mine.is_whole) ∙ joined ∙ ap (λ front. front ++ (g.end ++ y)) theirs.is_whole)
    (stuck_at_an_end f.end x number f.is_end) (stuck_at_an_end g.end y number g.is_end) in
    let long : length content ≡ length other
    = omega (arith, ap length joined, ap length one.1, length-append content (f.end ++ x), length-append other (g.end ++ y)) in
    let contents = length_same content other (f.end ++ x) (g.end ++ y) long joined in
    let ends = varint_same f.end g.end x y (number * 8 + 4) (number * 8 + 4) f.is_end.is_varint g.is_end.is_varint one.1 in
    (f.is_whole ∙ ap (λ front. front ++ f.end) contents.0 ∙ ap (λ end. other ++ end) ends.0 ∙ sym g.is_whole, contents.0)

-- what follows headers of one number and kind is the same
afters_same : (number : ℕ) (a b x y : List ℕ) (payload other : Payload) → header_kind payload ≡ header_kind other →
    IsAfter number a payload → IsAfter number b other → a ++ x ≡ b ++ y → (a ≡ b) × HoldSame payload other
afters_same number a b x y (Varint value) (Varint second) kinds f g same =
    let one = varint_same a b x y value second f g same in (one.0, one.2)
afters_same number a b x y (Eight value) (Eight second) kinds f g same =
    let one = length_same a b x y (f.0 ∙ sym g.0) same in (one.0, f.1 ∙ ap (little_number 8) one.0 ∙ sym g.1)
afters_same number a b x y (Bytes content) (Bytes second) kinds f g same =
    let joined : f.count ++ (content.now ++ x) ≡ g.count ++ (second.now ++ y)
    = sym (append_assoc f.count content.now x) ∙ ap (λ front. front ++ x) (sym f.is_whole) ∙ same
    ∙ ap (λ front. front ++ y) g.is_whole ∙ append_assoc g.count second.now y in
    let counts = varint_same f.count g.count (content.now ++ x) (second.now ++ y) (length content.now) (length second.now)
    f.is_count g.is_count joined in
    let contents = length_same content.now second.now x y counts.2 counts.1 in
    (f.is_whole ∙ ap (λ count. count ++ content.now) counts.0 ∙ ap (λ held. g.count ++ held) contents.0 ∙ sym g.is_whole, contents.0)
afters_same number a b x y (Group content) (Group second) kinds f g same =
    contents_same number a b content.now second.now x y f g same
afters_same number a b x y (Four value) (Four second) kinds f g same =
    let one = length_same a b x y (f.0 ∙ sym g.0) same in (one.0, f.1 ∙ ap (little_number 4) one.0 ∙ sym g.1)
afters_same number a b x y _ _ kinds f g same = absurd (omega (arith, kinds))

kind_below : (payload : Payload) → header_kind payload < 8
kind_below (Varint value) = omega arith
kind_below (Eight value) = omega arith
kind_below (Bytes content) = omega arith
kind_below (Group content) = omega arith
kind_below (Four value) = omega arith

-- two fields at the front of the same bytes are one
pub field_same : (a b x y : List ℕ) (m n : ℕ) (payload other : Payload) → IsField a m payload → IsField b n other → a ++ x ≡ b ++ y →
    (a ≡ b) × (m ≡ n) × HoldSame payload other
field_same a b x y m n payload other field also same =
    let f = split a m payload field in
    let g = split b n other also in
    let joined : f.header ++ (f.body ++ x) ≡ g.header ++ (g.body ++ y)
    = sym (append_assoc f.header f.body x) ∙ ap (λ front. front ++ x) (sym f.is_whole) ∙ same
    ∙ ap (λ front. front ++ y) g.is_whole ∙ append_assoc g.header g.body y in
    let headers = varint_same f.header g.header (f.body ++ x) (g.body ++ y) (m * 8 + header_kind payload) (n * 8 + header_kind other)
    f.is_header.is_varint g.is_header.is_varint joined in
    let numbers : m ≡ n = omega (arith, headers.2, kind_below payload, kind_below other) in
    let kinds : header_kind payload ≡ header_kind other = omega (arith, headers.2, kind_below payload, kind_below other) in
    let bodies = afters_same n f.body g.body x y payload other kinds (subst (λ number. IsAfter number f.body payload) numbers f.is_after)
    g.is_after headers.1 in (
      f.is_whole ∙ ap (λ header. header ++ f.body) headers.0 ∙ ap (λ body. g.header ++ body) bodies.0 ∙ sym g.is_whole,
      numbers,
      bodies.1,
    )

pub one_field : OneFieldStandsAtAFront
one_field bytes size other_size number other_number payload other f g =
    let one = field_same (take size bytes) (take other_size bytes) (drop size bytes) (drop other_size bytes) number other_number payload other
    f.1 g.1 (take-append-drop size bytes ∙ sym (take-append-drop other_size bytes)) in
    (omega (arith, ap length one.0, length-take-le size bytes f.0, length-take-le other_size bytes g.0), one.1, one.2)
