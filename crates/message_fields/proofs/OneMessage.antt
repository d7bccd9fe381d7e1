-- Pieces of an input are one message at most.
use Rattle.std.proofs.Common.{◌≡◌, ℕ, ◌+◌, ◌-◌, ◌*◌, ◌<◌, ◌≤◌, List, [], ◌∷◌, ◌++◌, inl, inr, Option, Some, length, take, drop, slice_range, refl, sym, ap, subst, ◌∙◌, arith}
use Rattle.std.specs.List.{filter}
use Rattle.std.proofs.lemmas.List.{length-append, length-take, length-take-le, length-drop, take-take, take-append-drop, nil_from_length}
use Rattle.wire_format.specs.declared.field.Payload.{Payload}
use Rattle.wire_format.specs.declared.field.Payload.TheVariants.{Varint, Eight, Bytes, Group, Four}
use Rattle.wire_format.specs.declared.fault.WireFault.{WireFault}
use Rattle.wire_format.specs.declared.fault.WireReason.{WireReason}
use Rattle.wire_format.specs.Fields.{IsHeader, IsField, MayFill}
use Rattle.wire_format.specs.Faults.{IsFault, HasNoField}
use Rattle.wire_format.specs.FieldLists.{HoldSame}
use Rattle.wire_format.proofs.Nesting.{no_fields}
use Rattle.wire_format.proofs.NoFault.{fields_have_no_fault}
use Rattle.wire_format.proofs.OneReading.{varint_same}
use Rattle.wire_format.proofs.OneFault.{one_fault}
use Rattle.wire_format.proofs.OneField.{one_field}
use Rattle.wire_format.proofs.FieldLemmas.{field_some}
use Rattle.message_fields.specs.declared.field.Part.{Part}
use Rattle.message_fields.specs.declared.field.Held.{Held}
use Rattle.message_fields.specs.declared.field.Held.TheVariants.{Varint as HeldVarint, Eight as HeldEight, Bytes as HeldBytes, Group as HeldGroup, Four as HeldFour}
use Rattle.message_fields.specs.declared.field.PlacedField.{PlacedField}
use Rattle.message_fields.specs.declared.message.Message.{Message}
use Rattle.message_fields.specs.Fields.{IsPartOf, ArePartsOf, IsFixed, IsContent, IsGroupContent, Holds, IsFieldIn, AreFieldsIn, IsFaultyPart}
use Rattle.message_fields.specs.Readings.{is_known, AreFieldsOf}
use Rattle.message_fields.specs.Laws.{PiecesAreOneMessage, PiecesAreOneWholeMessage}
use Rattle.message_fields.proofs.PartLemmas.{length_part}

part_same : (p q : Part) → p.begin ≡ q.begin → p.end ≡ q.end → p ≡ q
part_same p q begins ends =
    ap (λ begin. record { begin = begin; end = p.end }) begins ∙ ap (λ end. record { begin = q.begin; end = end }) ends

contents_same : (input : List ℕ) (end : ℕ) (content second : List ℕ) (held other : Held) → IsContent input end content held →
    IsContent input end second other → content ≡ second → held ≡ other
contents_same input end content second held other one two same =
    let long = length_part input one.part.begin one.part.end one.is_part.0 one.is_part.1 in
    let also = length_part input two.part.begin two.part.end two.is_part.0 two.is_part.1 in
    let begins : one.part.begin ≡ two.part.begin
    = omega (arith, long, also, ap length one.is_content, ap length two.is_content, ap length same, one.ends, two.ends, one.is_part.0, two.is_part.0) in
    one.is_held ∙ ap HeldBytes (part_same one.part two.part begins (one.ends ∙ sym two.ends)) ∙ sym two.is_held

fixed_same : (input : List ℕ) (end size : ℕ) (form : Part → Held) (held other : Held) → IsFixed input end size form held →
    IsFixed input end size form other → held ≡ other
fixed_same input end size form held other one two =
    let begins : one.part.begin ≡ two.part.begin = omega (arith, one.is_long, two.is_long, one.ends, two.ends) in
    one.is_held ∙ ap form (part_same one.part two.part begins (one.ends ∙ sym two.ends)) ∙ sym two.is_held

header_some : (bytes : List ℕ) (number kind : ℕ) → IsHeader bytes number kind → 0 < length bytes
header_some bytes number kind header =
    omega (arith, ap length header.is_varint.is_whole, length-append header.is_varint.front (header.is_varint.last ∷ []))

length_front : (size : ℕ) (bytes : List ℕ) → length (take size bytes) ≤ size
length_front size bytes = omega (arith, length-take size bytes)

groups_same : (input : List ℕ) (at end number : ℕ) (content second : List ℕ) (held other : Held) →
    IsGroupContent input at end number content held → IsGroupContent input at end number second other → content ≡ second → held ≡ other
groups_same input at end number content second held other one two same =
    let headers = varint_same (slice_range input at one.part.begin) (slice_range input at two.part.begin)
    (drop (one.part.begin - at) (drop at input)) (drop (two.part.begin - at) (drop at input)) (number * 8 + 3) (number * 8 + 3)
    one.starts.is_varint two.starts.is_varint
    (take-append-drop (one.part.begin - at) (drop at input) ∙ sym (take-append-drop (two.part.begin - at) (drop at input))) in
    let mine = header_some (slice_range input at one.part.begin) number 3 one.starts in
    let theirs = header_some (slice_range input at two.part.begin) number 3 two.starts in
    let before : at < one.part.begin = omega (arith, mine, length_front (one.part.begin - at) (drop at input)) in
    let also : at < two.part.begin = omega (arith, theirs, length_front (two.part.begin - at) (drop at input)) in
    let begins : one.part.begin ≡ two.part.begin
    = omega (
      arith,
      ap length headers.0,
      before,
      also,
      length_part input at one.part.begin (omega (arith, before)) (omega (arith, one.is_part.0, one.is_part.1)),
      length_part input at two.part.begin (omega (arith, also)) (omega (arith, two.is_part.0, two.is_part.1)),
    ) in
    let ends : one.part.end ≡ two.part.end
    = omega (
      arith,
      begins,
      ap length one.is_content,
      ap length two.is_content,
      ap length same,
      one.is_part.0,
      two.is_part.0,
      length_part input one.part.begin one.part.end one.is_part.0 one.is_part.1,
      length_part input two.part.begin two.part.end two.is_part.0 two.is_part.1,
    ) in
    one.is_held ∙ ap HeldGroup (part_same one.part two.part begins ends) ∙ sym two.is_held

-- what two fields hold that hold the same
held_same : (input : List ℕ) (at end number : ℕ) (payload second : Payload) (held other : Held) → HoldSame payload second →
    Holds input at end number payload held → Holds input at end number second other → held ≡ other
held_same input at end number (Varint value) (Varint second) held other same one two = one ∙ ap HeldVarint same ∙ sym two
held_same input at end number (Eight value) (Eight second) held other same one two = fixed_same input end 8 HeldEight held other one two
held_same input at end number (Bytes content) (Bytes second) held other same one two =
    contents_same input end content.now second.now held other one two same
held_same input at end number (Group content) (Group second) held other same one two =
    groups_same input at end number content.now second.now held other one two same
held_same input at end number (Four value) (Four second) held other same one two = fixed_same input end 4 HeldFour held other one two
held_same input at end number _ _ held other same one two = absurd same

placed_same : (x y : PlacedField) → x.number ≡ y.number → x.at ≡ y.at → x.held ≡ y.held → x ≡ y
placed_same x y numbers places held =
    ap (λ number. record { number = number; at = x.at; held = x.held }) numbers
    ∙ ap (λ at. record { number = y.number; at = at; held = x.held }) places
    ∙ ap (λ held. record { number = y.number; at = y.at; held = held }) held

-- two fields at one place
pub fields_same : (input : List ℕ) (x y : PlacedField) (e f : ℕ) → x.at ≡ y.at → x.at ≤ e → x.at ≤ f → e ≤ length input → f ≤ length input →
    IsFieldIn input x e → IsFieldIn input y f → (e ≡ f) × (x ≡ y)
fields_same input x y e f places before also within fits one two =
    let second : IsField (slice_range input x.at f) y.number two.payload
    = subst (λ at. IsField (slice_range input at f) y.number two.payload) (sym places) two.is_field in
    let same = one_field (drop x.at input) (e - x.at) (f - x.at) x.number y.number one.payload two.payload
    (omega (arith, within, length-drop x.at input), one.is_field) (omega (arith, fits, length-drop x.at input), second) in
    let ends : e ≡ f = omega (arith, same.0, before, also) in
    let holds : Holds input x.at e x.number two.payload y.held
    = subst (λ number. Holds input x.at e number two.payload y.held) (sym same.1)
    (subst (λ end. Holds input x.at end y.number two.payload y.held) (sym ends)
    (subst (λ at. Holds input at f y.number two.payload y.held) (sym places) two.holds)) in
    (ends, placed_same x y same.1 places (held_same input x.at e x.number one.payload two.payload x.held y.held same.2 one.holds holds))

-- fields go on
pub ends_after : (input : List ℕ) (begin : ℕ) (fields : List PlacedField) (end : ℕ) → AreFieldsIn input begin fields end → begin ≤ end
ends_after input begin [] end are = omega (arith, are)
ends_after input begin (field ∷ fields) end are = omega (arith, are.is_after, ends_after input are.end fields end are.follow)

-- a field stands at the front of what is left
pub stands_at_front : (input : List ℕ) (place end last : ℕ) (field : PlacedField) → field.at ≡ place → place ≤ last → last ≤ end →
    end ≤ length input → IsFieldIn input field last → HasNoField (slice_range input place end) → ⊥
stands_at_front input place end last field at before within fits is none =
    let is_field : IsField (slice_range input place last) field.number is.payload
    = subst (λ begin. IsField (slice_range input begin last) field.number is.payload) at is.is_field in
    none (last - place) field.number is.payload (
      omega (arith, length_part input place end (omega (arith, before, within)) fits, before, within),
      subst (λ bytes. IsField bytes field.number is.payload)
          (sym (take-take (last - place) (end - place) (drop place input) (omega (arith, within)))) is_field,
    )

-- Two lists of fields from one place, after each of which no field stands before one end.
lists_same : (input : List ℕ) (begin p q end : ℕ) (xs ys : List PlacedField) → p ≤ end → q ≤ end → end ≤ length input →
    AreFieldsIn input begin xs p → AreFieldsIn input begin ys q → HasNoField (slice_range input p end) →
    HasNoField (slice_range input q end) → (xs ≡ ys) × (p ≡ q)
lists_same input begin p q end [] [] pe qe fits one two none nor = (refl, sym one ∙ two)
lists_same input begin p q end [] (y ∷ ys) pe qe fits one two none nor =
    absurd (stands_at_front input p end two.end y (two.is_next ∙ one) (omega (arith, two.is_after, one))
    (omega (arith, ends_after input two.end ys q two.follow, qe)) fits two.is_field none)
lists_same input begin p q end (x ∷ xs) [] pe qe fits one two none nor =
    absurd (stands_at_front input q end one.end x (one.is_next ∙ two) (omega (arith, one.is_after, two))
    (omega (arith, ends_after input one.end xs p one.follow, pe)) fits one.is_field nor)
lists_same input begin p q end (x ∷ xs) (y ∷ ys) pe qe fits one two none nor =
    let mine = ends_after input one.end xs p one.follow in
    let theirs = ends_after input two.end ys q two.follow in
    let same = fields_same input x y one.end two.end (one.is_next ∙ sym two.is_next) (omega (arith, one.is_next, one.is_after))
    (omega (arith, one.is_next, two.is_after)) (omega (arith, mine, pe, fits)) (omega (arith, theirs, qe, fits)) one.is_field two.is_field in
    let rest = lists_same input one.end p q end xs ys pe qe fits one.follow
    (subst (λ next. AreFieldsIn input next ys q) (sym same.0) two.follow) none nor in
    (ap (λ first. first ∷ xs) same.1 ∙ ap (λ back. y ∷ back) rest.0, rest.1)

-- no bytes stand between a place and itself
nothing_between : (input : List ℕ) (place end : ℕ) → place ≡ end → slice_range input place end ≡ []
nothing_between input place end same =
    nil_from_length (slice_range input place end) (omega (arith, length_front (end - place) (drop place input), same))

no_field_of_nothing : (bytes : List ℕ) → bytes ≡ [] → HasNoField bytes
no_field_of_nothing bytes none size number payload field =
    omega (arith, ap length none, field.0, field_some (take size bytes) number payload field.1, length-take-le size bytes field.0)

pub no_fault_of_nothing : (bytes : List ℕ) (reason : WireReason) (place : ℕ) → bytes ≡ [] → IsFault bytes reason place → ⊥
no_fault_of_nothing bytes reason place none fault =
    fields_have_no_fault [] reason place (no_fields (MayFill 32)) (subst (λ found. IsFault found reason place) none fault)

-- a part is not both whole and at fault
whole_or_faulty : (input : List ℕ) (part : Part) (xs ys : List PlacedField) (fault : WireFault) → IsPartOf input part →
    AreFieldsIn input part.begin xs part.end → IsFaultyPart input part ys fault → ⊥
whole_or_faulty input part xs ys fault is_part whole faulty =
    let same = lists_same input part.begin part.end faulty.place part.end xs ys (omega arith) faulty.is_within is_part.1 whole faulty.are_fields
    (no_field_of_nothing (slice_range input part.end part.end) (nothing_between input part.end part.end refl)) faulty.is_next in
    no_fault_of_nothing (slice_range input faulty.place part.end) fault.reason faulty.offset
    (nothing_between input faulty.place part.end (sym same.1)) faulty.is_fault

fault_same : (f g : WireFault) → f.at ≡ g.at → f.reason ≡ g.reason → f ≡ g
fault_same f g places reasons =
    ap (λ at. record { at = at; reason = f.reason }) places ∙ ap (λ reason. record { at = g.at; reason = reason }) reasons

-- a part has one fault
faults_same : (input : List ℕ) (part : Part) (xs ys : List PlacedField) (f g : WireFault) → IsPartOf input part →
    IsFaultyPart input part xs f → IsFaultyPart input part ys g → (xs ≡ ys) × (f ≡ g)
faults_same input part xs ys f g is_part one two =
    let same = lists_same input part.begin one.place two.place part.end xs ys one.is_within two.is_within is_part.1 one.are_fields two.are_fields
    one.is_next two.is_next in
    let second : IsFault (slice_range input one.place part.end) g.reason two.offset
    = subst (λ place. IsFault (slice_range input place part.end) g.reason two.offset) (sym same.1) two.is_fault in
    let fault = one_fault (slice_range input one.place part.end) f.reason g.reason one.offset two.offset one.is_fault second in
    (same.0, fault_same f g (omega (arith, one.is_place, two.is_place, same.1, fault.1)) fault.0)

-- the first piece, and what follows it
pieces_same : (input : List ℕ) (part : Part) (parts : List Part) (xs ys : List PlacedField) (f g : Option WireFault) → IsPartOf input part →
    ((us vs : List PlacedField) → AreFieldsOf input parts us f → AreFieldsOf input parts vs g → (us ≡ vs) × (f ≡ g)) →
    AreFieldsOf input (part ∷ parts) xs f → AreFieldsOf input (part ∷ parts) ys g → (xs ≡ ys) × (f ≡ g)
pieces_same input part parts xs ys f g is_part later (inl one) (inl two) =
    let nothing = no_field_of_nothing (slice_range input part.end part.end) (nothing_between input part.end part.end refl) in
    let first = lists_same input part.begin part.end part.end part.end one.first two.first (omega arith) (omega arith) is_part.1
    one.is_whole two.is_whole nothing nothing in
    let rest = later one.rest two.rest one.follow two.follow in
    (one.are_both ∙ ap (λ front. front ++ one.rest) first.0 ∙ ap (λ back. two.first ++ back) rest.0 ∙ sym two.are_both, rest.1)
pieces_same input part parts xs ys f g is_part later (inl one) (inr two) =
    absurd (whole_or_faulty input part one.first ys two.found is_part one.is_whole two.is_faulty)
pieces_same input part parts xs ys f g is_part later (inr one) (inl two) =
    absurd (whole_or_faulty input part two.first xs one.found is_part two.is_whole one.is_faulty)
pieces_same input part parts xs ys f g is_part later (inr one) (inr two) =
    let same = faults_same input part xs ys one.found two.found is_part one.is_faulty two.is_faulty in
    (same.0, one.is_fault ∙ ap Some same.1 ∙ sym two.is_fault)

all_same : (input : List ℕ) (parts : List Part) (xs ys : List PlacedField) (f g : Option WireFault) → ArePartsOf input parts →
    AreFieldsOf input parts xs f → AreFieldsOf input parts ys g → (xs ≡ ys) × (f ≡ g)
all_same input [] xs ys f g are one two = (one.0 ∙ sym two.0, one.1 ∙ sym two.1)
all_same input (part ∷ parts) xs ys f g are one two =
    pieces_same input part parts xs ys f g are.0 (λ us vs first second. all_same input parts us vs f g are.1 first second) one two

message_same : (a b : Message) → a.fields ≡ b.fields → a.wire_fault ≡ b.wire_fault → a.end ≡ b.end → a ≡ b
message_same a b fields faults ends =
    ap (λ fields. record { fields = fields; wire_fault = a.wire_fault; end = a.end }) fields
    ∙ ap (λ fault. record { fields = b.fields; wire_fault = fault; end = a.end }) faults
    ∙ ap (λ end. record { fields = b.fields; wire_fault = b.wire_fault; end = end }) ends

pub one_message : PiecesAreOneMessage
one_message known input parts message other are one two =
    let same = all_same input parts one.fields two.fields message.wire_fault other.wire_fault are one.are_fields two.are_fields in
    message_same message other (one.are_known ∙ ap (filter (is_known known)) same.0 ∙ sym two.are_known) same.1 (one.is_end ∙ sym two.is_end)

pub one_whole_message : PiecesAreOneWholeMessage
one_whole_message input parts message other are one two =
    let same = all_same input parts message.fields other.fields message.wire_fault other.wire_fault are one.are_fields two.are_fields in
    message_same message other same.0 same.1 (one.is_end ∙ sym two.is_end)
