-- Where the first field of some bytes is at fault, no field stands at their front.
use Rattle.std.proofs.Common.{◌≡◌, ℕ, ◌+◌, ◌*◌, ◌<◌, ◌≤◌, List, [], ◌∷◌, ◌++◌, length, take, drop, Some, None, sym, ap, subst, ◌∙◌, arith}
use Rattle.std.specs.List.{AllByRecursion}
use Rattle.std.proofs.lemmas.List.{append_assoc, append-nil, length-append, length-take-le, length-drop, take-append-drop}
use Rattle.wire_format.specs.declared.field.Payload.{Payload}
use Rattle.wire_format.specs.declared.field.Payload.TheVariants.{Varint, Eight, Bytes, Group, Four}
use Rattle.wire_format.specs.declared.fault.WireReason.{WireReason}
use Rattle.wire_format.specs.Fields.{IsHeader, IsField, MayFill, header_kind}
use Rattle.wire_format.specs.Faults.{AreOpen, IsFaultWithin, HasNoField, IsFirstFault}
use Rattle.wire_format.proofs.OneReading.{varint_same, piece_same}
use Rattle.wire_format.proofs.TokenWalks.{Step, IsStep, IsStuck, Leads, next, walk, bytes_of, none_some, some_same, walk_step, token_same}
use Rattle.wire_format.proofs.Leading.{fields_lead, open_leads, leads_none, leads_join, end_leads, onto}
use Rattle.wire_format.proofs.GroupLemmas.{IsWithin, all_open, fault_at, up_to}
use Rattle.wire_format.proofs.NoFault.{stuck_at_fault}
use Rattle.wire_format.proofs.OneField.{IsAfter, split, stuck_at_an_end}
use Rattle.wire_format.proofs.ListsOfFields.{field_some, some_field}

-- a walk that is stuck goes at least as far as another one over the same bytes
no_further : (ts us : List Step) (start new other r q : List ℕ) → AllByRecursion IsStep ts → AllByRecursion IsStep us →
    walk ts start ≡ Some new → walk us start ≡ Some other → bytes_of ts ++ r ≡ bytes_of us ++ q → IsStuck other q → length q ≤ length r
unfolding walk bytes_of
no_further [] us start new other r q at au wt wu same stuck =
    omega (arith, ap length same, length-append (bytes_of us) q)
no_further (t ∷ ts) [] start new other r q at au wt wu same stuck =
    let step = walk_step (next t start) ts new wt in
    let here : start ≡ other = some_same start other wu in
    let none : next t other ≡ None = stuck t (bytes_of ts ++ r) at.0 (sym (append_assoc t.bytes (bytes_of ts) r) ∙ same) in
    absurd (none_some step.0 (sym none ∙ ap (next t) (sym here) ∙ step.1.0))
no_further (t ∷ ts) (u ∷ us) start new other r q at au wt wu same stuck =
    let first = walk_step (next t start) ts new wt in
    let second = walk_step (next u start) us other wu in
    let one = piece_same t.bytes u.bytes (bytes_of ts ++ r) (bytes_of us ++ q) t.number u.number t.kind u.kind at.0 au.0
    (sym (append_assoc t.bytes (bytes_of ts) r) ∙ same ∙ append_assoc u.bytes (bytes_of us) q) in
    let alike : t ≡ u = token_same t u one.0 one.2 one.3 in
    let mids : first.0 ≡ second.0
    = some_same first.0 second.0 (sym first.1.0 ∙ ap (λ token. next token start) alike ∙ second.1.0) in
    no_further ts us first.0 new other r q at.1 au.1 first.1.1
    (subst (λ mid. walk us mid ≡ Some other) (sym mids) second.1.1) one.1 stuck

-- the same of what leads from some open groups to others
leads_no_further : (a b old new other r q : List ℕ) → Leads a old new → Leads b old other → a ++ r ≡ b ++ q → IsStuck other q →
    length q ≤ length r
leads_no_further a b old new other r q first second same stuck =
    no_further first.tokens second.tokens old new other r q first.are_tokens second.are_tokens first.leads second.leads
    (ap (λ front. front ++ r) (sym first.is_whole) ∙ same ∙ ap (λ front. front ++ q) second.is_whole) stuck

one_leads : (bytes : List ℕ) (number : ℕ) (payload : Payload) → IsField bytes number payload → Leads bytes [] []
one_leads bytes number payload field =
    fields_lead 32 bytes (record { pieces = bytes ∷ []; is_whole = sym (append-nil bytes); are_fields = (some_field bytes number payload field, tt) })
    [] (omega arith)

-- no field stands where a fault does
pub none_at_fault : (bytes : List ℕ) (reason : WireReason) (offset : ℕ) → IsFaultWithin [] bytes reason offset → HasNoField bytes
unfolding onto
none_at_fault bytes reason offset fault size number payload field =
    let far = leads_no_further (take size bytes) [] [] [] [] (drop size bytes) bytes (one_leads (take size bytes) number payload field.1)
    (leads_none []) (take-append-drop size bytes)
    (stuck_at_fault [] bytes reason offset fault) in
    omega (arith, far, field_some (take size bytes) number payload field.1, length-take-le size bytes field.0, length-drop size bytes)

-- the content of a group that ends, against one that is at fault
content_against : (group : ℕ) (inner inside rest content end after : List ℕ) (reason : WireReason) (offset : ℕ) →
    AreOpen 31 inner inside → IsFaultWithin (group ∷ inner) rest reason offset → MayFill 32 content → IsHeader end group 4 →
    inside ++ rest ≡ content ++ (end ++ after) → ⊥
unfolding onto
content_against group inner inside rest content end after reason offset are fault filled is_end same =
    let short = leads_no_further inside content [] (onto inner []) [] rest (end ++ after) (open_leads 31 inner inside are [] (omega arith))
    (fields_lead 31 content filled [] (omega arith)) same (stuck_at_an_end end after group is_end) in
    let long = leads_no_further (content ++ end) inside (group ∷ []) [] (onto inner (group ∷ [])) after rest
    (leads_join content end (group ∷ []) (group ∷ []) [] (fields_lead 31 content filled (group ∷ []) (omega arith))
    (end_leads end group [] is_end))
    (open_leads 31 inner inside are (group ∷ []) (omega arith)) (append_assoc content end after ∙ sym same)
    (stuck_at_fault (group ∷ inner) rest reason offset fault) in
    omega (
      arith,
      short,
      long,
      length-append end after,
      ap length is_end.is_varint.is_whole,
      length-append is_end.is_varint.front (is_end.is_varint.last ∷ []),
    )

-- what follows the start of a group that is at fault is no end of a field
after_against : (group : ℕ) (inner inside rest body after : List ℕ) (payload : Payload) (reason : WireReason) (offset : ℕ) →
    AreOpen 31 inner inside → IsFaultWithin (group ∷ inner) rest reason offset → header_kind payload ≡ 3 → IsAfter group body payload →
    inside ++ rest ≡ body ++ after → ⊥
after_against group inner inside rest body after (Varint value) reason offset are fault is_group held same = absurd (omega (arith, is_group))
after_against group inner inside rest body after (Eight value) reason offset are fault is_group held same = absurd (omega (arith, is_group))
after_against group inner inside rest body after (Bytes content) reason offset are fault is_group held same = absurd (omega (arith, is_group))
after_against group inner inside rest body after (Four value) reason offset are fault is_group held same = absurd (omega (arith, is_group))
after_against group inner inside rest body after (Group content) reason offset are fault is_group held same =
    content_against group inner inside rest content.now held.end after reason offset are fault held.is_filled held.is_end
    (same ∙ ap (λ front. front ++ after) held.is_whole ∙ append_assoc content.now held.end after)

kind_below : (payload : Payload) → header_kind payload < 8
kind_below (Varint value) = omega arith
kind_below (Eight value) = omega arith
kind_below (Bytes content) = omega arith
kind_below (Group content) = omega arith
kind_below (Four value) = omega arith

-- no field stands where a group starts that is at fault
pub none_at_faulty_group : (bytes start inside rest : List ℕ) (group : ℕ) (inner : List ℕ) (reason : WireReason) (offset : ℕ) →
    bytes ≡ start ++ (inside ++ rest) → IsHeader start group 3 → AreOpen 31 inner inside → IsFaultWithin (group ∷ inner) rest reason offset →
    HasNoField bytes
none_at_faulty_group bytes start inside rest group inner reason offset whole is_start are fault size number payload field =
    let parts = split (take size bytes) number payload field.1 in
    let after : List ℕ = drop size bytes in
    let joined : start ++ (inside ++ rest) ≡ parts.header ++ (parts.body ++ after)
    = sym whole ∙ sym (take-append-drop size bytes) ∙ ap (λ front. front ++ after) parts.is_whole
    ∙ append_assoc parts.header parts.body after in
    let one = varint_same start parts.header (inside ++ rest) (parts.body ++ after) (group * 8 + 3) (number * 8 + header_kind payload)
    is_start.is_varint parts.is_header.is_varint joined in
    let kind : header_kind payload ≡ 3 = omega (arith, one.2, kind_below payload) in
    let numbers : number ≡ group = omega (arith, one.2, kind_below payload) in
    after_against group inner inside rest parts.body after payload reason offset are fault kind
    (subst (λ n. IsAfter n parts.body payload) numbers parts.is_after) one.1

-- a fault inside a group at the front
pub group_fault : (bytes : List ℕ) (start at offset group : ℕ) (numbers : List ℕ) (reason : WireReason) → start ≤ at → at ≤ length bytes →
    IsHeader (take start bytes) group 3 → IsWithin group numbers (drop start (take at bytes)) →
    IsFaultWithin numbers (drop at bytes) reason offset → IsFirstFault bytes reason (at + offset)
group_fault bytes start at offset group numbers reason starts inside is_start within fault = (
  fault_at bytes at offset numbers reason inside (all_open bytes start at group numbers starts inside is_start within) fault,
  none_at_faulty_group bytes (take start bytes) (drop start (take at bytes)) (drop at bytes) group within.inner reason offset
      (sym (take-append-drop at bytes) ∙ ap (λ front. front ++ drop at bytes) (up_to bytes start at starts inside)
      ∙ append_assoc (take start bytes) (drop start (take at bytes)) (drop at bytes))
      is_start within.are_open (subst (λ numbered. IsFaultWithin numbered (drop at bytes) reason offset) within.is_outermost fault),
)

-- the same, at the place up to which all is right
pub group_fault_here : (bytes : List ℕ) (start at group : ℕ) (numbers : List ℕ) (reason : WireReason) → start ≤ at → at ≤ length bytes →
    IsHeader (take start bytes) group 3 → IsWithin group numbers (drop start (take at bytes)) →
    IsFaultWithin numbers (drop at bytes) reason 0 → IsFirstFault bytes reason at
group_fault_here bytes start at group numbers reason starts inside is_start within fault =
    subst (IsFirstFault bytes reason) (let same : at + 0 ≡ at = omega arith in same)
    (group_fault bytes start at 0 group numbers reason starts inside is_start within fault)
