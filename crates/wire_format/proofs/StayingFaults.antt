-- Faults that no bytes to come can mend.
use Rattle.std.proofs.Common.{◌≡◌, ◌≢◌, ℕ, ◌+◌, ◌*◌, ◌<◌, ◌≤◌, List, [], ◌∷◌, ◌++◌, ◌⊎◌, inl, inr, length, take, drop, sym, ap, subst, ◌∙◌, arith}
use Rattle.std.proofs.lemmas.List.{append_assoc, length-append, length-drop, take-append-drop, nil_from_length}
use Rattle.wire_format.specs.declared.fault.WireReason.{WireReason}
use Rattle.wire_format.specs.declared.fault.WireReason.TheVariants.{Cut, LongVarint, BadKind, ZeroNumber, BigNumber, OpenGroup, StrayEnd, TooDeep}
use Rattle.wire_format.specs.Varints.{IsCutVarint, IsLongVarint}
use Rattle.wire_format.specs.Fields.{LAST_NUMBER}
use Rattle.wire_format.specs.Faults.{IsNumber, IsCutBody, IsLongBody, HasHeader, IsInnermost, IsFaultWithin}
use Rattle.wire_format.specs.Walks.{Walked, IsWalkedOut, IsCutThere, Stays, MayGoOn}
use Rattle.wire_format.specs.Laws.{StayingFaultsStay}
use Rattle.wire_format.proofs.OneReading.{varint_same}
use Rattle.wire_format.proofs.TokenWalks.{IsStuck, one_walk}
use Rattle.wire_format.proofs.Leading.{open_leads, onto}
use Rattle.wire_format.proofs.NoFault.{varint_not_cut, varint_not_long, stuck_at_end, token_meets_cut, stuck_at_fault, staying_some}

-- bytes that end inside a varint have no longer one
pub cut_not_long : (bytes : List ℕ) → IsCutVarint bytes → IsLongVarint bytes → ⊥
cut_not_long bytes cut long =
    omega (arith, cut.is_short, ap length long.is_whole, length-append long.front (long.tenth ∷ long.after), long.is_ninth)

-- bytes that end inside a header have none
pub cut_no_header : (Holds : ℕ → ℕ → List ℕ → ℕ → Type 0) (bytes : List ℕ) → IsCutVarint bytes → HasHeader Holds bytes → ⊥
cut_no_header Holds bytes cut found =
    varint_not_cut found.header found.body bytes (found.number * 8 + found.kind) found.is_varint (sym found.is_whole) cut

-- bytes whose header is too long have none
pub long_no_header : (Holds : ℕ → ℕ → List ℕ → ℕ → Type 0) (bytes : List ℕ) → IsLongVarint bytes → HasHeader Holds bytes → ⊥
long_no_header Holds bytes long found =
    varint_not_long found.header found.body bytes (found.number * 8 + found.kind) found.is_varint (sym found.is_whole) long

-- two headers at the front of the same bytes are one
pub record AreOne (header other body rest : List ℕ) (number second kind sort : ℕ) : Type 0 where
  pub one_header : header ≡ other
  pub one_number : number ≡ second
  pub one_kind : kind ≡ sort
  pub one_body : body ≡ rest

pub headers_same : (Holds Also : ℕ → ℕ → List ℕ → ℕ → Type 0) (bytes : List ℕ) (f : HasHeader Holds bytes) (g : HasHeader Also bytes) →
    AreOne f.header g.header f.body g.body f.number g.number f.kind g.kind
headers_same Holds Also bytes f g =
    let one = varint_same f.header g.header f.body g.body (f.number * 8 + f.kind) (g.number * 8 + g.kind) f.is_varint g.is_varint
    (sym f.is_whole ∙ g.is_whole) in
    record {
      one_header = one.0;
      one_number = omega (arith, one.2, f.is_kind, g.is_kind);
      one_kind = omega (arith, one.2, f.is_kind, g.is_kind);
      one_body = one.1;
    }

cut_kind : (kind : ℕ) (body : List ℕ) → IsCutBody kind body → (kind ≢ 3) × (kind ≢ 4) × (kind < 6)
cut_kind kind body (inl cut) = (omega (arith, cut.0), omega (arith, cut.0), omega (arith, cut.0))
cut_kind kind body (inr (inl cut)) = (omega (arith, cut.0), omega (arith, cut.0), omega (arith, cut.0))
cut_kind kind body (inr (inr (inl cut))) = (omega (arith, cut.0), omega (arith, cut.0), omega (arith, cut.0))
cut_kind kind body (inr (inr (inr (inl cut)))) = (omega (arith, cut.0), omega (arith, cut.0), omega (arith, cut.0))
cut_kind kind body (inr (inr (inr (inr cut)))) = (omega (arith, cut.0), omega (arith, cut.0), omega (arith, cut.0))

long_kind : (kind : ℕ) → (kind ≡ 0) ⊎ (kind ≡ 2) → (kind ≢ 1) × (kind < 3)
long_kind kind (inl is) = (omega (arith, is), omega (arith, is))
long_kind kind (inr is) = (omega (arith, is), omega (arith, is))

-- what is cut has no varint that is too long
cut_not_long_body : (kind : ℕ) (body : List ℕ) → IsCutBody kind body → IsLongBody kind body → ⊥
cut_not_long_body kind body (inl cut) long = cut_not_long body cut.1 long.1
cut_not_long_body kind body (inr (inl cut)) long = (long_kind kind long.0).0 cut.0
cut_not_long_body kind body (inr (inr (inl cut))) long = cut_not_long body cut.1 long.1
cut_not_long_body kind body (inr (inr (inr (inl cut)))) long =
    varint_not_long cut.1.count cut.1.after body cut.1.value cut.1.is_count (sym cut.1.is_whole) long.1
cut_not_long_body kind body (inr (inr (inr (inr cut)))) long = omega (arith, (long_kind kind long.0).1, cut.0)

-- what a header that is cut is followed by
abbrev pub CutAfter : ℕ → ℕ → List ℕ → ℕ → Type 0
CutAfter number kind body size = IsNumber number × IsCutBody kind body

-- what a header is followed by that a varint follows which is too long
abbrev pub LongAfter : ℕ → ℕ → ℕ → List ℕ → ℕ → Type 0
LongAfter place number kind body size = IsNumber number × IsLongBody kind body × (place ≡ size + 9)

cut_against_long : (rest : List ℕ) (place : ℕ) → IsCutVarint rest ⊎ HasHeader CutAfter rest →
    ((place ≡ 9) × IsLongVarint rest) ⊎ HasHeader (LongAfter place) rest → ⊥
cut_against_long rest place (inl cut) (inl long) = cut_not_long rest cut long.1
cut_against_long rest place (inl cut) (inr long) = cut_no_header (LongAfter place) rest cut long
cut_against_long rest place (inr cut) (inl long) = long_no_header CutAfter rest long.1 cut
cut_against_long rest place (inr cut) (inr long) =
    let one = headers_same CutAfter (LongAfter place) rest cut long in
    let same : IsCutBody long.kind long.body
    = subst (λ kind. IsCutBody kind long.body) one.one_kind (subst (λ body. IsCutBody cut.kind body) one.one_body cut.holds.1) in
    cut_not_long_body long.kind long.body same long.holds.1

-- a header whose number or kind no cut header has
cut_against_header : (Holds : ℕ → ℕ → List ℕ → ℕ → Type 0) (rest : List ℕ) →
    ((number kind : ℕ) (body : List ℕ) (size : ℕ) → Holds number kind body size → IsNumber number → (kind ≢ 3) × (kind ≢ 4) × (kind < 6) → ⊥) →
    IsCutVarint rest ⊎ HasHeader CutAfter rest → HasHeader Holds rest → ⊥
cut_against_header Holds rest apart (inl cut) found = cut_no_header Holds rest cut found
cut_against_header Holds rest apart (inr cut) found =
    let one = headers_same CutAfter Holds rest cut found in
    let kinds = cut_kind cut.kind cut.body cut.holds.1 in
    apart found.number found.kind found.body (length found.header) found.holds
    (subst IsNumber one.one_number cut.holds.0)
    (subst (λ kind. (kind ≢ 3) × (kind ≢ 4) × (kind < 6)) one.one_kind kinds)

-- where bytes end inside a token, no fault stands that stays
pub cut_not_staying : (numbers rest : List ℕ) (reason : WireReason) (place : ℕ) → IsCutVarint rest ⊎ HasHeader CutAfter rest →
    Stays reason → IsFaultWithin numbers rest reason place → ⊥
cut_not_staying numbers rest Cut place cut stays fault = stays
cut_not_staying numbers rest LongVarint place cut stays fault = cut_against_long rest place cut fault
cut_not_staying numbers rest ZeroNumber place cut stays fault =
    cut_against_header (λ number kind body size. number ≡ 0) rest (λ number kind body size zero is kinds. omega (arith, zero, is.0)) cut fault.1
cut_not_staying numbers rest BigNumber place cut stays fault =
    cut_against_header (λ number kind body size. LAST_NUMBER < number) rest
    (λ number kind body size big is kinds. omega (arith, big, is.1)) cut fault.1
cut_not_staying numbers rest BadKind place cut stays fault =
    cut_against_header (λ number kind body size. IsNumber number × (6 ≤ kind)) rest
    (λ number kind body size bad is kinds. omega (arith, bad.1, kinds.2)) cut fault.1
cut_not_staying numbers rest OpenGroup place cut stays fault = stays
cut_not_staying numbers rest StrayEnd place cut stays fault =
    cut_against_header (λ number kind body size. IsNumber number × (kind ≡ 4) × (IsInnermost numbers number → ⊥)) rest
    (λ number kind body size stray is kinds. kinds.1 stray.1) cut fault.1
cut_not_staying numbers rest TooDeep place cut stays fault =
    cut_against_header (λ number kind body size. IsNumber number × (kind ≡ 3) × (length numbers ≡ 32)) rest
    (λ number kind body size deep is kinds. kinds.0 deep.1) cut fault.1

-- no token stands where a walk has ended
stuck_there : (walked : Walked) (bytes : List ℕ) → IsCutThere walked bytes → IsStuck (onto walked.numbers []) (drop walked.at bytes)
stuck_there walked bytes (inl end) =
    stuck_at_end (onto walked.numbers []) (drop walked.at bytes)
    (nil_from_length (drop walked.at bytes) (omega (arith, length-drop walked.at bytes, end)))
stuck_there walked bytes (inr cut) =
    λ token after piece same. absurd (token_meets_cut token (drop walked.at bytes) after piece same cut.1)

-- nor does a fault that stays
none_there : (walked : Walked) (bytes numbers rest : List ℕ) (reason : WireReason) (place : ℕ) → IsCutThere walked bytes →
    drop walked.at bytes ≡ rest → Stays reason → IsFaultWithin numbers rest reason place → ⊥
none_there walked bytes numbers rest reason place (inl end) same stays fault =
    omega (arith, staying_some numbers rest reason place stays fault, length-drop walked.at bytes, end, ap length same)
none_there walked bytes numbers rest reason place (inr cut) same stays fault =
    cut_not_staying numbers rest reason place
    (subst (λ (left : List ℕ). IsCutVarint left ⊎ HasHeader CutAfter left) same cut.1) stays fault

-- bytes that are walked as far as they go have no fault that stays
pub may_go_on : (walked : Walked) (bytes : List ℕ) → IsWalkedOut walked bytes → MayGoOn bytes
may_go_on walked bytes out reason place staying =
    let fault = staying.0 in
    let mine = open_leads 32 walked.numbers (take walked.at bytes) out.is_walk.are_open [] (omega arith) in
    let theirs = open_leads 32 fault.numbers fault.before fault.are_open [] (omega arith) in
    let one = one_walk mine.tokens theirs.tokens [] (onto walked.numbers []) (onto fault.numbers []) (drop walked.at bytes) fault.rest
    mine.are_tokens theirs.are_tokens mine.leads theirs.leads
    (ap (λ front. front ++ drop walked.at bytes) (sym mine.is_whole) ∙ take-append-drop walked.at bytes
    ∙ fault.is_whole ∙ ap (λ front. front ++ fault.rest) theirs.is_whole)
    (stuck_there walked bytes out.is_cut) (stuck_at_fault fault.numbers fault.rest reason fault.offset fault.is_fault) in
    none_there walked bytes fault.numbers fault.rest reason fault.offset out.is_cut one.1 staying.1 fault.is_fault

-- what holds of a header holds with more bytes after it
header_more : (Holds : ℕ → ℕ → List ℕ → ℕ → Type 0) (bytes more : List ℕ) →
    ((number kind : ℕ) (body : List ℕ) (size : ℕ) → Holds number kind body size → Holds number kind (body ++ more) size) →
    HasHeader Holds bytes → HasHeader Holds (bytes ++ more)
header_more Holds bytes more longer found = record {
  header = found.header;
  body = found.body ++ more;
  number = found.number;
  kind = found.kind;
  is_whole = ap (λ front. front ++ more) found.is_whole ∙ append_assoc found.header found.body more;
  is_varint = found.is_varint;
  is_kind = found.is_kind;
  holds = longer found.number found.kind found.body (length found.header) found.holds;
}

long_more : (bytes more : List ℕ) → IsLongVarint bytes → IsLongVarint (bytes ++ more)
long_more bytes more long = record {
  front = long.front;
  tenth = long.tenth;
  after = long.after ++ more;
  is_whole = ap (λ front. front ++ more) long.is_whole ∙ append_assoc long.front (long.tenth ∷ long.after) more;
  goes_on = long.goes_on;
  is_ninth = long.is_ninth;
  is_above = long.is_above;
}

long_at_more : (bytes more : List ℕ) (place : ℕ) → ((place ≡ 9) × IsLongVarint bytes) ⊎ HasHeader (LongAfter place) bytes →
    ((place ≡ 9) × IsLongVarint (bytes ++ more)) ⊎ HasHeader (LongAfter place) (bytes ++ more)
long_at_more bytes more place (inl long) = inl (long.0, long_more bytes more long.1)
long_at_more bytes more place (inr long) =
    inr (header_more (LongAfter place) bytes more
    (λ number kind body size holds. (holds.0, (holds.1.0, long_more body more holds.1.1), holds.2)) long)

within_more : (numbers rest more : List ℕ) (reason : WireReason) (place : ℕ) → Stays reason → IsFaultWithin numbers rest reason place →
    IsFaultWithin numbers (rest ++ more) reason place
within_more numbers rest more Cut place stays fault = absurd stays
within_more numbers rest more LongVarint place stays fault = long_at_more rest more place fault
within_more numbers rest more ZeroNumber place stays fault =
    (fault.0, header_more (λ number kind body size. number ≡ 0) rest more (λ number kind body size holds. holds) fault.1)
within_more numbers rest more BigNumber place stays fault =
    (fault.0, header_more (λ number kind body size. LAST_NUMBER < number) rest more (λ number kind body size holds. holds) fault.1)
within_more numbers rest more BadKind place stays fault =
    (fault.0, header_more (λ number kind body size. IsNumber number × (6 ≤ kind)) rest more (λ number kind body size holds. holds) fault.1)
within_more numbers rest more OpenGroup place stays fault = absurd stays
within_more numbers rest more StrayEnd place stays fault = (
  fault.0,
  header_more (λ number kind body size. IsNumber number × (kind ≡ 4) × (IsInnermost numbers number → ⊥)) rest more
      (λ number kind body size holds. holds) fault.1,
)
within_more numbers rest more TooDeep place stays fault = (
  fault.0,
  header_more (λ number kind body size. IsNumber number × (kind ≡ 3) × (length numbers ≡ 32)) rest more
      (λ number kind body size holds. holds) fault.1,
)

pub stays_on : StayingFaultsStay
stays_on bytes more reason place stays fault = record {
  before = fault.before;
  rest = fault.rest ++ more;
  numbers = fault.numbers;
  offset = fault.offset;
  is_whole = ap (λ front. front ++ more) fault.is_whole ∙ append_assoc fault.before fault.rest more;
  are_open = fault.are_open;
  is_fault = within_more fault.numbers fault.rest more reason fault.offset stays fault.is_fault;
  is_place = fault.is_place;
}
