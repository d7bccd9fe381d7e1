-- Bytes have one fault at most.
use Rattle.std.proofs.Common.{◌≡◌, ℕ, ◌+◌, ◌<◌, ◌≤◌, if◌then◌else◌, ◌==◌, nat_lt, List, [], ◌++◌, ◌⊎◌, inl, inr, length, refl, sym, ap, subst, ◌∙◌, arith}
use Rattle.std.proofs.lemmas.Bool.Decides.{nat_tests}
use Rattle.std.proofs.lemmas.List.{length-append}
use Rattle.wire_format.specs.declared.fault.WireReason.{WireReason}
use Rattle.wire_format.specs.declared.fault.WireReason.TheVariants.{Cut, LongVarint, BadKind, ZeroNumber, BigNumber, OpenGroup, StrayEnd, TooDeep}
use Rattle.wire_format.specs.Varints.{IsLongVarint}
use Rattle.wire_format.specs.Fields.{LAST_NUMBER}
use Rattle.wire_format.specs.Faults.{IsNumber, HasHeader, IsInnermost, IsFaultWithin}
use Rattle.wire_format.specs.Walks.{Stays}
use Rattle.wire_format.specs.Laws.{BytesHaveOneFault}
use Rattle.wire_format.proofs.TokenWalks.{one_walk}
use Rattle.wire_format.proofs.Leading.{open_leads, onto}
use Rattle.wire_format.proofs.NoFault.{stuck_at_fault, staying_some}
use Rattle.wire_format.proofs.StayingFaults.{LongAfter, headers_same, long_no_header, cut_not_staying}

-- the order of reasons for one header
rank : WireReason → ℕ
rank Cut = 0
rank OpenGroup = 7
rank ZeroNumber = 1
rank BigNumber = 2
rank BadKind = 3
rank StrayEnd = 4
rank TooDeep = 5
rank LongVarint = 6

reason_of : ℕ → WireReason
reason_of number =
    if number == 1 then ZeroNumber else if number == 2 then BigNumber else if number == 3 then BadKind
    else if number == 4 then StrayEnd else if number == 5 then TooDeep else if number == 6 then LongVarint
    else if number == 7 then OpenGroup else Cut

reason_rank : (reason : WireReason) → reason_of (rank reason) ≡ reason
unfolding rank reason_of
reason_rank Cut = refl
reason_rank OpenGroup = refl
reason_rank ZeroNumber = refl
reason_rank BigNumber = refl
reason_rank BadKind = refl
reason_rank StrayEnd = refl
reason_rank TooDeep = refl
reason_rank LongVarint = refl

-- the rank of the fault that a header of this number and kind may have
header_rank : ℕ → ℕ → ℕ
header_rank number kind =
    if number == 0 then 1 else if nat_lt LAST_NUMBER number then 2 else if nat_lt 5 kind then 3
    else if kind == 4 then 4 else if kind == 3 then 5 else 6

zero_rank : (number kind : ℕ) → number ≡ 0 → header_rank number kind ≡ 1
unfolding header_rank
zero_rank number kind zero = grind (arith, nat_tests, zero)

big_rank : (number kind : ℕ) → LAST_NUMBER < number → header_rank number kind ≡ 2
unfolding header_rank
big_rank number kind big = grind (arith, nat_tests, big)

bad_rank : (number kind : ℕ) → 1 ≤ number → number ≤ LAST_NUMBER → 6 ≤ kind → header_rank number kind ≡ 3
unfolding header_rank
bad_rank number kind some small bad = grind (arith, nat_tests, some, small, bad)

stray_rank : (number kind : ℕ) → 1 ≤ number → number ≤ LAST_NUMBER → kind ≡ 4 → header_rank number kind ≡ 4
unfolding header_rank
stray_rank number kind some small stray = grind (arith, nat_tests, some, small, stray)

deep_rank : (number kind : ℕ) → 1 ≤ number → number ≤ LAST_NUMBER → kind ≡ 3 → header_rank number kind ≡ 5
unfolding header_rank
deep_rank number kind some small deep = grind (arith, nat_tests, some, small, deep)

long_rank : (number kind : ℕ) → 1 ≤ number → number ≤ LAST_NUMBER → kind < 3 → header_rank number kind ≡ 6
unfolding header_rank
long_rank number kind some small long = grind (arith, nat_tests, some, small, long)

long_small : (kind : ℕ) → (kind ≡ 0) ⊎ (kind ≡ 2) → kind < 3
long_small kind (inl is) = omega (arith, is)
long_small kind (inr is) = omega (arith, is)

-- where the fault of a header of this size stands
place_of : WireReason → ℕ → ℕ
place_of Cut size = 0
place_of OpenGroup size = 0
place_of ZeroNumber size = 0
place_of BigNumber size = 0
place_of BadKind size = 0
place_of StrayEnd size = 0
place_of TooDeep size = 0
place_of LongVarint size = size + 9

-- a header of this rank stands here
abbrev Ranked : WireReason → ℕ → ℕ → ℕ → List ℕ → ℕ → Type 0
Ranked reason place number kind body size = (header_rank number kind ≡ rank reason) × (place ≡ place_of reason size)

-- a header that is too long, or one of a rank
abbrev Shape : List ℕ → WireReason → ℕ → Type 0
Shape rest reason place = (IsLongVarint rest × (reason ≡ LongVarint) × (place ≡ 9)) ⊎ HasHeader (Ranked reason place) rest

weaker : (Holds Also : ℕ → ℕ → List ℕ → ℕ → Type 0) (rest : List ℕ) →
    ((number kind : ℕ) (body : List ℕ) (size : ℕ) → Holds number kind body size → Also number kind body size) → HasHeader Holds rest → HasHeader Also rest
weaker Holds Also rest also found = record {
  header = found.header;
  body = found.body;
  number = found.number;
  kind = found.kind;
  is_whole = found.is_whole;
  is_varint = found.is_varint;
  is_kind = found.is_kind;
  holds = also found.number found.kind found.body (length found.header) found.holds;
}

long_shape : (rest : List ℕ) (place : ℕ) → ((place ≡ 9) × IsLongVarint rest) ⊎ HasHeader (LongAfter place) rest → Shape rest LongVarint place
unfolding rank place_of
long_shape rest place (inl long) = inl (long.1, refl, long.0)
long_shape rest place (inr long) =
    inr (weaker (LongAfter place) (Ranked LongVarint place) rest
    (λ number kind body size holds. (long_rank number kind holds.0.0 holds.0.1 (long_small kind holds.1.0), holds.2)) long)

shape : (numbers rest : List ℕ) (reason : WireReason) (place : ℕ) → Stays reason → IsFaultWithin numbers rest reason place → Shape rest reason place
unfolding rank place_of
shape numbers rest Cut place stays fault = absurd stays
shape numbers rest LongVarint place stays fault = long_shape rest place fault
shape numbers rest ZeroNumber place stays fault =
    inr (weaker (λ number kind body size. number ≡ 0) (Ranked ZeroNumber place) rest
    (λ number kind body size zero. (zero_rank number kind zero, fault.0)) fault.1)
shape numbers rest BigNumber place stays fault =
    inr (weaker (λ number kind body size. LAST_NUMBER < number) (Ranked BigNumber place) rest
    (λ number kind body size big. (big_rank number kind big, fault.0)) fault.1)
shape numbers rest BadKind place stays fault =
    inr (weaker (λ number kind body size. IsNumber number × (6 ≤ kind)) (Ranked BadKind place) rest
    (λ number kind body size bad. (bad_rank number kind bad.0.0 bad.0.1 bad.1, fault.0)) fault.1)
shape numbers rest OpenGroup place stays fault = absurd stays
shape numbers rest StrayEnd place stays fault =
    inr (weaker (λ number kind body size. IsNumber number × (kind ≡ 4) × (IsInnermost numbers number → ⊥)) (Ranked StrayEnd place) rest
    (λ number kind body size stray. (stray_rank number kind stray.0.0 stray.0.1 stray.1, fault.0)) fault.1)
shape numbers rest TooDeep place stays fault =
    inr (weaker (λ number kind body size. IsNumber number × (kind ≡ 3) × (length numbers ≡ 32)) (Ranked TooDeep place) rest
    (λ number kind body size deep. (deep_rank number kind deep.0.0 deep.0.1 deep.1, fault.0)) fault.1)

shapes_same : (rest : List ℕ) (reason other : WireReason) (place second : ℕ) → Shape rest reason place → Shape rest other second →
    (reason ≡ other) × (place ≡ second)
shapes_same rest reason other place second (inl f) (inl g) = (f.1 ∙ sym g.1, f.2 ∙ sym g.2)
shapes_same rest reason other place second (inl f) (inr g) = absurd (long_no_header (Ranked other second) rest f.0 g)
shapes_same rest reason other place second (inr f) (inl g) = absurd (long_no_header (Ranked reason place) rest g.0 f)
shapes_same rest reason other place second (inr f) (inr g) =
    let one = headers_same (Ranked reason place) (Ranked other second) rest f g in
    let ranks : rank reason ≡ rank other
    = sym f.holds.0 ∙ ap (λ number. header_rank number f.kind) one.one_number ∙ ap (header_rank g.number) one.one_kind ∙ g.holds.0 in
    let same : reason ≡ other = sym (reason_rank reason) ∙ ap reason_of ranks ∙ reason_rank other in
    (same, f.holds.1 ∙ ap (λ why. place_of why (length f.header)) same ∙ ap (λ header. place_of other (length header)) one.one_header ∙ sym g.holds.1)

-- a reason is a cut, an open group, or one that stays
reasons : (reason : WireReason) → (reason ≡ Cut) ⊎ ((reason ≡ OpenGroup) ⊎ Stays reason)
reasons Cut = inl refl
reasons OpenGroup = inr (inl refl)
reasons ZeroNumber = inr (inr tt)
reasons BigNumber = inr (inr tt)
reasons BadKind = inr (inr tt)
reasons StrayEnd = inr (inr tt)
reasons TooDeep = inr (inr tt)
reasons LongVarint = inr (inr tt)

read_as : (numbers rest : List ℕ) (reason other : WireReason) (place : ℕ) → reason ≡ other → IsFaultWithin numbers rest reason place →
    IsFaultWithin numbers rest other place
read_as numbers rest reason other place is fault = subst (λ why. IsFaultWithin numbers rest why place) is fault

within_same : (numbers others rest : List ℕ) (reason other : WireReason) (place second : ℕ) →
    (reason ≡ Cut) ⊎ ((reason ≡ OpenGroup) ⊎ Stays reason) → (other ≡ Cut) ⊎ ((other ≡ OpenGroup) ⊎ Stays other) →
    IsFaultWithin numbers rest reason place → IsFaultWithin others rest other second → (reason ≡ other) × (place ≡ second)
within_same numbers others rest reason other place second (inl a) (inl b) f g =
    let cut = read_as numbers rest reason Cut place a f in
    let also = read_as others rest other Cut second b g in
    (a ∙ sym b, cut.1.0 ∙ sym also.1.0)
within_same numbers others rest reason other place second (inl a) (inr (inl b)) f g =
    absurd ((read_as numbers rest reason Cut place a f).0 (read_as others rest other OpenGroup second b g).1)
within_same numbers others rest reason other place second (inl a) (inr (inr b)) f g =
    absurd (cut_not_staying others rest other second (read_as numbers rest reason Cut place a f).1.1 b g)
within_same numbers others rest reason other place second (inr (inl a)) (inl b) f g =
    absurd ((read_as others rest other Cut second b g).0 (read_as numbers rest reason OpenGroup place a f).1)
within_same numbers others rest reason other place second (inr (inl a)) (inr (inl b)) f g =
    (a ∙ sym b, (read_as numbers rest reason OpenGroup place a f).0 ∙ sym (read_as others rest other OpenGroup second b g).0)
within_same numbers others rest reason other place second (inr (inl a)) (inr (inr b)) f g =
    absurd (omega (arith, staying_some others rest other second b g, ap length (read_as numbers rest reason OpenGroup place a f).1))
within_same numbers others rest reason other place second (inr (inr a)) (inl b) f g =
    absurd (cut_not_staying numbers rest reason place (read_as others rest other Cut second b g).1.1 a f)
within_same numbers others rest reason other place second (inr (inr a)) (inr (inl b)) f g =
    absurd (omega (arith, staying_some numbers rest reason place a f, ap length (read_as others rest other OpenGroup second b g).1))
within_same numbers others rest reason other place second (inr (inr a)) (inr (inr b)) f g =
    shapes_same rest reason other place second (shape numbers rest reason place a f) (shape others rest other second b g)

pub one_fault : BytesHaveOneFault
one_fault bytes reason other place second f g =
    let mine = open_leads 32 f.numbers f.before f.are_open [] (omega arith) in
    let theirs = open_leads 32 g.numbers g.before g.are_open [] (omega arith) in
    let one = one_walk mine.tokens theirs.tokens [] (onto f.numbers []) (onto g.numbers []) f.rest g.rest
    mine.are_tokens theirs.are_tokens mine.leads theirs.leads
    (ap (λ front. front ++ f.rest) (sym mine.is_whole) ∙ sym f.is_whole ∙ g.is_whole ∙ ap (λ front. front ++ g.rest) theirs.is_whole)
    (stuck_at_fault f.numbers f.rest reason f.offset f.is_fault) (stuck_at_fault g.numbers g.rest other g.offset g.is_fault) in
    let same = within_same f.numbers g.numbers f.rest reason other f.offset g.offset (reasons reason) (reasons other) f.is_fault
    (subst (λ rest. IsFaultWithin g.numbers rest other g.offset) (sym one.1) g.is_fault) in (
      same.0,
      omega (
        arith,
        f.is_place,
        g.is_place,
        same.1,
        ap length one.1,
        ap length f.is_whole,
        ap length g.is_whole,
        length-append f.before f.rest,
        length-append g.before g.rest,
      ),
    )
