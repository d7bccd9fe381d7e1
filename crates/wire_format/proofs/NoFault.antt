-- Bytes that are fields have no fault.
use Rattle.std.proofs.Common.{◌≡◌, ℕ, zero, suc, ◌+◌, ◌*◌, ◌<◌, ◌≤◌, false, if◌then◌else◌, ◌==◌, nat_lt, List, [], ◌∷◌, ◌++◌, ◌⊎◌, inl, inr, Some, None, length, refl, sym, ap, subst, ◌∙◌, arith}
use Rattle.std.proofs.lemmas.Bool.Decides.{nat_tests}
use Rattle.std.proofs.lemmas.List.{append_assoc, append-nil, length-append, nil_from_length}
use Rattle.wire_format.specs.declared.fault.WireReason.{WireReason}
use Rattle.wire_format.specs.declared.fault.WireReason.TheVariants.{Cut, LongVarint, BadKind, ZeroNumber, BigNumber, OpenGroup, StrayEnd, TooDeep}
use Rattle.wire_format.specs.Varints.{GoOn, IsVarint, IsCutVarint, IsLongVarint}
use Rattle.wire_format.specs.Fields.{LAST_NUMBER}
use Rattle.wire_format.specs.Faults.{IsNumber, IsCutBody, IsLongBody, HasHeader, IsInnermost, IsFaultWithin}
use Rattle.wire_format.specs.Walks.{Stays}
use Rattle.wire_format.specs.Laws.{FieldsHaveNoFault}
use Rattle.wire_format.proofs.OneReading.{IsTail, varint_same, cons_head, cons_tail}
use Rattle.wire_format.proofs.TokenWalks.{Step, IsStep, next, closed, bytes_of, IsStuck, one_walk}
use Rattle.wire_format.proofs.Leading.{fields_lead, open_leads, onto}

go_on_last : (front : List ℕ) (last : ℕ) (after : List ℕ) → GoOn ((front ++ last ∷ []) ++ after) → 128 ≤ last
go_on_last [] last after all = all.0
go_on_last (byte ∷ front) last after all = go_on_last front last after all.1

-- where bytes end inside a varint, no varint stands
pub varint_not_cut : (a x bytes : List ℕ) (value : ℕ) → IsVarint a value → a ++ x ≡ bytes → IsCutVarint bytes → ⊥
varint_not_cut a x bytes value varint same cut =
    let all : GoOn ((varint.front ++ varint.last ∷ []) ++ x)
    = subst GoOn (sym same ∙ ap (λ front. front ++ x) varint.is_whole) cut.goes_on in
    omega (arith, go_on_last varint.front varint.last x all, varint.ends)

long_against : (f front : List ℕ) (l tenth : ℕ) (x after : List ℕ) → GoOn front → length f ≤ length front → l < 128 →
    (f ++ l ∷ []) ++ x ≡ front ++ tenth ∷ after → (length f ≡ length front) × (l ≡ tenth)
long_against [] [] l tenth x after goes short ends same = (refl, cons_head l tenth x after same)
long_against [] (k ∷ front) l tenth x after goes short ends same =
    absurd (omega (arith, cons_head l k x (front ++ tenth ∷ after) same, goes.0, ends))
long_against (h ∷ f) [] l tenth x after goes short ends same = absurd (omega (arith, short))
long_against (h ∷ f) (k ∷ front) l tenth x after goes short ends same =
    let rest = long_against f front l tenth x after goes.1 (omega (arith, short)) ends
    (cons_tail h k ((f ++ l ∷ []) ++ x) (front ++ tenth ∷ after) same) in
    (omega (arith, rest.0), rest.1)

-- where a varint is too long, no varint stands
pub varint_not_long : (a x bytes : List ℕ) (value : ℕ) → IsVarint a value → a ++ x ≡ bytes → IsLongVarint bytes → ⊥
varint_not_long a x bytes value varint same long =
    let found = long_against varint.front long.front varint.last long.tenth x long.after long.goes_on
    (omega (arith, varint.is_short, long.is_ninth)) varint.ends
    (ap (λ front. front ++ x) (sym varint.is_whole) ∙ same ∙ long.is_whole) in
    omega (arith, varint.tenth (found.0 ∙ long.is_ninth), found.1, long.is_above)

-- a token, and a header at the front of the same bytes
record Meets (token : Step) (bytes after : List ℕ) (number kind : ℕ) (body : List ℕ) : Type 0 where
  pub is_number : token.number ≡ number
  pub is_kind : token.kind ≡ kind
  pub tail : List ℕ
  pub is_tail : IsTail kind tail
  pub is_body : tail ++ after ≡ body

meets : (Holds : ℕ → ℕ → List ℕ → ℕ → Type 0) (token : Step) (bytes after : List ℕ) → IsStep token → token.bytes ++ after ≡ bytes →
    (found : HasHeader Holds bytes) → Meets token bytes after found.number found.kind found.body
meets Holds token bytes after piece same found =
    let joined : piece.header ++ (piece.body ++ after) ≡ found.header ++ found.body
    = sym (append_assoc piece.header piece.body after) ∙ ap (λ front. front ++ after) (sym piece.is_whole) ∙ same ∙ found.is_whole in
    let one = varint_same piece.header found.header (piece.body ++ after) found.body (token.number * 8 + token.kind)
    (found.number * 8 + found.kind) piece.is_header.is_varint found.is_varint joined in
    let kinds : token.kind ≡ found.kind = omega (arith, one.2, piece.is_kind, found.is_kind) in
    record {
      is_number = omega (arith, one.2, piece.is_kind, found.is_kind);
      is_kind = kinds;
      tail = piece.body;
      is_tail = subst (λ kind. IsTail kind piece.body) kinds piece.is_tail;
      is_body = one.1;
    }

kind_of_tail : (kind : ℕ) (tail : List ℕ) → IsTail kind tail → kind < 6
kind_of_tail zero tail is = omega arith
kind_of_tail (suc zero) tail is = omega arith
kind_of_tail (suc (suc zero)) tail is = omega arith
kind_of_tail (suc (suc (suc zero))) tail is = omega arith
kind_of_tail (suc (suc (suc (suc zero)))) tail is = omega arith
kind_of_tail (suc (suc (suc (suc (suc zero))))) tail is = omega arith
kind_of_tail (suc (suc (suc (suc (suc (suc kind)))))) tail is = absurd is

-- what is whole is not cut
tail_not_cut : (kind : ℕ) (tail after body : List ℕ) → IsTail kind tail → tail ++ after ≡ body → IsCutBody kind body → ⊥
tail_not_cut kind tail after body whole same (inl cut) =
    let some = subst (λ k. IsTail k tail) cut.0 whole in
    varint_not_cut tail after body some.value some.is_varint same cut.1
tail_not_cut kind tail after body whole same (inr (inl cut)) =
    omega (arith, subst (λ k. IsTail k tail) cut.0 whole, cut.1, ap length same, length-append tail after)
tail_not_cut kind tail after body whole same (inr (inr (inl cut))) =
    let some = subst (λ k. IsTail k tail) cut.0 whole in
    let delimited = some.is_delimited in
    varint_not_cut delimited.count (some.content ++ after) body (length some.content) delimited.is_count
    (sym (append_assoc delimited.count some.content after) ∙ ap (λ front. front ++ after) (sym delimited.is_whole) ∙ same) cut.1
tail_not_cut kind tail after body whole same (inr (inr (inr (inl cut)))) =
    let some = subst (λ k. IsTail k tail) cut.0 whole in
    let delimited = some.is_delimited in
    let one = varint_same delimited.count cut.1.count (some.content ++ after) cut.1.after (length some.content) cut.1.value
    delimited.is_count cut.1.is_count
    (sym (append_assoc delimited.count some.content after) ∙ ap (λ front. front ++ after) (sym delimited.is_whole) ∙ same ∙ cut.1.is_whole) in
    omega (arith, one.2, ap length one.1, length-append some.content after, cut.1.is_less)
tail_not_cut kind tail after body whole same (inr (inr (inr (inr cut)))) =
    omega (arith, subst (λ k. IsTail k tail) cut.0 whole, cut.1, ap length same, length-append tail after)

-- what is whole has no varint that is too long
tail_not_long : (kind : ℕ) (tail after body : List ℕ) → IsTail kind tail → tail ++ after ≡ body → (kind ≡ 0) ⊎ (kind ≡ 2) →
    IsLongVarint body → ⊥
tail_not_long kind tail after body whole same (inl is) long =
    let some = subst (λ k. IsTail k tail) is whole in
    varint_not_long tail after body some.value some.is_varint same long
tail_not_long kind tail after body whole same (inr is) long =
    let some = subst (λ k. IsTail k tail) is whole in
    let delimited = some.is_delimited in
    varint_not_long delimited.count (some.content ++ after) body (length some.content) delimited.is_count
    (sym (append_assoc delimited.count some.content after) ∙ ap (λ front. front ++ after) (sym delimited.is_whole) ∙ same) long

piece_some : (token : Step) → IsStep token → 0 < length token.bytes
piece_some token piece =
    let varint = piece.is_header.is_varint in
    omega (
      arith,
      ap length piece.is_whole,
      length-append piece.header piece.body,
      ap length varint.is_whole,
      length-append varint.front (varint.last ∷ []),
    )

-- no token stands where no bytes are
pub stuck_at_end : (numbers rest : List ℕ) → rest ≡ [] → IsStuck numbers rest
stuck_at_end numbers rest none token after piece same =
    absurd (omega (arith, piece_some token piece, length-append token.bytes after, ap length same, ap length none))

pub onto_length : (numbers old : List ℕ) → length (onto numbers old) ≡ length numbers + length old
unfolding onto
onto_length [] old = omega arith
onto_length (number ∷ numbers) old = omega (arith, onto_length numbers (number ∷ old))

onto_last : (numbers old : List ℕ) (innermost : ℕ) (outer : List ℕ) → onto numbers old ≡ innermost ∷ outer →
    ((numbers ≡ []) × (old ≡ innermost ∷ outer)) ⊎ IsInnermost numbers innermost
unfolding onto
onto_last [] old innermost outer same = inl (refl, same)
onto_last (number ∷ numbers) old innermost outer same =
    last_of number numbers old innermost outer (onto_last numbers (number ∷ old) innermost outer same)
  where
    last_of : (number : ℕ) (numbers old : List ℕ) (innermost : ℕ) (outer : List ℕ) →
        ((numbers ≡ []) × (number ∷ old ≡ innermost ∷ outer)) ⊎ IsInnermost numbers innermost →
        ((number ∷ numbers ≡ []) × (old ≡ innermost ∷ outer)) ⊎ IsInnermost (number ∷ numbers) innermost
    last_of number numbers old innermost outer (inl found) = inr (record {
      outer = [];
      is_last = ap (λ later. number ∷ later) found.0 ∙ ap (λ n. n ∷ []) (cons_head number innermost old outer found.1);
    })
    last_of number numbers old innermost outer (inr found) = inr (record {
      outer = number ∷ found.outer;
      is_last = ap (λ later. number ∷ later) found.is_last;
    })

not_itself : (a b : ℕ) → (a ≡ b → ⊥) → (a == b) ≡ false
not_itself a b apart = grind (arith, nat_tests, apart)

closed_none : (number : ℕ) (open_numbers : List ℕ) →
    ((innermost : ℕ) → (outer : List ℕ) → open_numbers ≡ innermost ∷ outer → innermost ≡ number → ⊥) → closed number open_numbers ≡ None
closed_none number [] stray = refl
closed_none number (innermost ∷ outer) stray =
    ap (λ same. if same then Some outer else None) (not_itself innermost number (stray innermost outer refl))

pub next_end : (token : Step) (open_numbers : List ℕ) → token.kind ≡ 4 → next token open_numbers ≡ closed token.number open_numbers
next_end token open_numbers is =
    ap (λ kind. if kind == 3 then (if nat_lt (length open_numbers) 32 then Some (token.number ∷ open_numbers) else None)
    else if kind == 4 then closed token.number open_numbers else Some open_numbers) is

next_start : (token : Step) (open_numbers : List ℕ) → token.kind ≡ 3 → length open_numbers ≡ 32 → next token open_numbers ≡ None
next_start token open_numbers is full =
    ap (λ kind. if kind == 3 then (if nat_lt (length open_numbers) 32 then Some (token.number ∷ open_numbers) else None)
    else if kind == 4 then closed token.number open_numbers else Some open_numbers) is
    ∙ ap (λ size. if nat_lt size 32 then Some (token.number ∷ open_numbers) else None) full

stray_innermost : (numbers : List ℕ) (number innermost : ℕ) (outer : List ℕ) → (IsInnermost numbers number → ⊥) →
    onto numbers [] ≡ innermost ∷ outer → innermost ≡ number → ⊥
stray_innermost numbers number innermost outer stray same is =
    stray_either numbers number innermost outer stray is (onto_last numbers [] innermost outer same)
  where
    stray_either : (numbers : List ℕ) (number innermost : ℕ) (outer : List ℕ) → (IsInnermost numbers number → ⊥) → innermost ≡ number →
        ((numbers ≡ []) × ([] ≡ innermost ∷ outer)) ⊎ IsInnermost numbers innermost → ⊥
    stray_either numbers number innermost outer stray is (inl none) = omega (arith, ap length none.1)
    stray_either numbers number innermost outer stray is (inr found) = stray (subst (IsInnermost numbers) is found)

pub token_meets_cut : (token : Step) (rest after : List ℕ) → IsStep token → token.bytes ++ after ≡ rest →
    IsCutVarint rest ⊎ HasHeader (λ number kind body size. IsNumber number × IsCutBody kind body) rest → ⊥
token_meets_cut token rest after piece same (inl cut) =
    varint_not_cut piece.header (piece.body ++ after) rest (token.number * 8 + token.kind) piece.is_header.is_varint
    (sym (append_assoc piece.header piece.body after) ∙ ap (λ front. front ++ after) (sym piece.is_whole) ∙ same) cut
token_meets_cut token rest after piece same (inr found) =
    let one = meets (λ number kind body size. IsNumber number × IsCutBody kind body) token rest after piece same found in
    tail_not_cut found.kind one.tail after found.body one.is_tail one.is_body found.holds.1

token_meets_long : (token : Step) (rest after : List ℕ) (place : ℕ) → IsStep token → token.bytes ++ after ≡ rest →
    ((place ≡ 9) × IsLongVarint rest)
    ⊎ HasHeader (λ number kind body size. IsNumber number × IsLongBody kind body × (place ≡ size + 9)) rest → ⊥
token_meets_long token rest after place piece same (inl long) =
    varint_not_long piece.header (piece.body ++ after) rest (token.number * 8 + token.kind) piece.is_header.is_varint
    (sym (append_assoc piece.header piece.body after) ∙ ap (λ front. front ++ after) (sym piece.is_whole) ∙ same) long.1
token_meets_long token rest after place piece same (inr found) =
    let one = meets (λ number kind body size. IsNumber number × IsLongBody kind body × (place ≡ size + 9)) token rest after piece same found in
    tail_not_long found.kind one.tail after found.body one.is_tail one.is_body found.holds.1.0 found.holds.1.1

-- where bytes are at fault within some open groups, no token may stand
pub stuck_at_fault : (numbers rest : List ℕ) (reason : WireReason) (place : ℕ) → IsFaultWithin numbers rest reason place →
    IsStuck (onto numbers []) rest
stuck_at_fault numbers rest Cut place fault token after piece same =
    absurd (token_meets_cut token rest after piece same fault.1.1)
stuck_at_fault numbers rest LongVarint place fault token after piece same =
    absurd (token_meets_long token rest after place piece same fault)
stuck_at_fault numbers rest ZeroNumber place fault token after piece same =
    let one = meets (λ number kind body size. number ≡ 0) token rest after piece same fault.1 in
    absurd (omega (arith, piece.is_header.is_number, one.is_number, fault.1.holds))
stuck_at_fault numbers rest BigNumber place fault token after piece same =
    let one = meets (λ number kind body size. LAST_NUMBER < number) token rest after piece same fault.1 in
    absurd (omega (arith, piece.is_header.is_small, one.is_number, fault.1.holds))
stuck_at_fault numbers rest BadKind place fault token after piece same =
    let one = meets (λ number kind body size. IsNumber number × (6 ≤ kind)) token rest after piece same fault.1 in
    absurd (omega (arith, kind_of_tail fault.1.kind one.tail one.is_tail, fault.1.holds.1))
stuck_at_fault numbers rest OpenGroup place fault token after piece same =
    stuck_at_end (onto numbers []) rest fault.1 token after piece same
stuck_at_fault numbers rest StrayEnd place fault token after piece same =
    let found = fault.1 in
    let one = meets (λ number kind body size. IsNumber number × (kind ≡ 4) × (IsInnermost numbers number → ⊥)) token rest after piece same found in
    next_end token (onto numbers []) (one.is_kind ∙ found.holds.1)
    ∙ closed_none token.number (onto numbers []) (λ innermost outer top is.
    stray_innermost numbers found.number innermost outer found.holds.2 top (is ∙ one.is_number))
stuck_at_fault numbers rest TooDeep place fault token after piece same =
    let found = fault.1 in
    let one = meets (λ number kind body size. IsNumber number × (kind ≡ 3) × (length numbers ≡ 32)) token rest after piece same found in
    next_start token (onto numbers []) (one.is_kind ∙ found.holds.1)
    (omega (arith, onto_length numbers [], found.holds.2))

pub header_some : (Holds : ℕ → ℕ → List ℕ → ℕ → Type 0) (bytes : List ℕ) → HasHeader Holds bytes → 0 < length bytes
header_some Holds bytes found =
    omega (
      arith,
      ap length found.is_whole,
      length-append found.header found.body,
      ap length found.is_varint.is_whole,
      length-append found.is_varint.front (found.is_varint.last ∷ []),
    )

long_some : (bytes : List ℕ) → IsLongVarint bytes → 0 < length bytes
long_some bytes long = omega (arith, ap length long.is_whole, length-append long.front (long.tenth ∷ long.after))

pub long_at_some : (bytes : List ℕ) (place : ℕ) →
    ((place ≡ 9) × IsLongVarint bytes)
    ⊎ HasHeader (λ number kind body size. IsNumber number × IsLongBody kind body × (place ≡ size + 9)) bytes → 0 < length bytes
long_at_some bytes place (inl long) = long_some bytes long.1
long_at_some bytes place (inr found) =
    header_some (λ number kind body size. IsNumber number × IsLongBody kind body × (place ≡ size + 9)) bytes found

-- a fault that stays is one of some bytes
pub staying_some : (numbers rest : List ℕ) (reason : WireReason) (place : ℕ) → Stays reason → IsFaultWithin numbers rest reason place →
    0 < length rest
staying_some numbers rest Cut place stays fault = absurd stays
staying_some numbers rest LongVarint place stays fault = long_at_some rest place fault
staying_some numbers rest ZeroNumber place stays fault = header_some (λ number kind body size. number ≡ 0) rest fault.1
staying_some numbers rest BigNumber place stays fault = header_some (λ number kind body size. LAST_NUMBER < number) rest fault.1
staying_some numbers rest BadKind place stays fault = header_some (λ number kind body size. IsNumber number × (6 ≤ kind)) rest fault.1
staying_some numbers rest OpenGroup place stays fault = absurd stays
staying_some numbers rest StrayEnd place stays fault =
    header_some (λ number kind body size. IsNumber number × (kind ≡ 4) × (IsInnermost numbers number → ⊥)) rest fault.1
staying_some numbers rest TooDeep place stays fault =
    header_some (λ number kind body size. IsNumber number × (kind ≡ 3) × (length numbers ≡ 32)) rest fault.1

-- no fault stands at the end, where no group is open
none_at_end : (numbers rest : List ℕ) (reason : WireReason) (place : ℕ) → numbers ≡ [] → rest ≡ [] →
    IsFaultWithin numbers rest reason place → ⊥
none_at_end numbers rest Cut place closed none fault = fault.0 none
none_at_end numbers rest LongVarint place closed none fault = omega (arith, staying_some numbers rest LongVarint place tt fault, ap length none)
none_at_end numbers rest ZeroNumber place closed none fault = omega (arith, staying_some numbers rest ZeroNumber place tt fault, ap length none)
none_at_end numbers rest BigNumber place closed none fault = omega (arith, staying_some numbers rest BigNumber place tt fault, ap length none)
none_at_end numbers rest BadKind place closed none fault = omega (arith, staying_some numbers rest BadKind place tt fault, ap length none)
none_at_end numbers rest OpenGroup place closed none fault = fault.2 closed
none_at_end numbers rest StrayEnd place closed none fault = omega (arith, staying_some numbers rest StrayEnd place tt fault, ap length none)
none_at_end numbers rest TooDeep place closed none fault = omega (arith, staying_some numbers rest TooDeep place tt fault, ap length none)

pub fields_have_no_fault : FieldsHaveNoFault
fields_have_no_fault bytes reason place fields fault =
    let whole = fields_lead 32 bytes fields [] (omega arith) in
    let so_far = open_leads 32 fault.numbers fault.before fault.are_open [] (omega arith) in
    let one = one_walk whole.tokens so_far.tokens [] [] (onto fault.numbers []) [] fault.rest whole.are_tokens so_far.are_tokens
    whole.leads so_far.leads
    (append-nil (bytes_of whole.tokens) ∙ sym whole.is_whole ∙ fault.is_whole ∙ ap (λ front. front ++ fault.rest) so_far.is_whole)
    (stuck_at_end [] [] refl) (stuck_at_fault fault.numbers fault.rest reason fault.offset fault.is_fault) in
    none_at_end fault.numbers fault.rest reason fault.offset
    (nil_from_length fault.numbers (omega (arith, onto_length fault.numbers [], ap length one.0)))
    (sym one.1) fault.is_fault
