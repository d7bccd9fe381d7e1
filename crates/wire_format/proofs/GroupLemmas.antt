-- A group and its content, token by token.
use Rattle.std.proofs.Common.{◌≡◌, ℕ, ◌+◌, ◌-◌, ◌*◌, ◌<◌, ◌≤◌, true, false, ◌==◌, List, [], ◌∷◌, ◌++◌, length, take, drop, refl, sym, ap, subst, ◌∙◌, arith}
use Rattle.std.proofs.lemmas.Bool.Decides.{nat_tests}
use Rattle.std.proofs.lemmas.List.{take-append-drop, length-take-le, length-drop, take-take, drop-append-le, length-append}
use Rattle.std.proofs.Math.Seq.{take-add}
use Rattle.wire_format.specs.declared.token.Body.{Body}
use Rattle.wire_format.specs.declared.token.Body.TheVariants.{Plain, Start, End}
use Rattle.wire_format.specs.declared.fault.WireReason.{WireReason}
use Rattle.wire_format.specs.declared.fault.WireReason.TheVariants.{Cut, LongVarint, BadKind, ZeroNumber, BigNumber, OpenGroup, StrayEnd, TooDeep}
use Rattle.wire_format.specs.Varints.{IsVarint}
use Rattle.wire_format.specs.Fields.{IsHeader, IsGroupOf, MayFill}
use Rattle.wire_format.specs.Faults.{AreOpen, HasHeader, IsNumber, IsInnermost, IsTokenFault, IsFaultWithin, IsFault}
use Rattle.wire_format.specs.Tokens.{IsToken}
use Rattle.wire_format.specs.Groups.{Nests}
use Rattle.wire_format.proofs.OneReading.{cons_head, cons_tail}
use Rattle.wire_format.proofs.Nesting.{no_fields, open_plain, open_start, open_end}
use Rattle.wire_format.proofs.TokenLemmas.{from_place}

varint_some : (bytes : List ℕ) (value : ℕ) → IsVarint bytes value → 0 < length bytes
varint_some bytes value varint =
    omega (arith, ap length varint.is_whole, length-append varint.front (varint.last ∷ []))

-- a token has some bytes
pub token_some : (bytes : List ℕ) (number : ℕ) (body : Body) → IsToken bytes number body → 0 < length bytes
token_some bytes number (Plain payload) token =
    omega (
      arith,
      ap length token.is_whole,
      length-append token.header token.body,
      varint_some token.header _ token.is_header.is_varint,
    )
token_some bytes number Start token = varint_some bytes (number * 8 + 3) token.is_varint
token_some bytes number End token = varint_some bytes (number * 8 + 4) token.is_varint

-- the content so far, with one more token
pub content_more : (bytes : List ℕ) (start at size : ℕ) → start ≤ at → at ≤ length bytes →
    drop start (take (at + size) bytes) ≡ drop start (take at bytes) ++ take size (drop at bytes)
content_more bytes start at size starts inside =
    ap (drop start) (take-add at size bytes)
    ∙ drop-append-le start (take at bytes) (take size (drop at bytes)) (omega (arith, length-take-le at bytes inside, starts))

-- the groups that are open after a token
pub nested : (body : Body) (number : ℕ) (old new content piece : List ℕ) → Nests body number old new → IsToken piece number body →
    AreOpen 32 old content → AreOpen 32 new (content ++ piece)
nested (Plain payload) number old new content piece nests token are =
    subst (λ numbers. AreOpen 32 numbers (content ++ piece)) (sym nests)
    (open_plain 32 old content piece are (record { number = number; payload = payload; is_plain = token }))
nested Start number old new content piece nests token are =
    subst (λ numbers. AreOpen 32 numbers (content ++ piece)) (sym nests.0) (open_start 32 old content piece number are token nests.1)
nested End number old new content piece nests token are =
    open_end 32 new content piece number (subst (λ numbers. AreOpen 32 numbers content) nests are) token

-- what the test for no open group tells
pub is_some : (size : ℕ) → false ≡ (size == 0) → 0 < size
is_some size test = grind (arith, nat_tests, test)

pub is_none : (size : ℕ) → true ≡ (size == 0) → size ≡ 0
is_none size test = grind (arith, nat_tests, test)

-- a group is open, and in it these are, after this content
pub record IsWithin (group : ℕ) (numbers content : List ℕ) : Type 0 where
  pub inner : List ℕ
  pub is_outermost : numbers ≡ group ∷ inner
  pub are_open : AreOpen 31 inner content

-- some group is open
pub within_some : (group : ℕ) (numbers content : List ℕ) → IsWithin group numbers content → numbers ≡ [] → ⊥
within_some group numbers content within none = omega (arith, ap length within.is_outermost, ap length none)

-- the groups that are open after a token that leaves the outermost one open
pub within_more : (group : ℕ) (body : Body) (number : ℕ) (old new content piece : List ℕ) → 0 < length new →
    Nests body number old new → IsToken piece number body → IsWithin group old content → IsWithin group new (content ++ piece)
within_more group (Plain payload) number old new content piece some nests token within = record {
  inner = within.inner;
  is_outermost = nests ∙ within.is_outermost;
  are_open = open_plain 31 within.inner content piece within.are_open (record { number = number; payload = payload; is_plain = token });
}
within_more group Start number old new content piece some nests token within = record {
  inner = within.inner ++ number ∷ [];
  is_outermost = nests.0 ∙ ap (λ numbers. numbers ++ number ∷ []) within.is_outermost;
  are_open = open_start 31 within.inner content piece number within.are_open token
      (omega (arith, nests.1, ap length within.is_outermost));
}
within_more group End number old [] content piece some nests token within = absurd (omega (arith, some))
within_more group End number old (first ∷ new) content piece some nests token within =
    let same : group ∷ within.inner ≡ first ∷ (new ++ number ∷ []) = sym within.is_outermost ∙ nests in
    record {
      inner = new;
      is_outermost = ap (λ outermost. outermost ∷ new) (sym (cons_head group first within.inner (new ++ number ∷ []) same));
      are_open = open_end 31 new content piece number
          (subst (λ numbers. AreOpen 31 numbers content) (cons_tail group first within.inner (new ++ number ∷ []) same) within.are_open)
          token;
    }

-- a token that leaves no group open
pub record IsEnd (group : ℕ) (piece content : List ℕ) : Type 0 where
  pub is_header : IsHeader piece group 4
  pub are_fields : AreOpen 31 [] content

-- it ends the outermost one
pub within_end : (group : ℕ) (body : Body) (number : ℕ) (old new content piece : List ℕ) → length new ≡ 0 →
    Nests body number old new → IsToken piece number body → IsWithin group old content → IsEnd group piece content
within_end group (Plain payload) number old new content piece none nests token within =
    absurd (omega (arith, none, ap length nests, ap length within.is_outermost))
within_end group Start number old new content piece none nests token within =
    absurd (omega (arith, none, ap length nests.0, length-append old (number ∷ [])))
within_end group End number old (first ∷ new) content piece none nests token within = absurd (omega (arith, none))
within_end group End number old [] content piece none nests token within =
    let same : group ∷ within.inner ≡ number ∷ [] = sym within.is_outermost ∙ nests in
    record {
      is_header = subst (λ numbered. IsHeader piece numbered 4) (sym (cons_head group number within.inner [] same)) token;
      are_fields = subst (λ numbers. AreOpen 31 numbers content) (cons_tail group number within.inner [] same) within.are_open;
    }

-- what stands before a place in a group: its start, and its content so far
pub up_to : (bytes : List ℕ) (start at : ℕ) → start ≤ at → at ≤ length bytes →
    take at bytes ≡ take start bytes ++ drop start (take at bytes)
up_to bytes start at starts inside =
    sym (take-append-drop start (take at bytes)) ∙ ap (λ front. front ++ drop start (take at bytes)) (take-take start at bytes starts)

-- a group that has ended
pub group_whole : (bytes : List ℕ) (start at size number : ℕ) → start ≤ at → at ≤ length bytes →
    IsHeader (take start bytes) number 3 → AreOpen 31 [] (drop start (take at bytes)) →
    IsHeader (take size (drop at bytes)) number 4 →
    IsGroupOf (MayFill 32) (take (at + size) bytes) number (drop start (take at bytes))
group_whole bytes start at size number starts inside is_start are is_end = record {
  start = take start bytes;
  end = take size (drop at bytes);
  is_whole = take-add at size bytes ∙ ap (λ front. front ++ take size (drop at bytes)) (up_to bytes start at starts inside);
  is_start = is_start;
  is_end = is_end;
  is_filled = are;
}

-- the open groups before a place in a group
pub all_open : (bytes : List ℕ) (start at group : ℕ) (numbers : List ℕ) → start ≤ at → at ≤ length bytes →
    IsHeader (take start bytes) group 3 → IsWithin group numbers (drop start (take at bytes)) → AreOpen 32 numbers (take at bytes)
all_open bytes start at group numbers starts inside is_start within =
    subst (λ open_numbers. AreOpen 32 open_numbers (take at bytes)) (sym within.is_outermost)
    (all_inside bytes start at group within.inner starts inside is_start within.are_open)
  where
    all_inside : (bytes : List ℕ) (start at group : ℕ) (inner : List ℕ) → start ≤ at → at ≤ length bytes →
        IsHeader (take start bytes) group 3 → AreOpen 31 inner (drop start (take at bytes)) →
        AreOpen 32 (group ∷ inner) (take at bytes)
    all_inside bytes start at group inner starts inside is_start are = record {
      before = [];
      start = take start bytes;
      inside = drop start (take at bytes);
      is_whole = up_to bytes start at starts inside;
      are_fields = no_fields (MayFill 32);
      is_start = is_start;
      is_inside = are;
    }

-- the first fault, at a place up to which all is right
pub fault_at : (bytes : List ℕ) (at offset : ℕ) (numbers : List ℕ) (reason : WireReason) → at ≤ length bytes →
    AreOpen 32 numbers (take at bytes) → IsFaultWithin numbers (drop at bytes) reason offset → IsFault bytes reason (at + offset)
fault_at bytes at offset numbers reason inside are fault = record {
  before = take at bytes;
  rest = drop at bytes;
  numbers = numbers;
  offset = offset;
  is_whole = sym (take-append-drop at bytes);
  are_open = are;
  is_fault = fault;
  is_place = ap (λ place. place + offset) (sym (length-take-le at bytes inside));
}

-- a token's fault is one within any open groups, where some bytes are left
pub token_fault : (numbers bytes : List ℕ) (reason : WireReason) (place : ℕ) → 0 < length bytes →
    IsTokenFault bytes reason place → IsFaultWithin numbers bytes reason place
token_fault numbers bytes Cut place some fault = (λ (none : bytes ≡ []). absurd (omega (arith, some, ap length none)), fault)
token_fault numbers bytes LongVarint place some fault = fault
token_fault numbers bytes ZeroNumber place some fault = fault
token_fault numbers bytes BigNumber place some fault = fault
token_fault numbers bytes BadKind place some fault = fault
token_fault numbers bytes OpenGroup place some fault = absurd fault
token_fault numbers bytes StrayEnd place some fault = absurd fault
token_fault numbers bytes TooDeep place some fault = absurd fault

-- a token that is a header alone
header_here : (Holds : ℕ → ℕ → List ℕ → ℕ → Type 0) (bytes : List ℕ) (size number kind : ℕ) → kind < 8 →
    IsHeader (take size bytes) number kind → Holds number kind (drop size bytes) (length (take size bytes)) → HasHeader Holds bytes
header_here Holds bytes size number kind small header holds = record {
  header = take size bytes;
  body = drop size bytes;
  number = number;
  kind = kind;
  is_whole = sym (take-append-drop size bytes);
  is_varint = header.is_varint;
  is_kind = small;
  holds = holds;
}

-- an end of a group that is not the innermost
pub stray_here : (numbers bytes : List ℕ) (size number : ℕ) → IsHeader (take size bytes) number 4 →
    (IsInnermost numbers number → ⊥) → IsFaultWithin numbers bytes StrayEnd 0
stray_here numbers bytes size number header stray = (
  refl,
  header_here (λ number kind body size. IsNumber number × (kind ≡ 4) × (IsInnermost numbers number → ⊥))
      bytes size number 4 (omega arith) header ((header.is_number, header.is_small), refl, stray),
)

-- a start of a group inside as many as may be open
pub deep_here : (numbers bytes : List ℕ) (size number : ℕ) → IsHeader (take size bytes) number 3 →
    length numbers ≡ 32 → IsFaultWithin numbers bytes TooDeep 0
deep_here numbers bytes size number header full = (
  refl,
  header_here (λ number kind body size. IsNumber number × (kind ≡ 3) × (length numbers ≡ 32))
      bytes size number 3 (omega arith) header ((header.is_number, header.is_small), refl, full),
)

-- a token in a slice from a place on, as one of the bytes
pub token_here : (bytes : List ℕ) (at size number : ℕ) (body : Body) → at ≤ length bytes →
    (size ≤ length (take (length bytes - at) (drop at bytes))) × IsToken (take size (take (length bytes - at) (drop at bytes))) number body →
    (at + size ≤ length bytes) × IsToken (take size (drop at bytes)) number body × (0 < size)
token_here bytes at size number body inside token =
    let slice = from_place bytes at in
    let within : size ≤ length (drop at bytes) = subst (λ rest. size ≤ length rest) slice token.0 in
    let here : IsToken (take size (drop at bytes)) number body = subst (λ rest. IsToken (take size rest) number body) slice token.1 in (
      omega (arith, within, length-drop at bytes, inside),
      here,
      omega (arith, token_some (take size (drop at bytes)) number body here, length-take-le size (drop at bytes) within),
    )
