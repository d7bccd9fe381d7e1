-- Whole fields and open groups as walks over tokens.
use Rattle.std.proofs.Common.{◌≡◌, ℕ, zero, suc, ◌+◌, ◌<◌, ◌≤◌, true, if◌then◌else◌, ◌==◌, nat_lt, List, [], ◌∷◌, ◌++◌, inl, inr, Option, Some, None, length, refl, sym, ap, subst, ◌∙◌, arith}
use Rattle.std.specs.List.{AllByRecursion, concat}
use Rattle.std.proofs.lemmas.Bool.Decides.{nat_tests}
use Rattle.std.proofs.lemmas.List.{append_assoc, append-nil}
use Rattle.wire_format.specs.declared.field.Payload.{Payload}
use Rattle.wire_format.specs.declared.field.Payload.TheVariants.{Varint, Eight, Bytes, Group, Four}
use Rattle.wire_format.specs.Fields.{IsHeader, IsPlainField, IsSomeGroup, IsSomeField, AreFieldsOf, MayFill}
use Rattle.wire_format.specs.Faults.{AreOpen}
use Rattle.wire_format.proofs.OneReading.{IsPiece}
use Rattle.wire_format.proofs.Nesting.{all_join}
use Rattle.wire_format.proofs.TokenWalks.{Step, IsStep, next, then_walk, walk, bytes_of, Leads, none_some, some_same}

walk_on : (o : Option (List ℕ)) (ts us : List Step) (mid new : List ℕ) →
    ((old : List ℕ) → walk ts old ≡ Some mid → walk (ts ++ us) old ≡ Some new) →
    then_walk o (λ after. walk ts after) ≡ Some mid → then_walk o (λ after. walk (ts ++ us) after) ≡ Some new
unfolding then_walk
walk_on None ts us mid new on first = absurd (none_some mid first)
walk_on (Some after) ts us mid new on first = on after first

walk_join : (ts us : List Step) (old mid new : List ℕ) → walk ts old ≡ Some mid → walk us mid ≡ Some new →
    walk (ts ++ us) old ≡ Some new
unfolding walk
walk_join [] us old mid new first second = ap (walk us) (some_same old mid first) ∙ second
walk_join (t ∷ ts) us old mid new first second =
    walk_on (next t old) ts us mid new (λ after here. walk_join ts us after mid new here second) first

bytes_join : (ts us : List Step) → bytes_of (ts ++ us) ≡ bytes_of ts ++ bytes_of us
unfolding bytes_of
bytes_join [] us = refl
bytes_join (t ∷ ts) us = ap (λ rest. t.bytes ++ rest) (bytes_join ts us) ∙ sym (append_assoc t.bytes (bytes_of ts) (bytes_of us))

-- no token
pub leads_none : (numbers : List ℕ) → Leads [] numbers numbers
unfolding walk bytes_of
leads_none numbers = record { tokens = []; is_whole = refl; are_tokens = tt; leads = refl }

-- one walk after another
pub leads_join : (a b old mid new : List ℕ) → Leads a old mid → Leads b mid new → Leads (a ++ b) old new
leads_join a b old mid new la lb = record {
  tokens = la.tokens ++ lb.tokens;
  is_whole = ap (λ front. front ++ b) la.is_whole ∙ ap (λ back. bytes_of la.tokens ++ back) lb.is_whole
      ∙ sym (bytes_join la.tokens lb.tokens);
  are_tokens = all_join IsStep la.tokens lb.tokens la.are_tokens lb.are_tokens;
  leads = walk_join la.tokens lb.tokens old mid new la.leads lb.leads;
}

-- one token
leads_one : (token : Step) (old new : List ℕ) → IsStep token → next token old ≡ Some new → Leads token.bytes old new
unfolding walk bytes_of then_walk
leads_one token old new is_token after = record {
  tokens = token ∷ [];
  is_whole = sym (append-nil token.bytes);
  are_tokens = (is_token, tt);
  leads = ap (λ found. then_walk found (λ numbers. walk [] numbers)) after;
}

plain_token : (bytes : List ℕ) (number kind : ℕ) (old : List ℕ) → IsPiece bytes number kind →
    next (record { bytes = bytes; number = number; kind = kind }) old ≡ Some old → Leads bytes old old
plain_token bytes number kind old piece stays =
    leads_one (record { bytes = bytes; number = number; kind = kind }) old old piece stays

plain_leads : (bytes : List ℕ) (number : ℕ) (payload : Payload) (old : List ℕ) → IsPlainField bytes number payload → Leads bytes old old
plain_leads bytes number (Varint value) old plain = plain_token bytes number 0 old (record {
  header = plain.header;
  body = plain.body;
  is_whole = plain.is_whole;
  is_header = plain.is_header;
  is_kind = omega arith;
  is_tail = record { value = value; is_varint = plain.is_plain };
}) refl
plain_leads bytes number (Eight value) old plain = plain_token bytes number 1 old (record {
  header = plain.header;
  body = plain.body;
  is_whole = plain.is_whole;
  is_header = plain.is_header;
  is_kind = omega arith;
  is_tail = plain.is_plain.0;
}) refl
plain_leads bytes number (Bytes content) old plain = plain_token bytes number 2 old (record {
  header = plain.header;
  body = plain.body;
  is_whole = plain.is_whole;
  is_header = plain.is_header;
  is_kind = omega arith;
  is_tail = record { content = content.now; is_delimited = plain.is_plain };
}) refl
plain_leads bytes number (Group content) old plain = absurd plain.is_plain
plain_leads bytes number (Four value) old plain = plain_token bytes number 5 old (record {
  header = plain.header;
  body = plain.body;
  is_whole = plain.is_whole;
  is_header = plain.is_header;
  is_kind = omega arith;
  is_tail = plain.is_plain.0;
}) refl

lone_header : (bytes : List ℕ) (number : ℕ) → IsHeader bytes number 3 → IsPiece bytes number 3
lone_header bytes number header = record {
  header = bytes;
  body = [];
  is_whole = sym (append-nil bytes);
  is_header = header;
  is_kind = omega arith;
  is_tail = refl;
}

lone_end : (bytes : List ℕ) (number : ℕ) → IsHeader bytes number 4 → IsPiece bytes number 4
lone_end bytes number header = record {
  header = bytes;
  body = [];
  is_whole = sym (append-nil bytes);
  is_header = header;
  is_kind = omega arith;
  is_tail = refl;
}

below : (size : ℕ) → size < 32 → nat_lt size 32 ≡ true
below size small = grind (arith, nat_tests, small)

itself : (number : ℕ) → (number == number) ≡ true
itself number = grind (arith, nat_tests)

-- the start of a group
pub start_leads : (bytes : List ℕ) (number : ℕ) (old : List ℕ) → IsHeader bytes number 3 → length old < 32 →
    Leads bytes old (number ∷ old)
start_leads bytes number old header small =
    leads_one (record { bytes = bytes; number = number; kind = 3 }) old (number ∷ old) (lone_header bytes number header)
    (ap (λ fits. if fits then Some (number ∷ old) else None) (below (length old) small))

-- the end of a group
pub end_leads : (bytes : List ℕ) (number : ℕ) (old : List ℕ) → IsHeader bytes number 4 → Leads bytes (number ∷ old) old
end_leads bytes number old header =
    leads_one (record { bytes = bytes; number = number; kind = 4 }) (number ∷ old) old (lone_end bytes number header)
    (ap (λ fits. if fits then Some old else None) (itself number))

pieces_lead : (Fill : List ℕ → Type 0) (old : List ℕ) → ((piece : List ℕ) → IsSomeField Fill piece → Leads piece old old) →
    (pieces : List (List ℕ)) → AllByRecursion (IsSomeField Fill) pieces → Leads (concat pieces) old old
pieces_lead Fill old each [] all = leads_none old
pieces_lead Fill old each (piece ∷ pieces) all =
    leads_join piece (concat pieces) old old old (each piece all.0) (pieces_lead Fill old each pieces all.1)

group_leads : (Fill : List ℕ → Type 0) (old : List ℕ) → length old < 32 →
    ((number : ℕ) (content : List ℕ) → Fill content → Leads content (number ∷ old) (number ∷ old)) →
    (piece : List ℕ) → IsSomeGroup Fill piece → Leads piece old old
group_leads Fill old small inside piece some =
    let group = some.is_group in
    subst (λ bytes. Leads bytes old old) (sym group.is_whole)
    (leads_join (group.start ++ some.content) group.end old (some.number ∷ old) old
    (leads_join group.start some.content old (some.number ∷ old) (some.number ∷ old)
    (start_leads group.start some.number old group.is_start small) (inside some.number some.content group.is_filled))
    (end_leads group.end some.number old group.is_end))

field_leads : (Fill : List ℕ → Type 0) (old : List ℕ) → ((piece : List ℕ) → IsSomeGroup Fill piece → Leads piece old old) →
    (piece : List ℕ) → IsSomeField Fill piece → Leads piece old old
field_leads Fill old group piece (inl plain) = plain_leads piece plain.number plain.payload old plain.is_plain
field_leads Fill old group piece (inr some) = group piece some

-- whole fields leave the same groups open
pub fields_lead : (room : ℕ) (bytes : List ℕ) → AreFieldsOf (MayFill room) bytes → (old : List ℕ) → length old + room ≤ 32 →
    Leads bytes old old
fields_lead zero bytes fields old within =
    subst (λ whole. Leads whole old old) (sym fields.is_whole)
    (pieces_lead (MayFill zero) old (field_leads (MayFill zero) old (λ piece some. absurd some.is_group.is_filled)) fields.pieces fields.are_fields)
fields_lead (suc room) bytes fields old within =
    subst (λ whole. Leads whole old old) (sym fields.is_whole)
    (pieces_lead (MayFill (suc room)) old
    (field_leads (MayFill (suc room)) old
    (group_leads (MayFill (suc room)) old (omega (arith, within))
    (λ number content filled. fields_lead room content filled (number ∷ old) (omega (arith, within)))))
    fields.pieces fields.are_fields)

-- some open groups, the outermost first, on top of others, the innermost first
unfoldable pub onto : List ℕ → List ℕ → List ℕ
onto [] numbers = numbers
onto (number ∷ later) numbers = onto later (number ∷ numbers)

-- whole fields and starts of groups leave these groups open
pub open_leads : (room : ℕ) (numbers bytes : List ℕ) → AreOpen room numbers bytes → (old : List ℕ) → length old + room ≤ 32 →
    Leads bytes old (onto numbers old)
unfolding onto
open_leads room [] bytes are old within = fields_lead room bytes are old within
open_leads zero (number ∷ numbers) bytes are old within = absurd are
open_leads (suc room) (number ∷ numbers) bytes are old within =
    subst (λ whole. Leads whole old (onto numbers (number ∷ old))) (sym are.is_whole)
    (leads_join (are.before ++ are.start) are.inside old (number ∷ old) (onto numbers (number ∷ old))
    (leads_join are.before are.start old old (number ∷ old)
    (fields_lead (suc room) are.before are.are_fields old within)
    (start_leads are.start number old are.is_start (omega (arith, within))))
    (open_leads room numbers are.inside are.is_inside (number ∷ old) (omega (arith, within))))
