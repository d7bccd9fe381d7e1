-- What the run of a number in a message says.
use Rattle.std.proofs.Common.{◌≡◌, ℕ, zero, suc, ◌+◌, ◌^◌, ◌<◌, Bool, true, false, ◌==◌, if◌then◌else◌, cond, List, [], ◌∷◌, ◌++◌, Option, Some, None, is_some, option_to_list, length, map, refl, sym, ap, ◌∙◌, arith}
use Rattle.std.specs.List.{AllByRecursion, AllZip, filter, cons_option, flat_map, last_or}
use Rattle.std.proofs.lemmas.Bool.Decides.{nat_tests}
use Rattle.std.proofs.lemmas.List.{append-nil}
use Rattle.wire_format.specs.Spellings.{varint_field, bytes_field}
use Rattle.message_fields.specs.declared.field.Held.{Held}
use Rattle.message_fields.specs.declared.field.Part.{Part}
use Rattle.message_fields.specs.declared.field.PlacedField.{PlacedField}
use Rattle.message_fields.specs.declared.fault.MessageReason.TheVariants.{Missing}
use Rattle.message_fields.specs.declared.message.Message.{Message}
use Rattle.message_fields.specs.Written.{varint_unless_zero, bytes_unless_empty}
use Rattle.message_fields.specs.Lookups.{has_number, last_of, varint_held, bytes_held, held_by, number_of, content_or_none, bytes_of, parts_by, parts_of, number_or, bytes_in_field}
use Rattle.message_fields.specs.Fields.{bytes_in}
use Rattle.message_fields.specs.Faults.{missing}
use Rattle.message_fields.proofs.WrittenMessages.{a_number, some_bytes, placed_at, placed, content_begin, content_end, StandsAt, slice_is, ContentsStand, contents_stand}
use Rattle.sync_messages.proofs.FieldRuns.{numbers, contents, run_fields, run_bytes, IsRunIn}

pub same_number : (number : ℕ) → (number == number) ≡ true
same_number number = grind (arith, nat_tests)

not_zero : (number : ℕ) → (suc number == 0) ≡ false
not_zero number = grind (arith, nat_tests)

-- the contents of a field that is left out where it is empty
abbrev pub unless_empty : List ℕ → List (List ℕ)
unless_empty [] = []
unless_empty (byte ∷ rest) = (byte ∷ rest) ∷ []

-- the values of a field that is left out where it is 0
abbrev pub unless_zero : ℕ → List ℕ
unless_zero zero = []
unless_zero (suc number) = suc number ∷ []

-- its bytes
pub bytes_are : (number : ℕ) (content : List ℕ) → bytes_unless_empty number content ≡ run_bytes (contents number (unless_empty content))
bytes_are number [] = refl
bytes_are number (byte ∷ rest) =
    ap (λ b. if b then [] else bytes_field number (byte ∷ rest)) (not_zero (length rest)) ∙ sym (append-nil (bytes_field number (byte ∷ rest)))

pub varint_is : (number value : ℕ) → varint_unless_zero number value ≡ run_bytes (numbers number (unless_zero value))
varint_is number zero = refl
varint_is number (suc value) =
    ap (λ b. if b then [] else varint_field number (suc value)) (not_zero value) ∙ sym (append-nil (varint_field number (suc value)))

pub values_fit : (value : ℕ) → value < 2 ^ 64 → AllByRecursion (λ (n : ℕ). n < 2 ^ 64) (unless_zero value)
values_fit zero fits = tt
values_fit (suc value) fits = (fits, tt)

-- the fields of some contents
pub contents_are : {V : Type 0} (number : ℕ) (bytes : V → List ℕ) (values : List V) →
    flat_map (λ (value : V). bytes_field number (bytes value)) values ≡ run_bytes (contents number (map bytes values))
contents_are number bytes [] = refl
contents_are number bytes (value ∷ values) = ap (λ rest. bytes_field number (bytes value) ++ rest) (contents_are number bytes values)

-- the field that counts is the one of its run
pub last_is : (input : List ℕ) (number : ℕ) (fields : List PlacedField) (text : List ℕ)
    (run : IsRunIn input number fields (contents number (text ∷ []))) →
    last_of number fields ≡ Some (placed_at run.place (some_bytes number text))
last_is input number fields text run =
    ap (last_or None) run.are
    ∙ ap (λ b. last_or None (cond b (placed_at run.place (some_bytes number text) ∷ []) [])) (same_number number)

pub last_number_is : (input : List ℕ) (number : ℕ) (fields : List PlacedField) (value : ℕ)
    (run : IsRunIn input number fields (numbers number (value ∷ []))) →
    last_of number fields ≡ Some (placed_at run.place (a_number number value))
last_number_is input number fields value run =
    ap (last_or None) run.are
    ∙ ap (λ b. last_or None (cond b (placed_at run.place (a_number number value) ∷ []) [])) (same_number number)

-- its content stands where it is read
one_stands : (input : List ℕ) (number : ℕ) (fields : List PlacedField) (text : List ℕ)
    (run : IsRunIn input number fields (contents number (text ∷ []))) →
    StandsAt input text (content_begin run.place number text) (content_end run.place number text)
one_stands input number fields text run =
    (contents_stand input run.place (run.place + length (run_bytes (contents number (text ∷ [])))) (some_bytes number text ∷ []) run.stands).0

-- a content that is there is found
pub found_text : (input : List ℕ) (number : ℕ) (fields : List PlacedField) (text : List ℕ) →
    IsRunIn input number fields (contents number (text ∷ [])) → bytes_in_field input number fields ≡ Some text
found_text input number fields text run =
    ap (λ found. elim (held_by bytes_held found) as (λ part. Option (List ℕ)) [ None ↦ None | Some part ↦ Some (bytes_in input part) ])
    (last_is input number fields text run)
    ∙ ap Some (slice_is input text _ _ (one_stands input number fields text run))

-- where a content is told if it is there, it is what is found
pub text_if_some : (input : List ℕ) (number : ℕ) (fields : List PlacedField) (text : Option (List ℕ)) →
    IsRunIn input number fields (contents number (option_to_list text)) → text ≡ bytes_in_field input number fields
text_if_some input number fields None run =
    sym (ap (λ found. elim (held_by bytes_held (last_or None found)) as (λ part. Option (List ℕ)) [ None ↦ None | Some part ↦ Some (bytes_in input part) ]) run.are)
text_if_some input number fields (Some text) run = sym (found_text input number fields text run)

-- where a content is told unless it is empty, it is what is read
pub text_is : (input : List ℕ) (number : ℕ) (fields : List PlacedField) (text : List ℕ) →
    IsRunIn input number fields (contents number (unless_empty text)) → text ≡ bytes_of input number fields
text_is input number fields [] run = sym (ap (λ found. content_or_none input (held_by bytes_held (last_or None found))) run.are)
text_is input number fields (byte ∷ rest) run =
    sym (ap (λ found. content_or_none input (held_by bytes_held found)) (last_is input number fields (byte ∷ rest) run)
    ∙ slice_is input (byte ∷ rest) _ _ (one_stands input number fields (byte ∷ rest) run))

-- a number that is there is found
pub found_number : (input : List ℕ) (number : ℕ) (fields : List PlacedField) (value : ℕ) →
    IsRunIn input number fields (numbers number (value ∷ [])) → number_of number fields ≡ Some value
found_number input number fields value run = ap (held_by varint_held) (last_number_is input number fields value run)

no_number : (input : List ℕ) (number : ℕ) (fields : List PlacedField) → IsRunIn input number fields (numbers number []) →
    number_of number fields ≡ None
no_number input number fields run = ap (λ found. held_by varint_held (last_or None found)) run.are

-- where a number is told unless it is 0, it is what is read
pub number_is : (input : List ℕ) (number : ℕ) (fields : List PlacedField) (value : ℕ) →
    IsRunIn input number fields (numbers number (unless_zero value)) → value ≡ number_or 0 number fields
number_is input number fields zero run =
    sym (ap (λ found. elim found as (λ value. ℕ) [ None ↦ 0 | Some value ↦ value ]) (no_number input number fields run))
number_is input number fields (suc value) run =
    sym (ap (λ found. elim found as (λ value. ℕ) [ None ↦ 0 | Some value ↦ value ]) (found_number input number fields (suc value) run))

-- a field that is there is not missing
there : (number : ℕ) (message : Message) (field : PlacedField) → last_of number message.fields ≡ Some field → None ≡ missing number message
there number message field is =
    sym (ap (λ found. if is_some found then None else Some (record { at = message.end; reason = Missing number })) is)

pub text_there : (input : List ℕ) (number : ℕ) (message : Message) (text : List ℕ) →
    IsRunIn input number message.fields (contents number (text ∷ [])) → None ≡ missing number message
text_there input number message text run =
    there number message (placed_at run.place (some_bytes number text)) (last_is input number message.fields text run)

pub number_there : (input : List ℕ) (number : ℕ) (message : Message) (value : ℕ) →
    IsRunIn input number message.fields (numbers number (value ∷ [])) → None ≡ missing number message
number_there input number message value run =
    there number message (placed_at run.place (a_number number value)) (last_number_is input number message.fields value run)

-- what holds of the parts of a number is told by the fields of that number
pub parts_filtered : (held : Held → Option Part) (number : ℕ) (fields : List PlacedField) →
    parts_by held number fields ≡ parts_by held number (filter (has_number number) fields)
parts_filtered held number [] = refl
parts_filtered held number (field ∷ fields) = by_number held number field fields (field.number == number) refl (parts_filtered held number fields)
  where
    by_number : (held : Held → Option Part) (number : ℕ) (field : PlacedField) (fields : List PlacedField) (is : Bool) →
        (field.number == number) ≡ is → parts_by held number fields ≡ parts_by held number (filter (has_number number) fields) →
        cons_option (if field.number == number then held field.held else None) (parts_by held number fields)
        ≡ parts_by held number (cond (field.number == number) (field ∷ filter (has_number number) fields) (filter (has_number number) fields))
    by_number held number field fields true is rest =
        ap (λ parts. cons_option (if field.number == number then held field.held else None) parts) rest
        ∙ sym (ap (λ b. parts_by held number (cond b (field ∷ filter (has_number number) fields) (filter (has_number number) fields))) is)
    by_number held number field fields false is rest =
        ap (λ b. cons_option (if b then held field.held else None) (parts_by held number fields)) is ∙ rest
        ∙ sym (ap (λ b. parts_by held number (cond b (field ∷ filter (has_number number) fields) (filter (has_number number) fields))) is)

-- where the contents of a run stand
abbrev pub content_parts : ℕ → ℕ → List (List ℕ) → List Part
content_parts at number [] = []
content_parts at number (text ∷ texts) =
    record { begin = content_begin at number text; end = content_end at number text }
    ∷ content_parts (at + length (bytes_field number text)) number texts

-- parts of the input are where these texts stand
abbrev pub Stand : List ℕ → List Part → List (List ℕ) → Type 0
Stand input parts texts = AllZip (λ (part : Part) text. StandsAt input text part.begin part.end) parts texts

contents_found : (at number : ℕ) (texts : List (List ℕ)) →
    parts_of number (filter (has_number number) (placed at (run_fields (contents number texts)))) ≡ content_parts at number texts
contents_found at number [] = refl
contents_found at number (text ∷ texts) =
    let next : ℕ = at + length (bytes_field number text) in
    let field : PlacedField = placed_at at (some_bytes number text) in
    let rest : List PlacedField = filter (has_number number) (placed next (run_fields (contents number texts))) in
    ap (λ b. parts_of number (cond b (field ∷ rest) rest)) (same_number number)
    ∙ ap (λ b. cons_option (if b then bytes_held field.held else None) (parts_of number rest)) (same_number number)
    ∙ ap (λ parts. record { begin = content_begin at number text; end = content_end at number text } ∷ parts) (contents_found next number texts)

parts_stand : (input : List ℕ) (at number : ℕ) (texts : List (List ℕ)) → ContentsStand input at (run_fields (contents number texts)) →
    Stand input (content_parts at number texts) texts
parts_stand input at number [] stand = tt
parts_stand input at number (text ∷ texts) stand = (stand.0, parts_stand input (at + length (bytes_field number text)) number texts stand.1)

-- the parts of a number stand for these texts
pub record ArePartsFor (input : List ℕ) (found : List Part) (texts : List (List ℕ)) : Type 0 where
  pub parts : List Part
  pub are : found ≡ parts
  pub stand : Stand input parts texts

pub parts_are : (input : List ℕ) (number : ℕ) (fields : List PlacedField) (texts : List (List ℕ)) →
    IsRunIn input number fields (contents number texts) → ArePartsFor input (parts_of number fields) texts
parts_are input number fields texts run = record {
  parts = content_parts run.place number texts;
  are = parts_filtered bytes_held number fields ∙ ap (parts_of number) run.are ∙ contents_found run.place number texts;
  stand = parts_stand input run.place number texts
      (contents_stand input run.place (run.place + length (run_bytes (contents number texts))) (run_fields (contents number texts)) run.stands);
}

-- where there is no field of a number, there is no part
pub no_parts : (number : ℕ) (fields : List PlacedField) → filter (has_number number) fields ≡ [] → parts_of number fields ≡ []
no_parts number fields none = parts_filtered bytes_held number fields ∙ ap (parts_of number) none

-- one part stands for this text
pub record IsOnePart (input : List ℕ) (found : List Part) (text : List ℕ) : Type 0 where
  pub part : Part
  pub are : found ≡ part ∷ []
  pub stands : StandsAt input text part.begin part.end

one_of : (input : List ℕ) (found parts : List Part) (text : List ℕ) → found ≡ parts → Stand input parts (text ∷ []) → IsOnePart input found text
one_of input found [] text are stand = absurd stand
one_of input found (part ∷ []) text are stand = record { part = part; are = are; stands = stand.0 }
one_of input found (part ∷ other ∷ parts) text are stand = absurd stand.1

-- the part of a field that is there once
pub one_part : (input : List ℕ) (number : ℕ) (fields : List PlacedField) (text : List ℕ) →
    IsRunIn input number fields (contents number (text ∷ [])) → IsOnePart input (parts_of number fields) text
one_part input number fields text run =
    let parts = parts_are input number fields (text ∷ []) run in
    one_of input (parts_of number fields) parts.parts text parts.are parts.stand
