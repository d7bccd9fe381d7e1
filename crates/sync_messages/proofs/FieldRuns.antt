-- Messages in which the fields of one number stand together, as they are written, and what is read of them.
use Rattle.std.proofs.Common.{◌≡◌, ℕ, ◌+◌, ◌^◌, ◌<◌, true, false, ◌==◌, cond, List, [], ◌∷◌, ◌++◌, Some, None, length, map, refl, sym, ap, subst, ◌∙◌, arith}
use Rattle.std.specs.List.{AllByRecursion, AllZip, filter, find}
use Rattle.std.proofs.lemmas.List.{append_assoc, append-nil, length-append}
use Rattle.std.proofs.lemmas.List.Elements.{filter-append}
use Rattle.wire_format.specs.Faults.{IsNumber}
use Rattle.message_fields.specs.declared.field.Known.{Known}
use Rattle.message_fields.specs.declared.field.PlacedField.{PlacedField}
use Rattle.message_fields.specs.declared.message.Message.{Message}
use Rattle.message_fields.specs.Lookups.{has_number}
use Rattle.message_fields.specs.Readings.{is_known, IsReading}
use Rattle.message_fields.specs.Faults.{is_of_wrong_kind, kind_fault, wrong_kind}
use Rattle.message_fields.proofs.WrittenMessages.{Written, a_number, some_bytes, spelled, written, placed_at, placed, IsSound, StandsAt, written_is_read}

-- fields of one number that stand together: values, or contents
pub data Run : Type 0 where
  numbers : (number : ℕ) (values : List ℕ) → Run
  contents : (number : ℕ) (texts : List (List ℕ)) → Run

-- their number
abbrev pub run_number : Run → ℕ
run_number (numbers number values) = number
run_number (contents number texts) = number

-- they themselves
abbrev pub run_fields : Run → List Written
run_fields (numbers number values) = map (λ (value : ℕ). a_number number value) values
run_fields (contents number texts) = map (λ (text : List ℕ). some_bytes number text) texts

-- their bytes
abbrev pub run_bytes : Run → List ℕ
run_bytes run = written (run_fields run)

-- the fields of a message
abbrev pub all_fields : List Run → List Written
all_fields [] = []
all_fields (run ∷ runs) = run_fields run ++ all_fields runs

written_both : (first rest : List Written) → written (first ++ rest) ≡ written first ++ written rest
written_both [] rest = refl
written_both (field ∷ first) rest =
    ap (λ bytes. spelled field ++ bytes) (written_both first rest) ∙ sym (append_assoc (spelled field) (written first) (written rest))

placed_both : (at : ℕ) (first rest : List Written) →
    placed at (first ++ rest) ≡ placed at first ++ placed (at + length (written first)) rest
placed_both at [] rest = ap (λ place. placed place rest) (let same : at ≡ at + 0 = omega arith in same)
placed_both at (field ∷ first) rest =
    let same : at + length (spelled field) + length (written first) ≡ at + length (spelled field ++ written first)
    = omega (arith, length-append (spelled field) (written first)) in
    ap (λ fields. placed_at at field ∷ fields)
    (placed_both (at + length (spelled field)) first rest
    ∙ ap (λ place. placed (at + length (spelled field)) first ++ placed place rest) same)

-- these bytes, and some pieces that are appended one by one
abbrev pub appended : List ℕ → List (List ℕ) → List ℕ
appended front [] = front
appended front (piece ∷ pieces) = appended (front ++ piece) pieces

-- each piece is the bytes of a run
abbrev pub ArePieces : List (List ℕ) → List Run → Type 0
ArePieces pieces runs = AllZip (λ piece run. piece ≡ run_bytes run) pieces runs

appended_to : (front : List ℕ) (pieces : List (List ℕ)) (runs : List Run) → ArePieces pieces runs →
    appended front pieces ≡ front ++ written (all_fields runs)
appended_to front [] [] are = sym (append-nil front)
appended_to front [] (run ∷ runs) are = absurd are
appended_to front (piece ∷ pieces) [] are = absurd are
appended_to front (piece ∷ pieces) (run ∷ runs) are =
    appended_to (front ++ piece) pieces runs are.1 ∙ append_assoc front piece (written (all_fields runs))
    ∙ ap (λ bytes. front ++ bytes)
    (ap (λ bytes. bytes ++ written (all_fields runs)) are.0 ∙ sym (written_both (run_fields run) (all_fields runs)))

-- pieces that are appended one by one are the message's bytes
pub pieces_are : (pieces : List (List ℕ)) (runs : List Run) → ArePieces pieces runs → appended [] pieces ≡ written (all_fields runs)
pieces_are pieces runs are = appended_to [] pieces runs are

-- a number that a field may have, and values that a varint may
abbrev pub IsSoundRun : Run → Type 0
IsSoundRun (numbers number values) = IsNumber number × AllByRecursion (λ (value : ℕ). value < 2 ^ 64) values
IsSoundRun (contents number texts) = IsNumber number

numbers_sound : (number : ℕ) (values : List ℕ) (rest : List Written) → IsNumber number →
    AllByRecursion (λ (value : ℕ). value < 2 ^ 64) values → AllByRecursion IsSound rest →
    AllByRecursion IsSound (run_fields (numbers number values) ++ rest)
numbers_sound number [] rest is fit sound = sound
numbers_sound number (value ∷ values) rest is fit sound = ((is, fit.0), numbers_sound number values rest is fit.1 sound)

contents_sound : (number : ℕ) (texts : List (List ℕ)) (rest : List Written) → IsNumber number → AllByRecursion IsSound rest →
    AllByRecursion IsSound (run_fields (contents number texts) ++ rest)
contents_sound number [] rest is sound = sound
contents_sound number (text ∷ texts) rest is sound = (is, contents_sound number texts rest is sound)

-- the fields of sound runs are sound
pub runs_sound : (runs : List Run) → AllByRecursion IsSoundRun runs → AllByRecursion IsSound (all_fields runs)
runs_sound [] sound = tt
runs_sound (numbers number values ∷ runs) sound =
    numbers_sound number values (all_fields runs) sound.0.0 sound.0.1 (runs_sound runs sound.1)
runs_sound (contents number texts ∷ runs) sound = contents_sound number texts (all_fields runs) sound.0 (runs_sound runs sound.1)

-- the table has a field of this number and kind
abbrev pub IsInTable : List Known → PlacedField → Type 0
IsInTable known field = (is_known known field ≡ true) × (is_of_wrong_kind known field ≡ false)

-- the table has the fields of a run
abbrev pub HasRun : List Known → Run → Type 0
HasRun known (numbers number values) = (at value : ℕ) → IsInTable known (placed_at at (a_number number value))
HasRun known (contents number texts) = (at : ℕ) → (text : List ℕ) → IsInTable known (placed_at at (some_bytes number text))

numbers_in_table : (known : List Known) (at number : ℕ) (values : List ℕ) (rest : List Written) → HasRun known (numbers number values) →
    ((place : ℕ) → AllByRecursion (IsInTable known) (placed place rest)) →
    AllByRecursion (IsInTable known) (placed at (run_fields (numbers number values) ++ rest))
numbers_in_table known at number [] rest has more = more at
numbers_in_table known at number (value ∷ values) rest has more =
    (has at value, numbers_in_table known (at + length (spelled (a_number number value))) number values rest has more)

contents_in_table : (known : List Known) (at number : ℕ) (texts : List (List ℕ)) (rest : List Written) → HasRun known (contents number texts) →
    ((place : ℕ) → AllByRecursion (IsInTable known) (placed place rest)) →
    AllByRecursion (IsInTable known) (placed at (run_fields (contents number texts) ++ rest))
contents_in_table known at number [] rest has more = more at
contents_in_table known at number (text ∷ texts) rest has more =
    (has at text, contents_in_table known (at + length (spelled (some_bytes number text))) number texts rest has more)

all_in_table : (known : List Known) (at : ℕ) (runs : List Run) → AllByRecursion (HasRun known) runs →
    AllByRecursion (IsInTable known) (placed at (all_fields runs))
all_in_table known at [] has = tt
all_in_table known at (numbers number values ∷ runs) has =
    numbers_in_table known at number values (all_fields runs) has.0 (λ place. all_in_table known place runs has.1)
all_in_table known at (contents number texts ∷ runs) has =
    contents_in_table known at number texts (all_fields runs) has.0 (λ place. all_in_table known place runs has.1)

-- all fields that are in the table are kept
pub all_kept : (known : List Known) (fields : List PlacedField) → AllByRecursion (IsInTable known) fields →
    filter (is_known known) fields ≡ fields
all_kept known [] are = refl
all_kept known (field ∷ fields) are =
    ap (λ b. cond b (field ∷ filter (is_known known) fields) (filter (is_known known) fields)) are.0.0
    ∙ ap (λ rest. field ∷ rest) (all_kept known fields are.1)

-- none of them has a wrong kind
pub none_wrong : (known : List Known) (fields : List PlacedField) → AllByRecursion (IsInTable known) fields →
    None ≡ find (is_of_wrong_kind known) fields
none_wrong known [] are = refl
none_wrong known (field ∷ fields) are =
    none_wrong known fields are.1 ∙ sym (ap (λ b. cond b (Some field) (find (is_of_wrong_kind known) fields)) are.0.1)

-- the message of some runs between two places
abbrev pub runs_message : ℕ → ℕ → List Run → Message
runs_message begin end runs = record { fields = placed begin (all_fields runs); wire_fault = None; end = end }

-- a message of some runs is read
pub runs_read : (known : List Known) (input : List ℕ) (begin end : ℕ) (runs : List Run) → length input < 2 ^ 64 →
    AllByRecursion IsSoundRun runs → AllByRecursion (HasRun known) runs → StandsAt input (written (all_fields runs)) begin end →
    IsReading known input (record { begin = begin; end = end } ∷ []) (runs_message begin end runs)
runs_read known input begin end runs small sound has stands =
    subst (λ fields. IsReading known input (record { begin = begin; end = end } ∷ [])
    (record { fields = fields; wire_fault = None; end = end }))
    (all_kept known (placed begin (all_fields runs)) (all_in_table known begin runs has))
    (written_is_read known input begin end (all_fields runs) small (runs_sound runs sound) stands)

-- no field of it has a wrong kind
pub right_kinds : (known : List Known) (begin end : ℕ) (runs : List Run) → AllByRecursion (HasRun known) runs →
    None ≡ wrong_kind known (runs_message begin end runs)
right_kinds known begin end runs has = ap kind_fault (none_wrong known (placed begin (all_fields runs)) (all_in_table known begin runs has))

-- where a run begins that stands after others
abbrev pub place_after : ℕ → List Run → ℕ
place_after at runs = at + length (written (all_fields runs))

-- no run has this number
abbrev pub Lack : ℕ → List Run → Type 0
Lack number runs = AllByRecursion (λ (run : Run). (run_number run == number) ≡ false) runs

-- fields of other numbers are none of this one
numbers_lack : (number at other : ℕ) (values : List ℕ) → (other == number) ≡ false →
    filter (has_number number) (placed at (run_fields (numbers other values))) ≡ []
numbers_lack number at other [] differs = refl
numbers_lack number at other (value ∷ values) differs =
    let next : ℕ = at + length (spelled (a_number other value)) in
    let rest : List PlacedField = filter (has_number number) (placed next (run_fields (numbers other values))) in
    ap (λ b. cond b (placed_at at (a_number other value) ∷ rest) rest) differs ∙ numbers_lack number next other values differs

contents_lack : (number at other : ℕ) (texts : List (List ℕ)) → (other == number) ≡ false →
    filter (has_number number) (placed at (run_fields (contents other texts))) ≡ []
contents_lack number at other [] differs = refl
contents_lack number at other (text ∷ texts) differs =
    let next : ℕ = at + length (spelled (some_bytes other text)) in
    let rest : List PlacedField = filter (has_number number) (placed next (run_fields (contents other texts))) in
    ap (λ b. cond b (placed_at at (some_bytes other text) ∷ rest) rest) differs ∙ contents_lack number next other texts differs

run_lacks : (number at : ℕ) (run : Run) → (run_number run == number) ≡ false →
    filter (has_number number) (placed at (run_fields run)) ≡ []
run_lacks number at (numbers other values) differs = numbers_lack number at other values differs
run_lacks number at (contents other texts) differs = contents_lack number at other texts differs

-- the fields of a number, by those of the first run and the rest
of_both : (number at : ℕ) (run : Run) (rest : List Written) →
    filter (has_number number) (placed at (run_fields run ++ rest))
    ≡ filter (has_number number) (placed at (run_fields run)) ++ filter (has_number number) (placed (at + length (run_bytes run)) rest)
of_both number at run rest =
    ap (filter (has_number number)) (placed_both at (run_fields run) rest)
    ∙ filter-append (has_number number) (placed at (run_fields run)) (placed (at + length (run_bytes run)) rest)

after_other : (number at : ℕ) (run : Run) (rest : List Written) → (run_number run == number) ≡ false →
    filter (has_number number) (placed at (run_fields run ++ rest))
    ≡ filter (has_number number) (placed (at + length (run_bytes run)) rest)
after_other number at run rest differs =
    of_both number at run rest
    ∙ ap (λ first. first ++ filter (has_number number) (placed (at + length (run_bytes run)) rest)) (run_lacks number at run differs)

-- where no run has a number, no field has it
pub none_of : (number at : ℕ) (runs : List Run) → Lack number runs → filter (has_number number) (placed at (all_fields runs)) ≡ []
none_of number at [] lack = refl
none_of number at (run ∷ runs) lack =
    after_other number at run (all_fields runs) lack.0 ∙ none_of number (at + length (run_bytes run)) runs lack.1

-- where one run has a number, the fields of that number are its fields
fields_of : (number at : ℕ) (before : List Run) (run : Run) (after : List Run) → Lack number before → Lack number after →
    filter (has_number number) (placed at (all_fields (before ++ run ∷ after)))
    ≡ filter (has_number number) (placed (place_after at before) (run_fields run))
fields_of number at [] run after first rest =
    of_both number at run (all_fields after)
    ∙ ap (λ more. filter (has_number number) (placed at (run_fields run)) ++ more) (none_of number (at + length (run_bytes run)) after rest)
    ∙ append-nil (filter (has_number number) (placed at (run_fields run)))
    ∙ ap (λ place. filter (has_number number) (placed place (run_fields run))) (let same : at ≡ at + 0 = omega arith in same)
fields_of number at (other ∷ before) run after first rest =
    let same : at + length (run_bytes other) + length (written (all_fields before)) ≡ at + length (written (run_fields other ++ all_fields before))
    = omega (arith, ap length (written_both (run_fields other) (all_fields before)), length-append (run_bytes other) (written (all_fields before))) in
    after_other number at other (all_fields (before ++ run ∷ after)) first.0
    ∙ fields_of number (at + length (run_bytes other)) before run after first.1 rest
    ∙ ap (λ place. filter (has_number number) (placed place (run_fields run))) same

written_around : (before : List Run) (run : Run) (after : List Run) →
    written (all_fields (before ++ run ∷ after)) ≡ written (all_fields before) ++ (run_bytes run ++ written (all_fields after))
written_around [] run after = written_both (run_fields run) (all_fields after)
written_around (other ∷ before) run after =
    written_both (run_fields other) (all_fields (before ++ run ∷ after))
    ∙ ap (λ bytes. run_bytes other ++ bytes) (written_around before run after)
    ∙ sym (append_assoc (run_bytes other) (written (all_fields before)) (run_bytes run ++ written (all_fields after)))
    ∙ ap (λ bytes. bytes ++ (run_bytes run ++ written (all_fields after))) (sym (written_both (run_fields other) (all_fields before)))

-- bytes in the middle of others stand where those do
pub middle_stands : (input first content last : List ℕ) (begin end : ℕ) → StandsAt input (first ++ (content ++ last)) begin end →
    StandsAt input content (begin + length first) (begin + length first + length content)
middle_stands input first content last begin end stands = record {
  front = stands.front ++ first;
  back = last ++ stands.back;
  is_whole = stands.is_whole ∙ ap (λ rest. stands.front ++ rest) (append_assoc first (content ++ last) stands.back
      ∙ ap (λ rest. first ++ rest) (append_assoc content last stands.back))
      ∙ sym (append_assoc stands.front first (content ++ (last ++ stands.back)));
  begins = omega (arith, stands.begins, length-append stands.front first);
  ends = refl;
}

-- in some fields those of a number are the fields of this run, which stands in the input
pub record IsRunIn (input : List ℕ) (number : ℕ) (fields : List PlacedField) (run : Run) : Type 0 where
  pub place : ℕ
  pub stands : StandsAt input (run_bytes run) place (place + length (run_bytes run))
  pub are : filter (has_number number) fields ≡ filter (has_number number) (placed place (run_fields run))

pub run_in : (input : List ℕ) (number begin end : ℕ) (before : List Run) (run : Run) (after : List Run) → Lack number before →
    Lack number after → StandsAt input (written (all_fields (before ++ run ∷ after))) begin end →
    IsRunIn input number (placed begin (all_fields (before ++ run ∷ after))) run
run_in input number begin end before run after first rest stands = record {
  place = place_after begin before;
  stands = middle_stands input (written (all_fields before)) (run_bytes run) (written (all_fields after)) begin end
      (subst (λ bytes. StandsAt input bytes begin end) (written_around before run after) stands);
  are = fields_of number begin before run after first rest;
}
