-- What the bytes of answers say.
use Rattle.std.proofs.Common.{◌≡◌, ℕ, ◌^◌, ◌<◌, List, [], ◌∷◌, ◌++◌, Option, Some, None, length, map, refl, sym, ap, subst, ◌∙◌, arith}
use Rattle.std.specs.Int.{w64, cast_unsigned}
use Rattle.std.specs.List.{AllByRecursion}
use Rattle.std.proofs.lemmas.List.{append-nil, length-append}
use Rattle.wire_format.specs.Fields.{MAX_NESTING, MayFill}
use Rattle.wire_format.specs.Spellings.{header_of, varint_field, group_field}
use Rattle.message_fields.specs.declared.field.Part.{Part}
use Rattle.message_fields.specs.declared.message.Message.{Message}
use Rattle.message_fields.specs.declared.fault.MessageFault.{MessageFault}
use Rattle.message_fields.specs.declared.fault.MessageReason.TheVariants.{Range}
use Rattle.message_fields.specs.Written.{varint_unless_zero, bytes_unless_empty}
use Rattle.message_fields.specs.Lookups.{number_or}
use Rattle.message_fields.specs.Readings.{IsReading}
use Rattle.message_fields.specs.Faults.{wire_fault, wrong_kind, missing, fault_of}
use Rattle.message_fields.proofs.WrittenMessages.{written, StandsAt}
use Rattle.sync_messages.specs.declared.message.EntryAnswer.{EntryAnswer}
use Rattle.sync_messages.specs.declared.message.Outcome.{Outcome}
use Rattle.sync_messages.specs.declared.message.Outcome.TheVariants.{Success, Conflict, Retry, Invalid, OverQuota, Transient}
use Rattle.sync_messages.specs.Answers.{answer_fields, outcome_number, outcome_of_number, outcome_or_transient, outcome_fault, answer_fault, answer_of, AreAnswersIn}
use Rattle.sync_messages.specs.Spellings.{answer_bytes, answers_bytes}
use Rattle.sync_messages.specs.Laws.{IsAnswer}
use Rattle.sync_messages.proofs.FieldRuns.{Run, numbers, contents, all_fields, pieces_are, IsSoundRun, runs_sound, HasRun, runs_message, runs_read, right_kinds, IsRunIn, run_in}
use Rattle.sync_messages.proofs.RunReadings.{unless_empty, unless_zero, bytes_are, varint_is, values_fit, found_number, text_is, number_is, number_there, ArePartsFor}
use Rattle.sync_messages.proofs.ListsRead.{no_first, IsReadAs, list_read, all_said}
use Rattle.sync_messages.proofs.EntitiesRead.{version_fits, version_said}
use Rattle.sync_messages.proofs.GroupsRead.{may_fill, groups_bytes}

-- the number of an outcome tells it
outcome_is : (outcome : Outcome) → Some outcome ≡ outcome_of_number (outcome_number outcome)
outcome_is Success = refl
outcome_is Conflict = refl
outcome_is Retry = refl
outcome_is Invalid = refl
outcome_is OverQuota = refl
outcome_is Transient = refl

outcome_small : (outcome : Outcome) → outcome_number outcome < 2 ^ 64
outcome_small Success = omega arith
outcome_small Conflict = omega arith
outcome_small Retry = omega arith
outcome_small Invalid = omega arith
outcome_small OverQuota = omega arith
outcome_small Transient = omega arith

-- the fields of an answer, as they are written
abbrev outcome_run : EntryAnswer → Run
outcome_run answer = numbers 2 (outcome_number answer.outcome ∷ [])

abbrev id_run : EntryAnswer → Run
id_run answer = contents 3 (unless_empty answer.id)

abbrev version_run : EntryAnswer → Run
version_run answer = numbers 6 (unless_zero (cast_unsigned w64 answer.version))

abbrev answer_runs : EntryAnswer → List Run
answer_runs answer = outcome_run answer ∷ id_run answer ∷ version_run answer ∷ []

answer_is_written : (answer : EntryAnswer) → answer_bytes answer ≡ written (all_fields (answer_runs answer))
answer_is_written answer =
    pieces_are
    (varint_field 2 (outcome_number answer.outcome) ∷ bytes_unless_empty 3 answer.id ∷ varint_unless_zero 6 (cast_unsigned w64 answer.version) ∷ [])
    (answer_runs answer) (
      sym (append-nil (varint_field 2 (outcome_number answer.outcome))),
      (
        bytes_are 3 answer.id,
        (varint_is 6 (cast_unsigned w64 answer.version), tt),
      ),
    )

answer_sound : (answer : EntryAnswer) → IsAnswer answer → AllByRecursion IsSoundRun (answer_runs answer)
answer_sound answer is = (
  ((omega arith, omega arith), (outcome_small answer.outcome, tt)),
  (
    (omega arith, omega arith),
    (((omega arith, omega arith), values_fit (cast_unsigned w64 answer.version) (version_fits answer.version is)), tt),
  ),
)

answer_has : (answer : EntryAnswer) → AllByRecursion (HasRun answer_fields) (answer_runs answer)
answer_has answer = (λ at value. (refl, refl), (λ at text. (refl, refl), (λ at value. (refl, refl), tt)))

answer_same : (a b : EntryAnswer) → a.outcome ≡ b.outcome → a.id ≡ b.id → a.version ≡ b.version → a ≡ b
answer_same a b outcomes ids versions =
    ap (λ outcome. record a { outcome = outcome }) outcomes ∙ ap (λ id. record b { id = id; version = a.version }) ids
    ∙ ap (λ version. record b { version = version }) versions

-- an answer is read of the part in which its bytes stand
answer_read : (input : List ℕ) (answer : EntryAnswer) (part : Part) → length input < 2 ^ 64 → IsAnswer answer →
    StandsAt input (answer_bytes answer) part.begin part.end →
    IsReadAs (λ part message. IsReading answer_fields input (part ∷ []) message) answer_fault (λ message. answer ≡ answer_of input message) part
answer_read input answer part small is whole =
    let runs : List Run = answer_runs answer in
    let message : Message = runs_message part.begin part.end runs in
    let stands = subst (λ bytes. StandsAt input bytes part.begin part.end) (answer_is_written answer) whole in
    let outcome : IsRunIn input 2 message.fields (outcome_run answer)
    = run_in input 2 part.begin part.end [] (outcome_run answer) (id_run answer ∷ version_run answer ∷ []) tt (refl, (refl, tt)) stands in
    let id : IsRunIn input 3 message.fields (id_run answer)
    = run_in input 3 part.begin part.end (outcome_run answer ∷ []) (id_run answer) (version_run answer ∷ []) (refl, tt) (refl, tt) stands in
    let version : IsRunIn input 6 message.fields (version_run answer)
    = run_in input 6 part.begin part.end (outcome_run answer ∷ id_run answer ∷ []) (version_run answer) [] (refl, (refl, tt)) tt stands in
    let told : Some answer.outcome ≡ outcome_of_number (number_or 6 2 message.fields)
    = outcome_is answer.outcome
    ∙ ap (λ found. outcome_of_number (elim found as (λ value. ℕ) [ None ↦ 6 | Some value ↦ value ]))
    (sym (found_number input 2 message.fields (outcome_number answer.outcome) outcome)) in
    record {
      thing = message;
      reads = runs_read answer_fields input part.begin part.end runs small (answer_sound answer is) (answer_has answer) stands;
      no_fault = no_first (wire_fault message ∷ wrong_kind answer_fields message ∷ outcome_fault message ∷ missing 2 message ∷ []) (
        refl,
        (
          right_kinds answer_fields part.begin part.end runs (answer_has answer),
          (
            ap (λ found. elim found as (λ outcome. Option MessageFault) [ None ↦ fault_of 2 (Range 2) message | Some outcome ↦ None ]) told,
            (number_there input 2 message (outcome_number answer.outcome) outcome, tt),
          ),
        ),
      );
      says = answer_same answer (answer_of input message) (ap outcome_or_transient told) (text_is input 3 message.fields answer.id id)
          (version_said answer.version (number_or 0 6 message.fields) is
          (number_is input 6 message.fields (cast_unsigned w64 answer.version) version));
    }

-- some answers are read
pub answers_read : (input : List ℕ) (answers : List EntryAnswer) (found : List Part) → length input < 2 ^ 64 → AllByRecursion IsAnswer answers →
    ArePartsFor input found (map answer_bytes answers) → AreAnswersIn input found None answers
answers_read input answers found small are parts =
    let all = list_read input (λ part message. IsReading answer_fields input (part ∷ []) message) answer_fault
    (λ (answer : EntryAnswer) message. answer ≡ answer_of input message) answer_bytes IsAnswer
    (λ answer part is stands. answer_read input answer part small is stands) answers parts.parts are parts.stand in
    subst (λ places. AreAnswersIn input places None answers) (sym parts.are) (record {
      messages = all.things;
      are_readings = all.are_read;
      is_fault = no_first (map answer_fault all.things) all.no_faults;
      are_answers = all_said (answer_of input) answers all.things all.say;
    })

-- answers are written as groups
pub answers_are_groups : (answers : List EntryAnswer) → answers_bytes answers ≡ groups_bytes 1 (map answer_bytes answers)
answers_are_groups [] = refl
answers_are_groups (answer ∷ answers) = ap (λ rest. group_field 1 (answer_bytes answer) ++ rest) (answers_are_groups answers)

-- they may stand in groups
pub answers_fill : (answers : List EntryAnswer) → AllByRecursion IsAnswer answers → length (answers_bytes answers) < 2 ^ 64 →
    AllByRecursion (MayFill MAX_NESTING) (map answer_bytes answers)
answers_fill [] are small = tt
answers_fill (answer ∷ answers) are small =
    let content : List ℕ = answer_bytes answer in
    let long = length-append (group_field 1 content) (answers_bytes answers) in
    let inner = length-append (header_of 1 3 ++ content) (header_of 1 4) in
    let front = length-append (header_of 1 3) content in
    (answer_fills answer are.0 (omega (arith, small, long, inner, front)), answers_fill answers are.1 (omega (arith, small, long)))
  where
    answer_fills : (answer : EntryAnswer) → IsAnswer answer → length (answer_bytes answer) < 2 ^ 64 → MayFill MAX_NESTING (answer_bytes answer)
    answer_fills answer is small =
        subst (MayFill MAX_NESTING) (sym (answer_is_written answer))
        (may_fill (all_fields (answer_runs answer)) (runs_sound (answer_runs answer) (answer_sound answer is))
        (omega (arith, small, ap length (answer_is_written answer))))
