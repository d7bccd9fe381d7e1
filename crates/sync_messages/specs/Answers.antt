-- A server's answers to the entries of a commit, as messages.
use Rattle.std.specs.Prelude.{◌≡◌, ℕ, ◌==◌, if◌then◌else◌, List, [], ◌∷◌, map, Option, Some, None}
use Rattle.std.specs.Int.{w64, cast_signed}
use Rattle.message_fields.specs.declared.field.Known.{Known}
use Rattle.message_fields.specs.declared.field.Part.{Part}
use Rattle.message_fields.specs.declared.message.Message.{Message}
use Rattle.message_fields.specs.declared.fault.MessageFault.{MessageFault}
use Rattle.message_fields.specs.declared.fault.MessageReason.TheVariants.{Range}
use Rattle.message_fields.specs.Readings.{AreReadings}
use Rattle.message_fields.specs.Tables.{bytes, varint}
use Rattle.message_fields.specs.Lookups.{bytes_of, number_or}
use Rattle.message_fields.specs.Faults.{first_fault, wire_fault, wrong_kind, missing, fault_of}
use Rattle.sync_messages.specs.declared.message.EntryAnswer.{EntryAnswer}
use Rattle.sync_messages.specs.declared.message.Outcome.{Outcome}
use Rattle.sync_messages.specs.declared.message.Outcome.TheVariants.{Success, Conflict, Retry, Invalid, OverQuota, Transient}

-- the fields of an answer: the number of its outcome, id, and version
abbrev pub answer_fields : List Known
answer_fields = varint 2 ∷ bytes 3 ∷ varint 6 ∷ []

-- the number of an outcome
abbrev pub outcome_number : Outcome → ℕ
outcome_number Success = 1
outcome_number Conflict = 2
outcome_number Retry = 3
outcome_number Invalid = 4
outcome_number OverQuota = 5
outcome_number Transient = 6

-- the outcome of a number, if it is that of one
abbrev pub outcome_of_number : ℕ → Option Outcome
outcome_of_number number =
    if number == 1 then Some Success else if number == 2 then Some Conflict else if number == 3 then Some Retry
    else if number == 4 then Some Invalid else if number == 5 then Some OverQuota
    else if number == 6 then Some Transient else None

-- an outcome, if there is one; else, which is a fault, the last of them
abbrev pub outcome_or_transient : Option Outcome → Outcome
outcome_or_transient None = Transient
outcome_or_transient (Some outcome) = outcome

-- the outcome has a number that is none of one
abbrev pub outcome_fault : Message → Option MessageFault
outcome_fault answer = elim (outcome_of_number (number_or 6 2 answer.fields)) as (λ outcome. Option MessageFault) [
  | None ↦ fault_of 2 (Range 2) answer
  | Some outcome ↦ None
]

-- what is at fault in an answer
abbrev pub answer_fault : Message → Option MessageFault
answer_fault answer =
    first_fault (wire_fault answer ∷ wrong_kind answer_fields answer ∷ outcome_fault answer ∷ missing 2 answer ∷ [])

-- what is at fault in some answers
abbrev pub answers_fault : List Message → Option MessageFault
answers_fault answers = first_fault (map answer_fault answers)

-- what an answer says
abbrev pub answer_of : List ℕ → Message → EntryAnswer
answer_of input answer = record {
  outcome = outcome_or_transient (outcome_of_number (number_or 6 2 answer.fields));
  id = bytes_of input 3 answer.fields;
  version = cast_signed w64 (number_or 0 6 answer.fields);
}

-- the answers that stand in these parts, and the first fault in them
pub record AreAnswersIn (input : List ℕ) (parts : List Part) (fault : Option MessageFault) (answers : List EntryAnswer) : Type 0 where
  pub messages : List Message
  pub are_readings : AreReadings answer_fields input parts messages
  pub is_fault : fault ≡ answers_fault messages
  pub are_answers : answers ≡ map (answer_of input) messages
