-- What the cause of a status says where the source tells its input.
use Rattle.std.proofs.Common.{◌≡◌, ℕ, ◌<◌, ◌≤◌, List, length, refl, sym, subst, inl, inr, arith}
use Rattle.std.specs.Prelude.{Option, Some, IfSome}
use Rattle.outer_edge.specs.Source.{IsAllOf}
use Rattle.sync_program.specs.declared.refusal.Refusal.{Refusal}
use Rattle.sync_program.specs.declared.refusal.Refusal.TheVariants as refusals
use Rattle.sync_program.specs.declared.status.Status.{Status}
use Rattle.sync_program.specs.declared.status.Status.TheVariants.{Ok, Usage, BadSchedule, ReadFault, WriteFault, NoMemory, TooBig, BadMessage}
use Rattle.sync_program.specs.Outside.{Reading, Writing, SourceFailed, SinkFailed, GaveText, GaveWithin, GaveInput, GaveTooMuch, TellsInput, TellsTooMuch, Wrote, IsCutShort, Printed}
use Rattle.sync_program.specs.Texts.{bad_schedule_line, bad_message_line}
use Rattle.sync_program.specs.Refusals.{IsAnswered, IsRefusalOf}
use Rattle.sync_program.specs.Work.{Work, IsDetermined, HasCause, GivesOutput, GivesRefusal, RefusesLength, IsOkOrNoMemory}

-- what the source gave is what it told
is_told : {S : Type 0} (r : Reading S) (input told : List ℕ) → GaveText r input → r.left r.before ≡ Some told → input ≡ told
is_told r input told gave tells =
    let P : Option (List ℕ) → Type 0 = λ left. IsAllOf left input in subst P tells gave.is_all

-- what holds of what the source gave holds of what it told
told_holds : {S : Type 0} (r : Reading S) (limit : ℕ) (Holds : List ℕ → Type 0) (told : List ℕ)
    → GaveInput r limit Holds → r.left r.before ≡ Some told → Holds told
told_holds r limit Holds told gave tells = subst Holds (is_told r gave.input told gave.gave tells) gave.holds

-- the source gave an input within the limit, and did not fail
pub input_within : {S : Type 0} (r : Reading S) (limit : ℕ) (Holds : List ℕ → Type 0) → GaveInput r limit Holds → GaveWithin r limit
input_within r limit Holds gave = record {
  gave = record { piece = gave.input; gave = gave.gave.gave; at_most = gave.within };
  no_fault = gave.gave.no_fault;
}

-- a refusal with its cause, once it was answered, is the cause of its status
pub cause_of_refusal : (work : Work) {S O : Type 0} (refusal : Refusal) (status : Status) (r : Reading S) (w : Writing O)
    → IsRefusalOf work refusal r → IsAnswered refusal status w → HasCause work status r w
cause_of_refusal work refusals.UnknownWords status r w is answered = absurd is
cause_of_refusal work (refusals.BadSchedule line reason) status r w is answered =
    elim answered [
      | inl told ↦
          subst (λ (status : Status). HasCause work status r w) (sym told.0)
          (is.0, record { line = bad_schedule_line line reason; gave = is.1; printed = told.1 })
      | inr lacking ↦
          subst (λ (status : Status). HasCause work status r w) (sym lacking.0)
          (input_within r work.limit (λ input. work.Refuses input (bad_schedule_line line reason)) is.1, lacking.1)
    ]
cause_of_refusal work (refusals.BadMessage fault) status r w is answered =
    elim answered [
      | inl told ↦
          subst (λ (status : Status). HasCause work status r w) (sym told.0)
          (is.0, record { line = bad_message_line fault; gave = is.1; printed = told.1 })
      | inr lacking ↦
          subst (λ (status : Status). HasCause work status r w) (sym lacking.0)
          (input_within r work.limit (λ input. work.Refuses input (bad_message_line fault)) is.1, lacking.1)
    ]
cause_of_refusal work refusals.ReadFault status r w is answered =
    subst (λ (status : Status). HasCause work status r w) (sym answered.0) (is, answered.1)
cause_of_refusal work refusals.NoMemory status r w is answered =
    subst (λ (status : Status). HasCause work status r w) (sym answered.0) (is, answered.1)
cause_of_refusal work refusals.TooBig status r w is answered =
    subst (λ (status : Status). HasCause work status r w) (sym answered.0) (is, answered.1)

-- what is told is no longer than what the source gave
told_within : {S : Type 0} (r : Reading S) (limit : ℕ) (Holds : List ℕ → Type 0) (told : List ℕ)
    → GaveInput r limit Holds → r.left r.before ≡ Some told → length told ≤ limit
told_within r limit Holds told gave tells =
    let P : List ℕ → Type 0 = λ input. length input ≤ limit in subst P (is_told r gave.input told gave.gave tells) gave.within

-- what is told is longer than the limit
told_longer : {S : Type 0} (r : Reading S) (limit : ℕ) (told : List ℕ) → GaveTooMuch r limit → r.left r.before ≡ Some told
    → limit < length told
told_longer r limit told gave tells =
    let P : Option (List ℕ) → Type 0 = λ left. IfSome left (λ all. limit < length all) in subst P tells gave.was_longer

-- it cannot be both
not_both_lengths : (limit size : ℕ) → limit < size → size ≤ limit → ⊥
not_both_lengths limit size longer within = omega arith

-- the output of a told input is the one that is written
pub gives_from_cause : (work : Work) → IsDetermined work → {S O : Type 0} (status : Status) (r : Reading S) (w : Writing O)
    (output : List ℕ) → HasCause work status r w → TellsInput (r.left r.before) work.limit (λ input. work.Gives input output)
    → GivesOutput output status r w
gives_from_cause work one Ok r w output cause tells =
    subst (λ (text : List ℕ). Wrote w text) (one.one_output tells.input cause.output output
    (told_holds r work.limit (λ input. work.Gives input cause.output) tells.input cause.gave tells.told) tells.holds) cause.wrote
gives_from_cause work one Usage r w output cause tells = cause
gives_from_cause work one BadSchedule r w output cause tells =
    one.not_both tells.input output cause.1.line tells.holds
    (told_holds r work.limit (λ input. work.Refuses input cause.1.line) tells.input cause.1.gave tells.told)
gives_from_cause work one ReadFault r w output cause tells = cause.0
gives_from_cause work one WriteFault r w output cause tells =
    subst (λ (text : List ℕ). IsCutShort w text) (one.one_output tells.input cause.output output
    (told_holds r work.limit (λ input. work.Gives input cause.output) tells.input cause.gave tells.told) tells.holds) cause.cut
gives_from_cause work one NoMemory r w output cause tells = tt
gives_from_cause work one TooBig r w output cause tells =
    not_both_lengths work.limit (length tells.input) (told_longer r work.limit tells.input cause.0 tells.told) tells.within
gives_from_cause work one BadMessage r w output cause tells =
    one.not_both tells.input output cause.1.line tells.holds
    (told_holds r work.limit (λ input. work.Refuses input cause.1.line) tells.input cause.1.gave tells.told)

-- a told input that is refused is refused with that line
pub refuses_from_cause : (work : Work) → IsDetermined work → {S O : Type 0} (status : Status) (r : Reading S) (w : Writing O)
    (line : List ℕ) → HasCause work status r w → TellsInput (r.left r.before) work.limit (λ input. work.Refuses input line)
    → GivesRefusal work.refusal line status r w
refuses_from_cause work one Ok r w line cause tells =
    one.not_both tells.input cause.output line
    (told_holds r work.limit (λ input. work.Gives input cause.output) tells.input cause.gave tells.told) tells.holds
refuses_from_cause work one Usage r w line cause tells = cause
refuses_from_cause work one BadSchedule r w line cause tells = (
  cause.0,
  subst (λ (text : List ℕ). Printed w text) (one.one_refusal tells.input cause.1.line line
      (told_holds r work.limit (λ input. work.Refuses input cause.1.line) tells.input cause.1.gave tells.told) tells.holds) cause.1.printed,
)
refuses_from_cause work one ReadFault r w line cause tells = cause.0
refuses_from_cause work one WriteFault r w line cause tells =
    one.not_both tells.input cause.output line
    (told_holds r work.limit (λ input. work.Gives input cause.output) tells.input cause.gave tells.told) tells.holds
refuses_from_cause work one NoMemory r w line cause tells = tt
refuses_from_cause work one TooBig r w line cause tells =
    not_both_lengths work.limit (length tells.input) (told_longer r work.limit tells.input cause.0 tells.told) tells.within
refuses_from_cause work one BadMessage r w line cause tells = (
  cause.0,
  subst (λ (text : List ℕ). Printed w text) (one.one_refusal tells.input cause.1.line line
      (told_holds r work.limit (λ input. work.Refuses input cause.1.line) tells.input cause.1.gave tells.told) tells.holds) cause.1.printed,
)

-- an input within the limit is not one that is told to be longer
longer_is_no_input : {S : Type 0} (r : Reading S) (limit : ℕ) (Holds : List ℕ → Type 0)
    → GaveInput r limit Holds → TellsTooMuch (r.left r.before) limit → ⊥
longer_is_no_input r limit Holds gave tells =
    not_both_lengths limit (length tells.input) tells.is_longer (told_within r limit Holds tells.input gave tells.told)

-- a told input that is too long is refused as such
pub length_from_cause : (work : Work) {S O : Type 0} (status : Status) (r : Reading S) (w : Writing O)
    → HasCause work status r w → TellsTooMuch (r.left r.before) work.limit → RefusesLength status r
length_from_cause work Ok r w cause tells = longer_is_no_input r work.limit (λ input. work.Gives input cause.output) cause.gave tells
length_from_cause work Usage r w cause tells = cause
length_from_cause work BadSchedule r w cause tells =
    longer_is_no_input r work.limit (λ input. work.Refuses input cause.1.line) cause.1.gave tells
length_from_cause work ReadFault r w cause tells = cause.0
length_from_cause work WriteFault r w cause tells =
    longer_is_no_input r work.limit (λ input. work.Gives input cause.output) cause.gave tells
length_from_cause work NoMemory r w cause tells = tt
length_from_cause work TooBig r w cause tells = tt
length_from_cause work BadMessage r w cause tells =
    longer_is_no_input r work.limit (λ input. work.Refuses input cause.1.line) cause.1.gave tells

-- where nothing outside failed, the output is written, or memory was wanting
pub completes_from_gives : {S O : Type 0} (status : Status) (r : Reading S) (w : Writing O) (output : List ℕ)
    → GivesOutput output status r w → (SourceFailed r → ⊥) → (SinkFailed w → ⊥) → IsOkOrNoMemory status
completes_from_gives Ok r w output gives no_source no_sink = inl refl
completes_from_gives Usage r w output gives no_source no_sink = absurd gives
completes_from_gives BadSchedule r w output gives no_source no_sink = absurd gives
completes_from_gives ReadFault r w output gives no_source no_sink = absurd (no_source gives)
completes_from_gives WriteFault r w output gives no_source no_sink = absurd (no_sink gives.failed)
completes_from_gives NoMemory r w output gives no_source no_sink = inr refl
completes_from_gives TooBig r w output gives no_source no_sink = absurd gives
completes_from_gives BadMessage r w output gives no_source no_sink = absurd gives
