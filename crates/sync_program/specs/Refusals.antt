-- Why the program refuses, before it has said so.
use Rattle.std.specs.Prelude.{◌≡◌, ◌⊎◌, ℕ}
use Rattle.outer_edge.specs.declared.source.ReadEnd.{ReadEnd}
use Rattle.outer_edge.specs.declared.source.ReadEnd.TheVariants.{ReadFault as EndFault, TooBig as EndBig, NoMemory as EndMemory}
use Rattle.message_fields.specs.declared.fault.MessageFault.{MessageFault}
use Rattle.message_fields.specs.declared.fault.MessageReason.{MessageReason}
use Rattle.message_fields.specs.declared.fault.MessageReason.TheVariants.{Wire, Missing, WrongKind, Range, BadToken, NoMemory as ReasonMemory}
use Rattle.schedule_text.specs.declared.fault.ParseFault.{ParseFault}
use Rattle.schedule_text.specs.declared.fault.ParseFault.TheVariants.{BadLine, NoMemory as FaultMemory}
use Rattle.sync_program.specs.declared.refusal.Refusal.{Refusal}
use Rattle.sync_program.specs.declared.refusal.Refusal.TheVariants.{UnknownWords, BadSchedule, BadMessage, ReadFault, NoMemory, TooBig}
use Rattle.sync_program.specs.declared.status.Status.{Status}
use Rattle.sync_program.specs.declared.status.Status.TheVariants.{Usage, BadSchedule as Schedule, ReadFault as Read, NoMemory as Memory, TooBig as Big, BadMessage as Message}
use Rattle.sync_program.specs.Texts.{unknown_words_line, bad_schedule_line, bad_message_line, read_fault_line, no_memory_line, too_big_line}
use Rattle.sync_program.specs.Outside.{Reading, Writing, SourceFailed, GaveWithin, GaveInput, GaveTooMuch, Printed}
use Rattle.sync_program.specs.Work.{Work}

-- A refusal has its status, and its line was printed. Memory may be wanting for the line of a bad schedule or of a bad
-- message.
abbrev pub IsAnswered : {O : Type 0} → Refusal → Status → Writing O → Type 0
IsAnswered UnknownWords status w = (status ≡ Usage) × Printed w unknown_words_line
IsAnswered (BadSchedule line reason) status w =
    ((status ≡ Schedule) × Printed w (bad_schedule_line line reason)) ⊎ ((status ≡ Memory) × Printed w no_memory_line)
IsAnswered (BadMessage fault) status w =
    ((status ≡ Message) × Printed w (bad_message_line fault)) ⊎ ((status ≡ Memory) × Printed w no_memory_line)
IsAnswered ReadFault status w = (status ≡ Read) × Printed w read_fault_line
IsAnswered NoMemory status w = (status ≡ Memory) × Printed w no_memory_line
IsAnswered TooBig status w = (status ≡ Big) × Printed w too_big_line

-- an input was refused because of its cause
abbrev pub IsRefusalOf : {S : Type 0} → Work → Refusal → Reading S → Type 0
IsRefusalOf work UnknownWords r = ⊥
IsRefusalOf work (BadSchedule line reason) r =
    (work.refusal ≡ Schedule) × GaveInput r work.limit (λ input. work.Refuses input (bad_schedule_line line reason))
IsRefusalOf work (BadMessage fault) r =
    (work.refusal ≡ Message) × GaveInput r work.limit (λ input. work.Refuses input (bad_message_line fault))
IsRefusalOf work ReadFault r = SourceFailed r
IsRefusalOf work NoMemory r = GaveWithin r work.limit
IsRefusalOf work TooBig r = GaveTooMuch r work.limit

-- the refusal of a reading that ended so
abbrev pub of_end : ReadEnd → Refusal
of_end EndFault = ReadFault
of_end (EndBig count) = TooBig
of_end EndMemory = NoMemory

-- the refusal of a text at a fault
abbrev pub of_fault : ParseFault → Refusal
of_fault (BadLine line reason) = BadSchedule line reason
of_fault FaultMemory = NoMemory

-- the refusal of bytes that are no message, for a reason
abbrev pub for_reason : ℕ → MessageReason → Refusal
for_reason at ReasonMemory = NoMemory
for_reason at (Wire reason) = BadMessage (record { at = at; reason = Wire reason })
for_reason at (Missing field) = BadMessage (record { at = at; reason = Missing field })
for_reason at (WrongKind field) = BadMessage (record { at = at; reason = WrongKind field })
for_reason at (Range field) = BadMessage (record { at = at; reason = Range field })
for_reason at (BadToken len) = BadMessage (record { at = at; reason = BadToken len })

-- the refusal of bytes at a fault
abbrev pub of_message_fault : MessageFault → Refusal
of_message_fault fault = for_reason fault.at fault.reason
