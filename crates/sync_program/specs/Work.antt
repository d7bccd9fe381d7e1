-- What a command does with the input that it reads, the cause of each status, and what an input gives.
use Rattle.std.specs.Prelude.{◌≡◌, ℕ, ◌⊎◌, List}
use Rattle.sync_program.specs.declared.status.Status.{Status}
use Rattle.sync_program.specs.declared.status.Status.TheVariants.{Ok, Usage, BadSchedule, ReadFault, WriteFault, NoMemory, TooBig, BadMessage}
use Rattle.sync_program.specs.Texts.{read_fault_line, no_memory_line, too_big_line}
use Rattle.sync_program.specs.Outside.{Reading, Writing, SourceFailed, GaveWithin, GaveInput, GaveTooMuch, Wrote, IsCutShort, Printed}

-- how many bytes an input may have, which output an input gives, and with which status and line one is refused
pub record Work : Type 1 where
  pub limit : ℕ
  pub Gives : List ℕ → List ℕ → Type 0
  pub refusal : Status
  pub Refuses : List ℕ → List ℕ → Type 0

-- an input gives one output at most, or is refused with one line at most, and not both
pub record IsDetermined (work : Work) : Type 0 where
  pub one_output : (input output other : List ℕ) → work.Gives input output → work.Gives input other → output ≡ other
  pub one_refusal : (input line other : List ℕ) → work.Refuses input line → work.Refuses input other → line ≡ other
  pub not_both : (input output line : List ℕ) → work.Gives input output → work.Refuses input line → ⊥

-- the sink took just the output of the input that the source gave
pub record IsDone {S O : Type 0} (work : Work) (r : Reading S) (w : Writing O) : Type 0 where
  pub output : List ℕ
  pub gave : GaveInput r work.limit (λ input. work.Gives input output)
  pub wrote : Wrote w output

-- the sink failed within the output of the input that the source gave
pub record IsDoneInPart {S O : Type 0} (work : Work) (r : Reading S) (w : Writing O) : Type 0 where
  pub output : List ℕ
  pub gave : GaveInput r work.limit (λ input. work.Gives input output)
  pub cut : IsCutShort w output

-- what the source gave is refused, and the line that says so was printed
pub record IsRefusalTold {S O : Type 0} (work : Work) (r : Reading S) (w : Writing O) : Type 0 where
  pub line : List ℕ
  pub gave : GaveInput r work.limit (λ input. work.Refuses input line)
  pub printed : Printed w line

-- The cause of a status, and what was printed then. A command that has begun is not refused for its words, and where
-- the source failed or gave too much, that is told, and not want of memory.
abbrev pub HasCause : {S O : Type 0} → Work → Status → Reading S → Writing O → Type 0
HasCause work Ok r w = IsDone work r w
HasCause work Usage r w = ⊥
HasCause work BadSchedule r w = (work.refusal ≡ BadSchedule) × IsRefusalTold work r w
HasCause work ReadFault r w = SourceFailed r × Printed w read_fault_line
HasCause work WriteFault r w = IsDoneInPart work r w
HasCause work NoMemory r w = GaveWithin r work.limit × Printed w no_memory_line
HasCause work TooBig r w = GaveTooMuch r work.limit × Printed w too_big_line
HasCause work BadMessage r w = (work.refusal ≡ BadMessage) × IsRefusalTold work r w

-- status 0 and just this output, unless the source or the sink failed, or memory was wanting
abbrev pub GivesOutput : {S O : Type 0} → List ℕ → Status → Reading S → Writing O → Type 0
GivesOutput output Ok r w = Wrote w output
GivesOutput output Usage r w = ⊥
GivesOutput output BadSchedule r w = ⊥
GivesOutput output ReadFault r w = SourceFailed r
GivesOutput output WriteFault r w = IsCutShort w output
GivesOutput output NoMemory r w = Unit {0}
GivesOutput output TooBig r w = ⊥
GivesOutput output BadMessage r w = ⊥

-- the status of a refusal and its line, unless the source failed, or memory was wanting
abbrev pub GivesRefusal : {S O : Type 0} → Status → List ℕ → Status → Reading S → Writing O → Type 0
GivesRefusal refusal line Ok r w = ⊥
GivesRefusal refusal line Usage r w = ⊥
GivesRefusal refusal line BadSchedule r w = (refusal ≡ BadSchedule) × Printed w line
GivesRefusal refusal line ReadFault r w = SourceFailed r
GivesRefusal refusal line WriteFault r w = ⊥
GivesRefusal refusal line NoMemory r w = Unit {0}
GivesRefusal refusal line TooBig r w = ⊥
GivesRefusal refusal line BadMessage r w = (refusal ≡ BadMessage) × Printed w line

-- an input that is too long is refused as such, unless the source failed, or memory was wanting
abbrev pub RefusesLength : {S : Type 0} → Status → Reading S → Type 0
RefusesLength Ok r = ⊥
RefusesLength Usage r = ⊥
RefusesLength BadSchedule r = ⊥
RefusesLength ReadFault r = SourceFailed r
RefusesLength WriteFault r = ⊥
RefusesLength NoMemory r = Unit {0}
RefusesLength TooBig r = Unit {0}
RefusesLength BadMessage r = ⊥

-- the sink took an output, or failed within it
abbrev pub IsWritten : {O : Type 0} → Status → Writing O → List ℕ → Type 0
IsWritten Ok w output = Wrote w output
IsWritten Usage w output = ⊥
IsWritten BadSchedule w output = ⊥
IsWritten ReadFault w output = ⊥
IsWritten WriteFault w output = IsCutShort w output
IsWritten NoMemory w output = ⊥
IsWritten TooBig w output = ⊥
IsWritten BadMessage w output = ⊥

-- all went well, or memory was wanting
abbrev pub IsOkOrNoMemory : Status → Type 0
IsOkOrNoMemory status = (status ≡ Ok) ⊎ (status ≡ NoMemory)
