-- The numbers that the program ends with.
use Rattle.std.specs.Prelude.{ℕ}
use Rattle.sync_program.specs.declared.status.Status.{Status}
use Rattle.sync_program.specs.declared.status.Status.TheVariants.{Ok, Usage, BadSchedule, ReadFault, WriteFault, NoMemory, TooBig, BadMessage}

-- the exit status of the process
abbrev pub code_of : Status → ℕ
code_of Ok = 0
code_of Usage = 1
code_of BadSchedule = 2
code_of ReadFault = 3
code_of WriteFault = 4
code_of NoMemory = 5
code_of TooBig = 8
code_of BadMessage = 12
