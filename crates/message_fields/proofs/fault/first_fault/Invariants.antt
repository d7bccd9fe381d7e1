use Rattle.std.proofs.Common.{◌≡◌, drop}
use Rattle.std.specs.List.{fold}
use Rattle.message_fields.specs.Faults.{first_of, first_fault}
use Rattle.message_fields.proofs.fault.first_fault.Given as goal

abbrev pub invariant-loop-fault : goal.invariant-loop-fault
invariant-loop-fault l = fold first_of l.told (drop l.fault-index l.faults) ≡ first_fault l.fn.faults
