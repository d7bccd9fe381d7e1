use Rattle.std.proofs.Common.{length}
use Rattle.schedule_text.proofs.Refusing.{IsRead}
use Rattle.schedule_text.proofs.parse.schedule_of.Given as goal

abbrev pub invariant-loop-rest : goal.invariant-loop-rest
invariant-loop-rest l = IsRead l.bytes l.schedule l.rest

abbrev pub decreases-loop-rest : goal.decreases-loop-rest
decreases-loop-rest l = length l.rest
