use Rattle.std.proofs.Common.{length}
use Rattle.schedule_text.proofs.ScriptReading.{IsScriptRead}
use Rattle.schedule_text.proofs.script_parse.script_of.Given as goal

abbrev pub invariant-loop-rest : goal.invariant-loop-rest
invariant-loop-rest l = IsScriptRead l.bytes l.script l.rest

abbrev pub decreases-loop-rest : goal.decreases-loop-rest
decreases-loop-rest l = length l.rest
