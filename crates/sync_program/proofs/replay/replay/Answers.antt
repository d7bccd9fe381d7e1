use Rattle.sync_program.specs.Replay.{replaying}
use Rattle.sync_program.proofs.Causes.{cause_of_refusal}
use Rattle.sync_program.proofs.replay.replay.Goals as goal

pub returns-in-Err-clause-cause : goal.returns-in-Err-clause-cause
returns-in-Err-clause-cause g c =
    cause_of_refusal replaying c.in-Err.refusal c.refuse.result _ _ c.in-Err.ensures.read c.refuse.ensures.answered
