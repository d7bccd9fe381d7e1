use Rattle.sync_program.specs.Wire.{looking}
use Rattle.sync_program.proofs.Causes.{cause_of_refusal}
use Rattle.sync_program.proofs.wire.look.Goals as goal

pub returns-in-Err-clause-cause : goal.returns-in-Err-clause-cause
returns-in-Err-clause-cause g c =
    cause_of_refusal (looking c.args.command) c.in-Err.refusal c.refuse.result _ _ c.in-Err.ensures.looked c.refuse.ensures.answered
