use Rattle.std.proofs.lemmas.Result.{on_ok_weaker}
use Rattle.replay_world.proofs.LawfulSteps.{steps_lawfully}
use Rattle.replay_world.proofs.world.World.step.Goals as goal

pub returns-clause-lawful : goal.returns-clause-lawful
returns-clause-lawful c =
    on_ok_weaker c.advance.result
    (λ ok plan is. steps_lawfully plan c.args.event.now c.args.self.now c.advance.new.self c.hashed_is_a_setting.ensures is ok) c.advance.ensures.ok
