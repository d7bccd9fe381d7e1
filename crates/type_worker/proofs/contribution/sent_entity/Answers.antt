use Rattle.type_worker.proofs.Drawn.{of_err, none_at_most}
use Rattle.type_worker.proofs.contribution.sent_entity.Goals as goal

pub returns-in-None-clause-err : goal.returns-in-None-clause-err
returns-in-None-clause-err g c = of_err c.plain_entity.result (none_at_most 1 (g.D.Dice.place c.args.dice.now))
