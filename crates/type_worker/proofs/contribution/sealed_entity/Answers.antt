use Rattle.type_worker.proofs.Drawn.{of_err, one_at_most}
use Rattle.type_worker.proofs.contribution.sealed_entity.Goals as goal

pub returns-in_err-specifics-clause-err : goal.returns-in_err-specifics-clause-err
returns-in_err-specifics-clause-err g c =
    of_err c.from_residual.result (one_at_most (g.D.Dice.place c.args.dice.now) (g.D.Dice.place c.iv-vector.new.self) c.iv-vector.ensures.moved)

pub returns-clause-err : goal.returns-clause-err
returns-clause-err g c =
    of_err c.entity_with.result (one_at_most (g.D.Dice.place c.args.dice.now) (g.D.Dice.place c.iv-vector.new.self) c.iv-vector.ensures.moved)
