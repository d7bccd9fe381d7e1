use Rattle.std.proofs.Common.{length, ap}
use Rattle.type_worker.specs.Batches.{Held}
use Rattle.type_worker.proofs.Drawn.{of_err, none_at_most}
use Rattle.type_worker.proofs.LockLemmas.{sent_have}
use Rattle.type_worker.proofs.worker.Worker.contribution.Goals as goal

pub returns-in_err-name-clause-err : goal.returns-in_err-name-clause-err
returns-in_err-name-clause-err g c = of_err c.from_residual.result (none_at_most (length c.args.offers.now) (g.D.Dice.place c.args.dice.now))

pub sent_entities-requires : goal.sent_entities-requires
sent_entities-requires g c =
    sent_have c.args.self.now c.self.inside.kind c.args.bag.now c.args.seals c.is_held_back.result c.in_ok-name.name c.args.offers.now
    c.as_slice.result.now c.as_slice-2.result.now (ap (λ (held : Held). held.kind) c.self.view_is) c.as_slice.ensures c.as_slice-2.ensures
    c.in_ok-name.ensures.has c.is_held_back.ensures c.if-is_held_back.false
