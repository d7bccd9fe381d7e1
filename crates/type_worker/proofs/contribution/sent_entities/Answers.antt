use Rattle.std.proofs.Common.{List, [], ◌∷◌, ◌++◌, refl, sym, subst}
use Rattle.sync_messages.specs.declared.message.Entity.{Entity}
use Rattle.type_worker.proofs.Drawn.{of_err}
use Rattle.type_worker.proofs.SentLemmas.{SentSoFar, none_sent, sent_more, all_sent, drawn_so_far, drawn_with_next, have_left}
use Rattle.type_worker.proofs.contribution.sent_entities.Goals as goal

pub loop-offer-init : goal.loop-offer-init
loop-offer-init g c = record {
  so_far = subst
      (λ (entities : List Entity). SentSoFar c.args.bag.now c.args.kind c.args.name.now c.args.offers.now c.args.offers.now
      (g.D.Dice.place c.args.dice.now) (g.D.Dice.place c.args.dice.now) entities)
      (sym c.new-entities.ensures) (none_sent c.args.bag.now c.args.kind c.args.name.now c.args.offers.now (g.D.Dice.place c.args.dice.now));
  have = c.requires;
}

pub returns-in_err-sent_entity-clause-err : goal.returns-in_err-sent_entity-clause-err
returns-in_err-sent_entity-clause-err g c =
    of_err c.from_residual.result
    (drawn_with_next c.args.bag.now c.args.kind c.args.name.now c.args.offers.now c.loop-offer.offer-index c.offer-item.result
    (g.D.Dice.place c.args.dice.now) (g.D.Dice.place c.loop-offer.dice) (g.D.Dice.place c.sent_entity.new.dice) c.loop-offer.entities
    c.loop-offer-test.true c.offer-item.is c.loop-offer.invariant.so_far c.in_err-sent_entity.ensures.err)

pub returns-in_err-push-clause-err : goal.returns-in_err-push-clause-err
returns-in_err-push-clause-err g c =
    of_err c.from_residual-in_err-push.result
    (drawn_so_far c.args.bag.now c.args.kind c.args.name.now c.args.offers.now _ (g.D.Dice.place c.args.dice.now) (g.D.Dice.place c.sent_entity.new.dice)
    (c.loop-offer.entities ++ c.in_ok-sent_entity.field-0 ∷ [])
    (sent_more c.args.bag.now c.args.kind c.args.name.now c.args.offers.now c.loop-offer.offer-index c.offer-item.result (g.D.Dice.place c.args.dice.now)
    (g.D.Dice.place c.loop-offer.dice) (g.D.Dice.place c.sent_entity.new.dice) c.loop-offer.entities
    (c.loop-offer.entities ++ c.in_ok-sent_entity.field-0 ∷ []) c.in_ok-sent_entity.field-0 c.loop-offer-test.true c.offer-item.is refl
    c.in_ok-sent_entity.ensures.sent c.loop-offer.invariant.so_far))

pub loop-offer-preserved : goal.loop-offer-preserved
loop-offer-preserved g c = record {
  so_far = sent_more c.args.bag.now c.args.kind c.args.name.now c.args.offers.now c.loop-offer.offer-index c.offer-item.result
      (g.D.Dice.place c.args.dice.now) (g.D.Dice.place c.loop-offer.dice) (g.D.Dice.place c.sent_entity.new.dice) c.loop-offer.entities c.push.new.self
      c.in_ok-sent_entity.field-0 c.loop-offer-test.true c.offer-item.is c.in_ok-push.ensures.ok c.in_ok-sent_entity.ensures.sent
      c.loop-offer.invariant.so_far;
  have = have_left c.args.bag.now c.args.kind c.args.name.now c.args.offers.now c.loop-offer.offer-index c.offer-item.result c.loop-offer-test.true
      c.offer-item.is c.loop-offer.invariant.have;
}

pub returns-clause-sent : goal.returns-clause-sent
returns-clause-sent g c =
    all_sent c.args.bag.now c.args.kind c.args.name.now c.args.offers.now c.loop-offer.offer-index (g.D.Dice.place c.args.dice.now)
    (g.D.Dice.place c.loop-offer.dice) c.loop-offer.entities c.loop-offer-test.false c.loop-offer.invariant.so_far
