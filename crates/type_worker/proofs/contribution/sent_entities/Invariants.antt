use Rattle.std.proofs.Common.{drop, IsTrue}
use Rattle.type_worker.specs.Sending.{have_locks}
use Rattle.type_worker.proofs.SentLemmas.{SentSoFar}
use Rattle.type_worker.proofs.contribution.sent_entities.Given as goal

abbrev pub invariant-loop-offer : goal.invariant-loop-offer
invariant-loop-offer g l = record {
  so_far : SentSoFar l.bag l.kind l.name l.offers (drop l.offer-index l.offers) (g.D.Dice.place l.fn.dice) (g.D.Dice.place l.dice) l.entities;
  have : IsTrue (have_locks l.bag l.kind l.name (drop l.offer-index l.offers));
}
