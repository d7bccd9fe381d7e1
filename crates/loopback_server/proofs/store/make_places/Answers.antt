use Rattle.std.proofs.Common.{◌∙◌, arith, add-one}
use Rattle.loopback_server.proofs.CommitLemmas.{more_places}
use Rattle.loopback_server.proofs.store.make_places.Goals as goal

pub loop-candidate-preserved : goal.loop-candidate-preserved
loop-candidate-preserved c = record {
  have_places = rw add-one (more_places c.loop-candidate.index.entries c.make_its_place.new.index.entries c.args.candidates.now c.loop-candidate.candidate-index c.candidate-item.result
      c.make_its_place.ensures.kept c.loop-candidate.invariant.have_places (omega arith) c.candidate-item.is c.in_ok-make_its_place.ensures.has_place);
  same = λ key. c.make_its_place.ensures.same key ∙ c.loop-candidate.invariant.same key;
}
