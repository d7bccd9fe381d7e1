use Rattle.std.proofs.Common.{◌∙◌, ap, drop}
use Rattle.std.proofs.lemmas.List.{drop-drop}
use Rattle.loopback_server.specs.Stores.{history_of}
use Rattle.loopback_server.proofs.store.Store.take_back.Goals as goal

pub loop-taken-preserved : goal.loop-taken-preserved
loop-taken-preserved c = record {
  indexed = c.take_back_last.ensures.indexed;
  based = c.take_back_last.ensures.based;
  history = c.take_back_last.ensures.history ∙ ap (drop 1) c.loop-taken.invariant.history
      ∙ drop-drop 1 c.loop-taken._taken (history_of c.args.self.now);
}
