use Rattle.std.proofs.Common.{◌≡◌, drop}
use Rattle.sync_model.specs.History.{IsBased}
use Rattle.loopback_server.specs.Stores.{history_of, IsIndexed}
use Rattle.loopback_server.proofs.store.Store.take_back.Given as goal

abbrev pub invariant-loop-taken : goal.invariant-loop-taken
invariant-loop-taken l = record {
  indexed : IsIndexed l.self;
  based : IsBased (history_of l.self);
  history : history_of l.self ≡ drop l._taken (history_of l.fn.self);
}
