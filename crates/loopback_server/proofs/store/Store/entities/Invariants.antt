use Rattle.std.proofs.Common.{◌≡◌, ◌++◌, map}
use Rattle.std.specs.List.{flat_map}
use Rattle.replay_messages.specs.Replies.{told_entity}
use Rattle.loopback_server.specs.Pages.{given_at}
use Rattle.loopback_server.specs.Stores.{history_of}
use Rattle.loopback_server.proofs.store.Store.entities.Given as goal

abbrev pub invariant-loop-version : goal.invariant-loop-version
invariant-loop-version l =
    l.entities.items ++ map told_entity (flat_map (given_at (history_of l.self)) l.version-iterator)
    ≡ map told_entity (flat_map (given_at (history_of l.self)) l.initial.version-iterator)
