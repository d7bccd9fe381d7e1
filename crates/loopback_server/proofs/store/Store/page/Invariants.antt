use Rattle.std.proofs.Common.{◌≡◌, ◌≤◌, ℕ, List, ◌++◌, length}
use Rattle.std.specs.List.{AllByRecursion, flat_map}
use Rattle.sync_messages.specs.Laws.{FitsTypes}
use Rattle.loopback_server.specs.Pages.{given_at, IsPage}
use Rattle.loopback_server.specs.Stores.{history_of}
use Rattle.loopback_server.proofs.store.Store.page.Given as goal

abbrev pub invariant-loop-version : goal.invariant-loop-version
invariant-loop-version l = record {
  done : List ℕ;
  all : done ++ l.version-iterator ≡ l.fn.versions.keys;
  few : l.page.remaining ≤ length done;
  page : IsPage l.page (flat_map (given_at (history_of l.self)) done);
  typed : AllByRecursion FitsTypes l.page.entries.items;
}
