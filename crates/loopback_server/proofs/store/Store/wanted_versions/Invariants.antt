use Rattle.std.proofs.Common.{◌≡◌, ℕ}
use Rattle.std.specs.Prelude.{◌||◌}
use Rattle.std.specs.BTreeSet.{contains, IsOrdered}
use Rattle.std.specs.List.{list_any}
use Rattle.std.specs.Ordering.{nat_cmp}
use Rattle.loopback_server.proofs.IndexHits.{hits}
use Rattle.loopback_server.proofs.store.Store.wanted_versions.Given as goal

abbrev pub invariant-loop-key : goal.invariant-loop-key
invariant-loop-key l = record {
  ordered : IsOrdered nat_cmp l.versions;
  has : (version : ℕ) → (list_any (hits l.asked version) l.key-iterator || contains nat_cmp l.versions version)
      ≡ list_any (hits l.asked version) l.self.index.entries;
}
