use Rattle.loopback_server.specs.Stores.{history_of}
use Rattle.loopback_server.proofs.Places.{found_at, none_at, none_at_zero}
use Rattle.loopback_server.proofs.store.Store.write.Goals as goal

pub returns-then-version-eq0-clause-none : goal.returns-then-version-eq0-clause-none
returns-then-version-eq0-clause-none c = none_at_zero (history_of c.args.self.now) c.args.version c.if-version-eq0.true

pub returns-clause-some : goal.returns-clause-some
returns-clause-some c =
    found_at c.args.self.now.writes.items c.as_slice.result.now c.args.version c.get.result c.as_slice.ensures.value c.if-version-eq0.false
    c.get.ensures.lookup.0 c.get.ensures.lookup.1

pub returns-clause-none : goal.returns-clause-none
returns-clause-none c =
    none_at c.args.self.now.writes.items c.as_slice.result.now c.args.version c.get.result c.as_slice.ensures.value c.if-version-eq0.false
    c.get.ensures.lookup.0
