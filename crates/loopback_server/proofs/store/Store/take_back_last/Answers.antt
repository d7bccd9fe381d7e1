use Rattle.std.proofs.Common.{◌∙◌}
use Rattle.loopback_server.specs.Stores.{history_of, history_in}
use Rattle.loopback_server.proofs.StoreLemmas.{newest}
use Rattle.loopback_server.proofs.TakingBack.{newest_place, taken_versions, taken_keys}
use Rattle.loopback_server.proofs.store.Store.take_back_last.Goals as goal

pub set_version-requires : goal.set_version-requires
set_version-requires c =
    newest_place c.args.self.now.index.entries (history_of c.args.self.now) (history_in c.pop.new.self.items) c.in-Some.write
    c.requires.indexed.versions (newest c.pop.new.self.items c.args.self.now.writes.items c.in-Some.write c.in-Some.ensures.items)

pub returns-clause-indexed : goal.returns-clause-indexed
returns-clause-indexed c = record {
  versions = taken_versions c.args.self.now.index.entries c.set_version.new.index.entries (history_of c.args.self.now) (history_in c.pop.new.self.items) c.in-Some.write
      c.requires.indexed.versions (newest c.pop.new.self.items c.args.self.now.writes.items c.in-Some.write c.in-Some.ensures.items) c.requires.based c.set_version.ensures;
  keys = c.keys_without-self.ensures
      ∙ taken_keys (history_of c.args.self.now) (history_in c.pop.new.self.items) c.in-Some.write c.args.self.now.keys
      (newest c.pop.new.self.items c.args.self.now.writes.items c.in-Some.write c.in-Some.ensures.items) c.requires.based c.requires.indexed.keys;
}
