use Rattle.std.proofs.Common.{sym, subst}
use Rattle.std.specs.List.{AllByRecursion}
use Rattle.std.specs.Prelude.{map}
use Rattle.sync_messages.specs.Laws.{IsEntity}
use Rattle.replay_messages.specs.Replies.{marker_in}
use Rattle.loopback_server.specs.Stores.{history_of}
use Rattle.loopback_server.proofs.CanonicalExtras.{told_canonical}
use Rattle.loopback_server.proofs.store.Store.updates.Goals as goal

pub returns-clause-entities : goal.returns-clause-entities
returns-clause-entities c =
    subst (AllByRecursion IsEntity) (sym c.from_vec.ensures)
    (told_canonical (map marker_in c.args.marks.now) (history_of c.args.self.now) _ c.requires.canonical
    (c.in_ok-page.ensures.page (map marker_in c.args.marks.now) (c.in_ok-wanted_versions.ensures (map marker_in c.args.marks.now) c.of-asked.ensures)).entries
    c.in_ok-page.ensures.typed)
