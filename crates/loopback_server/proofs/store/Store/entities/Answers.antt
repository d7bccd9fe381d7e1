use Rattle.std.proofs.Common.{◌∙◌, ap, map}
use Rattle.std.specs.List.{flat_map}
use Rattle.replay_messages.specs.Replies.{told_entity}
use Rattle.loopback_server.specs.Pages.{from_the_start, given_at}
use Rattle.loopback_server.specs.Stores.{history_of}
use Rattle.loopback_server.proofs.PageLemmas.{entities_more, entities_done}
use Rattle.loopback_server.proofs.WantedVersions.{versions_give}
use Rattle.loopback_server.proofs.store.Store.entities.Goals as goal

pub loop-version-preserved : goal.loop-version-preserved
loop-version-preserved c =
    entities_more (given_at (history_of c.args.self.now)) c.loop-version.entities.items c.push_version.new.entities.items _ c.loop-version.version-iterator c.next.new.self
    c.in-Some.version.now c.in-Some.ensures.steps c.in_ok-push_version.ensures c.loop-version.invariant

pub returns : goal.returns
returns c =
    c.from_vec.ensures ∙
    entities_done (given_at (history_of c.args.self.now)) c.loop-version.entities.items _ c.loop-version.version-iterator c.in-None.ensures.steps.0 c.loop-version.invariant
    ∙ ap (λ versions. map told_entity (flat_map (given_at (history_of c.args.self.now)) versions))
    (c.into_iter-version-iterator.ensures.into_iter_gives.0 ∙ c.in_ok-versions.ensures from_the_start c.everything.ensures)
    ∙ ap (map told_entity) (versions_give from_the_start (history_of c.args.self.now))
