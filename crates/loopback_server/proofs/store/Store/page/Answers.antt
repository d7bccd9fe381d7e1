use Rattle.std.proofs.Common.{◌++◌, ◌∷◌, [], ◌∙◌, ap, arith}
use Rattle.std.proofs.lemmas.List.{length-append}
use Rattle.std.specs.List.{flat_map}
use Rattle.loopback_server.specs.Pages.{given_at}
use Rattle.loopback_server.specs.Stores.{history_of}
use Rattle.loopback_server.proofs.PageLemmas.{page_more, given_more, moved, all_done}
use Rattle.loopback_server.proofs.WantedVersions.{versions_give}
use Rattle.loopback_server.proofs.store.Store.page.Goals as goal

pub loop-version-preserved : goal.loop-version-preserved
loop-version-preserved c = record {
  done = c.loop-version.invariant.done ++ c.in-Some.version.now ∷ [];
  all = moved c.loop-version.invariant.done c.loop-version.version-iterator c.next.new.self c.args.versions.now.keys c.in-Some.version.now
      c.in-Some.ensures.steps c.loop-version.invariant.all;
  few = omega (arith, c.in_ok-add_version.ensures.few, c.loop-version.invariant.few, length-append c.loop-version.invariant.done (c.in-Some.version.now ∷ []));
  page = page_more c.add_version.new.page _ _
      (given_more (given_at (history_of c.args.self.now)) c.loop-version.invariant.done c.in-Some.version.now)
      (c.in_ok-add_version.ensures.page _ c.loop-version.invariant.page);
  typed = c.in_ok-add_version.ensures.typed c.loop-version.invariant.typed;
}

pub returns-clause-page : goal.returns-clause-page
returns-clause-page c = λ marks is.
    page_more c.loop-version.page _ _
    (ap (flat_map (given_at (history_of c.args.self.now)))
    (all_done c.loop-version.invariant.done c.loop-version.version-iterator c.args.versions.now.keys c.in-None.ensures.steps.0 c.loop-version.invariant.all ∙ is)
    ∙ versions_give marks (history_of c.args.self.now))
    c.loop-version.invariant.page
