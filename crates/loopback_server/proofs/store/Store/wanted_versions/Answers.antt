use Rattle.std.proofs.Common.{◌∙◌, ap, Option, ℕ}
use Rattle.sync_model.specs.Servers.{is_above}
use Rattle.loopback_server.specs.Stores.{history_of}
use Rattle.loopback_server.proofs.IndexHits.{hits_start, hits_step, hits_end, set_is}
use Rattle.loopback_server.proofs.store.Store.wanted_versions.Goals as goal

pub loop-key-init : goal.loop-key-init
loop-key-init c = record {
  ordered = c.new-versions.ensures.ordered;
  has = λ version.
      hits_start c.args.asked.now version c.args.self.now.index.entries c.into_iter-key-iterator.result c.new-versions.result.keys
      c.into_iter-key-iterator.ensures.into_iter_gives.0 c.new-versions.ensures.empty;
}

pub loop-key-preserved : goal.loop-key-preserved
loop-key-preserved c = record {
  ordered = c.in_ok-insert_if.ensures.ordered c.loop-key.invariant.ordered;
  has = λ version.
      hits_step c.args.asked.now version c.loop-key.key-iterator c.next.new.self c.in-Some.key.now c.in-Some.version.now
      c.loop-key.versions.keys c.insert_if.new.versions.keys c.is_above-is_wanted.result _ c.in-Some.ensures.steps
      (c.is_above-is_wanted.ensures ∙ ap (λ (mark : Option ℕ). is_above mark c.in-Some.version.now) c.mark.ensures)
      (c.in_ok-insert_if.ensures.has version) (c.loop-key.invariant.has version);
}

pub returns : goal.returns
returns c = λ marks is.
    set_is c.loop-key.versions c.args.self.now.index.entries (history_of c.args.self.now) c.args.asked.now marks c.loop-key.invariant.ordered
    (λ version. hits_end c.args.asked.now version c.loop-key.key-iterator c.loop-key.versions.keys _ c.in-None.ensures.steps.0 (c.loop-key.invariant.has version))
    c.requires.versions c.into_iter-key-iterator.ensures.into_iter_gives.6 is
