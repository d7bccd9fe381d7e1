use Rattle.std.proofs.Common.{length, get_or, arith, ap, ◌∙◌}
use Rattle.sync_model.specs.Worlds.{World}
use Rattle.replay_world.proofs.ReportLemmas.{clients_more, clients_all}
use Rattle.replay_world.proofs.world.World.write_clients.Goals as goal

pub loop-place-preserved : goal.loop-place-preserved
loop-place-preserved c =
    clients_more c.args.self.now c.args.self.now.clients c.loop-place.place c.index.result.now _ c.loop-place.out.items c.write_client.new.out.items
    (omega (arith, c.loop-place-test.true, c.len-place-end.ensures, ap (λ (world : World). length world.clients) c.self.view_is, c.self.inside.clients.ok))
    (c.index.ensures ∙ ap (λ (world : World). get_or world.clients c.loop-place.place c.index.result.now) c.self.view_is)
    c.in_ok-write_client.ensures c.loop-place.invariant

pub returns : goal.returns
returns c =
    clients_all c.args.self.now c.args.self.now.clients c.loop-place.place _ c.loop-place.out.items
    (omega (arith, c.loop-place-test.false, c.len-place-end.ensures, ap (λ (world : World). length world.clients) c.self.view_is, c.self.inside.clients.ok))
    c.loop-place.invariant
