use Rattle.std.proofs.Common.{◌≡◌, ◌++◌, refl, subst, ◌∙◌}
use Rattle.std.proofs.lemmas.Result.{on_ok_weaker}
use Rattle.std.specs.Prelude.{reverse}
use Rattle.sync_model.specs.Report.{for_each_kind, client_lines}
use Rattle.sync_model.specs.Worlds.{World}
use Rattle.run_setting.specs.Hashed.{hashed}
use Rattle.replay_world.specs.Outcomes.{outcomes_of}
use Rattle.replay_world.specs.Reports.{fates_text}
use Rattle.replay_world.specs.Worlds.{world_of}
use Rattle.replay_world.proofs.ReportLemmas.{client_is}
use Rattle.replay_world.proofs.world.World.write_client.Goals as goal

pub returns : goal.returns
returns c =
    on_ok_weaker c.write_all_fates.result
    (λ added. subst (λ (world : World). c.write_all_fates.new.out.items ≡ c.args.out.now.items ++ client_lines hashed world c.args.number c.args.client.now) c.self.view_is
    (client_is (world_of c.self.inside) c.args.number c.args.client.now c.args.out.now.items c.write_caught_up.new.out.items c.write_sides.new.out.items c.write_all_values.new.out.items c.write_all_fates.new.out.items
    c.version.result refl c.version.ensures c.in_ok-write_caught_up.ensures c.in_ok-write_sides.ensures c.in_ok-write_all_values.ensures
    (added ∙ (λ i. c.write_all_values.new.out.items
    ++ for_each_kind (fates_text (outcomes_of c.self.inside.server (reverse (c.deref.ensures.value i))) (c.deref-2.ensures.value i) c.args.number)))))
    (c.write_all_fates.ensures c.self.inside.server)
