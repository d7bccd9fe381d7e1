use Rattle.std.proofs.Common.{◌≡◌, ◌++◌, refl, sym, ap, subst, ◌∙◌}
use Rattle.std.specs.Prelude.{reverse}
use Rattle.sync_model.specs.Report.{events_line, totals_line, clients_lines}
use Rattle.sync_model.specs.Worlds.{World}
use Rattle.run_setting.specs.Hashed.{hashed}
use Rattle.replay_messages.specs.Records.{wire_record}
use Rattle.replay_world.specs.Outcomes.{outcomes_of}
use Rattle.replay_world.specs.Reports.{full_report}
use Rattle.replay_world.specs.Worlds.{world_of}
use Rattle.replay_world.proofs.ReportLemmas.{report_is}
use Rattle.replay_world.proofs.world.World.report.Goals as goal

pub returns : goal.returns
returns c =
    c.from_vec.ensures
    ∙ subst (λ (world : World). c.write_digest_line.new.out.items ≡ full_report world) c.self.view_is
    (report_is (world_of c.self.inside) c.digest.result c.new-out.result.items c.write_events.new.out.items c.write_server.new.out.items c.write_entities.new.out.items c.write_clients.new.out.items c.write_totals.new.out.items
    c.write_digest_line.new.out.items refl (c.digest.ensures (wire_record c.self.inside.seed (outcomes_of c.self.inside.server (reverse c.self.inside.happened.items))) c.self.invariant.recorded)
    c.new-out.ensures.items
    (c.in_ok-write_events.ensures c.self.inside.server ∙ (λ i. c.new-out.result.items ++ events_line (outcomes_of c.self.inside.server (reverse (c.deref.ensures.value i)))))
    c.in_ok-write_server.ensures c.in_ok-write_entities.ensures
    (c.in_ok-write_clients.ensures ∙ ap (λ (world : World). c.write_entities.new.out.items ++ clients_lines hashed world 1 world.clients) (sym c.self.view_is))
    (c.in_ok-write_totals.ensures c.self.inside.server ∙ (λ i. c.write_clients.new.out.items ++ totals_line (outcomes_of c.self.inside.server (reverse (c.deref-2.ensures.value i)))))
    c.in_ok-write_digest_line.ensures.ok)
