use Rattle.std.proofs.Common.{◌≡◌, List, ◌++◌, ap, ◌∙◌}
use Rattle.std.proofs.lemmas.Result.{on_ok_weaker}
use Rattle.sync_model.specs.declared.message.Content.{Content}
use Rattle.sync_model.specs.declared.message.Entry.{Entry}
use Rattle.sync_model.specs.History.{key_count}
use Rattle.sync_model.specs.Report.{server_text}
use Rattle.replay_world.proofs.CountLemmas.{keys_kept}
use Rattle.replay_world.proofs.report_entities.write_server.Goals as goal

pub returns : goal.returns
returns c =
    let keys : c.count_keys.result ≡ key_count c.args.server.now
    = c.count_keys.ensures ∙ keys_kept c.writes.result.now c.writes.ensures.based ∙ ap (λ (history : List (Entry Content)). key_count history) c.writes.ensures.is in
    on_ok_weaker c.write_server_line.result (λ added. added ∙ (λ i. c.args.out.now.items ++ server_text (c.version.ensures i) (keys i))) c.write_server_line.ensures.ok
