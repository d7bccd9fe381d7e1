use Rattle.std.proofs.Common.{◌++◌, ap, ◌∙◌}
use Rattle.std.proofs.lemmas.Result.{on_ok_weaker}
use Rattle.replay_world.proofs.FateLemmas.{fates_are}
use Rattle.replay_world.proofs.report_fates.write_fates.Goals as goal

pub returns : goal.returns
returns c =
    λ history. on_ok_weaker c.write_fates_by.result
    (λ added. added ∙ ap (λ text. c.args.out.now.items ++ text)
    (fates_are c.in_ok-fates.fates.entries history c.args.settlements.now c.args.client c.args.kind c.args.happened.now c.in_ok-fates.ensures))
    c.write_fates_by.ensures
