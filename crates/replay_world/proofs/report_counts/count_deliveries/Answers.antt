use Rattle.std.proofs.Common.{◌∙◌, rules}
use Rattle.std.proofs.lemmas.Iterator.{YieldsList-from_slice}
use Rattle.std.proofs.lemmas.Iterator.Consumers.{YieldsList-from_filter, count_from_yields_List}
use Rattle.std.proofs.lemmas.List.Sums.{length-filter}
use Rattle.replay_world.specs.Reports.{was_delivery}
use Rattle.replay_world.proofs.report_counts.count_deliveries.Goals as goal

pub returns : goal.returns
returns c =
    count_from_yields_List c.filter.result c.count.result c.count.ensures.ran
    (YieldsList-from_filter _ was_delivery (YieldsList-from_slice c.args.happened.now cc) c.filter.ensures.closure (λ x b q k. search rules))
    ∙ length-filter was_delivery c.args.happened.now
