use Rattle.std.proofs.Common.{◌∙◌, rules}
use Rattle.std.proofs.lemmas.Iterator.{YieldsList-from_slice}
use Rattle.std.proofs.lemmas.Iterator.Consumers.{YieldsList-from_filter, count_from_yields_List}
use Rattle.std.proofs.lemmas.List.Sums.{length-filter}
use Rattle.replay_world.specs.Reports.{is_first}
use Rattle.replay_world.proofs.report_entities.count_keys.Goals as goal

pub returns : goal.returns
returns c =
    count_from_yields_List c.filter.result c.count.result c.count.ensures.ran
    (YieldsList-from_filter _ is_first (YieldsList-from_slice c.args.writes.now cc) c.filter.ensures.closure (λ x b q k. search rules))
    ∙ length-filter is_first c.args.writes.now
