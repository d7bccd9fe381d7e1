use Rattle.std.proofs.Common.{sym, ◌∙◌}
use Rattle.conflict_rules.proofs.Rows.{own_is_present, remote_is_present, values_differ}
use Rattle.conflict_rules.proofs.table.resolve.Goals as goal

pub choose-requires-clause-local_is_present : goal.choose-requires-clause-local_is_present
choose-requires-clause-local_is_present g c row =
    own_is_present c.args.echo c.args.base.now c.args.local.now c.args.remote.now (sym c.fitting_row-row.ensures ∙ row)

pub choose-requires-clause-remote_is_present : goal.choose-requires-clause-remote_is_present
choose-requires-clause-remote_is_present g c row =
    remote_is_present c.args.echo c.args.base.now c.args.local.now c.args.remote.now (sym c.fitting_row-row.ensures ∙ row)

pub choose-requires-clause-differ : goal.choose-requires-clause-differ
choose-requires-clause-differ g c row =
    values_differ c.args.echo c.args.base.now c.args.local.now c.args.remote.now (sym c.fitting_row-row.ensures ∙ row)
