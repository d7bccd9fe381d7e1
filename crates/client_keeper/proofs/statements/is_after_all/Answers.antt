use Rattle.std.proofs.Common.{sym, ap, ◌∙◌}
use Rattle.std.specs.Option.{option_copied}
use Rattle.client_keeper.proofs.RowLemmas.{in_order_after, in_order_first}
use Rattle.client_keeper.proofs.statements.is_after_all.Goals as goal

pub returns-in-Some : goal.returns-in-Some
returns-in-Some c = λ before in_order.
    in_order_after c.args.rows.now c.in-Some.last.now c.args.row.now (sym c.last.ensures.value ∙ ap option_copied c.in-Some.is)
    (sym c.is_before.ensures ∙ before) in_order

pub returns-in-None : goal.returns-in-None
returns-in-None c = λ _ in_order.
    in_order_first c.args.rows.now c.args.row.now (sym c.last.ensures.value ∙ ap option_copied c.in-None.is) in_order
