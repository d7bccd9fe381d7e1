use Rattle.client_keeper.proofs.CopyLemmas.{shown_in_order}
use Rattle.client_keeper.proofs.slots.copy_rows.Goals as goal

pub returns-in_err-push_row-clause-in_order : goal.returns-in_err-push_row-clause-in_order
returns-in_err-push_row-clause-in_order c = shown_in_order c.args.slots.now.entries c.iter-key-items.ensures.ordered

pub returns-clause-in_order : goal.returns-clause-in_order
returns-clause-in_order c = shown_in_order c.args.slots.now.entries c.iter-key-items.ensures.ordered
