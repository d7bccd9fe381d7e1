use Rattle.type_worker.proofs.Batched.{goes_on_more, all_opened, try_ends}
use Rattle.type_worker.proofs.batch.opened_entries.Goals as goal

pub returns-in_err-opened_entry : goal.returns-in_err-opened_entry
returns-in_err-opened_entry c =
    try_ends c.args.bag.now c.args.entries.now c.loop-entry.entry-index c.entry-item.result c.loop-entry.updates c.in_err-opened_entry.field-0.0
    c.loop-entry-test.true c.entry-item.is c.in_err-opened_entry.ensures c.loop-entry.invariant c.from_residual.result c.from_residual.ensures.1

pub loop-entry-preserved : goal.loop-entry-preserved
loop-entry-preserved c =
    goes_on_more c.args.bag.now c.args.entries.now c.loop-entry.entry-index c.entry-item.result c.loop-entry.updates c.push.new.self
    c.in_ok-opened_entry.field-0 c.loop-entry-test.true c.entry-item.is c.in_ok-opened_entry.ensures c.in_ok-push.ensures.ok c.loop-entry.invariant

pub returns : goal.returns
returns c =
    all_opened c.args.bag.now c.args.entries.now c.loop-entry.entry-index c.loop-entry.updates c.loop-entry-test.false c.loop-entry.invariant
