use Rattle.std.proofs.Common.{rules, drop, ◌+◌}
use Rattle.client_keeper.specs.Slots.{shown}
use Rattle.client_keeper.proofs.EntryLemmas.{have_kept, have_rest, next_entry, set_next, next_value}
use Rattle.client_keeper.proofs.slots.set_all.Goals as goal

-- one entry less is left
pub loop-entry-preserved : goal.loop-entry-preserved
loop-entry-preserved c =
    let index = c.loop-entry.entry-index in
    let left = drop index c.args.entries.now in
    let rest = drop (index + 1) c.args.entries.now in
    let old = c.loop-entry.slots.entries in
    let new = c.set_slot.new.slots.entries in
    let entry = c.entry-item.result in
    let front = next_entry c.args.entries.now index entry c.loop-entry-test.true c.entry-item.is in
    let next = next_value c.loop-entry.values.items c.pop_front.new.self.items c.in-Some.value left entry rest
    (search rules) c.loop-entry.invariant.values front in
    record {
      rows = set_next (shown old) (shown new) _ left entry rest c.in-Some.value front next.0 c.set_slot.ensures.rows c.loop-entry.invariant.rows;
      has = have_kept old new rest c.set_slot.ensures.kept (have_rest old left entry rest front c.loop-entry.invariant.has);
      values = next.1;
    }
