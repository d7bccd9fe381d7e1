use Rattle.std.proofs.Common.{rules}
use Rattle.client_keeper.proofs.EntryLemmas.{have_more, values_more}
use Rattle.client_keeper.proofs.slots.reserve_all.Goals as goal

-- one entry more
pub loop-entry-preserved : goal.loop-entry-preserved
loop-entry-preserved c = record {
  rows = search rules;
  has = have_more c.loop-entry.slots.entries c.reserve_slot.new.slots.entries c.args.entries.now c.loop-entry.entry-index c.entry-item.result
      c.loop-entry-test.true c.reserve_slot.ensures.kept c.loop-entry.invariant.has (search rules);
  values = values_more c.args.entries.now c.loop-entry.entry-index c.entry-item.result c.loop-entry.values.items c.push_back.new.self.items
      c.in_ok-copy_value.field-0 c.loop-entry-test.true c.loop-entry.invariant.values (search rules) (search rules);
}
