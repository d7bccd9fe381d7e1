use Rattle.std.proofs.Common.{◌≡◌, drop}
use Rattle.client_keeper.specs.Rows.{changed}
use Rattle.client_keeper.specs.Slots.{shown, values_in, HaveSlots}
use Rattle.client_keeper.proofs.slots.set_all.Given as goal

-- what is left to be set makes the whole change, and has its slots and values
abbrev pub invariant-loop-entry : goal.invariant-loop-entry
invariant-loop-entry l = record {
  rows : changed (shown l.slots.entries) (drop l.entry-index l.entries) ≡ changed (shown l.fn.slots.entries) l.entries;
  has : HaveSlots l.slots.entries (drop l.entry-index l.entries);
  values : l.values.items ≡ values_in (drop l.entry-index l.entries);
}
