use Rattle.std.proofs.Common.{◌≡◌, take}
use Rattle.client_keeper.specs.Slots.{shown, values_in, HaveSlots}
use Rattle.client_keeper.proofs.slots.reserve_all.Given as goal

-- the entries so far have slots, and their values are copied
abbrev pub invariant-loop-entry : goal.invariant-loop-entry
invariant-loop-entry l = record {
  rows : shown l.slots.entries ≡ shown l.fn.slots.entries;
  has : HaveSlots l.slots.entries (take l.entry-index l.entries);
  values : l.values.items ≡ values_in (take l.entry-index l.entries);
}
