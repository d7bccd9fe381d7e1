use Rattle.std.proofs.Common.{◌-◌, ◌≤◌, length, vec_capacity}
use Rattle.std.specs.Prelude.{filter, nat_lt}
use Rattle.version_chain.specs.Chains.{slots_of}
use Rattle.version_chain.proofs.Walks.{IsForth}
use Rattle.version_chain.proofs.chain.Chain.since.Given as goal

abbrev pub invariant-loop-place : goal.invariant-loop-place
invariant-loop-place g l = record {
  walk : IsForth l.self-inside.order.slots (slots_of (filter (λ entry. nat_lt l.fn.mark entry.version) l.fn.self.entries)) l.count l.place l.slots.items;
  room : l.count ≤ vec_capacity l.slots;
}

abbrev pub decreases-loop-place : goal.decreases-loop-place
decreases-loop-place g l = l.count - length l.slots.items
