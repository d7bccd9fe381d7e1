use Rattle.std.proofs.Common.{◌≡◌, ◌+◌, ◌≤◌, ◌++◌, length, vec_len, vec_capacity, None}
use Rattle.client_tags.specs.declared.Kind.TheVariants.{Preference as preference_kind}
use Rattle.sync_model.specs.Sending.{sealed}
use Rattle.replay_client.specs.Draws.{no_draws}
use Rattle.replay_client.proofs.held.hold.Given as goal

abbrev pub invariant-offers : goal.invariant-offers
invariant-offers l = record {
  room : vec_len l.held + length l.offers.items ≤ vec_capacity l.held;
  same : l.held.items ++ sealed no_draws preference_kind None 0 l.offers.items ≡ l.initial.held.items ++ sealed no_draws preference_kind None 0 l.initial.offers.items;
}

abbrev pub decreases-offers : goal.decreases-offers
decreases-offers l = length l.offers.items
