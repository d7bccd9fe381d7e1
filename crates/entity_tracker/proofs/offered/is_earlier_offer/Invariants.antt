use Rattle.std.proofs.Common.{◌≡◌, drop}
use Rattle.sync_model.specs.KeyStates.{is_earlier_offer}
use Rattle.entity_tracker.proofs.offered.is_earlier_offer.Given as goal

abbrev pub invariant-loop-pair : goal.invariant-loop-pair
invariant-loop-pair l = is_earlier_offer (drop l.pair-index l.offered) l.due l.value ≡ is_earlier_offer l.initial.offered l.due l.value
