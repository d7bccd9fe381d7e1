use Rattle.std.proofs.Common.{◌≡◌, drop}
use Rattle.sync_model.specs.KeyStates.{is_offered}
use Rattle.entity_tracker.proofs.offered.is_offered.Given as goal

abbrev pub invariant-loop-pair : goal.invariant-loop-pair
invariant-loop-pair l = is_offered (drop l.pair-index l.offered) l.number ≡ is_offered l.initial.offered l.number
