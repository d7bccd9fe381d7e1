-- What is answered to an acknowledgement.
use Rattle.std.specs.Prelude.{ℕ, nat_le, max, if◌then◌else◌}
use Rattle.entity_tracker.specs.declared.tracker.Acked.{Acked}
use Rattle.entity_tracker.specs.declared.tracker.Acked.TheVariants.{Old, Applied}
use Rattle.entity_tracker.specs.Tracked.{Tracked}
use Rattle.sync_model.specs.declared.message.Ack.{Ack}
use Rattle.sync_model.specs.declared.state.KeyState.{KeyState}

-- an acknowledgement is old where its version is not above what is known
abbrev pub acked_as : KeyState → Ack → Acked
acked_as state ack = if nat_le ack.version state.known then Old state.known else Applied

-- how far edits are acknowledged after an acknowledgement: up to its number, if that is greater and it is not old
abbrev pub acked_after : Tracked → Ack → ℕ
acked_after tracker ack = if nat_le ack.version tracker.state.known then tracker.acked else max tracker.acked ack.number
