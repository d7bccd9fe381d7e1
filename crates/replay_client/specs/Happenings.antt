-- That an event of a client has its effect.
use Rattle.std.specs.Prelude.{◌≡◌, ℕ, List, ◌++◌, map, Option, Some, None}
use Rattle.sync_model.specs.declared.event.EventOutcome.{EventOutcome}
use Rattle.sync_model.specs.declared.event.EventOutcome.TheVariants.{Void, Done, Edited, Requested, Delivered}
use Rattle.sync_model.specs.declared.fate.Settlement.{Settlement}
use Rattle.sync_model.specs.Clients.{Client, Effect}
use Rattle.sync_model.specs.Worlds.{settlement_of}
use Rattle.replay_messages.specs.Forms.{IsPlainCall}

-- An event of the client of a number has this effect, or is void where there is none: what came of it, and the
-- client and the settlements before and after it.
unfoldable pub Happens : ℕ → Option Effect → EventOutcome → Client → Client → List Settlement → List Settlement → Type 0
Happens number None outcome old new settled_before settled =
    (outcome ≡ Void) × (new ≡ old) × (settled ≡ settled_before)
Happens number (Some effect) outcome old new settled_before settled =
    (outcome ≡ effect.outcome) × (new ≡ effect.client)
    × (settled ≡ settled_before ++ map (settlement_of number effect.kind) effect.notes)

-- an event that settles nothing has this effect, whatever the client's number is, and whatever was settled
abbrev pub HappensAlone : Option Effect → EventOutcome → Client → Client → Type 0
HappensAlone effect outcome old new = (number : ℕ) (settled : List Settlement) → Happens number effect outcome old new settled settled

-- nothing seals what an event requests, if it requests something
abbrev pub IsPlainOutcome : EventOutcome → Type 0
IsPlainOutcome (Requested client request) = IsPlainCall request.call
IsPlainOutcome Void = Unit {0}
IsPlainOutcome Done = Unit {0}
IsPlainOutcome (Edited client kind number) = Unit {0}
IsPlainOutcome (Delivered request reply) = Unit {0}
