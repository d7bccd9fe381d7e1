-- What an event of a client asks for, and what is found of a message that was kept.
use Rattle.std.specs.Prelude.{◌≡◌, ℕ, List, Option, None, Some}
use Rattle.sync_model.specs.declared.event.EventOutcome.{EventOutcome}
use Rattle.sync_model.specs.declared.event.EventOutcome.TheVariants.{Void, Done, Edited, Requested, Delivered}
use Rattle.sync_model.specs.Clients.{Client}
use Rattle.replay_client.specs.Withdrawn.{withdrawn}
use Rattle.replay_world.specs.declared.happened.Happened.{Happened}
use Rattle.replay_world.specs.declared.happened.Happened.TheVariants as kept
use Rattle.replay_world.specs.Outcomes.{IsRequest}

-- an event made no message
abbrev pub IsQuietOutcome : EventOutcome → Type 0
IsQuietOutcome Void = Unit {0}
IsQuietOutcome Done = Unit {0}
IsQuietOutcome (Edited client kind number) = Unit {0}
IsQuietOutcome (Requested client request) = ⊥
IsQuietOutcome (Delivered request reply) = ⊥

-- what is kept is a request of the client of this number, as it came of an event, or that nothing came of it
abbrev pub IsSent : ℕ → EventOutcome → Happened → Type 0
IsSent number (Requested client request) happened =
    (bytes : List ℕ) × (happened ≡ kept.Requested number request bytes) × IsRequest number request bytes
IsSent number Void happened = happened ≡ kept.Void
IsSent number Done happened = happened ≡ kept.Void
IsSent number (Edited client kind edit) happened = happened ≡ kept.Void
IsSent number (Delivered request reply) happened = happened ≡ kept.Void

-- a client whose request, if one came of an event, was not made after all
abbrev pub taken_back : Client → EventOutcome → Client
taken_back client (Requested number request) = withdrawn client request.call
taken_back client Void = client
taken_back client Done = client
taken_back client (Edited number kind edit) = client
taken_back client (Delivered request reply) = client

-- no request is kept of an event
abbrev pub IsNoRequest : Option Happened → Type 0
IsNoRequest None = Unit {0}
IsNoRequest (Some kept.Void) = Unit {0}
IsNoRequest (Some kept.Done) = Unit {0}
IsNoRequest (Some (kept.Edited client kind number)) = Unit {0}
IsNoRequest (Some (kept.Requested client request bytes)) = ⊥
IsNoRequest (Some (kept.Delivered request before bytes)) = Unit {0}

-- no delivery is kept of an event
abbrev pub IsNoDelivery : Option Happened → Type 0
IsNoDelivery None = Unit {0}
IsNoDelivery (Some kept.Void) = Unit {0}
IsNoDelivery (Some kept.Done) = Unit {0}
IsNoDelivery (Some (kept.Edited client kind number)) = Unit {0}
IsNoDelivery (Some (kept.Requested client request bytes)) = Unit {0}
IsNoDelivery (Some (kept.Delivered request before bytes)) = ⊥
