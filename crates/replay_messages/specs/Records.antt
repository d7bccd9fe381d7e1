-- The wire record of a run of a seed: the bytes of all its requests and replies, in the order of the events that made them.
use Rattle.std.specs.Prelude.{ℕ, ◌%◌, ◌^◌, List, [], ◌∷◌, ◌++◌, length}
use Rattle.std.specs.Int.{w32, to_be_bytes}
use Rattle.sync_messages.specs.Spellings.{to_bytes, from_bytes}
use Rattle.sync_model.specs.declared.event.EventOutcome.{EventOutcome}
use Rattle.sync_model.specs.declared.event.EventOutcome.TheVariants.{Void, Done, Edited, Requested, Delivered}
use Rattle.sync_model.specs.declared.message.Content.{Content}
use Rattle.sync_model.specs.declared.message.Reply.{Reply}
use Rattle.sync_model.specs.Worlds.{outcome_at}
use Rattle.replay_messages.specs.Messages.{request_told, reply_told}

-- the byte before a request, `Q`
abbrev pub REQUEST : ℕ
REQUEST = 81

-- the byte before a reply, `A`
abbrev pub REPLY : ℕ
REPLY = 65

-- a message in the record: what it is, its length modulo 2^32 as four bytes, the highest first, and its bytes
unfoldable pub framed : ℕ → List ℕ → List ℕ
framed sort message = sort ∷ to_be_bytes w32 (length message % 2 ^ 32) ++ message

-- the reply of a delivery in the record, by the request that it answers
abbrev pub replied_bytes : ℕ → EventOutcome → Reply Content → List ℕ
replied_bytes seed (Requested client request) reply = framed REPLY (from_bytes (reply_told seed request reply))
replied_bytes seed Void reply = []
replied_bytes seed Done reply = []
replied_bytes seed (Edited client kind number) reply = []
replied_bytes seed (Delivered event other) reply = []

-- what an event adds to the record, by what came of it and of the events before it
abbrev pub recorded : ℕ → List EventOutcome → EventOutcome → List ℕ
recorded seed earlier (Requested client request) = framed REQUEST (to_bytes (request_told seed client request))
recorded seed earlier (Delivered event reply) = replied_bytes seed (outcome_at earlier event) reply
recorded seed earlier Void = []
recorded seed earlier Done = []
recorded seed earlier (Edited client kind number) = []

-- the record of what came of some events, the newest first
unfoldable pub wire_record : ℕ → List EventOutcome → List ℕ
wire_record seed [] = []
wire_record seed (outcome ∷ earlier) = wire_record seed earlier ++ recorded seed earlier outcome
