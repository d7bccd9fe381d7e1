-- The requests and the replies of the model as messages, in a run of a seed.
use Rattle.std.specs.Prelude.{ℕ, ◌==◌, if◌then◌else◌, List, [], ◌++◌, map, codes, Some}
use Rattle.std.specs.Fmt.{decimal}
use Rattle.std.specs.Int.{w64, cast_signed}
use Rattle.sync_messages.specs.declared.message.Entity.{Entity}
use Rattle.sync_messages.specs.declared.message.FromServer.{FromServer}
use Rattle.sync_messages.specs.declared.message.Request.{Request as Asked}
use Rattle.sync_messages.specs.declared.message.Request.TheVariants as requests
use Rattle.sync_messages.specs.declared.message.ToServer.{ToServer}
use Rattle.sync_model.specs.declared.message.Call.{Call}
use Rattle.sync_model.specs.declared.message.Call.TheVariants as calls
use Rattle.sync_model.specs.declared.message.Content.{Content}
use Rattle.sync_model.specs.declared.message.Entry.{Entry}
use Rattle.sync_model.specs.declared.message.Reply.{Reply}
use Rattle.sync_model.specs.declared.message.Request.{Request}
use Rattle.sync_model.specs.Values.{is_absent}
use Rattle.replay_messages.specs.Replies.{id_of, told_marker, told_reply}
use Rattle.replay_messages.specs.Forms.{request_formed, reply_formed}
use Rattle.replay_messages.specs.Sealed.{specifics_of}

-- the name that a client gives itself in a commit
unfoldable pub guid_of : ℕ → List ℕ
guid_of client = codes "client-" ++ decimal client

-- the name of the entity that an entry is based on, empty where it is based on none
abbrev pub id_based : Entry Content → List ℕ
id_based entry = if entry.version == 0 then [] else id_of entry.key

-- an entry as an entity of a commit
abbrev pub entity_of : ℕ → Entry Content → Entity
entity_of seed entry = record {
  id = id_based entry;
  version = cast_signed w64 entry.version;
  deleted = is_absent entry.content.value;
  specifics = Some (specifics_of seed entry.key.kind entry.content.value entry.content.draw);
  hash = Some entry.key.hash;
}

-- what a client asks as a message has it
abbrev pub call_told : ℕ → ℕ → Call Content → Asked
call_told seed client (calls.Commit entries) = requests.Commit (record { guid = guid_of client; entries = map (entity_of seed) entries })
call_told seed client (calls.Updates marks) = requests.Updates (record { marks = map told_marker marks })

-- a client's request as a message
unfoldable pub request_told : ℕ → ℕ → Request Content → ToServer
request_told seed client request = record { birthday = request.birthday; request = call_told seed client request.call }

-- the reply to a request as a message
unfoldable pub reply_told : ℕ → Request Content → Reply Content → FromServer
reply_told seed request reply = told_reply (request_formed seed request) (reply_formed seed reply)
