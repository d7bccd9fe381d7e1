-- That what the model's server says can be taken by a client.
use Rattle.std.specs.Prelude.{◌<◌, ◌^◌, List, length}
use Rattle.std.specs.List.{AllByRecursion}
use Rattle.sync_model.specs.declared.message.Content.{Content}
use Rattle.sync_model.specs.declared.message.Entry.{Entry}
use Rattle.sync_model.specs.declared.message.Request.{Request}
use Rattle.sync_model.specs.Servers.{reply_to}
use Rattle.sync_model.specs.Worlds.{STORE_BIRTHDAY, is_invalid_entry}
use Rattle.replay_messages.specs.Forms.{IsPlain}
use Rattle.replay_client.specs.Replies.{IsReplyTo}

-- what a server of plain writes says to a request is a reply to it
abbrev pub RepliesAreTaken : Type 0
RepliesAreTaken =
    (history : List (Entry Content)) (request : Request Content) → AllByRecursion IsPlain history → length history < 2 ^ 63
    → IsReplyTo request.call (reply_to is_invalid_entry STORE_BIRTHDAY history request).verdict
