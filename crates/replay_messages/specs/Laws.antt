-- That a server which is told of plain entries by messages says what the model's server says.
use Rattle.std.specs.Prelude.{◌≡◌, ℕ, ◌^◌, ◌<◌, List, length, map}
use Rattle.std.specs.List.{AllByRecursion}
use Rattle.sync_messages.specs.Laws.{IsSayable}
use Rattle.sync_model.specs.declared.message.Content.{Content}
use Rattle.sync_model.specs.declared.message.Entry.{Entry}
use Rattle.sync_model.specs.declared.message.Request.{Request}
use Rattle.sync_model.specs.Servers.{reply_to, history_served}
use Rattle.sync_model.specs.Worlds.{STORE_BIRTHDAY, is_invalid_entry}
use Rattle.replay_messages.specs.Replies.{reply_for, history_for}
use Rattle.replay_messages.specs.Forms.{form, IsPlain, IsPlainCall, IsPlainReply}
use Rattle.replay_messages.specs.Messages.{request_told, reply_told}

-- the reply to a request's message is the message of the model's reply
abbrev pub RepliesAgree : Type 0
RepliesAgree =
    (seed client : ℕ) (history : List (Entry Content)) (request : Request Content) → IsPlainCall request.call
    → reply_for STORE_BIRTHDAY (map (form seed) history) (request_told seed client request)
    ≡ reply_told seed request (reply_to is_invalid_entry STORE_BIRTHDAY history request)

-- the history that a request's message leaves is the model's
abbrev pub HistoriesAgree : Type 0
HistoriesAgree =
    (seed client : ℕ) (history : List (Entry Content)) (request : Request Content) → IsPlainCall request.call
    → history_for STORE_BIRTHDAY (map (form seed) history) (request_told seed client request)
    ≡ map (form seed) (history_served is_invalid_entry STORE_BIRTHDAY history request)

-- a history of plain entries stays one
abbrev pub HistoriesStayPlain : Type 0
HistoriesStayPlain =
    (history : List (Entry Content)) (request : Request Content) → AllByRecursion IsPlain history → IsPlainCall request.call
    → AllByRecursion IsPlain (history_served is_invalid_entry STORE_BIRTHDAY history request)

-- what a server of plain entries gives is plain
abbrev pub RepliesArePlain : Type 0
RepliesArePlain =
    (history : List (Entry Content)) (request : Request Content) → AllByRecursion IsPlain history → length history < 2 ^ 63
    → IsPlainReply (reply_to is_invalid_entry STORE_BIRTHDAY history request)

-- bytes can say the reply of a server of plain entries
abbrev pub RepliesAreSayable : Type 0
RepliesAreSayable =
    (seed : ℕ) (history : List (Entry Content)) (request : Request Content) → AllByRecursion IsPlain history → length history < 2 ^ 63
    → IsPlainCall request.call
    → IsSayable (reply_told seed request (reply_to is_invalid_entry STORE_BIRTHDAY history request))
