-- Whole messages as they are shown.
use Rattle.std.specs.Prelude.{ℕ, Bool, true, false, List, [], ◌∷◌, ◌++◌, length, codes, Option, Some, None}
use Rattle.std.specs.List.{flat_map}
use Rattle.std.specs.Fmt.{decimal}
use Rattle.sync_messages.specs.declared.message.Commit.{Commit}
use Rattle.sync_messages.specs.declared.message.EntryAnswer.{EntryAnswer}
use Rattle.sync_messages.specs.declared.message.GetUpdates.{GetUpdates}
use Rattle.sync_messages.specs.declared.message.Reply.{Reply}
use Rattle.sync_messages.specs.declared.message.Reply.TheVariants as replies
use Rattle.sync_messages.specs.declared.message.Request.{Request}
use Rattle.sync_messages.specs.declared.message.Request.TheVariants as requests
use Rattle.sync_messages.specs.declared.message.Updates.{Updates}
use Rattle.sync_model.specs.Text.{text_word}
use Rattle.message_text.specs.declared.message.WireMessage.{WireMessage}
use Rattle.message_text.specs.declared.message.WireMessage.TheVariants.{ToServer, FromServer}
use Rattle.message_text.specs.Lines.{entity_line, mark_line, answer_line}

-- the first line of a commit: the name of the client's cache, and how many entries it has
unfoldable pub commit_head : Commit → List ℕ
commit_head commit = codes "commit " ++ text_word commit.guid ++ codes " entries " ++ decimal (length commit.entries) ++ 10 ∷ []

-- the first line of a get-updates: how many marks it has
unfoldable pub marks_head : GetUpdates → List ℕ
marks_head updates = codes "updates marks " ++ decimal (length updates.marks) ++ 10 ∷ []

-- a commit with its entries, or a get-updates with its marks
unfoldable pub request_text : Request → List ℕ
request_text (requests.Commit commit) = commit_head commit ++ flat_map entity_line commit.entries
request_text (requests.Updates updates) = marks_head updates ++ flat_map mark_line updates.marks

-- the first line of answers: how many there are
unfoldable pub answers_head : List EntryAnswer → List ℕ
answers_head answers = codes "committed " ++ decimal (length answers) ++ 10 ∷ []

-- the first line of updates: how many entities they have, and how many are left
unfoldable pub updates_head : Updates → List ℕ
updates_head updates = codes "updates " ++ decimal (length updates.entries) ++ codes " remaining " ++ decimal updates.remaining ++ 10 ∷ []

-- the answers to a commit, updates, or an error code
unfoldable pub reply_text : Reply → List ℕ
reply_text (replies.Committed answers) = answers_head answers ++ flat_map answer_line answers
reply_text (replies.Updates updates) =
    updates_head updates ++ flat_map entity_line updates.entries ++ flat_map mark_line updates.marks
reply_text (replies.Refused code) = codes "error " ++ decimal code ++ 10 ∷ []

-- the server's birthday, or that none is named
unfoldable pub birthday_line : Option (List ℕ) → List ℕ
birthday_line None = codes "no birthday\n"
birthday_line (Some birthday) = codes "birthday " ++ text_word birthday ++ 10 ∷ []

-- whether the bytes are the canonical ones
unfoldable pub canonical_line : Bool → List ℕ
canonical_line true = codes "canonical\n"
canonical_line false = codes "other\n"

-- a message in lines, but for whether its bytes are canonical
abbrev pub message_lines : WireMessage → List ℕ
message_lines (ToServer message) = request_text message.request ++ birthday_line message.birthday
message_lines (FromServer message) = reply_text message.reply ++ birthday_line message.birthday

-- a message as it is shown, and whether its bytes were canonical
abbrev pub shown_text : WireMessage → Bool → List ℕ
shown_text message canonical = message_lines message ++ canonical_line canonical

-- that bytes are a message, and whether they were canonical
unfoldable pub checked_text : Bool → List ℕ
checked_text true = codes "ok canonical\n"
checked_text false = codes "ok other\n"
