-- Which entries of a commit the server stored.
use Rattle.std.specs.Prelude.{Bool, true, false, if◌then◌else◌, List, [], ◌∷◌, ◌++◌}
use Rattle.sync_messages.specs.declared.message.EntryAnswer.{EntryAnswer}
use Rattle.sync_messages.specs.declared.message.Outcome.{Outcome}
use Rattle.sync_messages.specs.declared.message.Outcome.TheVariants as outcomes
use Rattle.sync_messages.specs.declared.message.Reply.{Reply}
use Rattle.sync_messages.specs.declared.message.Reply.TheVariants as replies
use Rattle.sync_model.specs.declared.message.Call.{Call}
use Rattle.sync_model.specs.declared.message.Call.TheVariants.{Commit, Updates}
use Rattle.sync_model.specs.declared.message.Content.{Content}
use Rattle.sync_model.specs.declared.message.Entry.{Entry}

-- the entries that a call asks to store
abbrev pub entries_of : Call Content → List (Entry Content)
entries_of (Commit entries) = entries
entries_of (Updates marks) = []

-- the answers to the entries of a commit
abbrev pub answers_of : Reply → List EntryAnswer
answers_of (replies.Committed answers) = answers
answers_of (replies.Updates updates) = []
answers_of (replies.Refused code) = []

-- an entry was stored
abbrev pub is_success : Outcome → Bool
is_success outcomes.Success = true
is_success _ = false

-- the entries that were stored, by the answers to them, in their order
unfoldable pub stored_by : List (Entry Content) → List EntryAnswer → List (Entry Content)
stored_by [] answers = []
stored_by (entry ∷ entries) [] = []
stored_by (entry ∷ entries) (answer ∷ answers) =
    (if is_success answer.outcome then entry ∷ [] else []) ++ stored_by entries answers
