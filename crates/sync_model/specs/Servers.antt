-- What a server says to a request, given its birthday and its history.
use Rattle.std.specs.Prelude.{ℕ, ◌+◌, ◌-◌, Bool, false, ◌==◌, ◌&&◌, not, nat_lt, max, if◌then◌else◌, List, [], ◌∷◌, ◌++◌, length, take, Option, Some, None}
use Rattle.std.specs.Option.{option_or}
use Rattle.std.specs.Str.{bytes_eq}
use Rattle.client_tags.specs.declared.Kind.{Kind}
use Rattle.client_tags.specs.declared.Kind.TheVariants.{Nigori, Preference, Password}
use Rattle.sync_model.specs.declared.message.Call.{Call}
use Rattle.sync_model.specs.declared.message.Call.TheVariants.{Commit, Updates as AskUpdates}
use Rattle.sync_model.specs.declared.message.Entry.{Entry}
use Rattle.sync_model.specs.declared.message.Marker.{Marker}
use Rattle.sync_model.specs.declared.message.Reply.{Reply}
use Rattle.sync_model.specs.declared.message.Request.{Request}
use Rattle.sync_model.specs.declared.message.Updates.{Updates}
use Rattle.sync_model.specs.declared.message.Verdict.{Verdict}
use Rattle.sync_model.specs.declared.message.Verdict.TheVariants.{Committed, Updated, Refused}
use Rattle.sync_model.specs.Values.{same_kind}
use Rattle.sync_model.specs.History.{last_version, committed, answers_to}

-- the last of the marks that are given for a type, if there is one
abbrev pub mark_of : Kind → List Marker → Option ℕ
mark_of kind [] = None
mark_of kind (marker ∷ markers) =
    option_or (mark_of kind markers) (if same_kind marker.kind kind then Some marker.mark else None)

-- a version is above a mark, if there is one
abbrev pub is_above : Option ℕ → ℕ → Bool
is_above None version = false
is_above (Some mark) version = nat_lt mark version

-- a write of this version is wanted: it is the last of its key in the whole history, and above its type's mark
abbrev pub is_wanted : {C : Type 0} → List Marker → List (Entry C) → ℕ → Entry C → Bool
is_wanted marks whole version write =
    last_version whole write.key == version && is_above (mark_of write.key.kind marks) version

-- a write as a reply gives it, with its own version
abbrev pub as_given : {C : Type 0} → ℕ → Entry C → Entry C
as_given version write = record { key = write.key; version = version; content = write.content }

-- what is wanted of the oldest part of a history, by ascending version
unfoldable pub wanted_writes : {C : Type 0} → List Marker → List (Entry C) → List (Entry C) → List (Entry C)
wanted_writes marks whole [] = []
wanted_writes marks whole (write ∷ older) =
    wanted_writes marks whole older
    ++ (if is_wanted marks whole (length older + 1) write then as_given (length older + 1) write ∷ [] else [])

-- how many entries a reply may have
abbrev pub MAX_UPDATES : ℕ
MAX_UPDATES = 500

-- the version of the last of some entries, or 0 where there is none
abbrev pub last_given : {C : Type 0} → List (Entry C) → ℕ
last_given [] = 0
last_given (entry ∷ []) = entry.version
last_given (first ∷ second ∷ rest) = last_given (second ∷ rest)

-- The mark of a type after a reply that leaves out so many writes: the server's version where it leaves out
-- none, else the last version given, but no less than the mark before.
abbrev pub new_mark : {C : Type 0} → List (Entry C) → List (Entry C) → ℕ → ℕ → ℕ
new_mark history given remaining mark = if remaining == 0 then length history else max mark (last_given given)

-- the new mark of a type, if it was asked for
abbrev pub new_marker : Kind → Option ℕ → (ℕ → ℕ) → List Marker
new_marker kind None next = []
new_marker kind (Some mark) next = record { kind = kind; mark = next mark } ∷ []

-- the new marks of the types that were asked for, in the order of the types
abbrev pub new_markers : List Marker → (ℕ → ℕ) → List Marker
new_markers marks next =
    new_marker Nigori (mark_of Nigori marks) next ++ new_marker Preference (mark_of Preference marks) next
    ++ new_marker Password (mark_of Password marks) next

-- the first of the wanted writes, the number of the others, and the new marks
abbrev pub updates_of : {C : Type 0} → List (Entry C) → List Marker → List (Entry C) → Updates C
updates_of history marks wanted = record {
  entries = take MAX_UPDATES wanted;
  remaining = length wanted - MAX_UPDATES;
  marks = new_markers marks (new_mark history (take MAX_UPDATES wanted) (length wanted - MAX_UPDATES));
}

-- what a server says to a request that it accepts
abbrev pub verdict_on : {C : Type 0} → (Entry C → Bool) → List (Entry C) → Call C → Verdict C
verdict_on is_invalid history (Commit entries) = Committed (answers_to is_invalid history entries)
verdict_on is_invalid history (AskUpdates marks) = Updated (updates_of history marks (wanted_writes marks history history))

-- the history after a request that the server accepts
abbrev pub history_after : {C : Type 0} → (Entry C → Bool) → List (Entry C) → Call C → List (Entry C)
history_after is_invalid history (Commit entries) = committed is_invalid history entries
history_after is_invalid history (AskUpdates marks) = history

-- a birthday is known, and is another one
abbrev pub is_foreign : List ℕ → Option (List ℕ) → Bool
is_foreign birthday None = false
is_foreign birthday (Some other) = not (bytes_eq other birthday)

-- the code of a request that is for a store of another birthday
abbrev pub NOT_MY_BIRTHDAY : ℕ
NOT_MY_BIRTHDAY = 2

-- the reply to a request: one for a store of another birthday is refused
unfoldable pub reply_to : {C : Type 0} → (Entry C → Bool) → List ℕ → List (Entry C) → Request C → Reply C
reply_to is_invalid birthday history request = record {
  birthday = Some birthday;
  verdict = if is_foreign birthday request.birthday then Refused NOT_MY_BIRTHDAY else verdict_on is_invalid history request.call;
}

-- the history after a request: one for a store of another birthday leaves it
unfoldable pub history_served : {C : Type 0} → (Entry C → Bool) → List ℕ → List (Entry C) → Request C → List (Entry C)
history_served is_invalid birthday history request =
    if is_foreign birthday request.birthday then history else history_after is_invalid history request.call
