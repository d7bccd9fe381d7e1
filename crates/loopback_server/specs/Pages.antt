-- What is gathered of the answer to a get-updates.
use Rattle.std.specs.Prelude.{◌≡◌, ℕ, ◌-◌, ◌==◌, max, if◌then◌else◌, List, [], ◌∷◌, ◌++◌, length, take, map, Option, Some, None}
use Rattle.client_tags.specs.declared.Kind.{Kind}
use Rattle.client_tags.specs.declared.Kind.TheVariants.{Nigori, Preference, Password}
use Rattle.sync_specifics.specs.declared.specifics.Specifics.{Specifics}
use Rattle.sync_model.specs.declared.message.Entry.{Entry}
use Rattle.sync_model.specs.declared.message.Marker.{Marker}
use Rattle.sync_model.specs.History.{write_at}
use Rattle.sync_model.specs.Servers.{mark_of, new_marker, as_given, wanted_writes, last_given, MAX_UPDATES}
use Rattle.loopback_server.specs.declared.asked.Asked.{Asked}
use Rattle.loopback_server.specs.declared.page.Page.{Page}
use Rattle.replay_messages.specs.Replies.{told_entity}

-- the marks of the types that are asked for
abbrev pub asked_of : List Marker → Asked
asked_of marks = record {
  nigori = mark_of Nigori marks;
  preference = mark_of Preference marks;
  password = mark_of Password marks;
}

-- the mark of a type, if it is asked for
abbrev pub mark_in : Asked → Kind → Option ℕ
mark_in asked Nigori = asked.nigori
mark_in asked Preference = asked.preference
mark_in asked Password = asked.password

-- the new mark of a type: the server's version where nothing is left out, else the last version that is told, but
-- no less than the mark before
abbrev pub next_mark : ℕ → ℕ → ℕ → ℕ → ℕ
next_mark version remaining last mark = if remaining == 0 then version else max mark last

-- the new marks of the types that were asked for
abbrev pub markers_after : Asked → (ℕ → ℕ) → List Marker
markers_after asked next =
    new_marker Nigori asked.nigori next ++ new_marker Preference asked.preference next ++ new_marker Password asked.password next

-- a page has the first of the wanted writes, the number of the others, and the version of the last that it has
pub record IsPage (page : Page) (wanted : List (Entry (Option Specifics))) : Type 0 where
  pub entries : page.entries.items ≡ map told_entity (take MAX_UPDATES wanted)
  pub remaining : page.remaining ≡ length wanted - MAX_UPDATES
  pub last : page.last ≡ last_given (take MAX_UPDATES wanted)

-- a mark that is below each version, of each type
abbrev pub from_the_start : List Marker
from_the_start = record { kind = Nigori; mark = 0 } ∷ record { kind = Preference; mark = 0 } ∷ record { kind = Password; mark = 0 } ∷ []

-- the last writes of all keys by ascending version: what one wants that has seen nothing
abbrev pub last_writes : List (Entry (Option Specifics)) → List (Entry (Option Specifics))
last_writes history = wanted_writes from_the_start history history

-- the versions of the wanted writes, which ascend
abbrev pub wanted_versions : List Marker → List (Entry (Option Specifics)) → List ℕ
wanted_versions marks history = map (λ entry. entry.version) (wanted_writes marks history history)

-- what a reply gives of a version, which may have a write
abbrev pub given : ℕ → Option (Entry (Option Specifics)) → List (Entry (Option Specifics))
given version None = []
given version (Some write) = as_given version write ∷ []

-- what a reply gives of a version of a history
abbrev pub given_at : List (Entry (Option Specifics)) → ℕ → List (Entry (Option Specifics))
given_at history version = given version (write_at history version)
