-- The report of a world: what the server and each client hold, and the fate of each edit, a line each.
use Rattle.std.specs.Prelude.{ℕ, ◌+◌, Bool, true, false, ◌&&◌, ◌==◌, if◌then◌else◌, List, [], ◌∷◌, ◌++◌, length, count_by, codes, Option, Some, None, map}
use Rattle.std.specs.List.{flat_map}
use Rattle.std.specs.Str.{bytes_eq}
use Rattle.std.specs.Fmt.{decimal, signed_decimal}
use Rattle.client_tags.specs.declared.Kind.{Kind}
use Rattle.client_tags.specs.declared.Kind.TheVariants.{Nigori, Preference, Password}
use Rattle.key_derivation.specs.declared.NigoriKey.{NigoriKey}
use Rattle.sync_values.specs.declared.value.NigoriValue.{NigoriValue}
use Rattle.sync_values.specs.declared.value.Password.{Password as Login}
use Rattle.sync_values.specs.declared.value.Preference.{Preference as Pref}
use Rattle.sync_values.specs.declared.value.Value.{Value}
use Rattle.sync_values.specs.declared.value.Value.TheVariants.{Absent, Preference as Setting_value, Password as Login_value, Nigori as Keys_value}
use Rattle.sync_model.specs.declared.event.EventOutcome.{EventOutcome}
use Rattle.sync_model.specs.declared.event.EventOutcome.TheVariants.{Void, Requested, Delivered}
use Rattle.sync_model.specs.declared.fate.Fate.{Fate}
use Rattle.sync_model.specs.declared.conflict.Row.{Row}
use Rattle.sync_model.specs.declared.conflict.Row.TheVariants.{C0, C1, C2, C3, C4, C5, C6}
use Rattle.sync_model.specs.declared.fate.Fate.TheVariants.{Followed, Committed, Matched, Taken, Merged}
use Rattle.sync_model.specs.declared.message.Content.{Content}
use Rattle.sync_model.specs.declared.message.Entry.{Entry}
use Rattle.sync_model.specs.Text.{text_word, kind_word}
use Rattle.sync_model.specs.Settings.{Setting}
use Rattle.sync_model.specs.History.{last_version, key_count}
use Rattle.sync_model.specs.declared.state.KeyState.{KeyState}
use Rattle.sync_model.specs.Sides.{Side, States, due_count, pending_count, is_caught_up}
use Rattle.sync_model.specs.Offers.{reseal_count}
use Rattle.sync_model.specs.Clients.{Client, side_of, wanted_name}
use Rattle.sync_model.specs.Fates.{fate_of, edits_made}
use Rattle.sync_model.specs.Worlds.{World}

-- an event was void
abbrev pub is_void : EventOutcome → Bool
is_void Void = true
is_void _ = false

-- an event made a request
abbrev pub is_request : EventOutcome → Bool
is_request (Requested client request) = true
is_request _ = false

-- an event was a delivery
abbrev pub is_delivery : EventOutcome → Bool
is_delivery (Delivered request reply) = true
is_delivery _ = false

-- a number of events, and how many of them were void
unfoldable pub events_text : ℕ → ℕ → List ℕ
events_text events void = codes "events " ++ decimal events ++ codes " void " ++ decimal void ++ 10 ∷ []

-- how many events there were, and how many of them were void
abbrev pub events_line : List EventOutcome → List ℕ
events_line outcomes = events_text (length outcomes) (count_by is_void outcomes)

-- a version, and a number of keys
unfoldable pub server_text : ℕ → ℕ → List ℕ
server_text version keys = codes "server version " ++ decimal version ++ codes " keys " ++ decimal keys ++ 10 ∷ []

-- the server's version, and how many keys it has, those of tombstones too
abbrev pub server_line : List (Entry Content) → List ℕ
server_line history = server_text (length history) (key_count history)

-- the fields of a value that only a newer client knows, if there are any
unfoldable pub extra_text : List ℕ → List ℕ
extra_text extra = if length extra == 0 then [] else codes " + " ++ text_word extra

-- the name of a preference and its value
abbrev pub preference_text : Pref → List ℕ
preference_text preference = text_word preference.name ++ 32 ∷ text_word preference.value

-- the seven words of a login
abbrev pub password_text : Login → List ℕ
password_text p =
    text_word p.origin ++ 32 ∷ text_word p.user_element ++ 32 ∷ text_word p.user_value ++ 32 ∷ text_word p.pass_element
    ++ 32 ∷ text_word p.realm ++ 32 ∷ text_word p.secret ++ 32 ∷ signed_decimal p.created

-- the first place of a name among some names, counted from a number on, or 0 where it is none of them
abbrev pub place_from : ℕ → List ℕ → List (List ℕ) → ℕ
place_from number name [] = 0
place_from number name (other ∷ others) = if bytes_eq other name then number else place_from (number + 1) name others

-- the least number of a passphrase whose key has this name, or 0 where there is none
abbrev pub pass_number : Setting → List (List ℕ) → List ℕ → ℕ
pass_number setting passes name = place_from 1 name (map (λ pass. setting.key_name (setting.pass_key pass)) passes)

-- the number of a key, given how the names of keys are numbered
unfoldable pub key_text : Setting → (List ℕ → ℕ) → NigoriKey → List ℕ
key_text setting numbered key = 32 ∷ decimal (numbered (setting.key_name key))

-- the numbers of some keys
abbrev pub key_numbers : Setting → (List ℕ → ℕ) → List NigoriKey → List ℕ
key_numbers setting numbered keys = flat_map (key_text setting numbered) keys

-- a profile's keys: the number of the one that locks them, and those of all
unfoldable pub nigori_text : Setting → (List ℕ → ℕ) → NigoriValue → List ℕ
nigori_text setting numbered nigori =
    codes "lock " ++ decimal (numbered nigori.lock) ++ codes " keys" ++ key_numbers setting numbered nigori.keys

-- a value, given how the names of keys are numbered
unfoldable pub value_text : Setting → (List ℕ → ℕ) → Value → List ℕ
value_text setting numbered Absent = codes "absent"
value_text setting numbered (Setting_value preference) = preference_text preference ++ extra_text preference.extra
value_text setting numbered (Login_value password) = password_text password ++ extra_text password.extra
value_text setting numbered (Keys_value nigori) = nigori_text setting numbered nigori

-- what seals a write, given how the names of keys are numbered
unfoldable pub lock_text : (List ℕ → ℕ) → Option (List ℕ) → List ℕ
lock_text numbered None = codes "plain"
lock_text numbered (Some name) = codes "pass " ++ decimal (numbered name)

-- a write that is the last of its key
unfoldable pub entity_line : Setting → (List ℕ → ℕ) → ℕ → Entry Content → List ℕ
entity_line setting numbered version write =
    codes "entity " ++ decimal version ++ 32 ∷ kind_word write.key.kind ++ 32 ∷ setting.hash_text write.key.hash
    ++ 32 ∷ lock_text numbered write.content.lock ++ 32 ∷ value_text setting numbered write.content.value ++ 10 ∷ []

-- the line of a write, if the whole history has no later one of its key
abbrev pub entity_text : Setting → (List ℕ → ℕ) → List (Entry Content) → ℕ → Entry Content → List ℕ
entity_text setting numbered whole version write =
    if last_version whole write.key == version then entity_line setting numbered version write else []

-- the last writes of their keys among the oldest part of a history, by ascending version
unfoldable pub entity_lines : Setting → (List ℕ → ℕ) → List (Entry Content) → List (Entry Content) → List ℕ
entity_lines setting numbered whole [] = []
entity_lines setting numbered whole (write ∷ older) =
    entity_lines setting numbered whole older ++ entity_text setting numbered whole (length older + 1) write

-- a client has all that the server has, and nothing waits
abbrev pub is_client_caught_up : ℕ → Client → Bool
is_client_caught_up version client =
    is_caught_up version client.nigori && is_caught_up version client.preference && is_caught_up version client.password

-- a client by its number, and whether it is caught up
unfoldable pub client_text : ℕ → Bool → List ℕ
client_text number caught_up =
    codes "client " ++ decimal number ++ (if caught_up then codes " caught-up" else codes " behind") ++ 10 ∷ []

-- whether a client is caught up
abbrev pub client_line : ℕ → ℕ → Client → List ℕ
client_line version number client = client_text number (is_client_caught_up version client)

-- A type of a client, a mark, how many keys are due and how many are to be sealed anew, and how many updates
-- and how many tasks wait.
unfoldable pub side_text : ℕ → Kind → ℕ → ℕ → ℕ → ℕ → ℕ → List ℕ
side_text number kind mark due reseal pending mailbox =
    codes "side " ++ decimal number ++ 32 ∷ kind_word kind ++ codes " mark " ++ decimal mark ++ codes " due "
    ++ decimal due ++ codes " reseal " ++ decimal reseal ++ codes " pending " ++ decimal pending ++ codes " mailbox "
    ++ decimal mailbox ++ 10 ∷ []

-- the mark of a side, what it has to send under the wanted name, and what waits
abbrev pub side_line : ℕ → Kind → Option (List ℕ) → Side → List ℕ
side_line number kind name side =
    side_text number kind side.mark (due_count side.states) (reseal_count name side.states) (pending_count side.pending)
    (length side.mailbox)

-- a key of a client, the version that the client knows of it, and the client's value
unfoldable pub value_line_text : Setting → (List ℕ → ℕ) → ℕ → Kind → List ℕ → ℕ → Value → List ℕ
value_line_text setting numbered number kind hash known own =
    codes "value " ++ decimal number ++ 32 ∷ kind_word kind ++ 32 ∷ setting.hash_text hash ++ codes " known "
    ++ decimal known ++ 32 ∷ value_text setting numbered own ++ 10 ∷ []

-- what a client has of a key
abbrev pub value_line : Setting → (List ℕ → ℕ) → ℕ → Kind → List ℕ → KeyState → List ℕ
value_line setting numbered number kind hash state = value_line_text setting numbered number kind hash state.known state.own

-- what a client has of each key of a type, by ascending hash
abbrev pub value_lines : Setting → (List ℕ → ℕ) → ℕ → Kind → States → List ℕ
value_lines setting numbered number kind states =
    flat_map (λ entry. value_line setting numbered number kind entry.0 entry.1) states

-- a row of the conflict table
unfoldable pub row_word : Row → List ℕ
row_word C0 = codes "C0"
row_word C1 = codes "C1"
row_word C2 = codes "C2"
row_word C3 = codes "C3"
row_word C4 = codes "C4"
row_word C5 = codes "C5"
row_word C6 = codes "C6"

-- what became of an edit
unfoldable pub fate_text : Option Fate → List ℕ
fate_text None = codes "stands"
fate_text (Some (Followed later)) = codes "followed " ++ decimal later
fate_text (Some (Committed version)) = codes "committed " ++ decimal version
fate_text (Some (Matched version)) = codes "matched " ++ decimal version
fate_text (Some (Taken version row)) = codes "taken " ++ decimal version ++ 32 ∷ row_word row
fate_text (Some (Merged version row)) = codes "merged " ++ decimal version ++ 32 ∷ row_word row

-- the fate of an edit
unfoldable pub fate_line : ℕ → Kind → ℕ → Option Fate → List ℕ
fate_line client kind number fate =
    codes "fate " ++ decimal client ++ 32 ∷ kind_word kind ++ 32 ∷ decimal number ++ 32 ∷ fate_text fate ++ 10 ∷ []

-- the fates of a client's acknowledged edits of a type, by their numbers
abbrev pub fate_lines : World → ℕ → Kind → List ℕ
fate_lines world client kind =
    flat_map (λ number. fate_line client kind number (fate_of world.settlements client kind number))
    (edits_made client kind world.outcomes)

-- one text for each type, in their order
abbrev pub for_each_kind : (Kind → List ℕ) → List ℕ
for_each_kind text = text Nigori ++ text Preference ++ text Password

-- all lines of a client
unfoldable pub client_lines : Setting → World → ℕ → Client → List ℕ
client_lines setting world number client =
    client_line (length world.history) number client
    ++ for_each_kind (λ kind. side_line number kind (wanted_name setting client kind) (side_of client kind))
    ++ for_each_kind (λ kind. value_lines setting (pass_number setting world.passes) number kind (side_of client kind).states)
    ++ for_each_kind (λ kind. fate_lines world number kind)

-- all lines of some clients, which are numbered from this number on
unfoldable pub clients_lines : Setting → World → ℕ → List Client → List ℕ
clients_lines setting world number [] = []
clients_lines setting world number (client ∷ clients) =
    client_lines setting world number client ++ clients_lines setting world (number + 1) clients

-- a number of requests, and a number of deliveries
unfoldable pub totals_text : ℕ → ℕ → List ℕ
totals_text requests deliveries =
    codes "requests " ++ decimal requests ++ codes " deliveries " ++ decimal deliveries ++ 10 ∷ []

-- how many requests were made, and how many deliveries
abbrev pub totals_line : List EventOutcome → List ℕ
totals_line outcomes = totals_text (count_by is_request outcomes) (count_by is_delivery outcomes)

-- the report of a world
unfoldable pub report : Setting → World → List ℕ
report setting world =
    events_line world.outcomes
    ++ server_line world.history
    ++ entity_lines setting (pass_number setting world.passes) world.history world.history
    ++ clients_lines setting world 1 world.clients
    ++ totals_line world.outcomes
