-- The lines of a schedule, as text.
use Rattle.std.specs.Prelude.{ℕ, Bool, ◌==◌, if◌then◌else◌, List, [], ◌∷◌, ◌++◌, codes, map}
use Rattle.std.specs.List.{flat_map, join_with_byte}
use Rattle.std.specs.Fmt.{decimal, signed_decimal}
use Rattle.sync_values.specs.declared.edit.Edit.{Edit as Change}
use Rattle.sync_values.specs.declared.edit.Edit.TheVariants.{SetPreference, NewerPreference, DeletePreference, SetPassword, NewerPassword, DeletePassword, SetNigori}
use Rattle.sync_values.specs.declared.value.Password.{Password as Login}
use Rattle.sync_model.specs.declared.event.Event.{Event as Step}
use Rattle.sync_model.specs.declared.event.Event.TheVariants.{Edit, Cut, Turn, Gather, Post, Ask, Offer, Lose, Crash, Deliver, Answer, SetPass, GivePass}
use Rattle.sync_model.specs.declared.event.Schedule.{Schedule}
use Rattle.sync_model.specs.Text.{text_word, kind_word}
use Rattle.schedule_text.specs.declared.line.Line.{Line}
use Rattle.schedule_text.specs.declared.line.Line.TheVariants.{Clients, Seed, Pass, Event}

-- the words of a login: the texts that name it, its secret and its date
abbrev pub login_words : Login → List (List ℕ)
login_words p =
    text_word p.origin ∷ text_word p.user_element ∷ text_word p.user_value ∷ text_word p.pass_element ∷ text_word p.realm
    ∷ text_word p.secret ∷ signed_decimal p.created ∷ []

-- the words of a change; no line says a change of a profile's keys
unfoldable pub change_words : Change → List (List ℕ)
change_words (SetPreference preference) =
    codes "set" ∷ codes "preference" ∷ text_word preference.name ∷ text_word preference.value ∷ []
change_words (NewerPreference preference) =
    codes "newer" ∷ codes "preference" ∷ text_word preference.name ∷ text_word preference.value
    ∷ text_word preference.extra ∷ []
change_words (DeletePreference name) = codes "del" ∷ codes "preference" ∷ text_word name ∷ []
change_words (SetPassword password) = codes "set" ∷ codes "password" ∷ login_words password
change_words (NewerPassword password) =
    codes "newer" ∷ codes "password" ∷ (login_words password ++ text_word password.extra ∷ [])
change_words (DeletePassword origin user_element user_value pass_element realm) =
    codes "del" ∷ codes "password" ∷ text_word origin ∷ text_word user_element ∷ text_word user_value
    ∷ text_word pass_element ∷ text_word realm ∷ []
change_words (SetNigori keys) = []

-- whether a change was kept that a client stopped within
unfoldable pub kept_word : Bool → List ℕ
kept_word kept = if kept then codes "kept" else codes "lost"

-- the words of an event
unfoldable pub event_words : Step → List (List ℕ)
event_words (Edit client edit) = codes "edit" ∷ decimal client ∷ change_words edit
event_words (Cut client kept edit) = codes "cut" ∷ decimal client ∷ kept_word kept ∷ change_words edit
event_words (Turn client kind) = codes "turn" ∷ decimal client ∷ kind_word kind ∷ []
event_words (Gather client kind) = codes "gather" ∷ decimal client ∷ kind_word kind ∷ []
event_words (Post client kind) = codes "post" ∷ decimal client ∷ kind_word kind ∷ []
event_words (Ask client) = codes "ask" ∷ decimal client ∷ []
event_words (Offer client) = codes "offer" ∷ decimal client ∷ []
event_words (Lose client) = codes "lose" ∷ decimal client ∷ []
event_words (Crash client) = codes "crash" ∷ decimal client ∷ []
event_words (Deliver event) = codes "deliver" ∷ decimal event ∷ []
event_words (Answer event) = codes "answer" ∷ decimal event ∷ []
event_words (SetPass client pass) = codes "setpass" ∷ decimal client ∷ decimal pass ∷ []
event_words (GivePass client pass) = codes "givepass" ∷ decimal client ∷ decimal pass ∷ []

-- the words of a line
unfoldable pub line_words : Line → List (List ℕ)
line_words (Clients clients) = codes "clients" ∷ decimal clients ∷ []
line_words (Seed seed) = codes "seed" ∷ decimal seed ∷ []
line_words (Pass pass) = codes "pass" ∷ text_word pass ∷ []
line_words (Event event) = event_words event

-- some bytes and a line end
abbrev pub with_end : List ℕ → List ℕ
with_end line = line ++ 10 ∷ []

-- words with one space between each two, and a line end
abbrev pub words_text : List (List ℕ) → List ℕ
words_text words = with_end (join_with_byte 32 words)

-- the text of a line
unfoldable pub line_text : Line → List ℕ
line_text line = words_text (line_words line)

-- The lines of a schedule: how many clients there are, the seed unless it is 0, the passphrases, the events.
abbrev pub lines_of : Schedule → List Line
lines_of schedule =
    Clients schedule.clients ∷ (if schedule.seed == 0 then [] else Seed schedule.seed ∷ []) ++ map Pass schedule.passes
    ++ map Event schedule.events

-- the one text of a schedule
unfoldable pub schedule_text : Schedule → List ℕ
schedule_text schedule = flat_map line_text (lines_of schedule)
