-- Which forms a line may have, and which of them may stand at a place.
use Rattle.std.specs.Prelude.{ℕ, Bool, true, false, ◌==◌, ◌&&◌, if◌then◌else◌, List, [], ◌∷◌, ◌++◌, length, codes, map, Option, Some, None}
use Rattle.std.specs.List.{find}
use Rattle.std.specs.Str.{bytes_eq}
use Rattle.client_tags.specs.declared.Kind.{Kind}
use Rattle.client_tags.specs.declared.Kind.TheVariants.{Preference, Password}
use Rattle.sync_model.specs.declared.event.Schedule.{Schedule}
use Rattle.schedule_text.specs.Limits.{MAX_CLIENTS, MAX_EVENTS, MAX_SEED, MAX_DATE}

-- What may stand in a place of a line: one word, a number from one to another, the word of any text, or that of a text
-- that is canonical unknown fields of a type.
pub data Slot : Type 0 where
  Fixed : (word : List ℕ) → Slot
  Between : (low high : ℕ) → Slot
  AnyText : Slot
  AnyExtra : (kind : Kind) → Slot

-- some forms, each after a slot
abbrev pub after_slot : Slot → List (List Slot) → List (List Slot)
after_slot slot forms = map (λ form. slot ∷ form) forms

-- some forms, each after a word
abbrev pub after_word : List ℕ → List (List Slot) → List (List Slot)
after_word word forms = after_slot (Fixed word) forms

-- how many clients there are
unfoldable pub clients_form : List Slot
clients_form = Fixed (codes "clients") ∷ Between 1 MAX_CLIENTS ∷ []

-- the seed
unfoldable pub seed_form : List Slot
seed_form = Fixed (codes "seed") ∷ Between 1 MAX_SEED ∷ []

-- a passphrase
unfoldable pub pass_form : List Slot
pass_form = Fixed (codes "pass") ∷ AnyText ∷ []

-- the texts that name a login
abbrev pub site_form : List Slot
site_form = AnyText ∷ AnyText ∷ AnyText ∷ AnyText ∷ AnyText ∷ []

-- a login: the texts that name it, its secret and its date
abbrev pub login_form : List Slot
login_form = site_form ++ AnyText ∷ Between 0 MAX_DATE ∷ []

-- what is set: a preference by its name and value, or a password
unfoldable pub set_forms : List (List Slot)
set_forms =
    after_word (codes "preference") ((AnyText ∷ AnyText ∷ []) ∷ []) ++ after_word (codes "password") (login_form ∷ [])

-- what is set as a newer client sets it, with its unknown fields at the end
unfoldable pub newer_forms : List (List Slot)
newer_forms =
    after_word (codes "preference") ((AnyText ∷ AnyText ∷ AnyExtra Preference ∷ []) ∷ [])
    ++ after_word (codes "password") ((login_form ++ AnyExtra Password ∷ []) ∷ [])

-- what is deleted: a preference by its name, or a password
unfoldable pub delete_forms : List (List Slot)
delete_forms = after_word (codes "preference") ((AnyText ∷ []) ∷ []) ++ after_word (codes "password") (site_form ∷ [])

-- the changes of preferences and of passwords
unfoldable pub change_forms : List (List Slot)
change_forms =
    after_word (codes "set") set_forms ++ after_word (codes "newer") newer_forms ++ after_word (codes "del") delete_forms

-- the names of the types
unfoldable pub kind_forms : List (List Slot)
kind_forms = (Fixed (codes "nigori") ∷ []) ∷ (Fixed (codes "preference") ∷ []) ∷ (Fixed (codes "password") ∷ []) ∷ []

-- the changes that a client stopped within, each kept or lost
unfoldable pub kept_forms : List (List Slot)
kept_forms = after_word (codes "kept") change_forms ++ after_word (codes "lost") change_forms

-- the number of a client, and no more
abbrev pub client_forms : ℕ → List (List Slot)
client_forms clients = (Between 1 clients ∷ []) ∷ []

-- the number of an event, and no more
abbrev pub number_forms : List (List Slot)
number_forms = (Between 1 MAX_EVENTS ∷ []) ∷ []

-- the numbers of a client and of a passphrase
abbrev pub pass_forms : ℕ → ℕ → List (List Slot)
pass_forms clients passes = (Between 1 clients ∷ Between 1 passes ∷ []) ∷ []

-- the events, where there are so many clients and so many passphrases
unfoldable pub event_forms : ℕ → ℕ → List (List Slot)
event_forms clients passes =
    after_word (codes "edit") (after_slot (Between 1 clients) change_forms)
    ++ after_word (codes "cut") (after_slot (Between 1 clients) kept_forms)
    ++ after_word (codes "turn") (after_slot (Between 1 clients) kind_forms)
    ++ after_word (codes "gather") (after_slot (Between 1 clients) kind_forms)
    ++ after_word (codes "post") (after_slot (Between 1 clients) kind_forms)
    ++ after_word (codes "ask") (client_forms clients)
    ++ after_word (codes "offer") (client_forms clients)
    ++ after_word (codes "lose") (client_forms clients)
    ++ after_word (codes "crash") (client_forms clients)
    ++ after_word (codes "deliver") number_forms
    ++ after_word (codes "answer") number_forms
    ++ after_word (codes "setpass") (pass_forms clients passes)
    ++ after_word (codes "givepass") (pass_forms clients passes)

-- no event stands before
abbrev pub may_pass : Schedule → Bool
may_pass before = length before.events == 0

-- nothing but the number of clients stands before
abbrev pub may_seed : Schedule → Bool
may_seed before = before.seed == 0 && length before.passes == 0 && length before.events == 0

-- a form, where it may stand
abbrev pub if_may : Bool → List Slot → List (List Slot)
if_may may form = if may then form ∷ [] else []

-- the forms that may stand after what stands before: first the number of clients, then the others in their order
unfoldable pub forms_after : Option Schedule → List (List Slot)
forms_after None = clients_form ∷ []
forms_after (Some before) =
    if_may (may_seed before) seed_form ++ if_may (may_pass before) pass_form
    ++ event_forms before.clients (length before.passes)

-- a form has as many places as there are words, and its fixed words are theirs
abbrev pub fits : List (List ℕ) → List Slot → Bool
fits [] [] = true
fits (word ∷ words) (Fixed fixed ∷ form) = bytes_eq fixed word && fits words form
fits (word ∷ words) (Between low high ∷ form) = fits words form
fits (word ∷ words) (AnyText ∷ form) = fits words form
fits (word ∷ words) (AnyExtra kind ∷ form) = fits words form
fits [] (slot ∷ form) = false
fits (word ∷ words) [] = false

-- the one of some forms that some words fit
abbrev pub form_of : List (List ℕ) → List (List Slot) → Option (List Slot)
form_of words forms = find (fits words) forms
