-- Which schedules there are, which of them this stage knows, and which text spells one.
use Rattle.std.specs.Prelude.{◌≡◌, ℕ, ℤ, pos, negsuc, ◌<◌, ◌≤◌, Bool, true, false, List, [], length, IsTrue}
use Rattle.std.specs.List.{AllByRecursion}
use Rattle.client_tags.specs.declared.Kind.{Kind}
use Rattle.client_tags.specs.declared.Kind.TheVariants.{Preference, Password}
use Rattle.sync_values.specs.declared.value.Password.{Password as Login}
use Rattle.sync_values.specs.declared.edit.Edit.{Edit as Change}
use Rattle.sync_values.specs.declared.edit.Edit.TheVariants.{SetPreference, NewerPreference, DeletePreference, SetPassword, NewerPassword, DeletePassword, SetNigori}
use Rattle.message_fields.specs.Unknown.{IsCanonicalExtra}
use Rattle.sync_specifics.specs.Extras.{extra_table}
use Rattle.sync_model.specs.declared.event.Event.{Event}
use Rattle.sync_model.specs.declared.event.Event.TheVariants.{Edit, Cut, Turn, Gather, Post, Ask, Offer, Lose, Crash, Deliver, Answer, SetPass, GivePass}
use Rattle.sync_model.specs.declared.event.Schedule.{Schedule}
use Rattle.schedule_text.specs.Limits.{MAX_CLIENTS, MAX_PASSES, MAX_EVENTS, MAX_SEED, MAX_DATE}
use Rattle.schedule_text.specs.Lines.{schedule_text}

-- the numbers are bytes
abbrev pub AreBytes : List ℕ → Type 0
AreBytes text = AllByRecursion (λ byte. byte < 256) text

-- a number from 1 up to another
abbrev pub IsUpTo : ℕ → ℕ → Type 0
IsUpTo high number = (1 ≤ number) × (number ≤ high)

-- a date that a line can say: it is not below 0
abbrev pub IsDate : ℤ → Type 0
IsDate (pos date) = date ≤ MAX_DATE
IsDate (negsuc date) = ⊥

-- canonical unknown fields of a value of this type
abbrev pub IsExtra : Kind → List ℕ → Type 0
IsExtra kind extra = IsCanonicalExtra (extra_table kind) extra

-- a login that a line can say, whatever its unknown fields are: its texts are bytes
abbrev pub IsLogin : Login → Type 0
IsLogin p =
    AreBytes p.origin × AreBytes p.user_element × AreBytes p.user_value × AreBytes p.pass_element × AreBytes p.realm
    × AreBytes p.secret × IsDate p.created

-- A change that a line can say: of a preference or of a password, its texts being bytes. What is set has no unknown
-- fields of its own, and those of a newer client are canonical.
abbrev pub IsChange : Change → Type 0
IsChange (SetPreference preference) = AreBytes preference.name × AreBytes preference.value × (preference.extra ≡ [])
IsChange (NewerPreference preference) =
    AreBytes preference.name × AreBytes preference.value × AreBytes preference.extra × IsExtra Preference preference.extra
IsChange (DeletePreference name) = AreBytes name
IsChange (SetPassword password) = IsLogin password × (password.extra ≡ [])
IsChange (NewerPassword password) = IsLogin password × AreBytes password.extra × IsExtra Password password.extra
IsChange (DeletePassword origin user_element user_value pass_element realm) =
    AreBytes origin × AreBytes user_element × AreBytes user_value × AreBytes pass_element × AreBytes realm
IsChange (SetNigori keys) = ⊥

-- an event where there are so many clients and so many passphrases
abbrev pub IsEvent : ℕ → ℕ → Event → Type 0
IsEvent clients passes (Edit client edit) = IsUpTo clients client × IsChange edit
IsEvent clients passes (Cut client kept edit) = IsUpTo clients client × IsChange edit
IsEvent clients passes (Turn client kind) = IsUpTo clients client
IsEvent clients passes (Gather client kind) = IsUpTo clients client
IsEvent clients passes (Post client kind) = IsUpTo clients client
IsEvent clients passes (Ask client) = IsUpTo clients client
IsEvent clients passes (Offer client) = IsUpTo clients client
IsEvent clients passes (Lose client) = IsUpTo clients client
IsEvent clients passes (Crash client) = IsUpTo clients client
IsEvent clients passes (Deliver event) = IsUpTo MAX_EVENTS event
IsEvent clients passes (Answer event) = IsUpTo MAX_EVENTS event
IsEvent clients passes (SetPass client pass) = IsUpTo clients client × IsUpTo passes pass
IsEvent clients passes (GivePass client pass) = IsUpTo clients client × IsUpTo passes pass

-- a schedule, of any stage: its numbers are within their bounds, its texts are bytes, and it is not too long
pub record IsSchedule (schedule : Schedule) : Type 0 where
  pub clients_are : IsUpTo MAX_CLIENTS schedule.clients
  pub seed_is : schedule.seed ≤ MAX_SEED
  pub passes_are : AllByRecursion AreBytes schedule.passes
  pub passes_within : length schedule.passes ≤ MAX_PASSES
  pub events_are : AllByRecursion (IsEvent schedule.clients (length schedule.passes)) schedule.events
  pub events_within : length schedule.events ≤ MAX_EVENTS

-- this stage knows the change: it is of a preference
abbrev pub is_built_change : Change → Bool
is_built_change (SetPreference preference) = true
is_built_change (NewerPreference preference) = true
is_built_change (DeletePreference name) = true
is_built_change (SetPassword password) = false
is_built_change (NewerPassword password) = false
is_built_change (DeletePassword origin user_element user_value pass_element realm) = false
is_built_change (SetNigori keys) = false

-- this stage knows the event
abbrev pub is_built : Event → Bool
is_built (Edit client edit) = is_built_change edit
is_built (Turn client kind) = true
is_built (Gather client kind) = true
is_built (Post client kind) = true
is_built (Ask client) = true
is_built (Offer client) = true
is_built (Deliver event) = true
is_built (Answer event) = true
is_built (Cut client kept edit) = false
is_built (Lose client) = false
is_built (Crash client) = false
is_built (SetPass client pass) = false
is_built (GivePass client pass) = false

-- an event that this stage knows
abbrev pub IsBuilt : Event → Type 0
IsBuilt event = IsTrue (is_built event)

-- a schedule that this stage knows: it has no passphrases, and each event is known
pub record IsBuiltSchedule (schedule : Schedule) : Type 0 where
  pub no_passes : schedule.passes ≡ []
  pub events_are : AllByRecursion IsBuilt schedule.events

-- a text spells a schedule
pub record Spells (text : List ℕ) (schedule : Schedule) : Type 0 where
  pub is_text : text ≡ schedule_text schedule
  pub is_schedule : IsSchedule schedule
  pub is_built : IsBuiltSchedule schedule
