-- The edits of a spelled schedule are canonical.
use Rattle.std.proofs.Common.{ℕ, List, [], ◌∷◌, length}
use Rattle.std.specs.List.{AllByRecursion}
use Rattle.sync_values.specs.declared.edit.Edit.{Edit as Change}
use Rattle.sync_values.specs.declared.edit.Edit.TheVariants.{SetPreference, NewerPreference, DeletePreference, SetPassword, NewerPassword, DeletePassword, SetNigori}
use Rattle.sync_specifics.specs.Extras.{IsCanonicalEdit}
use Rattle.sync_model.specs.declared.event.Event.{Event as Step}
use Rattle.sync_model.specs.declared.event.Event.TheVariants.{Edit, Cut, Turn, Gather, Post, Ask, Offer, Lose, Crash, Deliver, Answer, SetPass, GivePass}
use Rattle.schedule_text.specs.Laws.{MakesCanonicalEdit, SpellsCanonicalEdits}
use Rattle.schedule_text.specs.Spelling.{IsChange, IsEvent}

pub change_is_canonical : (edit : Change) → IsChange edit → IsCanonicalEdit edit
change_is_canonical (SetPreference preference) is = is.2
change_is_canonical (NewerPreference preference) is = is.3
change_is_canonical (DeletePreference name) is = tt
change_is_canonical (SetPassword password) is = is.1
change_is_canonical (NewerPassword password) is = is.2
change_is_canonical (DeletePassword origin user_element user_value pass_element realm) is = tt
change_is_canonical (SetNigori keys) is = tt

event_is_canonical : (clients passes : ℕ) (event : Step) → IsEvent clients passes event → MakesCanonicalEdit event
event_is_canonical clients passes (Edit client edit) is = change_is_canonical edit is.1
event_is_canonical clients passes (Cut client kept edit) is = change_is_canonical edit is.1
event_is_canonical clients passes (Turn client kind) is = tt
event_is_canonical clients passes (Gather client kind) is = tt
event_is_canonical clients passes (Post client kind) is = tt
event_is_canonical clients passes (Ask client) is = tt
event_is_canonical clients passes (Offer client) is = tt
event_is_canonical clients passes (Lose client) is = tt
event_is_canonical clients passes (Crash client) is = tt
event_is_canonical clients passes (Deliver event) is = tt
event_is_canonical clients passes (Answer event) is = tt
event_is_canonical clients passes (SetPass client pass) is = tt
event_is_canonical clients passes (GivePass client pass) is = tt

events_are_canonical : (clients passes : ℕ) (events : List Step) → AllByRecursion (IsEvent clients passes) events → AllByRecursion MakesCanonicalEdit events
events_are_canonical clients passes [] are = tt
events_are_canonical clients passes (event ∷ events) are = (event_is_canonical clients passes event are.0, events_are_canonical clients passes events are.1)

pub canonical_edits : SpellsCanonicalEdits
canonical_edits text schedule spells = events_are_canonical schedule.clients (length schedule.passes) schedule.events spells.is_schedule.events_are
