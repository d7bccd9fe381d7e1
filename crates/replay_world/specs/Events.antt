-- The events that a world of this stage can step.
use Rattle.std.specs.Prelude.{◌≡◌, ℕ, ◌≤◌, IsTrue, length}
use Rattle.client_tags.specs.declared.Kind.TheVariants.{Preference}
use Rattle.sync_specifics.specs.Extras.{IsCanonicalEdit}
use Rattle.sync_model.specs.declared.event.Event.{Event}
use Rattle.sync_model.specs.declared.event.Event.TheVariants.{Edit, Cut, Turn, Gather, Post, Ask, Offer, Lose, Crash, Deliver, Answer, SetPass, GivePass}
use Rattle.sync_model.specs.Edits.{edit_kind}
use Rattle.sync_model.specs.Report.{is_void}
use Rattle.sync_model.specs.Worlds.{World, outcome_at}

-- the number of one of so many clients
pub record IsNumber (clients number : ℕ) : Type 0 where
  pub from_one : 1 ≤ number
  pub within : number ≤ clients

-- An event of one of so many clients, and of a preference with a canonical extra where it is an edit. Nothing is cut short or
-- lost, and there are no passphrases.
abbrev pub CanStep : ℕ → Event → Type 0
CanStep clients (Edit client edit) = IsNumber clients client × (edit_kind edit ≡ Preference) × IsCanonicalEdit edit
CanStep clients (Turn client kind) = IsNumber clients client
CanStep clients (Gather client kind) = IsNumber clients client
CanStep clients (Post client kind) = IsNumber clients client
CanStep clients (Ask client) = IsNumber clients client
CanStep clients (Offer client) = IsNumber clients client
CanStep clients (Deliver event) = Unit {0}
CanStep clients (Answer event) = Unit {0}
CanStep clients (Cut client kept edit) = ⊥
CanStep clients (Lose client) = ⊥
CanStep clients (Crash client) = ⊥
CanStep clients (SetPass client pass) = ⊥
CanStep clients (GivePass client pass) = ⊥

-- the last event was void
abbrev pub IsVoided : World → Type 0
IsVoided world = IsTrue (is_void (outcome_at world.outcomes (length world.outcomes)))
