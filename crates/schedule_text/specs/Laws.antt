-- What holds of texts: none spells two schedules, none is refused twice, none does both, and each schedule has one.
use Rattle.std.specs.Prelude.{◌≡◌, ℕ, List}
use Rattle.std.specs.List.{AllByRecursion}
use Rattle.sync_specifics.specs.Extras.{IsCanonicalEdit}
use Rattle.sync_model.specs.declared.event.Event.{Event}
use Rattle.sync_model.specs.declared.event.Event.TheVariants.{Edit, Cut, Turn, Gather, Post, Ask, Offer, Lose, Crash, Deliver, Answer, SetPass, GivePass}
use Rattle.sync_model.specs.declared.event.Schedule.{Schedule}
use Rattle.schedule_text.specs.declared.fault.LineReason.{LineReason}
use Rattle.schedule_text.specs.Lines.{schedule_text}
use Rattle.schedule_text.specs.Spelling.{IsSchedule, IsBuiltSchedule, Spells}
use Rattle.schedule_text.specs.Refusals.{IsRefused}

-- a text spells at most one schedule
abbrev pub SpellsOneSchedule : Type 0
SpellsOneSchedule = (text : List ℕ) (one other : Schedule) → Spells text one → Spells text other → one ≡ other

-- a text is refused at most at one line, for one reason
abbrev pub RefusesOneLine : Type 0
RefusesOneLine =
    (text : List ℕ) (line other_line : ℕ) (reason other_reason : LineReason) → IsRefused text line reason
    → IsRefused text other_line other_reason → (line ≡ other_line) × (reason ≡ other_reason)

-- a text that spells a schedule is not refused
abbrev pub RefusesNoSchedule : Type 0
RefusesNoSchedule =
    (text : List ℕ) (schedule : Schedule) (line : ℕ) (reason : LineReason) → Spells text schedule
    → IsRefused text line reason → ⊥

-- the text of a schedule that this stage knows spells it, and no other schedule
abbrev pub IsReadBack : Type 0
IsReadBack =
    (schedule other : Schedule) → IsSchedule schedule → IsBuiltSchedule schedule
    → Spells (schedule_text schedule) schedule × (Spells (schedule_text schedule) other → schedule ≡ other)

-- the edit that an event makes, if it makes one, is canonical
abbrev pub MakesCanonicalEdit : Event → Type 0
MakesCanonicalEdit (Edit client edit) = IsCanonicalEdit edit
MakesCanonicalEdit (Cut client kept edit) = IsCanonicalEdit edit
MakesCanonicalEdit (Turn client kind) = Unit {0}
MakesCanonicalEdit (Gather client kind) = Unit {0}
MakesCanonicalEdit (Post client kind) = Unit {0}
MakesCanonicalEdit (Ask client) = Unit {0}
MakesCanonicalEdit (Offer client) = Unit {0}
MakesCanonicalEdit (Lose client) = Unit {0}
MakesCanonicalEdit (Crash client) = Unit {0}
MakesCanonicalEdit (Deliver event) = Unit {0}
MakesCanonicalEdit (Answer event) = Unit {0}
MakesCanonicalEdit (SetPass client pass) = Unit {0}
MakesCanonicalEdit (GivePass client pass) = Unit {0}

-- each edit of a schedule that a text spells is canonical
abbrev pub SpellsCanonicalEdits : Type 0
SpellsCanonicalEdits =
    (text : List ℕ) (schedule : Schedule) → Spells text schedule → AllByRecursion MakesCanonicalEdit schedule.events
