-- Each entry of each reply is a write of the history, given with its version.
use Rattle.std.proofs.Common.{ℕ, zero, suc, ◌+◌, Bool, true, false, cond, List, [], ◌∷◌, length, take, refl}
use Rattle.std.specs.List.{AllByRecursion}
use Rattle.sync_model.specs.declared.event.Event.{Event}
use Rattle.sync_model.specs.declared.event.EventOutcome.{EventOutcome}
use Rattle.sync_model.specs.declared.event.EventOutcome.TheVariants.{Void, Done, Edited, Requested, Delivered}
use Rattle.sync_model.specs.declared.message.Call.{Call}
use Rattle.sync_model.specs.declared.message.Call.TheVariants.{Commit, Updates as AskUpdates}
use Rattle.sync_model.specs.declared.message.Content.{Content}
use Rattle.sync_model.specs.declared.message.Entry.{Entry}
use Rattle.sync_model.specs.declared.message.Marker.{Marker}
use Rattle.sync_model.specs.declared.message.Request.{Request}
use Rattle.sync_model.specs.declared.message.Verdict.TheVariants.{Refused}
use Rattle.sync_model.specs.Settings.{Setting}
use Rattle.sync_model.specs.Servers.{as_given, is_wanted, wanted_writes, MAX_UPDATES, updates_of, verdict_on, is_foreign, NOT_MY_BIRTHDAY, reply_to, history_served}
use Rattle.sync_model.specs.Outcomes.{writes_in, writes_given}
use Rattle.sync_model.specs.Worlds.{World, opening, outcome_at, STORE_BIRTHDAY, is_invalid_entry, stepped, run}
use Rattle.sync_model.specs.Laws.{IsGivenWrite, EveryReplyGivesWrites}
use Rattle.sync_model.proofs.Writes.{write_at-longer}
use Rattle.sync_model.proofs.Longer.{all_then}
use Rattle.sync_model.proofs.TrueAcks.{served-keeps, all_append, newest_at}
use Rattle.sync_model.proofs.StepOutcomes.{IsOutcomeOf, each_outcome, stepped_keeps}

-- some entries are writes of a history, given with their versions
abbrev AreGiven : List (Entry Content) → List (Entry Content) → Type 0
AreGiven history entries = AllByRecursion (IsGivenWrite history) entries

-- they still are under a further write
AreGiven-longer : (entries history : List (Entry Content)) (next : Entry Content) → AreGiven history entries → AreGiven (next ∷ history) entries
AreGiven-longer entries history next all = all_then (λ (entry : Entry Content) (is : IsGivenWrite history entry). longer entry is) entries all
  where
    longer : (entry : Entry Content) → IsGivenWrite history entry → IsGivenWrite (next ∷ history) entry
    longer entry is = record {
      write = is.write;
      is_write = write_at-longer history entry.version next is.write is.is_write;
      is_given = is.is_given;
    }

-- what is wanted of some writes
wanted_given : (marks : List Marker) (whole older : List (Entry Content)) → AreGiven older (wanted_writes marks whole older)
unfolding wanted_writes
wanted_given marks whole [] = tt
wanted_given marks whole (write ∷ older) =
    all_append (IsGivenWrite (write ∷ older)) (wanted_writes marks whole older) _
    (AreGiven-longer (wanted_writes marks whole older) older write (wanted_given marks whole older))
    (newest (is_wanted marks whole (length older + 1) write))
  where
    newest : (wanted : Bool) → AreGiven (write ∷ older) (cond wanted (as_given (length older + 1) write ∷ []) [])
    newest true = (record { write = write; is_write = newest_at older write; is_given = refl }, tt)
    newest false = tt

-- the first of some entries
first_given : (count : ℕ) (history entries : List (Entry Content)) → AreGiven history entries → AreGiven history (take count entries)
first_given zero history entries all = tt
first_given (suc count) history [] all = tt
first_given (suc count) history (entry ∷ entries) all = (all.0, first_given count history entries all.1)

-- what is given to one who asks with these marks
pub updates_given : (marks : List Marker) (history : List (Entry Content)) → AreGiven history (updates_of history marks (wanted_writes marks history history)).entries
updates_given marks history = first_given MAX_UPDATES history (wanted_writes marks history history) (wanted_given marks history history)

verdict_gives : (history : List (Entry Content)) (call : Call Content) → AreGiven history (writes_in (verdict_on is_invalid_entry history call))
verdict_gives history (Commit entries) = tt
verdict_gives history (AskUpdates marks) = updates_given marks history

foreign_gives : (history : List (Entry Content)) (call : Call Content) (foreign : Bool)
    → AreGiven history (writes_in (cond foreign (Refused NOT_MY_BIRTHDAY) (verdict_on is_invalid_entry history call)))
foreign_gives history call true = tt
foreign_gives history call false = verdict_gives history call

-- some entries that are given stay so once a request is handled
served_keeps : (history entries : List (Entry Content)) (request : Request Content) → AreGiven history entries
    → AreGiven (history_served is_invalid_entry STORE_BIRTHDAY history request) entries
served_keeps history entries request all =
    served-keeps (λ found. AreGiven found entries) (λ found next. AreGiven-longer entries found next) is_invalid_entry STORE_BIRTHDAY history request all

-- what a reply gives
reply_gives : (history : List (Entry Content)) (request : Request Content)
    → AreGiven (history_served is_invalid_entry STORE_BIRTHDAY history request) (writes_in (reply_to is_invalid_entry STORE_BIRTHDAY history request).verdict)
unfolding reply_to
reply_gives history request =
    served_keeps history (writes_in (cond (is_foreign STORE_BIRTHDAY request.birthday) (Refused NOT_MY_BIRTHDAY) (verdict_on is_invalid_entry history request.call)))
    request (foreign_gives history request.call (is_foreign STORE_BIRTHDAY request.birthday))

-- all that deliveries gave
abbrev GiveWrites : List (Entry Content) → List EventOutcome → Type 0
GiveWrites history outcomes = (delivery : ℕ) → AreGiven history (writes_given (outcome_at outcomes delivery))

none_given : (setting : Setting) (event : Event) (world : World) (history : List (Entry Content)) (outcome : EventOutcome) → IsOutcomeOf setting event world outcome
    → AreGiven history (writes_given outcome)
none_given setting event world history Void is = tt
none_given setting event world history Done is = tt
none_given setting event world history (Edited client kind number) is = tt
none_given setting event world history (Requested client request) is = tt
none_given setting event world history (Delivered request reply) is = absurd is

stepped_gives : (setting : Setting) (event : Event) (world : World) → GiveWrites world.history world.outcomes
    → GiveWrites (stepped setting event world).history (stepped setting event world).outcomes
stepped_gives setting event world before = stepped_keeps GiveWrites setting event world
    (λ outcome is. each_outcome (λ (made : EventOutcome). AreGiven world.history (writes_given made)) outcome world.outcomes
    (none_given setting event world world.history outcome is) before)
    (λ request client asked made. each_outcome
    (λ (given : EventOutcome). AreGiven (history_served is_invalid_entry STORE_BIRTHDAY world.history asked) (writes_given given))
    (Delivered request (reply_to is_invalid_entry STORE_BIRTHDAY world.history asked)) world.outcomes (reply_gives world.history asked)
    (λ delivery. served_keeps world.history (writes_given (outcome_at world.outcomes delivery)) asked (before delivery)))

run_gives : (setting : Setting) (world : World) (events : List Event) → GiveWrites world.history world.outcomes
    → GiveWrites (run setting world events).history (run setting world events).outcomes
unfolding run
run_gives setting world [] before = before
run_gives setting world (event ∷ events) before = run_gives setting (stepped setting event world) events (stepped_gives setting event world before)

opening_gives : (clients seed : ℕ) (passes : List (List ℕ)) → GiveWrites (opening clients seed passes).history (opening clients seed passes).outcomes
unfolding outcome_at
opening_gives clients seed passes delivery = tt

pub world_of-EveryReplyGivesWrites : EveryReplyGivesWrites
world_of-EveryReplyGivesWrites setting schedule =
    run_gives setting (opening schedule.clients schedule.seed schedule.passes) schedule.events (opening_gives schedule.clients schedule.seed schedule.passes)
