-- Each write has one author, an entry of one request, and is that entry.
use Rattle.std.proofs.Common.{◌≡◌, ℕ, zero, suc, ◌+◌, ◌<◌, ◌≤◌, ◌⊎◌, Bool, true, false, cond, List, [], ◌∷◌, length, slice_get, Some, None, refl, sym, ap, ◌∙◌, subst, arith, inl, inr}
use Rattle.std.proofs.Math.Nat.{eq-or-lt_of_le}
use Rattle.std.proofs.lemmas.Bool.{cases_lt}
use Rattle.std.proofs.lemmas.Option.{none-some, same_Some}
use Rattle.sync_model.specs.declared.event.Event.{Event}
use Rattle.sync_model.specs.declared.event.EventOutcome.{EventOutcome}
use Rattle.sync_model.specs.declared.event.EventOutcome.TheVariants.{Void, Done, Edited, Requested, Delivered}
use Rattle.sync_model.specs.declared.event.Schedule.{Schedule}
use Rattle.sync_model.specs.declared.message.Answer.{Answer}
use Rattle.sync_model.specs.declared.message.Answer.TheVariants.{Success, Conflict, Invalid, OverQuota}
use Rattle.sync_model.specs.declared.message.Call.{Call}
use Rattle.sync_model.specs.declared.message.Call.TheVariants.{Commit, Updates as AskUpdates}
use Rattle.sync_model.specs.declared.message.Content.{Content}
use Rattle.sync_model.specs.declared.message.Entry.{Entry}
use Rattle.sync_model.specs.declared.message.Reply.{Reply}
use Rattle.sync_model.specs.declared.message.Request.{Request}
use Rattle.sync_model.specs.declared.message.Verdict.{Verdict}
use Rattle.sync_model.specs.declared.message.Verdict.TheVariants.{Refused}
use Rattle.sync_model.specs.Settings.{Setting}
use Rattle.sync_model.specs.History.{write_at, answer_to, history_with, committed, answers_to}
use Rattle.sync_model.specs.Servers.{is_foreign, verdict_on, history_after, reply_to, history_served, NOT_MY_BIRTHDAY}
use Rattle.sync_model.specs.Outcomes.{entries_sent}
use Rattle.sync_model.specs.Laws.{answer_in, Stores, IsAuthor, IsEntryOf, HasOneAuthor, EveryWriteHasOneAuthor}
use Rattle.sync_model.specs.Deliveries.{SaysTrue, DeliveriesAreTrue}
use Rattle.sync_model.specs.Worlds.{World, opening, outcome_at, STORE_BIRTHDAY, is_invalid_entry, stepped, run, world_of}
use Rattle.sync_model.proofs.FateSettlements.{last_is}
use Rattle.sync_model.proofs.Histories.{at_top, write_at-le, answer_to-next}
use Rattle.sync_model.proofs.StepOutcomes.{outcome-kept, last_or_earlier, stepped_keeps, no_store}
use Rattle.sync_model.proofs.Deliveries.{stepped-DeliveriesAreTrue, opening-DeliveriesAreTrue}

-- an entry shortens no history, and one that is stored makes it longer
history_with-grows : {C : Type 0} (history : List (Entry C)) (entry : Entry C) (answer : Answer)
    → length history ≤ length (history_with history entry answer)
history_with-grows history entry (Success version) = omega arith
history_with-grows history entry Conflict = omega arith
history_with-grows history entry Invalid = omega arith
history_with-grows history entry OverQuota = omega arith

stored_length : {C : Type 0} (history : List (Entry C)) (entry : Entry C) (answer : Answer) (version : ℕ) → answer ≡ Success version
    → length (history_with history entry answer) ≡ suc (length history)
stored_length history entry answer version is =
    subst (λ (given : Answer). length (history_with history entry given) ≡ suc (length history)) (sym is) refl

-- a commit stores entries as writes after those before it
answers-new : {C : Type 0} (is_invalid : Entry C → Bool) (history entries : List (Entry C)) (place version : ℕ)
    → slice_get (answers_to is_invalid history entries) place ≡ Some (Success version) → length history < version
unfolding answers_to
answers-new is_invalid history [] place version is = absurd (none-some (Success version) is)
answers-new is_invalid history (entry ∷ entries) zero version is =
    omega (arith, answer_to-next is_invalid history entry version (same_Some (answer_to is_invalid history entry) (Success version) is))
answers-new is_invalid history (entry ∷ entries) (suc place) version is = omega (
  arith,
  history_with-grows history entry (answer_to is_invalid history entry),
  answers-new is_invalid (history_with history entry (answer_to is_invalid history entry)) entries place version is,
)

-- the first entry of a commit is stored as one version, and no other entry is
first_alone : {C P : Type 0} (is_invalid : Entry C → Bool) (history : List (Entry C)) (entry : Entry C) (entries : List (Entry C)) (place version : ℕ)
    → answer_to is_invalid history entry ≡ Success version
    → slice_get (answers_to is_invalid (history_with history entry (answer_to is_invalid history entry)) entries) place ≡ Some (Success version) → P
first_alone is_invalid history entry entries place version here there = absurd (omega (
  arith,
  answer_to-next is_invalid history entry version here,
  stored_length history entry (answer_to is_invalid history entry) version here,
  answers-new is_invalid (history_with history entry (answer_to is_invalid history entry)) entries place version there,
))

-- a commit stores two entries as two versions
answers-alone : {C : Type 0} (is_invalid : Entry C → Bool) (history entries : List (Entry C)) (first second version : ℕ)
    → slice_get (answers_to is_invalid history entries) first ≡ Some (Success version)
    → slice_get (answers_to is_invalid history entries) second ≡ Some (Success version) → first ≡ second
unfolding answers_to
answers-alone is_invalid history [] first second version one other = absurd (none-some (Success version) one)
answers-alone is_invalid history (entry ∷ entries) zero zero version one other = refl
answers-alone is_invalid history (entry ∷ entries) zero (suc second) version one other =
    first_alone is_invalid history entry entries second version (same_Some (answer_to is_invalid history entry) (Success version) one) other
answers-alone is_invalid history (entry ∷ entries) (suc first) zero version one other =
    first_alone is_invalid history entry entries first version (same_Some (answer_to is_invalid history entry) (Success version) other) one
answers-alone is_invalid history (entry ∷ entries) (suc first) (suc second) version one other =
    ap suc (answers-alone is_invalid (history_with history entry (answer_to is_invalid history entry)) entries first second version one other)

-- some answers have one that stores an entry as a version
abbrev HasStored : List Answer → ℕ → Type 0
HasStored answers version = (place : ℕ) × (slice_get answers place ≡ Some (Success version))

first_or : {C : Type 0} (history : List (Entry C)) (entry : Entry C) (answer : Answer) (rest : List Answer) (version : ℕ)
    → ((next : ℕ) → answer ≡ Success next → length history + 1 ≡ next) → length history < version
    → (length (history_with history entry answer) < version → HasStored rest version) → HasStored (answer ∷ rest) version
first_or history entry (Success next) rest version at above later = by (eq-or-lt_of_le above)
  where
    by : ((suc (length history) ≡ version) ⊎ (suc (length history) < version)) → HasStored (Success next ∷ rest) version
    by (inl here) = (0, ap (λ (given : ℕ). Some (Success given)) (omega (arith, at next refl, here)))
    by (inr there) = let found = later there in (suc found.0, found.1)
first_or history entry Conflict rest version at above later = let found = later above in (suc found.0, found.1)
first_or history entry Invalid rest version at above later = let found = later above in (suc found.0, found.1)
first_or history entry OverQuota rest version at above later = let found = later above in (suc found.0, found.1)

-- each write that a commit adds is an entry of it
answers-all : {C : Type 0} (is_invalid : Entry C → Bool) (history entries : List (Entry C)) (version : ℕ) → length history < version
    → version ≤ length (committed is_invalid history entries) → HasStored (answers_to is_invalid history entries) version
unfolding answers_to committed
answers-all is_invalid history [] version above within = absurd (omega (arith, above, within))
answers-all is_invalid history (entry ∷ entries) version above within =
    first_or history entry (answer_to is_invalid history entry)
    (answers_to is_invalid (history_with history entry (answer_to is_invalid history entry)) entries) version
    (λ next is. answer_to-next is_invalid history entry next is) above
    (λ later. answers-all is_invalid (history_with history entry (answer_to is_invalid history entry)) entries version later within)

-- a verdict tells of each write between two histories that it is stored, once, and of no other
pub record TellsWrites (old new : List (Entry Content)) (verdict : Verdict Content) : Type 0 where
  pub above : (place version : ℕ) → answer_in verdict place ≡ Some (Success version) → length old < version
  pub alone : (first second version : ℕ) → answer_in verdict first ≡ Some (Success version) → answer_in verdict second ≡ Some (Success version)
      → first ≡ second
  pub all : (version : ℕ) → length old < version → version ≤ length new → (place : ℕ) × (answer_in verdict place ≡ Some (Success version))

-- a verdict that tells of no write
tells_none : (history : List (Entry Content)) (verdict : Verdict Content) → ((place : ℕ) → answer_in verdict place ≡ None)
    → TellsWrites history history verdict
tells_none history verdict none = record {
  above = λ place version is. absurd (none-some (Success version) (sym (none place) ∙ is));
  alone = λ first second version one other. absurd (none-some (Success version) (sym (none first) ∙ one));
  all = λ version above within. absurd (omega (arith, above, within));
}

verdict_tells : (history : List (Entry Content)) (call : Call Content)
    → TellsWrites history (history_after is_invalid_entry history call) (verdict_on is_invalid_entry history call)
verdict_tells history (Commit entries) = record {
  above = λ place version is. answers-new is_invalid_entry history entries place version is;
  alone = λ first second version one other. answers-alone is_invalid_entry history entries first second version one other;
  all = λ version above within. answers-all is_invalid_entry history entries version above within;
}
verdict_tells history (AskUpdates marks) = tells_none history (verdict_on is_invalid_entry history (AskUpdates marks)) (λ place. refl)

foreign_tells : (history : List (Entry Content)) (call : Call Content) (foreign : Bool)
    → TellsWrites history (cond foreign history (history_after is_invalid_entry history call))
    (cond foreign (Refused NOT_MY_BIRTHDAY) (verdict_on is_invalid_entry history call))
foreign_tells history call true = tells_none history (Refused NOT_MY_BIRTHDAY) (λ place. refl)
foreign_tells history call false = verdict_tells history call

-- a reply tells of the writes that its request added
pub reply_tells : (history : List (Entry Content)) (request : Request Content)
    → TellsWrites history (history_served is_invalid_entry STORE_BIRTHDAY history request)
    (reply_to is_invalid_entry STORE_BIRTHDAY history request).verdict
unfolding reply_to history_served
reply_tells history request = foreign_tells history request.call (is_foreign STORE_BIRTHDAY request.birthday)

-- a write of a version has an author
record IsWritten (outcomes : List EventOutcome) (version : ℕ) : Type 0 where
  request : ℕ
  place : ℕ
  delivery : ℕ
  stores : Stores (outcome_at outcomes delivery) request place version

-- no write has two authors
abbrev AreAlone : List EventOutcome → Type 0
AreAlone outcomes = (version one request place two other entry : ℕ) → Stores (outcome_at outcomes one) request place version
    → Stores (outcome_at outcomes two) other entry version → (other ≡ request) × (entry ≡ place)

-- each write of a history has one author
record AuthorFacts (history : List (Entry Content)) (outcomes : List EventOutcome) : Type 0 where
  written : (version : ℕ) → 0 < version → version ≤ length history → IsWritten outcomes version
  alone : AreAlone outcomes

IsWritten-later : (outcome : EventOutcome) (outcomes : List EventOutcome) (version : ℕ) → IsWritten outcomes version
    → IsWritten (outcome ∷ outcomes) version
IsWritten-later outcome outcomes version is = record {
  request = is.request;
  place = is.place;
  delivery = is.delivery;
  stores = outcome-kept (λ (made : EventOutcome). Stores made is.request is.place version) outcome outcomes is.delivery (λ void. void) is.stores;
}

-- what is so of the authors once an outcome joins that stores nothing, and once a request is delivered
unserved_authors : (history : List (Entry Content)) (outcomes : List EventOutcome) (outcome : EventOutcome)
    → ((request place version : ℕ) → Stores outcome request place version → ⊥)
    → AuthorFacts history outcomes → AuthorFacts history (outcome ∷ outcomes)
unserved_authors history outcomes outcome none before = record {
  written = λ version some within. IsWritten-later outcome outcomes version (before.written version some within);
  alone = λ version one request place two other entry first second. before.alone version one request place two other entry
      (earlier version one request place (last_or_earlier (λ made. Stores made request place version) outcome outcomes one first))
      (earlier version two other entry (last_or_earlier (λ made. Stores made other entry version) outcome outcomes two second));
}
  where
    earlier : (version delivery request place : ℕ) → Stores outcome request place version ⊎ Stores (outcome_at outcomes delivery) request place version
        → Stores (outcome_at outcomes delivery) request place version
    earlier version delivery request place (inl last) = absurd (none request place version last)
    earlier version delivery request place (inr before) = before

served_authors : (old new : List (Entry Content)) (outcomes : List EventOutcome) (event : ℕ) (reply : Reply Content)
    → TellsWrites old new reply.verdict → SaysTrue old outcomes
    → AuthorFacts old outcomes → AuthorFacts new (Delivered event reply ∷ outcomes)
served_authors old new outcomes event reply tells says before = record {
  written = λ version some within. written version some within (cases_lt (length old) version);
  alone = λ version one request place two other entry first second. both version one request place two other entry
      (last_or_earlier (λ made. Stores made request place version) (Delivered event reply) outcomes one first)
      (last_or_earlier (λ made. Stores made other entry version) (Delivered event reply) outcomes two second);
}
  where
    written : (version : ℕ) → 0 < version → version ≤ length new → ((length old < version) ⊎ (version ≤ length old))
        → IsWritten (Delivered event reply ∷ outcomes) version
    written version some within (inl above) = let found = tells.all version above within in record {
      request = event;
      place = found.0;
      delivery = length (Delivered event reply ∷ outcomes);
      stores = subst (λ (made : EventOutcome). Stores made event found.0 version) (sym (last_is outcomes (Delivered event reply))) (refl, found.1);
    }
    written version some within (inr below) = IsWritten-later (Delivered event reply) outcomes version (before.written version some below)

    old_le : (delivery request place version : ℕ) → Stores (outcome_at outcomes delivery) request place version → version ≤ length old
    old_le delivery request place version stores = let stored = says delivery request place version stores
        in write_at-le old version stored.entry stored.is_write

    both : (version one request place two other entry : ℕ)
        → Stores (Delivered event reply) request place version ⊎ Stores (outcome_at outcomes one) request place version
        → Stores (Delivered event reply) other entry version ⊎ Stores (outcome_at outcomes two) other entry version
        → (other ≡ request) × (entry ≡ place)
    both version one request place two other entry (inl first) (inl second) =
        (sym second.0 ∙ first.0, tells.alone entry place version second.1 first.1)
    both version one request place two other entry (inl first) (inr second) =
        absurd (omega (arith, tells.above place version first.1, old_le two other entry version second))
    both version one request place two other entry (inr first) (inl second) =
        absurd (omega (arith, tells.above entry version second.1, old_le one request place version first))
    both version one request place two other entry (inr first) (inr second) =
        before.alone version one request place two other entry first second

-- each event keeps the authors
stepped_authors : (setting : Setting) (event : Event) (world : World) → DeliveriesAreTrue world → AuthorFacts world.history world.outcomes
    → AuthorFacts (stepped setting event world).history (stepped setting event world).outcomes
stepped_authors setting event world true_of before = stepped_keeps AuthorFacts setting event world
    (λ outcome is. unserved_authors world.history world.outcomes outcome (no_store setting event world outcome is) before)
    (λ request client asked made. served_authors world.history (history_served is_invalid_entry STORE_BIRTHDAY world.history asked) world.outcomes request
    (reply_to is_invalid_entry STORE_BIRTHDAY world.history asked) (reply_tells world.history asked) true_of.says_true before)

-- what a world has of its deliveries and its authors
record HasAuthors (world : World) : Type 0 where
  deliveries : DeliveriesAreTrue world
  authors : AuthorFacts world.history world.outcomes

run_authors : (setting : Setting) (world : World) (events : List Event) → HasAuthors world → HasAuthors (run setting world events)
unfolding run
run_authors setting world [] before = before
run_authors setting world (event ∷ events) before = run_authors setting (stepped setting event world) events record {
  deliveries = stepped-DeliveriesAreTrue setting event world before.deliveries;
  authors = stepped_authors setting event world before.deliveries before.authors;
}

opening_authors : (clients seed : ℕ) (passes : List (List ℕ)) → HasAuthors (opening clients seed passes)
unfolding outcome_at
opening_authors clients seed passes = record {
  deliveries = opening-DeliveriesAreTrue clients seed passes;
  authors = record {
    written = λ version some within. absurd (omega (arith, some, within));
    alone = λ version one request place two other entry first second. absurd first;
  };
}

world_of_authors : (setting : Setting) (schedule : Schedule) → HasAuthors (world_of setting schedule)
world_of_authors setting schedule =
    run_authors setting (opening schedule.clients schedule.seed schedule.passes) schedule.events (opening_authors schedule.clients schedule.seed schedule.passes)

-- an entry of a request is one that an event sent
entry_of : (world : World) (request place : ℕ) (write : Entry Content) (outcome : EventOutcome) → outcome_at world.outcomes request ≡ outcome
    → slice_get (entries_sent outcome) place ≡ Some write → IsEntryOf world request place write
entry_of world request place write (Requested client made) is at = record { client = client; made = made; is_made = is; is_entry = at }
entry_of world request place write Void is at = absurd (none-some write at)
entry_of world request place write Done is at = absurd (none-some write at)
entry_of world request place write (Edited client kind number) is at = absurd (none-some write at)
entry_of world request place write (Delivered asked reply) is at = absurd (none-some write at)

-- versions count from 1
write_at-some : (history : List (Entry Content)) (version : ℕ) (write : Entry Content) → write_at history version ≡ Some write → 0 < version
write_at-some [] version write is = absurd (none-some write is)
write_at-some (newest ∷ older) version write is =
    at_top {P = 0 < version} write newest older version is (λ at same. omega (arith, at)) (λ before. write_at-some older version write before)

one_author : (world : World) → HasAuthors world → (version : ℕ) → 0 < version → version ≤ length world.history → HasOneAuthor world version
one_author world has version some within =
    let written = has.authors.written version some within
    in let stored = has.deliveries.says_true written.delivery written.request written.place version written.stores
    in record {
      request = written.request;
      place = written.place;
      is_author = (written.delivery, written.stores);
      write = stored.entry;
      is_write = stored.is_write;
      is_entry = entry_of world written.request written.place stored.entry (outcome_at world.outcomes written.request) refl stored.is_sent;
      alone = λ other entry author.
          has.authors.alone version written.delivery written.request written.place author.0 other entry written.stores author.1;
    }

author_writes : (world : World) → HasAuthors world → (request place version : ℕ) → IsAuthor world request place version
    → (0 < version) × (version ≤ length world.history)
author_writes world has request place version author =
    let stored = has.deliveries.says_true author.0 request place version author.1
    in (write_at-some world.history version stored.entry stored.is_write, write_at-le world.history version stored.entry stored.is_write)

pub world_of-EveryWriteHasOneAuthor : EveryWriteHasOneAuthor
world_of-EveryWriteHasOneAuthor setting schedule = (
  λ version some within. one_author (world_of setting schedule) (world_of_authors setting schedule) version some within,
  λ request place version author. author_writes (world_of setting schedule) (world_of_authors setting schedule) request place version author,
)
