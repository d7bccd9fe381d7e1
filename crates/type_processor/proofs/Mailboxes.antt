-- The first task of a mailbox, and what its turn makes of a type.
use Rattle.std.proofs.Common.{◌≡◌, ◌<◌, arith, List, [], ◌∷◌, length, drop, refl, sym, ap, ◌∙◌, subst}
use Rattle.std.specs.Prelude.{slice_index_or}
use Rattle.std.specs.List.{AllByRecursion}
use Rattle.sync_values.specs.declared.value.Value.{Value}
use Rattle.sync_model.specs.declared.conflict.Decision.{Decision}
use Rattle.sync_model.specs.declared.message.Task.{Task}
use Rattle.sync_model.specs.declared.message.Task.TheVariants.{Batch as Updating, Acks}
use Rattle.sync_model.specs.Sides.{after_task}
use Rattle.type_processor.specs.Processed.{Processed}
use Rattle.type_processor.specs.Turns.{states_after, mark_after, turned_by, turned}

pub is_first : (tasks : List Task) (task : Task) → 0 < length tasks → task ≡ slice_index_or tasks 0 task → tasks ≡ task ∷ drop 1 tasks
is_first [] task some is = absurd (omega arith)
is_first (first ∷ tasks) task some is = ap (λ (next : Task). next ∷ tasks) (sym is)

pub all_first : (P : Task → Type 0) (tasks : List Task) (task : Task) → 0 < length tasks → task ≡ slice_index_or tasks 0 task → AllByRecursion P tasks → P task
all_first P tasks task some is all =
    let both : AllByRecursion P (task ∷ drop 1 tasks) = subst (AllByRecursion P) (is_first tasks task some is) all in
    both.0

pub all_later : (P : Task → Type 0) (tasks : List Task) → AllByRecursion P tasks → AllByRecursion P (drop 1 tasks)
all_later P [] all = tt
all_later P (task ∷ tasks) all = all.1

abbrev applied : {Rules : Type 0} → (Value → Value → Decision) → Processed Rules → Task → List Task → Processed Rules
applied decided processed task tasks = record processed {
  states = states_after decided processed.states task;
  mark = mark_after processed.mark task;
  mailbox = tasks;
}

turned_first : {Rules : Type 0} (decided : Value → Value → Decision) (processed : Processed Rules) (task : Task) (tasks : List Task)
    → applied decided processed task tasks ≡ turned_by decided processed (task ∷ tasks)
unfolding after_task
turned_first decided processed (Updating batch) tasks = refl
turned_first decided processed (Acks acks) tasks = refl

-- what is had after a turn
pub is_turned : {Rules : Type 0} (decided : Value → Value → Decision) (processed : Processed Rules) (task : Task) (tasks : List Task) (new : Processed Rules)
    → processed.mailbox ≡ task ∷ tasks
    → new ≡ record processed { states = states_after decided processed.states task; mark = mark_after processed.mark task; mailbox = tasks }
    → new ≡ turned decided processed
is_turned decided processed task tasks new mailbox is =
    is ∙ turned_first decided processed task tasks ∙ ap (turned_by decided processed) (sym mailbox)
