-- What a turn settles, and how many edits.
use Rattle.std.proofs.Common.{◌≡◌, ℕ, ◌+◌, ◌≤◌, arith, List, [], ◌∷◌, ◌++◌, length, Option, Some, None, ap}
use Rattle.std.proofs.lemmas.List.{length-append}
use Rattle.sync_values.specs.declared.value.Value.{Value}
use Rattle.sync_model.specs.declared.conflict.Decision.{Decision}
use Rattle.sync_model.specs.declared.fate.Fate.{Fate}
use Rattle.sync_model.specs.declared.fate.Note.{Note}
use Rattle.sync_model.specs.declared.message.Ack.{Ack}
use Rattle.sync_model.specs.declared.message.Task.{Task}
use Rattle.sync_model.specs.declared.message.Task.TheVariants.{Batch as Updating, Acks}
use Rattle.sync_model.specs.declared.message.Update.{Update}
use Rattle.sync_model.specs.KeyStates.{fate_of_update, ended}
use Rattle.sync_model.specs.Sides.{States, state_at, note_with, note_of, after_update, after_ack, update_notes, notes_of, task_notes}
use Rattle.type_processor.specs.declared.answers.Turn.{Turn}
use Rattle.type_processor.specs.declared.answers.Turn.TheVariants.{Idle, Turned}
use Rattle.type_processor.specs.Mail.{task_size, next_size}
use Rattle.type_processor.specs.Turns.{told_by}

one_note : (due : Option ℕ) (fate : Option Fate) → length (note_with due fate) ≤ 1
one_note None fate = omega arith
one_note (Some number) None = omega arith
one_note (Some number) (Some fate) = omega arith

one_end : (due : Option ℕ) (version : ℕ) → length (note_of due version) ≤ 1
one_end None version = omega arith
one_end (Some number) version = omega arith

-- at most one more
one_more : (first rest : List Note) (n : ℕ) → length first ≤ 1 → length rest ≤ n → length (first ++ rest) ≤ n + 1
one_more first rest n one others = omega (arith, length-append first rest)

few_update_notes : (decided : Value → Value → Decision) (states : States) (updates : List Update) → length (update_notes decided states updates) ≤ length updates
unfolding update_notes
few_update_notes decided states [] = omega arith
few_update_notes decided states (update ∷ updates) =
    omega (
      arith,
      one_more (note_with (state_at states update.hash).due (fate_of_update decided (state_at states update.hash) update))
          (update_notes decided (after_update decided states update) updates) (length updates)
          (one_note (state_at states update.hash).due (fate_of_update decided (state_at states update.hash) update))
          (few_update_notes decided (after_update decided states update) updates),
    )

few_notes : (states : States) (acks : List Ack) → length (notes_of states acks) ≤ length acks
unfolding notes_of
few_notes states [] = omega arith
few_notes states (ack ∷ acks) =
    omega (
      arith,
      one_more (note_of (ended (state_at states ack.hash) ack) ack.version) (notes_of (after_ack states ack) acks) (length acks)
          (one_end (ended (state_at states ack.hash) ack) ack.version) (few_notes (after_ack states ack) acks),
    )

few_task_notes : (decided : Value → Value → Decision) (states : States) (task : Task) → length (task_notes decided states task) ≤ task_size task
unfolding task_notes
few_task_notes decided states (Updating batch) = few_update_notes decided states batch.updates
few_task_notes decided states (Acks acks) = few_notes states acks

-- the notes of a turn
abbrev notes_in : Turn → List Note
notes_in Idle = []
notes_in (Turned notes) = notes

told_few : (decided : Value → Value → Decision) (states : States) (tasks : List Task) → length (notes_in (told_by decided states tasks)) ≤ next_size tasks
told_few decided states [] = omega arith
told_few decided states (task ∷ tasks) = few_task_notes decided states task

-- a turn settles no more edits than its task has entries
pub settles_few : (decided : Value → Value → Decision) (states : States) (tasks : List Task) (notes : List Note) → Turned notes ≡ told_by decided states tasks
    → length notes ≤ next_size tasks
settles_few decided states tasks notes is = omega (arith, ap (λ turn. length (notes_in turn)) is, told_few decided states tasks)
