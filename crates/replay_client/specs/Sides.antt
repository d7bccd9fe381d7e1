-- What a post and a turn make of a side.
use Rattle.std.specs.Prelude.{◌≡◌, ℕ, max, List, [], ◌∷◌, ◌++◌, map, Option, Some, None}
use Rattle.client_tags.specs.declared.Kind.{Kind}
use Rattle.sync_values.specs.declared.value.Value.{Value}
use Rattle.sync_model.specs.declared.conflict.Decision.{Decision}
use Rattle.sync_model.specs.declared.event.EventOutcome.{EventOutcome}
use Rattle.sync_model.specs.declared.event.EventOutcome.TheVariants.{Void, Done}
use Rattle.sync_model.specs.declared.fate.Settlement.{Settlement}
use Rattle.sync_model.specs.declared.message.Task.{Task}
use Rattle.sync_model.specs.declared.message.Task.TheVariants.{Batch as Updating, Acks}
use Rattle.sync_model.specs.Sides.{task_notes}
use Rattle.sync_model.specs.Worlds.{settlement_of}
use Rattle.type_processor.specs.Turns.{turned}
use Rattle.replay_client.specs.declared.side.Side.{Side}

-- a side of a type that nothing has happened to
abbrev pub new_side_of : {Rules : Type 0} → Kind → Rules → Side Rules
new_side_of kind rules = record {
  processor = record { kind = kind; rules = rules; mark = 0; states = []; last_edit = 0; mailbox = [] };
  seen = 0;
  letter = None;
}

-- the version up to which all writes are seen once a letter is posted: a batch raises it
abbrev pub seen_after : ℕ → Option Task → ℕ
seen_after seen None = seen
seen_after seen (Some (Updating batch)) = max seen batch.mark
seen_after seen (Some (Acks acks)) = seen

-- the side after this letter is posted
abbrev pub posted : {Rules : Type 0} → Side Rules → Task → Side Rules
posted side task = record {
  processor = record side.processor { mailbox = side.processor.mailbox ++ task ∷ [] };
  seen = seen_after side.seen (Some task);
  letter = None;
}

-- a letter is posted, if there is one
abbrev pub IsPostedOf : {Rules : Type 0} → Option Task → Side Rules → EventOutcome → Side Rules → Type 0
IsPostedOf None old outcome new = (outcome ≡ Void) × (new ≡ old)
IsPostedOf (Some task) old outcome new = (outcome ≡ Done) × (new ≡ posted old task)

-- a side's letter is posted, if it has one
abbrev pub IsPosted : {Rules : Type 0} → Side Rules → EventOutcome → Side Rules → Type 0
IsPosted old outcome new = IsPostedOf old.letter old outcome new

-- the first of these tasks, if there is one, is applied, and what it settles is that of a client's type
abbrev pub IsTurnedBy : {Rules : Type 0} → List Task → (Value → Value → Decision) → ℕ → Kind → Side Rules → EventOutcome → Side Rules → List Settlement → List Settlement → Type 0
IsTurnedBy [] decided client kind old outcome new before settled = (outcome ≡ Void) × (new ≡ old) × (settled ≡ before)
IsTurnedBy (task ∷ tasks) decided client kind old outcome new before settled =
    (outcome ≡ Done) × (new ≡ record old { processor = turned decided old.processor })
    × (settled ≡ before ++ map (settlement_of client kind) (task_notes decided old.processor.states task))

-- the first task of a side's mailbox is applied, if there is one
abbrev pub IsTurned : {Rules : Type 0} → (Value → Value → Decision) → ℕ → Kind → Side Rules → EventOutcome → Side Rules → List Settlement → List Settlement → Type 0
IsTurned decided client kind old outcome new before settled = IsTurnedBy old.processor.mailbox decided client kind old outcome new before settled
