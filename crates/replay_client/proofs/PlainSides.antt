-- A side of preferences stays plain.
use Rattle.std.proofs.Common.{◌≡◌, ℕ, List, [], ◌∷◌, Option, Some, None, Result, Ok, Err, refl, sym, ap, subst, ◌∙◌}
use Rattle.std.specs.List.{AllByRecursion}
use Rattle.std.specs.Prelude.{OnErr, IfOk, IfSome}
use Rattle.client_tags.specs.declared.Kind.{Kind}
use Rattle.client_tags.specs.declared.Kind.TheVariants.{Preference}
use Rattle.conflict_rules.specs.declared.rules.Preferences.{Preferences}
use Rattle.sync_specifics.specs.Extras.{IsCanonicalEdit}
use Rattle.sync_values.specs.declared.edit.Edit.{Edit}
use Rattle.sync_values.specs.declared.value.Value.{Value}
use Rattle.sync_model.specs.declared.conflict.Decision.{Decision}
use Rattle.sync_model.specs.declared.event.EventOutcome.{EventOutcome}
use Rattle.sync_model.specs.declared.fate.Settlement.{Settlement}
use Rattle.sync_model.specs.declared.message.Content.{Content}
use Rattle.sync_model.specs.declared.message.Entry.{Entry}
use Rattle.sync_model.specs.declared.message.Offer.{Offer}
use Rattle.sync_model.specs.declared.message.Task.{Task}
use Rattle.sync_model.specs.declared.message.Task.TheVariants.{Batch as Updating, Acks}
use Rattle.sync_model.specs.Edits.{edit_kind, edit_value}
use Rattle.sync_model.specs.KeyStates.{edited}
use Rattle.sync_model.specs.Sides.{side_offered, state_at, after_task}
use Rattle.type_processor.specs.Edits.{edit_hash, own_before, edited_by}
use Rattle.type_processor.specs.Processed.{Processed, side_of as processed_side, with_side}
use Rattle.type_processor.specs.Turns.{turned_by}
use Rattle.wire_fields.specs.declared.memory.NoMemory.{NoMemory}
use Rattle.replay_client.specs.declared.client.Client.TheInside.{Inside}
use Rattle.replay_client.specs.declared.side.Side.{Side}
use Rattle.replay_client.specs.Clients.{client_of, IsPlainSide}
use Rattle.replay_client.specs.Mail.{IsPlainTask}
use Rattle.replay_client.specs.Sides.{IsPostedOf, IsTurnedBy}
use Rattle.replay_client.proofs.HeldLemmas.{all_append}
use Rattle.replay_client.proofs.PlainStates.{own_plain, put_plain, made_plain, IsPlainDecision, task_plain, offered_plain}

-- a processor that noted some offers
pub noted_plain : {Rules : Type 0} (side : Side Rules) (new : Processed Rules) (offers : List Offer) → IsPlainSide side
    → new ≡ with_side side.processor (side_offered (processed_side side.processor) offers) → IsPlainSide (record side { processor = new })
noted_plain side new offers plain is =
    subst (λ (processor : Processed _). IsPlainSide (record side { processor = processor })) (sym is) record {
      kind = plain.kind;
      values = offered_plain side.processor.states offers plain.values;
      mailbox = plain.mailbox;
      letter = plain.letter;
    }

-- what a client stands for once its processor noted some offers, and these entries are held
pub noted_client : (inside : Inside) (new : Processed Preferences) (offers : List Offer) (held : List (Entry Content))
    → new ≡ with_side inside.preference.processor (side_offered (processed_side inside.preference.processor) offers)
    → (record (client_of (record inside { preference = record inside.preference { processor = new } })) { held = held })
    ≡ (record (client_of inside) { held = held; preference = side_offered (client_of inside).preference offers })
noted_client inside new offers held is =
    ap (λ (processor : Processed Preferences). record (client_of (record inside { preference = record inside.preference { processor = processor } })) { held = held }) is

-- a processor that took an edit
pub edited_plain : {Rules : Type 0} (side : Side Rules) (new : Processed Rules) (edit copy : Edit) → IsPlainSide side → edit_kind edit ≡ Preference
    → IsCanonicalEdit edit → copy ≡ edit → new ≡ edited_by side.processor copy → IsPlainSide (record side { processor = new })
edited_plain side new edit copy plain is canonical same is_new =
    let own = own_plain side.processor.states (edit_hash edit) plain.values in
    subst (λ (processor : Processed _). IsPlainSide (record side { processor = processor }))
    (sym (is_new ∙ ap (edited_by side.processor) same)) record {
      kind = plain.kind;
      values = put_plain side.processor.states (edit_hash edit)
          (edited (state_at side.processor.states (edit_hash edit)) (edit_value (own_before side.processor edit) edit) _)
          (made_plain (own_before side.processor edit) edit is canonical own) plain.values;
      mailbox = plain.mailbox;
      letter = plain.letter;
    }

-- a letter goes to the mailbox, if there is one
posted_plain : {Rules : Type 0} (old new : Side Rules) (letter : Option Task) (outcome : EventOutcome) → old.letter ≡ letter → IsPlainSide old
    → IsPostedOf letter old outcome new → IsPlainSide new
posted_plain old new None outcome is plain post = subst (λ (side : Side _). IsPlainSide side) (sym post.1) plain
posted_plain old new (Some task) outcome is plain post =
    subst (λ (side : Side _). IsPlainSide side) (sym post.1) record {
      kind = plain.kind;
      values = plain.values;
      mailbox = all_append IsPlainTask old.processor.mailbox (task ∷ []) plain.mailbox (subst (λ (letter : Option Task). IfSome letter IsPlainTask) is plain.letter, tt);
      letter = tt;
    }

pub post_stays_plain : {Rules : Type 0} (result : Result EventOutcome NoMemory) (old new : Side Rules) → IsPlainSide old
    → IfOk result (λ outcome. IsPostedOf old.letter old outcome new) → OnErr result (new ≡ old) → IsPlainSide new
post_stays_plain (Ok outcome) old new plain post err = posted_plain old new old.letter outcome refl plain post
post_stays_plain (Err fault) old new plain post err = subst (λ (side : Side _). IsPlainSide side) (sym err) plain

-- what waits on is what stood behind
left : {Rules : Type 0} (decided : Value → Value → Decision) (old : Side Rules) (task : Task) (tasks : List Task)
    → (turned_by decided old.processor (task ∷ tasks)).mailbox ≡ tasks
unfolding after_task
left decided old (Updating batch) tasks = refl
left decided old (Acks acks) tasks = refl

turned_values : {Rules : Type 0} (decided : Value → Value → Decision) → ((own remote : Value) → IsPlainDecision (decided own remote)) → (old : Side Rules) (task : Task) (tasks : List Task)
    → old.processor.mailbox ≡ task ∷ tasks → IsPlainSide old → IsPlainSide (record old { processor = turned_by decided old.processor (task ∷ tasks) })
turned_values decided rule old task tasks is plain =
    let mail : AllByRecursion IsPlainTask (task ∷ tasks) = subst (AllByRecursion IsPlainTask) is plain.mailbox in
    record {
      kind = plain.kind;
      values = task_plain decided rule (record (processed_side old.processor) { mailbox = tasks }) task plain.values mail.0;
      mailbox = subst (AllByRecursion IsPlainTask) (sym (left decided old task tasks)) mail.1;
      letter = plain.letter;
    }

-- the first task is applied, if there is one
turned_plain : {Rules : Type 0} (decided : Value → Value → Decision) → ((own remote : Value) → IsPlainDecision (decided own remote)) → (number : ℕ) (kind : Kind) (old new : Side Rules) (tasks : List Task)
    (outcome : EventOutcome) (before settled : List Settlement) → old.processor.mailbox ≡ tasks → IsPlainSide old → IsTurnedBy tasks decided number kind old outcome new before settled → IsPlainSide new
turned_plain decided rule number kind old new [] outcome before settled is plain turn = subst (λ (side : Side _). IsPlainSide side) (sym turn.1) plain
turned_plain decided rule number kind old new (task ∷ tasks) outcome before settled is plain turn =
    subst (λ (side : Side _). IsPlainSide side)
    (sym (turn.1 ∙ ap (λ (mail : List Task). record old { processor = turned_by decided old.processor mail }) is))
    (turned_values decided rule old task tasks is plain)

pub turn_stays_plain : {Rules : Type 0} (result : Result EventOutcome NoMemory) (decided : Value → Value → Decision) → ((own remote : Value) → IsPlainDecision (decided own remote))
    → (number : ℕ) (kind : Kind) (old new : Side Rules) (before settled : List Settlement) → IsPlainSide old
    → IfOk result (λ outcome. IsTurnedBy old.processor.mailbox decided number kind old outcome new before settled) → OnErr result (new ≡ old) → IsPlainSide new
turn_stays_plain (Ok outcome) decided rule number kind old new before settled plain turn err =
    turned_plain decided rule number kind old new old.processor.mailbox outcome before settled refl plain turn
turn_stays_plain (Err fault) decided rule number kind old new before settled plain turn err =
    subst (λ (side : Side _). IsPlainSide side) (sym err) plain
