-- What a client of preferences has of its keys stays plain: what edits, updates and acknowledgements give it is.
use Rattle.std.proofs.Common.{◌≡◌, ℕ, Bool, true, false, cond, List, [], ◌∷◌, Option, Some, None, is_some, ap}
use Rattle.std.specs.List.{AllByRecursion}
use Rattle.std.proofs.lemmas.Bool.{false≢true}
use Rattle.std.specs.Prelude.{nat_le}
use Rattle.client_tags.specs.declared.Kind.TheVariants as kinds
use Rattle.message_fields.specs.Unknown.{IsCanonicalExtra}
use Rattle.sync_specifics.specs.Extras.{IsCanonicalEdit}
use Rattle.sync_specifics.specs.Preferences.{preference_fields}
use Rattle.sync_values.specs.declared.edit.Edit.{Edit}
use Rattle.sync_values.specs.declared.edit.Edit.TheVariants as edits
use Rattle.sync_values.specs.declared.value.Value.{Value}
use Rattle.sync_values.specs.declared.value.Value.TheVariants as values
use Rattle.sync_model.specs.declared.conflict.Choice.{Choice}
use Rattle.sync_model.specs.declared.conflict.Choice.TheVariants as choices
use Rattle.sync_model.specs.declared.conflict.Decision.{Decision}
use Rattle.sync_model.specs.declared.conflict.Decision.TheVariants as decisions
use Rattle.sync_model.specs.declared.conflict.Row.{Row}
use Rattle.sync_model.specs.declared.conflict.Row.TheVariants.{C0, C1, C2, C3, C4, C5, C6}
use Rattle.sync_model.specs.declared.message.Ack.{Ack}
use Rattle.sync_model.specs.declared.message.Offer.{Offer}
use Rattle.sync_model.specs.declared.message.Task.{Task}
use Rattle.sync_model.specs.declared.message.Task.TheVariants.{Batch as Updating, Acks}
use Rattle.sync_model.specs.declared.message.Update.{Update}
use Rattle.sync_model.specs.declared.state.KeyState.{KeyState}
use Rattle.sync_model.specs.Conflicts.{row_of, choice_of}
use Rattle.sync_model.specs.Edits.{edit_kind, edit_value}
use Rattle.sync_model.specs.KeyStates.{noted, is_old, is_echo, settled, resolution_of, updated, is_ignored, still_due, acknowledged}
use Rattle.sync_model.specs.Offers.{offer_for, placed, with_due, with_all_due, due_offers}
use Rattle.sync_model.specs.Settings.{names, decided_by}
use Rattle.sync_model.specs.Sides.{States, Side, state_at, with_state, after_update, after_updates, after_ack, after_acks, after_offers, after_task}
use Rattle.sync_model.specs.Values.{same_kind, extra_in}
use Rattle.sync_model.proofs.FateKeys.{each_at, each_put}
use Rattle.replay_messages.specs.Forms.{IsPlainValue}
use Rattle.replay_messages.proofs.NoExtra.{no_extra}
use Rattle.replay_client.specs.Clients.{HavePlainValues}
use Rattle.replay_client.specs.Mail.{IsPlainUpdate, IsPlainAck, IsPlainTask}

-- the own value of a key is plain
abbrev HasPlainOwn : List ℕ → KeyState → Type 0
HasPlainOwn hash state = IsPlainValue state.own

-- what a key has, if anything is had of it
pub own_plain : (states : States) (hash : List ℕ) → HavePlainValues states → IsPlainValue (state_at states hash).own
own_plain states hash plain = each_at HasPlainOwn states hash tt plain

-- a state of a plain value is put at a key
pub put_plain : (states : States) (hash : List ℕ) (state : KeyState) → IsPlainValue state.own → HavePlainValues states → HavePlainValues (with_state states hash state)
put_plain states hash state own plain = each_put HasPlainOwn states hash state own plain

-- what a plain value has of unknown fields
extra_plain : (own : Value) → IsPlainValue own → IsCanonicalExtra preference_fields (extra_in own)
extra_plain values.Absent plain = no_extra preference_fields
extra_plain (values.Preference preference) plain = plain
extra_plain (values.Password password) plain = absurd plain
extra_plain (values.Nigori nigori) plain = absurd plain

-- what an edit makes of a plain value
pub made_plain : (own : Value) (edit : Edit) → edit_kind edit ≡ kinds.Preference → IsCanonicalEdit edit → IsPlainValue own → IsPlainValue (edit_value own edit)
made_plain own (edits.SetPreference preference) is canonical plain = extra_plain own plain
made_plain own (edits.NewerPreference preference) is canonical plain = canonical
made_plain own (edits.DeletePreference name) is canonical plain = tt
made_plain own (edits.SetPassword password) is canonical plain = absurd (false≢true (ap (λ kind. same_kind kind kinds.Preference) is))
made_plain own (edits.NewerPassword password) is canonical plain = absurd (false≢true (ap (λ kind. same_kind kind kinds.Preference) is))
made_plain own (edits.DeletePassword origin user_element user_value pass_element realm) is canonical plain =
    absurd (false≢true (ap (λ kind. same_kind kind kinds.Preference) is))
made_plain own (edits.SetNigori nigori) is canonical plain = absurd (false≢true (ap (λ kind. same_kind kind kinds.Preference) is))

-- what is merged is plain
abbrev pub IsPlainDecision : Decision → Type 0
IsPlainDecision decisions.Remote = Unit {0}
IsPlainDecision decisions.Local = Unit {0}
IsPlainDecision (decisions.Merged value) = IsPlainValue value

-- the rule of preferences merges nothing
pub preferences_plain : (own remote : Value) → IsPlainDecision (decided_by names kinds.Preference own remote)
unfolding names
preferences_plain own remote = tt

-- a choice leaves a plain value
abbrev IsPlainChoice : Choice → Type 0
IsPlainChoice choices.Same = Unit {0}
IsPlainChoice choices.Remote = Unit {0}
IsPlainChoice choices.Local = Unit {0}
IsPlainChoice (choices.Merged value) = IsPlainValue value

decided_plain : (decision : Decision) → IsPlainDecision decision → IsPlainChoice (choice_of C6 decision)
decided_plain decisions.Remote plain = tt
decided_plain decisions.Local plain = tt
decided_plain (decisions.Merged value) plain = plain

choice_plain : (row : Row) (decision : Decision) → IsPlainDecision decision → IsPlainChoice (choice_of row decision)
choice_plain C0 decision plain = tt
choice_plain C1 decision plain = tt
choice_plain C2 decision plain = tt
choice_plain C3 decision plain = tt
choice_plain C4 decision plain = tt
choice_plain C5 decision plain = tt
choice_plain C6 decision plain = decided_plain decision plain

settled_plain : (state : KeyState) (update : Update) (choice : Choice) → IsPlainValue state.own → IsPlainValue update.value → IsPlainChoice choice
    → IsPlainValue (settled state update choice).own
settled_plain state update choices.Same own remote plain = remote
settled_plain state update choices.Remote own remote plain = remote
settled_plain state update choices.Local own remote plain = own
settled_plain state update (choices.Merged value) own remote plain = plain

either_plain : (test : Bool) (first second : KeyState) → IsPlainValue first.own → IsPlainValue second.own → IsPlainValue (cond test first second).own
either_plain true first second one other = one
either_plain false first second one other = other

updated_plain : (decided : Value → Value → Decision) → ((own remote : Value) → IsPlainDecision (decided own remote)) → (state : KeyState) (update : Update)
    → IsPlainValue state.own → IsPlainValue update.value → IsPlainValue (updated decided state update).own
unfolding updated
updated_plain decided rule state update own remote =
    either_plain (is_old state update) state _ own
    (either_plain (is_some state.due) _ _
    (settled_plain state update (resolution_of decided state update).choice own remote
    (choice_plain (row_of (is_echo state update.value) state.base state.own update.value) (decided state.own update.value) (rule state.own update.value)))
    remote)

unless : (test : Bool) (first second : States) → HavePlainValues first → HavePlainValues second → HavePlainValues (cond test first second)
unless true first second one other = one
unless false first second one other = other

update_plain : (decided : Value → Value → Decision) → ((own remote : Value) → IsPlainDecision (decided own remote)) → (states : States) (update : Update)
    → HavePlainValues states → IsPlainValue update.value → HavePlainValues (after_update decided states update)
unfolding after_update
update_plain decided rule states update plain value =
    unless (is_old (state_at states update.hash) update) states _ plain
    (put_plain states update.hash (updated decided (state_at states update.hash) update)
    (updated_plain decided rule (state_at states update.hash) update (own_plain states update.hash plain) value) plain)

updates_plain : (decided : Value → Value → Decision) → ((own remote : Value) → IsPlainDecision (decided own remote)) → (states : States) (updates : List Update)
    → HavePlainValues states → AllByRecursion IsPlainUpdate updates → HavePlainValues (after_updates decided states updates)
unfolding after_updates
updates_plain decided rule states [] plain all = plain
updates_plain decided rule states (update ∷ updates) plain all =
    updates_plain decided rule (after_update decided states update) updates (update_plain decided rule states update plain all.0.value) all.1

kept_or : (test : Bool) (first second : Value) → IsPlainValue first → IsPlainValue second → IsPlainValue (cond test first second)
kept_or true first second one other = one
kept_or false first second one other = other

acknowledged_plain : (state : KeyState) (ack : Ack) → IsPlainValue state.own → IsPlainValue ack.value → IsPlainValue (acknowledged state ack).own
unfolding acknowledged
acknowledged_plain state ack own value =
    either_plain (is_ignored state ack) state _ own (kept_or (is_some (still_due state.due ack.number)) state.own ack.value own value)

ack_plain : (states : States) (ack : Ack) → HavePlainValues states → IsPlainValue ack.value → HavePlainValues (after_ack states ack)
unfolding after_ack
ack_plain states ack plain value =
    unless (is_ignored (state_at states ack.hash) ack) states _ plain
    (put_plain states ack.hash (acknowledged (state_at states ack.hash) ack)
    (acknowledged_plain (state_at states ack.hash) ack (own_plain states ack.hash plain) value) plain)

acks_plain : (states : States) (acks : List Ack) → HavePlainValues states → AllByRecursion IsPlainAck acks → HavePlainValues (after_acks states acks)
unfolding after_acks
acks_plain states [] plain all = plain
acks_plain states (ack ∷ acks) plain all = acks_plain (after_ack states ack) acks (ack_plain states ack plain all.0.value) all.1

-- what a task leaves
pub task_plain : (decided : Value → Value → Decision) → ((own remote : Value) → IsPlainDecision (decided own remote)) → (side : Side) (task : Task)
    → HavePlainValues side.states → IsPlainTask task → HavePlainValues (after_task decided side task).states
unfolding after_task
task_plain decided rule side (Updating batch) plain all = updates_plain decided rule side.states batch.updates plain all
task_plain decided rule side (Acks acks) plain all = acks_plain side.states acks plain all

-- what stays once some values were offered
pub offered_plain : (states : States) (offers : List Offer) → HavePlainValues states → HavePlainValues (after_offers states offers)
unfolding after_offers noted
offered_plain states [] plain = plain
offered_plain states (offer ∷ offers) plain =
    offered_plain (with_state states offer.hash (noted (state_at states offer.hash) offer.number offer.value)) offers
    (put_plain states offer.hash (noted (state_at states offer.hash) offer.number offer.value) (own_plain states offer.hash plain) plain)

-- an offer of a plain value
abbrev pub HasPlainValue : Offer → Type 0
HasPlainValue offer = IsPlainValue offer.value

placed_plain : (rank : Offer → ℕ) (offer : Offer) (offers : List Offer) → HasPlainValue offer → AllByRecursion HasPlainValue offers
    → AllByRecursion HasPlainValue (placed rank offer offers)
placed_plain rank offer [] one all = (one, tt)
placed_plain rank offer (next ∷ rest) one all =
    placed_by (nat_le (rank next) (rank offer)) one all (placed_plain rank offer rest one all.1)
  where
    placed_by : (test : Bool) → HasPlainValue offer → AllByRecursion HasPlainValue (next ∷ rest) → AllByRecursion HasPlainValue (placed rank offer rest)
        → AllByRecursion HasPlainValue (cond test (next ∷ placed rank offer rest) (offer ∷ next ∷ rest))
    placed_by true one all more = (all.0, more)
    placed_by false one all more = (one, all)

due_plain : (offers : List Offer) (hash : List ℕ) (state : KeyState) (due : Option ℕ) → IsPlainValue state.own → AllByRecursion HasPlainValue offers
    → AllByRecursion HasPlainValue (with_due offers hash state due)
due_plain offers hash state None own all = all
due_plain offers hash state (Some number) own all = placed_plain (λ offer. offer.number) (offer_for hash state number) offers own all

all_due_plain : (offers : List Offer) (states : States) → HavePlainValues states → AllByRecursion HasPlainValue offers
    → AllByRecursion HasPlainValue (with_all_due offers states)
unfolding with_all_due
all_due_plain offers [] plain all = all
all_due_plain offers (key ∷ states) plain all =
    all_due_plain (with_due offers key.0 key.1 key.1.due) states plain.1 (due_plain offers key.0 key.1 key.1.due plain.0 all)

-- what is due of a client's keys
pub due_offers_plain : (states : States) → HavePlainValues states → AllByRecursion HasPlainValue (due_offers states)
due_offers_plain states plain = all_due_plain [] states plain tt
