-- The states of a type stay those of the type.
use Rattle.std.proofs.Common.{◌≡◌, ℕ, ◌+◌, ◌≤◌, ◌<◌, arith, Bool, true, false, cond, not, List, [], ◌∷◌, Option, Some, None, refl}
use Rattle.std.specs.Prelude.{is_some, nat_le, IsTrue, IfSome, unwrap_or, ◌&&◌, ◌||◌, if◌then◌else◌}
use Rattle.std.specs.List.{AllByRecursion}
use Rattle.std.specs.BTreeMap.{is_at}
use Rattle.std.specs.Cmp.Lexicographic.{slice_cmp}
use Rattle.std.specs.Map.{lookup}
use Rattle.std.specs.Ordering.{nat_cmp, match_ordering}
use Rattle.std.specs.declared.cmp.Ordering.{Ordering}
use Rattle.std.specs.declared.cmp.Ordering.TheVariants.{Less, Equal, Greater}
use Rattle.client_tags.specs.declared.Kind.{Kind}
use Rattle.sync_values.specs.declared.edit.Edit.{Edit}
use Rattle.sync_values.specs.declared.edit.Edit.TheVariants.{SetPreference, NewerPreference, DeletePreference, SetPassword, NewerPassword, DeletePassword, SetNigori}
use Rattle.sync_values.specs.declared.value.Value.{Value}
use Rattle.sync_model.specs.declared.conflict.Choice.{Choice}
use Rattle.sync_model.specs.declared.conflict.Choice.TheVariants.{Same, Remote, Local, Merged as MergedInto}
use Rattle.sync_model.specs.declared.conflict.Decision.{Decision}
use Rattle.sync_model.specs.declared.conflict.Decision.TheVariants.{Remote as TakeRemote, Local as KeepLocal, Merged as Merge}
use Rattle.sync_model.specs.declared.conflict.Row.TheVariants.{C0, C1, C2, C3, C4, C5, C6}
use Rattle.sync_model.specs.declared.message.Ack.{Ack}
use Rattle.sync_model.specs.declared.message.Offer.{Offer}
use Rattle.sync_model.specs.declared.message.Task.{Task}
use Rattle.sync_model.specs.declared.message.Task.TheVariants.{Batch as Updating, Acks}
use Rattle.sync_model.specs.declared.message.Update.{Update}
use Rattle.sync_model.specs.declared.state.KeyState.{KeyState}
use Rattle.sync_model.specs.Conflicts.{row_of, choice_of, choice_by}
use Rattle.sync_model.specs.Edits.{edit_kind, edit_value}
use Rattle.sync_model.specs.KeyStates.{new_state, is_echo, is_old, accepted, settled, resolution_of, updated, is_ignored, still_due, acknowledged, edited, noted}
use Rattle.sync_model.specs.Sides.{States, state_at, with_state, after_update, after_updates, after_ack, after_acks, after_offer, after_offers}
use Rattle.sync_model.specs.Values.{same_value, is_absent, is_value_of}
use Rattle.conflict_rules.specs.Rules.{KeepsEachType}
use Rattle.type_processor.specs.Fits.{may_have, IsUpdateOf, IsAckOf, IsTaskOf, IsStateOf, AreStatesOf}
use Rattle.type_processor.specs.Turns.{states_after}

new_is : (kind : Kind) (last : ℕ) (hash : List ℕ) → IsStateOf kind last (hash, new_state)
new_is kind last hash = record { known = omega arith; base = refl; own = refl; edit = omega arith; due = tt }

-- the same of another hash
at_hash : (kind : Kind) (last : ℕ) (hash : List ℕ) (key : List ℕ × KeyState) → IsStateOf kind last key → IsStateOf kind last (hash, key.1)
at_hash kind last hash key state =
    record { known = state.known; base = state.base; own = state.own; edit = state.edit; due = state.due }

by_tie : (kind : Kind) (last : ℕ) (hash : List ℕ) (e : List ℕ × KeyState) (found : Option KeyState) (tie : Bool)
    → IsStateOf kind last e → IsStateOf kind last (hash, unwrap_or found new_state)
    → IsStateOf kind last (hash, unwrap_or (cond tie (Some e.1) found) new_state)
by_tie kind last hash e found true own rest = at_hash kind last hash e own
by_tie kind last hash e found false own rest = rest

-- the state of a key, or a new one
pub state_is : (kind : Kind) (last : ℕ) (hash : List ℕ) (states : States) → AreStatesOf kind last states
    → IsStateOf kind last (hash, state_at states hash)
state_is kind last hash [] are = new_is kind last hash
state_is kind last hash (e ∷ es) are =
    by_tie kind last hash e (lookup (is_at (slice_cmp nat_cmp hash)) es) (is_at (slice_cmp nat_cmp hash) e.0) are.0 (state_is kind last hash es are.1)

put_by : (kind : Kind) (last : ℕ) (hash : List ℕ) (state : KeyState) (e : List ℕ × KeyState) (es rest : States) (o : Ordering)
    → IsStateOf kind last (hash, state) → AreStatesOf kind last (e ∷ es) → AreStatesOf kind last rest
    → AreStatesOf kind last (match_ordering o ((hash, state) ∷ e ∷ es) ((e.0, state) ∷ es) (e ∷ rest))
put_by kind last hash state e es rest Less own are others = (own, are)
put_by kind last hash state e es rest Equal own are others = (at_hash kind last e.0 (hash, state) own, are.1)
put_by kind last hash state e es rest Greater own are others = (are.0, others)

-- states with another one at a key
pub put_are : (kind : Kind) (last : ℕ) (hash : List ℕ) (state : KeyState) (states : States)
    → IsStateOf kind last (hash, state) → AreStatesOf kind last states → AreStatesOf kind last (with_state states hash state)
put_are kind last hash state [] own are = (own, tt)
put_are kind last hash state (e ∷ es) own are =
    put_by kind last hash state e es (with_state es hash state) (slice_cmp nat_cmp hash e.0) own are (put_are kind last hash state es own are.1)

-- a choice merges into a value of the type, if it merges
abbrev Merges : Kind → Choice → Type 0
Merges kind Same = Unit {0}
Merges kind Remote = Unit {0}
Merges kind Local = Unit {0}
Merges kind (MergedInto value) = IsTrue (may_have kind value)

present : (absent of : Bool) → absent ≡ false → IsTrue (absent || of) → IsTrue of
present true of none is = cc
present false of none is = is

either : (absent of : Bool) → IsTrue of → IsTrue (absent || of)
either true of is = refl
either false of is = is

own_present : (own remote : Bool) → (own && not remote) ≡ false → remote ≡ false → own ≡ false
own_present true true both none = cc
own_present true false both none = cc
own_present false remote both none = refl

merges_by : (kind : Kind) (same echo deleted own_known known absent : Bool) (decision : Decision)
    → (deleted ≡ false → absent ≡ false → Merges kind (choice_by decision))
    → Merges kind (choice_of (if same then C1 else (if echo then C0 else (if deleted then C2 else (if own_known then C3 else (if known then C4 else (if absent then C5 else C6)))))) decision)
merges_by kind true echo deleted own_known known absent decision merges = tt
merges_by kind false true deleted own_known known absent decision merges = tt
merges_by kind false false true own_known known absent decision merges = tt
merges_by kind false false false true known absent decision merges = tt
merges_by kind false false false false true absent decision merges = tt
merges_by kind false false false false false true decision merges = tt
merges_by kind false false false false false false decision merges = merges refl refl

decision_merges : (kind : Kind) (decided : Value → Value → Decision) (own remote : Value) (decision : Decision) → KeepsEachType decided
    → decided own remote ≡ decision → IsTrue (is_value_of kind own) → IsTrue (is_value_of kind remote) → Merges kind (choice_by decision)
decision_merges kind decided own remote TakeRemote keeps is own_is remote_is = tt
decision_merges kind decided own remote KeepLocal keeps is own_is remote_is = tt
decision_merges kind decided own remote (Merge value) keeps is own_is remote_is =
    either (is_absent value) (is_value_of kind value) (keeps kind own remote value own_is remote_is is)

choice_merges : (kind : Kind) (decided : Value → Value → Decision) (echo : Bool) (base own remote : Value) → KeepsEachType decided
    → IsTrue (may_have kind own) → IsTrue (may_have kind remote)
    → Merges kind (choice_of (row_of echo base own remote) (decided own remote))
unfolding row_of
choice_merges kind decided echo base own remote keeps own_is remote_is =
    merges_by kind (same_value own remote) echo (is_absent own && not (is_absent remote)) (same_value own base) (same_value remote base) (is_absent remote)
    (decided own remote)
    (λ deleted absent. decision_merges kind decided own remote (decided own remote) keeps refl
    (present (is_absent own) (is_value_of kind own) (own_present (is_absent own) (is_absent remote) deleted absent) own_is)
    (present (is_absent remote) (is_value_of kind remote) absent remote_is))

accepted_is : (kind : Kind) (last : ℕ) (hash : List ℕ) (state : KeyState) (update : Update)
    → IsStateOf kind last (hash, state) → IsUpdateOf kind update → IsStateOf kind last (hash, accepted state update)
accepted_is kind last hash state update own is =
    record { known = is.version; base = is.value; own = is.value; edit = own.edit; due = tt }

settled_is : (kind : Kind) (last : ℕ) (hash : List ℕ) (state : KeyState) (update : Update) (choice : Choice)
    → IsStateOf kind last (hash, state) → IsUpdateOf kind update → Merges kind choice → IsStateOf kind last (hash, settled state update choice)
settled_is kind last hash state update Same own is merges = accepted_is kind last hash state update own is
settled_is kind last hash state update Remote own is merges = accepted_is kind last hash state update own is
settled_is kind last hash state update Local own is merges =
    record { known = is.version; base = is.value; own = own.own; edit = own.edit; due = own.due }
settled_is kind last hash state update (MergedInto value) own is merges =
    record { known = is.version; base = is.value; own = merges; edit = own.edit; due = own.due }

one_of : (P : KeyState → Type 0) (test : Bool) (a b : KeyState) → P a → P b → P (if test then a else b)
one_of P true a b at_a at_b = at_a
one_of P false a b at_a at_b = at_b

updated_is : (kind : Kind) (last : ℕ) (hash : List ℕ) (decided : Value → Value → Decision) (state : KeyState) (update : Update) → KeepsEachType decided
    → IsStateOf kind last (hash, state) → IsUpdateOf kind update → IsStateOf kind last (hash, updated decided state update)
unfolding updated
updated_is kind last hash decided state update keeps own is =
    let P : KeyState → Type 0 = λ after. IsStateOf kind last (hash, after) in
    one_of P (is_old state update) state _ own
    (one_of P (is_some state.due) (settled state update (resolution_of decided state update).choice) (accepted state update)
    (settled_is kind last hash state update (resolution_of decided state update).choice own is
    (choice_merges kind decided (is_echo state update.value) state.base state.own update.value keeps own.own is.value))
    (accepted_is kind last hash state update own is))

are_by : (kind : Kind) (last : ℕ) (old : Bool) (a b : States) → AreStatesOf kind last a → AreStatesOf kind last b → AreStatesOf kind last (if old then a else b)
are_by kind last true a b at_a at_b = at_a
are_by kind last false a b at_a at_b = at_b

update_are : (kind : Kind) (last : ℕ) (decided : Value → Value → Decision) (states : States) (update : Update) → KeepsEachType decided
    → AreStatesOf kind last states → IsUpdateOf kind update → AreStatesOf kind last (after_update decided states update)
unfolding after_update
update_are kind last decided states update keeps are is =
    are_by kind last (is_old (state_at states update.hash) update) states
    (with_state states update.hash (updated decided (state_at states update.hash) update)) are
    (put_are kind last update.hash (updated decided (state_at states update.hash) update) states
    (updated_is kind last update.hash decided (state_at states update.hash) update keeps (state_is kind last update.hash states are) is) are)

updates_are : (kind : Kind) (last : ℕ) (decided : Value → Value → Decision) (states : States) (updates : List Update) → KeepsEachType decided
    → AreStatesOf kind last states → AllByRecursion (IsUpdateOf kind) updates → AreStatesOf kind last (after_updates decided states updates)
unfolding after_updates
updates_are kind last decided states [] keeps are is = are
updates_are kind last decided states (update ∷ updates) keeps are is =
    updates_are kind last decided (after_update decided states update) updates keeps (update_are kind last decided states update keeps are is.0) is.1

own_acked : (kind : Kind) (due : Bool) (own acked : Value) → IsTrue (may_have kind own) → IsTrue (may_have kind acked)
    → IsTrue (may_have kind (if due then own else acked))
own_acked kind true own acked own_is acked_is = own_is
own_acked kind false own acked own_is acked_is = acked_is

due_unless : (past : Bool) (due last : ℕ) → due ≡ last → IfSome (if past then None else Some due) (λ (number : ℕ). number ≡ last)
due_unless true due last is = tt
due_unless false due last is = is

still_due_is : (due : Option ℕ) (number last : ℕ) → IfSome due (λ (edit : ℕ). edit ≡ last) → IfSome (still_due due number) (λ (edit : ℕ). edit ≡ last)
still_due_is None number last is = tt
still_due_is (Some due) number last is = due_unless (nat_le due number) due last is

acknowledged_is : (kind : Kind) (last : ℕ) (hash : List ℕ) (state : KeyState) (ack : Ack)
    → IsStateOf kind last (hash, state) → IsAckOf kind ack → IsStateOf kind last (hash, acknowledged state ack)
unfolding acknowledged
acknowledged_is kind last hash state ack own is =
    one_of (λ after. IsStateOf kind last (hash, after)) (is_ignored state ack) state _ own
    (record {
      known = is.version;
      base = is.value;
      own = own_acked kind (is_some (still_due state.due ack.number)) state.own ack.value own.own is.value;
      edit = own.edit;
      due = still_due_is state.due ack.number state.last_edit own.due;
    })

ack_are : (kind : Kind) (last : ℕ) (states : States) (ack : Ack) → AreStatesOf kind last states → IsAckOf kind ack
    → AreStatesOf kind last (after_ack states ack)
unfolding after_ack
ack_are kind last states ack are is =
    are_by kind last (is_ignored (state_at states ack.hash) ack) states
    (with_state states ack.hash (acknowledged (state_at states ack.hash) ack)) are
    (put_are kind last ack.hash (acknowledged (state_at states ack.hash) ack) states
    (acknowledged_is kind last ack.hash (state_at states ack.hash) ack (state_is kind last ack.hash states are) is) are)

acks_are : (kind : Kind) (last : ℕ) (states : States) (acks : List Ack)
    → AreStatesOf kind last states → AllByRecursion (IsAckOf kind) acks → AreStatesOf kind last (after_acks states acks)
unfolding after_acks
acks_are kind last states [] are is = are
acks_are kind last states (ack ∷ acks) are is =
    acks_are kind last (after_ack states ack) acks (ack_are kind last states ack are is.0) is.1

-- the states after a task of the type
pub task_are : (kind : Kind) (last : ℕ) (decided : Value → Value → Decision) (states : States) (task : Task) → KeepsEachType decided
    → AreStatesOf kind last states → IsTaskOf kind task → AreStatesOf kind last (states_after decided states task)
task_are kind last decided states (Updating batch) keeps are is = updates_are kind last decided states batch.updates keeps are is
task_are kind last decided states (Acks acks) keeps are is = acks_are kind last states acks are is

later_are : (kind : Kind) (last more : ℕ) (states : States) → last ≤ more → AreStatesOf kind last states → AreStatesOf kind more states
later_are kind last more [] less are = tt
later_are kind last more (e ∷ es) less are =
    (record { known = are.0.known; base = are.0.base; own = are.0.own; edit = omega (arith, are.0.edit, less); due = are.0.due }, later_are kind last more es less are.1)

-- the states after an edit, which has the next number
pub edit_are : (kind : Kind) (last : ℕ) (hash : List ℕ) (value : Value) (states : States) → IsTrue (may_have kind value)
    → AreStatesOf kind last states → AreStatesOf kind (last + 1) (with_state states hash (edited (state_at states hash) value (last + 1)))
edit_are kind last hash value states value_is are =
    let more : AreStatesOf kind (last + 1) states = later_are kind last (last + 1) states (omega arith) are in
    let own : IsStateOf kind (last + 1) (hash, state_at states hash) = state_is kind (last + 1) hash states more in
    put_are kind (last + 1) hash (edited (state_at states hash) value (last + 1)) states
    (record { known = own.known; base = own.base; own = value_is; edit = omega arith; due = refl }) more

-- no edit of a key has the next number
pub next_number : (kind : Kind) (last : ℕ) (hash : List ℕ) (states : States) → AreStatesOf kind last states
    → (state_at states hash).last_edit < last + 1
next_number kind last hash states are = omega (arith, (state_is kind last hash states are).edit)

-- what an edit makes of an own value is of the edit's type
pub edit_value_is : (own : Value) (edit : Edit) → IsTrue (may_have (edit_kind edit) (edit_value own edit))
edit_value_is own (SetPreference preference) = refl
edit_value_is own (NewerPreference preference) = refl
edit_value_is own (DeletePreference name) = refl
edit_value_is own (SetPassword login) = refl
edit_value_is own (NewerPassword login) = refl
edit_value_is own (DeletePassword origin user_element user_value pass_element realm) = refl
edit_value_is own (SetNigori nigori) = refl

offered_is : (kind : Kind) (last : ℕ) (hash : List ℕ) (state : KeyState) (number : ℕ) (value : Value)
    → IsStateOf kind last (hash, state) → IsStateOf kind last (hash, noted state number value)
unfolding noted
offered_is kind last hash state number value own =
    record { known = own.known; base = own.base; own = own.own; edit = own.edit; due = own.due }

-- the states once some values were offered
pub offers_kept_are : (kind : Kind) (last : ℕ) (states : States) (offers : List Offer) → AreStatesOf kind last states
    → AreStatesOf kind last (after_offers states offers)
unfolding after_offers
offers_kept_are kind last states [] are = are
offers_kept_are kind last states (offer ∷ offers) are =
    offers_kept_are kind last (after_offer states offer) offers
    (put_are kind last offer.hash (noted (state_at states offer.hash) offer.number offer.value) states
    (offered_is kind last offer.hash (state_at states offer.hash) offer.number offer.value (state_is kind last offer.hash states are)) are)
