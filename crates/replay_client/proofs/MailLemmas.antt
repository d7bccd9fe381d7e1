-- What a post and a turn make of a client of preferences that nothing seals.
use Rattle.std.proofs.Common.{◌≡◌, ℕ, Bool, true, cond, List, [], ◌∷◌, ◌++◌, map, Option, Some, None, Result, Ok, Err, refl, sym, ap, ◌∙◌, subst, IsTrue, arith, length, ◌<◌}
use Rattle.std.proofs.lemmas.Bool.{false≢true}
use Rattle.std.specs.Prelude.{◌&&◌, is_some, IsSome, IfSome, IfOk, OnErr}
use Rattle.std.specs.List.{AllByRecursion, list_all}
use Rattle.client_tags.specs.declared.Kind.{Kind}
use Rattle.client_tags.specs.declared.Kind.TheVariants.{Nigori, Preference, Password}
use Rattle.key_derivation.specs.declared.NigoriKey.{NigoriKey}
use Rattle.run_setting.specs.Hashed.{hashed}
use Rattle.sync_values.specs.declared.value.Value.{Value}
use Rattle.sync_values.specs.declared.value.Value.TheVariants as values
use Rattle.sync_model.specs.declared.conflict.Decision.{Decision}
use Rattle.sync_model.specs.declared.event.EventOutcome.{EventOutcome}
use Rattle.sync_model.specs.declared.event.EventOutcome.TheVariants.{Done}
use Rattle.sync_model.specs.declared.fate.Settlement.{Settlement}
use Rattle.sync_model.specs.declared.message.Task.{Task}
use Rattle.sync_model.specs.declared.message.Task.TheVariants.{Batch as Updating, Acks}
use Rattle.sync_model.specs.declared.message.Update.{Update}
use Rattle.sync_model.specs.Clients.{Client, side_of, with_side, opens, opens_lock, bag_with, batch_mailed}
use Rattle.sync_model.specs.Receiving.{posted, post_effect_at, post_effect, turn_effect_at, turn_effect}
use Rattle.sync_model.specs.Settings.{names, with_keys, decided_by}
use Rattle.sync_model.specs.Sides as sides
use Rattle.sync_model.specs.Sides.{after_task, after_updates, after_acks, task_notes, mailed}
use Rattle.sync_model.specs.Values.{keys_in}
use Rattle.sync_model.specs.Worlds.{settlement_of}
use Rattle.type_processor.specs.Fits.{may_have}
use Rattle.type_processor.specs.Turns.{turned_by}
use Rattle.replay_client.specs.Clients.{side_of as stood_for, IsIdle}
use Rattle.wire_fields.specs.declared.memory.NoMemory.{NoMemory}
use Rattle.replay_client.specs.declared.side.Side.{Side}
use Rattle.replay_client.specs.Happenings.{Happens, HappensAlone}
use Rattle.replay_client.specs.Mail.{IsPlainUpdate, IsPlainTask, IsIdleTask}
use Rattle.replay_client.specs.Sides.{seen_after, IsPostedOf, IsTurnedBy}
use Rattle.replay_client.proofs.Effects.{nothing, happens, alone}

-- an update that nothing seals, and that carries no keys
abbrev IsOpen : Update → Type 0
IsOpen update = (update.lock ≡ None) × (keys_in update.value ≡ [])

-- a task of such updates, or of acknowledgements
abbrev pub IsOpenTask : Task → Type 0
IsOpenTask (Updating batch) = AllByRecursion IsOpen batch.updates
IsOpenTask (Acks acks) = Unit {0}

no_keys_in : (value : Value) → IsTrue (may_have Preference value) → keys_in value ≡ []
no_keys_in values.Absent may = refl
no_keys_in (values.Preference preference) may = refl
no_keys_in (values.Password password) may = refl
no_keys_in (values.Nigori nigori) may = absurd (false≢true may)

all_open : (updates : List Update) → AllByRecursion IsPlainUpdate updates → AllByRecursion IsOpen updates
all_open [] all = tt
all_open (update ∷ updates) all = ((all.0.unlocked, no_keys_in update.value all.0.fits.value), all_open updates all.1)

plain_task_opens : (task : Task) → IsPlainTask task → IsOpenTask task
plain_task_opens (Updating batch) plain = all_open batch.updates plain
plain_task_opens (Acks acks) plain = tt

pub plain_opens : (letter : Option Task) → IfSome letter IsPlainTask → IfSome letter IsOpenTask
plain_opens None plain = tt
plain_opens (Some task) plain = plain_task_opens task plain

idle_task_opens : (task : Task) → IsIdleTask task → IsOpenTask task
idle_task_opens (Updating batch) none = subst (AllByRecursion IsOpen) (sym none) tt
idle_task_opens (Acks acks) none = tt

pub idle_opens : (letter : Option Task) → IfSome letter IsIdleTask → IfSome letter IsOpenTask
idle_opens None idle = tt
idle_opens (Some task) idle = idle_task_opens task idle

opens_unlocked : (bag : List NigoriKey) (lock : Option (List ℕ)) (rest : Bool) → lock ≡ None → rest ≡ true → (opens_lock hashed bag lock && rest) ≡ true
opens_unlocked bag lock rest none is = rw none is

all_opens : (bag : List NigoriKey) (updates : List Update) → AllByRecursion IsOpen updates → list_all (λ update. opens_lock hashed bag update.lock) updates ≡ true
all_opens bag [] all = refl
all_opens bag (update ∷ updates) all =
    opens_unlocked bag update.lock (list_all (λ (other : Update). opens_lock hashed bag other.lock) updates) all.0.0 (all_opens bag updates all.1)

same_bag : (bag : List NigoriKey) (updates : List Update) → AllByRecursion IsOpen updates → bag_with hashed bag updates ≡ bag
unfolding bag_with with_keys
same_bag bag [] all = refl
same_bag bag (update ∷ updates) all =
    ap (λ keys. bag_with hashed (with_keys hashed bag keys) updates) all.0.1 ∙ same_bag bag updates all.1

-- the side after this letter is posted
abbrev side_posted : sides.Side → Task → sides.Side
side_posted side task = record side { mailbox = side.mailbox ++ task ∷ []; seen = seen_after side.seen (Some task); letter = None }

where_true : {A : Type 0} (test : Bool) (x y : A) → test ≡ true → cond test x y ≡ x
where_true test x y is = rw is refl

own_bag : (client : Client) (kind : Kind) (side : sides.Side) → (record (with_side client kind side) { bag = client.bag }) ≡ with_side client kind side
own_bag client Nigori side = refl
own_bag client Preference side = refl
own_bag client Password side = refl

own_side : (client : Client) (kind : Kind) → with_side client kind (side_of client kind) ≡ client
own_side client Nigori = refl
own_side client Preference = refl
own_side client Password = refl

posted_is : (client : Client) (kind : Kind) (side : sides.Side) (task : Task) → side.pending ≡ None → IsOpenTask task
    → posted hashed client kind side task ≡ with_side client kind (side_posted side task)
posted_is client kind side (Acks acks) pending unsealed = refl
posted_is client kind side (Updating batch) pending unsealed =
    where_true (opens hashed client.bag batch) (batch_mailed hashed client kind (record side { letter = None }) batch)
    (with_side client kind (record side { pending = Some batch; letter = None })) (all_opens client.bag batch.updates unsealed)
    ∙ ap (λ bag. record (with_side client kind (mailed (record side { letter = None }) batch)) { bag = bag }) (same_bag client.bag batch.updates unsealed)
    ∙ own_bag client kind (mailed (record side { letter = None }) batch)
    ∙ ap (λ waiting. with_side client kind (record (mailed (record side { letter = None }) batch) { pending = waiting })) (sym pending)

-- the letter of a client's type is posted, if there is one
pub post_happens : {Rules : Type 0} (client : Client) (kind : Kind) (old new : Side Rules) (letter : Option Task) (outcome : EventOutcome)
    → side_of client kind ≡ stood_for old → old.letter ≡ letter → IfSome letter IsOpenTask → IsPostedOf letter old outcome new
    → HappensAlone (post_effect hashed kind client) outcome client (with_side client kind (stood_for new))
unfolding post_effect
post_happens client kind old new None outcome is is_letter unsealed post =
    λ number settled. nothing number (post_effect hashed kind client) outcome client (with_side client kind (stood_for new)) settled settled
    (ap (λ side. post_effect_at hashed client kind side side.letter) is ∙ ap (post_effect_at hashed client kind (stood_for old)) is_letter) post.0
    (ap (λ side. with_side client kind (stood_for side)) post.1 ∙ ap (with_side client kind) (sym is) ∙ own_side client kind) refl
post_happens client kind old new (Some task) outcome is is_letter unsealed post =
    alone (post_effect hashed kind client) (posted hashed client kind (stood_for old) task) Done outcome client (with_side client kind (stood_for new))
    (ap (λ side. post_effect_at hashed client kind side side.letter) is ∙ ap (post_effect_at hashed client kind (stood_for old)) is_letter) post.0
    (ap (λ side. with_side client kind (stood_for side)) post.1 ∙ sym (posted_is client kind (stood_for old) task refl unsealed))

-- a letter that is there is posted
pub post_has_effect : {Rules : Type 0} (client : Client) (kind : Kind) (old : Side Rules) (letter : Option Task) → side_of client kind ≡ stood_for old
    → old.letter ≡ letter → IsSome letter → IsSome (post_effect hashed kind client)
unfolding post_effect
post_has_effect client kind old None is is_letter there = absurd (false≢true there)
post_has_effect client kind old (Some task) is is_letter there =
    ap is_some (ap (λ side. post_effect_at hashed client kind side side.letter) is ∙ ap (post_effect_at hashed client kind (stood_for old)) is_letter)

-- a task that waits is applied
pub turn_has_effect : {Rules : Type 0} (client : Client) (kind : Kind) (old : Side Rules) (tasks : List Task) → side_of client kind ≡ stood_for old
    → old.processor.mailbox ≡ tasks → 0 < length tasks → IsSome (turn_effect hashed kind client)
unfolding turn_effect
turn_has_effect client kind old [] is is_mailbox some = absurd (omega (arith, some))
turn_has_effect client kind old (task ∷ tasks) is is_mailbox some =
    ap is_some (ap (λ side. turn_effect_at hashed client kind side side.mailbox) is ∙ ap (turn_effect_at hashed client kind (stood_for old)) is_mailbox)

-- what a turn makes of a processor is what it makes of its side
side_turned : {Rules : Type 0} (decided : Value → Value → Decision) (old : Side Rules) (task : Task) (tasks : List Task)
    → stood_for (record old { processor = turned_by decided old.processor (task ∷ tasks) }) ≡ after_task decided (record (stood_for old) { mailbox = tasks }) task
unfolding after_task
side_turned decided old (Updating batch) tasks = refl
side_turned decided old (Acks acks) tasks = refl

-- the first task of a client's type is applied, if there is one
pub turn_happens : {Rules : Type 0} (number : ℕ) (client : Client) (kind : Kind) (decided : Value → Value → Decision) (old new : Side Rules) (tasks : List Task) (outcome : EventOutcome) (before settled : List Settlement)
    → decided ≡ decided_by hashed kind → side_of client kind ≡ stood_for old → old.processor.mailbox ≡ tasks → IsTurnedBy tasks decided number kind old outcome new before settled
    → Happens number (turn_effect hashed kind client) outcome client (with_side client kind (stood_for new)) before settled
unfolding turn_effect
turn_happens number client kind decided old new [] outcome before settled rule is is_mailbox turn =
    nothing number (turn_effect hashed kind client) outcome client (with_side client kind (stood_for new)) before settled
    (ap (λ side. turn_effect_at hashed client kind side side.mailbox) is ∙ ap (turn_effect_at hashed client kind (stood_for old)) is_mailbox) turn.0
    (ap (λ side. with_side client kind (stood_for side)) turn.1 ∙ ap (with_side client kind) (sym is) ∙ own_side client kind) turn.2
turn_happens number client kind decided old new (task ∷ tasks) outcome before settled rule is is_mailbox turn =
    happens number (turn_effect hashed kind client) record {
      client = with_side client kind (after_task (decided_by hashed kind) (record (stood_for old) { mailbox = tasks }) task);
      outcome = Done;
      kind = kind;
      notes = task_notes (decided_by hashed kind) old.processor.states task;
    } outcome client (with_side client kind (stood_for new)) before settled
    (ap (λ side. turn_effect_at hashed client kind side side.mailbox) is ∙ ap (turn_effect_at hashed client kind (stood_for old)) is_mailbox) turn.0
    (ap (λ side. with_side client kind (stood_for side)) (turn.1 ∙ ap (λ mailbox. record old { processor = turned_by decided old.processor mailbox }) is_mailbox)
    ∙ ap (with_side client kind) (side_turned decided old task tasks)
    ∙ ap (λ rule. with_side client kind (after_task rule (record (stood_for old) { mailbox = tasks }) task)) rule)
    (turn.2 ∙ ap (λ rule. before ++ map (settlement_of number kind) (task_notes rule old.processor.states task)) rule)

-- the rules of the three types are those of the program's runs
pub same_rule : (kind : Kind) → decided_by names kind ≡ decided_by hashed kind
unfolding names hashed
same_rule Nigori = refl
same_rule Preference = refl
same_rule Password = refl

-- a task that speaks of no key leaves a side without keys
idle_task : {Rules : Type 0} (decided : Value → Value → Decision) (old : Side Rules) (task : Task) (tasks : List Task) → old.processor.states ≡ [] → IsIdleTask task
    → (turned_by decided old.processor (task ∷ tasks)).states ≡ []
unfolding after_task after_updates after_acks
idle_task decided old (Updating batch) tasks none idle = ap (after_updates decided old.processor.states) idle ∙ none
idle_task decided old (Acks acks) tasks none idle = ap (after_acks old.processor.states) idle ∙ none

idle_mail : {Rules : Type 0} (decided : Value → Value → Decision) (old : Side Rules) (task : Task) (tasks : List Task)
    → (turned_by decided old.processor (task ∷ tasks)).mailbox ≡ tasks
unfolding after_task
idle_mail decided old (Updating batch) tasks = refl
idle_mail decided old (Acks acks) tasks = refl

-- a turn leaves a side without keys
turned_idle : {Rules : Type 0} (decided : Value → Value → Decision) (number : ℕ) (kind : Kind) (old new : Side Rules) (tasks : List Task) (outcome : EventOutcome) (before settled : List Settlement)
    → old.processor.mailbox ≡ tasks → AllByRecursion IsIdleTask tasks → IsIdle (stood_for old) → IsTurnedBy tasks decided number kind old outcome new before settled → IsIdle (stood_for new)
turned_idle decided number kind old new [] outcome before settled is_mailbox tasks idle turn = subst (λ side. IsIdle (stood_for side)) (sym turn.1) idle
turned_idle decided number kind old new (task ∷ tasks) outcome before settled is_mailbox all idle turn =
    subst (λ side. IsIdle (stood_for side)) (sym (turn.1 ∙ ap (λ mailbox. record old { processor = turned_by decided old.processor mailbox }) is_mailbox))
    record { states = idle_task decided old task tasks idle.states all.0; mailbox = subst (AllByRecursion IsIdleTask) (sym (idle_mail decided old task tasks)) all.1; letter = idle.letter }

-- what a turn of a client's type leaves idle
pub stays_idle : {Rules : Type 0} (result : Result EventOutcome NoMemory) (decided : Value → Value → Decision) (number : ℕ) (kind : Kind) (old new : Side Rules) (before settled : List Settlement)
    → IsIdle (stood_for old) → IfOk result (λ outcome. IsTurnedBy old.processor.mailbox decided number kind old outcome new before settled) → OnErr result (new ≡ old) → IsIdle (stood_for new)
stays_idle (Ok outcome) decided number kind old new before settled idle turn err = turned_idle decided number kind old new old.processor.mailbox outcome before settled refl idle.mailbox idle turn
stays_idle (Err fault) decided number kind old new before settled idle turn err = subst (λ side. IsIdle (stood_for side)) (sym err) idle
