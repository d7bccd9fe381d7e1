-- Turns and mail: a client has the keys that it knows and sends after them, if it had them before.
use Rattle.std.proofs.Common.{◌≡◌, ℕ, false, List, [], ◌∷◌, ◌++◌, Option, Some, None, refl, sym, ap, ◌∙◌, subst, append_assoc}
use Rattle.std.proofs.lemmas.Bool.{false≢true, cond_both}
use Rattle.client_tags.specs.declared.Kind.{Kind}
use Rattle.client_tags.specs.declared.Kind.TheVariants.{Nigori, Preference, Password}
use Rattle.key_derivation.specs.declared.NigoriKey.{NigoriKey}
use Rattle.sync_model.specs.declared.event.EventOutcome.{EventOutcome}
use Rattle.sync_model.specs.declared.event.EventOutcome.TheVariants.{Done}
use Rattle.sync_model.specs.declared.message.Batch.{Batch}
use Rattle.sync_model.specs.declared.message.Content.{Content}
use Rattle.sync_model.specs.declared.message.Entry.{Entry}
use Rattle.sync_model.specs.declared.message.Task.{Task}
use Rattle.sync_model.specs.declared.message.Task.TheVariants.{Batch as Updating, Acks}
use Rattle.sync_model.specs.Values.{same_kind}
use Rattle.sync_model.specs.Settings.{Setting, decided_by, nigori_hash, names_of}
use Rattle.sync_model.specs.Sides.{Side, state_at, after_task, mailed}
use Rattle.sync_model.specs.Clients.{Client, with_side, opens, bag_with, batch_mailed}
use Rattle.sync_model.specs.Receiving.{posted, post_effect_at, post_effect, turn_effect_at, turn_effect}
use Rattle.sync_model.specs.KeyFacts.{Each, HaveNames, UpdateTells, TaskTells, names_sent, names_awaited, names_in_task, names_in_letter, names_in_tasks, under_way, IsOpened, PendingTells, ClientHasKeys, HasKeys}
use Rattle.sync_model.proofs.EachLemmas.{Each-append}
use Rattle.sync_model.proofs.KeyNames.{has_names-self, has_names-both, has_names-parts}
use Rattle.sync_model.proofs.KeyHistory.{GoesOn-self}
use Rattle.sync_model.proofs.KeyClients.{Has, has_four, way_parts, StateHasKeys-later, ClientHasKeys-less, ClientHasKeys-more, tasks-opened, bag_with-keeps, bag_with-has}
use Rattle.sync_model.proofs.KeyTurns.{StatesHaveKeys, after_updates-HasKeys, after_acks-HasKeys}
use Rattle.sync_model.proofs.KeyEvents.{MayHaveKeys, HasKeys-next, with_side-HasKeys}

-- the states after a task
turned-StatesHaveKeys : (setting : Setting) (history : List (Entry Content)) (bag : List NigoriKey) (way : List (List ℕ)) (side : Side) (task : Task)
    → TaskTells setting history task → IsOpened setting bag task → Has way (names_in_task setting task) → HaveNames setting bag way
    → StatesHaveKeys setting history bag way side.states → StatesHaveKeys setting history bag way (after_task (decided_by setting Nigori) side task).states
unfolding after_task
turned-StatesHaveKeys setting history bag way side (Updating batch) tells opened sent had has =
    after_updates-HasKeys setting history bag way side.states batch.updates tells opened has
turned-StatesHaveKeys setting history bag way side (Acks acks) tells opened sent had has =
    after_acks-HasKeys setting history bag way side.states acks tells sent had has

-- a task changes what is known alone
turned_with : (setting : Setting) (history : List (Entry Content)) (outcomes : List EventOutcome) (side : Side) (bag : List NigoriKey) (held : List (Entry Content))
    (outstanding : Option ℕ) (task : Task)
    → StatesHaveKeys setting history bag (under_way setting outcomes side held outstanding) (after_task (decided_by setting Nigori) side task).states
    → ClientHasKeys setting history outcomes side bag held outstanding
    → ClientHasKeys setting history outcomes (after_task (decided_by setting Nigori) side task) bag held outstanding
unfolding after_task
turned_with setting history outcomes side bag held outstanding (Updating batch) holds has = record {
  entity = holds.entity;
  state = holds.state;
  way = has.way;
  holds = has.holds;
  requested = has.requested;
  mailbox = has.mailbox;
  opened = has.opened;
  letter = has.letter;
  pending = has.pending;
}
turned_with setting history outcomes side bag held outstanding (Acks acks) holds has = record {
  entity = holds.entity;
  state = holds.state;
  way = has.way;
  holds = has.holds;
  requested = has.requested;
  mailbox = has.mailbox;
  opened = has.opened;
  letter = has.letter;
  pending = has.pending;
}

-- the first task of a mailbox is applied
turned-HasKeys : (setting : Setting) (history : List (Entry Content)) (outcomes : List EventOutcome) (side : Side) (bag : List NigoriKey) (held : List (Entry Content))
    (outstanding : Option ℕ) (task : Task) (tasks : List Task)
    → ClientHasKeys setting history outcomes (record side { mailbox = task ∷ tasks }) bag held outstanding
    → ClientHasKeys setting history outcomes (after_task (decided_by setting Nigori) (record side { mailbox = tasks }) task) bag held outstanding
turned-HasKeys setting history outcomes side bag held outstanding task tasks has =
    let full : Side = record side { mailbox = task ∷ tasks }
    in let rest : Side = record side { mailbox = tasks }
    in let way : List (List ℕ) = under_way setting outcomes full held outstanding
    in let less : List (List ℕ) = under_way setting outcomes rest held outstanding
    in let parts = way_parts setting outcomes full held outstanding
    in let mail = has_names-parts way (names_in_task setting task) (names_in_tasks setting tasks) parts.mailbox
    in let falls : Has way less = has_four way (names_sent setting held) (names_awaited setting outcomes outstanding) (names_in_letter setting side.letter)
    (names_in_tasks setting tasks) parts.held parts.awaited parts.letter mail.1
    in let holds = turned-StatesHaveKeys setting history bag way rest task has.mailbox.0 has.opened.0 mail.0 has.way
    (record { entity = has.entity; state = has.state })
    in turned_with setting history outcomes rest bag held outstanding task
    (record {
      entity = holds.entity;
      state = StateHasKeys-later setting history history bag bag way less (state_at (after_task (decided_by setting Nigori) rest task).states (nigori_hash setting))
          (GoesOn-self setting history) (has_names-self (names_of setting bag)) falls holds.state;
    })
    (ClientHasKeys-less setting history outcomes full rest bag bag held held outstanding outstanding refl (has_names-self (names_of setting bag)) falls
    has.holds has.requested has.mailbox.1 has.opened.1 has.letter has.pending has)

turn_of_profile : (setting : Setting) (history : List (Entry Content)) (outcomes : List EventOutcome) (client : Client) (tasks : List Task)
    → client.nigori.mailbox ≡ tasks → HasKeys setting history outcomes client
    → MayHaveKeys setting history outcomes (turn_effect_at setting client Nigori client.nigori tasks)
turn_of_profile setting history outcomes client [] is has = tt
turn_of_profile setting history outcomes client (task ∷ tasks) is has = record {
  client = turned-HasKeys setting history (Done ∷ outcomes) client.nigori client.bag client.held client.outstanding task tasks
      (subst (λ (mailbox : List Task). ClientHasKeys setting history (Done ∷ outcomes) (record client.nigori { mailbox = mailbox }) client.bag client.held client.outstanding) is
      (HasKeys-next setting history Done outcomes client has));
  sent = tt;
  gave = tt;
}

turn_of_other : (setting : Setting) (history : List (Entry Content)) (outcomes : List EventOutcome) (client : Client) (kind : Kind) (side : Side) (tasks : List Task)
    → same_kind kind Nigori ≡ false → HasKeys setting history outcomes client
    → MayHaveKeys setting history outcomes (turn_effect_at setting client kind side tasks)
turn_of_other setting history outcomes client kind side [] other has = tt
turn_of_other setting history outcomes client kind side (task ∷ tasks) other has = record {
  client = with_side-HasKeys setting history (Done ∷ outcomes) client kind _ other (HasKeys-next setting history Done outcomes client has);
  sent = tt;
  gave = tt;
}

pub turn_effect-HasKeys : (setting : Setting) (history : List (Entry Content)) (outcomes : List EventOutcome) (kind : Kind) (client : Client)
    → HasKeys setting history outcomes client → MayHaveKeys setting history outcomes (turn_effect setting kind client)
unfolding turn_effect
turn_effect-HasKeys setting history outcomes Nigori client has = turn_of_profile setting history outcomes client client.nigori.mailbox refl has
turn_effect-HasKeys setting history outcomes Preference client has =
    turn_of_other setting history outcomes client Preference client.preference client.preference.mailbox refl has
turn_effect-HasKeys setting history outcomes Password client has =
    turn_of_other setting history outcomes client Password client.password client.password.mailbox refl has

-- the acknowledged names of two mailboxes
names_in_tasks-append : (setting : Setting) (first second : List Task)
    → names_in_tasks setting (first ++ second) ≡ names_in_tasks setting first ++ names_in_tasks setting second
names_in_tasks-append setting [] second = refl
names_in_tasks-append setting (task ∷ first) second =
    ap (λ (names : List (List ℕ)). names_in_task setting task ++ names) (names_in_tasks-append setting first second)
    ∙ sym (append_assoc (names_in_task setting task) (names_in_tasks setting first) (names_in_tasks setting second))

-- a task more in the mailbox
has_mailed : (setting : Setting) (names : List (List ℕ)) (mailbox : List Task) (task : Task) → Has names (names_in_tasks setting mailbox)
    → Has names (names_in_task setting task) → Has names (names_in_tasks setting (mailbox ++ task ∷ []))
has_mailed setting names mailbox task before new =
    subst (λ (others : List (List ℕ)). Has names others) (sym (names_in_tasks-append setting mailbox (task ∷ [])))
    (has_names-both names (names_in_tasks setting mailbox) (names_in_task setting task ++ []) before (has_names-both names (names_in_task setting task) [] new refl))

-- a letter is posted or dropped, and the batch that waits may be another one
relettered-HasKeys : (setting : Setting) (history : List (Entry Content)) (outcomes : List EventOutcome) (side : Side) (bag : List NigoriKey) (held : List (Entry Content))
    (outstanding : Option ℕ) (pending : Option Batch) → PendingTells setting history pending
    → ClientHasKeys setting history outcomes side bag held outstanding
    → ClientHasKeys setting history outcomes (record side { pending = pending; letter = None }) bag held outstanding
relettered-HasKeys setting history outcomes side bag held outstanding pending tells has =
    let parts = way_parts setting outcomes side held outstanding
    in ClientHasKeys-less setting history outcomes side (record side { pending = pending; letter = None }) bag bag held held outstanding outstanding refl
    (has_names-self (names_of setting bag))
    (has_four (under_way setting outcomes side held outstanding) (names_sent setting held) (names_awaited setting outcomes outstanding) [] (names_in_tasks setting side.mailbox)
    parts.held parts.awaited refl parts.mailbox)
    has.holds has.requested has.mailbox has.opened tt tells has

-- a batch that opens is mailed
pub mailed-HasKeys : (setting : Setting) (history : List (Entry Content)) (outcomes : List EventOutcome) (side : Side) (bag : List NigoriKey) (held : List (Entry Content))
    (outstanding : Option ℕ) (batch : Batch) → Each (UpdateTells setting history) batch.updates
    → ClientHasKeys setting history outcomes side bag held outstanding
    → ClientHasKeys setting history outcomes (mailed side batch) (bag_with setting bag batch.updates) held outstanding
mailed-HasKeys setting history outcomes side bag held outstanding batch tells has =
    let parts = way_parts setting outcomes side held outstanding
    in let way : List (List ℕ) = under_way setting outcomes side held outstanding
    in let more : List NigoriKey = bag_with setting bag batch.updates
    in let grows : HaveNames setting more (names_of setting bag) = bag_with-keeps setting bag batch.updates
    in ClientHasKeys-less setting history outcomes side (mailed side batch) bag more held held outstanding outstanding refl grows
    (has_four way (names_sent setting held) (names_awaited setting outcomes outstanding) (names_in_letter setting side.letter)
    (names_in_tasks setting (side.mailbox ++ Updating batch ∷ [])) parts.held parts.awaited parts.letter
    (has_mailed setting way side.mailbox (Updating batch) parts.mailbox refl))
    has.holds has.requested (Each-append (TaskTells setting history) side.mailbox (Updating batch ∷ []) has.mailbox (tells, tt))
    (Each-append (IsOpened setting more) side.mailbox (Updating batch ∷ []) (tasks-opened setting bag more side.mailbox grows has.opened) (bag_with-has setting bag batch.updates, tt))
    has.letter tt has

-- acknowledgements are mailed
acked-HasKeys : (setting : Setting) (history : List (Entry Content)) (outcomes : List EventOutcome) (side : Side) (bag : List NigoriKey) (held : List (Entry Content))
    (outstanding : Option ℕ) (task : Task) → IsOpened setting bag task
    → ClientHasKeys setting history outcomes (record side { letter = Some task }) bag held outstanding
    → ClientHasKeys setting history outcomes (record side { mailbox = side.mailbox ++ task ∷ []; letter = None }) bag held outstanding
acked-HasKeys setting history outcomes side bag held outstanding task opened has =
    let full : Side = record side { letter = Some task }
    in let parts = way_parts setting outcomes full held outstanding
    in let way : List (List ℕ) = under_way setting outcomes full held outstanding
    in ClientHasKeys-less setting history outcomes full (record side { mailbox = side.mailbox ++ task ∷ []; letter = None }) bag bag held held outstanding outstanding refl
    (has_names-self (names_of setting bag))
    (has_four way (names_sent setting held) (names_awaited setting outcomes outstanding) [] (names_in_tasks setting (side.mailbox ++ task ∷ []))
    parts.held parts.awaited refl (has_mailed setting way side.mailbox task parts.mailbox parts.letter))
    has.holds has.requested (Each-append (TaskTells setting history) side.mailbox (task ∷ []) has.mailbox (has.letter, tt))
    (Each-append (IsOpened setting bag) side.mailbox (task ∷ []) has.opened (opened, tt)) tt has.pending has

-- the letter of the profile's keys is posted
posted_of_profile : (setting : Setting) (history : List (Entry Content)) (outcomes : List EventOutcome) (client : Client) (task : Task)
    → ClientHasKeys setting history outcomes (record client.nigori { letter = Some task }) client.bag client.held client.outstanding
    → HasKeys setting history outcomes (posted setting client Nigori client.nigori task)
posted_of_profile setting history outcomes client (Acks acks) has =
    acked-HasKeys setting history outcomes client.nigori client.bag client.held client.outstanding (Acks acks) tt has
posted_of_profile setting history outcomes client (Updating batch) has =
    let full : Side = record client.nigori { letter = Some (Updating batch) }
    in let plain = relettered-HasKeys setting history outcomes full client.bag client.held client.outstanding client.nigori.pending has.pending has
    in cond_both (opens setting client.bag batch) (batch_mailed setting client Nigori (record client.nigori { letter = None }) batch)
    (with_side client Nigori (record client.nigori { pending = Some batch; letter = None })) (λ (next : Client). HasKeys setting history outcomes next)
    (λ open_now. mailed-HasKeys setting history outcomes (record client.nigori { letter = None }) client.bag client.held client.outstanding batch has.letter plain)
    (λ waits. relettered-HasKeys setting history outcomes full client.bag client.held client.outstanding (Some batch) has.letter has)

-- a batch of another type is mailed
pub batch_mailed-HasKeys : (setting : Setting) (history : List (Entry Content)) (outcomes : List EventOutcome) (client : Client) (kind : Kind) (side : Side) (batch : Batch)
    → same_kind kind Nigori ≡ false → HasKeys setting history outcomes client
    → HasKeys setting history outcomes (batch_mailed setting client kind side batch)
batch_mailed-HasKeys setting history outcomes client Nigori side batch other has = absurd (false≢true (sym other))
batch_mailed-HasKeys setting history outcomes client Preference side batch other has =
    ClientHasKeys-more setting history outcomes client.nigori client.bag (bag_with setting client.bag batch.updates) client.held client.outstanding
    (bag_with-keeps setting client.bag batch.updates) has
batch_mailed-HasKeys setting history outcomes client Password side batch other has =
    ClientHasKeys-more setting history outcomes client.nigori client.bag (bag_with setting client.bag batch.updates) client.held client.outstanding
    (bag_with-keeps setting client.bag batch.updates) has

-- a letter of another type is posted
posted_of_other : (setting : Setting) (history : List (Entry Content)) (outcomes : List EventOutcome) (client : Client) (kind : Kind) (side : Side) (task : Task)
    → same_kind kind Nigori ≡ false → HasKeys setting history outcomes client
    → HasKeys setting history outcomes (posted setting client kind side task)
posted_of_other setting history outcomes client kind side (Acks acks) other has = with_side-HasKeys setting history outcomes client kind _ other has
posted_of_other setting history outcomes client kind side (Updating batch) other has =
    cond_both (opens setting client.bag batch) (batch_mailed setting client kind (record side { letter = None }) batch)
    (with_side client kind (record side { pending = Some batch; letter = None })) (λ (next : Client). HasKeys setting history outcomes next)
    (λ open_now. batch_mailed-HasKeys setting history outcomes client kind (record side { letter = None }) batch other has)
    (λ waits. with_side-HasKeys setting history outcomes client kind (record side { pending = Some batch; letter = None }) other has)

post_of_profile : (setting : Setting) (history : List (Entry Content)) (outcomes : List EventOutcome) (client : Client) (letter : Option Task)
    → client.nigori.letter ≡ letter → HasKeys setting history outcomes client
    → MayHaveKeys setting history outcomes (post_effect_at setting client Nigori client.nigori letter)
post_of_profile setting history outcomes client None is has = tt
post_of_profile setting history outcomes client (Some task) is has = record {
  client = posted_of_profile setting history (Done ∷ outcomes) client task
      (subst (λ (letter : Option Task). ClientHasKeys setting history (Done ∷ outcomes) (record client.nigori { letter = letter }) client.bag client.held client.outstanding) is
      (HasKeys-next setting history Done outcomes client has));
  sent = tt;
  gave = tt;
}

post_of_other : (setting : Setting) (history : List (Entry Content)) (outcomes : List EventOutcome) (client : Client) (kind : Kind) (side : Side) (letter : Option Task)
    → same_kind kind Nigori ≡ false → HasKeys setting history outcomes client
    → MayHaveKeys setting history outcomes (post_effect_at setting client kind side letter)
post_of_other setting history outcomes client kind side None other has = tt
post_of_other setting history outcomes client kind side (Some task) other has = record {
  client = posted_of_other setting history (Done ∷ outcomes) client kind side task other (HasKeys-next setting history Done outcomes client has);
  sent = tt;
  gave = tt;
}

pub post_effect-HasKeys : (setting : Setting) (history : List (Entry Content)) (outcomes : List EventOutcome) (kind : Kind) (client : Client)
    → HasKeys setting history outcomes client → MayHaveKeys setting history outcomes (post_effect setting kind client)
unfolding post_effect
post_effect-HasKeys setting history outcomes Nigori client has = post_of_profile setting history outcomes client client.nigori.letter refl has
post_effect-HasKeys setting history outcomes Preference client has =
    post_of_other setting history outcomes client Preference client.preference client.preference.letter refl has
post_effect-HasKeys setting history outcomes Password client has =
    post_of_other setting history outcomes client Password client.password client.password.letter refl has
