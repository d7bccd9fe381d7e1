-- What a client has of the profile's keys it still has where the history, the log and its bag grow, and where less is under way.
use Rattle.std.proofs.Common.{◌≡◌, ℕ, ◌+◌, ◌≤◌, true, List, [], ◌∷◌, ◌++◌, length, Option, Some, None, refl, sym, ap, ◌∙◌, subst, eqb, eq-eqb, arith}
use Rattle.std.proofs.lemmas.Bool.{false≢true, eqb-true, cond-true, cond-false, false_from_ne_true}
use Rattle.key_derivation.specs.declared.NigoriKey.{NigoriKey}
use Rattle.sync_values.specs.declared.value.Value.{Value}
use Rattle.sync_values.specs.declared.value.Value.TheVariants.{Absent}
use Rattle.sync_model.specs.declared.event.EventOutcome.{EventOutcome}
use Rattle.sync_model.specs.declared.message.Ack.{Ack}
use Rattle.sync_model.specs.declared.message.Batch.{Batch}
use Rattle.sync_model.specs.declared.message.Content.{Content}
use Rattle.sync_model.specs.declared.message.Entry.{Entry}
use Rattle.sync_model.specs.declared.message.Task.{Task}
use Rattle.sync_model.specs.declared.message.Task.TheVariants.{Batch as Updating, Acks}
use Rattle.sync_model.specs.declared.message.Update.{Update}
use Rattle.sync_model.specs.declared.state.KeyState.{KeyState}
use Rattle.sync_model.specs.declared.state.Offered.{Offered}
use Rattle.sync_model.specs.Values.{keys_in, has_names}
use Rattle.sync_model.specs.Settings.{Setting, nigori_hash, names_of, with_keys}
use Rattle.sync_model.specs.Sides.{States, Side, state_at}
use Rattle.sync_model.specs.Clients.{new_client, bag_with}
use Rattle.sync_model.specs.Outcomes.{entries_sent}
use Rattle.sync_model.specs.Worlds.{outcome_at}
use Rattle.sync_model.specs.KeyFacts.{Each, HaveNames, HaveOffered, names_in, profile_at, KeepsKeys, IsKnown, IsTold, UpdateTells, AckTells, TaskTells, LetterTells, PendingTells, names_sent, names_awaited, names_in_letter, names_in_tasks, under_way, names_updated, IsOpened, StateHasKeys, IsOneEntity, IsRequested, ClientHasKeys, HasKeys}
use Rattle.sync_model.proofs.KeyNames.{has_names-self, has_names-through, has_names-both, has_names-parts, with_keys-keeps, with_keys-has}
use Rattle.sync_model.proofs.KeyHistory.{GoesOn, GoesOn-self, EachKeepsKeys-later, profile_at-kept}

-- some names are all among others
abbrev pub Has : List (List ℕ) → List (List ℕ) → Type 0
Has names others = has_names names others ≡ true

-- four parts of names are among others
pub has_four : (names a b c d : List (List ℕ)) → Has names a → Has names b → Has names c → Has names d → Has names (a ++ (b ++ (c ++ d)))
has_four names a b c d has_a has_b has_c has_d =
    has_names-both names a (b ++ (c ++ d)) has_a (has_names-both names b (c ++ d) has_b (has_names-both names c d has_c has_d))

-- each of four parts is among the whole
pub record FourParts (a b c d : List (List ℕ)) : Type 0 where
  pub held : Has (a ++ (b ++ (c ++ d))) a
  pub awaited : Has (a ++ (b ++ (c ++ d))) b
  pub letter : Has (a ++ (b ++ (c ++ d))) c
  pub mailbox : Has (a ++ (b ++ (c ++ d))) d

four_parts : (a b c d : List (List ℕ)) → FourParts a b c d
four_parts a b c d =
    let first = has_names-parts (a ++ (b ++ (c ++ d))) a (b ++ (c ++ d)) (has_names-self (a ++ (b ++ (c ++ d))))
    in let second = has_names-parts (a ++ (b ++ (c ++ d))) b (c ++ d) first.1
    in let third = has_names-parts (a ++ (b ++ (c ++ d))) c d second.1
    in record { held = first.0; awaited = second.0; letter = third.0; mailbox = third.1 }

-- the parts of what is under way
pub way_parts : (setting : Setting) (outcomes : List EventOutcome) (side : Side) (held : List (Entry Content)) (outstanding : Option ℕ)
    → FourParts (names_sent setting held) (names_awaited setting outcomes outstanding) (names_in_letter setting side.letter) (names_in_tasks setting side.mailbox)
way_parts setting outcomes side held outstanding =
    four_parts (names_sent setting held) (names_awaited setting outcomes outstanding) (names_in_letter setting side.letter) (names_in_tasks setting side.mailbox)

-- what is known stays so where the history goes on
IsKnown-later : (setting : Setting) (old new : List (Entry Content)) (version : ℕ) (value : Value) → GoesOn setting old new
    → IsKnown old version value → IsKnown new version value
IsKnown-later setting old new version value on known = record {
  within = omega (arith, known.within, on.longer);
  is = known.is ∙ sym (on.same version known.within);
}

pub IsTold-later : (setting : Setting) (old new : List (Entry Content)) (hash : List ℕ) (version : ℕ) (value : Value) → GoesOn setting old new
    → IsTold setting old hash version value → IsTold setting new hash version value
IsTold-later setting old new hash version value on told =
    record { entity = told.entity; known = IsKnown-later setting old new version value on told.known }

updates-later : (setting : Setting) (old new : List (Entry Content)) (updates : List Update) → GoesOn setting old new
    → Each (UpdateTells setting old) updates → Each (UpdateTells setting new) updates
updates-later setting old new [] on tells = tt
updates-later setting old new (update ∷ updates) on tells =
    (IsTold-later setting old new update.hash update.version update.value on tells.0, updates-later setting old new updates on tells.1)

acks-later : (setting : Setting) (old new : List (Entry Content)) (acks : List Ack) → GoesOn setting old new
    → Each (AckTells setting old) acks → Each (AckTells setting new) acks
acks-later setting old new [] on tells = tt
acks-later setting old new (ack ∷ acks) on tells =
    (IsTold-later setting old new ack.hash ack.version ack.value on tells.0, acks-later setting old new acks on tells.1)

task-later : (setting : Setting) (old new : List (Entry Content)) (task : Task) → GoesOn setting old new
    → TaskTells setting old task → TaskTells setting new task
task-later setting old new (Updating batch) on tells = updates-later setting old new batch.updates on tells
task-later setting old new (Acks acks) on tells = acks-later setting old new acks on tells

tasks-later : (setting : Setting) (old new : List (Entry Content)) (tasks : List Task) → GoesOn setting old new
    → Each (TaskTells setting old) tasks → Each (TaskTells setting new) tasks
tasks-later setting old new [] on tells = tt
tasks-later setting old new (task ∷ tasks) on tells = (task-later setting old new task on tells.0, tasks-later setting old new tasks on tells.1)

letter-later : (setting : Setting) (old new : List (Entry Content)) (letter : Option Task) → GoesOn setting old new
    → LetterTells setting old letter → LetterTells setting new letter
letter-later setting old new None on tells = tt
letter-later setting old new (Some task) on tells = task-later setting old new task on tells

pending-later : (setting : Setting) (old new : List (Entry Content)) (pending : Option Batch) → GoesOn setting old new
    → PendingTells setting old pending → PendingTells setting new pending
pending-later setting old new None on tells = tt
pending-later setting old new (Some batch) on tells = updates-later setting old new batch.updates on tells

-- a bag with more keys opens what it opened
task-opened : (setting : Setting) (bag more : List NigoriKey) (task : Task) → HaveNames setting more (names_of setting bag)
    → IsOpened setting bag task → IsOpened setting more task
task-opened setting bag more (Updating batch) grows opened =
    has_names-through (names_of setting more) (names_of setting bag) (names_updated setting batch.updates) grows opened
task-opened setting bag more (Acks acks) grows opened = tt

pub tasks-opened : (setting : Setting) (bag more : List NigoriKey) (tasks : List Task) → HaveNames setting more (names_of setting bag)
    → Each (IsOpened setting bag) tasks → Each (IsOpened setting more) tasks
tasks-opened setting bag more [] grows opened = tt
tasks-opened setting bag more (task ∷ tasks) grows opened = (task-opened setting bag more task grows opened.0, tasks-opened setting bag more tasks grows opened.1)

-- keys that have others have what these have
pub offered-through : (setting : Setting) (keys more : List NigoriKey) (offered : List Offered) → HaveNames setting more (names_of setting keys)
    → HaveOffered setting keys offered → HaveOffered setting more offered
offered-through setting keys more [] grows have = tt
offered-through setting keys more (pair ∷ offered) grows have = (
  has_names-through (names_of setting more) (names_of setting keys) (names_in setting pair.value) grows have.0,
  offered-through setting keys more offered grows have.1,
)

-- a state has its keys where the history goes on, the bag grows, and less is under way
pub StateHasKeys-later : (setting : Setting) (old new : List (Entry Content)) (bag more : List NigoriKey) (way less : List (List ℕ)) (state : KeyState)
    → GoesOn setting old new → HaveNames setting more (names_of setting bag) → Has way less
    → StateHasKeys setting old bag way state → StateHasKeys setting new more less state
StateHasKeys-later setting old new bag more way less state on grows falls has = record {
  known = IsKnown-later setting old new state.known state.base on has.known;
  had = has_names-through (names_of setting more) (names_of setting bag) (names_in setting state.base) grows has.had;
  waits = λ due. let waits = has.waits due in record {
    has_lock = waits.has_lock;
    has_base = waits.has_base;
    has_way = has_names-through (names_in setting state.own) way less waits.has_way falls;
    had = has_names-through (names_of setting more) (names_of setting bag) (names_in setting state.own) grows waits.had;
  };
  offered = offered-through setting bag more state.offered grows has.offered;
  waits_offered = has.waits_offered;
}

-- an earlier event's outcome stays
outcome_at-kept : (outcome : EventOutcome) (outcomes : List EventOutcome) (event : ℕ) → event ≤ length outcomes
    → outcome_at (outcome ∷ outcomes) event ≡ outcome_at outcomes event
unfolding outcome_at
outcome_at-kept outcome outcomes event within =
    cond-false (eqb event (length outcomes + 1)) outcome (outcome_at outcomes event)
    (false_from_ne_true _ (λ at. let number = eqb-true event (length outcomes + 1) at in omega (arith, number, within)))

-- the last event's outcome
pub outcome_at-last : (outcome : EventOutcome) (outcomes : List EventOutcome) → outcome_at (outcome ∷ outcomes) (length outcomes + 1) ≡ outcome
unfolding outcome_at
outcome_at-last outcome outcomes = cond-true _ _ _ (eq-eqb (length outcomes + 1) (length outcomes + 1) refl)

-- what is waited for stays the same
awaited-later : (setting : Setting) (outcome : EventOutcome) (outcomes : List EventOutcome) (outstanding : Option ℕ) → IsRequested outcomes outstanding
    → names_awaited setting outcomes outstanding ≡ names_awaited setting (outcome ∷ outcomes) outstanding
awaited-later setting outcome outcomes None within = refl
awaited-later setting outcome outcomes (Some event) within =
    ap (λ (made : EventOutcome). names_sent setting (entries_sent made)) (sym (outcome_at-kept outcome outcomes event within))

requested-later : (outcome : EventOutcome) (outcomes : List EventOutcome) (outstanding : Option ℕ) → IsRequested outcomes outstanding
    → IsRequested (outcome ∷ outcomes) outstanding
requested-later outcome outcomes None within = tt
requested-later outcome outcomes (Some event) within = omega (arith, within)

-- a client that nothing happens to has its keys where the history and the log grow
pub ClientHasKeys-later : (setting : Setting) (old new : List (Entry Content)) (outcome : EventOutcome) (outcomes : List EventOutcome) (side : Side)
    (bag : List NigoriKey) (held : List (Entry Content)) (outstanding : Option ℕ) → GoesOn setting old new
    → ClientHasKeys setting old outcomes side bag held outstanding → ClientHasKeys setting new (outcome ∷ outcomes) side bag held outstanding
ClientHasKeys-later setting old new outcome outcomes side bag held outstanding on has =
    let same : under_way setting outcomes side held outstanding ≡ under_way setting (outcome ∷ outcomes) side held outstanding
    = ap (λ (names : List (List ℕ)). names_sent setting held ++ (names ++ (names_in_letter setting side.letter ++ names_in_tasks setting side.mailbox)))
    (awaited-later setting outcome outcomes outstanding has.requested)
    in record {
      entity = has.entity;
      state = StateHasKeys-later setting old new bag bag _ _ (state_at side.states (nigori_hash setting)) on (has_names-self (names_of setting bag))
          (subst (λ (names : List (List ℕ)). Has names (under_way setting (outcome ∷ outcomes) side held outstanding)) (sym same)
          (has_names-self (under_way setting (outcome ∷ outcomes) side held outstanding))) has.state;
      way = subst (λ (names : List (List ℕ)). HaveNames setting bag names) same has.way;
      holds = EachKeepsKeys-later setting old new held on has.holds;
      requested = requested-later outcome outcomes outstanding has.requested;
      mailbox = tasks-later setting old new side.mailbox on has.mailbox;
      opened = has.opened;
      letter = letter-later setting old new side.letter on has.letter;
      pending = pending-later setting old new side.pending on has.pending;
    }

-- a client's key states stay, its bag may grow, and what is under way may fall
pub ClientHasKeys-less : (setting : Setting) (history : List (Entry Content)) (outcomes : List EventOutcome) (old new : Side) (bag more : List NigoriKey)
    (held others : List (Entry Content)) (outstanding next : Option ℕ) → new.states ≡ old.states → HaveNames setting more (names_of setting bag)
    → Has (under_way setting outcomes old held outstanding) (under_way setting outcomes new others next)
    → Each (KeepsKeys setting history) others → IsRequested outcomes next → Each (TaskTells setting history) new.mailbox
    → Each (IsOpened setting more) new.mailbox → LetterTells setting history new.letter → PendingTells setting history new.pending
    → ClientHasKeys setting history outcomes old bag held outstanding → ClientHasKeys setting history outcomes new more others next
ClientHasKeys-less setting history outcomes old new bag more held others outstanding next same grows falls holds requested mailbox opened letter pending has = record {
  entity = subst (λ (states : States). IsOneEntity setting states) (sym same) has.entity;
  state = subst (λ (states : States). StateHasKeys setting history more (under_way setting outcomes new others next) (state_at states (nigori_hash setting))) (sym same)
      (StateHasKeys-later setting history history bag more _ _ (state_at old.states (nigori_hash setting)) (GoesOn-self setting history) grows falls has.state);
  way = has_names-through (names_of setting more) (under_way setting outcomes old held outstanding) (under_way setting outcomes new others next)
      (has_names-through (names_of setting more) (names_of setting bag) (under_way setting outcomes old held outstanding) grows has.way) falls;
  holds = holds;
  requested = requested;
  mailbox = mailbox;
  opened = opened;
  letter = letter;
  pending = pending;
}

-- a client's bag grows
pub ClientHasKeys-more : (setting : Setting) (history : List (Entry Content)) (outcomes : List EventOutcome) (side : Side) (bag more : List NigoriKey)
    (held : List (Entry Content)) (outstanding : Option ℕ) → HaveNames setting more (names_of setting bag)
    → ClientHasKeys setting history outcomes side bag held outstanding → ClientHasKeys setting history outcomes side more held outstanding
ClientHasKeys-more setting history outcomes side bag more held outstanding grows has =
    ClientHasKeys-less setting history outcomes side side bag more held held outstanding outstanding refl grows (has_names-self (under_way setting outcomes side held outstanding)) has.holds has.requested
    has.mailbox (tasks-opened setting bag more side.mailbox grows has.opened) has.letter has.pending has

-- a bag with the keys of some updates has all that it had, and these
pub bag_with-keeps : (setting : Setting) (bag : List NigoriKey) (updates : List Update) → HaveNames setting (bag_with setting bag updates) (names_of setting bag)
unfolding bag_with
bag_with-keeps setting bag [] = has_names-self (names_of setting bag)
bag_with-keeps setting bag (update ∷ updates) =
    has_names-through (names_of setting (bag_with setting (with_keys setting bag (keys_in update.value)) updates))
    (names_of setting (with_keys setting bag (keys_in update.value))) (names_of setting bag)
    (bag_with-keeps setting (with_keys setting bag (keys_in update.value)) updates) (with_keys-keeps setting bag (keys_in update.value))

pub bag_with-has : (setting : Setting) (bag : List NigoriKey) (updates : List Update) → HaveNames setting (bag_with setting bag updates) (names_updated setting updates)
unfolding bag_with
bag_with-has setting bag [] = refl
bag_with-has setting bag (update ∷ updates) =
    let with_these : List NigoriKey = with_keys setting bag (keys_in update.value)
    in has_names-both (names_of setting (bag_with setting with_these updates)) (names_in setting update.value) (names_updated setting updates)
    (has_names-through (names_of setting (bag_with setting with_these updates)) (names_of setting with_these) (names_in setting update.value)
    (bag_with-keeps setting with_these updates) (with_keys-has setting bag (keys_in update.value)))
    (bag_with-has setting with_these updates)

-- no write has the version 0
profile_at-none : (history : List (Entry Content)) → profile_at history 0 ≡ Absent
profile_at-none [] = refl
profile_at-none (write ∷ older) = profile_at-kept write older 0 (omega arith) ∙ profile_at-none older

-- a client that nothing has happened to
pub new_client-HasKeys : (setting : Setting) (history : List (Entry Content)) (outcomes : List EventOutcome) → HasKeys setting history outcomes new_client
new_client-HasKeys setting history outcomes = record {
  entity = tt;
  state = record {
    known = record { within = omega arith; is = sym (profile_at-none history) };
    had = refl;
    waits = λ due. absurd (false≢true due);
    offered = tt;
    waits_offered = λ due. tt;
  };
  way = refl;
  holds = tt;
  requested = tt;
  mailbox = tt;
  opened = tt;
  letter = tt;
  pending = tt;
}
