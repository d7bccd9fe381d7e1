-- What holds of a side still does once it is edited, told of a reply, posts a letter, takes a turn, and restarts.
use Rattle.std.proofs.Common.{◌≡◌, ℕ, ◌+◌, ◌<◌, ◌≤◌, ◌⊎◌, max, List, [], ◌∷◌, ◌++◌, Option, Some, None, refl, sym, ap, subst, arith, inl, inr, IfSome}
use Rattle.std.proofs.lemmas.Bool.{cases_lt}
use Rattle.std.proofs.lemmas.Option.{IfSome_then}
use Rattle.client_tags.specs.declared.Kind.{Kind}
use Rattle.sync_values.specs.declared.value.Value.{Value}
use Rattle.sync_model.specs.declared.conflict.Decision.{Decision}
use Rattle.sync_model.specs.declared.message.Ack.{Ack}
use Rattle.sync_model.specs.declared.message.Batch.{Batch}
use Rattle.sync_model.specs.declared.message.Content.{Content}
use Rattle.sync_model.specs.declared.message.Entry.{Entry}
use Rattle.sync_model.specs.declared.message.Key.{Key}
use Rattle.sync_model.specs.declared.message.Offer.{Offer}
use Rattle.sync_model.specs.declared.message.Task.{Task}
use Rattle.sync_model.specs.declared.message.Task.TheVariants.{Batch as Updating, Acks}
use Rattle.sync_model.specs.declared.state.KeyState.{KeyState}
use Rattle.sync_model.specs.History.{last_version}
use Rattle.sync_model.specs.KeyStates.{edited}
use Rattle.sync_model.specs.Sides.{Side, new_side, restarted_side, state_at, side_edited, side_offered, with_state, after_updates, after_task, mailed}
use Rattle.sync_model.specs.Facts.{key_of, KeyFacts, IsWhole, IsTrueTask, mark_after, AreChained, SideFacts}
use Rattle.sync_model.proofs.KeyLookups.{with_state-IsSetAt, set_keeps}
use Rattle.sync_model.proofs.NotedKeys.{noted_keeps}
use Rattle.sync_model.proofs.KnownKeys.{edited-KeyFacts, after_updates-KeyFacts, after_updates-has, after_acks-KeyFacts}

-- what is whole from a mark is whole from a greater one
IsWhole-above : (history : List (Entry Content)) (kind : Kind) (from above : ℕ) (batch : Batch) → from ≤ above
    → IsWhole history kind from batch → IsWhole history kind above batch
IsWhole-above history kind from above batch le whole = record {
  bounded = whole.bounded;
  is_true = whole.is_true;
  misses_none = λ hash more within. whole.misses_none hash (omega (arith, le, more)) within;
}

pub IsTrueTask-above : (history : List (Entry Content)) (kind : Kind) (from above : ℕ) (task : Task) → from ≤ above
    → IsTrueTask history kind from task → IsTrueTask history kind above task
IsTrueTask-above history kind from above (Updating batch) le whole = IsWhole-above history kind from above batch le whole
IsTrueTask-above history kind from above (Acks acks) le all = all

-- a further task in a mailbox
chained_more : (history : List (Entry Content)) (kind : Kind) (mark : ℕ) (tasks : List Task) (reached : ℕ) (task : Task)
    → AreChained history kind mark tasks reached → IsTrueTask history kind reached task
    → AreChained history kind mark (tasks ++ task ∷ []) (mark_after reached task)
chained_more history kind mark [] reached task is whole =
    (subst (λ (from : ℕ). IsTrueTask history kind from task) (sym is) whole, ap (λ (from : ℕ). mark_after from task) is)
chained_more history kind mark (first ∷ tasks) reached task chained whole =
    (chained.0, chained_more history kind (mark_after mark first) tasks reached task chained.1 whole)

pub new_side-SideFacts : (history : List (Entry Content)) (kind : Kind) → SideFacts history kind new_side
new_side-SideFacts history kind = record {
  marked = omega arith;
  reached = omega arith;
  keys = λ hash. record { is_known = inl (refl, refl); shown = λ none. refl; passed = λ le. le };
  mailed = refl;
  waits = tt;
  told = tt;
}

pub restarted-SideFacts : (history : List (Entry Content)) (kind : Kind) (side : Side)
    → SideFacts history kind side → SideFacts history kind (restarted_side side)
restarted-SideFacts history kind side facts = record {
  marked = facts.marked;
  reached = facts.marked;
  keys = facts.keys;
  mailed = refl;
  waits = tt;
  told = tt;
}

pub edited-SideFacts : (history : List (Entry Content)) (kind : Kind) (side : Side) (hash : List ℕ) (value : Value)
    → SideFacts history kind side → SideFacts history kind (side_edited side hash value)
edited-SideFacts history kind side hash value facts = record {
  marked = facts.marked;
  reached = facts.reached;
  keys = set_keeps (λ other state. KeyFacts history (key_of kind other) side.mark state) side.states
      (with_state side.states hash (edited (state_at side.states hash) value (side.last_edit + 1))) hash
      (edited (state_at side.states hash) value (side.last_edit + 1))
      (with_state-IsSetAt side.states hash (edited (state_at side.states hash) value (side.last_edit + 1)))
      (edited-KeyFacts history (key_of kind hash) side.mark (state_at side.states hash) value (side.last_edit + 1) (facts.keys hash)) facts.keys;
  mailed = facts.mailed;
  waits = facts.waits;
  told = facts.told;
}

-- a side that notes what it was asked for
pub noted-SideFacts : (history : List (Entry Content)) (kind : Kind) (side : Side) (offers : List Offer)
    → SideFacts history kind side → SideFacts history kind (side_offered side offers)
noted-SideFacts history kind side offers facts = record {
  marked = facts.marked;
  reached = facts.reached;
  keys = λ hash. noted_keeps (λ state. KeyFacts history (key_of kind hash) side.mark state) side.states offers hash
      (λ offered. record { is_known = (facts.keys hash).is_known; shown = (facts.keys hash).shown; passed = (facts.keys hash).passed });
  mailed = facts.mailed;
  waits = facts.waits;
  told = facts.told;
}

-- a side that is told another letter
pub told-SideFacts : (history : List (Entry Content)) (kind : Kind) (side : Side) (letter : Option Task)
    → IfSome letter (IsTrueTask history kind side.seen) → SideFacts history kind side → SideFacts history kind (record side { letter = letter })
told-SideFacts history kind side letter is facts = record {
  marked = facts.marked;
  reached = facts.reached;
  keys = facts.keys;
  mailed = facts.mailed;
  waits = facts.waits;
  told = is;
}

-- a batch that waits for a key
pub waiting-SideFacts : (history : List (Entry Content)) (kind : Kind) (side : Side) (batch : Batch)
    → IsWhole history kind side.seen batch → SideFacts history kind side → SideFacts history kind (record side { pending = Some batch; letter = None })
waiting-SideFacts history kind side batch whole facts = record {
  marked = facts.marked;
  reached = facts.reached;
  keys = facts.keys;
  mailed = facts.mailed;
  waits = whole;
  told = tt;
}

-- acknowledgements go to the mailbox
pub acks-SideFacts : (history : List (Entry Content)) (kind : Kind) (side : Side) (acks : List Ack)
    → IsTrueTask history kind side.seen (Acks acks) → SideFacts history kind side
    → SideFacts history kind (record side { mailbox = side.mailbox ++ Acks acks ∷ []; letter = None })
acks-SideFacts history kind side acks all facts = record {
  marked = facts.marked;
  reached = facts.reached;
  keys = facts.keys;
  mailed = chained_more history kind side.mark side.mailbox side.seen (Acks acks) facts.mailed all;
  waits = facts.waits;
  told = tt;
}

-- a batch goes to the mailbox
pub mailed-SideFacts : (history : List (Entry Content)) (kind : Kind) (side : Side) (batch : Batch)
    → IsWhole history kind side.seen batch → SideFacts history kind side → SideFacts history kind (mailed side batch)
mailed-SideFacts history kind side batch whole facts = record {
  marked = facts.marked;
  reached = omega (arith, facts.reached, whole.bounded);
  keys = facts.keys;
  mailed = chained_more history kind side.mark side.mailbox side.seen (Updating batch) facts.mailed whole;
  waits = tt;
  told = IfSome_then side.letter facts.told
      (λ task. IsTrueTask-above history kind side.seen (max side.seen batch.mark) task (omega arith));
}

-- a key still has what holds of it where the mark passes no write that is not known
raised-KeyFacts : (history : List (Entry Content)) (key : Key) (mark more : ℕ) (state : KeyState) → KeyFacts history key mark state
    → (mark < last_version history key → last_version history key ≤ more → last_version history key ≤ state.known)
    → KeyFacts history key (max mark more) state
raised-KeyFacts history key mark more state facts new = record {
  is_known = facts.is_known;
  shown = facts.shown;
  passed = λ le. by le (cases_lt mark (last_version history key));
}
  where
    by : last_version history key ≤ max mark more → (mark < last_version history key) ⊎ (last_version history key ≤ mark) → last_version history key ≤ state.known
    by le (inl above) = new above (omega (arith, le, above))
    by le (inr within) = facts.passed within

-- a turn
turned_by : (decided : Value → Value → Decision) (history : List (Entry Content)) (kind : Kind) (side : Side) (task : Task) (tasks : List Task)
    → AreChained history kind side.mark (task ∷ tasks) side.seen → SideFacts history kind side
    → SideFacts history kind (after_task decided (record side { mailbox = tasks }) task)
unfolding after_task
turned_by decided history kind side (Updating batch) tasks chained facts = record {
  marked = omega (arith, facts.marked, chained.0.bounded);
  reached = facts.reached;
  keys = λ hash. raised-KeyFacts history (key_of kind hash) side.mark batch.mark (state_at (after_updates decided side.states batch.updates) hash)
      (after_updates-KeyFacts decided history kind side.mark side.states batch.updates chained.0.is_true facts.keys hash)
      (λ above within. after_updates-has decided side.states batch.updates hash (last_version history (key_of kind hash)) (chained.0.misses_none hash above within));
  mailed = chained.1;
  waits = facts.waits;
  told = facts.told;
}
turned_by decided history kind side (Acks acks) tasks chained facts = record {
  marked = facts.marked;
  reached = facts.reached;
  keys = after_acks-KeyFacts history kind side.mark side.states acks chained.0 facts.keys;
  mailed = chained.1;
  waits = facts.waits;
  told = facts.told;
}

pub turned-SideFacts : (decided : Value → Value → Decision) (history : List (Entry Content)) (kind : Kind) (side : Side) (task : Task) (tasks : List Task)
    → side.mailbox ≡ task ∷ tasks → SideFacts history kind side → SideFacts history kind (after_task decided (record side { mailbox = tasks }) task)
turned-SideFacts decided history kind side task tasks is facts =
    turned_by decided history kind side task tasks
    (subst (λ (mailbox : List Task). AreChained history kind side.mark mailbox side.seen) is facts.mailed) facts

-- a turn leaves what was seen
pub turned-seen : (decided : Value → Value → Decision) (side : Side) (task : Task) → (after_task decided side task).seen ≡ side.seen
unfolding after_task
turned-seen decided side (Updating batch) = refl
turned-seen decided side (Acks acks) = refl
