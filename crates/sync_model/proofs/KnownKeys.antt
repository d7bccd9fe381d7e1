-- What a side has of its keys stays true under an edit, an update and an acknowledgement, and what is known grows.
use Rattle.std.proofs.Common.{◌≡◌, ℕ, ◌≤◌, ◌⊎◌, Bool, true, false, cond, List, [], ◌∷◌, Option, Some, None, is_some, refl, sym, subst, leb, arith, inl, inr, le_trans, le_refl, nat_lt}
use Rattle.std.specs.List.{AllByRecursion}
use Rattle.std.proofs.lemmas.Bool.{leb-true, leb-false, or_parts, false≢true}
use Rattle.std.proofs.lemmas.Option.{none-some}
use Rattle.client_tags.specs.declared.Kind.{Kind}
use Rattle.sync_values.specs.declared.value.Value.{Value}
use Rattle.sync_model.specs.declared.conflict.Choice.{Choice}
use Rattle.sync_model.specs.declared.conflict.Choice.TheVariants.{Same, Remote, Local, Merged as MergedInto}
use Rattle.sync_model.specs.declared.conflict.Decision.{Decision}
use Rattle.sync_model.specs.declared.message.Ack.{Ack}
use Rattle.sync_model.specs.declared.message.Content.{Content}
use Rattle.sync_model.specs.declared.message.Entry.{Entry}
use Rattle.sync_model.specs.declared.message.Key.{Key}
use Rattle.sync_model.specs.declared.message.Update.{Update}
use Rattle.sync_model.specs.declared.state.KeyState.{KeyState}
use Rattle.sync_model.specs.KeyStates.{edited, is_old, accepted, rebased, settled, resolution_of, updated, is_ignored, still_due, acknowledged}
use Rattle.sync_model.specs.Sides.{States, state_at, with_state, after_update, after_updates, after_ack, after_acks}
use Rattle.sync_model.specs.Facts.{key_of, IsWriteOf, KeyFacts, IsTrueUpdate, IsTrueAck, HasUpdate}
use Rattle.sync_model.proofs.KeyLookups.{with_state-IsSetAt, state_at-with_state, set_keeps}

-- a key with a state of which a greater version is known
known_later : (history : List (Entry Content)) (key : Key) (mark : ℕ) (old new : KeyState) → KeyFacts history key mark old
    → old.known ≤ new.known → IsWriteOf history key new.known new.base → (new.due ≡ None → new.own ≡ new.base) → KeyFacts history key mark new
known_later history key mark old new facts grows is shown = record {
  is_known = inr is;
  shown = shown;
  passed = λ le. le_trans (facts.passed le) grows;
}

pub edited-KeyFacts : (history : List (Entry Content)) (key : Key) (mark : ℕ) (state : KeyState) (value : Value) (number : ℕ)
    → KeyFacts history key mark state → KeyFacts history key mark (edited state value number)
edited-KeyFacts history key mark state value number facts = record {
  is_known = facts.is_known;
  shown = λ none. absurd (none-some number (sym none));
  passed = facts.passed;
}

-- a value that is due stays so where a row keeps it
due_stays : (due : Option ℕ) {P : Type 0} → is_some due ≡ true → due ≡ None → P
due_stays None is none = absurd (false≢true is)
due_stays (Some number) is none = absurd (none-some number (sym none))

settled-KeyFacts : (history : List (Entry Content)) (key : Key) (mark : ℕ) (state : KeyState) (update : Update) (choice : Choice)
    → is_some state.due ≡ true → state.known ≤ update.version → IsWriteOf history key update.version update.value
    → KeyFacts history key mark state → KeyFacts history key mark (settled state update choice)
settled-KeyFacts history key mark state update Same due grows is facts =
    known_later history key mark state (accepted state update) facts grows is (λ none. refl)
settled-KeyFacts history key mark state update Remote due grows is facts =
    known_later history key mark state (accepted state update) facts grows is (λ none. refl)
settled-KeyFacts history key mark state update Local due grows is facts =
    known_later history key mark state (rebased state update state.own) facts grows is (λ none. due_stays state.due due none)
settled-KeyFacts history key mark state update (MergedInto value) due grows is facts =
    known_later history key mark state (rebased state update value) facts grows is (λ none. due_stays state.due due none)

updated_by : (history : List (Entry Content)) (key : Key) (mark : ℕ) (state : KeyState) (update : Update) (choice : Choice) (old due : Bool)
    → leb update.version state.known ≡ old → is_some state.due ≡ due → IsWriteOf history key update.version update.value
    → KeyFacts history key mark state → KeyFacts history key mark (cond old state (cond due (settled state update choice) (accepted state update)))
updated_by history key mark state update choice true due old is_due is facts = facts
updated_by history key mark state update choice false true old is_due is facts =
    settled-KeyFacts history key mark state update choice is_due (omega (arith, leb-false _ _ old)) is facts
updated_by history key mark state update choice false false old is_due is facts =
    known_later history key mark state (accepted state update) facts (omega (arith, leb-false _ _ old)) is (λ none. refl)

updated-KeyFacts : (decided : Value → Value → Decision) (history : List (Entry Content)) (key : Key) (mark : ℕ) (state : KeyState) (update : Update)
    → IsWriteOf history key update.version update.value → KeyFacts history key mark state → KeyFacts history key mark (updated decided state update)
unfolding updated
updated-KeyFacts decided history key mark state update is facts =
    updated_by history key mark state update (resolution_of decided state update).choice (is_old state update) (is_some state.due) refl refl is facts

-- an update's version is known once it was applied, and what was known stays so
settled-known : (state : KeyState) (update : Update) (choice : Choice) → (settled state update choice).known ≡ update.version
settled-known state update Same = refl
settled-known state update Remote = refl
settled-known state update Local = refl
settled-known state update (MergedInto value) = refl

known_by : (state : KeyState) (update : Update) (choice : Choice) (old due : Bool) → leb update.version state.known ≡ old
    → (state.known ≤ (cond old state (cond due (settled state update choice) (accepted state update))).known)
    × (update.version ≤ (cond old state (cond due (settled state update choice) (accepted state update))).known)
known_by state update choice true due old = (le_refl _, leb-true _ _ old)
known_by state update choice false true old =
    let is : (settled state update choice).known ≡ update.version = settled-known state update choice in
    (omega (arith, is, leb-false _ _ old), omega (arith, is))
known_by state update choice false false old = (omega (arith, leb-false _ _ old), le_refl _)

updated-known : (decided : Value → Value → Decision) (state : KeyState) (update : Update)
    → (state.known ≤ (updated decided state update).known) × (update.version ≤ (updated decided state update).known)
unfolding updated
updated-known decided state update =
    known_by state update (resolution_of decided state update).choice (is_old state update) (is_some state.due) refl

-- the keys of a side, all of which have what holds of them
abbrev pub HasKeyFacts : List (Entry Content) → Kind → ℕ → States → Type 0
HasKeyFacts history kind mark states = (hash : List ℕ) → KeyFacts history (key_of kind hash) mark (state_at states hash)

-- at least as much of each key is known
abbrev pub Grows : States → States → Type 0
Grows old new = (hash : List ℕ) → (state_at old hash).known ≤ (state_at new hash).known

set-Grows : (old new : States) (hash : List ℕ) (state : KeyState)
    → ((other : List ℕ) → (state_at new other ≡ state_at old other) ⊎ ((state_at new other ≡ state) × (other ≡ hash)))
    → (state_at old hash).known ≤ state.known → Grows old new
set-Grows old new hash state is grows other = by (is other)
  where
    by : ((state_at new other ≡ state_at old other) ⊎ ((state_at new other ≡ state) × (other ≡ hash))) → (state_at old other).known ≤ (state_at new other).known
    by (inl same) = subst (λ (found : KeyState). (state_at old other).known ≤ found.known) (sym same) (le_refl _)
    by (inr put) = subst (λ (found : KeyState). (state_at old other).known ≤ found.known) (sym put.0)
        (subst (λ (key : List ℕ). (state_at old key).known ≤ state.known) (sym put.1) grows)

-- one update
after_update_by : (decided : Value → Value → Decision) (history : List (Entry Content)) (kind : Kind) (mark : ℕ) (states : States) (update : Update) (old : Bool)
    → IsTrueUpdate history kind update → HasKeyFacts history kind mark states
    → HasKeyFacts history kind mark (cond old states (with_state states update.hash (updated decided (state_at states update.hash) update)))
after_update_by decided history kind mark states update true is all = all
after_update_by decided history kind mark states update false is all =
    set_keeps (λ hash state. KeyFacts history (key_of kind hash) mark state) states _ update.hash
    (updated decided (state_at states update.hash) update)
    (with_state-IsSetAt states update.hash (updated decided (state_at states update.hash) update))
    (updated-KeyFacts decided history (key_of kind update.hash) mark (state_at states update.hash) update is (all update.hash)) all

after_update-KeyFacts : (decided : Value → Value → Decision) (history : List (Entry Content)) (kind : Kind) (mark : ℕ) (states : States) (update : Update)
    → IsTrueUpdate history kind update → HasKeyFacts history kind mark states → HasKeyFacts history kind mark (after_update decided states update)
unfolding after_update
after_update-KeyFacts decided history kind mark states update is all =
    after_update_by decided history kind mark states update (is_old (state_at states update.hash) update) is all

update_grows_by : (decided : Value → Value → Decision) (states : States) (update : Update) (old : Bool) → leb update.version (state_at states update.hash).known ≡ old
    → Grows states (cond old states (with_state states update.hash (updated decided (state_at states update.hash) update)))
    × (update.version ≤ (state_at (cond old states (with_state states update.hash (updated decided (state_at states update.hash) update))) update.hash).known)
update_grows_by decided states update true old = ((λ hash. le_refl _), leb-true _ _ old)
update_grows_by decided states update false old =
    let known = updated-known decided (state_at states update.hash) update in (
      set-Grows states _ update.hash (updated decided (state_at states update.hash) update)
          (with_state-IsSetAt states update.hash (updated decided (state_at states update.hash) update)) known.0,
      subst (λ (state : KeyState). update.version ≤ state.known)
          (sym (state_at-with_state states update.hash (updated decided (state_at states update.hash) update))) known.1,
    )

update_grows : (decided : Value → Value → Decision) (states : States) (update : Update)
    → Grows states (after_update decided states update) × (update.version ≤ (state_at (after_update decided states update) update.hash).known)
unfolding after_update
update_grows decided states update = update_grows_by decided states update (is_old (state_at states update.hash) update) refl

-- some updates
pub after_updates-KeyFacts : (decided : Value → Value → Decision) (history : List (Entry Content)) (kind : Kind) (mark : ℕ) (states : States) (updates : List Update)
    → AllByRecursion (IsTrueUpdate history kind) updates → HasKeyFacts history kind mark states → HasKeyFacts history kind mark (after_updates decided states updates)
unfolding after_updates
after_updates-KeyFacts decided history kind mark states [] are all = all
after_updates-KeyFacts decided history kind mark states (update ∷ updates) are all =
    after_updates-KeyFacts decided history kind mark (after_update decided states update) updates are.1
    (after_update-KeyFacts decided history kind mark states update are.0 all)

pub after_updates-Grows : (decided : Value → Value → Decision) (states : States) (updates : List Update) → Grows states (after_updates decided states updates)
unfolding after_updates
after_updates-Grows decided states [] hash = le_refl _
after_updates-Grows decided states (update ∷ updates) hash =
    le_trans ((update_grows decided states update).0 hash) (after_updates-Grows decided (after_update decided states update) updates hash)

pub after_updates-has : (decided : Value → Value → Decision) (states : States) (updates : List Update) (hash : List ℕ) (version : ℕ)
    → HasUpdate updates hash version → version ≤ (state_at (after_updates decided states updates) hash).known
unfolding after_updates
after_updates-has decided states [] hash version has = absurd has
after_updates-has decided states (update ∷ updates) hash version (inl is) =
    le_trans (subst (λ (key : List ℕ). version ≤ (state_at (after_update decided states update) key).known) is.0
    (subst (λ (told : ℕ). told ≤ (state_at (after_update decided states update) update.hash).known) is.1 (update_grows decided states update).1))
    (after_updates-Grows decided (after_update decided states update) updates hash)
after_updates-has decided states (update ∷ updates) hash version (inr has) =
    after_updates-has decided (after_update decided states update) updates hash version has

-- one acknowledgement
shown_by : (due : Option ℕ) (own value : Value) → due ≡ None → cond (is_some due) own value ≡ value
shown_by None own value none = refl
shown_by (Some number) own value none = absurd (none-some number (sym none))

acknowledged_by : (history : List (Entry Content)) (key : Key) (mark : ℕ) (state : KeyState) (ack : Ack) (ignored : Bool)
    → is_ignored state ack ≡ ignored → IsWriteOf history key ack.version ack.value → KeyFacts history key mark state
    → KeyFacts history key mark (cond ignored state record {
      known = ack.version;
      base = ack.value;
      own = cond (is_some (still_due state.due ack.number)) state.own ack.value;
      due = still_due state.due ack.number;
      last_edit = state.last_edit;
      lock = ack.lock;
      offered = [];
    })
acknowledged_by history key mark state ack true ignored is facts = facts
acknowledged_by history key mark state ack false ignored is facts =
    let parts : (leb ack.version state.known ≡ false) × (nat_lt state.last_edit ack.number ≡ false) = or_parts _ _ ignored in
    known_later history key mark state _ facts (omega (arith, leb-false _ _ parts.0)) is
    (λ none. shown_by (still_due state.due ack.number) state.own ack.value none)

acknowledged-KeyFacts : (history : List (Entry Content)) (key : Key) (mark : ℕ) (state : KeyState) (ack : Ack)
    → IsWriteOf history key ack.version ack.value → KeyFacts history key mark state → KeyFacts history key mark (acknowledged state ack)
unfolding acknowledged
acknowledged-KeyFacts history key mark state ack is facts =
    acknowledged_by history key mark state ack (is_ignored state ack) refl is facts

after_ack_by : (history : List (Entry Content)) (kind : Kind) (mark : ℕ) (states : States) (ack : Ack) (ignored : Bool)
    → IsTrueAck history kind ack → HasKeyFacts history kind mark states
    → HasKeyFacts history kind mark (cond ignored states (with_state states ack.hash (acknowledged (state_at states ack.hash) ack)))
after_ack_by history kind mark states ack true is all = all
after_ack_by history kind mark states ack false is all =
    set_keeps (λ hash state. KeyFacts history (key_of kind hash) mark state) states _ ack.hash (acknowledged (state_at states ack.hash) ack)
    (with_state-IsSetAt states ack.hash (acknowledged (state_at states ack.hash) ack))
    (acknowledged-KeyFacts history (key_of kind ack.hash) mark (state_at states ack.hash) ack is (all ack.hash)) all

after_ack-KeyFacts : (history : List (Entry Content)) (kind : Kind) (mark : ℕ) (states : States) (ack : Ack)
    → IsTrueAck history kind ack → HasKeyFacts history kind mark states → HasKeyFacts history kind mark (after_ack states ack)
unfolding after_ack
after_ack-KeyFacts history kind mark states ack is all =
    after_ack_by history kind mark states ack (is_ignored (state_at states ack.hash) ack) is all

-- some acknowledgements
pub after_acks-KeyFacts : (history : List (Entry Content)) (kind : Kind) (mark : ℕ) (states : States) (acks : List Ack)
    → AllByRecursion (IsTrueAck history kind) acks → HasKeyFacts history kind mark states → HasKeyFacts history kind mark (after_acks states acks)
unfolding after_acks
after_acks-KeyFacts history kind mark states [] are all = all
after_acks-KeyFacts history kind mark states (ack ∷ acks) are all =
    after_acks-KeyFacts history kind mark (after_ack states ack) acks are.1 (after_ack-KeyFacts history kind mark states ack are.0 all)
