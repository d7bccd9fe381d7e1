-- An edit that stands still does after the updates of a batch, or one of them settles it by a row.
use Rattle.std.proofs.Common.{◌≡◌, ℕ, ◌<◌, ◌⊎◌, Bool, true, false, cond, List, [], ◌∷◌, ◌++◌, Option, Some, None, is_some, refl, sym, ap, ◌∙◌, subst, arith, inl, inr, bytes_eq, not, ◌||◌, IfSome}
use Rattle.std.specs.List.{AllByRecursion}
use Rattle.std.specs.Option.{option_or}
use Rattle.std.proofs.lemmas.Bool.{false≢true, eq-eqb, ne_eqb, cond-true, cond-false}
use Rattle.std.proofs.lemmas.Option.{none-some, same_Some}
use Rattle.std.proofs.lemmas.Slice.Eq.{bytes_eq-Decides}
use Rattle.sync_values.specs.declared.value.Value.{Value}
use Rattle.sync_model.specs.declared.conflict.Choice.{Choice}
use Rattle.sync_model.specs.declared.conflict.Choice.TheVariants.{Same, Remote, Local, Merged as MergedInto}
use Rattle.sync_model.specs.declared.conflict.Decision.{Decision}
use Rattle.sync_model.specs.declared.conflict.Resolution.{Resolution}
use Rattle.sync_model.specs.declared.fate.Fate.{Fate}
use Rattle.sync_model.specs.declared.fate.Fate.TheVariants.{Matched, Taken, Merged}
use Rattle.sync_model.specs.declared.fate.Note.{Note}
use Rattle.sync_model.specs.declared.message.Update.{Update}
use Rattle.sync_model.specs.declared.state.KeyState.{KeyState}
use Rattle.sync_model.specs.KeyStates.{is_old, settled, accepted, rebased, resolution_of, updated, fate_by, fate_of_update}
use Rattle.sync_model.specs.Sides.{States, state_at, with_state, after_update, after_updates, note_with, update_notes}
use Rattle.sync_model.specs.FateFacts.{IsNumbered, AreNumbered, HasNoUpdate, AreOfDistinctKeys, IsOnlyOf, StandsOn}
use Rattle.sync_model.proofs.KeyLookups.{with_state-IsSetAt, state_at-with_state}
use Rattle.sync_model.proofs.FateKeys.{Each, each_at, each_put, numbered_at, fate_in, fate_in-append, after_update_numbered}

-- no note without a fate
no_note : (due : Option ℕ) (edit : ℕ) → fate_in (note_with due None) edit ≡ None
no_note None edit = refl
no_note (Some number) edit = refl

-- the note of an edit that is due
one_note : (due : Option ℕ) (edit : ℕ) (fate : Fate) → due ≡ Some edit → fate_in (note_with due (Some fate)) edit ≡ Some fate
one_note None edit fate is = absurd (none-some edit is)
one_note (Some number) edit fate is = cond-true _ _ _ (eq-eqb number edit (same_Some number edit is))

-- the note of another edit
other_note : (due : Option ℕ) (fate : Option Fate) (edit own : ℕ) → IfSome due (λ number. number ≡ own) → (own ≡ edit → ⊥)
    → fate_in (note_with due fate) edit ≡ None
other_note None None edit own is other = refl
other_note None (Some fate) edit own is other = refl
other_note (Some number) None edit own is other = refl
other_note (Some number) (Some fate) edit own is other = cond-false _ _ _ (ne_eqb number edit (λ same. other (sym is ∙ same)))

-- what stands at a key is that of the edit only if its last edit has this number
pub only_at : (edit : ℕ) (hash : List ℕ) (value : Value) (states : States) (other : List ℕ) → 0 < edit
    → StandsOn edit hash value states → IsOnlyOf edit hash value other (state_at states other)
only_at edit hash value states other some stands =
    each_at (IsOnlyOf edit hash value) states other (λ is. absurd (omega (arith, some, is))) stands.alone

-- an edit stands where the state of another key is set to one with the same last edit
pub other_set : (edit : ℕ) (hash : List ℕ) (value : Value) (old new : States) (other : List ℕ) (state : KeyState)
    → ((key : List ℕ) → (state_at new key ≡ state_at old key) ⊎ ((state_at new key ≡ state) × (key ≡ other)))
    → (other ≡ hash → ⊥) → Each (IsOnlyOf edit hash value) new → StandsOn edit hash value old → StandsOn edit hash value new
other_set edit hash value old new other state set differs alone stands = by (set hash)
  where
    by : ((state_at new hash ≡ state_at old hash) ⊎ ((state_at new hash ≡ state) × (hash ≡ other))) → StandsOn edit hash value new
    by (inl same) = record {
      due = ap (λ (found : KeyState). found.due) same ∙ stands.due;
      own = ap (λ (found : KeyState). found.own) same ∙ stands.own;
      alone = alone;
    }
    by (inr put) = absurd (differs (sym put.1))

-- an update keeps the number of a key's last edit
settled_last : (state : KeyState) (update : Update) (choice : Choice) → (settled state update choice).last_edit ≡ state.last_edit
settled_last state update Same = refl
settled_last state update Remote = refl
settled_last state update Local = refl
settled_last state update (MergedInto value) = refl

updated_last : (decided : Value → Value → Decision) (state : KeyState) (update : Update) → (updated decided state update).last_edit ≡ state.last_edit
unfolding updated
updated_last decided state update = by (is_old state update) (is_some state.due)
  where
    by : (old due : Bool) → (cond old state (cond due (settled state update (resolution_of decided state update).choice) (accepted state update))).last_edit ≡ state.last_edit
    by true due = refl
    by false true = settled_last state update (resolution_of decided state update).choice
    by false false = refl

-- the last edit of another key is another one
not_last : (edit : ℕ) (hash : List ℕ) (value : Value) (states : States) (other : List ℕ) → 0 < edit → StandsOn edit hash value states
    → (other ≡ hash → ⊥) → (state_at states other).last_edit ≡ edit → ⊥
not_last edit hash value states other some stands differs is = differs (only_at edit hash value states other some stands is).0

-- an update of another key
other_update_stands : (decided : Value → Value → Decision) (edit : ℕ) (hash : List ℕ) (value : Value) (states : States) (update : Update) → 0 < edit
    → (update.hash ≡ hash → ⊥) → StandsOn edit hash value states → StandsOn edit hash value (after_update decided states update)
unfolding after_update
other_update_stands decided edit hash value states update some differs stands = by (is_old (state_at states update.hash) update)
  where
    by : (old : Bool) → StandsOn edit hash value (cond old states (with_state states update.hash (updated decided (state_at states update.hash) update)))
    by true = stands
    by false = other_set edit hash value states _ update.hash (updated decided (state_at states update.hash) update)
        (with_state-IsSetAt states update.hash (updated decided (state_at states update.hash) update)) differs
        (each_put (IsOnlyOf edit hash value) states update.hash (updated decided (state_at states update.hash) update)
        (λ is. absurd (not_last edit hash value states update.hash some stands differs
        (sym (updated_last decided (state_at states update.hash) update) ∙ is))) stands.alone) stands

other_update_note : (decided : Value → Value → Decision) (edit last : ℕ) (hash : List ℕ) (value : Value) (states : States) (update : Update) → 0 < edit
    → (update.hash ≡ hash → ⊥) → AreNumbered last states → StandsOn edit hash value states
    → fate_in (note_with (state_at states update.hash).due (fate_of_update decided (state_at states update.hash) update)) edit ≡ None
other_update_note decided edit last hash value states update some differs numbered stands =
    let here : IsNumbered last (state_at states update.hash) = numbered_at last states update.hash numbered
    in other_note (state_at states update.hash).due (fate_of_update decided (state_at states update.hash) update) edit
    (state_at states update.hash).last_edit here.due (not_last edit hash value states update.hash some stands differs)

another_update_same : (decided : Value → Value → Decision) (states : States) (update : Update) (hash : List ℕ) → (update.hash ≡ hash → ⊥)
    → state_at (after_update decided states update) hash ≡ state_at states hash
unfolding after_update
another_update_same decided states update hash differs = by (is_old (state_at states update.hash) update)
  where
    set : (state_at (with_state states update.hash (updated decided (state_at states update.hash) update)) hash ≡ state_at states hash)
        ⊎ ((state_at (with_state states update.hash (updated decided (state_at states update.hash) update)) hash ≡ updated decided (state_at states update.hash) update) × (hash ≡ update.hash))
        → state_at (with_state states update.hash (updated decided (state_at states update.hash) update)) hash ≡ state_at states hash
    set (inl same) = same
    set (inr put) = absurd (differs (sym put.1))

    by : (old : Bool) → state_at (cond old states (with_state states update.hash (updated decided (state_at states update.hash) update))) hash ≡ state_at states hash
    by true = refl
    by false = set (with_state-IsSetAt states update.hash (updated decided (state_at states update.hash) update) hash)

-- notes that do not name an edit, before others
pub none_first : (first rest : List Note) (edit : ℕ) (fate : Option Fate) → fate_in first edit ≡ None → fate_in rest edit ≡ fate
    → fate_in (first ++ rest) edit ≡ fate
none_first first rest edit fate none is =
    fate_in-append first rest edit ∙ ap (λ (found : Option Fate). option_or found (fate_in rest edit)) none ∙ is

-- notes that settle an edit, before others
pub settled_first : (first rest : List Note) (edit : ℕ) (fate : Fate) → fate_in first edit ≡ Some fate → fate_in (first ++ rest) edit ≡ Some fate
settled_first first rest edit fate is =
    fate_in-append first rest edit ∙ ap (λ (found : Option Fate). option_or found (fate_in rest edit)) is

-- updates of other keys
others_stand : (decided : Value → Value → Decision) (edit last : ℕ) (hash : List ℕ) (value : Value) (states : States) (updates : List Update) → 0 < edit
    → HasNoUpdate hash updates → AreNumbered last states → StandsOn edit hash value states
    → StandsOn edit hash value (after_updates decided states updates) × (fate_in (update_notes decided states updates) edit ≡ None)
unfolding after_updates update_notes
others_stand decided edit last hash value states [] some none numbered stands = (stands, refl)
others_stand decided edit last hash value states (update ∷ updates) some none numbered stands =
    let rest = others_stand decided edit last hash value (after_update decided states update) updates some none.1
    (after_update_numbered decided last states update numbered)
    (other_update_stands decided edit hash value states update some none.0 stands)
    in (rest.0, none_first _ _ edit None (other_update_note decided edit last hash value states update some none.0 numbered stands) rest.1)

-- what an update does to an edit that stands, where it does not end it
abbrev pub StillStands : ℕ → List ℕ → Value → States → List Note → Type 0
StillStands edit hash value states notes = StandsOn edit hash value states × (fate_in notes edit ≡ None)

-- an update of a key gives a fate to the edit that is due there
abbrev pub IsMet : (Value → Value → Decision) → KeyState → Update → Fate → Type 0
IsMet decided state update fate =
    fate_by update.version (resolution_of decided state update) (resolution_of decided state update).choice ≡ Some fate

-- an update of the edit's key
rebased_stands : (edit : ℕ) (value : Value) (states : States) (update : Update) → StandsOn edit update.hash value states
    → StandsOn edit update.hash value (with_state states update.hash (rebased (state_at states update.hash) update (state_at states update.hash).own))
rebased_stands edit value states update stands =
    let put : state_at (with_state states update.hash (rebased (state_at states update.hash) update (state_at states update.hash).own)) update.hash
    ≡ rebased (state_at states update.hash) update (state_at states update.hash).own
    = state_at-with_state states update.hash (rebased (state_at states update.hash) update (state_at states update.hash).own)
    in record {
      due = ap (λ (found : KeyState). found.due) put ∙ stands.due;
      own = ap (λ (found : KeyState). found.own) put ∙ stands.own;
      alone = each_put (IsOnlyOf edit update.hash value) states update.hash
          (rebased (state_at states update.hash) update (state_at states update.hash).own)
          (λ is. (refl, stands.due, stands.own)) stands.alone;
    }

update_here_by : (edit : ℕ) (value : Value) (states : States) (update : Update) (resolution : Resolution) (choice : Choice) (old due : Bool)
    → is_some (state_at states update.hash).due ≡ due → StandsOn edit update.hash value states
    → StillStands edit update.hash value
    (cond old states (with_state states update.hash (cond old (state_at states update.hash)
    (cond due (settled (state_at states update.hash) update choice) (accepted (state_at states update.hash) update)))))
    (note_with (state_at states update.hash).due (cond (old || not due) None (fate_by update.version resolution choice)))
    ⊎ ((fate : Fate) × (fate_in (note_with (state_at states update.hash).due (cond (old || not due) None (fate_by update.version resolution choice))) edit ≡ Some fate)
    × (fate_by update.version resolution choice ≡ Some fate))
update_here_by edit value states update resolution choice true due is stands = inl (stands, no_note (state_at states update.hash).due edit)
update_here_by edit value states update resolution Same false true is stands =
    inr (Matched update.version, one_note (state_at states update.hash).due edit (Matched update.version) stands.due, refl)
update_here_by edit value states update resolution Remote false true is stands =
    inr (Taken update.version resolution.row, one_note (state_at states update.hash).due edit (Taken update.version resolution.row) stands.due, refl)
update_here_by edit value states update resolution Local false true is stands =
    inl (rebased_stands edit value states update stands, no_note (state_at states update.hash).due edit)
update_here_by edit value states update resolution (MergedInto merged) false true is stands =
    inr (Merged update.version resolution.row, one_note (state_at states update.hash).due edit (Merged update.version resolution.row) stands.due, refl)
update_here_by edit value states update resolution choice false false is stands =
    absurd (false≢true (sym is ∙ ap (λ (due : Option ℕ). is_some due) stands.due))

update_here : (decided : Value → Value → Decision) (edit : ℕ) (value : Value) (states : States) (update : Update) → StandsOn edit update.hash value states
    → StillStands edit update.hash value (after_update decided states update)
    (note_with (state_at states update.hash).due (fate_of_update decided (state_at states update.hash) update))
    ⊎ ((fate : Fate) × (fate_in (note_with (state_at states update.hash).due (fate_of_update decided (state_at states update.hash) update)) edit ≡ Some fate)
    × IsMet decided (state_at states update.hash) update fate)
unfolding after_update updated fate_of_update
update_here decided edit value states update stands =
    update_here_by edit value states update (resolution_of decided (state_at states update.hash) update)
    (resolution_of decided (state_at states update.hash) update).choice (is_old (state_at states update.hash) update)
    (is_some (state_at states update.hash).due) refl stands

-- one of some updates, of which this holds, settles an edit
pub record IsSettledBy (P : Update → Type 0) (decided : Value → Value → Decision) (hash : List ℕ) (states : States) (fate : Fate) : Type 0 where
  pub update : Update
  pub holds : P update
  pub same : update.hash ≡ hash
  pub met : IsMet decided (state_at states hash) update fate

abbrev pub AfterUpdates : (Update → Type 0) → (Value → Value → Decision) → ℕ → List ℕ → Value → States → List Update → Type 0
AfterUpdates P decided edit hash value states updates =
    StillStands edit hash value (after_updates decided states updates) (update_notes decided states updates)
    ⊎ ((fate : Fate) × (fate_in (update_notes decided states updates) edit ≡ Some fate) × IsSettledBy P decided hash states fate)

-- the first of some updates is of another key
walk_other : (P : Update → Type 0) (decided : Value → Value → Decision) (edit last : ℕ) (hash : List ℕ) (value : Value) (states : States) (update : Update) (updates : List Update)
    → 0 < edit → (update.hash ≡ hash → ⊥) → AreNumbered last states → StandsOn edit hash value states
    → AfterUpdates P decided edit hash value (after_update decided states update) updates → AfterUpdates P decided edit hash value states (update ∷ updates)
unfolding after_updates update_notes
walk_other P decided edit last hash value states update updates some differs numbered stands (inl still) =
    inl (still.0, none_first _ _ edit None (other_update_note decided edit last hash value states update some differs numbered stands) still.1)
walk_other P decided edit last hash value states update updates some differs numbered stands (inr met) =
    inr (
      met.0,
      none_first _ _ edit (Some met.0) (other_update_note decided edit last hash value states update some differs numbered stands) met.1,
      record {
        update = met.2.update;
        holds = met.2.holds;
        same = met.2.same;
        met = subst (λ (state : KeyState). IsMet decided state met.2.update met.0) (another_update_same decided states update hash differs) met.2.met;
      },
    )

-- the first of some updates is of the edit's key
walk_here : (P : Update → Type 0) (decided : Value → Value → Decision) (edit last : ℕ) (value : Value) (states : States) (update : Update) (updates : List Update)
    → 0 < edit → P update → HasNoUpdate update.hash updates → AreNumbered last states
    → (StillStands edit update.hash value (after_update decided states update)
    (note_with (state_at states update.hash).due (fate_of_update decided (state_at states update.hash) update))
    ⊎ ((fate : Fate) × (fate_in (note_with (state_at states update.hash).due (fate_of_update decided (state_at states update.hash) update)) edit ≡ Some fate)
    × IsMet decided (state_at states update.hash) update fate))
    → AfterUpdates P decided edit update.hash value states (update ∷ updates)
unfolding after_updates update_notes
walk_here P decided edit last value states update updates some holds none numbered (inl still) =
    let rest = others_stand decided edit last update.hash value (after_update decided states update) updates some none
    (after_update_numbered decided last states update numbered) still.0
    in inl (rest.0, none_first _ _ edit None still.1 rest.1)
walk_here P decided edit last value states update updates some holds none numbered (inr met) =
    inr (met.0, settled_first _ _ edit met.0 met.1, record { update = update; holds = holds; same = refl; met = met.2 })

walk_by : (P : Update → Type 0) (decided : Value → Value → Decision) (edit last : ℕ) (hash : List ℕ) (value : Value) (states : States) (update : Update) (updates : List Update)
    (same : Bool) → bytes_eq update.hash hash ≡ same → 0 < edit → P update → HasNoUpdate update.hash updates → AreNumbered last states → StandsOn edit hash value states
    → ((update.hash ≡ hash → ⊥) → AfterUpdates P decided edit hash value (after_update decided states update) updates)
    → AfterUpdates P decided edit hash value states (update ∷ updates)
walk_by P decided edit last hash value states update updates true is some holds none numbered stands rest =
    let same : update.hash ≡ hash = (bytes_eq-Decides update.hash hash).0 is
    in subst (λ (key : List ℕ). AfterUpdates P decided edit key value states (update ∷ updates)) same
    (walk_here P decided edit last value states update updates some holds none numbered
    (update_here decided edit value states update (subst (λ (key : List ℕ). StandsOn edit key value states) (sym same) stands)))
walk_by P decided edit last hash value states update updates false is some holds none numbered stands rest =
    walk_other P decided edit last hash value states update updates some (differs is) numbered stands (rest (differs is))
  where
    differs : bytes_eq update.hash hash ≡ false → update.hash ≡ hash → ⊥
    differs is same = false≢true (sym is ∙ (bytes_eq-Decides update.hash hash).1 same)

-- the updates of a batch leave an edit, or one of them settles it
pub updates_walk : (P : Update → Type 0) (decided : Value → Value → Decision) (edit last : ℕ) (hash : List ℕ) (value : Value) (states : States) (updates : List Update)
    → 0 < edit → AllByRecursion P updates → AreOfDistinctKeys updates → AreNumbered last states → StandsOn edit hash value states
    → AfterUpdates P decided edit hash value states updates
unfolding after_updates update_notes
updates_walk P decided edit last hash value states [] some all distinct numbered stands = inl (stands, refl)
updates_walk P decided edit last hash value states (update ∷ updates) some all distinct numbered stands =
    walk_by P decided edit last hash value states update updates (bytes_eq update.hash hash) refl some all.0 distinct.0 numbered stands
    (λ differs. updates_walk P decided edit last hash value (after_update decided states update) updates some all.1 distinct.1
    (after_update_numbered decided last states update numbered)
    (other_update_stands decided edit hash value states update some differs stands))
