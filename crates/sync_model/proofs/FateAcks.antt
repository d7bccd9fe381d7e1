-- An edit that stands still does after some acknowledgements, or one of them, which has its number, settles it.
use Rattle.std.proofs.Common.{◌≡◌, ℕ, ◌<◌, ◌≤◌, ◌⊎◌, Bool, true, false, cond, List, [], ◌∷◌, ◌++◌, Option, Some, None, is_some, refl, sym, ap, ◌∙◌, subst, leb, arith, inl, inr, IfSome, nat_lt, nat_le}
use Rattle.std.specs.List.{AllByRecursion}
use Rattle.std.proofs.lemmas.Bool.{eq-eqb, ne_eqb, cond-true, cond-false, cases_eq, leb-true, ltb-false, or_parts}
use Rattle.std.proofs.lemmas.Option.{none-some, same_Some}
use Rattle.sync_values.specs.declared.value.Value.{Value}
use Rattle.sync_model.specs.declared.fate.Fate.{Fate}
use Rattle.sync_model.specs.declared.fate.Fate.TheVariants.{Committed}
use Rattle.sync_model.specs.declared.fate.Note.{Note}
use Rattle.sync_model.specs.declared.message.Ack.{Ack}
use Rattle.sync_model.specs.declared.state.KeyState.{KeyState}
use Rattle.sync_model.specs.KeyStates.{is_ignored, still_due, acknowledged, ended}
use Rattle.sync_model.specs.Sides.{States, state_at, with_state, after_ack, after_acks, note_of, notes_of}
use Rattle.sync_model.specs.FateFacts.{AreNumbered, IsOnlyOf, StandsOn}
use Rattle.sync_model.proofs.KeyLookups.{with_state-IsSetAt}
use Rattle.sync_model.proofs.FateKeys.{each_put, numbered_at, fate_in, after_ack_numbered}
use Rattle.sync_model.proofs.FateUpdates.{only_at, none_first, settled_first, StillStands}

-- at a key there is put a state with this edit due, or by that of another edit
put_stands : (edit : ℕ) (hash : List ℕ) (value : Value) (states : States) (other : List ℕ) (state : KeyState)
    → (hash ≡ other → (state.due ≡ Some edit) × (state.own ≡ value)) → IsOnlyOf edit hash value other state
    → StandsOn edit hash value states → StandsOn edit hash value (with_state states other state)
put_stands edit hash value states other state here only stands = by (with_state-IsSetAt states other state hash)
  where
    by : ((state_at (with_state states other state) hash ≡ state_at states hash) ⊎ ((state_at (with_state states other state) hash ≡ state) × (hash ≡ other)))
        → StandsOn edit hash value (with_state states other state)
    by (inl same) = record {
      due = ap (λ (found : KeyState). found.due) same ∙ stands.due;
      own = ap (λ (found : KeyState). found.own) same ∙ stands.own;
      alone = each_put (IsOnlyOf edit hash value) states other state only stands.alone;
    }
    by (inr put) = record {
      due = ap (λ (found : KeyState). found.due) put.0 ∙ (here put.1).0;
      own = ap (λ (found : KeyState). found.own) put.0 ∙ (here put.1).1;
      alone = each_put (IsOnlyOf edit hash value) states other state only stands.alone;
    }

-- an acknowledgement keeps the number of a key's last edit
acknowledged_last : (state : KeyState) (ack : Ack) → (acknowledged state ack).last_edit ≡ state.last_edit
unfolding acknowledged
acknowledged_last state ack = by (is_ignored state ack)
  where
    by : (ignored : Bool) → (cond ignored state record {
      known = ack.version;
      base = ack.value;
      own = cond (is_some (still_due state.due ack.number)) state.own ack.value;
      due = still_due state.due ack.number;
      last_edit = state.last_edit;
      lock = ack.lock;
      offered = [];
    }).last_edit ≡ state.last_edit
    by true = refl
    by false = refl

-- what an acknowledgement of another edit ends
other_ended : (state : KeyState) (ack : Ack) (edit : ℕ) → IfSome state.due (λ due. due ≡ state.last_edit) → (state.last_edit ≡ edit → ⊥)
    → fate_in (note_of (ended state ack) ack.version) edit ≡ None
unfolding ended
other_ended state ack edit due other = by (is_ignored state ack) (is_some (still_due state.due ack.number))
  where
    note : (found : Option ℕ) → IfSome found (λ number. number ≡ state.last_edit) → fate_in (note_of found ack.version) edit ≡ None
    note None is = refl
    note (Some number) is = cond-false _ _ _ (ne_eqb number edit (λ same. other (sym is ∙ same)))

    by : (ignored still : Bool) → fate_in (note_of (cond ignored None (cond still None state.due)) ack.version) edit ≡ None
    by true still = refl
    by false true = refl
    by false false = note state.due due

-- what stands at the key of an edit has its number
last_at : (edit last : ℕ) (hash : List ℕ) (value : Value) (states : States) → AreNumbered last states → StandsOn edit hash value states
    → (state_at states hash).last_edit ≡ edit
last_at edit last hash value states numbered stands =
    sym (subst (λ (due : Option ℕ). IfSome due (λ number. number ≡ (state_at states hash).last_edit)) stands.due (numbered_at last states hash numbered).due)

-- an acknowledgement of a key whose last edit is another one
other_ack : (edit last : ℕ) (hash : List ℕ) (value : Value) (states : States) (ack : Ack) → AreNumbered last states
    → ((state_at states ack.hash).last_edit ≡ edit → ⊥) → StandsOn edit hash value states
    → StillStands edit hash value (after_ack states ack) (note_of (ended (state_at states ack.hash) ack) ack.version)
unfolding after_ack
other_ack edit last hash value states ack numbered other stands = (
  by (is_ignored (state_at states ack.hash) ack),
  other_ended (state_at states ack.hash) ack edit (numbered_at last states ack.hash numbered).due other,
)
  where
    by : (ignored : Bool) → StandsOn edit hash value (cond ignored states (with_state states ack.hash (acknowledged (state_at states ack.hash) ack)))
    by true = stands
    by false = put_stands edit hash value states ack.hash (acknowledged (state_at states ack.hash) ack)
        (λ same. absurd (other (subst (λ (key : List ℕ). (state_at states key).last_edit ≡ edit) same (last_at edit last hash value states numbered stands))))
        (λ is. absurd (other (sym (acknowledged_last (state_at states ack.hash) ack) ∙ is))) stands

-- an acknowledgement, of which this holds, has the number of an edit, and settles it
pub record IsAckedBy (Q : Ack → Type 0) (edit : ℕ) (hash : List ℕ) (fate : Fate) : Type 0 where
  pub ack : Ack
  pub holds : Q ack
  pub same : ack.hash ≡ hash
  pub numbered : ack.number ≡ edit
  pub is : fate ≡ Committed ack.version

abbrev AfterAck : (Ack → Type 0) → ℕ → List ℕ → Value → States → List Note → Type 0
AfterAck Q edit hash value states notes =
    StillStands edit hash value states notes ⊎ ((fate : Fate) × (fate_in notes edit ≡ Some fate) × IsAckedBy Q edit hash fate)

-- one that is not ignored has a number that is not above the key's last edit
within_last : (state : KeyState) (ack : Ack) → is_ignored state ack ≡ false → ack.number ≤ state.last_edit
within_last state ack is = omega (arith, ltb-false state.last_edit ack.number (or_parts (nat_le ack.version state.known) (nat_lt state.last_edit ack.number) is).1)

ended_note : (due : Option ℕ) (edit version : ℕ) → due ≡ Some edit → fate_in (note_of due version) edit ≡ Some (Committed version)
ended_note None edit version is = absurd (none-some edit is)
ended_note (Some number) edit version is = cond-true _ _ _ (eq-eqb number edit (same_Some number edit is))

-- an acknowledgement of the edit's key, by what it leaves due
ack_here_by : (Q : Ack → Type 0) (edit : ℕ) (value : Value) (states : States) (ack : Ack) (left : Option ℕ) (ignored : Bool)
    → is_ignored (state_at states ack.hash) ack ≡ ignored → left ≡ cond (leb edit ack.number) None (Some edit) → Q ack
    → (state_at states ack.hash).last_edit ≡ edit → StandsOn edit ack.hash value states
    → AfterAck Q edit ack.hash value
    (cond ignored states (with_state states ack.hash (cond ignored (state_at states ack.hash) record {
      known = ack.version;
      base = ack.value;
      own = cond (is_some left) (state_at states ack.hash).own ack.value;
      due = left;
      last_edit = (state_at states ack.hash).last_edit;
      lock = ack.lock;
      offered = [];
    })))
    (note_of (cond ignored None (cond (is_some left) None (state_at states ack.hash).due)) ack.version)
ack_here_by Q edit value states ack left true is left_is holds last stands =
    inl (stands, refl)
ack_here_by Q edit value states ack None false is left_is holds last stands = by (leb edit ack.number) refl left_is
  where
    by : (over : Bool) → leb edit ack.number ≡ over → None ≡ cond over None (Some edit) → AfterAck Q edit ack.hash value
        (with_state states ack.hash record {
          known = ack.version;
          base = ack.value;
          own = ack.value;
          due = None;
          last_edit = (state_at states ack.hash).last_edit;
          lock = ack.lock;
          offered = [];
        })
        (note_of (state_at states ack.hash).due ack.version)
    by true over is_left = inr (
      Committed ack.version,
      ended_note (state_at states ack.hash).due edit ack.version stands.due,
      record {
        ack = ack;
        holds = holds;
        same = refl;
        numbered = omega (arith, leb-true _ _ over, last, within_last (state_at states ack.hash) ack is);
        is = refl;
      },
    )
    by false over is_left = absurd (none-some edit is_left)
ack_here_by Q edit value states ack (Some due) false is left_is holds last stands = by (leb edit ack.number) left_is
  where
    by : (over : Bool) → Some due ≡ cond over None (Some edit) → AfterAck Q edit ack.hash value
        (with_state states ack.hash record {
          known = ack.version;
          base = ack.value;
          own = (state_at states ack.hash).own;
          due = Some due;
          last_edit = (state_at states ack.hash).last_edit;
          lock = ack.lock;
          offered = [];
        }) []
    by true is_left = absurd (none-some due (sym is_left))
    by false is_left =
        let state : KeyState = record {
          known = ack.version;
          base = ack.value;
          own = (state_at states ack.hash).own;
          due = Some due;
          last_edit = (state_at states ack.hash).last_edit;
          lock = ack.lock;
          offered = [];
        }
        in inl (
          put_stands edit ack.hash value states ack.hash state (λ same. (is_left, stands.own))
              (λ is. (refl, is_left, stands.own)) stands,
          refl,
        )

ack_here : (Q : Ack → Type 0) (edit : ℕ) (value : Value) (states : States) (ack : Ack) → Q ack
    → (state_at states ack.hash).last_edit ≡ edit → StandsOn edit ack.hash value states
    → AfterAck Q edit ack.hash value (after_ack states ack) (note_of (ended (state_at states ack.hash) ack) ack.version)
unfolding after_ack acknowledged ended
ack_here Q edit value states ack holds last stands =
    ack_here_by Q edit value states ack (still_due (state_at states ack.hash).due ack.number) (is_ignored (state_at states ack.hash) ack) refl
    (ap (λ (due : Option ℕ). still_due due ack.number) stands.due) holds last stands

-- one acknowledgement
ack_step : (Q : Ack → Type 0) (edit last : ℕ) (hash : List ℕ) (value : Value) (states : States) (ack : Ack) → 0 < edit → Q ack
    → AreNumbered last states → StandsOn edit hash value states
    → AfterAck Q edit hash value (after_ack states ack) (note_of (ended (state_at states ack.hash) ack) ack.version)
ack_step Q edit last hash value states ack some holds numbered stands = by (cases_eq (state_at states ack.hash).last_edit edit)
  where
    by : ((state_at states ack.hash).last_edit ≡ edit) ⊎ ((state_at states ack.hash).last_edit ≡ edit → ⊥)
        → AfterAck Q edit hash value (after_ack states ack) (note_of (ended (state_at states ack.hash) ack) ack.version)
    by (inl is) =
        let same : ack.hash ≡ hash = (only_at edit hash value states ack.hash some stands is).0
        in subst (λ (key : List ℕ). AfterAck Q edit key value (after_ack states ack) (note_of (ended (state_at states ack.hash) ack) ack.version)) same
        (ack_here Q edit value states ack holds is (subst (λ (key : List ℕ). StandsOn edit key value states) (sym same) stands))
    by (inr other) = inl (other_ack edit last hash value states ack numbered other stands)

acks_walk_by : (Q : Ack → Type 0) (edit : ℕ) (hash : List ℕ) (value : Value) (states : States) (ack : Ack) (acks : List Ack)
    → AfterAck Q edit hash value (after_ack states ack) (note_of (ended (state_at states ack.hash) ack) ack.version)
    → (StandsOn edit hash value (after_ack states ack) → AfterAck Q edit hash value (after_acks (after_ack states ack) acks) (notes_of (after_ack states ack) acks))
    → AfterAck Q edit hash value (after_acks states (ack ∷ acks)) (notes_of states (ack ∷ acks))
unfolding after_acks notes_of
acks_walk_by Q edit hash value states ack acks (inl still) rest = by (rest still.0)
  where
    by : AfterAck Q edit hash value (after_acks (after_ack states ack) acks) (notes_of (after_ack states ack) acks)
        → AfterAck Q edit hash value (after_acks (after_ack states ack) acks)
        (note_of (ended (state_at states ack.hash) ack) ack.version ++ notes_of (after_ack states ack) acks)
    by (inl more) = inl (more.0, none_first _ _ edit None still.1 more.1)
    by (inr met) = inr (met.0, none_first _ _ edit (Some met.0) still.1 met.1, met.2)
acks_walk_by Q edit hash value states ack acks (inr met) rest = inr (met.0, settled_first _ _ edit met.0 met.1, met.2)

-- some acknowledgements leave an edit, or one of them settles it
pub acks_walk : (Q : Ack → Type 0) (edit last : ℕ) (hash : List ℕ) (value : Value) (states : States) (acks : List Ack)
    → 0 < edit → AllByRecursion Q acks → AreNumbered last states → StandsOn edit hash value states
    → StillStands edit hash value (after_acks states acks) (notes_of states acks)
    ⊎ ((fate : Fate) × (fate_in (notes_of states acks) edit ≡ Some fate) × IsAckedBy Q edit hash fate)
unfolding after_acks notes_of
acks_walk Q edit last hash value states [] some all numbered stands = inl (stands, refl)
acks_walk Q edit last hash value states (ack ∷ acks) some all numbered stands =
    acks_walk_by Q edit hash value states ack acks (ack_step Q edit last hash value states ack some all.0 numbered stands)
    (λ stands. acks_walk Q edit last hash value (after_ack states ack) acks some all.1 (after_ack_numbered last states ack numbered) stands)
