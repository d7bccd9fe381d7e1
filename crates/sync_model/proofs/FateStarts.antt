-- Once an edit is made it stands, and nothing is on its way that has its number.
use Rattle.std.proofs.Common.{◌≡◌, ℕ, suc, ◌+◌, ◌-◌, ◌≤◌, Bool, true, false, cond, List, Option, Some, None, is_some, refl, sym, ap, ◌∙◌, subst, arith, IfSome}
use Rattle.std.proofs.lemmas.Bool.{true≢false}
use Rattle.std.proofs.lemmas.Option.{none-some, same_Some}
use Rattle.client_tags.specs.declared.Kind.{Kind}
use Rattle.client_tags.specs.declared.Kind.TheVariants.{Nigori, Preference, Password}
use Rattle.sync_values.specs.declared.edit.Edit.{Edit as UserEdit}
use Rattle.sync_values.specs.declared.edit.Edit.TheVariants.{SetNigori}
use Rattle.sync_values.specs.declared.value.Value.{Value}
use Rattle.sync_model.specs.declared.event.Event.{Event}
use Rattle.sync_model.specs.declared.event.Event.TheVariants.{Edit, Cut, Turn, Gather, Post, Ask, Offer, Lose, Crash, Deliver, Answer, SetPass, GivePass}
use Rattle.sync_model.specs.declared.event.EventOutcome.TheVariants.{Void}
use Rattle.sync_model.specs.declared.state.KeyState.{KeyState}
use Rattle.sync_model.specs.Values.{same_kind}
use Rattle.sync_model.specs.Edits.{edit_kind, edit_value}
use Rattle.sync_model.specs.Settings.{Setting, with_key}
use Rattle.sync_model.specs.KeyStates.{edited}
use Rattle.sync_model.specs.Sides.{States, Side, state_at, with_state, side_edited}
use Rattle.sync_model.specs.Clients.{Client, Effect, side_of, with_side}
use Rattle.sync_model.specs.Changes.{edit_hash, own_at, edit_refusal, edit_taken, edit_effect, change_effect, cut_short, cut_effect, pass_value, set_pass_refusal, set_pass_effect}
use Rattle.sync_model.specs.Fates.{fate_of}
use Rattle.sync_model.specs.Report.{is_void}
use Rattle.sync_model.specs.Worlds.{World, client_at, with_client_at, affected, acted, pass_at, stepped}
use Rattle.sync_model.specs.Laws.{last_outcome, user_of, edit_by}
use Rattle.sync_model.specs.FateFacts.{IsNumbered, AreNumbered, side_at, NumberFacts, IsOnlyOf, StandsOn, HasValueOf, IsUnsettled}
use Rattle.sync_model.proofs.Longer.{all_then}
use Rattle.sync_model.proofs.KeyLookups.{state_at-with_state}
use Rattle.sync_model.proofs.FateKeys.{each_put}
use Rattle.sync_model.proofs.FateWays.{way_weaker}
use Rattle.sync_model.proofs.FateMakes.{restarted_kept}
use Rattle.sync_model.proofs.FateSettlements.{IsStep, last_is, put_same}
use Rattle.sync_model.proofs.FateNumbers.{IsCounted, stepped_counted, stepped-sent}
use Rattle.sync_model.proofs.FateEdits.{or_given}

-- a side has an edit more than another one
pub record IsEdited (setting : Setting) (edit : UserEdit) (old new : Side) : Type 0 where
  pub states : new.states ≡ with_state old.states (edit_hash setting edit)
      (edited (state_at old.states (edit_hash setting edit)) (edit_value (own_at old (edit_hash setting edit)) edit) (old.last_edit + 1))
  pub last : new.last_edit ≡ old.last_edit + 1

-- an effect makes an edit
abbrev EffectEdits : Setting → UserEdit → Client → Option Effect → Type 0
EffectEdits setting edit client effect = IfSome effect (λ made. IsEdited setting edit (side_of client (edit_kind edit)) (side_of made.client (edit_kind edit)))

pub side_of-with_side : (client : Client) (kind : Kind) (side : Side) → side_of (with_side client kind side) kind ≡ side
side_of-with_side client Nigori side = refl
side_of-with_side client Preference side = refl
side_of-with_side client Password side = refl

edit_taken-edits : (setting : Setting) (number : ℕ) (edit : UserEdit) (client : Client) → EffectEdits setting edit client (Some (edit_taken setting number edit client))
edit_taken-edits setting number edit client =
    let made : Value = edit_value (own_at (side_of client (edit_kind edit)) (edit_hash setting edit)) edit
    in let put : side_of (with_side client (edit_kind edit) (side_edited (side_of client (edit_kind edit)) (edit_hash setting edit) made)) (edit_kind edit)
    ≡ side_edited (side_of client (edit_kind edit)) (edit_hash setting edit) made
    = side_of-with_side client (edit_kind edit) (side_edited (side_of client (edit_kind edit)) (edit_hash setting edit) made)
    in record { states = ap (λ (side : Side). side.states) put; last = ap (λ (side : Side). side.last_edit) put }

change_effect-edits : (setting : Setting) (number : ℕ) (edit : UserEdit) (client : Client) → EffectEdits setting edit client (change_effect setting number edit client)
unfolding change_effect edit_effect
change_effect-edits setting number edit client = by (same_kind (edit_kind edit) Nigori) (is_some (edit_refusal setting client edit))
  where
    by : (nigori refused : Bool) → EffectEdits setting edit client (cond nigori None (cond refused None (Some (edit_taken setting number edit client))))
    by true refused = tt
    by false true = tt
    by false false = edit_taken-edits setting number edit client

cut_short-edits : (setting : Setting) (edit : UserEdit) (client : Client) (effect : Option Effect)
    → EffectEdits setting edit client effect → EffectEdits setting edit client (cut_short true client effect)
cut_short-edits setting edit client None made = tt
cut_short-edits setting edit client (Some effect) made = record {
  states = (restarted_kept effect.client (edit_kind edit)).0 ∙ made.states;
  last = (restarted_kept effect.client (edit_kind edit)).1 ∙ made.last;
}

cut_effect-edits : (setting : Setting) (number : ℕ) (edit : UserEdit) (client : Client) → EffectEdits setting edit client (cut_effect setting number true edit client)
unfolding cut_effect
cut_effect-edits setting number edit client =
    cut_short-edits setting edit client (change_effect setting number edit client) (change_effect-edits setting number edit client)

set_pass_effect-edits : (setting : Setting) (number : ℕ) (pass : List ℕ) (client : Client)
    → EffectEdits setting (SetNigori (pass_value setting setting.pass_kind client.bag pass)) client (set_pass_effect setting setting.pass_kind number pass client)
unfolding set_pass_effect
set_pass_effect-edits setting number pass client = by (is_some (set_pass_refusal setting setting.pass_kind pass client))
  where
    by : (refused : Bool) → EffectEdits setting (SetNigori (pass_value setting setting.pass_kind client.bag pass)) client
        (cond refused None (Some (edit_taken setting number (SetNigori (pass_value setting setting.pass_kind client.bag pass)) (record client { bag = with_key setting client.bag (setting.pass_key pass) }))))
    by true = tt
    by false = edit_taken-edits setting number (SetNigori (pass_value setting setting.pass_kind client.bag pass)) (record client { bag = with_key setting client.bag (setting.pass_key pass) })

-- a world that an event of a client changes, where it is not void
affected_edits : (setting : Setting) (edit : UserEdit) (world : World) (place : ℕ) (effect : Option Effect)
    → is_void (last_outcome (affected world (suc place) effect)) ≡ false → EffectEdits setting edit (client_at world.clients (suc place)) effect
    → IsEdited setting edit (side_at world (suc place) (edit_kind edit)) (side_at (affected world (suc place) effect) (suc place) (edit_kind edit))
unfolding affected
affected_edits setting edit world place None done made =
    absurd (true≢false (sym (ap is_void (last_is world.outcomes Void)) ∙ done))
affected_edits setting edit world place (Some effect) done made =
    let put : side_of (client_at (with_client_at world.clients (suc place - 1) effect.client) (suc place)) (edit_kind edit) ≡ side_of effect.client (edit_kind edit)
    = ap (λ (client : Client). side_of client (edit_kind edit)) (put_same world.clients (suc place - 1) effect.client)
    in record {
      states = ap (λ (side : Side). side.states) put ∙ made.states;
      last = ap (λ (side : Side). side.last_edit) put ∙ made.last;
    }

acted_edits : (setting : Setting) (edit : UserEdit) (world : World) (place number : ℕ) (acts : Client → Option Effect) → suc place ≡ number
    → is_void (last_outcome (acted world number acts)) ≡ false
    → EffectEdits setting edit (client_at world.clients number) (acts (client_at world.clients number))
    → IsEdited setting edit (side_at world (suc place) (edit_kind edit)) (side_at (acted world number acts) (suc place) (edit_kind edit))
acted_edits setting edit world place number acts same =
    subst (λ (found : ℕ). is_void (last_outcome (acted world found acts)) ≡ false
    → EffectEdits setting edit (client_at world.clients found) (acts (client_at world.clients found))
    → IsEdited setting edit (side_at world (suc place) (edit_kind edit)) (side_at (acted world found acts) (suc place) (edit_kind edit))) same
    (affected_edits setting edit world place (acts (client_at world.clients (suc place))))

-- an event that makes an edit, and is not void
pub made_edits : (setting : Setting) (event : Event) (world : World) (place : ℕ) (edit : UserEdit) → user_of event ≡ suc place
    → edit_by setting world event ≡ Some edit → is_void (last_outcome (stepped setting event world)) ≡ false
    → IsEdited setting edit (side_at world (suc place) (edit_kind edit)) (side_at (stepped setting event world) (suc place) (edit_kind edit))
unfolding stepped
made_edits setting (Edit number made) world place edit user makes done =
    acted_edits setting edit world place number (change_effect setting number made) (sym user) done
    (subst (λ (found : UserEdit). EffectEdits setting found (client_at world.clients number) (change_effect setting number made (client_at world.clients number)))
    (same_Some made edit makes) (change_effect-edits setting number made (client_at world.clients number)))
made_edits setting (Cut number true made) world place edit user makes done =
    acted_edits setting edit world place number (cut_effect setting number true made) (sym user) done
    (subst (λ (found : UserEdit). EffectEdits setting found (client_at world.clients number) (cut_effect setting number true made (client_at world.clients number)))
    (same_Some made edit makes) (cut_effect-edits setting number made (client_at world.clients number)))
made_edits setting (Cut number false made) world place edit user makes done = absurd (none-some edit makes)
made_edits setting (SetPass number pass) world place edit user makes done =
    acted_edits setting edit world place number (set_pass_effect setting setting.pass_kind number (pass_at world.passes pass)) (sym user) done
    (subst (λ (found : UserEdit). EffectEdits setting found (client_at world.clients number) (set_pass_effect setting setting.pass_kind number (pass_at world.passes pass) (client_at world.clients number)))
    (same_Some (SetNigori (pass_value setting setting.pass_kind (client_at world.clients number).bag (pass_at world.passes pass))) edit makes)
    (set_pass_effect-edits setting number (pass_at world.passes pass) (client_at world.clients number)))
made_edits setting (Turn number kind) world place edit user makes done = absurd (none-some edit makes)
made_edits setting (Gather number kind) world place edit user makes done = absurd (none-some edit makes)
made_edits setting (Post number kind) world place edit user makes done = absurd (none-some edit makes)
made_edits setting (Ask number) world place edit user makes done = absurd (none-some edit makes)
made_edits setting (Offer number) world place edit user makes done = absurd (none-some edit makes)
made_edits setting (Lose number) world place edit user makes done = absurd (none-some edit makes)
made_edits setting (Crash number) world place edit user makes done = absurd (none-some edit makes)
made_edits setting (Deliver request) world place edit user makes done = absurd (none-some edit makes)
made_edits setting (Answer delivery) world place edit user makes done = absurd (none-some edit makes)
made_edits setting (GivePass number pass) world place edit user makes done = absurd (none-some edit makes)

-- no client has the number 0, so no edit is of one
acted_by_none : (world : World) (number : ℕ) (acts : Client → Option Effect) → 0 ≡ number → is_void (last_outcome (acted world number acts)) ≡ false → ⊥
acted_by_none world number acts same = subst (λ (found : ℕ). is_void (last_outcome (acted world found acts)) ≡ false → ⊥) same
    (λ done. true≢false (sym (ap is_void (last_is world.outcomes Void)) ∙ done))

pub made_by_some : (setting : Setting) (event : Event) (world : World) (edit : UserEdit) → user_of event ≡ 0
    → edit_by setting world event ≡ Some edit → is_void (last_outcome (stepped setting event world)) ≡ false → ⊥
unfolding stepped
made_by_some setting (Edit number made) world edit user makes = acted_by_none world number (change_effect setting number made) (sym user)
made_by_some setting (Cut number kept made) world edit user makes = acted_by_none world number (cut_effect setting number kept made) (sym user)
made_by_some setting (SetPass number pass) world edit user makes = acted_by_none world number (set_pass_effect setting setting.pass_kind number (pass_at world.passes pass)) (sym user)
made_by_some setting (Turn number kind) world edit user makes = absurd (none-some edit makes)
made_by_some setting (Gather number kind) world edit user makes = absurd (none-some edit makes)
made_by_some setting (Post number kind) world edit user makes = absurd (none-some edit makes)
made_by_some setting (Ask number) world edit user makes = absurd (none-some edit makes)
made_by_some setting (Offer number) world edit user makes = absurd (none-some edit makes)
made_by_some setting (Lose number) world edit user makes = absurd (none-some edit makes)
made_by_some setting (Crash number) world edit user makes = absurd (none-some edit makes)
made_by_some setting (Deliver request) world edit user makes = absurd (none-some edit makes)
made_by_some setting (Answer delivery) world edit user makes = absurd (none-some edit makes)
made_by_some setting (GivePass number pass) world edit user makes = absurd (none-some edit makes)

-- an edit stands on the side that it was made on
made_stands : (last number : ℕ) (hash : List ℕ) (value : Value) (states : States) → number ≡ last + 1
    → AreNumbered last states → StandsOn number hash value (with_state states hash (edited (state_at states hash) value (last + 1)))
made_stands last number hash value states is within =
    let put : state_at (with_state states hash (edited (state_at states hash) value (last + 1))) hash ≡ edited (state_at states hash) value (last + 1)
    = state_at-with_state states hash (edited (state_at states hash) value (last + 1))
    in record {
      due = ap (λ (state : KeyState). state.due) put ∙ ap Some (sym is);
      own = ap (λ (state : KeyState). state.own) put;
      alone = each_put (IsOnlyOf number hash value) states hash (edited (state_at states hash) value (last + 1))
          (λ same. (refl, ap Some (sym is), refl))
          (all_then (λ (entry : List ℕ × KeyState) (le : IsNumbered last entry.1). other entry le) states within);
    }
  where
    other : (entry : List ℕ × KeyState) → IsNumbered last entry.1 → IsOnlyOf number hash value entry.0 entry.1
    other entry le same = absurd (omega (arith, same, le.within, is))

-- an edit that was just made is not settled
pub starts_unsettled : (setting : Setting) (event : Event) (world : World) (place number : ℕ) (edit : UserEdit) (value : Value) → NumberFacts world
    → value ≡ edit_value (own_at (side_at world (suc place) (edit_kind edit)) (edit_hash setting edit)) edit
    → number ≡ (side_at world (suc place) (edit_kind edit)).last_edit + 1
    → IsEdited setting edit (side_at world (suc place) (edit_kind edit)) (side_at (stepped setting event world) (suc place) (edit_kind edit))
    → IsUnsettled (suc place) (edit_kind edit) number (edit_hash setting edit) value (stepped setting event world)
starts_unsettled setting event world place number edit value facts value_is is made = by (stepped_counted setting event world facts place (edit_kind edit)).0
    (stepped_counted setting event world facts place (edit_kind edit)).1
  where
    says : (other : ℕ) (kind : Kind) (found : ℕ) (other_value : Value) → found ≤ (side_at world other kind).last_edit
        → HasValueOf (suc place) (edit_kind edit) number value other kind found other_value
    says other kind found other_value le place_is kind_is same =
        let le_here : found ≤ (side_at world (suc place) (edit_kind edit)).last_edit
        = subst (λ (at : Kind). found ≤ (side_at world (suc place) at).last_edit) kind_is
        (subst (λ (at : ℕ). found ≤ (side_at world at kind).last_edit) place_is le)
        in absurd (omega (arith, le_here, same, is))

    by : (step : IsStep setting event world (stepped setting event world) place (edit_kind edit))
        → IsCounted (side_at world (suc place) (edit_kind edit)) (side_at (stepped setting event world) (suc place) (edit_kind edit)) step.noted
        → IsUnsettled (suc place) (edit_kind edit) number (edit_hash setting edit) value (stepped setting event world)
    by step counted = record {
      counted = omega (arith, is, made.last);
      lacks_fate = step.fates number ∙ or_given (fate_of world.settlements (suc place) (edit_kind edit) number) (step.noted number) None
          (facts.unsettled place (edit_kind edit) number (omega (arith, is))) (counted.settles number (omega (arith, is)));
      stands = subst (λ (states : States). StandsOn number (edit_hash setting edit) value states) (sym made.states)
          (subst (λ (own : Value). StandsOn number (edit_hash setting edit) value (with_state (side_at world (suc place) (edit_kind edit)).states (edit_hash setting edit)
          (edited (state_at (side_at world (suc place) (edit_kind edit)).states (edit_hash setting edit)) own ((side_at world (suc place) (edit_kind edit)).last_edit + 1)))) value_is
          (made_stands (side_at world (suc place) (edit_kind edit)).last_edit number (edit_hash setting edit) value
          (side_at world (suc place) (edit_kind edit)).states is (facts.keys place (edit_kind edit))));
      sent = way_weaker (λ other kind found value. found ≤ (side_at world other kind).last_edit) (HasValueOf (suc place) (edit_kind edit) number value)
          (stepped setting event world) says (stepped-sent setting event world facts);
    }
