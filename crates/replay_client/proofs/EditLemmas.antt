-- What a user's edit of a preference makes of a client.
use Rattle.std.proofs.Common.{◌≡◌, ℕ, Bool, true, false, cond, List, ◌++◌, map, Option, Some, None, Result, Ok, Err, refl, sym, ap, ◌∙◌}
use Rattle.std.specs.Prelude.{is_some, is_err, IsSome, IfErr, OnOk}
use Rattle.std.proofs.lemmas.Bool.{false≢true}
use Rattle.client_tags.specs.declared.Kind.{Kind}
use Rattle.client_tags.specs.declared.Kind.TheVariants.{Nigori, Preference}
use Rattle.conflict_rules.specs.declared.rules.Preferences.{Preferences}
use Rattle.run_setting.specs.Hashed.{hashed}
use Rattle.sync_values.specs.declared.edit.Edit.{Edit}
use Rattle.sync_model.specs.declared.event.EventOutcome.TheVariants.{Void, Edited as Edited_outcome}
use Rattle.sync_model.specs.declared.fate.Settlement.{Settlement}
use Rattle.sync_model.specs.declared.refusal.EditRefusal.{EditRefusal}
use Rattle.sync_model.specs.Changes.{edit_refusal_at, edit_refusal, follows, edit_effect_at, edit_taken, edit_effect, change_effect}
use Rattle.sync_model.specs.Clients.{Effect, side_of}
use Rattle.sync_model.specs.Edits.{edit_kind, edit_length}
use Rattle.sync_model.specs.Values.{same_kind}
use Rattle.sync_model.specs.Worlds.{settlement_of}
use Rattle.type_processor.specs.declared.answers.EditFault.{EditFault}
use Rattle.type_processor.specs.declared.answers.EditFault.TheVariants as faults
use Rattle.type_processor.specs.declared.answers.Edited.{Edited}
use Rattle.type_processor.specs.Edits.{edit_hash, own_before, refusal_of, edited_by, edit_told, IsRefusalOf, IsRefusalAt}
use Rattle.type_processor.specs.Processed.{Processed}
use Rattle.replay_client.specs.declared.client.Client.TheInside.{Inside}
use Rattle.replay_client.specs.Clients.{client_of}
use Rattle.replay_client.specs.Happenings.{Happens}
use Rattle.replay_client.proofs.Effects.{voided, made, nothing, happens}

-- a client with another processor of preferences
abbrev with_processor : Inside → Processed Preferences → Inside
with_processor inside processor = record inside { preference = record inside.preference { processor = processor } }

-- a client refuses an edit of a preference as its processor does
same_refusal : (inside : Inside) (edit : Edit) → edit_kind edit ≡ Preference → edit_refusal hashed (client_of inside) edit ≡ refusal_of inside.preference.processor edit
unfolding hashed
same_refusal inside edit is = ap (λ (kind : Kind). edit_refusal_at (side_of (client_of inside) kind) (edit_hash edit) edit) is

where_false : {A : Type 0} (test : Bool) (x y : A) → test ≡ false → cond test x y ≡ y
where_false test x y is = rw is refl

-- an edit of a preference is not one of a profile's keys
is_change : (inside : Inside) (number : ℕ) (edit : Edit) → edit_kind edit ≡ Preference → change_effect hashed number edit (client_of inside) ≡ edit_effect hashed number edit (client_of inside)
unfolding change_effect
is_change inside number edit is =
    where_false (same_kind (edit_kind edit) Nigori) None (edit_effect hashed number edit (client_of inside)) (ap (λ (kind : Kind). same_kind kind Nigori) is)

-- the effect of an edit that is taken
abbrev taken_at : Inside → ℕ → Edit → Effect
taken_at inside number edit = edit_effect_at (client_of inside) number Preference (edit_hash edit) edit (client_of inside).preference

is_taken : (inside : Inside) (number : ℕ) (edit : Edit) → edit_kind edit ≡ Preference → refusal_of inside.preference.processor edit ≡ None
    → edit_effect hashed number edit (client_of inside) ≡ Some (taken_at inside number edit)
unfolding edit_effect hashed
is_taken inside number edit is none =
    made (is_some (edit_refusal hashed (client_of inside) edit)) (edit_taken hashed number edit (client_of inside)) (ap is_some (same_refusal inside edit is ∙ none))
    ∙ ap (λ (kind : Kind). Some (edit_effect_at (client_of inside) number kind (edit_hash edit) edit (side_of (client_of inside) kind))) is

-- an edit that the processor takes
pub edit_done : (inside : Inside) (number : ℕ) (edit copy : Edit) (edited : Edited) (new : Processed Preferences) (before settled : List Settlement) → edit_kind edit ≡ Preference → copy ≡ edit
    → refusal_of inside.preference.processor copy ≡ None → new ≡ edited_by inside.preference.processor copy → edited ≡ edit_told inside.preference.processor copy
    → settled ≡ before ++ map (settlement_of number Preference) (follows edited.followed edited.number)
    → Happens number (change_effect hashed number edit (client_of inside)) (Edited_outcome number Preference edited.number) (client_of inside) (client_of (with_processor inside new)) before settled
edit_done inside number edit copy edited new before settled is same none is_new is_edited is_settled =
    happens number (change_effect hashed number edit (client_of inside)) (taken_at inside number edit) (Edited_outcome number Preference edited.number) (client_of inside) (client_of (with_processor inside new)) before settled
    (is_change inside number edit is ∙ is_taken inside number edit is (ap (refusal_of inside.preference.processor) (sym same) ∙ none))
    (ap (λ (told : Edited). Edited_outcome number Preference told.number) is_edited)
    (ap (λ processor. client_of (with_processor inside processor)) (is_new ∙ ap (edited_by inside.preference.processor) same))
    (is_settled ∙ ap (λ (told : Edited). before ++ map (settlement_of number Preference) (follows told.followed told.number)) (is_edited ∙ ap (edit_told inside.preference.processor) same))

-- an edit that is not refused has an effect
pub edit_has_effect : (inside : Inside) (number : ℕ) (edit : Edit) → edit_kind edit ≡ Preference → refusal_of inside.preference.processor edit ≡ None
    → IsSome (change_effect hashed number edit (client_of inside))
edit_has_effect inside number edit is none = ap is_some (is_change inside number edit is ∙ is_taken inside number edit is none)

is_refused : (refusal : Option EditRefusal) (len : ℕ) (fault : EditFault) → IsRefusalOf refusal len fault → is_some refusal ≡ true
is_refused refusal len (faults.TooLong told) is = ap is_some is.0
is_refused refusal len (faults.Full count) is = ap is_some is
is_refused refusal len faults.NoMemory is = absurd is

-- an edit that the processor refuses
pub edit_void : (inside : Inside) (number : ℕ) (edit : Edit) (fault : EditFault) (settled : List Settlement) → edit_kind edit ≡ Preference
    → IsRefusalAt inside.preference.processor edit fault
    → Happens number (change_effect hashed number edit (client_of inside)) Void (client_of inside) (client_of inside) settled settled
unfolding edit_effect
edit_void inside number edit fault settled is refused =
    nothing number (change_effect hashed number edit (client_of inside)) Void (client_of inside) (client_of inside) settled settled
    (is_change inside number edit is
    ∙ voided (is_some (edit_refusal hashed (client_of inside) edit)) (edit_taken hashed number edit (client_of inside))
    (ap is_some (same_refusal inside edit is)
    ∙ is_refused (refusal_of inside.preference.processor edit) (edit_length (own_before inside.preference.processor edit) edit) fault refused))
    refl refl refl

-- an edit that the processor says it would refuse
pub edit_refused : (inside : Inside) (number : ℕ) (edit : Edit) (answer : Result (Unit {0}) EditFault) (settled : List Settlement) → edit_kind edit ≡ Preference
    → is_err answer ≡ true → IfErr answer (IsRefusalAt inside.preference.processor edit)
    → Happens number (change_effect hashed number edit (client_of inside)) Void (client_of inside) (client_of inside) settled settled
edit_refused inside number edit (Ok done) settled is err refused = absurd (false≢true err)
edit_refused inside number edit (Err fault) settled is err refused = edit_void inside number edit fault settled is refused

-- what holds where the processor would take an edit
pub may_be_taken : {P : Type 0} (answer : Result (Unit {0}) EditFault) → is_err answer ≡ false → OnOk answer P → P
may_be_taken (Ok done) taken holds = holds
may_be_taken (Err fault) taken holds = absurd (false≢true (sym taken))
