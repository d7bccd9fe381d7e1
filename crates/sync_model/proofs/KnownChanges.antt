-- What holds of a client still does after what its user does to it, and after a crash.
use Rattle.std.proofs.Common.{ℕ, Bool, true, false, cond, List, ◌∷◌, Option, Some, None, is_some, refl, le_refl}
use Rattle.client_tags.specs.declared.Kind.TheVariants.{Nigori}
use Rattle.key_derivation.specs.declared.NigoriKey.{NigoriKey}
use Rattle.sync_values.specs.declared.edit.Edit.{Edit}
use Rattle.sync_values.specs.declared.edit.Edit.TheVariants.{SetNigori}
use Rattle.sync_model.specs.declared.event.EventOutcome.{EventOutcome}
use Rattle.sync_model.specs.declared.event.EventOutcome.TheVariants.{Done}
use Rattle.sync_model.specs.declared.message.Content.{Content}
use Rattle.sync_model.specs.declared.message.Entry.{Entry}
use Rattle.sync_model.specs.Values.{same_kind}
use Rattle.sync_model.specs.Edits.{edit_kind, edit_value}
use Rattle.sync_model.specs.Settings.{Setting, with_key}
use Rattle.sync_model.specs.Sides.{side_edited}
use Rattle.sync_model.specs.Clients.{Client, Effect, side_of, plain_effect}
use Rattle.sync_model.specs.Changes.{edit_hash, own_at, edit_refusal, edit_taken, edit_effect, change_effect, cut_short, cut_effect, crash_effect, pass_value, set_pass_refusal, set_pass_effect, give_pass_refusal, give_pass_effect}
use Rattle.sync_model.specs.Facts.{ClientFacts}
use Rattle.sync_model.proofs.Longer.{ClientFacts-later}
use Rattle.sync_model.proofs.KnownSides.{edited-SideFacts}
use Rattle.sync_model.proofs.KnownClients.{with_side-ClientFacts, alike-ClientFacts, restarted-ClientFacts, EffectFacts, done_facts}

-- an edit
edit_taken-facts : (history : List (Entry Content)) (outcomes : List EventOutcome) (setting : Setting) (number : ℕ) (edit : Edit) (client : Client)
    → ClientFacts history outcomes client → EffectFacts history outcomes (Some (edit_taken setting number edit client))
edit_taken-facts history outcomes setting number edit client facts = (
  ClientFacts-later history outcomes _ _ (with_side-ClientFacts history outcomes client (edit_kind edit)
      (side_edited (side_of client (edit_kind edit)) (edit_hash setting edit) (edit_value (own_at (side_of client (edit_kind edit)) (edit_hash setting edit)) edit))
      (edited-SideFacts history (edit_kind edit) (side_of client (edit_kind edit)) (edit_hash setting edit)
      (edit_value (own_at (side_of client (edit_kind edit)) (edit_hash setting edit)) edit) (facts.sides (edit_kind edit)))
      (le_refl _) facts),
  tt,
)

edit_effect-facts : (history : List (Entry Content)) (outcomes : List EventOutcome) (setting : Setting) (number : ℕ) (edit : Edit) (client : Client)
    → ClientFacts history outcomes client → EffectFacts history outcomes (edit_effect setting number edit client)
unfolding edit_effect
edit_effect-facts history outcomes setting number edit client facts = by (is_some (edit_refusal setting client edit))
  where
    by : (refused : Bool) → EffectFacts history outcomes (cond refused None (Some (edit_taken setting number edit client)))
    by true = tt
    by false = edit_taken-facts history outcomes setting number edit client facts

pub change_effect-facts : (history : List (Entry Content)) (outcomes : List EventOutcome) (setting : Setting) (number : ℕ) (edit : Edit) (client : Client)
    → ClientFacts history outcomes client → EffectFacts history outcomes (change_effect setting number edit client)
unfolding change_effect
change_effect-facts history outcomes setting number edit client facts = by (same_kind (edit_kind edit) Nigori)
  where
    by : (refused : Bool) → EffectFacts history outcomes (cond refused None (edit_effect setting number edit client))
    by true = tt
    by false = edit_effect-facts history outcomes setting number edit client facts

-- an edit that is cut short
cut_short-facts : (history : List (Entry Content)) (outcomes : List EventOutcome) (kept : Bool) (client : Client) (effect : Option Effect)
    → ClientFacts history outcomes client → EffectFacts history outcomes effect → EffectFacts history outcomes (cut_short kept client effect)
cut_short-facts history outcomes kept client None facts made = tt
cut_short-facts history outcomes true client (Some effect) facts made =
    (restarted-ClientFacts history (effect.outcome ∷ outcomes) (Done ∷ outcomes) effect.client made.0, tt)
cut_short-facts history outcomes false client (Some effect) facts made =
    (restarted-ClientFacts history outcomes (Done ∷ outcomes) client facts, tt)

pub cut_effect-facts : (history : List (Entry Content)) (outcomes : List EventOutcome) (setting : Setting) (number : ℕ) (kept : Bool) (edit : Edit) (client : Client)
    → ClientFacts history outcomes client → EffectFacts history outcomes (cut_effect setting number kept edit client)
unfolding cut_effect
cut_effect-facts history outcomes setting number kept edit client facts =
    cut_short-facts history outcomes kept client (change_effect setting number edit client) facts
    (change_effect-facts history outcomes setting number edit client facts)

pub crash_effect-facts : (history : List (Entry Content)) (outcomes : List EventOutcome) (client : Client)
    → ClientFacts history outcomes client → EffectFacts history outcomes (crash_effect client)
unfolding crash_effect
crash_effect-facts history outcomes client facts = (restarted-ClientFacts history outcomes (Done ∷ outcomes) client facts, tt)

-- a passphrase that a user chooses
pub set_pass_effect-facts : (history : List (Entry Content)) (outcomes : List EventOutcome) (setting : Setting) (number : ℕ) (pass : List ℕ) (client : Client)
    → ClientFacts history outcomes client → EffectFacts history outcomes (set_pass_effect setting setting.pass_kind number pass client)
unfolding set_pass_effect
set_pass_effect-facts history outcomes setting number pass client facts = by (is_some (set_pass_refusal setting setting.pass_kind pass client))
  where
    by : (refused : Bool) → EffectFacts history outcomes (cond refused None (Some (edit_taken setting number (SetNigori (pass_value setting setting.pass_kind client.bag pass))
        (record client { bag = with_key setting client.bag (setting.pass_key pass) }))))
    by true = tt
    by false = edit_taken-facts history outcomes setting number (SetNigori (pass_value setting setting.pass_kind client.bag pass))
        (record client { bag = with_key setting client.bag (setting.pass_key pass) })
        (alike-ClientFacts history outcomes client _ refl refl refl facts.awaits facts.sides)

-- a passphrase that a user gives
pub give_pass_effect-facts : (history : List (Entry Content)) (outcomes : List EventOutcome) (setting : Setting) (pass : List ℕ) (client : Client)
    → ClientFacts history outcomes client → EffectFacts history outcomes (give_pass_effect setting pass client)
unfolding give_pass_effect
give_pass_effect-facts history outcomes setting pass client facts = by (is_some (give_pass_refusal setting pass client)) _
  where
    by : (refused : Bool) (bag : List NigoriKey) → EffectFacts history outcomes (cond refused None (Some (plain_effect (record client { bag = bag }) Done)))
    by true bag = tt
    by false bag = done_facts history outcomes _ (alike-ClientFacts history outcomes client _ refl refl refl facts.awaits facts.sides)
