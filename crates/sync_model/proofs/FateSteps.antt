-- What an event makes of a client's keys of a type, and which edits it settles: nothing, an edit, or a turn.
use Rattle.std.proofs.Common.{◌≡◌, ℕ, ◌+◌, ◌⊎◌, Bool, true, false, cond, List, [], ◌∷◌, Option, Some, None, refl, sym, ap, ◌∙◌, subst, inl, inr, IfSome}
use Rattle.client_tags.specs.declared.Kind.{Kind}
use Rattle.client_tags.specs.declared.Kind.TheVariants.{Nigori, Preference, Password}
use Rattle.sync_values.specs.declared.edit.Edit.{Edit as UserEdit}
use Rattle.sync_model.specs.declared.event.Event.{Event}
use Rattle.sync_model.specs.declared.event.Event.TheVariants.{Turn}
use Rattle.sync_model.specs.declared.event.EventOutcome.{EventOutcome}
use Rattle.sync_model.specs.declared.fate.Fate.{Fate}
use Rattle.sync_model.specs.declared.message.Offer.{Offer}
use Rattle.sync_model.specs.declared.message.Task.{Task}
use Rattle.sync_model.specs.Values.{same_kind}
use Rattle.sync_model.specs.Edits.{edit_kind, edit_value}
use Rattle.sync_model.specs.Settings.{Setting, decided_by}
use Rattle.sync_model.specs.KeyStates.{edited}
use Rattle.sync_model.specs.Sides.{Side, state_at, with_state, after_offers, after_task, task_notes}
use Rattle.sync_model.specs.Clients.{Client, Effect, side_of, with_side, plain_effect}
use Rattle.sync_model.specs.Changes.{edit_hash, own_at, follows}
use Rattle.sync_model.specs.Report.{is_void}
use Rattle.sync_model.specs.Worlds.{World}
use Rattle.sync_model.specs.Laws.{user_of, edit_by}
use Rattle.sync_model.proofs.Writes.{same_kind-refl}
use Rattle.sync_model.proofs.FateKeys.{fate_in}

-- a side has the same keys and the same last number
abbrev pub IsKept : Side → Side → Type 0
IsKept old new = (new.states ≡ old.states) × (new.last_edit ≡ old.last_edit)

-- a side has the same keys but for some offers that it noted, and the same last number
abbrev pub IsNoted : Side → Side → Type 0
IsNoted old new = (offers : List Offer) × (new.states ≡ after_offers old.states offers) × (new.last_edit ≡ old.last_edit)

pub kept_noted : (old new : Side) → IsKept old new → IsNoted old new
unfolding after_offers
kept_noted old new kept = ([], kept.0, kept.1)

-- an event leaves the keys of a side but for what was offered, and settles none of its edits
pub record IsQuiet (old new : Side) (noted : ℕ → Option Fate) : Type 0 where
  pub kept : IsNoted old new
  pub silent : (edit : ℕ) → noted edit ≡ None

-- an event makes an edit on a side, which may follow another one
pub record IsEditing (setting : Setting) (event : Event) (world : World) (number : ℕ) (kind : Kind) (old new : Side) (noted : ℕ → Option Fate) (outcome : EventOutcome) : Type 0 where
  pub edit : UserEdit
  pub of_kind : edit_kind edit ≡ kind
  pub user : user_of event ≡ number
  pub makes : edit_by setting world event ≡ Some edit
  pub done : is_void outcome ≡ false
  pub states : new.states ≡ with_state old.states (edit_hash setting edit)
      (edited (state_at old.states (edit_hash setting edit)) (edit_value (own_at old (edit_hash setting edit)) edit) (old.last_edit + 1))
  pub last : new.last_edit ≡ old.last_edit + 1
  pub settles : (other : ℕ) → noted other ≡ fate_in (follows (state_at old.states (edit_hash setting edit)).due (old.last_edit + 1)) other

-- an event is a turn of a side
pub record IsTurning (setting : Setting) (event : Event) (number : ℕ) (kind : Kind) (old new : Side) (noted : ℕ → Option Fate) : Type 0 where
  pub is : event ≡ Turn number kind
  pub task : Task
  pub tasks : List Task
  pub first : old.mailbox ≡ task ∷ tasks
  pub states : new.states ≡ (after_task (decided_by setting kind) (record old { mailbox = tasks }) task).states
  pub last : new.last_edit ≡ old.last_edit
  pub settles : (other : ℕ) → noted other ≡ fate_in (task_notes (decided_by setting kind) old.states task) other

-- what an event makes of a side
abbrev pub Makes : Setting → Event → World → ℕ → Kind → Side → Side → (ℕ → Option Fate) → EventOutcome → Type 0
Makes setting event world number kind old new noted outcome =
    IsQuiet old new noted ⊎ (IsEditing setting event world number kind old new noted outcome ⊎ IsTurning setting event number kind old new noted)

-- the fate that an effect gives to an edit of a type
abbrev pub noted_by : Effect → Kind → ℕ → Option Fate
noted_by effect kind edit = cond (same_kind effect.kind kind) (fate_in effect.notes edit) None

-- what an effect makes of each side of a client
abbrev pub EffectMakes : Setting → Event → World → ℕ → Client → Option Effect → Type 0
EffectMakes setting event world number client effect = IfSome effect (λ made. (kind : Kind)
    → Makes setting event world number kind (side_of client kind) (side_of made.client kind) (noted_by made kind) made.outcome)

abbrev nothing : Option Fate
nothing = None

none_noted : (same : Bool) → cond same nothing nothing ≡ nothing
none_noted true = refl
none_noted false = refl

-- all sides of a client are kept, or kept but for some offers
abbrev pub AreKept : Client → Client → Type 0
AreKept old new = (kind : Kind) → IsKept (side_of old kind) (side_of new kind)

abbrev pub AreNoted : Client → Client → Type 0
AreNoted old new = (kind : Kind) → IsNoted (side_of old kind) (side_of new kind)

pub noting_makes : (setting : Setting) (event : Event) (world : World) (number : ℕ) (client new : Client) (outcome : EventOutcome)
    → AreNoted client new → EffectMakes setting event world number client (Some (plain_effect new outcome))
noting_makes setting event world number client new outcome kept kind =
    inl record { kept = kept kind; silent = λ edit. none_noted (same_kind Nigori kind) }

pub plain_makes : (setting : Setting) (event : Event) (world : World) (number : ℕ) (client new : Client) (outcome : EventOutcome)
    → AreKept client new → EffectMakes setting event world number client (Some (plain_effect new outcome))
plain_makes setting event world number client new outcome kept =
    noting_makes setting event world number client new outcome (λ kind. kept_noted (side_of client kind) (side_of new kind) (kept kind))

-- a client with another side of a type
side_put : (client : Client) (kind other : Kind) (side : Side)
    → ((kind ≡ other) × (side_of (with_side client kind side) other ≡ side))
    ⊎ ((same_kind kind other ≡ false) × (side_of (with_side client kind side) other ≡ side_of client other))
side_put client Nigori Nigori side = inl (refl, refl)
side_put client Nigori Preference side = inr (refl, refl)
side_put client Nigori Password side = inr (refl, refl)
side_put client Preference Nigori side = inr (refl, refl)
side_put client Preference Preference side = inl (refl, refl)
side_put client Preference Password side = inr (refl, refl)
side_put client Password Nigori side = inr (refl, refl)
side_put client Password Preference side = inr (refl, refl)
side_put client Password Password side = inl (refl, refl)

-- what an event of one type makes of the sides: of another type nothing
pub makes_by : (setting : Setting) (event : Event) (world : World) (number : ℕ) (client : Client) (kind : Kind) (side : Side) (effect : Effect)
    → effect.client ≡ with_side client kind side → effect.kind ≡ kind
    → Makes setting event world number kind (side_of client kind) side (fate_in effect.notes) effect.outcome
    → (other : Kind) → Makes setting event world number other (side_of client other) (side_of effect.client other) (noted_by effect other) effect.outcome
makes_by setting event world number client kind side effect is of_kind makes other = by (side_put client kind other side)
  where
    here : (noted : ℕ → Option Fate) → ((edit : ℕ) → noted edit ≡ fate_in effect.notes edit) → (new : Side) → new ≡ side
        → Makes setting event world number kind (side_of client kind) side (fate_in effect.notes) effect.outcome
        → Makes setting event world number kind (side_of client kind) new noted effect.outcome
    here noted same new put (inl quiet) = inl record {
      kept = (
        quiet.kept.0,
        ap (λ (found : Side). found.states) put ∙ quiet.kept.1,
        ap (λ (found : Side). found.last_edit) put ∙ quiet.kept.2,
      );
      silent = λ edit. same edit ∙ quiet.silent edit;
    }
    here noted same new put (inr (inl editing)) = inr (inl record {
      edit = editing.edit;
      of_kind = editing.of_kind;
      user = editing.user;
      makes = editing.makes;
      done = editing.done;
      states = ap (λ (found : Side). found.states) put ∙ editing.states;
      last = ap (λ (found : Side). found.last_edit) put ∙ editing.last;
      settles = λ edit. same edit ∙ editing.settles edit;
    })
    here noted same new put (inr (inr turning)) = inr (inr record {
      is = turning.is;
      task = turning.task;
      tasks = turning.tasks;
      first = turning.first;
      states = ap (λ (found : Side). found.states) put ∙ turning.states;
      last = ap (λ (found : Side). found.last_edit) put ∙ turning.last;
      settles = λ edit. same edit ∙ turning.settles edit;
    })

    noted_here : (edit : ℕ) → noted_by effect kind edit ≡ fate_in effect.notes edit
    noted_here edit = ap (λ (same : Bool). cond same (fate_in effect.notes edit) None)
        (ap (λ (found : Kind). same_kind found kind) of_kind ∙ same_kind-refl kind)

    noted_there : (edit : ℕ) → same_kind kind other ≡ false → noted_by effect other edit ≡ None
    noted_there edit differs = ap (λ (same : Bool). cond same (fate_in effect.notes edit) None)
        (ap (λ (found : Kind). same_kind found other) of_kind ∙ differs)

    by : ((kind ≡ other) × (side_of (with_side client kind side) other ≡ side))
        ⊎ ((same_kind kind other ≡ false) × (side_of (with_side client kind side) other ≡ side_of client other))
        → Makes setting event world number other (side_of client other) (side_of effect.client other) (noted_by effect other) effect.outcome
    by (inl put) = subst (λ (found : Kind). Makes setting event world number found (side_of client found) (side_of effect.client found) (noted_by effect found) effect.outcome)
        put.0 (here (noted_by effect kind) noted_here (side_of effect.client kind)
        (ap (λ (found : Client). side_of found kind) is ∙ subst (λ (found : Kind). side_of (with_side client kind side) found ≡ side) (sym put.0) put.1) makes)
    by (inr put) = inl record {
      kept = kept_noted (side_of client other) (side_of effect.client other) (
        ap (λ (found : Client). (side_of found other).states) is ∙ ap (λ (found : Side). found.states) put.1,
        ap (λ (found : Client). (side_of found other).last_edit) is ∙ ap (λ (found : Side). found.last_edit) put.1,
      );
      silent = λ edit. noted_there edit put.0;
    }
