-- What each event of a client makes of its keys of each type, and which edits it settles.
use Rattle.std.proofs.Common.{◌≡◌, ℕ, ◌++◌, Bool, true, false, cond, List, [], ◌∷◌, length, Option, Some, None, is_some, refl, sym, ap, ◌∙◌, subst, eqb, inl, inr, ◌||◌, not}
use Rattle.client_tags.specs.declared.Kind.{Kind}
use Rattle.client_tags.specs.declared.Kind.TheVariants.{Nigori, Preference, Password}
use Rattle.key_derivation.specs.declared.NigoriKey.{NigoriKey}
use Rattle.sync_values.specs.declared.edit.Edit.{Edit as UserEdit}
use Rattle.sync_values.specs.declared.edit.Edit.TheVariants.{SetNigori}
use Rattle.sync_values.specs.declared.value.Value.{Value}
use Rattle.sync_model.specs.declared.conflict.Decision.{Decision}
use Rattle.sync_model.specs.declared.event.Event.{Event}
use Rattle.sync_model.specs.declared.event.Event.TheVariants.{Cut, Turn}
use Rattle.sync_model.specs.declared.event.EventOutcome.{EventOutcome}
use Rattle.sync_model.specs.declared.event.EventOutcome.TheVariants.{Done, Requested}
use Rattle.sync_model.specs.declared.fate.Fate.{Fate}
use Rattle.sync_model.specs.declared.message.Batch.{Batch}
use Rattle.sync_model.specs.declared.message.Reply.{Reply}
use Rattle.sync_model.specs.declared.message.Request.{Request}
use Rattle.sync_model.specs.declared.message.Content.{Content}
use Rattle.sync_model.specs.declared.message.Entry.{Entry}
use Rattle.sync_model.specs.declared.message.Offer.{Offer}
use Rattle.sync_model.specs.declared.message.Task.{Task}
use Rattle.sync_model.specs.declared.message.Task.TheVariants.{Batch as Updating, Acks}
use Rattle.sync_model.specs.Values.{same_kind}
use Rattle.sync_model.specs.Edits.{edit_kind, edit_value}
use Rattle.sync_model.specs.Settings.{Setting, decided_by, with_key}
use Rattle.sync_model.specs.Sides.{Side, side_edited, side_offered, after_task, task_notes, mailed}
use Rattle.sync_model.specs.Clients.{Client, Effect, side_of, with_side, restarted, plain_effect, wanted_name, opens, bag_with, batch_mailed}
use Rattle.sync_model.specs.Changes.{edit_hash, own_at, edit_refusal, edit_taken, edit_effect, change_effect, cut_short, cut_effect, crash_effect, pass_value, set_pass_refusal, set_pass_effect, give_pass_refusal, give_pass_effect}
use Rattle.sync_model.specs.Sending.{drawing, holding, asked_offers, gathered, gathering, is_gather_void, gather_effect, ask_of, is_busy, ask_effect, commit_of, offer_effect, lose_effect}
use Rattle.sync_model.specs.Receiving.{posted, post_effect_at, post_effect, turn_effect_at, turn_effect, told, is_other_store, is_fit, answered_with, answer_effect}
use Rattle.sync_model.specs.Report.{is_void}
use Rattle.sync_model.specs.Worlds.{World}
use Rattle.sync_model.specs.Laws.{user_of, edit_by}
use Rattle.sync_model.proofs.KnownClients.{with_side_keeps}
use Rattle.sync_model.proofs.FateSteps.{IsKept, kept_noted, AreKept, AreNoted, Makes, noted_by, EffectMakes, makes_by, noting_makes, plain_makes}

-- an edit
edit_taken-makes : (setting : Setting) (event : Event) (world : World) (number : ℕ) (edit : UserEdit) (client : Client)
    → user_of event ≡ number → edit_by setting world event ≡ Some edit
    → EffectMakes setting event world number client (Some (edit_taken setting number edit client))
edit_taken-makes setting event world number edit client user makes =
    makes_by setting event world number client (edit_kind edit) (side_edited (side_of client (edit_kind edit)) (edit_hash setting edit)
    (edit_value (own_at (side_of client (edit_kind edit)) (edit_hash setting edit)) edit))
    (edit_taken setting number edit client) refl refl (inr (inl record {
      edit = edit;
      of_kind = refl;
      user = user;
      makes = makes;
      done = refl;
      states = refl;
      last = refl;
      settles = λ other. refl;
    }))

pub change_effect-makes : (setting : Setting) (event : Event) (world : World) (number : ℕ) (edit : UserEdit) (client : Client)
    → user_of event ≡ number → edit_by setting world event ≡ Some edit
    → EffectMakes setting event world number client (change_effect setting number edit client)
unfolding change_effect edit_effect
change_effect-makes setting event world number edit client user makes =
    by (same_kind (edit_kind edit) Nigori) (is_some (edit_refusal setting client edit))
  where
    by : (nigori refused : Bool) → EffectMakes setting event world number client
        (cond nigori None (cond refused None (Some (edit_taken setting number edit client))))
    by true refused = tt
    by false true = tt
    by false false = edit_taken-makes setting event world number edit client user makes

-- what is kept further on
then_kept : (setting : Setting) (event : Event) (world : World) (number : ℕ) (kind : Kind) (old new next : Side) (noted : ℕ → Option Fate) (outcome later : EventOutcome)
    → IsKept new next → is_void later ≡ false → Makes setting event world number kind old new noted outcome
    → Makes setting event world number kind old next noted later
then_kept setting event world number kind old new next noted outcome later kept done (inl quiet) =
    inl record { kept = (quiet.kept.0, kept.0 ∙ quiet.kept.1, kept.1 ∙ quiet.kept.2); silent = quiet.silent }
then_kept setting event world number kind old new next noted outcome later kept done (inr (inl editing)) = inr (inl record {
  edit = editing.edit;
  of_kind = editing.of_kind;
  user = editing.user;
  makes = editing.makes;
  done = done;
  states = kept.0 ∙ editing.states;
  last = kept.1 ∙ editing.last;
  settles = editing.settles;
})
then_kept setting event world number kind old new next noted outcome later kept done (inr (inr turning)) = inr (inr record {
  is = turning.is;
  task = turning.task;
  tasks = turning.tasks;
  first = turning.first;
  states = kept.0 ∙ turning.states;
  last = kept.1 ∙ turning.last;
  settles = turning.settles;
})

pub restarted_kept : (client : Client) → AreKept client (restarted client)
restarted_kept client Nigori = (refl, refl)
restarted_kept client Preference = (refl, refl)
restarted_kept client Password = (refl, refl)

-- an edit that is cut short, kept or lost
cut_kept-makes : (setting : Setting) (event : Event) (world : World) (number : ℕ) (client : Client) (effect : Option Effect)
    → EffectMakes setting event world number client effect → EffectMakes setting event world number client (cut_short true client effect)
cut_kept-makes setting event world number client None made = tt
cut_kept-makes setting event world number client (Some effect) made = λ kind.
    then_kept setting event world number kind (side_of client kind) (side_of effect.client kind) (side_of (restarted effect.client) kind)
    (noted_by effect kind) effect.outcome Done (restarted_kept effect.client kind) refl (made kind)

cut_lost-makes : (setting : Setting) (event : Event) (world : World) (number : ℕ) (client : Client) (effect : Option Effect)
    → EffectMakes setting event world number client (cut_short false client effect)
cut_lost-makes setting event world number client None = tt
cut_lost-makes setting event world number client (Some effect) =
    plain_makes setting event world number client (restarted client) Done (restarted_kept client)

pub cut_effect-makes : (setting : Setting) (world : World) (number : ℕ) (kept : Bool) (edit : UserEdit) (client : Client)
    → EffectMakes setting (Cut number kept edit) world number client (cut_effect setting number kept edit client)
unfolding cut_effect
cut_effect-makes setting world number true edit client =
    cut_kept-makes setting (Cut number true edit) world number client (change_effect setting number edit client)
    (change_effect-makes setting (Cut number true edit) world number edit client refl refl)
cut_effect-makes setting world number false edit client =
    cut_lost-makes setting (Cut number false edit) world number client (change_effect setting number edit client)

pub crash_effect-makes : (setting : Setting) (event : Event) (world : World) (number : ℕ) (client : Client)
    → EffectMakes setting event world number client (crash_effect client)
unfolding crash_effect
crash_effect-makes setting event world number client =
    plain_makes setting event world number client (restarted client) Done (restarted_kept client)

-- clients with the same sides
alike_kept : (old new : Client) → new.nigori ≡ old.nigori → new.preference ≡ old.preference → new.password ≡ old.password → AreKept old new
alike_kept old new nigori preference password Nigori = (ap (λ (side : Side). side.states) nigori, ap (λ (side : Side). side.last_edit) nigori)
alike_kept old new nigori preference password Preference = (ap (λ (side : Side). side.states) preference, ap (λ (side : Side). side.last_edit) preference)
alike_kept old new nigori preference password Password = (ap (λ (side : Side). side.states) password, ap (λ (side : Side). side.last_edit) password)

-- what is made of a client's sides is made of those of one that differs in its bag
bag_makes : (setting : Setting) (event : Event) (world : World) (number : ℕ) (client : Client) (bag : List NigoriKey) (effect : Option Effect)
    → EffectMakes setting event world number (record client { bag = bag }) effect → EffectMakes setting event world number client effect
bag_makes setting event world number client bag None made = tt
bag_makes setting event world number client bag (Some effect) made = by
  where
    by : (kind : Kind) → Makes setting event world number kind (side_of client kind) (side_of effect.client kind) (noted_by effect kind) effect.outcome
    by Nigori = made Nigori
    by Preference = made Preference
    by Password = made Password

-- passphrases
pub set_pass_effect-makes : (setting : Setting) (event : Event) (world : World) (number : ℕ) (pass : List ℕ) (client : Client)
    → user_of event ≡ number → edit_by setting world event ≡ Some (SetNigori (pass_value setting setting.pass_kind client.bag pass))
    → EffectMakes setting event world number client (set_pass_effect setting setting.pass_kind number pass client)
unfolding set_pass_effect
set_pass_effect-makes setting event world number pass client user makes = by (is_some (set_pass_refusal setting setting.pass_kind pass client))
  where
    by : (refused : Bool) → EffectMakes setting event world number client (cond refused None (Some (edit_taken setting number (SetNigori (pass_value setting setting.pass_kind client.bag pass))
        (record client { bag = with_key setting client.bag (setting.pass_key pass) }))))
    by true = tt
    by false = bag_makes setting event world number client (with_key setting client.bag (setting.pass_key pass)) (Some (edit_taken setting number (SetNigori (pass_value setting setting.pass_kind client.bag pass))
        (record client { bag = with_key setting client.bag (setting.pass_key pass) })))
        (edit_taken-makes setting event world number (SetNigori (pass_value setting setting.pass_kind client.bag pass))
        (record client { bag = with_key setting client.bag (setting.pass_key pass) }) user makes)

pub give_pass_effect-makes : (setting : Setting) (event : Event) (world : World) (number : ℕ) (pass : List ℕ) (client : Client)
    → EffectMakes setting event world number client (give_pass_effect setting pass client)
unfolding give_pass_effect
give_pass_effect-makes setting event world number pass client = by (is_some (give_pass_refusal setting pass client)) _
  where
    by : (refused : Bool) (bag : List NigoriKey) → EffectMakes setting event world number client (cond refused None (Some (plain_effect (record client { bag = bag }) Done)))
    by true bag = tt
    by false bag = plain_makes setting event world number client (record client { bag = bag }) Done (alike_kept client (record client { bag = bag }) refl refl refl)

-- a client with a side that is kept
side_kept : (client : Client) (kind : Kind) (side : Side) → IsKept (side_of client kind) side → AreKept client (with_side client kind side)
side_kept client kind side kept = with_side_keeps (λ other. IsKept (side_of client other)) client kind side kept (λ other. (refl, refl))

with_bag_kept : (old client : Client) (bag : List NigoriKey) → AreKept old client → AreKept old (record client { bag = bag })
with_bag_kept old client bag kept Nigori = kept Nigori
with_bag_kept old client bag kept Preference = kept Preference
with_bag_kept old client bag kept Password = kept Password

-- a batch that is mailed, and a gather
mailing_kept : (setting : Setting) (number : ℕ) (kind : Kind) (client : Client) (batch : Batch) → AreKept client (gathering setting number kind client (Some batch))
mailing_kept setting number kind client batch = by (opens setting client.bag batch)
  where
    by : (opened : Bool) → AreKept client (cond opened (batch_mailed setting client kind (side_of client kind) batch) client)
    by true = with_bag_kept client (with_side client kind (mailed (side_of client kind) batch)) (bag_with setting client.bag batch.updates)
        (side_kept client kind (mailed (side_of client kind) batch) (refl, refl))
    by false = λ kind. (refl, refl)

-- the sides of a client that holds more, and whose side of a type notes some offers
holding_noted : (client : Client) (held : List (Entry Content)) (drawn : ℕ) (kind : Kind) (offers : List Offer)
    → AreNoted client (with_side (record client { held = held; drawn = drawn }) kind (side_offered (side_of client kind) offers))
holding_noted client held drawn Nigori offers Nigori = (offers, refl, refl)
holding_noted client held drawn Nigori offers Preference = kept_noted client.preference client.preference (refl, refl)
holding_noted client held drawn Nigori offers Password = kept_noted client.password client.password (refl, refl)
holding_noted client held drawn Preference offers Nigori = kept_noted client.nigori client.nigori (refl, refl)
holding_noted client held drawn Preference offers Preference = (offers, refl, refl)
holding_noted client held drawn Preference offers Password = kept_noted client.password client.password (refl, refl)
holding_noted client held drawn Password offers Nigori = kept_noted client.nigori client.nigori (refl, refl)
holding_noted client held drawn Password offers Preference = kept_noted client.preference client.preference (refl, refl)
holding_noted client held drawn Password offers Password = (offers, refl, refl)

-- a client that holds more has the same sides
side_of-held : (client : Client) (held : List (Entry Content)) (drawn : ℕ) (kind : Kind) → side_of (record client { held = held; drawn = drawn }) kind ≡ side_of client kind
side_of-held client held drawn Nigori = refl
side_of-held client held drawn Preference = refl
side_of-held client held drawn Password = refl

gathering_noted : (setting : Setting) (number : ℕ) (kind : Kind) (client : Client) (pending : Option Batch) → AreNoted client (gathering setting number kind client pending)
gathering_noted setting number kind client (Some batch) = λ other.
    kept_noted (side_of client other) (side_of (gathering setting number kind client (Some batch)) other) (mailing_kept setting number kind client batch other)
gathering_noted setting number kind client None =
    let holds : Client = holding (drawing setting number client) kind (wanted_name setting client kind) (gathered setting kind client) client
    in subst (λ (side : Side). AreNoted client (with_side holds kind (side_offered side (asked_offers setting kind client))))
    (sym (side_of-held client holds.held holds.drawn kind)) (holding_noted client holds.held holds.drawn kind (asked_offers setting kind client))

pub gather_effect-makes : (setting : Setting) (event : Event) (world : World) (number : ℕ) (kind : Kind) (client : Client)
    → EffectMakes setting event world number client (gather_effect setting number kind client)
unfolding gather_effect
gather_effect-makes setting event world number kind client = by (is_gather_void kind client)
  where
    by : (void : Bool) → EffectMakes setting event world number client (cond void None (Some (plain_effect (gathering setting number kind client (side_of client kind).pending) Done)))
    by true = tt
    by false = noting_makes setting event world number client (gathering setting number kind client (side_of client kind).pending) Done (gathering_noted setting number kind client (side_of client kind).pending)

-- requests
pub ask_effect-makes : (setting : Setting) (event : Event) (world : World) (number next : ℕ) (client : Client)
    → EffectMakes setting event world number client (ask_effect number next client)
unfolding ask_effect
ask_effect-makes setting event world number next client = by (is_busy client)
  where
    by : (busy : Bool) → EffectMakes setting event world number client (cond busy None (Some (plain_effect (record client { outstanding = Some next }) (Requested number (ask_of client)))))
    by true = tt
    by false = plain_makes setting event world number client (record client { outstanding = Some next }) (Requested number (ask_of client)) (alike_kept client (record client { outstanding = Some next }) refl refl refl)

pub offer_effect-makes : (setting : Setting) (event : Event) (world : World) (number next : ℕ) (client : Client)
    → EffectMakes setting event world number client (offer_effect number next client)
unfolding offer_effect
offer_effect-makes setting event world number next client = by (is_busy client || eqb (length client.held) 0)
  where
    by : (busy : Bool) → EffectMakes setting event world number client (cond busy None (Some (plain_effect (record client { held = []; outstanding = Some next }) (Requested number (commit_of client)))))
    by true = tt
    by false = plain_makes setting event world number client (record client { held = []; outstanding = Some next }) (Requested number (commit_of client)) (alike_kept client (record client { held = []; outstanding = Some next }) refl refl refl)

pub lose_effect-makes : (setting : Setting) (event : Event) (world : World) (number : ℕ) (client : Client)
    → EffectMakes setting event world number client (lose_effect client)
unfolding lose_effect
lose_effect-makes setting event world number client = by (is_some client.outstanding)
  where
    by : (waits : Bool) → EffectMakes setting event world number client (cond waits (Some (plain_effect (record client { outstanding = None }) Done)) None)
    by true = plain_makes setting event world number client (record client { outstanding = None }) Done (alike_kept client (record client { outstanding = None }) refl refl refl)
    by false = tt

-- a letter is posted
posted_kept : (setting : Setting) (client : Client) (kind : Kind) (task : Task) → AreKept client (posted setting client kind (side_of client kind) task)
posted_kept setting client kind (Acks acks) =
    side_kept client kind (record (side_of client kind) { mailbox = (side_of client kind).mailbox ++ Acks acks ∷ []; letter = None }) (refl, refl)
posted_kept setting client kind (Updating batch) = by (opens setting client.bag batch)
  where
    by : (opened : Bool) → AreKept client (cond opened (batch_mailed setting client kind (record (side_of client kind) { letter = None }) batch)
        (with_side client kind (record (side_of client kind) { pending = Some batch; letter = None })))
    by true = with_bag_kept client (with_side client kind (mailed (record (side_of client kind) { letter = None }) batch)) (bag_with setting client.bag batch.updates)
        (side_kept client kind (mailed (record (side_of client kind) { letter = None }) batch) (refl, refl))
    by false = side_kept client kind (record (side_of client kind) { pending = Some batch; letter = None }) (refl, refl)

pub post_effect-makes : (setting : Setting) (event : Event) (world : World) (number : ℕ) (kind : Kind) (client : Client)
    → EffectMakes setting event world number client (post_effect setting kind client)
unfolding post_effect
post_effect-makes setting event world number kind client = by (side_of client kind).letter
  where
    by : (letter : Option Task) → EffectMakes setting event world number client (post_effect_at setting client kind (side_of client kind) letter)
    by None = tt
    by (Some task) = plain_makes setting event world number client (posted setting client kind (side_of client kind) task) Done (posted_kept setting client kind task)

-- a turn
turned_last : (decided : Value → Value → Decision) (side : Side) (task : Task) → (after_task decided side task).last_edit ≡ side.last_edit
unfolding after_task
turned_last decided side (Updating batch) = refl
turned_last decided side (Acks acks) = refl

turn_effect_at-makes : (setting : Setting) (world : World) (number : ℕ) (kind : Kind) (client : Client) (tasks : List Task)
    → (side_of client kind).mailbox ≡ tasks → EffectMakes setting (Turn number kind) world number client (turn_effect_at setting client kind (side_of client kind) tasks)
turn_effect_at-makes setting world number kind client [] is = tt
turn_effect_at-makes setting world number kind client (task ∷ tasks) is =
    makes_by setting (Turn number kind) world number client kind
    (after_task (decided_by setting kind) (record (side_of client kind) { mailbox = tasks }) task)
    record {
      client = with_side client kind (after_task (decided_by setting kind) (record (side_of client kind) { mailbox = tasks }) task);
      outcome = Done;
      kind = kind;
      notes = task_notes (decided_by setting kind) (side_of client kind).states task;
    } refl refl (inr (inr record {
      is = refl;
      task = task;
      tasks = tasks;
      first = is;
      states = refl;
      last = turned_last (decided_by setting kind) (record (side_of client kind) { mailbox = tasks }) task;
      settles = λ other. refl;
    }))

pub turn_effect-makes : (setting : Setting) (world : World) (number : ℕ) (kind : Kind) (client : Client)
    → EffectMakes setting (Turn number kind) world number client (turn_effect setting kind client)
unfolding turn_effect
turn_effect-makes setting world number kind client = turn_effect_at-makes setting world number kind client (side_of client kind).mailbox refl

-- a reply
told_kept : (request : Request Content) (reply : Reply Content) (client : Client) → AreKept client (told request.call reply client)
told_kept request reply client Nigori = (refl, refl)
told_kept request reply client Preference = (refl, refl)
told_kept request reply client Password = (refl, refl)

pub answer_effect-makes : (setting : Setting) (event : Event) (world : World) (number : ℕ) (request : Request Content) (reply : Reply Content) (client : Client)
    → EffectMakes setting event world number client (answer_effect request reply client)
unfolding answer_effect
answer_effect-makes setting event world number request reply client =
    plain_makes setting event world number client (answered_with request reply client) Done (by (is_other_store client.birthday reply.birthday || not (is_fit request.call reply.verdict)))
  where
    by : (ended : Bool) → AreKept client (cond ended (record client { outstanding = None }) (told request.call reply client))
    by true = alike_kept client (record client { outstanding = None }) refl refl refl
    by false = told_kept request reply client
