-- What is said of all that is on its way from and to a client still is after each event of that client.
use Rattle.std.proofs.Common.{◌≡◌, ℕ, ◌+◌, Bool, true, false, cond, List, [], ◌∷◌, length, Option, Some, None, is_some, refl, sym, subst, eqb, IfSome, ◌||◌}
use Rattle.std.specs.List.{AllByRecursion}
use Rattle.client_tags.specs.declared.Kind.{Kind}
use Rattle.client_tags.specs.declared.Kind.TheVariants.{Nigori}
use Rattle.key_derivation.specs.declared.NigoriKey.{NigoriKey}
use Rattle.sync_values.specs.declared.edit.Edit.{Edit}
use Rattle.sync_values.specs.declared.edit.Edit.TheVariants.{SetNigori}
use Rattle.sync_model.specs.declared.event.EventOutcome.{EventOutcome}
use Rattle.sync_model.specs.declared.event.EventOutcome.TheVariants.{Done, Requested}
use Rattle.sync_model.specs.declared.message.Batch.{Batch}
use Rattle.sync_model.specs.declared.message.Content.{Content}
use Rattle.sync_model.specs.declared.message.Request.{Request}
use Rattle.sync_model.specs.declared.message.Task.{Task}
use Rattle.sync_model.specs.declared.message.Task.TheVariants.{Batch as Updating, Acks}
use Rattle.sync_model.specs.Values.{same_kind}
use Rattle.sync_model.specs.Edits.{edit_kind, edit_value}
use Rattle.sync_model.specs.Settings.{Setting, decided_by, with_key}
use Rattle.sync_model.specs.Sides.{Side, side_edited, side_offered, mailed}
use Rattle.sync_model.specs.Clients.{Client, Effect, side_of, with_side, plain_effect, opens, batch_mailed, wanted_name}
use Rattle.sync_model.specs.Changes.{edit_hash, own_at, edit_refusal, edit_taken, edit_effect, change_effect, cut_short, cut_effect, crash_effect, pass_value, set_pass_refusal, set_pass_effect, give_pass_refusal, give_pass_effect}
use Rattle.sync_model.specs.Sending.{drawing, sealed, asked_offers, holding, gathered, gathering, is_gather_void, gather_effect, ask_of, is_busy, ask_effect, commit_of, offer_effect, lose_effect}
use Rattle.sync_model.specs.Receiving.{posted, post_effect_at, post_effect, turn_effect_at, turn_effect}
use Rattle.sync_model.specs.Worlds.{outcome_at}
use Rattle.sync_model.specs.FateFacts.{Saying, IsSaidOfEntry, IsSaidOfCall, AreOfDistinctKeys, IsSaidOfTask, IsSaidOfSide, IsSaidOfClient}
use Rattle.sync_model.proofs.KnownSending.{outcome_at-next}
use Rattle.sync_model.proofs.TrueAcks.{all_append}
use Rattle.sync_model.proofs.FateKeys.{Each}
use Rattle.sync_model.proofs.FateOffers.{IsSaidOfKey, gathered_said, sealed_said}
use Rattle.sync_model.proofs.FateWays.{client-later, with_side-said, alike-said, restarted-said, mailed-said, acks-said, turned-said, IsSaidOfEffect, done_said}

-- an edit
edit_taken-said : (Says : ℕ → Saying) (number : ℕ) (outcomes : List EventOutcome) (setting : Setting) (edit : Edit) (client : Client)
    → IsSaidOfClient (Says number) number outcomes client → IsSaidOfEffect Says number outcomes (Some (edit_taken setting number edit client))
edit_taken-said Says number outcomes setting edit client said = (
  client-later (Says number) number outcomes _ _ (with_side-said (Says number) number outcomes client (edit_kind edit)
      (side_edited (side_of client (edit_kind edit)) (edit_hash setting edit) (edit_value (own_at (side_of client (edit_kind edit)) (edit_hash setting edit)) edit))
      record { mailbox = (said.sides (edit_kind edit)).mailbox; pending = (said.sides (edit_kind edit)).pending; letter = (said.sides (edit_kind edit)).letter }
      said),
  tt,
)

edit_effect-said : (Says : ℕ → Saying) (number : ℕ) (outcomes : List EventOutcome) (setting : Setting) (edit : Edit) (client : Client)
    → IsSaidOfClient (Says number) number outcomes client → IsSaidOfEffect Says number outcomes (edit_effect setting number edit client)
unfolding edit_effect
edit_effect-said Says number outcomes setting edit client said = by (is_some (edit_refusal setting client edit))
  where
    by : (refused : Bool) → IsSaidOfEffect Says number outcomes (cond refused None (Some (edit_taken setting number edit client)))
    by true = tt
    by false = edit_taken-said Says number outcomes setting edit client said

pub change_effect-said : (Says : ℕ → Saying) (number : ℕ) (outcomes : List EventOutcome) (setting : Setting) (edit : Edit) (client : Client)
    → IsSaidOfClient (Says number) number outcomes client → IsSaidOfEffect Says number outcomes (change_effect setting number edit client)
unfolding change_effect
change_effect-said Says number outcomes setting edit client said = by (same_kind (edit_kind edit) Nigori)
  where
    by : (refused : Bool) → IsSaidOfEffect Says number outcomes (cond refused None (edit_effect setting number edit client))
    by true = tt
    by false = edit_effect-said Says number outcomes setting edit client said

-- an edit that is cut short, and a crash
cut_short-said : (Says : ℕ → Saying) (number : ℕ) (outcomes : List EventOutcome) (kept : Bool) (client : Client) (effect : Option Effect)
    → IsSaidOfEffect Says number outcomes (cut_short kept client effect)
cut_short-said Says number outcomes kept client None = tt
cut_short-said Says number outcomes true client (Some effect) = (restarted-said (Says number) number (Done ∷ outcomes) effect.client, tt)
cut_short-said Says number outcomes false client (Some effect) = (restarted-said (Says number) number (Done ∷ outcomes) client, tt)

pub cut_effect-said : (Says : ℕ → Saying) (number : ℕ) (outcomes : List EventOutcome) (setting : Setting) (kept : Bool) (edit : Edit) (client : Client)
    → IsSaidOfEffect Says number outcomes (cut_effect setting number kept edit client)
unfolding cut_effect
cut_effect-said Says number outcomes setting kept edit client =
    cut_short-said Says number outcomes kept client (change_effect setting number edit client)

pub crash_effect-said : (Says : ℕ → Saying) (number : ℕ) (outcomes : List EventOutcome) (client : Client)
    → IsSaidOfEffect Says number outcomes (crash_effect client)
unfolding crash_effect
crash_effect-said Says number outcomes client = (restarted-said (Says number) number (Done ∷ outcomes) client, tt)

-- passphrases
pub set_pass_effect-said : (Says : ℕ → Saying) (number : ℕ) (outcomes : List EventOutcome) (setting : Setting) (pass : List ℕ) (client : Client)
    → IsSaidOfClient (Says number) number outcomes client → IsSaidOfEffect Says number outcomes (set_pass_effect setting setting.pass_kind number pass client)
unfolding set_pass_effect
set_pass_effect-said Says number outcomes setting pass client said = by (is_some (set_pass_refusal setting setting.pass_kind pass client))
  where
    by : (refused : Bool) → IsSaidOfEffect Says number outcomes (cond refused None (Some (edit_taken setting number (SetNigori (pass_value setting setting.pass_kind client.bag pass))
        (record client { bag = with_key setting client.bag (setting.pass_key pass) }))))
    by true = tt
    by false = edit_taken-said Says number outcomes setting (SetNigori (pass_value setting setting.pass_kind client.bag pass))
        (record client { bag = with_key setting client.bag (setting.pass_key pass) })
        (alike-said (Says number) number outcomes client _ refl refl refl said.held said.awaits said.sides)

pub give_pass_effect-said : (Says : ℕ → Saying) (number : ℕ) (outcomes : List EventOutcome) (setting : Setting) (pass : List ℕ) (client : Client)
    → IsSaidOfClient (Says number) number outcomes client → IsSaidOfEffect Says number outcomes (give_pass_effect setting pass client)
unfolding give_pass_effect
give_pass_effect-said Says number outcomes setting pass client said = by (is_some (give_pass_refusal setting pass client)) _
  where
    by : (refused : Bool) (bag : List NigoriKey) → IsSaidOfEffect Says number outcomes (cond refused None (Some (plain_effect (record client { bag = bag }) Done)))
    by true bag = tt
    by false bag = done_said Says number outcomes _ (alike-said (Says number) number outcomes client _ refl refl refl said.held said.awaits said.sides)

-- a batch that a client puts into a mailbox
batch_mailed-said : (Says : Saying) (number : ℕ) (outcomes : List EventOutcome) (setting : Setting) (client : Client) (kind : Kind) (side : Side) (batch : Batch)
    → IsSaidOfSide Says number outcomes kind side → AreOfDistinctKeys batch.updates → IsSaidOfClient Says number outcomes client
    → IsSaidOfClient Says number outcomes (batch_mailed setting client kind side batch)
batch_mailed-said Says number outcomes setting client kind side batch is distinct said =
    let mailed_said : IsSaidOfClient Says number outcomes (with_side client kind (mailed side batch))
    = with_side-said Says number outcomes client kind (mailed side batch) (mailed-said Says number outcomes kind side batch distinct is) said in
    alike-said Says number outcomes (with_side client kind (mailed side batch)) _ refl refl refl mailed_said.held mailed_said.awaits mailed_said.sides

-- a gather
gathering-said : (Says : Saying) (number : ℕ) (outcomes : List EventOutcome) (setting : Setting) (kind : Kind) (client : Client) (pending : Option Batch)
    → IfSome pending (λ batch. AreOfDistinctKeys batch.updates) → Each (λ hash. IsSaidOfKey Says kind) (side_of client kind).states
    → IsSaidOfClient Says number outcomes client → IsSaidOfClient Says number outcomes (gathering setting number kind client pending)
gathering-said Says number outcomes setting kind client (Some batch) distinct keys said = by (opens setting client.bag batch)
  where
    by : (opened : Bool) → IsSaidOfClient Says number outcomes (cond opened (batch_mailed setting client kind (side_of client kind) batch) client)
    by true = batch_mailed-said Says number outcomes setting client kind (side_of client kind) batch (said.sides kind) distinct said
    by false = said
gathering-said Says number outcomes setting kind client None distinct keys said =
    let holds : Client = holding (drawing setting number client) kind (wanted_name setting client kind) (gathered setting kind client) client
    in let held : IsSaidOfClient Says number outcomes holds = alike-said Says number outcomes client holds refl refl refl
    (all_append (IsSaidOfEntry Says) client.held (sealed (drawing setting number client) kind (wanted_name setting client kind) client.drawn (gathered setting kind client)) said.held
    (sealed_said Says (drawing setting number client) kind (wanted_name setting client kind) client.drawn (gathered setting kind client) (gathered_said Says setting kind client keys)))
    said.awaits said.sides
    in with_side-said Says number outcomes holds kind (side_offered (side_of holds kind) (asked_offers setting kind client))
    record { mailbox = (held.sides kind).mailbox; pending = (held.sides kind).pending; letter = (held.sides kind).letter } held

pub gather_effect-said : (Says : ℕ → Saying) (number : ℕ) (outcomes : List EventOutcome) (setting : Setting) (kind : Kind) (client : Client)
    → Each (λ hash. IsSaidOfKey (Says number) kind) (side_of client kind).states
    → IsSaidOfClient (Says number) number outcomes client → IsSaidOfEffect Says number outcomes (gather_effect setting number kind client)
unfolding gather_effect
gather_effect-said Says number outcomes setting kind client keys said = by (is_gather_void kind client)
  where
    by : (void : Bool) → IsSaidOfEffect Says number outcomes (cond void None (Some (plain_effect (gathering setting number kind client (side_of client kind).pending) Done)))
    by true = tt
    by false = done_said Says number outcomes _ (gathering-said (Says number) number outcomes setting kind client (side_of client kind).pending
        (said.sides kind).pending keys said)

-- a request
requested-said : (Says : ℕ → Saying) (number : ℕ) (outcomes : List EventOutcome) (old new : Client) (request : Request Content)
    → new.nigori ≡ old.nigori → new.preference ≡ old.preference → new.password ≡ old.password → new.outstanding ≡ Some (length outcomes + 1)
    → AllByRecursion (IsSaidOfEntry (Says number)) new.held → IsSaidOfCall (Says number) request.call
    → IsSaidOfClient (Says number) number outcomes old → IsSaidOfEffect Says number outcomes (Some (plain_effect new (Requested number request)))
requested-said Says number outcomes old new request nigori preference password outstanding held call said = (
  alike-said (Says number) number (Requested number request ∷ outcomes) old new nigori preference password held
      (subst (λ (event : Option ℕ). IfSome event (λ event. (made : Request Content) × (outcome_at (Requested number request ∷ outcomes) event ≡ Requested number made)))
      (sym outstanding) (request, outcome_at-next outcomes (Requested number request)))
      (client-later (Says number) number outcomes (Requested number request) old said).sides,
  call,
)

pub ask_effect-said : (Says : ℕ → Saying) (number : ℕ) (outcomes : List EventOutcome) (client : Client)
    → IsSaidOfClient (Says number) number outcomes client → IsSaidOfEffect Says number outcomes (ask_effect number (length outcomes + 1) client)
unfolding ask_effect
ask_effect-said Says number outcomes client said = by (is_busy client)
  where
    by : (busy : Bool) → IsSaidOfEffect Says number outcomes (cond busy None (Some (plain_effect (record client { outstanding = Some (length outcomes + 1) }) (Requested number (ask_of client)))))
    by true = tt
    by false = requested-said Says number outcomes client _ (ask_of client) refl refl refl refl said.held tt said

pub offer_effect-said : (Says : ℕ → Saying) (number : ℕ) (outcomes : List EventOutcome) (client : Client)
    → IsSaidOfClient (Says number) number outcomes client → IsSaidOfEffect Says number outcomes (offer_effect number (length outcomes + 1) client)
unfolding offer_effect
offer_effect-said Says number outcomes client said = by (is_busy client || eqb (length client.held) 0)
  where
    by : (busy : Bool) → IsSaidOfEffect Says number outcomes (cond busy None (Some (plain_effect (record client { held = []; outstanding = Some (length outcomes + 1) }) (Requested number (commit_of client)))))
    by true = tt
    by false = requested-said Says number outcomes client _ (commit_of client) refl refl refl refl tt said.held said

pub lose_effect-said : (Says : ℕ → Saying) (number : ℕ) (outcomes : List EventOutcome) (client : Client)
    → IsSaidOfClient (Says number) number outcomes client → IsSaidOfEffect Says number outcomes (lose_effect client)
unfolding lose_effect
lose_effect-said Says number outcomes client said = by (is_some client.outstanding)
  where
    by : (waits : Bool) → IsSaidOfEffect Says number outcomes (cond waits (Some (plain_effect (record client { outstanding = None }) Done)) None)
    by true = done_said Says number outcomes _ (alike-said (Says number) number outcomes client _ refl refl refl said.held tt said.sides)
    by false = tt

-- a letter is posted
posted-said : (Says : Saying) (number : ℕ) (outcomes : List EventOutcome) (setting : Setting) (client : Client) (kind : Kind) (task : Task)
    → IsSaidOfTask Says kind number outcomes task → IsSaidOfClient Says number outcomes client
    → IsSaidOfClient Says number outcomes (posted setting client kind (side_of client kind) task)
posted-said Says number outcomes setting client kind (Acks acks) all said =
    with_side-said Says number outcomes client kind _ (acks-said Says number outcomes kind (side_of client kind) acks all (said.sides kind)) said
posted-said Says number outcomes setting client kind (Updating batch) distinct said = by (opens setting client.bag batch)
  where
    by : (opened : Bool) → IsSaidOfClient Says number outcomes (cond opened (batch_mailed setting client kind (record (side_of client kind) { letter = None }) batch)
        (with_side client kind (record (side_of client kind) { pending = Some batch; letter = None })))
    by true = batch_mailed-said Says number outcomes setting client kind _ batch
        record { mailbox = (said.sides kind).mailbox; pending = (said.sides kind).pending; letter = tt } distinct said
    by false = with_side-said Says number outcomes client kind _
        record { mailbox = (said.sides kind).mailbox; pending = distinct; letter = tt } said

post_effect_at-said : (Says : ℕ → Saying) (number : ℕ) (outcomes : List EventOutcome) (setting : Setting) (client : Client) (kind : Kind) (letter : Option Task)
    → IfSome letter (IsSaidOfTask (Says number) kind number outcomes) → IsSaidOfClient (Says number) number outcomes client
    → IsSaidOfEffect Says number outcomes (post_effect_at setting client kind (side_of client kind) letter)
post_effect_at-said Says number outcomes setting client kind None is said = tt
post_effect_at-said Says number outcomes setting client kind (Some task) is said =
    done_said Says number outcomes _ (posted-said (Says number) number outcomes setting client kind task is said)

pub post_effect-said : (Says : ℕ → Saying) (number : ℕ) (outcomes : List EventOutcome) (setting : Setting) (kind : Kind) (client : Client)
    → IsSaidOfClient (Says number) number outcomes client → IsSaidOfEffect Says number outcomes (post_effect setting kind client)
unfolding post_effect
post_effect-said Says number outcomes setting kind client said =
    post_effect_at-said Says number outcomes setting client kind (side_of client kind).letter (said.sides kind).letter said

-- a turn
turn_effect_at-said : (Says : ℕ → Saying) (number : ℕ) (outcomes : List EventOutcome) (setting : Setting) (client : Client) (kind : Kind) (tasks : List Task)
    → (side_of client kind).mailbox ≡ tasks → IsSaidOfClient (Says number) number outcomes client
    → IsSaidOfEffect Says number outcomes (turn_effect_at setting client kind (side_of client kind) tasks)
turn_effect_at-said Says number outcomes setting client kind [] is said = tt
turn_effect_at-said Says number outcomes setting client kind (task ∷ tasks) is said = (
  client-later (Says number) number outcomes Done _ (with_side-said (Says number) number outcomes client kind _
      (turned-said (decided_by setting kind) (Says number) number outcomes kind (side_of client kind) task tasks is (said.sides kind)) said),
  tt,
)

pub turn_effect-said : (Says : ℕ → Saying) (number : ℕ) (outcomes : List EventOutcome) (setting : Setting) (kind : Kind) (client : Client)
    → IsSaidOfClient (Says number) number outcomes client → IsSaidOfEffect Says number outcomes (turn_effect setting kind client)
unfolding turn_effect
turn_effect-said Says number outcomes setting kind client said =
    turn_effect_at-said Says number outcomes setting client kind (side_of client kind).mailbox refl said
