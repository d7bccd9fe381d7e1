-- What holds of a client still does after a reply reaches it, a letter is posted, and a turn is taken.
use Rattle.std.proofs.Common.{◌≡◌, ℕ, ◌≤◌, Bool, true, false, cond, List, [], ◌∷◌, Option, Some, None, refl, sym, subst, le_refl, IfSome, ◌||◌, not}
use Rattle.std.proofs.lemmas.Option.{IfSome_then}
use Rattle.client_tags.specs.declared.Kind.{Kind}
use Rattle.client_tags.specs.declared.Kind.TheVariants.{Nigori, Preference, Password}
use Rattle.sync_model.specs.declared.event.EventOutcome.{EventOutcome}
use Rattle.sync_model.specs.declared.event.EventOutcome.TheVariants.{Done}
use Rattle.sync_model.specs.declared.message.Content.{Content}
use Rattle.sync_model.specs.declared.message.Entry.{Entry}
use Rattle.sync_model.specs.declared.message.Reply.{Reply}
use Rattle.sync_model.specs.declared.message.Request.{Request}
use Rattle.sync_model.specs.declared.message.Task.{Task}
use Rattle.sync_model.specs.declared.message.Task.TheVariants.{Batch as Updating, Acks}
use Rattle.sync_model.specs.Settings.{Setting, decided_by}
use Rattle.sync_model.specs.Clients.{Client, side_of, with_side, opens, batch_mailed}
use Rattle.sync_model.specs.Receiving.{letter_in, side_told, told, is_other_store, is_fit, answer_effect, posted, post_effect_at, post_effect, turn_effect_at, turn_effect}
use Rattle.sync_model.specs.Facts.{IsTrueTask, SideFacts, asked_mark, IsTrueReply, ClientFacts}
use Rattle.sync_model.proofs.Longer.{ClientFacts-later}
use Rattle.sync_model.proofs.KnownSides.{IsTrueTask-above, told-SideFacts, waiting-SideFacts, acks-SideFacts, turned-SideFacts, turned-seen}
use Rattle.sync_model.proofs.KnownSending.{batch_mailed-ClientFacts}
use Rattle.sync_model.proofs.KnownClients.{with_side-ClientFacts, alike-ClientFacts, EffectFacts, done_facts}

-- a letter is posted
posted-ClientFacts : (history : List (Entry Content)) (outcomes : List EventOutcome) (setting : Setting) (client : Client) (kind : Kind) (task : Task)
    → IsTrueTask history kind (side_of client kind).seen task
    → ClientFacts history outcomes client → ClientFacts history outcomes (posted setting client kind (side_of client kind) task)
posted-ClientFacts history outcomes setting client kind (Acks acks) all facts =
    with_side-ClientFacts history outcomes client kind _ (acks-SideFacts history kind (side_of client kind) acks all (facts.sides kind)) (le_refl _) facts
posted-ClientFacts history outcomes setting client kind (Updating batch) whole facts = by (opens setting client.bag batch)
  where
    by : (opened : Bool) → ClientFacts history outcomes (cond opened (batch_mailed setting client kind (record (side_of client kind) { letter = None }) batch)
        (with_side client kind (record (side_of client kind) { pending = Some batch; letter = None })))
    by true = batch_mailed-ClientFacts history outcomes setting client kind _ batch
        (told-SideFacts history kind (side_of client kind) None tt (facts.sides kind)) whole (le_refl _) facts
    by false = with_side-ClientFacts history outcomes client kind _
        (waiting-SideFacts history kind (side_of client kind) batch whole (facts.sides kind)) (le_refl _) facts

post_effect_at-facts : (history : List (Entry Content)) (outcomes : List EventOutcome) (setting : Setting) (client : Client) (kind : Kind) (letter : Option Task)
    → IfSome letter (IsTrueTask history kind (side_of client kind).seen)
    → ClientFacts history outcomes client → EffectFacts history outcomes (post_effect_at setting client kind (side_of client kind) letter)
post_effect_at-facts history outcomes setting client kind None is facts = tt
post_effect_at-facts history outcomes setting client kind (Some task) is facts =
    done_facts history outcomes _ (posted-ClientFacts history outcomes setting client kind task is facts)

pub post_effect-facts : (history : List (Entry Content)) (outcomes : List EventOutcome) (setting : Setting) (kind : Kind) (client : Client)
    → ClientFacts history outcomes client → EffectFacts history outcomes (post_effect setting kind client)
unfolding post_effect
post_effect-facts history outcomes setting kind client facts =
    post_effect_at-facts history outcomes setting client kind (side_of client kind).letter (facts.sides kind).told facts

-- a turn
turn_effect_at-facts : (history : List (Entry Content)) (outcomes : List EventOutcome) (setting : Setting) (client : Client) (kind : Kind) (tasks : List Task)
    → (side_of client kind).mailbox ≡ tasks
    → ClientFacts history outcomes client → EffectFacts history outcomes (turn_effect_at setting client kind (side_of client kind) tasks)
turn_effect_at-facts history outcomes setting client kind [] is facts = tt
turn_effect_at-facts history outcomes setting client kind (task ∷ tasks) is facts = (
  ClientFacts-later history outcomes Done _ (with_side-ClientFacts history outcomes client kind _
      (turned-SideFacts (decided_by setting kind) history kind (side_of client kind) task tasks is (facts.sides kind))
      (subst (λ (seen : ℕ). (side_of client kind).seen ≤ seen)
      (sym (turned-seen (decided_by setting kind) (record (side_of client kind) { mailbox = tasks }) task)) (le_refl _)) facts),
  tt,
)

pub turn_effect-facts : (history : List (Entry Content)) (outcomes : List EventOutcome) (setting : Setting) (kind : Kind) (client : Client)
    → ClientFacts history outcomes client → EffectFacts history outcomes (turn_effect setting kind client)
unfolding turn_effect
turn_effect-facts history outcomes setting kind client facts =
    turn_effect_at-facts history outcomes setting client kind (side_of client kind).mailbox refl facts

-- a reply that is true reaches a client that has seen what was asked
told-ClientFacts : (history : List (Entry Content)) (outcomes : List EventOutcome) (request : Request Content) (reply : Reply Content) (client : Client)
    → IsTrueReply history request.call reply → ((kind : Kind) → asked_mark kind request.call ≤ (side_of client kind).seen)
    → ClientFacts history outcomes client → ClientFacts history outcomes (told request.call reply client)
told-ClientFacts history outcomes request reply client says asked facts = record { sides = sides; awaits = tt }
  where
    told_side : (kind : Kind) → SideFacts history kind (side_told kind request.call reply.verdict (side_of client kind))
    told_side kind = told-SideFacts history kind (side_of client kind) (letter_in kind request.call reply.verdict)
        (IfSome_then (letter_in kind request.call reply.verdict) (says kind)
        (λ task. IsTrueTask-above history kind (asked_mark kind request.call) (side_of client kind).seen task (asked kind))) (facts.sides kind)

    sides : (kind : Kind) → SideFacts history kind (side_of (told request.call reply client) kind)
    sides Nigori = told_side Nigori
    sides Preference = told_side Preference
    sides Password = told_side Password

pub answer_effect-facts : (history : List (Entry Content)) (outcomes : List EventOutcome) (request : Request Content) (reply : Reply Content) (client : Client)
    → IsTrueReply history request.call reply → ((kind : Kind) → asked_mark kind request.call ≤ (side_of client kind).seen)
    → ClientFacts history outcomes client → EffectFacts history outcomes (answer_effect request reply client)
unfolding answer_effect
answer_effect-facts history outcomes request reply client says asked facts =
    done_facts history outcomes _ (by (is_other_store client.birthday reply.birthday || not (is_fit request.call reply.verdict)))
  where
    by : (ended : Bool) → ClientFacts history outcomes (cond ended (record client { outstanding = None }) (told request.call reply client))
    by true = alike-ClientFacts history outcomes client _ refl refl refl tt facts.sides
    by false = told-ClientFacts history outcomes request reply client says asked facts
