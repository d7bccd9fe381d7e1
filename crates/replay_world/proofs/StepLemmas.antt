-- What an event makes of the parts of a world is the model's step.
use Rattle.std.proofs.Common.{◌≡◌, ℕ, ◌+◌, List, ◌∷◌, ◌++◌, length, Option, refl, sym, ap, subst, ◌∙◌}
use Rattle.std.proofs.lemmas.List.{length-reverse}
use Rattle.std.specs.Prelude.{reverse}
use Rattle.client_tags.specs.declared.Kind.{Kind}
use Rattle.client_tags.specs.declared.Kind.TheVariants.{Preference}
use Rattle.sync_values.specs.declared.edit.Edit.{Edit as Change}
use Rattle.sync_model.specs.declared.event.Event.{Event}
use Rattle.sync_model.specs.declared.event.Event.TheVariants.{Edit, Turn, Gather, Post, Ask, Offer, Deliver, Answer}
use Rattle.sync_model.specs.declared.event.EventOutcome.{EventOutcome}
use Rattle.sync_model.specs.declared.fate.Settlement.{Settlement}
use Rattle.sync_model.specs.declared.message.Content.{Content}
use Rattle.sync_model.specs.declared.message.Entry.{Entry}
use Rattle.sync_model.specs.Changes.{change_effect}
use Rattle.sync_model.specs.Clients.{Client, Effect}
use Rattle.sync_specifics.specs.Extras.{IsCanonicalEdit}
use Rattle.sync_model.specs.Edits.{edit_kind}
use Rattle.sync_model.specs.Receiving.{turn_effect, post_effect}
use Rattle.sync_model.specs.Sending.{gather_effect, ask_effect, offer_effect}
use Rattle.sync_model.specs.Worlds.{World, acted, stepped}
use Rattle.run_setting.specs.Hashed.{hashed}
use Rattle.replay_messages.specs.Records.{REQUEST, REPLY, framed, replied_bytes, recorded, wire_record}
use Rattle.replay_world.specs.declared.happened.Happened.{Happened}
use Rattle.replay_world.specs.declared.happened.Happened.TheVariants as kept
use Rattle.replay_world.specs.Events.{IsNumber, CanStep}
use Rattle.replay_world.specs.Outcomes.{history_at, reply_of, outcome_of, outcomes_of, IsKept, AreKept, IsOfClient, IsQuiet, sent}
use Rattle.replay_world.specs.Steps.{world_with, Acts, ActsAlone, Asks, Delivers, Receives, Steps}
use Rattle.replay_world.proofs.Kept.{outcomes_long}

-- what an event adds to the record, by what is kept of it
recorded_is : (seed : ℕ) (history : List (Entry Content)) (outcomes : List EventOutcome) (happened : Happened) → IsKept history outcomes happened
    → recorded seed outcomes (outcome_of history outcomes happened) ≡ sent happened
recorded_is seed history outcomes kept.Void is = refl
recorded_is seed history outcomes kept.Done is = refl
recorded_is seed history outcomes (kept.Edited client kind number) is = refl
recorded_is seed history outcomes (kept.Requested client request bytes) is = ap (framed REQUEST) (sym (is.is_told seed))
recorded_is seed history outcomes (kept.Delivered request before bytes) is =
    (λ i. replied_bytes seed (is.made i) (reply_of (history_at history before) (is.made i)))
    ∙ ap (framed REPLY) (sym (is.says.is_told seed))

record_more : (seed : ℕ) (before history : List (Entry Content)) (earlier : List Happened) (happened : Happened) → outcomes_of history earlier ≡ outcomes_of before earlier
    → IsKept history (outcomes_of history earlier) happened
    → wire_record seed (outcomes_of history (happened ∷ earlier)) ≡ wire_record seed (outcomes_of before earlier) ++ sent happened
unfolding outcomes_of wire_record
record_more seed before history earlier happened same is =
    ap (λ bytes. wire_record seed (outcomes_of history earlier) ++ bytes) (recorded_is seed history (outcomes_of history earlier) happened is)
    ∙ ap (λ (outcomes : List EventOutcome). wire_record seed outcomes ++ sent happened) same

quiet_kept : (history : List (Entry Content)) (outcomes : List EventOutcome) (happened : Happened) → IsQuiet happened → IsKept history outcomes happened
quiet_kept history outcomes kept.Void quiet = tt
quiet_kept history outcomes kept.Done quiet = tt
quiet_kept history outcomes (kept.Edited client kind number) quiet = tt
quiet_kept history outcomes (kept.Requested client request bytes) quiet = absurd quiet
quiet_kept history outcomes (kept.Delivered request before bytes) quiet = absurd quiet

quiet_own : (clients : ℕ) (happened : Happened) → IsQuiet happened → IsOfClient clients happened
quiet_own clients kept.Void quiet = tt
quiet_own clients kept.Done quiet = tt
quiet_own clients (kept.Edited client kind number) quiet = tt
quiet_own clients (kept.Requested client request bytes) quiet = absurd quiet
quiet_own clients (kept.Delivered request before bytes) quiet = absurd quiet

module _ (seed : ℕ) (event : Event) (earlier : List Happened) (history : List (Entry Content)) (before clients : List Client) (are : AreKept history earlier) where
  acts_steps : (settled_before settled : List Settlement) (happened : Happened) (number : ℕ) (effect : Client → Option Effect)
      → ((world : World) → stepped hashed event world ≡ acted world number effect) → Acts number effect before clients settled_before settled happened
      → Steps seed event earlier history history before clients settled_before settled happened
  unfolding AreKept outcomes_of
  acts_steps settled_before settled happened number effect is acts = record {
    own = quiet_own (length clients) happened acts.quiet;
    kept = (quiet_kept history (outcomes_of history earlier) happened acts.quiet, are);
    counted = acts.counted;
    recorded = record_more seed history history earlier happened refl (quiet_kept history (outcomes_of history earlier) happened acts.quiet);
    steps = is (world_with seed history (outcomes_of history earlier) before settled_before) ∙ acts.acts seed history (outcomes_of history earlier);
  }

  asks_steps : (settled : List Settlement) (happened : Happened) (number : ℕ) (effect : ℕ → Client → Option Effect) (next : ℕ) → next ≡ length earlier + 1
      → ((world : World) → stepped hashed event world ≡ acted world number (effect (length world.outcomes + 1))) → Asks number (effect next) before clients happened
      → Steps seed event earlier history history before clients settled settled happened
  unfolding AreKept outcomes_of
  asks_steps settled happened number effect next is_next is asks =
      let same : length (outcomes_of history earlier) + 1 ≡ next = ap (λ n. n + 1) (outcomes_long history earlier) ∙ sym is_next in
      record {
        own = subst (λ count. IsOfClient count happened) (sym asks.counted) asks.own;
        kept = (asks.kept history (outcomes_of history earlier), are);
        counted = asks.counted;
        recorded = record_more seed history history earlier happened refl (asks.kept history (outcomes_of history earlier));
        steps = is (world_with seed history (outcomes_of history earlier) before settled)
            ∙ ap (λ n. acted (world_with seed history (outcomes_of history earlier) before settled) number (effect n)) same
            ∙ asks.acts seed history (outcomes_of history earlier) settled;
      }

pub edit_steps : (event : Event) (earlier : List Happened) (history : List (Entry Content)) (before clients : List Client) (settled_before settled : List Settlement) (happened : Happened) (number : ℕ) (edit : Change)
    → AreKept history earlier → event ≡ Edit number edit → Acts number (change_effect hashed number edit) before clients settled_before settled happened
    → (seed : ℕ) → Steps seed event earlier history history before clients settled_before settled happened
unfolding stepped
edit_steps event earlier history before clients settled_before settled happened number edit are is acts seed =
    acts_steps seed event earlier history before clients are settled_before settled happened number (change_effect hashed number edit) (λ world. ap (λ (e : Event). stepped hashed e world) is) acts

pub turn_steps : (event : Event) (earlier : List Happened) (history : List (Entry Content)) (before clients : List Client) (settled_before settled : List Settlement) (happened : Happened) (number : ℕ) (kind : Kind)
    → AreKept history earlier → event ≡ Turn number kind → Acts number (turn_effect hashed kind) before clients settled_before settled happened
    → (seed : ℕ) → Steps seed event earlier history history before clients settled_before settled happened
unfolding stepped
turn_steps event earlier history before clients settled_before settled happened number kind are is acts seed =
    acts_steps seed event earlier history before clients are settled_before settled happened number (turn_effect hashed kind) (λ world. ap (λ (e : Event). stepped hashed e world) is) acts

pub gather_steps : (event : Event) (earlier : List Happened) (history : List (Entry Content)) (before clients : List Client) (settled : List Settlement) (happened : Happened) (number : ℕ) (kind : Kind)
    → AreKept history earlier → event ≡ Gather number kind → ActsAlone number (gather_effect hashed number kind) before clients happened
    → (seed : ℕ) → Steps seed event earlier history history before clients settled settled happened
unfolding stepped
gather_steps event earlier history before clients settled happened number kind are is acts seed =
    acts_steps seed event earlier history before clients are settled settled happened number (gather_effect hashed number kind) (λ world. ap (λ (e : Event). stepped hashed e world) is) (acts settled)

pub post_steps : (event : Event) (earlier : List Happened) (history : List (Entry Content)) (before clients : List Client) (settled : List Settlement) (happened : Happened) (number : ℕ) (kind : Kind)
    → AreKept history earlier → event ≡ Post number kind → ActsAlone number (post_effect hashed kind) before clients happened
    → (seed : ℕ) → Steps seed event earlier history history before clients settled settled happened
unfolding stepped
post_steps event earlier history before clients settled happened number kind are is acts seed =
    acts_steps seed event earlier history before clients are settled settled happened number (post_effect hashed kind) (λ world. ap (λ (e : Event). stepped hashed e world) is) (acts settled)

pub ask_steps : (event : Event) (happened_before : List Happened) (history : List (Entry Content)) (before clients : List Client) (settled : List Settlement) (happened : Happened) (number : ℕ)
    → AreKept history (reverse happened_before) → event ≡ Ask number → Asks number (ask_effect number (length happened_before + 1)) before clients happened
    → (seed : ℕ) → Steps seed event (reverse happened_before) history history before clients settled settled happened
unfolding stepped
ask_steps event happened_before history before clients settled happened number are is asks seed =
    asks_steps seed event (reverse happened_before) history before clients are settled happened number (ask_effect number) (length happened_before + 1) (ap (λ n. n + 1) (sym (length-reverse happened_before)))
    (λ world. ap (λ (e : Event). stepped hashed e world) is) asks

pub offer_steps : (event : Event) (happened_before : List Happened) (history : List (Entry Content)) (before clients : List Client) (settled : List Settlement) (happened : Happened) (number : ℕ)
    → AreKept history (reverse happened_before) → event ≡ Offer number → Asks number (offer_effect number (length happened_before + 1)) before clients happened
    → (seed : ℕ) → Steps seed event (reverse happened_before) history history before clients settled settled happened
unfolding stepped
offer_steps event happened_before history before clients settled happened number are is asks seed =
    asks_steps seed event (reverse happened_before) history before clients are settled happened number (offer_effect number) (length happened_before + 1) (ap (λ n. n + 1) (sym (length-reverse happened_before)))
    (λ world. ap (λ (e : Event). stepped hashed e world) is) asks

pub deliver_steps : (event : Event) (earlier : List Happened) (before history : List (Entry Content)) (clients : List Client) (settled : List Settlement) (happened : Happened) (number : ℕ)
    → event ≡ Deliver number → Delivers earlier number before history happened → (seed : ℕ) → Steps seed event earlier before history clients clients settled settled happened
unfolding stepped AreKept
deliver_steps event earlier before history clients settled happened number is delivers seed = record {
  own = delivers.own (length clients);
  kept = delivers.kept;
  counted = refl;
  recorded = record_more seed before history earlier happened delivers.same delivers.kept.0;
  steps = ap (λ (e : Event). stepped hashed e (world_with seed before (outcomes_of before earlier) clients settled)) is ∙ delivers.delivers seed clients settled;
}

pub answer_steps : (event : Event) (earlier : List Happened) (history : List (Entry Content)) (before clients : List Client) (settled : List Settlement) (happened : Happened) (number : ℕ)
    → AreKept history earlier → event ≡ Answer number → Receives history earlier number before clients happened → (seed : ℕ) → Steps seed event earlier history history before clients settled settled happened
unfolding stepped AreKept
answer_steps event earlier history before clients settled happened number are is receives seed = record {
  own = quiet_own (length clients) happened receives.quiet;
  kept = (quiet_kept history (outcomes_of history earlier) happened receives.quiet, are);
  counted = receives.counted;
  recorded = record_more seed history history earlier happened refl (quiet_kept history (outcomes_of history earlier) happened receives.quiet);
  steps = ap (λ (e : Event). stepped hashed e (world_with seed history (outcomes_of history earlier) before settled)) is ∙ receives.receives seed settled;
}

-- of what an event that can be stepped is
pub number_of_edit : (clients : ℕ) (event : Event) (number : ℕ) (edit : Change) → event ≡ Edit number edit → CanStep clients event → IsNumber clients number × (edit_kind edit ≡ Preference) × IsCanonicalEdit edit
number_of_edit clients event number edit is can = subst (CanStep clients) is can

pub number_of_turn : (clients : ℕ) (event : Event) (number : ℕ) (kind : Kind) → event ≡ Turn number kind → CanStep clients event → IsNumber clients number
number_of_turn clients event number kind is can = subst (CanStep clients) is can

pub number_of_gather : (clients : ℕ) (event : Event) (number : ℕ) (kind : Kind) → event ≡ Gather number kind → CanStep clients event → IsNumber clients number
number_of_gather clients event number kind is can = subst (CanStep clients) is can

pub number_of_post : (clients : ℕ) (event : Event) (number : ℕ) (kind : Kind) → event ≡ Post number kind → CanStep clients event → IsNumber clients number
number_of_post clients event number kind is can = subst (CanStep clients) is can

pub number_of_ask : (clients : ℕ) (event : Event) (number : ℕ) → event ≡ Ask number → CanStep clients event → IsNumber clients number
number_of_ask clients event number is can = subst (CanStep clients) is can

pub number_of_offer : (clients : ℕ) (event : Event) (number : ℕ) → event ≡ Offer number → CanStep clients event → IsNumber clients number
number_of_offer clients event number is can = subst (CanStep clients) is can
