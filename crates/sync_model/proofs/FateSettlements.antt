-- What an event of any client makes of the keys of each client, and which edits the world then has settled.
use Rattle.std.proofs.Common.{◌≡◌, ℕ, zero, suc, ◌+◌, ◌-◌, ◌++◌, ◌⊎◌, Bool, true, false, cond, List, [], ◌∷◌, length, find, map, slice_index_or, Option, Some, None, refl, sym, ap, ◌∙◌, subst, eqb, arith, inl, inr, ◌&&◌}
use Rattle.std.specs.Option.{option_or, option_map}
use Rattle.std.proofs.lemmas.Bool.{cases_eq, eq-eqb, ne_eqb, cond-true, true≢false, false≢true}
use Rattle.std.proofs.lemmas.List.Folds.{find-append}
use Rattle.client_tags.specs.declared.Kind.{Kind}
use Rattle.sync_model.specs.declared.event.Event.{Event}
use Rattle.sync_model.specs.declared.event.Event.TheVariants.{Edit, Cut, Turn, Gather, Post, Ask, Offer, Lose, Crash, Deliver, Answer, SetPass, GivePass}
use Rattle.sync_model.specs.declared.event.EventOutcome.{EventOutcome}
use Rattle.sync_model.specs.declared.event.EventOutcome.TheVariants.{Void, Done, Edited, Requested, Delivered}
use Rattle.sync_model.specs.declared.fate.Fate.{Fate}
use Rattle.sync_model.specs.declared.fate.Note.{Note}
use Rattle.sync_model.specs.declared.fate.Settlement.{Settlement}
use Rattle.sync_model.specs.declared.message.Content.{Content}
use Rattle.sync_model.specs.declared.message.Reply.{Reply}
use Rattle.sync_model.specs.declared.message.Request.{Request}
use Rattle.sync_model.specs.Values.{same_kind}
use Rattle.sync_model.specs.Settings.{Setting}
use Rattle.sync_model.specs.Sides.{Side}
use Rattle.sync_model.specs.Clients.{Client, Effect, new_client, side_of}
use Rattle.sync_model.specs.Receiving.{answer_effect}
use Rattle.sync_model.specs.Fates.{is_of_edit, fate_of}
use Rattle.sync_model.specs.Worlds.{World, client_at, with_client_at, outcome_at, settlement_of, affected, acted, next_event, delivered, is_awaited, replied, answered, pass_at, stepped}
use Rattle.sync_model.specs.Laws.{last_outcome}
use Rattle.sync_model.specs.FateFacts.{Saying, IsSaidOnTheWay, side_at}
use Rattle.sync_model.proofs.FateKeys.{fate_in}
use Rattle.sync_model.proofs.FateSteps.{kept_noted, Makes, noted_by, EffectMakes}
use Rattle.sync_model.proofs.FateWorlds.{not_by_none}
use Rattle.sync_model.proofs.FateMakes.{change_effect-makes, cut_effect-makes, crash_effect-makes, set_pass_effect-makes, give_pass_effect-makes, gather_effect-makes, ask_effect-makes, offer_effect-makes, lose_effect-makes, post_effect-makes, turn_effect-makes, answer_effect-makes}

-- the fate in some settlements and further ones
fate_or : (first rest : Option Settlement)
    → option_map (λ settlement. settlement.fate) (option_or first rest)
    ≡ option_or (option_map (λ settlement. settlement.fate) first) (option_map (λ settlement. settlement.fate) rest)
fate_or None rest = refl
fate_or (Some settlement) rest = refl

fate_of-more : (first rest : List Settlement) (client : ℕ) (kind : Kind) (edit : ℕ)
    → fate_of (first ++ rest) client kind edit ≡ option_or (fate_of first client kind edit) (fate_of rest client kind edit)
unfolding fate_of
fate_of-more first rest client kind edit =
    ap (λ (found : Option Settlement). option_map (λ settlement. settlement.fate) found) (find-append (is_of_edit client kind edit) first rest)
    ∙ fate_or (find (is_of_edit client kind edit) first) (find (is_of_edit client kind edit) rest)

-- the fate in the notes of an effect, as settlements
noted_step : (matched same : Bool) (settlement : Settlement) (rest : Option Settlement) (given : Option Fate)
    → option_map (λ settlement. settlement.fate) rest ≡ cond matched given None
    → option_map (λ settlement. settlement.fate) (cond (matched && same) (Some settlement) rest) ≡ cond matched (cond same (Some settlement.fate) given) None
noted_step true true settlement rest given is = refl
noted_step true false settlement rest given is = is
noted_step false same settlement rest given is = is

none_matched : (matched : Bool) (fate : Option Fate) → fate ≡ None → fate ≡ cond matched fate None
none_matched true fate is = refl
none_matched false fate is = is

fate_of_notes : (author : ℕ) (own : Kind) (notes : List Note) (client : ℕ) (kind : Kind) (edit : ℕ)
    → fate_of (map (settlement_of author own) notes) client kind edit ≡ cond (eqb author client && same_kind own kind) (fate_in notes edit) None
unfolding fate_of
fate_of_notes author own [] client kind edit = none_matched (eqb author client && same_kind own kind) None refl
fate_of_notes author own (note ∷ notes) client kind edit =
    noted_step (eqb author client && same_kind own kind) (eqb note.number edit) (settlement_of author own note)
    (find (is_of_edit client kind edit) (map (settlement_of author own) notes)) (fate_in notes edit) (fate_of_notes author own notes client kind edit)

option_or-none : (fate : Option Fate) → option_or fate None ≡ fate
option_or-none None = refl
option_or-none (Some fate) = refl

-- the client of a place once one is put at a place
pub put_same : (clients : List Client) (place : ℕ) (client : Client) → slice_index_or (with_client_at clients place client) place new_client ≡ client
put_same [] zero client = refl
put_same [] (suc place) client = put_same [] place client
put_same (first ∷ clients) zero client = refl
put_same (first ∷ clients) (suc place) client = put_same clients place client

pub put_other : (clients : List Client) (place other : ℕ) (client : Client) → (place ≡ other → ⊥)
    → slice_index_or (with_client_at clients place client) other new_client ≡ slice_index_or clients other new_client
put_other [] zero zero client differs = absurd (differs refl)
put_other [] zero (suc other) client differs = refl
put_other [] (suc place) zero client differs = refl
put_other [] (suc place) (suc other) client differs = put_other [] place other client (λ same. differs (ap suc same))
put_other (first ∷ clients) zero zero client differs = absurd (differs refl)
put_other (first ∷ clients) zero (suc other) client differs = refl
put_other (first ∷ clients) (suc place) zero client differs = refl
put_other (first ∷ clients) (suc place) (suc other) client differs = put_other clients place other client (λ same. differs (ap suc same))

pub before : (number : ℕ) → suc number - 1 ≡ number
before number = omega arith

-- what an event makes of what a client has of a type, and of the fates of its edits
pub record IsStep (setting : Setting) (event : Event) (world next : World) (place : ℕ) (kind : Kind) : Type 0 where
  pub noted : ℕ → Option Fate
  pub fates : (edit : ℕ) → fate_of next.settlements (suc place) kind edit ≡ option_or (fate_of world.settlements (suc place) kind edit) (noted edit)
  pub makes : Makes setting event world (suc place) kind (side_at world (suc place) kind) (side_at next (suc place) kind) noted (last_outcome next)

-- a world with the same clients and settlements
quiet_step : (setting : Setting) (event : Event) (world next : World) (place : ℕ) (kind : Kind)
    → next.settlements ≡ world.settlements → next.clients ≡ world.clients → IsStep setting event world next place kind
quiet_step setting event world next place kind settlements clients = record {
  noted = λ edit. None;
  fates = λ edit. ap (λ (found : List Settlement). fate_of found (suc place) kind edit) settlements
      ∙ sym (option_or-none (fate_of world.settlements (suc place) kind edit));
  makes = inl record {
    kept = kept_noted (side_at world (suc place) kind) (side_at next (suc place) kind) (
      ap (λ (found : List Client). (side_of (client_at found (suc place)) kind).states) clients,
      ap (λ (found : List Client). (side_of (client_at found (suc place)) kind).last_edit) clients,
    );
    silent = λ edit. refl;
  };
}

void_step : (setting : Setting) (event : Event) (world : World) (place : ℕ) (kind : Kind)
    → IsStep setting event world (record world { outcomes = Void ∷ world.outcomes }) place kind
void_step setting event world place kind = quiet_step setting event world (record world { outcomes = Void ∷ world.outcomes }) place kind refl refl

pub last_is : (outcomes : List EventOutcome) (outcome : EventOutcome) → outcome_at (outcome ∷ outcomes) (length (outcome ∷ outcomes)) ≡ outcome
unfolding outcome_at
last_is outcomes outcome = cond-true _ _ _ (eq-eqb (length (outcome ∷ outcomes)) (length outcomes + 1) (omega arith))

noted_other : (matched same : Bool) (given : Option Fate) → matched ≡ false → cond (matched && same) given None ≡ None
noted_other true same given is = absurd (true≢false is)
noted_other false same given is = refl

noted_own : (matched same : Bool) (given : Option Fate) → matched ≡ true → cond (matched && same) given None ≡ cond same given None
noted_own true same given is = refl
noted_own false same given is = absurd (false≢true is)

-- an event of a client
affected_step : (setting : Setting) (event : Event) (world : World) (acting : ℕ) (effect : Option Effect)
    → EffectMakes setting event world (suc acting) (client_at world.clients (suc acting)) effect
    → (place : ℕ) (kind : Kind) → IsStep setting event world (affected world (suc acting) effect) place kind
unfolding affected
affected_step setting event world acting None made place kind =
    quiet_step setting event world (record world { outcomes = Void ∷ world.outcomes }) place kind refl refl
affected_step setting event world acting (Some effect) made place kind = by (cases_eq acting place)
  where
    next : World
    next = record {
      history = world.history;
      outcomes = effect.outcome ∷ world.outcomes;
      clients = with_client_at world.clients (suc acting - 1) effect.client;
      settlements = world.settlements ++ map (settlement_of (suc acting) effect.kind) effect.notes;
      seed = world.seed;
      passes = world.passes;
    }

    fates : (edit : ℕ) → fate_of next.settlements (suc place) kind edit
        ≡ option_or (fate_of world.settlements (suc place) kind edit) (cond (eqb (suc acting) (suc place) && same_kind effect.kind kind) (fate_in effect.notes edit) None)
    fates edit = fate_of-more world.settlements (map (settlement_of (suc acting) effect.kind) effect.notes) (suc place) kind edit
        ∙ ap (λ (found : Option Fate). option_or (fate_of world.settlements (suc place) kind edit) found)
        (fate_of_notes (suc acting) effect.kind effect.notes (suc place) kind edit)

    own : acting ≡ place → side_at next (suc place) kind ≡ side_of effect.client kind
    own same = ap (λ (found : Client). side_of found kind)
        (subst (λ (at : ℕ). slice_index_or (with_client_at world.clients at effect.client) (suc place - 1) new_client ≡ effect.client)
        (ap (λ (number : ℕ). suc number - 1) (sym same)) (put_same world.clients (suc place - 1) effect.client))

    others : (acting ≡ place → ⊥) → side_at next (suc place) kind ≡ side_at world (suc place) kind
    others differs = ap (λ (found : Client). side_of found kind)
        (put_other world.clients (suc acting - 1) (suc place - 1) effect.client (λ same. differs (sym (before acting) ∙ same ∙ before place)))

    by : (acting ≡ place) ⊎ (acting ≡ place → ⊥) → IsStep setting event world next place kind
    by (inl same) = record {
      noted = noted_by effect kind;
      fates = λ edit. fates edit ∙ ap (λ (found : Option Fate). option_or (fate_of world.settlements (suc place) kind edit) found)
          (noted_own (eqb (suc acting) (suc place)) (same_kind effect.kind kind) (fate_in effect.notes edit) (eq-eqb (suc acting) (suc place) (ap suc same)));
      makes = subst (λ (side : Side). Makes setting event world (suc place) kind (side_at world (suc place) kind) side (noted_by effect kind) (last_outcome next))
          (sym (own same))
          (subst (λ (outcome : EventOutcome). Makes setting event world (suc place) kind (side_at world (suc place) kind) (side_of effect.client kind) (noted_by effect kind) outcome)
          (sym (last_is world.outcomes effect.outcome))
          (subst (λ (at : ℕ). Makes setting event world (suc at) kind (side_at world (suc at) kind) (side_of effect.client kind) (noted_by effect kind) effect.outcome) same (made kind)));
    }
    by (inr differs) = record {
      noted = λ edit. None;
      fates = λ edit. fates edit ∙ ap (λ (found : Option Fate). option_or (fate_of world.settlements (suc place) kind edit) found)
          (noted_other (eqb (suc acting) (suc place)) (same_kind effect.kind kind) (fate_in effect.notes edit)
          (ne_eqb (suc acting) (suc place) (λ same. differs (omega (arith, same)))));
      makes = inl record {
        kept = kept_noted (side_at world (suc place) kind) (side_at next (suc place) kind)
            (ap (λ (side : Side). side.states) (others differs), ap (λ (side : Side). side.last_edit) (others differs));
        silent = λ edit. refl;
      };
    }

acted_step : (setting : Setting) (event : Event) (world : World) (number : ℕ) (acts : Client → Option Effect)
    → EffectMakes setting event world number (client_at world.clients number) (acts (client_at world.clients number))
    → (place : ℕ) (kind : Kind) → IsStep setting event world (acted world number acts) place kind
acted_step setting event world zero acts made place kind =
    quiet_step setting event world (record world { outcomes = Void ∷ world.outcomes }) place kind refl refl
acted_step setting event world (suc acting) acts made place kind =
    affected_step setting event world acting (acts (client_at world.clients (suc acting))) made place kind

-- a reply to a request
replied_by : (Says : ℕ → Saying) (setting : Setting) (event : Event) (world : World) (request number : ℕ) (asked : Request Content) (reply : Reply Content) (awaited : Bool)
    → is_awaited (client_at world.clients number).outstanding request ≡ awaited → outcome_at world.outcomes request ≡ Requested number asked
    → IsSaidOnTheWay Says world → (place : ℕ) (kind : Kind)
    → IsStep setting event world (cond awaited (affected world number (answer_effect asked reply (client_at world.clients number))) (record world { outcomes = Void ∷ world.outcomes })) place kind
replied_by Says setting event world request number asked reply false awaited is said place kind =
    quiet_step setting event world (record world { outcomes = Void ∷ world.outcomes }) place kind refl refl
replied_by Says setting event world request zero asked reply true awaited is said place kind =
    absurd (not_by_none Says world request asked said awaited is)
replied_by Says setting event world request (suc acting) asked reply true awaited is said place kind =
    affected_step setting event world acting (answer_effect asked reply (client_at world.clients (suc acting)))
    (answer_effect-makes setting event world (suc acting) asked reply (client_at world.clients (suc acting))) place kind

replied_step : (Says : ℕ → Saying) (setting : Setting) (event : Event) (world : World) (request : ℕ) (reply : Reply Content) (outcome : EventOutcome)
    → outcome_at world.outcomes request ≡ outcome → IsSaidOnTheWay Says world → (place : ℕ) (kind : Kind)
    → IsStep setting event world (replied world request reply outcome) place kind
replied_step Says setting event world request reply (Requested client asked) is said place kind =
    replied_by Says setting event world request client asked reply (is_awaited (client_at world.clients client).outstanding request) refl is said place kind
replied_step Says setting event world request reply Void is said place kind = void_step setting event world place kind
replied_step Says setting event world request reply Done is said place kind = void_step setting event world place kind
replied_step Says setting event world request reply (Edited client own number) is said place kind = void_step setting event world place kind
replied_step Says setting event world request reply (Delivered other others) is said place kind = void_step setting event world place kind

answered_step : (Says : ℕ → Saying) (setting : Setting) (event : Event) (world : World) (outcome : EventOutcome)
    → IsSaidOnTheWay Says world → (place : ℕ) (kind : Kind) → IsStep setting event world (answered world outcome) place kind
answered_step Says setting event world (Delivered request reply) said place kind =
    replied_step Says setting event world request reply (outcome_at world.outcomes request) refl said place kind
answered_step Says setting event world Void said place kind = void_step setting event world place kind
answered_step Says setting event world Done said place kind = void_step setting event world place kind
answered_step Says setting event world (Edited client own number) said place kind = void_step setting event world place kind
answered_step Says setting event world (Requested client request) said place kind = void_step setting event world place kind

-- a delivery
delivered_step : (setting : Setting) (event : Event) (world : World) (request : ℕ) (outcome : EventOutcome) (place : ℕ) (kind : Kind)
    → IsStep setting event world (delivered world request outcome) place kind
delivered_step setting event world request (Requested client asked) place kind =
    quiet_step setting event world (delivered world request (Requested client asked)) place kind refl refl
delivered_step setting event world request Void place kind = void_step setting event world place kind
delivered_step setting event world request Done place kind = void_step setting event world place kind
delivered_step setting event world request (Edited client own number) place kind = void_step setting event world place kind
delivered_step setting event world request (Delivered other reply) place kind = void_step setting event world place kind

-- what each event makes of what a client has of a type
pub stepped_step : (Says : ℕ → Saying) (setting : Setting) (event : Event) (world : World) → IsSaidOnTheWay Says world
    → (place : ℕ) (kind : Kind) → IsStep setting event world (stepped setting event world) place kind
unfolding stepped
stepped_step Says setting (Edit number edit) world said =
    acted_step setting (Edit number edit) world number _ (change_effect-makes setting (Edit number edit) world number edit (client_at world.clients number) refl refl)
stepped_step Says setting (Cut number kept edit) world said =
    acted_step setting (Cut number kept edit) world number _ (cut_effect-makes setting world number kept edit (client_at world.clients number))
stepped_step Says setting (Turn number own) world said =
    acted_step setting (Turn number own) world number _ (turn_effect-makes setting world number own (client_at world.clients number))
stepped_step Says setting (Gather number own) world said =
    acted_step setting (Gather number own) world number _ (gather_effect-makes setting (Gather number own) world number own (client_at world.clients number))
stepped_step Says setting (Post number own) world said =
    acted_step setting (Post number own) world number _ (post_effect-makes setting (Post number own) world number own (client_at world.clients number))
stepped_step Says setting (Ask number) world said =
    acted_step setting (Ask number) world number _ (ask_effect-makes setting (Ask number) world number (next_event world) (client_at world.clients number))
stepped_step Says setting (Offer number) world said =
    acted_step setting (Offer number) world number _ (offer_effect-makes setting (Offer number) world number (next_event world) (client_at world.clients number))
stepped_step Says setting (Lose number) world said =
    acted_step setting (Lose number) world number _ (lose_effect-makes setting (Lose number) world number (client_at world.clients number))
stepped_step Says setting (Crash number) world said =
    acted_step setting (Crash number) world number _ (crash_effect-makes setting (Crash number) world number (client_at world.clients number))
stepped_step Says setting (Deliver request) world said = delivered_step setting (Deliver request) world request (outcome_at world.outcomes request)
stepped_step Says setting (Answer delivery) world said = answered_step Says setting (Answer delivery) world (outcome_at world.outcomes delivery) said
stepped_step Says setting (SetPass number pass) world said =
    acted_step setting (SetPass number pass) world number _
    (set_pass_effect-makes setting (SetPass number pass) world number (pass_at world.passes pass) (client_at world.clients number) refl refl)
stepped_step Says setting (GivePass number pass) world said =
    acted_step setting (GivePass number pass) world number _
    (give_pass_effect-makes setting (GivePass number pass) world number (pass_at world.passes pass) (client_at world.clients number))
