-- A world stays right under each event.
use Rattle.std.proofs.Common.{◌≡◌, ℕ, ◌+◌, ◌≤◌, arith, List, [], ◌∷◌, ◌++◌, length, take, drop, refl, sym, ap, subst, ◌∙◌}
use Rattle.std.proofs.lemmas.Bool.{eq-eqb}
use Rattle.std.proofs.lemmas.List.{append-nil, reverse-append, length-replicate, take_all, drop_all}
use Rattle.std.specs.Prelude.{reverse, replicate}
use Rattle.std.specs.List.{AllByRecursion}
use Rattle.sync_model.specs.declared.event.Event.{Event}
use Rattle.sync_model.specs.declared.event.EventOutcome.{EventOutcome}
use Rattle.sync_model.specs.declared.fate.Settlement.{Settlement}
use Rattle.sync_model.specs.declared.message.Content.{Content}
use Rattle.sync_model.specs.declared.message.Entry.{Entry}
use Rattle.sync_model.specs.Clients.{Client, new_client}
use Rattle.sync_model.specs.Worlds.{opening, outcome_at}
use Rattle.replay_messages.specs.declared.wire_record.Record.{Record}
use Rattle.replay_messages.specs.Records.{wire_record}
use Rattle.replay_messages.specs.Recorders.{HasRecorded}
use Rattle.replay_world.specs.declared.happened.Happened.{Happened}
use Rattle.replay_world.specs.Outcomes.{outcome_of, outcomes_of, AreKept, IsOfClient, sent}
use Rattle.replay_world.specs.Steps.{world_with, Steps}
use Rattle.replay_world.specs.Worlds.{IsRight}

-- what is kept is of the clients, as they are read
pub own_still : (clients others : List Client) (happened read : List Happened) → others ≡ clients → read ≡ happened → AllByRecursion (IsOfClient (length clients)) (reverse happened)
    → AllByRecursion (IsOfClient (length others)) (reverse read)
own_still clients others happened read is_clients is_read own =
    subst (λ (all : List Client). AllByRecursion (IsOfClient (length all)) (reverse read)) (sym is_clients)
    (subst (λ (all : List Happened). AllByRecursion (IsOfClient (length clients)) (reverse all)) (sym is_read) own)

-- what was lent of a list, put back
pub put_back : (items new : List Client) (len : ℕ) → len ≡ length items → length new ≡ length items → take len (new ++ drop (length new) items) ≡ new
put_back items new len is_len same =
    ap (λ (rest : List Client). take len (new ++ rest)) (drop_all (length new) items (omega (arith, same)))
    ∙ ap (take len) (append-nil new)
    ∙ take_all len new (omega (arith, is_len, same))

-- the same parts are right
pub still_right : (seed : ℕ) (history next : List (Entry Content)) (clients clients_after : List Client) (happened happened_after : List Happened) (recorder : Record) → IsRight seed history clients happened recorder
    → next ≡ history → clients_after ≡ clients → happened_after ≡ happened → IsRight seed next clients_after happened_after recorder
still_right seed history next clients clients_after happened happened_after recorder is is_history is_clients is_happened = record {
  few = subst (λ (all : List Client). length all ≤ 8) (sym is_clients) is.few;
  own = own_still clients clients_after happened happened_after is_clients is_happened is.own;
  kept = subst (λ (all : List Happened). AreKept next (reverse all)) (sym is_happened)
      (subst (λ (past : List (Entry Content)). AreKept past (reverse happened)) (sym is_history) is.kept);
  recorded = subst (λ (all : List Happened). HasRecorded recorder (wire_record seed (outcomes_of next (reverse all)))) (sym is_happened)
      (subst (λ (past : List (Entry Content)). HasRecorded recorder (wire_record seed (outcomes_of past (reverse happened)))) (sym is_history) is.recorded);
}

-- the parts after an event are right
pub stepped_right : (seed : ℕ) (history next : List (Entry Content)) (clients read_clients clients_after : List Client) (before read after : List Happened) (recorder recorder_after : Record)
    (event : Event) (settled_before settled : List Settlement) (happened : Happened)
    → IsRight seed history clients before recorder → read ≡ before → read_clients ≡ clients
    → Steps seed event (reverse read) history next read_clients clients_after settled_before settled happened
    → after ≡ before ++ happened ∷ []
    → ((so_far : List ℕ) → HasRecorded recorder so_far → HasRecorded recorder_after (so_far ++ sent happened))
    → IsRight seed next clients_after after recorder_after
unfolding AreKept
stepped_right seed history next clients read_clients clients_after before read after recorder recorder_after event settled_before settled happened is is_read is_clients steps is_after records =
    let newest : reverse after ≡ happened ∷ reverse before = ap reverse is_after ∙ reverse-append before (happened ∷ []) in
    let count : length clients_after ≡ length clients = steps.counted ∙ ap length is_clients in
    record {
      few = subst (λ n. n ≤ 8) (sym count) is.few;
      own = subst (λ (all : List Happened). AllByRecursion (IsOfClient (length clients_after)) all) (sym newest)
          (steps.own, subst (λ n. AllByRecursion (IsOfClient n) (reverse before)) (sym count) is.own);
      kept = subst (λ (all : List Happened). AreKept next all) (sym newest)
          (subst (λ (all : List Happened). AreKept next (happened ∷ reverse all)) is_read steps.kept);
      recorded = subst (λ bytes. HasRecorded recorder_after bytes)
          (ap (λ (all : List Happened). wire_record seed (outcomes_of history (reverse all)) ++ sent happened) (sym is_read)
          ∙ sym steps.recorded
          ∙ ap (λ (all : List Happened). wire_record seed (outcomes_of next (happened ∷ reverse all))) is_read
          ∙ ap (λ (all : List Happened). wire_record seed (outcomes_of next all)) (sym newest))
          (records (wire_record seed (outcomes_of history (reverse before))) is.recorded);
    }

-- the parts before any event are right
pub opening_right : (seed : ℕ) (history : List (Entry Content)) (clients : List Client) (happened : List Happened) (recorder : Record) (count : ℕ) → history ≡ [] → clients ≡ replicate count new_client → happened ≡ [] → count ≤ 8
    → HasRecorded recorder [] → IsRight seed history clients happened recorder
unfolding AreKept outcomes_of wire_record
opening_right seed history clients happened recorder count is_history is_clients is_happened few recorded = record {
  few = omega (arith, ap length is_clients, length-replicate count new_client, few);
  own = subst (λ (all : List Happened). AllByRecursion (IsOfClient (length clients)) (reverse all)) (sym is_happened) tt;
  kept = subst (λ (all : List Happened). AreKept history (reverse all)) (sym is_happened) tt;
  recorded = subst (λ (all : List Happened). HasRecorded recorder (wire_record seed (outcomes_of history (reverse all)))) (sym is_happened) recorded;
}

-- the world before any event
pub opening_is : (seed : ℕ) (history : List (Entry Content)) (clients : List Client) (happened : List Happened) (settlements : List Settlement) (count : ℕ) (passes : List (List ℕ))
    → history ≡ [] → clients ≡ replicate count new_client → happened ≡ [] → settlements ≡ [] → passes ≡ []
    → world_with seed history (outcomes_of history (reverse happened)) clients settlements ≡ opening count seed passes
unfolding outcomes_of
opening_is seed history clients happened settlements count passes is_history is_clients is_happened is_settled is_passes =
    λ i. record {
      history = is_history i;
      outcomes = outcomes_of (is_history i) (reverse (is_happened i));
      clients = is_clients i;
      settlements = is_settled i;
      seed = seed;
      passes = sym is_passes i;
    }

newest_of_all : (outcome : EventOutcome) (earlier : List EventOutcome) → outcome_at (outcome ∷ earlier) (length (outcome ∷ earlier)) ≡ outcome
unfolding outcome_at
newest_of_all outcome earlier = rw (eq-eqb (length (outcome ∷ earlier)) (length earlier + 1) (omega arith)) refl

-- what came of the event that was pushed last
pub last_outcome : (history : List (Entry Content)) (before after : List Happened) (happened : Happened) → after ≡ before ++ happened ∷ []
    → outcome_at (outcomes_of history (reverse after)) (length (outcomes_of history (reverse after))) ≡ outcome_of history (outcomes_of history (reverse before)) happened
unfolding outcomes_of
last_outcome history before after happened is =
    ap (λ (all : List Happened). outcome_at (outcomes_of history all) (length (outcomes_of history all))) (ap reverse is ∙ reverse-append before (happened ∷ []))
    ∙ newest_of_all (outcome_of history (outcomes_of history (reverse before)) happened) (outcomes_of history (reverse before))
