-- What is counted of the events that are kept.
use Rattle.std.proofs.Common.{◌≡◌, ℕ, ◌+◌, arith, Bool, true, false, cond, List, [], ◌∷◌, length, refl, sym, ap, ◌∙◌, add_comm}
use Rattle.std.proofs.lemmas.List.{reverse-append, length-reverse}
use Rattle.std.proofs.lemmas.List.Sums.{sum_by_push, sum_by-cons}
use Rattle.std.specs.Prelude.{◌==◌, count_by, reverse}
use Rattle.sync_model.specs.declared.event.EventOutcome.{EventOutcome}
use Rattle.sync_model.specs.declared.message.Content.{Content}
use Rattle.sync_model.specs.declared.message.Entry.{Entry}
use Rattle.sync_model.specs.History.{key_count, IsBased}
use Rattle.sync_model.specs.Report.{is_void, is_request, is_delivery}
use Rattle.replay_world.specs.declared.happened.Happened.{Happened}
use Rattle.replay_world.specs.declared.happened.Happened.TheVariants as kept
use Rattle.replay_world.specs.Outcomes.{outcome_of, outcomes_of}
use Rattle.replay_world.specs.Reports.{was_void, was_request, was_delivery, is_first}
use Rattle.replay_world.proofs.Kept.{outcomes_long}

-- how many pass does not depend on the order
pub same_count : {X : Type 0} (p : X → Bool) (xs : List X) → count_by p (reverse xs) ≡ count_by p xs
same_count p [] = refl
same_count p (x ∷ xs) =
    ap (count_by p) (reverse-append (x ∷ []) xs)
    ∙ sum_by_push (λ y. cond (p y) 1 0) (reverse xs) x
    ∙ ap (λ n. n + cond (p x) 1 0) (same_count p xs)
    ∙ add_comm (count_by p xs) (cond (p x) 1 0)
    ∙ sym (sum_by-cons (λ y. cond (p y) 1 0) x xs)

-- a test of what came of events, by a test of what is kept of them
kept_count : (history : List (Entry Content)) (p : EventOutcome → Bool) (q : Happened → Bool)
    → ((outcomes : List EventOutcome) (happened : Happened) → p (outcome_of history outcomes happened) ≡ q happened)
    → (happened : List Happened) → count_by p (outcomes_of history happened) ≡ count_by q happened
unfolding outcomes_of
kept_count history p q same [] = refl
kept_count history p q same (newest ∷ earlier) =
    sum_by-cons (λ outcome. cond (p outcome) 1 0) (outcome_of history (outcomes_of history earlier) newest) (outcomes_of history earlier)
    ∙ (λ i. cond (same (outcomes_of history earlier) newest i) 1 0 + kept_count history p q same earlier i)
    ∙ sym (sum_by-cons (λ happened. cond (q happened) 1 0) newest earlier)

void_kept : (history : List (Entry Content)) (outcomes : List EventOutcome) (happened : Happened) → is_void (outcome_of history outcomes happened) ≡ was_void happened
void_kept history outcomes kept.Void = refl
void_kept history outcomes kept.Done = refl
void_kept history outcomes (kept.Edited client kind number) = refl
void_kept history outcomes (kept.Requested client request bytes) = refl
void_kept history outcomes (kept.Delivered request before bytes) = refl

request_kept : (history : List (Entry Content)) (outcomes : List EventOutcome) (happened : Happened) → is_request (outcome_of history outcomes happened) ≡ was_request happened
request_kept history outcomes kept.Void = refl
request_kept history outcomes kept.Done = refl
request_kept history outcomes (kept.Edited client kind number) = refl
request_kept history outcomes (kept.Requested client request bytes) = refl
request_kept history outcomes (kept.Delivered request before bytes) = refl

delivery_kept : (history : List (Entry Content)) (outcomes : List EventOutcome) (happened : Happened) → is_delivery (outcome_of history outcomes happened) ≡ was_delivery happened
delivery_kept history outcomes kept.Void = refl
delivery_kept history outcomes kept.Done = refl
delivery_kept history outcomes (kept.Edited client kind number) = refl
delivery_kept history outcomes (kept.Requested client request bytes) = refl
delivery_kept history outcomes (kept.Delivered request before bytes) = refl

pub events_kept : (history : List (Entry Content)) (happened : List Happened) → length (outcomes_of history (reverse happened)) ≡ length happened
events_kept history happened = outcomes_long history (reverse happened) ∙ length-reverse happened

pub voids_kept : (history : List (Entry Content)) (happened : List Happened) → count_by is_void (outcomes_of history (reverse happened)) ≡ count_by was_void happened
voids_kept history happened = kept_count history is_void was_void (void_kept history) (reverse happened) ∙ same_count was_void happened

pub requests_kept : (history : List (Entry Content)) (happened : List Happened) → count_by is_request (outcomes_of history (reverse happened)) ≡ count_by was_request happened
requests_kept history happened = kept_count history is_request was_request (request_kept history) (reverse happened) ∙ same_count was_request happened

pub deliveries_kept : (history : List (Entry Content)) (happened : List Happened) → count_by is_delivery (outcomes_of history (reverse happened)) ≡ count_by was_delivery happened
deliveries_kept history happened = kept_count history is_delivery was_delivery (delivery_kept history) (reverse happened) ∙ same_count was_delivery happened

one_more : (first : Bool) (n : ℕ) → cond first (n + 1) n ≡ cond first 1 0 + n
one_more true n = add_comm n 1
one_more false n = omega arith

-- each key has one first write
keys_first : (history : List (Entry Content)) → IsBased history → key_count history ≡ count_by is_first history
keys_first [] based = refl
keys_first (write ∷ older) based =
    ap (λ version. cond (version == 0) (key_count older + 1) (key_count older)) (sym based.0)
    ∙ one_more (write.version == 0) (key_count older)
    ∙ ap (λ n. cond (write.version == 0) 1 0 + n) (keys_first older based.1)
    ∙ sym (sum_by-cons (λ (entry : Entry Content). cond (is_first entry) 1 0) write older)

pub keys_kept : (writes : List (Entry Content)) → IsBased (reverse writes) → count_by is_first writes ≡ key_count (reverse writes)
keys_kept writes based = sym (keys_first (reverse writes) based ∙ same_count is_first writes)
