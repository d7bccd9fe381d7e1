-- What is kept of the events of a world, as later events look for it.
use Rattle.std.proofs.Common.{◌≡◌, ℕ, suc, ◌+◌, ◌-◌, ◌<◌, ◌≤◌, arith, Bool, true, false, cond, List, [], ◌∷◌, length, drop, get_or, Option, Some, None, inl, inr, refl, sym, ap, subst, ◌∙◌, eqb, length-append}
use Rattle.std.specs.Prelude.{◌≢◌, ◌⊎◌, reverse}
use Rattle.std.specs.List.{AllByRecursion}
use Rattle.std.proofs.lemmas.Bool.Decides.{eqb_tells}
use Rattle.std.proofs.lemmas.List.{get_or-reverse, length-reverse}
use Rattle.std.proofs.Math.Seq.{drop-append-add}
use Rattle.sync_model.specs.declared.event.EventOutcome.{EventOutcome}
use Rattle.sync_model.specs.declared.event.EventOutcome.TheVariants.{Void, Requested, Delivered}
use Rattle.sync_model.specs.declared.message.Content.{Content}
use Rattle.sync_model.specs.declared.message.Entry.{Entry}
use Rattle.sync_model.specs.declared.message.Request.{Request}
use Rattle.sync_model.specs.Worlds.{outcome_at}
use Rattle.replay_world.specs.declared.happened.Happened.{Happened}
use Rattle.replay_world.specs.declared.happened.Happened.TheVariants as kept
use Rattle.replay_world.specs.Outcomes.{history_at, served_reply, reply_of, outcome_of, outcomes_of, kept_at, IsReply, IsKept, AreKept}
use Rattle.replay_world.proofs.Served.{IsLonger, longer_length}

apart : (a b : ℕ) → (a ≡ b → ⊥) → eqb a b ≡ false
apart a b differ = by_told (eqb_tells a b) where
  by_told : ((eqb a b ≡ true) × (a ≡ b)) ⊎ ((eqb a b ≡ false) × (a ≢ b)) → eqb a b ≡ false
  by_told (inl same) = absurd (differ same.1)
  by_told (inr other) = other.0

-- there is an outcome for each event
pub outcomes_long : (history : List (Entry Content)) (happened : List Happened) → length (outcomes_of history happened) ≡ length happened
unfolding outcomes_of
outcomes_long history [] = refl
outcomes_long history (newest ∷ earlier) = ap suc (outcomes_long history earlier)

-- an event that has not come yet
later : (happened : List Happened) (event : ℕ) → length happened < event → kept_at happened event ≡ None
unfolding kept_at
later [] event lt = refl
later (newest ∷ earlier) event lt = rw (apart event (length earlier + 1) (λ is. omega arith)) (later earlier event (omega arith))

none_is_first : (happened : List Happened) → kept_at happened 0 ≡ None
unfolding kept_at
none_is_first [] = refl
none_is_first (newest ∷ earlier) = rw (apart 0 (length earlier + 1) (λ is. omega arith)) (none_is_first earlier)

by_told : (newest d : Happened) (earlier : List Happened) (n : ℕ) → n < length (newest ∷ earlier)
    → ((eqb (n + 1) (length earlier + 1) ≡ true) × (n + 1 ≡ length earlier + 1)) ⊎ ((eqb (n + 1) (length earlier + 1) ≡ false) × (n + 1 ≢ length earlier + 1))
    → (n < length earlier → kept_at earlier (n + 1) ≡ Some (get_or earlier (length earlier - 1 - n) d))
    → cond (eqb (n + 1) (length earlier + 1)) (Some newest) (kept_at earlier (n + 1)) ≡ Some (get_or (newest ∷ earlier) (length (newest ∷ earlier) - 1 - n) d)
by_told newest d earlier n lt (inl same) rest =
    let place : length (newest ∷ earlier) - 1 - n ≡ 0 = omega (arith, same.1) in
    rw (same.0, place) refl
by_told newest d earlier n lt (inr other) rest =
    let below : n < length earlier = omega (arith, other.1) in
    let older : length (newest ∷ earlier) - 1 - n ≡ suc (length earlier - 1 - n) = omega (arith, other.1) in
    rw (other.0, older) (rest below)

-- an event that has come, counted from the newest
counted_back : (happened : List Happened) (n : ℕ) (d : Happened) → n < length happened → kept_at happened (n + 1) ≡ Some (get_or happened (length happened - 1 - n) d)
unfolding kept_at
counted_back [] n d lt = absurd (omega arith)
counted_back (newest ∷ earlier) n d lt = by_told newest d earlier n lt (eqb_tells (n + 1) (length earlier + 1)) (counted_back earlier n d)

pub kept_not_come : (happened : List Happened) (event : ℕ) → length happened < event → None ≡ kept_at (reverse happened) event
kept_not_come happened event lt = sym (later (reverse happened) event (omega (arith, length-reverse happened)))

pub kept_zero : (happened : List Happened) (event : ℕ) → event ≡ 0 → None ≡ kept_at (reverse happened) event
kept_zero happened event is = sym (ap (kept_at (reverse happened)) is ∙ none_is_first (reverse happened))

pub kept_come : (happened : List Happened) (event : ℕ) (found : Happened) → 0 < event → event ≤ length happened → found ≡ get_or happened (event - 1) found
    → Some found ≡ kept_at (reverse happened) event
kept_come happened event found above within is =
    let is_event : event - 1 + 1 ≡ event = omega arith in
    let len : length (reverse happened) ≡ length happened = length-reverse happened in
    let lt : event - 1 < length (reverse happened) = omega (arith, len) in
    let inside : length (reverse happened) - 1 - (event - 1) < length happened = omega (arith, len) in
    let back : length happened - 1 - (length (reverse happened) - 1 - (event - 1)) ≡ event - 1 = omega (arith, len) in
    ap (λ (h : Happened). Some h) (is ∙ sym (ap (λ n. get_or happened n found) back))
    ∙ sym (ap (λ (h : Happened). Some h) (get_or-reverse happened (length (reverse happened) - 1 - (event - 1)) found inside))
    ∙ sym (counted_back (reverse happened) (event - 1) found lt)
    ∙ ap (kept_at (reverse happened)) is_event

-- nothing came of an event of which nothing is kept
outcome_later : (outcomes : List EventOutcome) (event : ℕ) → length outcomes < event → outcome_at outcomes event ≡ Void
unfolding outcome_at
outcome_later [] event lt = refl
outcome_later (outcome ∷ earlier) event lt = rw (apart event (length earlier + 1) (λ is. omega arith)) (outcome_later earlier event (omega arith))

some_none : {P : Type 0} (happened : Happened) → Some happened ≡ None → P
some_none happened is = cc

missing_by : (here : Bool) (newest : Happened) (earlier : Option Happened) (outcome older : EventOutcome) → cond here (Some newest) earlier ≡ None → (earlier ≡ None → older ≡ Void)
    → cond here outcome older ≡ Void
missing_by true newest earlier outcome older none rest = some_none newest none
missing_by false newest earlier outcome older none rest = rest none

pub missing : (history : List (Entry Content)) (happened : List Happened) (event : ℕ) → kept_at happened event ≡ None → outcome_at (outcomes_of history happened) event ≡ Void
unfolding kept_at outcomes_of outcome_at
missing history [] event is = refl
missing history (newest ∷ earlier) event is =
    (λ i. cond (eqb event (outcomes_long history earlier i + 1)) (outcome_of history (outcomes_of history earlier) newest) (outcome_at (outcomes_of history earlier) event))
    ∙ missing_by (eqb event (length earlier + 1)) newest (kept_at earlier event) (outcome_of history (outcomes_of history earlier) newest) (outcome_at (outcomes_of history earlier) event) is (missing history earlier event)

-- a request stays one under a further event
still_asked : (outcome : EventOutcome) (earlier : List EventOutcome) (event client : ℕ) (request : Request Content)
    → outcome_at earlier event ≡ Requested client request → outcome_at (outcome ∷ earlier) event ≡ Requested client request
unfolding outcome_at
still_asked outcome earlier event client request is = by_place (eqb_tells event (length earlier + 1)) where
  void_asks : {P : Type 0} → Void ≡ Requested client request → P
  void_asks none = cc

  by_place : ((eqb event (length earlier + 1) ≡ true) × (event ≡ length earlier + 1)) ⊎ ((eqb event (length earlier + 1) ≡ false) × (event ≢ length earlier + 1))
      → cond (eqb event (length earlier + 1)) outcome (outcome_at earlier event) ≡ Requested client request
  by_place (inl here) = void_asks (sym (outcome_later earlier event (omega (arith, here.1))) ∙ is)
  by_place (inr other) = rw other.0 is

-- what is kept of an event: what came of it, and that this is right, by what came of the events before it
pub record IsFound (history : List (Entry Content)) (outcomes : List EventOutcome) (event : ℕ) (happened : Happened) : Type 0 where
  pub before : List EventOutcome
  pub is_outcome : outcome_at outcomes event ≡ outcome_of history before happened
  pub is_kept : IsKept history before happened
  pub asked : (number client : ℕ) (request : Request Content) → outcome_at before number ≡ Requested client request → outcome_at outcomes number ≡ Requested client request

same_Some : (a b : Happened) → Some a ≡ Some b → a ≡ b
same_Some a b is = cc

-- the newest event, or an earlier one
outcome_by : (history : List (Entry Content)) (newest : Happened) (earlier : List Happened) (event : ℕ) (here : Bool) → eqb event (length earlier + 1) ≡ here
    → outcome_at (outcomes_of history (newest ∷ earlier)) event ≡ cond here (outcome_of history (outcomes_of history earlier) newest) (outcome_at (outcomes_of history earlier) event)
unfolding outcome_at outcomes_of
outcome_by history newest earlier event here test =
    (λ i. cond (eqb event (outcomes_long history earlier i + 1)) (outcome_of history (outcomes_of history earlier) newest) (outcome_at (outcomes_of history earlier) event))
    ∙ (λ i. cond (test i) (outcome_of history (outcomes_of history earlier) newest) (outcome_at (outcomes_of history earlier) event))

asked_still : (history : List (Entry Content)) (newest : Happened) (earlier : List Happened) (number client : ℕ) (request : Request Content)
    → outcome_at (outcomes_of history earlier) number ≡ Requested client request → outcome_at (outcomes_of history (newest ∷ earlier)) number ≡ Requested client request
unfolding outcomes_of
asked_still history newest earlier number client request made = still_asked (outcome_of history (outcomes_of history earlier) newest) (outcomes_of history earlier) number client request made

found_by : (history : List (Entry Content)) (newest : Happened) (earlier : List Happened) (event : ℕ) (is_found : Happened) (here : Bool) → eqb event (length earlier + 1) ≡ here
    → cond here (Some newest) (kept_at earlier event) ≡ Some is_found → IsKept history (outcomes_of history earlier) newest
    → (kept_at earlier event ≡ Some is_found → IsFound history (outcomes_of history earlier) event is_found)
    → IsFound history (outcomes_of history (newest ∷ earlier)) event is_found
found_by history newest earlier event is_found true test top is rest = record {
  before = outcomes_of history earlier;
  is_outcome = outcome_by history newest earlier event true test ∙ ap (outcome_of history (outcomes_of history earlier)) (same_Some newest is_found top);
  is_kept = subst (λ (h : Happened). IsKept history (outcomes_of history earlier) h) (same_Some newest is_found top) is;
  asked = asked_still history newest earlier;
}
found_by history newest earlier event is_found false test below is rest = record {
  before = (rest below).before;
  is_outcome = outcome_by history newest earlier event false test ∙ (rest below).is_outcome;
  is_kept = (rest below).is_kept;
  asked = λ number client request made. asked_still history newest earlier number client request ((rest below).asked number client request made);
}

pub found : (history : List (Entry Content)) (happened : List Happened) (event : ℕ) (is_found : Happened) → AreKept history happened → kept_at happened event ≡ Some is_found
    → IsFound history (outcomes_of history happened) event is_found
unfolding kept_at AreKept
found history [] event is_found are is = some_none is_found (sym is)
found history (newest ∷ earlier) event is_found are is =
    found_by history newest earlier event is_found (eqb event (length earlier + 1)) refl is are.0 (found history earlier event is_found are.1)

all_by : (P : Happened → Type 0) (newest is_found : Happened) (earlier : Option Happened) (here : Bool) → cond here (Some newest) earlier ≡ Some is_found → P newest → (earlier ≡ Some is_found → P is_found) → P is_found
all_by P newest is_found earlier true top first rest = subst P (same_Some newest is_found top) first
all_by P newest is_found earlier false below first rest = rest below

-- what each of some events has, the one that is found has
pub all_found : (P : Happened → Type 0) (happened : List Happened) (event : ℕ) (is_found : Happened) → AllByRecursion P happened → kept_at happened event ≡ Some is_found → P is_found
unfolding kept_at
all_found P [] event is_found all is = some_none is_found (sym is)
all_found P (newest ∷ earlier) event is_found all is = all_by P newest is_found (kept_at earlier event) (eqb event (length earlier + 1)) is all.0 (all_found P earlier event is_found all.1)

-- a history as it was stays so under further writes
history_at-longer : (history before : List (Entry Content)) (count : ℕ) → IsLonger history before → count ≤ length before → history_at history count ≡ history_at before count
unfolding IsLonger
history_at-longer history before count longer le =
    let more : List (Entry Content) = longer.0 in
    let place : length history - count ≡ length more + (length before - count) = omega (arith, ap length longer.1, length-append more before, le) in
    (λ i. drop (place i) (longer.1 i)) ∙ drop-append-add more before (length before - count)

-- what came of events, and what is kept of them, stay right under further writes
pub record AreStill (history before : List (Entry Content)) (happened : List Happened) : Type 0 where
  pub same : outcomes_of history happened ≡ outcomes_of before happened
  pub kept : AreKept history happened

outcome_still : (history before : List (Entry Content)) (outcomes : List EventOutcome) (happened : Happened) → IsLonger history before → IsKept before outcomes happened
    → outcome_of history outcomes happened ≡ outcome_of before outcomes happened
outcome_still history before outcomes kept.Void longer is = refl
outcome_still history before outcomes kept.Done longer is = refl
outcome_still history before outcomes (kept.Edited client kind number) longer is = refl
outcome_still history before outcomes (kept.Requested client request bytes) longer is = refl
outcome_still history before outcomes (kept.Delivered request count bytes) longer is =
    λ i. Delivered request (reply_of (history_at-longer history before count longer is.within i) (outcome_at outcomes request))

kept_still : (history before : List (Entry Content)) (outcomes : List EventOutcome) (happened : Happened) → IsLonger history before → IsKept before outcomes happened
    → IsKept history outcomes happened
kept_still history before outcomes kept.Void longer is = tt
kept_still history before outcomes kept.Done longer is = tt
kept_still history before outcomes (kept.Edited client kind number) longer is = tt
kept_still history before outcomes (kept.Requested client request bytes) longer is = is
kept_still history before outcomes (kept.Delivered request count bytes) longer is = record {
  client = is.client;
  request = is.request;
  made = is.made;
  within = omega (arith, is.within, longer_length history before longer);
  says = subst (λ (past : List (Entry Content)). IsReply is.request (served_reply past is.request) bytes) (sym (history_at-longer history before count longer is.within)) is.says;
}

pub still : (history before : List (Entry Content)) (happened : List Happened) → IsLonger history before → AreKept before happened → AreStill history before happened
unfolding outcomes_of AreKept
still history before [] longer are = record { same = refl; kept = tt }
still history before (newest ∷ earlier) longer are =
    let rest : AreStill history before earlier = still history before earlier longer are.1 in
    record {
      same = (λ i. outcome_of history (rest.same i) newest ∷ rest.same i)
          ∙ ap (λ (outcome : EventOutcome). outcome ∷ outcomes_of before earlier) (outcome_still history before (outcomes_of before earlier) newest longer are.0);
      kept = (subst (λ (outcomes : List EventOutcome). IsKept history outcomes newest) (sym rest.same) (kept_still history before (outcomes_of before earlier) newest longer are.0), rest.kept);
    }
