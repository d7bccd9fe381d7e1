-- An edit is not lost to an earlier offer of its own client, unless too many of its key were offered over one version.
use Rattle.std.proofs.Common.{◌≡◌, ℕ, zero, suc, ◌<◌, ◌≤◌, ◌⊎◌, true, List, [], ◌∷◌, length, map, slice_get, Option, Some, None, refl, sym, ap, ◌∙◌, subst, arith, inl, inr}
use Rattle.std.specs.List.{AllByRecursion}
use Rattle.std.proofs.lemmas.List.{length-map}
use Rattle.std.proofs.lemmas.Option.{none-some, same_Some}
use Rattle.sync_values.specs.declared.edit.Edit.{Edit}
use Rattle.sync_values.specs.declared.value.Value.{Value}
use Rattle.sync_model.specs.declared.conflict.Choice.{Choice}
use Rattle.sync_model.specs.declared.conflict.Row.{Row}
use Rattle.sync_model.specs.declared.event.Event.TheVariants.{Turn}
use Rattle.sync_model.specs.declared.event.Schedule.{Schedule}
use Rattle.sync_model.specs.declared.fate.Fate.{Fate}
use Rattle.sync_model.specs.declared.fate.Fate.TheVariants.{Followed, Committed, Matched, Taken, Merged}
use Rattle.sync_model.specs.declared.message.Content.{Content}
use Rattle.sync_model.specs.declared.message.Entry.{Entry}
use Rattle.sync_model.specs.declared.message.Key.{Key}
use Rattle.sync_model.specs.declared.state.KeyState.{KeyState}
use Rattle.sync_model.specs.declared.state.Offered.{Offered}
use Rattle.sync_model.specs.Edits.{edit_kind}
use Rattle.sync_model.specs.Settings.{Setting, decided_by}
use Rattle.sync_model.specs.History.{write_at, IsBased}
use Rattle.sync_model.specs.Conflicts.{choice_of}
use Rattle.sync_model.specs.KeyStates.{is_echo, MAX_OFFERED}
use Rattle.sync_model.specs.Changes.{edit_hash}
use Rattle.sync_model.specs.Fates.{fate_of}
use Rattle.sync_model.specs.Sides.{state_at}
use Rattle.sync_model.specs.Worlds.{World, client_at, world_of}
use Rattle.sync_model.specs.Laws.{world_before, state_of_edit, edit_key, IsTaking, IsMerging, IsSettledByRow, IsTrueFate}
use Rattle.sync_model.specs.Outcomes.{entries_in}
use Rattle.sync_model.specs.Facts.{IsKnown, IsTrueUpdate, WorldFacts}
use Rattle.sync_model.specs.FateFacts.{side_at}
use Rattle.sync_model.specs.EchoFacts.{AreAscending, WasOffered, ArePairsKept, StandsAmong, IsOfferKept, state_of, IsEntryKept, IsClientKept}
use Rattle.sync_model.specs.EchoLaws.{IsLostTo, IsEarlierOffer, AreTooManyOffered, EveryOwnEchoIsKnown}
use Rattle.sync_model.proofs.Versions.{world_of-IsBased}
use Rattle.sync_model.proofs.Histories.{at_top, write_at-le}
use Rattle.sync_model.proofs.Writes.{le_last, write_at-longer}
use Rattle.sync_model.proofs.KnownWorlds.{world_of-facts}
use Rattle.sync_model.proofs.FateNumbers.{world_of-numbers}
use Rattle.sync_model.proofs.FateStays.{stays_to_end}
use Rattle.sync_model.proofs.FateStarts.{made_by_some}
use Rattle.sync_model.proofs.FateLaw.{made_true}
use Rattle.sync_model.proofs.EchoWorlds.{before_kept}
use Rattle.sync_model.proofs.EchoTurns.{IsLostBy, lost_turn}
use Rattle.sync_model.proofs.EchoAuthors.{IsSentEntry, sent_before}
use Rattle.sync_model.proofs.EchoConflicts.{earlier_echo, row_keeps_echo}

-- a write is based on no version below one of its key that was there before it
based_above : (history : List (Entry Content)) (version known : ℕ) (write other : Entry Content) → IsBased history
    → write_at history version ≡ Some write → write_at history known ≡ Some other → other.key ≡ write.key → known < version → known ≤ write.version
based_above [] version known write other based at is same below = absurd (none-some write at)
based_above (newest ∷ older) version known write other based at is same below =
    at_top {P = known ≤ write.version} write newest older version at
    (λ top equal. at_top {P = known ≤ write.version} other newest older known is
    (λ place also. absurd (omega (arith, top, place, below)))
    (λ before. subst (λ (found : Entry Content). known ≤ found.version) equal
    (subst (λ (last : ℕ). known ≤ last) (sym based.0) (le_last older newest.key known other before (same ∙ ap (λ (found : Entry Content). found.key) (sym equal))))))
    (λ earlier. at_top {P = known ≤ write.version} other newest older known is
    (λ place also. absurd (omega (arith, place, below, write_at-le older version write earlier)))
    (λ before. based_above older version known write other based.1 earlier before same below))

-- what is known of a key is not above the version that a newer write of it is based on
known_below : (history : List (Entry Content)) (state : KeyState) (version : ℕ) (write : Entry Content) → IsBased history
    → write_at history version ≡ Some write → IsKnown history write.key state → state.known < version → state.known ≤ write.version
known_below history state version write based at (inl nothing) below = omega (arith, nothing.0)
known_below history state version write based at (inr is) below =
    based_above history version state.known write is.write based at is.is_write is.has_key below

-- each of some things, by its place
all_get : {X : Type 0} (Is : X → Type 0) (xs : List X) (place : ℕ) (x : X) → AllByRecursion Is xs → slice_get xs place ≡ Some x → Is x
all_get Is [] place x all at = absurd (none-some x at)
all_get Is (first ∷ xs) zero x all at = subst Is (same_Some first x at) all.0
all_get Is (first ∷ xs) (suc place) x all at = all_get Is xs place x all.1 at

-- the numbers of pairs
all_numbers : (Is : ℕ → Type 0) (pairs : List Offered) → AllByRecursion (λ pair. Is pair.number) pairs
    → AllByRecursion Is (map (λ (pair : Offered). pair.number) pairs)
all_numbers Is [] all = tt
all_numbers Is (pair ∷ pairs) all = (all.0, all_numbers Is pairs all.1)

ascending_numbers : (pairs : List Offered) → AreAscending (λ (pair : Offered). pair.number) pairs
    → AreAscending (λ (number : ℕ). number) (map (λ (pair : Offered). pair.number) pairs)
ascending_numbers [] ascending = tt
ascending_numbers (pair ∷ pairs) ascending =
    (all_numbers (λ next. pair.number < next) pairs ascending.0, ascending_numbers pairs ascending.1)

as_many : (pairs : List Offered) → length (map (λ (pair : Offered). pair.number) pairs) ≡ length pairs
as_many pairs = length-map pairs (λ (pair : Offered). pair.number)

-- nine edits of a key that were offered over one version: eight that stand as pairs, and one below them
too_many : (setting : Setting) (schedule : Schedule) (client : ℕ) (key : Key) (state : KeyState) (number : ℕ)
    → ArePairsKept (WasOffered setting schedule client key) state → WasOffered setting schedule client key state.known number
    → length state.offered ≡ MAX_OFFERED → AllByRecursion (λ pair. number < pair.number) state.offered
    → AreTooManyOffered setting schedule client key
too_many setting schedule client key state number kept was full above = record {
  known = state.known;
  numbers = number ∷ map (λ (pair : Offered). pair.number) state.offered;
  ascending = (all_numbers (λ next. number < next) state.offered above, ascending_numbers state.offered kept.ascending);
  many = omega (arith, full, as_many state.offered);
  offered = (was, all_numbers (WasOffered setting schedule client key state.known) state.offered kept.offered);
}

-- an earlier offer is no echo to a key that loses its edit to it, so too many were offered
lost_state : (setting : Setting) (schedule : Schedule) (client due : ℕ) (key : Key) (state : KeyState) (version number : ℕ) (value : Value)
    → ArePairsKept (WasOffered setting schedule client key) state → IsOfferKept (WasOffered setting schedule client key) state version number value
    → state.known ≤ version → state.due ≡ Some due → number < due → (is_echo state value ≡ true → ⊥)
    → AreTooManyOffered setting schedule client key
lost_state setting schedule client due key state version number value pairs kept known is below differs = by (kept.stands same)
  where
    same : version ≡ state.known
    same = omega (arith, kept.within, known)

    by : StandsAmong state.offered number value → AreTooManyOffered setting schedule client key
    by (inl any) = absurd (differs (earlier_echo state due number value is below any))
    by (inr full) = too_many setting schedule client key state number pairs
        (subst (λ (over : ℕ). WasOffered setting schedule client key over number) (omega (arith, kept.within, known)) kept.offered) full.0 full.1

-- a turn that settled an edit by a row which takes or merges a write: where the write was offered by its own client before, too many were
lost_by_row : (setting : Setting) (schedule : Schedule) (place number : ℕ) (edit : Edit) (version : ℕ) (row : Row) (fate : Fate) (Does : Choice → Type 0)
    → ((choice : Choice) → Does choice → IsTaking choice ⊎ IsMerging choice) → IsLostTo (Some fate) version
    → IsSettledByRow setting schedule (suc place) number edit version row fate Does
    → IsEarlierOffer (world_of setting schedule) (suc place) version number
    → AreTooManyOffered setting schedule (suc place) (edit_key setting edit)
lost_by_row setting schedule place number edit version row fate Does loses lost settled offer = by found
  where
    world : World
    world = world_before setting schedule settled.before

    known : WorldFacts (world_before setting schedule settled.before)
    known = world_of-facts setting (record schedule { events = settled.before })

    state : KeyState
    state = state_of_edit setting (world_before setting schedule settled.before) (suc place) edit

    at_end : write_at (world_of setting schedule).history version ≡ Some settled.of_key.write
    at_end = stays_to_end (λ history outcomes. write_at history version ≡ Some settled.of_key.write) record {
      longer = λ history outcomes next is. write_at-longer history version next settled.of_key.write is;
      later = λ history outcomes outcome is. is;
    } setting schedule settled.before (Turn (suc place) (edit_kind edit) ∷ settled.later) settled.splits settled.of_key.is_write

    sent : IsSentEntry (world_before setting schedule settled.before) (suc place) version
    sent = sent_before setting schedule settled.before (Turn (suc place) (edit_kind edit) ∷ settled.later) (suc place) version settled.splits offer.author
        (write_at-le (world_before setting schedule settled.before).history version settled.of_key.write settled.of_key.is_write)

    found : IsLostBy (IsTrueUpdate (world_before setting schedule settled.before).history (edit_kind edit))
        (side_at (world_before setting schedule settled.before) (suc place) (edit_kind edit)).states version
    found = lost_turn setting (world_before setting schedule settled.before) place (edit_kind edit) number version
        (world_of-numbers setting (record schedule { events = settled.before })) (world_of-facts setting (record schedule { events = settled.before }))
        settled.stood (subst (λ (given : Option Fate). IsLostTo given version) (sym settled.settles) lost)

    kept : IsClientKept (WasOffered setting schedule (suc place)) (suc place) (world_before setting schedule settled.before).outcomes
        (client_at (world_before setting schedule settled.before).clients (suc place))
    kept = before_kept setting schedule settled.before (Turn (suc place) (edit_kind edit) ∷ settled.later) settled.splits place

    -- the entry that was sent is the write of the key
    is_write : sent.entry ≡ settled.of_key.write
    is_write = same_Some sent.entry settled.of_key.write (sym sent.is_write ∙ settled.of_key.is_write)

    entry_kept : IsEntryKept (WasOffered setting schedule (suc place)) (client_at (world_before setting schedule settled.before).clients (suc place)) settled.of_key.write
    entry_kept = subst (λ (entry : Entry Content). IsEntryKept (WasOffered setting schedule (suc place)) (client_at (world_before setting schedule settled.before).clients (suc place)) entry)
        is_write (all_get (IsEntryKept (WasOffered setting schedule (suc place)) (client_at (world_before setting schedule settled.before).clients (suc place)))
        (entries_in sent.request.call) sent.place sent.entry (kept.sent sent.event sent.request sent.made) sent.is_sent)

    earlier : settled.of_key.write.content.number < number
    earlier = subst (λ (entry : Entry Content). entry.content.number < number)
        (same_Some offer.write settled.of_key.write (sym offer.is_write ∙ at_end)) offer.earlier

    no_echo : is_echo state settled.of_key.write.content.value ≡ true → ⊥
    no_echo is = row_keeps_echo (is_echo state settled.of_key.write.content.value) state.base state.own settled.of_key.write.content.value
        (decided_by setting (edit_kind edit) state.own settled.of_key.write.content.value) row is settled.fits
        (loses (choice_of row (decided_by setting (edit_kind edit) state.own settled.of_key.write.content.value)) settled.does)

    by : IsLostBy (IsTrueUpdate (world_before setting schedule settled.before).history (edit_kind edit))
        (side_at (world_before setting schedule settled.before) (suc place) (edit_kind edit)).states version
        → AreTooManyOffered setting schedule (suc place) (edit_key setting edit)
    by met =
        let same_hash : met.update.hash ≡ edit_hash setting edit
        = ap (λ (key : Key). key.hash) (sym met.is_so.has_key
        ∙ ap (λ (entry : Entry Content). entry.key) (same_Some met.is_so.write settled.of_key.write
        (sym met.is_so.is_write ∙ ap (λ (at : ℕ). write_at (world_before setting schedule settled.before).history at) met.same ∙ settled.of_key.is_write))
        ∙ settled.of_key.key)
        in let above : state.known < version
        = subst (λ (at : ℕ). state.known < at) met.same
        (subst (λ (hash : List ℕ). (state_at (side_at (world_before setting schedule settled.before) (suc place) (edit_kind edit)).states hash).known < met.update.version)
        same_hash met.above)
        in lost_state setting schedule (suc place) number (edit_key setting edit) state settled.of_key.write.version settled.of_key.write.content.number
        settled.of_key.write.content.value ((kept.sides (edit_kind edit)).pairs (edit_hash setting edit))
        (subst (λ (key : Key). IsOfferKept (WasOffered setting schedule (suc place) key)
        (state_of (client_at (world_before setting schedule settled.before).clients (suc place)) key)
        settled.of_key.write.version settled.of_key.write.content.number settled.of_key.write.content.value) settled.of_key.key entry_kept)
        (known_below (world_before setting schedule settled.before).history state version settled.of_key.write
        (world_of-IsBased setting (record schedule { events = settled.before })) settled.of_key.is_write
        (subst (λ (key : Key). IsKnown (world_before setting schedule settled.before).history key state) (sym settled.of_key.key)
        (((known.clients (suc place)).sides (edit_kind edit)).keys (edit_hash setting edit)).is_known) above)
        settled.due earlier no_echo

-- an edit that is lost was settled by a row that takes or merges the write
lost_fate : (setting : Setting) (schedule : Schedule) (place number : ℕ) (edit : Edit) (value : Value) (version : ℕ) (fate : Option Fate)
    → IsTrueFate setting schedule (suc place) number edit value fate → IsLostTo fate version
    → IsEarlierOffer (world_of setting schedule) (suc place) version number
    → AreTooManyOffered setting schedule (suc place) (edit_key setting edit)
lost_fate setting schedule place number edit value version (Some (Taken write row)) is lost offer =
    lost_by_row setting schedule place number edit write row (Taken write row) IsTaking (λ choice does. inl does) refl is
    (subst (λ (at : ℕ). IsEarlierOffer (world_of setting schedule) (suc place) at number) (sym lost) offer)
lost_fate setting schedule place number edit value version (Some (Merged write row)) is lost offer =
    lost_by_row setting schedule place number edit write row (Merged write row) IsMerging (λ choice does. inr does) refl is
    (subst (λ (at : ℕ). IsEarlierOffer (world_of setting schedule) (suc place) at number) (sym lost) offer)
lost_fate setting schedule place number edit value version (Some (Followed later)) is lost offer = absurd lost
lost_fate setting schedule place number edit value version (Some (Committed write)) is lost offer = absurd lost
lost_fate setting schedule place number edit value version (Some (Matched write)) is lost offer = absurd lost
lost_fate setting schedule place number edit value version None is lost offer = absurd lost

pub world_of-EveryOwnEchoIsKnown : EveryOwnEchoIsKnown
world_of-EveryOwnEchoIsKnown setting allowed schedule zero number edit value made version lost offer =
    absurd (made_by_some setting made.event (world_before setting schedule made.before) edit made.user made.makes made.done)
world_of-EveryOwnEchoIsKnown setting allowed schedule (suc place) number edit value made version lost offer =
    lost_fate setting schedule place number edit value version (fate_of (world_of setting schedule).settlements (suc place) (edit_kind edit) number)
    (made_true setting schedule (suc place) number edit value made) lost offer
