-- A change of a key is taken back by what there was before.
use Rattle.std.proofs.Common.{◌≡◌, ℕ, true, List, [], ◌∷◌, Option, Some, None, refl, sym, ap, ◌∙◌, subst}
use Rattle.std.specs.Prelude.{is_some, IsTrue, unwrap_or}
use Rattle.std.specs.Option.{IsSome, option_map}
use Rattle.std.specs.BTreeMap.{is_at}
use Rattle.std.specs.Cmp.Lexicographic.{slice_cmp}
use Rattle.std.specs.Map.{lookup, remove_entry}
use Rattle.std.specs.Ordering.{nat_cmp, match_ordering}
use Rattle.std.specs.declared.cmp.Ordering.{Ordering}
use Rattle.std.specs.declared.cmp.Ordering.TheVariants.{Less, Equal, Greater}
use Rattle.entity_tracker.specs.Tracked.{Tracked}
use Rattle.sync_model.specs.declared.state.KeyState.{KeyState}
use Rattle.sync_model.specs.Sides.{States, has_state, with_state}
use Rattle.type_processor.specs.Keyed.{hashes_of, key_of, found_at, key_with, key_at}
use Rattle.type_processor.specs.declared.journal.Change.{Change}
use Rattle.type_processor.specs.Journals.{IsChange, LeadsBack, LeadsBackBy}
use Rattle.type_processor.proofs.KeyedEntries.{ties_itself}
use Rattle.type_processor.proofs.EntryChanges.{undo_new, undo_kept}

has_by : (hash : List ℕ) (state : KeyState) (e : List ℕ × KeyState) (es rest : States) (o : Ordering)
    → slice_cmp nat_cmp hash e.0 ≡ o → is_some (lookup (is_at (slice_cmp nat_cmp hash)) rest) ≡ true
    → is_some (lookup (is_at (slice_cmp nat_cmp hash)) (match_ordering o ((hash, state) ∷ e ∷ es) ((e.0, state) ∷ es) (e ∷ rest))) ≡ true
has_by hash state e es rest Less is has = rw (ties_itself hash) refl
has_by hash state e es rest Equal is has = rw is refl
has_by hash state e es rest Greater is has = rw is has

-- a key that was put is there
pub has_put : (states : States) (hash : List ℕ) (state : KeyState) → IsTrue (has_state (with_state states hash state) hash)
has_put [] hash state = rw (ties_itself hash) refl
has_put (e ∷ es) hash state = has_by hash state e es (with_state es hash state) (slice_cmp nat_cmp hash e.0) refl (has_put es hash state)

abbrev pub nothing : Option (List ℕ × KeyState)
nothing = None

pub no_tracker : (hash : List ℕ) (found : Option KeyState) → nothing ≡ key_with hash found → found ≡ None
no_tracker hash None same = refl
no_tracker hash (Some state) same = cc

abbrev pub the_key : Tracked → Option (List ℕ × KeyState)
the_key tracker = Some (key_of tracker)

pub tracker_hash : (hash : List ℕ) (found : Option KeyState) (tracker : Tracked) → the_key tracker ≡ key_with hash found → tracker.hash ≡ hash
tracker_hash hash None tracker same = cc
tracker_hash hash (Some state) tracker same = ap (λ (key : Option (List ℕ × KeyState)). (unwrap_or key (key_of tracker)).0) same

pub tracker_found : (hash : List ℕ) (found : Option KeyState) (tracker : Tracked) → the_key tracker ≡ key_with hash found → found ≡ Some tracker.state
tracker_found hash None tracker same = cc
tracker_found hash (Some state) tracker same = sym (ap (λ (key : Option (List ℕ × KeyState)). Some (unwrap_or key (key_of tracker)).1) same)

-- a key that was new is taken out again
pub back_to_none : (change : Change) (before after new : States) → change.before ≡ None
    → new ≡ remove_entry (is_at (slice_cmp nat_cmp change.hash)) after → IsChange change before after → new ≡ before
back_to_none change before after new none is_new change_is =
    is_new ∙ ap (remove_entry (is_at (slice_cmp nat_cmp change.hash))) change_is.put
    ∙ undo_new (slice_cmp nat_cmp) before change.hash change_is.state (ties_itself change.hash)
    (no_tracker change.hash (found_at before change.hash) (ap (option_map key_of) (sym none) ∙ change_is.before_was))

-- a key that had a tracker has it again
pub back_to_some : (change : Change) (before after new : States) (tracker : Tracked) → change.before ≡ Some tracker
    → (IsTrue (has_state after tracker.hash) → new ≡ with_state after tracker.hash tracker.state) → IsChange change before after → new ≡ before
back_to_some change before after new tracker some is_new change_is =
    let told : the_key tracker ≡ key_at before change.hash = ap (option_map key_of) (sym some) ∙ change_is.before_was in
    let hash : tracker.hash ≡ change.hash = tracker_hash change.hash (found_at before change.hash) tracker told in
    let found : found_at before change.hash ≡ Some tracker.state = tracker_found change.hash (found_at before change.hash) tracker told in
    is_new (rw (hash, change_is.put) (has_put before change.hash change_is.state))
    ∙ ap (λ (key : List ℕ). with_state after key tracker.state) hash
    ∙ ap (λ (states : States). with_state states change.hash tracker.state) change_is.put
    ∙ undo_kept (slice_cmp nat_cmp) before change.hash change_is.state tracker.state
    (ap hashes_of (sym change_is.put) ∙ change_is.kept (rw some refl)) found

-- one change less leads back
pub goes_back : (change : Change) (rest all : List Change) (first now new : States) → all ≡ change ∷ rest
    → ((before : States) → IsChange change before now → new ≡ before) → LeadsBack all first now → LeadsBack rest first new
goes_back change rest all first now new is back leads =
    let by : LeadsBackBy change (LeadsBack rest first) now = subst (λ (changes : List Change). LeadsBack changes first now) is leads in
    subst (LeadsBack rest first) (sym (back by.before by.change_is)) by.rest_leads

-- one change more leads back
pub goes_on : (change : Change) (rest all : List Change) (first now new : States) → all ≡ change ∷ rest
    → IsChange change now new → LeadsBack rest first now → LeadsBack all first new
goes_on change rest all first now new is change_is leads =
    subst (λ (changes : List Change). LeadsBack changes first new) (sym is) (record { before = now; change_is = change_is; rest_leads = leads })

has_tracker : (hash : List ℕ) (told : Option Tracked) (found : Option KeyState) → option_map key_of told ≡ key_with hash found
    → IsTrue (is_some found) → IsSome told
has_tracker hash told None is has = cc
has_tracker hash None (Some state) is has = cc
has_tracker hash (Some tracker) (Some state) is has = refl

-- a key that is there had a tracker
pub had_tracker : (states : States) (hash : List ℕ) (told : Option Tracked) → option_map key_of told ≡ key_at states hash → IsTrue (has_state states hash)
    → IsSome told
had_tracker states hash told is has = has_tracker hash told (found_at states hash) is has

-- before the first change
pub at_start : (changes : List Change) (states : States) → changes ≡ [] → LeadsBack changes states states
at_start changes states none = subst (λ (changes : List Change). LeadsBack changes states states) (sym none) refl
