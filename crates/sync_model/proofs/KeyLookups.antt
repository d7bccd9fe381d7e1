-- What stands at each key of a side once the state of one of them is set.
use Rattle.std.proofs.Common.{◌≡◌, ℕ, ◌⊎◌, Bool, true, false, cond, List, [], ◌∷◌, Option, Some, None, unwrap_or, refl, sym, ap, ◌∙◌, subst, inl, inr, is_eq, nat_cmp, Ordering, Less, Equal, Greater}
use Rattle.std.specs.BTreeMap.{is_at}
use Rattle.std.specs.Map.{lookup}
use Rattle.std.specs.Ordering.{match_ordering}
use Rattle.std.specs.Cmp.Lexicographic.{slice_cmp}
use Rattle.std.proofs.lemmas.Bool.{cond-true, cond-false}
use Rattle.std.proofs.lemmas.Map.Text.{is_eq-slice_cmp}
use Rattle.std.proofs.lemmas.Slice.Eq.{bytes_eq-Decides}
use Rattle.sync_model.specs.declared.state.KeyState.{KeyState}
use Rattle.sync_model.specs.KeyStates.{new_state}
use Rattle.sync_model.specs.Sides.{States, state_at, with_state}

-- two hashes that a test finds equal are one
pub tested_same : (a b : List ℕ) → is_eq (slice_cmp nat_cmp a b) ≡ true → a ≡ b
tested_same a b is = (bytes_eq-Decides a b).0 (sym (is_eq-slice_cmp a b) ∙ is)

pub tested_itself : (a : List ℕ) → is_eq (slice_cmp nat_cmp a a) ≡ true
tested_itself a = is_eq-slice_cmp a a ∙ (bytes_eq-Decides a a).1 refl

-- a value that a test finds first, or what comes after it
found_by : (found : Bool) (hash other : List ℕ) (state : KeyState) (rest : Option KeyState) → is_eq (slice_cmp nat_cmp other hash) ≡ found
    → (cond found (Some state) rest ≡ rest) ⊎ ((cond found (Some state) rest ≡ Some state) × (other ≡ hash))
found_by true hash other state rest is = inr (refl, tested_same other hash is)
found_by false hash other state rest is = inl refl

-- what stands behind an item of which a test tells nothing new
behind_by : (found : Bool) (hash other : List ℕ) (state old : KeyState) (new rest : Option KeyState)
    → ((new ≡ rest) ⊎ ((new ≡ Some state) × (other ≡ hash)))
    → (cond found (Some old) new ≡ cond found (Some old) rest) ⊎ ((cond found (Some old) new ≡ Some state) × (other ≡ hash))
behind_by true hash other state old new rest is = inl refl
behind_by false hash other state old new rest is = is

-- a value in place of one of the same key
in_place_by : (found : Bool) (hash here other : List ℕ) (state old : KeyState) (rest : Option KeyState)
    → is_eq (slice_cmp nat_cmp other here) ≡ found → hash ≡ here
    → (cond found (Some state) rest ≡ cond found (Some old) rest) ⊎ ((cond found (Some state) rest ≡ Some state) × (other ≡ hash))
in_place_by true hash here other state old rest is same = inr (refl, tested_same other here is ∙ sym same)
in_place_by false hash here other state old rest is same = inl refl

abbrev look : States → List ℕ → Option KeyState
look states hash = lookup (is_at (slice_cmp nat_cmp hash)) states

inserted_by : (order : Ordering) (states : States) (here : List ℕ × KeyState) (hash other : List ℕ) (state : KeyState)
    → slice_cmp nat_cmp hash here.0 ≡ order
    → ((look (with_state states hash state) other ≡ look states other) ⊎ ((look (with_state states hash state) other ≡ Some state) × (other ≡ hash)))
    → (look (match_ordering order ((hash, state) ∷ here ∷ states) ((here.0, state) ∷ states) (here ∷ with_state states hash state)) other ≡ look (here ∷ states) other)
    ⊎ ((look (match_ordering order ((hash, state) ∷ here ∷ states) ((here.0, state) ∷ states) (here ∷ with_state states hash state)) other ≡ Some state) × (other ≡ hash))
inserted_by Less states here hash other state is rest = found_by _ hash other state (look (here ∷ states) other) refl
inserted_by Equal states here hash other state is rest =
    in_place_by _ hash here.0 other state here.1 (look states other) refl (tested_same hash here.0 (ap is_eq is))
inserted_by Greater states here hash other state is rest =
    behind_by (is_eq (slice_cmp nat_cmp other here.0)) hash other state here.1 _ (look states other) rest

inserted_look : (states : States) (hash other : List ℕ) (state : KeyState)
    → (look (with_state states hash state) other ≡ look states other) ⊎ ((look (with_state states hash state) other ≡ Some state) × (other ≡ hash))
inserted_look [] hash other state = found_by _ hash other state None refl
inserted_look (here ∷ states) hash other state =
    inserted_by (slice_cmp nat_cmp hash here.0) states here hash other state refl (inserted_look states hash other state)

-- the state of a key is as it was, or it is the new one of that key
abbrev pub IsSetAt : States → States → List ℕ → KeyState → Type 0
IsSetAt old new hash state = (other : List ℕ)
    → (state_at new other ≡ state_at old other) ⊎ ((state_at new other ≡ state) × (other ≡ hash))

at_from_look : (old new : Option KeyState) (hash other : List ℕ) (state : KeyState)
    → ((new ≡ old) ⊎ ((new ≡ Some state) × (other ≡ hash)))
    → (unwrap_or new new_state ≡ unwrap_or old new_state) ⊎ ((unwrap_or new new_state ≡ state) × (other ≡ hash))
at_from_look old new hash other state (inl same) = inl (ap (λ (found : Option KeyState). unwrap_or found new_state) same)
at_from_look old new hash other state (inr is) = inr (ap (λ (found : Option KeyState). unwrap_or found new_state) is.0, is.1)

pub with_state-IsSetAt : (states : States) (hash : List ℕ) (state : KeyState) → IsSetAt states (with_state states hash state) hash state
with_state-IsSetAt states hash state other =
    at_from_look (look states other) (look (with_state states hash state) other) hash other state (inserted_look states hash other state)

-- the state that is put at a key stands there
put_by : (order : Ordering) (states : States) (here : List ℕ × KeyState) (hash : List ℕ) (state : KeyState)
    → slice_cmp nat_cmp hash here.0 ≡ order → look (with_state states hash state) hash ≡ Some state
    → look (match_ordering order ((hash, state) ∷ here ∷ states) ((here.0, state) ∷ states) (here ∷ with_state states hash state)) hash ≡ Some state
put_by Less states here hash state is rest = cond-true _ _ _ (tested_itself hash)
put_by Equal states here hash state is rest = cond-true _ _ _ (ap is_eq is)
put_by Greater states here hash state is rest = cond-false _ _ _ (ap is_eq is) ∙ rest

put_look : (states : States) (hash : List ℕ) (state : KeyState) → look (with_state states hash state) hash ≡ Some state
put_look [] hash state = cond-true _ _ _ (tested_itself hash)
put_look (here ∷ states) hash state = put_by (slice_cmp nat_cmp hash here.0) states here hash state refl (put_look states hash state)

pub state_at-with_state : (states : States) (hash : List ℕ) (state : KeyState) → state_at (with_state states hash state) hash ≡ state
state_at-with_state states hash state = ap (λ (found : Option KeyState). unwrap_or found new_state) (put_look states hash state)

-- what holds of each key still does where one has a new state of which it holds
pub set_keeps : (P : List ℕ → KeyState → Type 0) (old new : States) (hash : List ℕ) (state : KeyState) → IsSetAt old new hash state
    → P hash state → ((other : List ℕ) → P other (state_at old other)) → (other : List ℕ) → P other (state_at new other)
set_keeps P old new hash state is here all other = by (is other)
  where
    by : ((state_at new other ≡ state_at old other) ⊎ ((state_at new other ≡ state) × (other ≡ hash))) → P other (state_at new other)
    by (inl same) = subst (λ (found : KeyState). P other found) (sym same) (all other)
    by (inr put) = subst (λ (found : KeyState). P other found) (sym put.0) (subst (λ (key : List ℕ). P key state) (sym put.1) here)
