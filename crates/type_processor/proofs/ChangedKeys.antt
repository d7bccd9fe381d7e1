-- The state of one key is changed.
use Rattle.std.proofs.Common.{◌≡◌, ℕ, Bool, true, false, cond, List, [], ◌∷◌, Option, Some, refl, sym, ap, ◌∙◌}
use Rattle.std.specs.Prelude.{unwrap_or}
use Rattle.std.specs.BTreeMap.{is_at}
use Rattle.std.specs.Cmp.Lexicographic.{slice_cmp}
use Rattle.std.specs.Map.{lookup}
use Rattle.std.specs.Ordering.{nat_cmp, is_eq, match_ordering}
use Rattle.std.specs.declared.cmp.Ordering.{Ordering}
use Rattle.std.specs.declared.cmp.Ordering.TheVariants.{Less, Equal, Greater}
use Rattle.entity_tracker.specs.Tracked.{Tracked}
use Rattle.sync_model.specs.declared.state.KeyState.{KeyState}
use Rattle.sync_model.specs.KeyStates.{new_state}
use Rattle.sync_model.specs.Sides.{States, state_at, with_state}
use Rattle.type_processor.specs.Keyed.{key_of}
use Rattle.type_processor.proofs.KeyedEntries.{same_bytes}

-- the state of a key by what a tracker has of it
pub state_there : (states : States) (hash key : List ℕ) (tracker : Tracked) → key_of tracker ≡ (hash, state_at states hash) → hash ≡ key
    → tracker.state ≡ state_at states key
state_there states hash key tracker is same =
    ap (λ (one : List ℕ × KeyState). one.1) is ∙ ap (state_at states) same

-- a tracker that was changed and put to its key sets the state of the key
pub state_put : (old new : States) (hash key : List ℕ) (tracker put : Tracked) (change : KeyState → KeyState)
    → key_of tracker ≡ (hash, state_at old hash) → hash ≡ key → key_of put ≡ (tracker.hash, change tracker.state)
    → new ≡ with_state old put.hash put.state → new ≡ with_state old key (change (state_at old key))
state_put old new hash key tracker put change is same put_is new_is =
    let there : key_of tracker ≡ (key, state_at old key) = is ∙ ap (λ (at : List ℕ). (at, state_at old at)) same in
    new_is ∙ ap (λ (one : List ℕ × KeyState). with_state old one.0 one.1) put_is
    ∙ ap (λ (one : List ℕ × KeyState). with_state old one.0 (change one.1)) there

at_tie : (P : KeyState → Type 0) (hash key at : List ℕ) (state other : KeyState) (found : Option KeyState) (tie : Bool)
    → is_eq (slice_cmp nat_cmp key at) ≡ tie → at ≡ hash → (hash ≡ key → P state) → P (unwrap_or found other)
    → P (unwrap_or (cond tie (Some state) found) other)
at_tie P hash key at state other found true tie same changed rest = changed (sym same ∙ sym (same_bytes key at tie))
at_tie P hash key at state other found false tie same changed rest = rest

rest_of : (P : KeyState → Type 0) (state other : KeyState) (found : Option KeyState) (tie : Bool) (hash key at : List ℕ)
    → is_eq (slice_cmp nat_cmp key at) ≡ tie → at ≡ hash → (hash ≡ key → P state) → (old : KeyState)
    → P (unwrap_or (cond tie (Some old) found) other) → P (unwrap_or (cond tie (Some state) found) other)
rest_of P state other found true hash key at tie same changed old before = changed (sym same ∙ sym (same_bytes key at tie))
rest_of P state other found false hash key at tie same changed old before = before

past : (P : KeyState → Type 0) (first other : KeyState) (found later : Option KeyState) (tie : Bool)
    → P (unwrap_or (cond tie (Some first) found) other) → (P (unwrap_or found other) → P (unwrap_or later other))
    → P (unwrap_or (cond tie (Some first) later) other)
past P first other found later true before on = before
past P first other found later false before on = on before

put_by : (P : KeyState → Type 0) (hash key : List ℕ) (state : KeyState) (e : List ℕ × KeyState) (es rest : States) (o : Ordering)
    → slice_cmp nat_cmp hash e.0 ≡ o → (hash ≡ key → P state) → P (state_at (e ∷ es) key)
    → (P (state_at es key) → P (state_at rest key))
    → P (state_at (match_ordering o ((hash, state) ∷ e ∷ es) ((e.0, state) ∷ es) (e ∷ rest)) key)
put_by P hash key state e es rest Less is changed before on =
    at_tie P hash key hash state new_state (lookup (is_at (slice_cmp nat_cmp key)) (e ∷ es)) (is_eq (slice_cmp nat_cmp key hash)) refl refl changed before
put_by P hash key state e es rest Equal is changed before on =
    rest_of P state new_state (lookup (is_at (slice_cmp nat_cmp key)) es) (is_eq (slice_cmp nat_cmp key e.0)) hash key e.0 refl
    (sym (same_bytes hash e.0 (ap is_eq is))) changed e.1 before
put_by P hash key state e es rest Greater is changed before on =
    past P e.1 new_state (lookup (is_at (slice_cmp nat_cmp key)) es) (lookup (is_at (slice_cmp nat_cmp key)) rest) (is_eq (slice_cmp nat_cmp key e.0)) before on

-- what holds of the states of all keys holds of them once one is set to a state of which it holds
pub put_at : (P : KeyState → Type 0) (states : States) (hash key : List ℕ) (state : KeyState) → (hash ≡ key → P state) → P (state_at states key)
    → P (state_at (with_state states hash state) key)
put_at P [] hash key state changed before =
    at_tie P hash key hash state new_state _ (is_eq (slice_cmp nat_cmp key hash)) refl refl changed before
put_at P (e ∷ es) hash key state changed before =
    put_by P hash key state e es (with_state es hash state) (slice_cmp nat_cmp hash e.0) refl changed before
    (put_at P es hash key state changed)
