-- A row that takes or merges a write fits no echo: a write whose value stands among the earlier offers of an edit that is due.
use Rattle.std.proofs.Common.{◌≡◌, ℕ, ◌<◌, ◌⊎◌, ◌&&◌, ◌||◌, Bool, true, false, cond, List, [], ◌∷◌, Option, Some, refl, sym, ap, ◌∙◌, subst, nat_lt, arith, inl, inr, bytes_eq}
use lib.Pointwise.{pointwise}
use Rattle.std.proofs.lemmas.Bool.{and_from, lt-ltb, true≢false}
use Rattle.std.proofs.lemmas.Bool.Decides.{Decides-int_eq}
use Rattle.std.proofs.lemmas.Slice.Eq.{bytes_eq-Decides}
use Rattle.key_derivation.specs.declared.NigoriKey.{NigoriKey}
use Rattle.sync_values.specs.declared.value.PassKind.{PassKind}
use Rattle.sync_values.specs.declared.value.PassKind.TheVariants.{Implicit, Keystore, Frozen, Custom, Vault}
use Rattle.sync_values.specs.declared.value.Value.{Value}
use Rattle.sync_values.specs.declared.value.Value.TheVariants.{Absent, Preference as Setting_value, Password as Login_value, Nigori as Keys_value}
use Rattle.sync_model.specs.declared.conflict.Decision.{Decision}
use Rattle.sync_model.specs.declared.conflict.Row.{Row}
use Rattle.sync_model.specs.declared.conflict.Row.TheVariants.{C0, C1}
use Rattle.sync_model.specs.declared.state.KeyState.{KeyState}
use Rattle.sync_model.specs.declared.state.Offered.{Offered}
use Rattle.sync_model.specs.Values.{same_pass_kind, same_nigori_key, same_value}
use Rattle.sync_model.specs.Conflicts.{row_of, choice_of}
use Rattle.sync_model.specs.KeyStates.{is_earlier_offer, is_echo_of, is_echo}
use Rattle.sync_model.specs.Laws.{IsTaking, IsMerging}
use Rattle.sync_model.specs.EchoFacts.{AnyIs, IsPair}
use Rattle.sync_model.proofs.FateValues.{same_nigori_key-refl}

-- a value is itself
bytes_itself : (a : List ℕ) → bytes_eq a a ≡ true
bytes_itself a = (bytes_eq-Decides a a).1 refl

pass_kind_itself : (kind : PassKind) → same_pass_kind kind kind ≡ true
pass_kind_itself Implicit = refl
pass_kind_itself Keystore = refl
pass_kind_itself Frozen = refl
pass_kind_itself Custom = refl
pass_kind_itself Vault = refl

keys_themselves : (keys : List NigoriKey) → pointwise same_nigori_key keys keys ≡ true
keys_themselves [] = refl
keys_themselves (key ∷ keys) = and_from _ _ (same_nigori_key-refl key) (keys_themselves keys)

same_value-itself : (value : Value) → same_value value value ≡ true
unfolding same_value
same_value-itself Absent = refl
same_value-itself (Setting_value a) = and_from _ _ (and_from _ _ (bytes_itself a.name) (bytes_itself a.value)) (bytes_itself a.extra)
same_value-itself (Login_value a) =
    and_from _ _ (and_from _ _ (and_from _ _ (and_from _ _ (and_from _ _ (and_from _ _ (and_from _ _ (bytes_itself a.origin) (bytes_itself a.user_element))
    (bytes_itself a.user_value)) (bytes_itself a.pass_element)) (bytes_itself a.realm)) (bytes_itself a.secret)) ((Decides-int_eq a.created a.created).1 refl))
    (bytes_itself a.extra)
same_value-itself (Keys_value a) = and_from _ _ (and_from _ _ (bytes_itself a.lock) (keys_themselves a.keys)) (pass_kind_itself a.pass_kind)

-- a pair below a due number makes its value an earlier offer
here_or : (here rest : Bool) → here ≡ true → (here || rest) ≡ true
here_or true rest is = refl
here_or false rest is = absurd (true≢false (sym is))

there_or : (here rest : Bool) → rest ≡ true → (here || rest) ≡ true
there_or true rest is = refl
there_or false rest is = is

earlier_offer : (pairs : List Offered) (due number : ℕ) (value : Value) → number < due → AnyIs (IsPair number value) pairs
    → is_earlier_offer pairs due value ≡ true
earlier_offer [] due number value below any = absurd any
earlier_offer (pair ∷ pairs) due number value below (inl here) =
    here_or (nat_lt pair.number due && same_value pair.value value) (is_earlier_offer pairs due value)
    (and_from _ _ (lt-ltb pair.number due (omega (arith, below, here.numbered)))
    (ap (λ (other : Value). same_value other value) here.valued ∙ same_value-itself value))
earlier_offer (pair ∷ pairs) due number value below (inr there) =
    there_or (nat_lt pair.number due && same_value pair.value value) (is_earlier_offer pairs due value) (earlier_offer pairs due number value below there)

pub earlier_echo : (state : KeyState) (due number : ℕ) (value : Value) → state.due ≡ Some due → number < due
    → AnyIs (IsPair number value) state.offered → is_echo state value ≡ true
unfolding is_echo
earlier_echo state due number value is below any =
    ap (λ (found : Option ℕ). is_echo_of state.offered found value) is ∙ earlier_offer state.offered due number value below any

-- no row takes or merges an echo
pub row_keeps_echo : (echo : Bool) (base own remote : Value) (decision : Decision) (row : Row) → echo ≡ true → row_of echo base own remote ≡ row
    → IsTaking (choice_of row decision) ⊎ IsMerging (choice_of row decision) → ⊥
unfolding row_of
row_keeps_echo false base own remote decision row is fits does = true≢false (sym is)
row_keeps_echo true base own remote decision row is fits does =
    by (same_value own remote) (subst (λ (found : Row). IsTaking (choice_of found decision) ⊎ IsMerging (choice_of found decision)) (sym fits) does)
  where
    by : (same : Bool)
        → IsTaking (choice_of (cond same C1 C0) decision) ⊎ IsMerging (choice_of (cond same C1 C0) decision) → ⊥
    by true (inl taking) = cc taking
    by true (inr merging) = cc (merging.1)
    by false (inl taking) = cc taking
    by false (inr merging) = cc (merging.1)
