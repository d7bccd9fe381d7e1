-- Values that a test finds one are equal; and what a row of the conflict table does where it finds them so.
use Rattle.std.proofs.Common.{◌≡◌, ℕ, ◌⊎◌, Bool, true, false, cond, List, Some, refl, sym, ap, ◌∙◌, inl, inr, bytes_eq, ◌&&◌, not}
use Rattle.std.specs.Ordering.{int_eq}
use lib.Pointwise.{pointwise}
use Rattle.std.proofs.lemmas.Bool.{and_parts, and_from, false≢true}
use Rattle.std.proofs.lemmas.Bool.Decides.{Decides-int_eq}
use Rattle.std.proofs.lemmas.Option.{none-some, same_Some}
use Rattle.std.proofs.lemmas.Slice.Eq.{bytes_eq-Decides, slice_eq-Decides}
use Rattle.key_derivation.specs.declared.NigoriKey.{NigoriKey}
use Rattle.sync_values.specs.declared.value.NigoriValue.{NigoriValue}
use Rattle.sync_values.specs.declared.value.PassKind.{PassKind}
use Rattle.sync_values.specs.declared.value.PassKind.TheVariants.{Implicit, Keystore, Frozen, Custom, Vault}
use Rattle.sync_values.specs.declared.value.Password.{Password as Login}
use Rattle.sync_values.specs.declared.value.Preference.{Preference as Pref}
use Rattle.sync_values.specs.declared.value.Value.{Value}
use Rattle.sync_values.specs.declared.value.Value.TheVariants.{Absent, Preference as Setting_value, Password as Login_value, Nigori as Keys_value}
use Rattle.sync_model.specs.declared.conflict.Choice.{Choice}
use Rattle.sync_model.specs.declared.conflict.Choice.TheVariants.{Same, Remote, Local, Merged as MergedInto}
use Rattle.sync_model.specs.declared.conflict.Decision.{Decision}
use Rattle.sync_model.specs.declared.conflict.Decision.TheVariants.{Remote as TakeRemote, Local as KeepLocal, Merged as Merge}
use Rattle.sync_model.specs.declared.conflict.Resolution.{Resolution}
use Rattle.sync_model.specs.declared.conflict.Row.TheVariants.{C0, C1, C2, C3, C4, C5, C6}
use Rattle.sync_model.specs.declared.fate.Fate.{Fate}
use Rattle.sync_model.specs.declared.fate.Fate.TheVariants.{Matched, Taken, Merged}
use Rattle.sync_model.specs.Values.{same_pass_kind, same_nigori_key, same_preference, same_login, same_nigori, same_value, is_absent}
use Rattle.sync_model.specs.Conflicts.{row_of, choice_by, choice_of}
use Rattle.sync_model.specs.KeyStates.{fate_by}

bytes_same : (a b : List ℕ) → bytes_eq a b ≡ true → a ≡ b
bytes_same a b is = (bytes_eq-Decides a b).0 is

same_pass_kind-true : (a b : PassKind) → same_pass_kind a b ≡ true → a ≡ b
same_pass_kind-true Implicit Implicit is = refl
same_pass_kind-true Keystore Keystore is = refl
same_pass_kind-true Frozen Frozen is = refl
same_pass_kind-true Custom Custom is = refl
same_pass_kind-true Vault Vault is = refl
same_pass_kind-true Implicit Keystore is = absurd (false≢true is)
same_pass_kind-true Implicit Frozen is = absurd (false≢true is)
same_pass_kind-true Implicit Custom is = absurd (false≢true is)
same_pass_kind-true Implicit Vault is = absurd (false≢true is)
same_pass_kind-true Keystore Implicit is = absurd (false≢true is)
same_pass_kind-true Keystore Frozen is = absurd (false≢true is)
same_pass_kind-true Keystore Custom is = absurd (false≢true is)
same_pass_kind-true Keystore Vault is = absurd (false≢true is)
same_pass_kind-true Frozen Implicit is = absurd (false≢true is)
same_pass_kind-true Frozen Keystore is = absurd (false≢true is)
same_pass_kind-true Frozen Custom is = absurd (false≢true is)
same_pass_kind-true Frozen Vault is = absurd (false≢true is)
same_pass_kind-true Custom Implicit is = absurd (false≢true is)
same_pass_kind-true Custom Keystore is = absurd (false≢true is)
same_pass_kind-true Custom Frozen is = absurd (false≢true is)
same_pass_kind-true Custom Vault is = absurd (false≢true is)
same_pass_kind-true Vault Implicit is = absurd (false≢true is)
same_pass_kind-true Vault Keystore is = absurd (false≢true is)
same_pass_kind-true Vault Frozen is = absurd (false≢true is)
same_pass_kind-true Vault Custom is = absurd (false≢true is)

same_preference-true : (a b : Pref) → same_preference a b ≡ true → a ≡ b
same_preference-true a b is =
    let parts : ((bytes_eq a.name b.name && bytes_eq a.value b.value) ≡ true) × (bytes_eq a.extra b.extra ≡ true) = and_parts _ _ is
    in let more : (bytes_eq a.name b.name ≡ true) × (bytes_eq a.value b.value ≡ true) = and_parts _ _ parts.0
    in ap (λ (name : List ℕ). record a { name = name }) (bytes_same a.name b.name more.0)
    ∙ ap (λ (value : List ℕ). record a { name = b.name; value = value }) (bytes_same a.value b.value more.1)
    ∙ ap (λ (extra : List ℕ). record b { extra = extra }) (bytes_same a.extra b.extra parts.1)

same_nigori_key-true : (a b : NigoriKey) → same_nigori_key a b ≡ true → a ≡ b
same_nigori_key-true a b is =
    let parts : ((bytes_eq a.user b.user && bytes_eq a.enc b.enc) ≡ true) × (bytes_eq a.mac b.mac ≡ true) = and_parts _ _ is
    in let more : (bytes_eq a.user b.user ≡ true) × (bytes_eq a.enc b.enc ≡ true) = and_parts _ _ parts.0
    in ap (λ (user : List ℕ). record a { user = user }) (bytes_same a.user b.user more.0)
    ∙ ap (λ (enc : List ℕ). record a { user = b.user; enc = enc }) (bytes_same a.enc b.enc more.1)
    ∙ ap (λ (mac : List ℕ). record b { mac = mac }) (bytes_same a.mac b.mac parts.1)

pub same_nigori_key-refl : (a : NigoriKey) → same_nigori_key a a ≡ true
same_nigori_key-refl a =
    and_from _ _ (and_from _ _ ((bytes_eq-Decides a.user a.user).1 refl) ((bytes_eq-Decides a.enc a.enc).1 refl)) ((bytes_eq-Decides a.mac a.mac).1 refl)

keys_same : (a b : List NigoriKey) → pointwise same_nigori_key a b ≡ true → a ≡ b
keys_same a b is = (slice_eq-Decides (λ (a b : NigoriKey). (
  same_nigori_key-true a b,
  λ same. ap (λ (other : NigoriKey). same_nigori_key a other) (sym same) ∙ same_nigori_key-refl a,
)) a b (pointwise same_nigori_key a b) refl).0 is

same_nigori-true : (a b : NigoriValue) → same_nigori a b ≡ true → a ≡ b
same_nigori-true a b is =
    let parts : ((bytes_eq a.lock b.lock && pointwise same_nigori_key a.keys b.keys) ≡ true) × (same_pass_kind a.pass_kind b.pass_kind ≡ true) = and_parts _ _ is
    in let more : (bytes_eq a.lock b.lock ≡ true) × (pointwise same_nigori_key a.keys b.keys ≡ true) = and_parts _ _ parts.0
    in ap (λ (lock : List ℕ). record a { lock = lock }) (bytes_same a.lock b.lock more.0)
    ∙ ap (λ (keys : List NigoriKey). record a { lock = b.lock; keys = keys }) (keys_same a.keys b.keys more.1)
    ∙ ap (λ (pass_kind : PassKind). record b { pass_kind = pass_kind }) (same_pass_kind-true a.pass_kind b.pass_kind parts.1)

same_login-true : (a b : Login) → same_login a b ≡ true → a ≡ b
same_login-true a b is =
    let h : ((bytes_eq a.origin b.origin && bytes_eq a.user_element b.user_element && bytes_eq a.user_value b.user_value
    && bytes_eq a.pass_element b.pass_element && bytes_eq a.realm b.realm && bytes_eq a.secret b.secret && int_eq a.created b.created) ≡ true)
    × (bytes_eq a.extra b.extra ≡ true) = and_parts _ _ is
    in let g : ((bytes_eq a.origin b.origin && bytes_eq a.user_element b.user_element && bytes_eq a.user_value b.user_value
    && bytes_eq a.pass_element b.pass_element && bytes_eq a.realm b.realm && bytes_eq a.secret b.secret) ≡ true) × (int_eq a.created b.created ≡ true) = and_parts _ _ h.0
    in let f : ((bytes_eq a.origin b.origin && bytes_eq a.user_element b.user_element && bytes_eq a.user_value b.user_value
    && bytes_eq a.pass_element b.pass_element && bytes_eq a.realm b.realm) ≡ true) × (bytes_eq a.secret b.secret ≡ true) = and_parts _ _ g.0
    in let e : ((bytes_eq a.origin b.origin && bytes_eq a.user_element b.user_element && bytes_eq a.user_value b.user_value
    && bytes_eq a.pass_element b.pass_element) ≡ true) × (bytes_eq a.realm b.realm ≡ true) = and_parts _ _ f.0
    in let d : ((bytes_eq a.origin b.origin && bytes_eq a.user_element b.user_element && bytes_eq a.user_value b.user_value) ≡ true)
    × (bytes_eq a.pass_element b.pass_element ≡ true) = and_parts _ _ e.0
    in let c : ((bytes_eq a.origin b.origin && bytes_eq a.user_element b.user_element) ≡ true) × (bytes_eq a.user_value b.user_value ≡ true) = and_parts _ _ d.0
    in let p : (bytes_eq a.origin b.origin ≡ true) × (bytes_eq a.user_element b.user_element ≡ true) = and_parts _ _ c.0
    in ap (λ (x : List ℕ). record a { origin = x }) (bytes_same a.origin b.origin p.0)
    ∙ ap (λ (x : List ℕ). record a { origin = b.origin; user_element = x }) (bytes_same a.user_element b.user_element p.1)
    ∙ ap (λ (x : List ℕ). record a { origin = b.origin; user_element = b.user_element; user_value = x }) (bytes_same a.user_value b.user_value c.1)
    ∙ ap (λ (x : List ℕ). record b { pass_element = x; realm = a.realm; secret = a.secret; created = a.created; extra = a.extra }) (bytes_same a.pass_element b.pass_element d.1)
    ∙ ap (λ (x : List ℕ). record b { realm = x; secret = a.secret; created = a.created; extra = a.extra }) (bytes_same a.realm b.realm e.1)
    ∙ ap (λ (x : List ℕ). record b { secret = x; created = a.created; extra = a.extra }) (bytes_same a.secret b.secret f.1)
    ∙ ap (λ x. record b { created = x; extra = a.extra }) ((Decides-int_eq a.created b.created).0 g.1)
    ∙ ap (λ (x : List ℕ). record b { extra = x }) (bytes_same a.extra b.extra h.1)

-- two values that are one are equal
same_value-true : (a b : Value) → same_value a b ≡ true → a ≡ b
unfolding same_value
same_value-true Absent Absent is = refl
same_value-true (Setting_value a) (Setting_value b) is = ap Setting_value (same_preference-true a b is)
same_value-true (Login_value a) (Login_value b) is = ap Login_value (same_login-true a b is)
same_value-true (Keys_value a) (Keys_value b) is = ap Keys_value (same_nigori-true a b is)
same_value-true Absent (Setting_value b) is = absurd (false≢true is)
same_value-true Absent (Login_value b) is = absurd (false≢true is)
same_value-true Absent (Keys_value b) is = absurd (false≢true is)
same_value-true (Setting_value a) Absent is = absurd (false≢true is)
same_value-true (Setting_value a) (Login_value b) is = absurd (false≢true is)
same_value-true (Setting_value a) (Keys_value b) is = absurd (false≢true is)
same_value-true (Login_value a) Absent is = absurd (false≢true is)
same_value-true (Login_value a) (Setting_value b) is = absurd (false≢true is)
same_value-true (Login_value a) (Keys_value b) is = absurd (false≢true is)
same_value-true (Keys_value a) Absent is = absurd (false≢true is)
same_value-true (Keys_value a) (Setting_value b) is = absurd (false≢true is)
same_value-true (Keys_value a) (Login_value b) is = absurd (false≢true is)

-- only the row of equal values finds them the same
abbrev is_same : Choice → Bool
is_same Same = true
is_same Remote = false
is_same Local = false
is_same (MergedInto value) = false

by_decision : (decision : Decision) → is_same (choice_by decision) ≡ false
by_decision TakeRemote = refl
by_decision KeepLocal = refl
by_decision (Merge value) = refl

other_rows : (echo first second third fourth : Bool) (decision : Decision)
    → is_same (choice_of (cond echo C0 (cond first C2 (cond second C3 (cond third C4 (cond fourth C5 C6))))) decision) ≡ false
other_rows true first second third fourth decision = refl
other_rows false true second third fourth decision = refl
other_rows false false true third fourth decision = refl
other_rows false false false true fourth decision = refl
other_rows false false false false true decision = refl
other_rows false false false false false decision = by_decision decision

pub same_row : (echo : Bool) (base own remote : Value) (decision : Decision) → choice_of (row_of echo base own remote) decision ≡ Same → own ≡ remote
unfolding row_of
same_row echo base own remote decision = by (same_value own remote) refl
  where
    by : (same : Bool) → same_value own remote ≡ same → choice_of (cond same C1 (cond echo C0 (cond (is_absent own && not (is_absent remote)) C2
        (cond (same_value own base) C3 (cond (same_value remote base) C4 (cond (is_absent remote) C5 C6)))))) decision ≡ Same → own ≡ remote
    by true is chosen = same_value-true own remote is
    by false is chosen = absurd (false≢true (sym (other_rows echo (is_absent own && not (is_absent remote)) (same_value own base) (same_value remote base) (is_absent remote) decision)
        ∙ ap is_same chosen))

-- the fate that a row gives, by what it does
pub fate_cases : (version : ℕ) (resolution : Resolution) (choice : Choice) (fate : Fate) → fate_by version resolution choice ≡ Some fate
    → ((choice ≡ Same) × (fate ≡ Matched version))
    ⊎ (((choice ≡ Remote) × (fate ≡ Taken version resolution.row))
    ⊎ ((value : Value) × (choice ≡ MergedInto value) × (fate ≡ Merged version resolution.row)))
fate_cases version resolution Same fate is = inl (refl, sym (same_Some (Matched version) fate is))
fate_cases version resolution Remote fate is = inr (inl (refl, sym (same_Some (Taken version resolution.row) fate is)))
fate_cases version resolution Local fate is = absurd (none-some fate is)
fate_cases version resolution (MergedInto value) fate is = inr (inr (value, refl, sym (same_Some (Merged version resolution.row) fate is)))
