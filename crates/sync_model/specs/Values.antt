-- What names an entity, when two of them, or two values, are one, and the keys of a profile by their names.
use Rattle.std.specs.Prelude.{ℕ, Bool, true, false, ◌&&◌, List, []}
use Rattle.std.specs.List.{list_any, list_all}
use Rattle.std.specs.Str.{bytes_eq}
use Rattle.std.specs.Ordering.{int_eq}
use lib.Pointwise.{pointwise}
use Rattle.client_tags.specs.declared.Kind.{Kind}
use Rattle.client_tags.specs.declared.Kind.TheVariants.{Nigori, Preference, Password}
use Rattle.key_derivation.specs.declared.NigoriKey.{NigoriKey}
use Rattle.sync_values.specs.declared.value.NigoriValue.{NigoriValue}
use Rattle.sync_values.specs.declared.value.PassKind.{PassKind}
use Rattle.sync_values.specs.declared.value.PassKind.TheVariants.{Implicit, Keystore, Frozen, Custom, Vault}
use Rattle.sync_values.specs.declared.value.Password.{Password as Login}
use Rattle.sync_values.specs.declared.value.Preference.{Preference as Pref}
use Rattle.sync_values.specs.declared.value.Value.{Value}
use Rattle.sync_values.specs.declared.value.Value.TheVariants.{Absent, Preference as Setting_value, Password as Login_value, Nigori as Keys_value}
use Rattle.sync_model.specs.declared.message.Key.{Key}

-- two types are one
abbrev pub same_kind : Kind → Kind → Bool
same_kind Nigori Nigori = true
same_kind Nigori Preference = false
same_kind Nigori Password = false
same_kind Preference Nigori = false
same_kind Preference Preference = true
same_kind Preference Password = false
same_kind Password Nigori = false
same_kind Password Preference = false
same_kind Password Password = true

-- two keys are one
abbrev pub same_key : Key → Key → Bool
same_key a b = same_kind a.kind b.kind && bytes_eq a.hash b.hash

-- two passphrases are of one kind
abbrev pub same_pass_kind : PassKind → PassKind → Bool
same_pass_kind Implicit Implicit = true
same_pass_kind Keystore Keystore = true
same_pass_kind Frozen Frozen = true
same_pass_kind Custom Custom = true
same_pass_kind Vault Vault = true
same_pass_kind _ _ = false

-- two keys of a profile are one
abbrev pub same_nigori_key : NigoriKey → NigoriKey → Bool
same_nigori_key a b = bytes_eq a.user b.user && bytes_eq a.enc b.enc && bytes_eq a.mac b.mac

-- two preferences are one
abbrev pub same_preference : Pref → Pref → Bool
same_preference a b = bytes_eq a.name b.name && bytes_eq a.value b.value && bytes_eq a.extra b.extra

-- two logins are one
abbrev pub same_login : Login → Login → Bool
same_login a b =
    bytes_eq a.origin b.origin && bytes_eq a.user_element b.user_element && bytes_eq a.user_value b.user_value
    && bytes_eq a.pass_element b.pass_element && bytes_eq a.realm b.realm && bytes_eq a.secret b.secret
    && int_eq a.created b.created && bytes_eq a.extra b.extra

-- two profiles' keys are one
abbrev pub same_nigori : NigoriValue → NigoriValue → Bool
same_nigori a b =
    bytes_eq a.lock b.lock && pointwise same_nigori_key a.keys b.keys && same_pass_kind a.pass_kind b.pass_kind

-- two values are one: all their fields are, those that only a newer client knows too
unfoldable pub same_value : Value → Value → Bool
same_value Absent Absent = true
same_value (Setting_value a) (Setting_value b) = same_preference a b
same_value (Login_value a) (Login_value b) = same_login a b
same_value (Keys_value a) (Keys_value b) = same_nigori a b
same_value _ _ = false

-- there is no value
abbrev pub is_absent : Value → Bool
is_absent Absent = true
is_absent (Setting_value preference) = false
is_absent (Login_value password) = false
is_absent (Keys_value nigori) = false

-- a value is present and of a type
abbrev pub is_value_of : Kind → Value → Bool
is_value_of Preference (Setting_value preference) = true
is_value_of Password (Login_value password) = true
is_value_of Nigori (Keys_value nigori) = true
is_value_of _ _ = false

-- the fields of a value that only a newer client knows; a deletion and a profile's keys have none
abbrev pub extra_in : Value → List ℕ
extra_in Absent = []
extra_in (Setting_value preference) = preference.extra
extra_in (Login_value password) = password.extra
extra_in (Keys_value nigori) = []

-- the keys that a value carries; only a profile's has any
abbrev pub keys_in : Value → List NigoriKey
keys_in Absent = []
keys_in (Setting_value preference) = []
keys_in (Login_value password) = []
keys_in (Keys_value nigori) = nigori.keys

-- a name is among some names
abbrev pub has_name : List (List ℕ) → List ℕ → Bool
has_name names name = list_any (bytes_eq name) names

-- some names are all among others
abbrev pub has_names : List (List ℕ) → List (List ℕ) → Bool
has_names names others = list_all (has_name names) others
