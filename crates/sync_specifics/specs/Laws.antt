-- What holds of all messages here, by the definitions alone.
use Rattle.std.specs.Prelude.{◌≡◌, ℕ, ◌^◌, ◌<◌, List, length, FitsSigned, Some, Result, Ok}
use Rattle.std.specs.Int.{w64}
use Rattle.std.specs.List.{AllByRecursion}
use Rattle.key_derivation.specs.declared.NigoriKey.{NigoriKey}
use Rattle.message_fields.specs.declared.fault.MessageFault.{MessageFault}
use Rattle.message_fields.specs.Unknown.{IsCanonicalExtra}
use Rattle.sync_values.specs.declared.value.Preference.{Preference}
use Rattle.sync_values.specs.declared.value.Password.{Password}
use Rattle.sync_specifics.specs.declared.specifics.Specifics.{Specifics}
use Rattle.sync_specifics.specs.Preferences.{preference_fields, SaysPreference, preference_bytes}
use Rattle.sync_specifics.specs.Logins.{login_fields, SaysLogin, login_bytes}
use Rattle.sync_specifics.specs.Keys.{SaysKey, SaysKeys, key_bytes, keys_bytes}
use Rattle.sync_specifics.specs.Specifics.{SaysSpecifics, specifics_bytes}
use Rattle.sync_specifics.specs.Extras.{HasCanonicalExtra}

-- of what bytes may say, they say one thing at most
abbrev pub SayOneThing : {A : Type 0} → (List ℕ → Result A MessageFault → Type 0) → Type 0
SayOneThing {A} Says = (bytes : List ℕ) → (said other : Result A MessageFault) → Says bytes said → Says bytes other → said ≡ other

-- bytes that fit into a memory
abbrev pub FitMemory : List ℕ → Type 0
FitMemory bytes = length bytes < 2 ^ 64

-- the bytes of a preference with a canonical extra say it
abbrev pub PreferencesAreRead : Type 0
PreferencesAreRead =
    (preference : Preference) → IsCanonicalExtra preference_fields preference.extra → FitMemory (preference_bytes preference) →
    SaysPreference (preference_bytes preference) (Ok preference)

-- the bytes of a login with a canonical extra say it
abbrev pub LoginsAreRead : Type 0
LoginsAreRead =
    (login : Password) → FitsSigned w64 login.created → IsCanonicalExtra login_fields login.extra → FitMemory (login_bytes login) →
    SaysLogin (login_bytes login) (Ok login)

-- each part of a key has 16 bytes
abbrev pub IsKey : NigoriKey → Type 0
IsKey key = (length key.user ≡ 16) × (length key.enc ≡ 16) × (length key.mac ≡ 16)

-- the bytes of a key of any name say it
abbrev pub KeysAreRead : Type 0
KeysAreRead =
    (name : List ℕ) → (key : NigoriKey) → IsKey key → FitMemory (key_bytes name key) → SaysKey (key_bytes name key) (Ok key)

-- the bytes of some keys of any names say them
abbrev pub BagsAreRead : Type 0
BagsAreRead =
    (names : List (List ℕ)) → (keys : List NigoriKey) → length names ≡ length keys → AllByRecursion IsKey keys →
    FitMemory (keys_bytes names keys) → SaysKeys (keys_bytes names keys) (Ok keys)

-- the bytes of specifics with a canonical extra say them
abbrev pub SpecificsAreRead : Type 0
SpecificsAreRead =
    (value : Specifics) → HasCanonicalExtra value → FitMemory (specifics_bytes value) → SaysSpecifics (specifics_bytes value) (Ok (Some value))

-- the extra of a preference that bytes say is canonical
abbrev pub SaidPreferencesAreCanonical : Type 0
SaidPreferencesAreCanonical =
    (bytes : List ℕ) → (preference : Preference) → SaysPreference bytes (Ok preference) → IsCanonicalExtra preference_fields preference.extra

-- the extra of a login that bytes say is canonical
abbrev pub SaidLoginsAreCanonical : Type 0
SaidLoginsAreCanonical =
    (bytes : List ℕ) → (login : Password) → SaysLogin bytes (Ok login) → IsCanonicalExtra login_fields login.extra

-- the extra of specifics that bytes say is canonical
abbrev pub SaidSpecificsAreCanonical : Type 0
SaidSpecificsAreCanonical =
    (bytes : List ℕ) → (value : Specifics) → SaysSpecifics bytes (Ok (Some value)) → HasCanonicalExtra value
