-- Which extras are canonical: in what an entity holds, in values and in edits.
use Rattle.std.specs.Prelude.{◌≡◌, List, [], Option, Some, None}
use Rattle.client_tags.specs.declared.Kind.{Kind}
use Rattle.client_tags.specs.declared.Kind.TheVariants as kinds
use Rattle.message_fields.specs.declared.field.Known.{Known}
use Rattle.message_fields.specs.Unknown.{IsCanonicalExtra}
use Rattle.sync_values.specs.declared.value.Value.{Value}
use Rattle.sync_values.specs.declared.value.Value.TheVariants as values
use Rattle.sync_values.specs.declared.edit.Edit.{Edit}
use Rattle.sync_values.specs.declared.edit.Edit.TheVariants.{SetPreference, NewerPreference, DeletePreference, SetPassword, NewerPassword, DeletePassword, SetNigori}
use Rattle.sync_specifics.specs.declared.specifics.Specifics.{Specifics}
use Rattle.sync_specifics.specs.declared.specifics.Specifics.TheVariants.{EmptyOf, Preference, SealedPreference, Password, Nigori}
use Rattle.sync_specifics.specs.Preferences.{preference_fields}
use Rattle.sync_specifics.specs.Logins.{login_fields}

-- the values of this type have an extra
abbrev pub HasExtra : Kind → Type 0
HasExtra kinds.Nigori = ⊥
HasExtra kinds.Preference = Unit {0}
HasExtra kinds.Password = Unit {0}

-- the fields that are known of the message whose others are the extra
abbrev pub extra_table : Kind → List Known
extra_table kinds.Nigori = []
extra_table kinds.Preference = preference_fields
extra_table kinds.Password = login_fields

-- the extra of a plain preference is canonical; what is encrypted shows none
abbrev pub HasCanonicalExtra : Specifics → Type 0
HasCanonicalExtra (EmptyOf kind) = Unit {0}
HasCanonicalExtra (Preference preference) = IsCanonicalExtra preference_fields preference.extra
HasCanonicalExtra (SealedPreference sealed) = Unit {0}
HasCanonicalExtra (Password sealed) = Unit {0}
HasCanonicalExtra (Nigori nigori) = Unit {0}

-- specifics, if there are any, have a canonical extra
abbrev pub HasCanonicalExtraIfSome : Option Specifics → Type 0
HasCanonicalExtraIfSome None = Unit {0}
HasCanonicalExtraIfSome (Some specifics) = HasCanonicalExtra specifics

-- the extra of a value is canonical
abbrev pub IsCanonicalValue : Value → Type 0
IsCanonicalValue values.Absent = Unit {0}
IsCanonicalValue (values.Preference preference) = IsCanonicalExtra preference_fields preference.extra
IsCanonicalValue (values.Password password) = IsCanonicalExtra login_fields password.extra
IsCanonicalValue (values.Nigori nigori) = Unit {0}

-- a set edit names no extra, and a newer one a canonical one
abbrev pub IsCanonicalEdit : Edit → Type 0
IsCanonicalEdit (SetPreference preference) = preference.extra ≡ []
IsCanonicalEdit (NewerPreference preference) = IsCanonicalExtra preference_fields preference.extra
IsCanonicalEdit (DeletePreference name) = Unit {0}
IsCanonicalEdit (SetPassword password) = password.extra ≡ []
IsCanonicalEdit (NewerPassword password) = IsCanonicalExtra login_fields password.extra
IsCanonicalEdit (DeletePassword origin user_element user_value pass_element realm) = Unit {0}
IsCanonicalEdit (SetNigori nigori) = Unit {0}
