-- What an edit says: which entity it changes, and to what.
use Rattle.std.specs.Prelude.{ℕ, ◌+◌, List, length}
use Rattle.client_tags.specs.declared.Kind.{Kind}
use Rattle.client_tags.specs.declared.Kind.TheVariants.{Nigori, Preference, Password}
use Rattle.client_tags.specs.Tags.{password_tag, nigori_tag}
use Rattle.sync_values.specs.declared.edit.Edit.{Edit}
use Rattle.sync_values.specs.declared.edit.Edit.TheVariants.{SetPreference, NewerPreference, DeletePreference, SetPassword, NewerPassword, DeletePassword, SetNigori}
use Rattle.sync_values.specs.declared.value.Password.{Password as Login}
use Rattle.sync_values.specs.declared.value.Preference.{Preference as Pref}
use Rattle.sync_values.specs.declared.value.Value.{Value}
use Rattle.sync_values.specs.declared.value.Value.TheVariants.{Absent, Preference as Setting_value, Password as Login_value, Nigori as Keys_value}
use Rattle.sync_model.specs.Values.{extra_in}

-- the type that an edit changes
abbrev pub edit_kind : Edit → Kind
edit_kind (SetPreference preference) = Preference
edit_kind (NewerPreference preference) = Preference
edit_kind (DeletePreference name) = Preference
edit_kind (SetPassword password) = Password
edit_kind (NewerPassword password) = Password
edit_kind (DeletePassword origin user_element user_value pass_element realm) = Password
edit_kind (SetNigori nigori) = Nigori

-- the client tag of a login
abbrev pub login_tag : Login → List ℕ
login_tag p = password_tag p.origin p.user_element p.user_value p.pass_element p.realm

-- the client tag of what an edit changes
abbrev pub edit_tag : Edit → List ℕ
edit_tag (SetPreference preference) = preference.name
edit_tag (NewerPreference preference) = preference.name
edit_tag (DeletePreference name) = name
edit_tag (SetPassword password) = login_tag password
edit_tag (NewerPassword password) = login_tag password
edit_tag (DeletePassword origin user_element user_value pass_element realm) =
    password_tag origin user_element user_value pass_element realm
edit_tag (SetNigori nigori) = nigori_tag

-- What an edit makes of the own value before it. What is set keeps the fields that only a newer client knows; a newer edit
-- says them itself.
abbrev pub edit_value : Value → Edit → Value
edit_value own (SetPreference preference) = Setting_value (record preference { extra = extra_in own })
edit_value own (NewerPreference preference) = Setting_value preference
edit_value own (DeletePreference name) = Absent
edit_value own (SetPassword password) = Login_value (record password { extra = extra_in own })
edit_value own (NewerPassword password) = Login_value password
edit_value own (DeletePassword origin user_element user_value pass_element realm) = Absent
edit_value own (SetNigori nigori) = Keys_value nigori

-- how many bytes the texts of a preference have
abbrev pub preference_length : Pref → ℕ
preference_length preference = length preference.name + length preference.value

-- how many bytes the texts of a login have
abbrev pub login_length : Login → ℕ
login_length p =
    length p.origin + length p.user_element + length p.user_value + length p.pass_element + length p.realm + length p.secret

-- how many bytes the texts of an edit have, and the unknown fields of the value that it makes of the own value before it
abbrev pub edit_length : Value → Edit → ℕ
edit_length own (SetPreference preference) = preference_length preference + length (extra_in own)
edit_length own (NewerPreference preference) = preference_length preference + length preference.extra
edit_length own (DeletePreference name) = length name
edit_length own (SetPassword password) = login_length password + length (extra_in own)
edit_length own (NewerPassword password) = login_length password + length password.extra
edit_length own (DeletePassword origin user_element user_value pass_element realm) =
    length origin + length user_element + length user_value + length pass_element + length realm
edit_length own (SetNigori nigori) = length nigori.lock
