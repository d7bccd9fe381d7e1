-- What a run is given beside its events, and what each type's rule decides by it.
use Rattle.std.specs.Prelude.{◌≡◌, ℕ, Bool, if◌then◌else◌, IsTrue, List, [], ◌++◌, ◌∷◌, map, find, Option, ◌⊎◌, int_lt}
use Rattle.std.specs.Str.{bytes_eq}
use Rattle.client_tags.specs.declared.Kind.{Kind}
use Rattle.client_tags.specs.declared.Kind.TheVariants.{Nigori, Preference, Password}
use Rattle.client_tags.specs.Tags.{nigori_tag}
use Rattle.key_derivation.specs.declared.NigoriKey.{NigoriKey}
use Rattle.sync_values.specs.declared.value.PassKind.{PassKind}
use Rattle.sync_values.specs.declared.value.PassKind.TheVariants.{Keystore, Custom}
use Rattle.sync_values.specs.declared.value.Value.{Value}
use Rattle.sync_values.specs.declared.value.Value.TheVariants.{Password as Login_value}
use Rattle.sync_model.specs.declared.conflict.Decision.{Decision}
use Rattle.sync_model.specs.declared.conflict.Decision.TheVariants.{Remote, Local, Merged}
use Rattle.sync_model.specs.Text.{text_word}
use Rattle.sync_model.specs.Values.{is_value_of, has_name}

-- What a run is given: what two preferences that differ make, the client's before the server's; the kind of
-- passphrase that users choose; how the tags of a type are hashed, and how a hash is shown; the key of a
-- passphrase, and the name of a key.
pub record Setting : Type 0 where
  pub decided : Value → Value → Decision
  pub pass_kind : PassKind
  pub tag_hash : Kind → List ℕ → List ℕ
  pub hash_text : List ℕ → List ℕ
  pub pass_key : List ℕ → NigoriKey
  pub key_name : NigoriKey → List ℕ

-- of two preferences that differ the server's wins
abbrev pub remote_wins : Value → Value → Decision
remote_wins local remote = Remote

-- the key of no passphrase
abbrev pub no_key : NigoriKey
no_key = record { user = []; enc = []; mac = [] }

-- Tags stand in place of their hashes, and are shown as words. There are no passphrases.
unfoldable pub names : Setting
names = record {
  decided = remote_wins;
  pass_kind = Custom;
  tag_hash = λ kind tag. tag;
  hash_text = text_word;
  pass_key = λ pass. no_key;
  key_name = λ key. [];
}

-- the hash of the one entity that has a profile's keys
abbrev pub nigori_hash : Setting → List ℕ
nigori_hash setting = setting.tag_hash Nigori nigori_tag

-- the login that was made later wins, and the server's where both were made at once
abbrev pub login_decided : Value → Value → Decision
login_decided (Login_value local) (Login_value remote) = if int_lt remote.created local.created then Local else Remote
login_decided _ _ = Remote

-- what the rule of a type makes of two present values that differ, the client's before the server's
abbrev pub decided_by : Setting → Kind → Value → Value → Decision
decided_by setting Nigori local remote = Remote
decided_by setting Preference local remote = setting.decided local remote
decided_by setting Password local remote = login_decided local remote

-- a rule merges two preferences into a preference
abbrev pub KeepsType : (Value → Value → Decision) → Type 0
KeepsType decided = (local remote merged : Value) → IsTrue (is_value_of Preference local) → IsTrue (is_value_of Preference remote)
    → decided local remote ≡ Merged merged → IsTrue (is_value_of Preference merged)

-- a kind of passphrase that users choose
abbrev pub IsChosen : PassKind → Type 0
IsChosen kind = (kind ≡ Custom) ⊎ (kind ≡ Keystore)

-- what a run may be given
pub record IsSetting (setting : Setting) : Type 0 where
  pub rule : KeepsType setting.decided
  pub pass_kind : IsChosen setting.pass_kind

-- the names of some keys
abbrev pub names_of : Setting → List NigoriKey → List (List ℕ)
names_of setting keys = map setting.key_name keys

-- a bag of keys has the one of a name
abbrev pub has_key : Setting → List NigoriKey → List ℕ → Bool
has_key setting bag name = has_name (names_of setting bag) name

-- the key of a name in a bag, if it has one
abbrev pub key_named : Setting → List NigoriKey → List ℕ → Option NigoriKey
key_named setting bag name = find (λ key. bytes_eq name (setting.key_name key)) bag

-- a bag with a further key; one that it has by name joins no more
abbrev pub with_key : Setting → List NigoriKey → NigoriKey → List NigoriKey
with_key setting bag key = if has_key setting bag (setting.key_name key) then bag else bag ++ key ∷ []

-- a bag with some further keys
unfoldable pub with_keys : Setting → List NigoriKey → List NigoriKey → List NigoriKey
with_keys setting bag [] = bag
with_keys setting bag (key ∷ keys) = with_keys setting (with_key setting bag key) keys
