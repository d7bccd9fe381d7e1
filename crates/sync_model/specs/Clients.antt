-- A client, its keys, and what an event makes of it: a function from the client to an effect, or to none where
-- the event is void.
use Rattle.std.specs.Prelude.{ℕ, Bool, true, false, not, if◌then◌else◌, List, [], ◌∷◌, Option, Some, None, is_some}
use Rattle.std.specs.List.{list_all}
use Rattle.client_tags.specs.declared.Kind.{Kind}
use Rattle.client_tags.specs.declared.Kind.TheVariants.{Nigori, Preference, Password}
use Rattle.key_derivation.specs.declared.NigoriKey.{NigoriKey}
use Rattle.sync_values.specs.declared.value.PassKind.TheVariants.{Custom}
use Rattle.sync_values.specs.declared.value.Value.{Value}
use Rattle.sync_values.specs.declared.value.Value.TheVariants.{Nigori as Keys_value}
use Rattle.sync_model.specs.declared.event.EventOutcome.{EventOutcome}
use Rattle.sync_model.specs.declared.fate.Note.{Note}
use Rattle.sync_model.specs.declared.message.Batch.{Batch}
use Rattle.sync_model.specs.declared.message.Content.{Content}
use Rattle.sync_model.specs.declared.message.Entry.{Entry}
use Rattle.sync_model.specs.declared.message.Update.{Update}
use Rattle.sync_model.specs.declared.state.Wanted.{Wanted}
use Rattle.sync_model.specs.declared.state.Wanted.TheVariants.{Plain, Under, Hold}
use Rattle.sync_model.specs.Values.{same_pass_kind, keys_in}
use Rattle.sync_model.specs.Settings.{Setting, nigori_hash, has_key, with_keys}
use Rattle.sync_model.specs.Sides.{Side, new_side, restarted_side, state_at, mailed}

-- What is kept: the three sides, the bag of keys, the birthday of the server's store, and how many random
-- draws were made. What a crash forgets: the entries that wait for the next commit, and the event whose
-- request is answered next.
pub record Client : Type 0 where
  pub nigori : Side
  pub preference : Side
  pub password : Side
  pub bag : List NigoriKey
  pub birthday : Option (List ℕ)
  pub drawn : ℕ
  pub held : List (Entry Content)
  pub outstanding : Option ℕ

-- a client that nothing has happened to
abbrev pub new_client : Client
new_client = record {
  nigori = new_side;
  preference = new_side;
  password = new_side;
  bag = [];
  birthday = None;
  drawn = 0;
  held = [];
  outstanding = None;
}

-- a client's side of a type
abbrev pub side_of : Client → Kind → Side
side_of client Nigori = client.nigori
side_of client Preference = client.preference
side_of client Password = client.password

-- a client with another side of a type
abbrev pub with_side : Client → Kind → Side → Client
with_side client Nigori side = record client { nigori = side }
with_side client Preference side = record client { preference = side }
with_side client Password side = record client { password = side }

-- what a crash leaves of a client
abbrev pub restarted : Client → Client
restarted client = record {
  nigori = restarted_side client.nigori;
  preference = restarted_side client.preference;
  password = restarted_side client.password;
  bag = client.bag;
  birthday = client.birthday;
  drawn = client.drawn;
  held = [];
  outstanding = None;
}

-- What an event makes: the client after it, what came of the event, and the edits of one type that it settles.
pub record Effect : Type 0 where
  pub client : Client
  pub outcome : EventOutcome
  pub kind : Kind
  pub notes : List Note

-- an event that settles nothing
abbrev pub plain_effect : Client → EventOutcome → Effect
plain_effect client outcome = record { client = client; outcome = outcome; kind = Nigori; notes = [] }

-- what a client knows of the profile's keys on the server
abbrev pub nigori_base : Setting → Client → Value
nigori_base setting client = (state_at client.nigori.states (nigori_hash setting)).base

-- the name of the key that locks a profile's keys, where there are any and a bag has that one
abbrev pub lock_if_had : Setting → List NigoriKey → Value → Option (List ℕ)
lock_if_had setting bag (Keys_value nigori) = if has_key setting bag nigori.lock then Some nigori.lock else None
lock_if_had setting bag _ = None

-- the name of a client's default key, if it has one: the lock of the profile's keys that it knows
abbrev pub default_name : Setting → Client → Option (List ℕ)
default_name setting client = lock_if_had setting client.bag (nigori_base setting client)

-- the user has chosen a passphrase for all that a profile holds
abbrev pub is_custom : Value → Bool
is_custom (Keys_value nigori) = same_pass_kind nigori.pass_kind Custom
is_custom _ = false

-- Logins are always sealed under the default key; preferences are where the user has chosen a passphrase for
-- all; the profile's keys never are.
abbrev pub needs_default : Value → Kind → Bool
needs_default base Nigori = false
needs_default base Preference = is_custom base
needs_default base Password = true

-- how the entries of a type are to be sent
abbrev pub wanted : Setting → Client → Kind → Wanted
wanted setting client kind =
    if not (needs_default (nigori_base setting client) kind) then Plain
    else (if is_some (default_name setting client) then Under else Hold)

-- the name of the key under which the entries of a type are sealed, if there is one
abbrev pub wanted_name : Setting → Client → Kind → Option (List ℕ)
wanted_name setting client kind =
    if needs_default (nigori_base setting client) kind then default_name setting client else None

-- a bag has the key that seals a write, if one does
abbrev pub opens_lock : Setting → List NigoriKey → Option (List ℕ) → Bool
opens_lock setting bag None = true
opens_lock setting bag (Some name) = has_key setting bag name

-- a batch opens under a bag: all its updates do
abbrev pub opens : Setting → List NigoriKey → Batch → Bool
opens setting bag batch = list_all (λ update. opens_lock setting bag update.lock) batch.updates

-- a bag with the keys that some updates carry
unfoldable pub bag_with : Setting → List NigoriKey → List Update → List NigoriKey
bag_with setting bag [] = bag
bag_with setting bag (update ∷ updates) = bag_with setting (with_keys setting bag (keys_in update.value)) updates

-- a batch that opens goes to the mailbox, and the keys in it join the bag
abbrev pub batch_mailed : Setting → Client → Kind → Side → Batch → Client
batch_mailed setting client kind side batch =
    record (with_side client kind (mailed side batch)) { bag = bag_with setting client.bag batch.updates }
