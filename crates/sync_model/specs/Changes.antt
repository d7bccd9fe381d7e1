-- What a user does to a client: edits and passphrases, with the causes of their refusals; and crashes.
use Rattle.std.specs.Prelude.{ℕ, ◌+◌, Bool, true, false, nat_lt, if◌then◌else◌, List, [], ◌∷◌, length, find, Option, Some, None, is_some, unwrap_or}
use Rattle.std.specs.Option.{option_or, option_map}
use Rattle.std.specs.Str.{bytes_eq}
use Rattle.client_tags.specs.declared.Kind.{Kind}
use Rattle.client_tags.specs.declared.Kind.TheVariants.{Nigori}
use Rattle.key_derivation.specs.declared.NigoriKey.{NigoriKey}
use Rattle.sync_values.specs.declared.edit.Edit.{Edit}
use Rattle.sync_values.specs.declared.edit.Edit.TheVariants.{SetNigori}
use Rattle.sync_values.specs.declared.value.NigoriValue.{NigoriValue}
use Rattle.sync_values.specs.declared.value.PassKind.{PassKind}
use Rattle.sync_values.specs.declared.value.Value.{Value}
use Rattle.sync_model.specs.declared.event.EventOutcome.TheVariants.{Done, Edited}
use Rattle.sync_model.specs.declared.fate.Fate.TheVariants.{Followed}
use Rattle.sync_model.specs.declared.fate.Note.{Note}
use Rattle.sync_model.specs.declared.message.Batch.{Batch}
use Rattle.sync_model.specs.declared.message.Update.{Update}
use Rattle.sync_model.specs.declared.refusal.EditRefusal.{EditRefusal}
use Rattle.sync_model.specs.declared.refusal.EditRefusal.TheVariants.{TooLong, Full}
use Rattle.sync_model.specs.declared.refusal.PassRefusal.{PassRefusal}
use Rattle.sync_model.specs.declared.refusal.PassRefusal.TheVariants.{NeedsKey, Unsynced, Edit as EditRefused, NotAsked, WrongPass}
use Rattle.sync_model.specs.Values.{same_kind, keys_in}
use Rattle.sync_model.specs.Edits.{edit_kind, edit_tag, edit_value, edit_length}
use Rattle.sync_model.specs.Settings.{Setting, nigori_hash, with_key, with_keys}
use Rattle.sync_model.specs.Sides.{Side, state_at, is_full, side_edited}
use Rattle.sync_model.specs.Clients.{Client, Effect, side_of, with_side, restarted, plain_effect}

-- how many bytes the texts of an edit may have
abbrev pub MAX_TEXT : ℕ
MAX_TEXT = 16384

-- why a side refuses an edit of a key of this length, if it does
abbrev pub side_refusal : Side → List ℕ → ℕ → Option EditRefusal
side_refusal side hash len =
    if nat_lt MAX_TEXT len then Some (TooLong len)
    else (if is_full side hash then Some (Full (length side.states)) else None)

-- the hash of what an edit changes
abbrev pub edit_hash : Setting → Edit → List ℕ
edit_hash setting edit = setting.tag_hash (edit_kind edit) (edit_tag edit)

-- the own value of a key
abbrev pub own_at : Side → List ℕ → Value
own_at side hash = (state_at side.states hash).own

-- why a side refuses an edit of a key, if it does
abbrev pub edit_refusal_at : Side → List ℕ → Edit → Option EditRefusal
edit_refusal_at side hash edit = side_refusal side hash (edit_length (own_at side hash) edit)

-- why an edit is refused, if it is
abbrev pub edit_refusal : Setting → Client → Edit → Option EditRefusal
edit_refusal setting client edit = edit_refusal_at (side_of client (edit_kind edit)) (edit_hash setting edit) edit

-- an edit that follows another one of its key, which the server still lacks, settles that one
abbrev pub follows : Option ℕ → ℕ → List Note
follows None number = []
follows (Some due) number = record { number = due; fate = Followed number } ∷ []

-- an edit that is taken, of this type and this key
abbrev pub edit_effect_at : Client → ℕ → Kind → List ℕ → Edit → Side → Effect
edit_effect_at client number kind hash edit side = record {
  client = with_side client kind (side_edited side hash (edit_value (own_at side hash) edit));
  outcome = Edited number kind (side.last_edit + 1);
  kind = kind;
  notes = follows (state_at side.states hash).due (side.last_edit + 1);
}

-- an edit that is taken
abbrev pub edit_taken : Setting → ℕ → Edit → Client → Effect
edit_taken setting number edit client =
    edit_effect_at client number (edit_kind edit) (edit_hash setting edit) edit (side_of client (edit_kind edit))

-- an edit of an entity
unfoldable pub edit_effect : Setting → ℕ → Edit → Client → Option Effect
edit_effect setting number edit client =
    if is_some (edit_refusal setting client edit) then None else Some (edit_taken setting number edit client)

-- the user of a client edits a preference or a login; a profile's keys are set by a passphrase alone
unfoldable pub change_effect : Setting → ℕ → Edit → Client → Option Effect
change_effect setting number edit client =
    if same_kind (edit_kind edit) Nigori then None else edit_effect setting number edit client

-- a client stops within an edit that it would take: the change was kept, or it was not
abbrev pub cut_short : Bool → Client → Option Effect → Option Effect
cut_short kept client None = None
cut_short true client (Some effect) = Some (record effect { client = restarted effect.client; outcome = Done })
cut_short false client (Some effect) = Some (plain_effect (restarted client) Done)

-- a client stops within a user's edit
unfoldable pub cut_effect : Setting → ℕ → Bool → Edit → Client → Option Effect
cut_effect setting number kept edit client = cut_short kept client (change_effect setting number edit client)

-- a client stops, and starts again from what it kept
unfoldable pub crash_effect : Client → Option Effect
crash_effect client = Some (plain_effect (restarted client) Done)

-- the update that a client asks its user's passphrase for: the first sealed one of a batch that waits for a key
abbrev pub asked_for : Option Batch → Option Update
asked_for None = None
asked_for (Some batch) = find (λ update. is_some update.lock) batch.updates

-- the name of the key that is asked for
abbrev pub asked_name : Update → List ℕ
asked_name update = unwrap_or update.lock []

-- a profile's keys under a new passphrase of this kind: it locks all keys of the bag, its own among them
abbrev pub pass_value : Setting → PassKind → List NigoriKey → List ℕ → NigoriValue
pass_value setting kind bag pass = record {
  lock = setting.key_name (setting.pass_key pass);
  keys = with_key setting bag (setting.pass_key pass);
  pass_kind = kind;
}

-- the client's own keys are not yet on the server
abbrev pub unsynced : Option ℕ → Option PassRefusal
unsynced due = option_map (λ number. Unsynced number) due

-- why a passphrase of this kind that a user chooses is refused, if it is: the first cause that holds
abbrev pub set_pass_refusal : Setting → PassKind → List ℕ → Client → Option PassRefusal
set_pass_refusal setting kind pass client =
    option_or (option_map (λ update. NeedsKey (asked_name update)) (asked_for client.nigori.pending))
    (option_or (unsynced (state_at client.nigori.states (nigori_hash setting)).due)
    (option_map (λ refusal. EditRefused refusal) (edit_refusal setting client (SetNigori (pass_value setting kind client.bag pass)))))

-- the user of a client chooses a passphrase of this kind: its key joins the bag, and an edit sets the profile's keys
unfoldable pub set_pass_effect : Setting → PassKind → ℕ → List ℕ → Client → Option Effect
set_pass_effect setting kind number pass client =
    if is_some (set_pass_refusal setting kind pass client) then None
    else Some (edit_taken setting number (SetNigori (pass_value setting kind client.bag pass))
    (record client { bag = with_key setting client.bag (setting.pass_key pass) }))

-- why a passphrase that a user gives is refused where an update waits for one, if it is
abbrev pub give_refusal : Setting → List ℕ → Option Update → Option PassRefusal
give_refusal setting pass None = Some NotAsked
give_refusal setting pass (Some update) =
    if bytes_eq (asked_name update) (setting.key_name (setting.pass_key pass)) then None
    else Some (WrongPass (asked_name update) (setting.key_name (setting.pass_key pass)))

-- why a passphrase that a user gives is refused, if it is
abbrev pub give_pass_refusal : Setting → List ℕ → Client → Option PassRefusal
give_pass_refusal setting pass client = give_refusal setting pass (asked_for client.nigori.pending)

-- the keys that an update carries, if there is one
abbrev pub keys_of_update : Option Update → List NigoriKey
keys_of_update None = []
keys_of_update (Some update) = keys_in update.value

-- the user of a client gives the passphrase that is asked for: its key and the keys that it opens join the bag
unfoldable pub give_pass_effect : Setting → List ℕ → Client → Option Effect
give_pass_effect setting pass client =
    if is_some (give_pass_refusal setting pass client) then None
    else Some (plain_effect (record client {
      bag = with_keys setting (with_key setting client.bag (setting.pass_key pass)) (keys_of_update (asked_for client.nigori.pending));
    }) Done)
