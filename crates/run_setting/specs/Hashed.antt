-- What every run of the program is given: the hashes of client tags, and the keys of passphrases with their names.
use Rattle.client_tags.specs.Hashes.{tag_hash, hash_text}
use Rattle.key_derivation.specs.DerivedKeys.{derive_key}
use Rattle.nigori.specs.Sealing.{key_name}
use Rattle.sync_values.specs.declared.value.PassKind.TheVariants.{Custom}
use Rattle.sync_model.specs.Settings.{Setting, remote_wins}

-- Keys are the hashes of client tags, shown as their texts. Of two preferences that differ the server's wins, and
-- users choose passphrases of their own, from which keys are derived.
unfoldable pub hashed : Setting
hashed = record {
  decided = remote_wins;
  pass_kind = Custom;
  tag_hash = tag_hash;
  hash_text = hash_text;
  pass_key = derive_key;
  key_name = key_name;
}
