-- The keys that are derived from a passphrase.
use Rattle.std.specs.Prelude.{ℕ, List, codes}
use Rattle.key_derivation.specs.Pbkdf2.{pbkdf2}
use Rattle.key_derivation.specs.declared.NigoriKey.{NigoriKey}

-- the salt of every passphrase
unfoldable pub salt : List ℕ
salt = codes "sync-salt-16byte"

-- the keys of a passphrase: each is PBKDF2 with its own number of turns
unfoldable pub derive_key : List ℕ → NigoriKey
derive_key pass = record {
  user = pbkdf2 pass salt 1002 16;
  enc = pbkdf2 pass salt 1003 16;
  mac = pbkdf2 pass salt 1004 16;
}
