-- The hashes of client tags, and the texts by which messages carry them.
use Rattle.std.specs.Prelude.{◌≡◌, ◌≢◌, ℕ, ◌<◌, ◌==◌, if◌then◌else◌, List, ◌++◌, length, slice_index, Option, Some, None, Ok, Err}
use Rattle.sha1.specs.Sha1.{sha1}
use Rattle.base64.specs.Engines.{standard}
use Rattle.base64.specs.GeneralPurpose.{encode_of, decode_of}
use Rattle.client_tags.specs.declared.Kind.{Kind}
use Rattle.client_tags.specs.Kinds.{specifics_prefix}

-- the hash of a type's tag: SHA-1 (FIPS 180-4) over an empty specifics of the type and the tag
unfoldable pub tag_hash : Kind → List ℕ → List ℕ
tag_hash kind tag = sha1 (specifics_prefix kind ++ tag)

-- the text of a hash: standard base64 with padding (RFC 4648, section 4)
unfoldable pub hash_text : List ℕ → List ℕ
hash_text bytes = encode_of standard bytes

-- these are the bytes of a hash: twenty of them
pub record IsHash (bytes : List ℕ) : Type 0 where
  pub has_20 : length bytes ≡ 20
  pub are_bytes : (i : ℕ) → slice_index bytes i < 256

-- a text that is no hash's
abbrev pub IsNoHashText : List ℕ → Type 0
IsNoHashText text = (bytes : List ℕ) → IsHash bytes → text ≢ hash_text bytes

-- twenty bytes
abbrev pub twenty : List ℕ → Option (List ℕ)
twenty bytes = if length bytes == 20 then Some bytes else None

-- the hash of a text, if it is one's: the bytes that it stands for by its base64, where they are twenty
unfoldable pub hash_bytes_of : List ℕ → Option (List ℕ)
hash_bytes_of text = elim (decode_of standard text) as (λ decoded. Option (List ℕ)) [
  | Ok bytes ↦ twenty bytes
  | Err fault ↦ None
]
