-- Texts that are sealed under a key, and the names of keys, as lists of bytes.
use Rattle.std.specs.Prelude.{ℕ, ◌-◌, List, ◌++◌, length, take, drop, replicate, codes}
use Rattle.std.specs.Int.{w32, to_be_bytes}
use Rattle.base64.specs.Engines.{standard}
use Rattle.base64.specs.GeneralPurpose.{encode_of}
use Rattle.sha2.specs.Sha256.{sha256}
use Rattle.aes_cbc.specs.Expansion.{key_expansion}
use Rattle.aes_cbc.specs.Chaining.{cbc_encrypted}
use Rattle.key_derivation.specs.Hmac.{hmac}
use Rattle.key_derivation.specs.declared.NigoriKey.{NigoriKey}

-- a text in cipher block chaining under a key's encryption key (SP 800-38A, 6.2)
abbrev pub cipher_of : NigoriKey → List ℕ → List ℕ → List ℕ
cipher_of key plain iv = cbc_encrypted (key_expansion key.enc) iv plain

-- the tag of a cipher text: its HMAC-SHA-256 under a key's key for tags (RFC 2104, 2)
abbrev pub tag_of : NigoriKey → List ℕ → List ℕ
tag_of key cipher = hmac sha256 key.mac cipher

-- a cipher text, and its tag after it
abbrev pub tagged : NigoriKey → List ℕ → List ℕ
tagged key cipher = cipher ++ tag_of key cipher

-- a sealed text: standard base64 with padding (RFC 4648, section 4) of the initialization vector and of the
-- tagged cipher text
unfoldable pub sealed : NigoriKey → List ℕ → List ℕ → List ℕ
sealed key plain iv = encode_of standard (iv ++ tagged key (cipher_of key plain iv))

-- what a key is named by: the word `nigori-key` after its length, and the number 1 after its own
unfoldable pub name_text : List ℕ
name_text = to_be_bytes w32 10 ++ codes "nigori-key" ++ to_be_bytes w32 4 ++ to_be_bytes w32 1

-- the name of a key: standard base64 with padding of that text's tagged cipher text, whose initialization
-- vector is zero
unfoldable pub key_name : NigoriKey → List ℕ
key_name key = encode_of standard (tagged key (cipher_of key name_text (replicate 16 0)))

-- the initialization vector that stands in the bytes of a sealed text
abbrev pub iv_in : List ℕ → List ℕ
iv_in bytes = take 16 bytes

-- the cipher text that stands in the bytes of a sealed text
abbrev pub cipher_in : List ℕ → List ℕ
cipher_in bytes = take (length bytes - 48) (drop 16 bytes)

-- the tag that stands in the bytes of a sealed text
abbrev pub tag_in : List ℕ → List ℕ
tag_in bytes = drop (length bytes - 32) bytes
