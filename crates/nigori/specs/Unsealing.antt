-- What becomes of a blob that is to be unsealed under a key.
use Rattle.std.specs.Prelude.{◌≡◌, ◌≢◌, ◌↔◌, ◌⊎◌, ℕ, ◌-◌, ◌%◌, ◌<◌, ◌≤◌, List, length, Result, Ok, Err}
use Rattle.base64.specs.Engines.{standard}
use Rattle.base64.specs.GeneralPurpose.{decode_of}
use Rattle.aes_cbc.specs.Expansion.{key_expansion}
use Rattle.aes_cbc.specs.Chaining.{IsCbcText, HasNoPadding}
use Rattle.key_derivation.specs.declared.NigoriKey.{NigoriKey}
use Rattle.nigori.specs.Sealing.{iv_in, cipher_in, tag_in, tag_of}
use Rattle.nigori.specs.declared.fault.UnsealFault.{UnsealFault}
use Rattle.nigori.specs.declared.fault.UnsealFault.TheVariants.{NoMemory}

-- a blob is base64 of bytes of which this holds: with the padding that the standard asks for, and no bits set
-- past the last byte (RFC 4648, sections 3.2, 3.5 and 4)
abbrev pub Decodes : List ℕ → (List ℕ → Type 0) → Type 0
Decodes blob Holds = (bytes : List ℕ) × (decode_of standard blob ≡ Ok bytes) × Holds bytes

-- a blob is base64 of no bytes
abbrev pub IsNoBase64 : List ℕ → Type 0
IsNoBase64 blob = (bytes : List ℕ) → decode_of standard blob ≢ Ok bytes

-- the bytes hold an initialization vector, one block or more, and a tag
abbrev pub HasGoodLength : List ℕ → Type 0
HasGoodLength bytes = (64 ≤ length bytes) × ((length bytes - 48) % 16 ≡ 0)

-- the bytes are so many, and no sealed text has so many
abbrev pub HasBadLength : ℕ → List ℕ → Type 0
HasBadLength len bytes = (len ≡ length bytes) × ((length bytes < 64) ⊎ ((length bytes - 48) % 16 ≢ 0))

-- the first tag is the one in the bytes, the second one is that of their cipher text, and they differ
abbrev pub HasBadTag : NigoriKey → List ℕ → List ℕ → List ℕ → Type 0
HasBadTag key found computed bytes = HasGoodLength bytes
    × (found ≡ tag_in bytes) × (computed ≡ tag_of key (cipher_in bytes)) × (found ≢ computed)

-- the tag in the bytes is that of their cipher text
abbrev pub HasRightTag : NigoriKey → List ℕ → Type 0
HasRightTag key bytes = HasGoodLength bytes × (tag_in bytes ≡ tag_of key (cipher_in bytes))

-- the tag is right, and the decrypted cipher text ends in no padding
abbrev pub HasBadPadding : NigoriKey → List ℕ → Type 0
HasBadPadding key bytes =
    HasRightTag key bytes × HasNoPadding (key_expansion key.enc) (iv_in bytes) (cipher_in bytes)

-- the tag is right, and this is the text of the cipher text
abbrev pub HoldsText : NigoriKey → List ℕ → List ℕ → Type 0
HoldsText key text bytes =
    HasRightTag key bytes × IsCbcText (key_expansion key.enc) (iv_in bytes) (cipher_in bytes) text

-- the tag is right, and the cipher text has a text
abbrev pub HoldsSomeText : NigoriKey → List ℕ → Type 0
HoldsSomeText key bytes = (text : List ℕ) × HoldsText key text bytes

-- want of memory apart, the result is this answer exactly where that holds
abbrev pub AnswersExactly : Result (List ℕ) UnsealFault → Result (List ℕ) UnsealFault → Type 0 → Type 0
AnswersExactly result answer Holds = result ≢ Err NoMemory → (result ≡ answer) ↔ Holds
