-- What the steps of unsealing may answer. Once the bytes are there, memory is wanted for a text alone.
use Rattle.std.specs.Prelude.{ℕ, List, Result, Ok, Err}
use Rattle.aes_cbc.specs.Expansion.{key_expansion}
use Rattle.aes_cbc.specs.Chaining.{IsCbcText, HasText, HasNoPadding}
use Rattle.key_derivation.specs.declared.NigoriKey.{NigoriKey}
use Rattle.nigori.specs.Unsealing.{IsNoBase64, HasBadLength, HasBadTag, HasBadPadding, HoldsText, HoldsSomeText}
use Rattle.nigori.specs.declared.fault.UnsealFault.{UnsealFault}
use Rattle.nigori.specs.declared.fault.UnsealFault.TheVariants.{NotBase64, BadLength, BadTag, BadPadding, NoMemory}

-- the step that decodes a blob may answer this fault
abbrev pub IsDecodingFault : List ℕ → UnsealFault → Type 0
IsDecodingFault blob NotBase64 = IsNoBase64 blob
IsDecodingFault blob (BadLength len) = ⊥
IsDecodingFault blob (BadTag found computed) = ⊥
IsDecodingFault blob BadPadding = ⊥
IsDecodingFault blob NoMemory = Unit {0}

-- the step that decrypts a cipher text may answer this
abbrev pub IsCipherVerdict : NigoriKey → List ℕ → List ℕ → Result (List ℕ) UnsealFault → Type 0
IsCipherVerdict key iv cipher (Ok text) = IsCbcText (key_expansion key.enc) iv cipher text
IsCipherVerdict key iv cipher (Err NotBase64) = ⊥
IsCipherVerdict key iv cipher (Err (BadLength len)) = ⊥
IsCipherVerdict key iv cipher (Err (BadTag found computed)) = ⊥
IsCipherVerdict key iv cipher (Err BadPadding) = HasNoPadding (key_expansion key.enc) iv cipher
IsCipherVerdict key iv cipher (Err NoMemory) = HasText (key_expansion key.enc) iv cipher

-- the steps past decoding may answer this
abbrev pub IsBytesVerdict : NigoriKey → List ℕ → Result (List ℕ) UnsealFault → Type 0
IsBytesVerdict key bytes (Ok text) = HoldsText key text bytes
IsBytesVerdict key bytes (Err NotBase64) = ⊥
IsBytesVerdict key bytes (Err (BadLength len)) = HasBadLength len bytes
IsBytesVerdict key bytes (Err (BadTag found computed)) = HasBadTag key found computed bytes
IsBytesVerdict key bytes (Err BadPadding) = HasBadPadding key bytes
IsBytesVerdict key bytes (Err NoMemory) = HoldsSomeText key bytes
