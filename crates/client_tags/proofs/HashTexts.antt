-- A text is that of a hash exactly where it decodes to twenty bytes.
use Rattle.std.proofs.Common.{◌≡◌, ◌≢◌, ◌↔◌, ℕ, List, length, Option, Some, None, Result, Ok, Err, refl, sym, ◌∙◌, ap, length-append, arith}
use Rattle.std.proofs.lemmas.Bool.Decides.{nat_tests}
use Rattle.std.proofs.lemmas.List.{length-replicate}
use Rattle.base64.specs.declared.decode.DecodeError.{DecodeError}
use Rattle.base64.specs.Engines.{standard}
use Rattle.base64.specs.GeneralPurpose.{decode_of, IsBytes}
use Rattle.base64.proofs.EngineFacts.{decode_of_strict, decode_of-encode_of}
use Rattle.base64.proofs.RoundTrip.{length-encode_symbols}
use Rattle.client_tags.specs.Hashes.{hash_text, hash_bytes_of, twenty, IsHash, IsNoHashText}

decode_of-hash_text : (bytes : List ℕ) → IsHash bytes → decode_of standard (hash_text bytes) ≡ Ok bytes
unfolding hash_text
decode_of-hash_text bytes is = decode_of-encode_of standard bytes refl is.are_bytes

length-hash_text : (bytes : List ℕ) → length bytes ≡ 20 → length (hash_text bytes) ≡ 28
unfolding hash_text
length-hash_text bytes has_20 = simp (length-append, length-encode_symbols, length-replicate, has_20)

pub no_text_of_length : (text : List ℕ) → length text ≢ 28 → IsNoHashText text
no_text_of_length text short bytes is same = short (ap length same ∙ length-hash_text bytes is.has_20)

pub no_text_undecoded : (text : List ℕ) (fault : DecodeError) → decode_of standard text ≡ Err fault → IsNoHashText text
no_text_undecoded text fault failed bytes is same =
    let decoded : decode_of standard text ≡ Ok bytes = ap (decode_of standard) same ∙ decode_of-hash_text bytes is in
    cc

pub no_text_of_others : (text others : List ℕ) → decode_of standard text ≡ Ok others → length others ≢ 20 → IsNoHashText text
no_text_of_others text others decoded not_20 bytes is same =
    let again : decode_of standard text ≡ Ok bytes = ap (decode_of standard) same ∙ decode_of-hash_text bytes is in
    let equal : others ≡ bytes = cc in
    not_20 (ap length equal ∙ is.has_20)

pub text_of_decoded : (text bytes : List ℕ) → IsBytes text → decode_of standard text ≡ Ok bytes → text ≡ hash_text bytes
unfolding hash_text
text_of_decoded text bytes are_bytes decoded = decode_of_strict standard text bytes (refl, refl) are_bytes decoded

abbrev the_hash : List ℕ → Option (List ℕ)
the_hash bytes = Some bytes

-- the hash of the bytes that a text decodes to is found in it, and no other
pub one_found : (text bytes : List ℕ) → IsBytes text → decode_of standard text ≡ Ok bytes → (hash : List ℕ) → IsHash hash
    → (the_hash bytes ≡ Some hash) ↔ (text ≡ hash_text hash)
one_found text bytes are_bytes decoded hash is = (
  λ found.
      let equal : bytes ≡ hash = cc found in
      text_of_decoded text bytes are_bytes decoded ∙ ap hash_text equal,
  λ same.
      let again : decode_of standard text ≡ Ok hash = ap (decode_of standard) same ∙ decode_of-hash_text hash is in
      let equal : bytes ≡ hash = cc in
      ap the_hash equal,
)

not_twenty : (bytes : List ℕ) → length bytes ≢ 20 → None ≡ twenty bytes
not_twenty bytes other = grind (arith, nat_tests, other)

are_twenty : (bytes : List ℕ) → length bytes ≡ 20 → Some bytes ≡ twenty bytes
are_twenty bytes has_20 = grind (arith, nat_tests, has_20)

-- the bytes of a hash, by what its text decodes to
abbrev bytes_of_decoded : Result (List ℕ) DecodeError → Option (List ℕ)
bytes_of_decoded decoded = elim decoded as (λ d. Option (List ℕ)) [ Ok bytes ↦ twenty bytes | Err fault ↦ None ]

none_by : (text : List ℕ) (decoded : Result (List ℕ) DecodeError) → IsBytes text → length text ≢ 28 →
    decode_of standard text ≡ decoded → None ≡ bytes_of_decoded decoded
none_by text (Ok bytes) are_bytes short same =
    not_twenty bytes (λ has_20. short (ap length (text_of_decoded text bytes are_bytes same) ∙ length-hash_text bytes has_20))
none_by text (Err fault) are_bytes short same = refl

-- a text of another length stands for no hash
pub none_of_length : (text : List ℕ) → IsBytes text → length text ≢ 28 → None ≡ hash_bytes_of text
unfolding hash_bytes_of
none_of_length text are_bytes short = none_by text (decode_of standard text) are_bytes short refl

-- a text that does not decode stands for no hash
pub none_undecoded : (text : List ℕ) (fault : DecodeError) → decode_of standard text ≡ Err fault → None ≡ hash_bytes_of text
unfolding hash_bytes_of
none_undecoded text fault failed = ap bytes_of_decoded (sym failed)

-- a text that decodes to another number of bytes stands for no hash
pub none_of_others : (text others : List ℕ) → decode_of standard text ≡ Ok others → length others ≢ 20 → None ≡ hash_bytes_of text
unfolding hash_bytes_of
none_of_others text others decoded not_20 = not_twenty others not_20 ∙ ap bytes_of_decoded (sym decoded)

-- a text that decodes to twenty bytes stands for them
pub bytes_of_text : (text bytes : List ℕ) → decode_of standard text ≡ Ok bytes → length bytes ≡ 20 → Some bytes ≡ hash_bytes_of text
unfolding hash_bytes_of
bytes_of_text text bytes decoded has_20 = are_twenty bytes has_20 ∙ ap bytes_of_decoded (sym decoded)
