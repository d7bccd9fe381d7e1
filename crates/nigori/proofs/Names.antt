-- How long the name of a key is.
use Rattle.std.proofs.Common.{◌≡◌, ℕ, ◌+◌, List, length, replicate, refl, ap, ◌∙◌, arith, length-append}
use Rattle.std.proofs.lemmas.List.{length-replicate}
use Rattle.base64.specs.Engines.{standard}
use Rattle.base64.specs.GeneralPurpose.{encode_of}
use Rattle.base64.specs.Rfc4648.{encode_symbols, padding_len, unpadded_len}
use Rattle.base64.proofs.RoundTrip.{length-encode_symbols}
use Rattle.aes_cbc.specs.Expansion.{key_expansion}
use Rattle.aes_cbc.proofs.ChainingLemmas.{length-cbc_encrypted}
use Rattle.key_derivation.specs.declared.NigoriKey.{NigoriKey}
use Rattle.nigori.specs.Sealing.{tagged, cipher_of, tag_of, name_text, key_name}
use Rattle.nigori.specs.Laws.{NamesHave88Characters}
use Rattle.nigori.proofs.Sealed.{length-hmac}

length-encode_of : (bytes : List ℕ) → length (encode_of standard bytes) ≡ unpadded_len (length bytes) + padding_len (length bytes)
length-encode_of bytes =
    let symbols : List ℕ = encode_symbols standard.encode_table bytes in
    let pad : List ℕ = replicate (padding_len (length bytes)) 61 in
    omega (arith, length-append symbols pad, length-encode_symbols standard.encode_table bytes, length-replicate {A = ℕ} (padding_len (length bytes)) 61)

length-name_text : length name_text ≡ 22
unfolding name_text
length-name_text = refl

length-named : (key : NigoriKey) → length (tagged key (cipher_of key name_text (replicate 16 0))) ≡ 64
length-named key =
    let cipher : List ℕ = cipher_of key name_text (replicate 16 0) in
    omega (
      arith,
      length-append cipher (tag_of key cipher),
      length-hmac key.mac cipher,
      length-name_text,
      length-cbc_encrypted (key_expansion key.enc) (replicate 16 0) name_text,
    )

pub names_have_88_characters : NamesHave88Characters
unfolding key_name
names_have_88_characters key =
    length-encode_of (tagged key (cipher_of key name_text (replicate 16 0)))
    ∙ ap (λ n. unpadded_len n + padding_len n) (length-named key)
