-- A sealed text holds the text that was sealed, and no other.
use Rattle.std.proofs.Common.{◌≡◌, ℕ, ◌+◌, ◌-◌, ◌<◌, List, ◌++◌, length, take, drop, Ok, refl, sym, ap, ap₂, subst, ◌∙◌, arith, length-append, append_assoc}
use Rattle.std.proofs.lemmas.List.{take_at}
use Rattle.std.proofs.lemmas.List.Elements.{All-append}
use Rattle.std.proofs.Math.Seq.{drop-append_seam}
use Rattle.base64.specs.Engines.{standard}
use Rattle.base64.specs.GeneralPurpose.{decode_of}
use Rattle.base64.proofs.EngineFacts.{decode_of-encode_of}
use Rattle.sha2.specs.Sha256.{sha256}
use Rattle.sha2.proofs.Facts256.{length-sha256}
use Rattle.aes_cbc.specs.Expansion.{key_expansion}
use Rattle.aes_cbc.specs.Chaining.{AreWholeBlocks, IsCbcText}
use Rattle.aes_cbc.specs.Laws.{AreBytes, IsBlock, DecryptsTo, DecryptionUndoesEncryption}
use Rattle.key_derivation.specs.Hmac.{hmac}
use Rattle.key_derivation.specs.declared.NigoriKey.{NigoriKey}
use Rattle.nigori.specs.Sealing.{sealed, tagged, cipher_of, tag_of, iv_in, cipher_in, tag_in}
use Rattle.nigori.specs.Unsealing.{HoldsText}
use Rattle.nigori.specs.Laws.{HoldsTextAlone, UnsealingUndoesSealing}
use Rattle.nigori.proofs.Bytes.{are_bytes_by_place, are_bytes-hmac, are_bytes-cbc_encrypted}
use Rattle.nigori.proofs.Parts.{AreParts}
use Rattle.nigori.proofs.Verdicts.{one_decoded, one_text_of_bytes}

pub length-hmac : (key text : List ℕ) → length (hmac sha256 key text) ≡ 32
unfolding hmac
length-hmac key text = length-sha256 _

-- bytes that were put together from parts have these parts
parts_of_joined : (iv cipher tag : List ℕ) → length iv ≡ 16 → length tag ≡ 32 → AreWholeBlocks cipher → AreParts (iv ++ (cipher ++ tag)) iv cipher tag
parts_of_joined iv cipher tag iv_size tag_size whole =
    let inner : length (cipher ++ tag) ≡ length cipher + length tag = length-append cipher tag in
    let outer : length (iv ++ (cipher ++ tag)) ≡ length iv + length (cipher ++ tag) = length-append iv (cipher ++ tag) in
    let cipher_size : length cipher ≡ length (iv ++ (cipher ++ tag)) - 48 = omega (arith, inner, outer, iv_size, tag_size) in
    let after_iv : drop 16 (iv ++ (cipher ++ tag)) ≡ cipher ++ tag =
    ap (λ n. drop n (iv ++ (cipher ++ tag))) (sym iv_size) ∙ drop-append_seam iv (cipher ++ tag) in
    let joined : (iv ++ cipher) ++ tag ≡ iv ++ (cipher ++ tag) = append_assoc iv cipher tag in
    let front : length (iv ++ cipher) ≡ length iv + length cipher = length-append iv cipher in
    let place : length (iv ++ (cipher ++ tag)) - 32 ≡ length (iv ++ cipher) = omega (arith, inner, outer, front, iv_size, tag_size) in
    let at_end : drop (length (iv ++ (cipher ++ tag)) - 32) (iv ++ (cipher ++ tag)) ≡ tag =
    ap₂ drop place (sym joined) ∙ drop-append_seam (iv ++ cipher) tag in
    record {
      is_iv = sym (take_at iv (cipher ++ tag) 16 iv_size);
      is_cipher = sym (ap (take (length (iv ++ (cipher ++ tag)) - 48)) after_iv
          ∙ take_at cipher tag (length (iv ++ (cipher ++ tag)) - 48) cipher_size);
      is_tag = sym at_end;
      is_good = (omega (arith, inner, outer, iv_size, tag_size, whole.0, whole.1), omega (arith, inner, outer, iv_size, tag_size, whole.1));
    }

module _ (law : DecryptionUndoesEncryption) (key : NigoriKey) (plain iv : List ℕ)
    (is_key : IsBlock key.enc) (are_bytes : AreBytes plain) (is_iv : IsBlock iv) where
  abbrev secret : List ℕ
  secret = cipher_of key plain iv

  abbrev bytes : List ℕ
  bytes = iv ++ tagged key secret

  decrypts : DecryptsTo (key_expansion key.enc) iv plain
  decrypts = law key.enc iv plain is_key is_iv are_bytes

  parts : AreParts bytes iv secret (tag_of key secret)
  parts = parts_of_joined iv secret (tag_of key secret) is_iv.is_whole (length-hmac key.mac secret) decrypts.are_whole

  decodes : decode_of standard (sealed key plain iv) ≡ Ok bytes
  unfolding sealed
  decodes =
      let secret_bytes : AreBytes secret = are_bytes-cbc_encrypted key.enc iv plain is_key is_iv are_bytes in
      let all : AreBytes bytes = All-append (λ b. b < 256) iv (tagged key secret) is_iv.are_bytes
      (All-append (λ b. b < 256) secret (tag_of key secret) secret_bytes (are_bytes-hmac key.mac secret)) in
      decode_of-encode_of standard bytes refl (are_bytes_by_place bytes all)

  holds_text : HoldsText key plain bytes
  holds_text =
      let right : tag_in bytes ≡ tag_of key (cipher_in bytes) = sym parts.is_tag ∙ ap (tag_of key) parts.is_cipher in
      let text : IsCbcText (key_expansion key.enc) (iv_in bytes) (cipher_in bytes) plain =
      subst (λ v. IsCbcText (key_expansion key.enc) v (cipher_in bytes) plain) parts.is_iv
      (subst (λ c. IsCbcText (key_expansion key.enc) iv c plain) parts.is_cipher decrypts.is_text) in
      ((parts.is_good, right), text)

  holds_text_alone : HoldsTextAlone key (sealed key plain iv) plain
  holds_text_alone = record {
    is_text = (bytes, decodes, holds_text);
    is_only = λ other h.
        let same : HoldsText key other bytes = subst (HoldsText key other) (one_decoded (sealed key plain iv) h.0 bytes h.1 decodes) h.2 in
        one_text_of_bytes key bytes other plain same holds_text;
  }

pub unsealing_undoes_sealing : DecryptionUndoesEncryption → UnsealingUndoesSealing
unsealing_undoes_sealing law key plain iv is_key are_bytes is_iv = holds_text_alone law key plain iv is_key are_bytes is_iv
