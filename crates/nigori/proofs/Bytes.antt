-- What a sealed text is made of are bytes.
use Rattle.std.proofs.Common.{ℕ, zero, suc, ◌/◌, ◌%◌, ◌<◌, List, [], ◌∷◌, arith, All}
use Rattle.std.specs.Int.{w32, to_be_bytes}
use Rattle.std.specs.List.{concat}
use Rattle.std.specs.Prelude.{slice_index}
use Rattle.std.proofs.lemmas.List.Elements.{All-cons, All-nil, All-head, All-tail, All-append}
use Rattle.base64.specs.GeneralPurpose.{IsBytes}
use Rattle.sha2.specs.Sha256.{sha256, digest_bytes}
use Rattle.aes_cbc.specs.Expansion.{key_expansion}
use Rattle.aes_cbc.specs.Padding.{padded}
use Rattle.aes_cbc.specs.Chaining.{blocks_of, encrypted_blocks, cbc_encrypted}
use Rattle.aes_cbc.specs.Laws.{AreBytes, IsBlock}
use Rattle.aes_cbc.proofs.ExpansionLemmas.{AreRoundKeys-key_expansion}
use Rattle.aes_cbc.proofs.ChainingLemmas.{are_blocks-encrypted_blocks}
use Rattle.aes_cbc.proofs.Chunks.{are_blocks-blocks_of}
use Rattle.aes_cbc.proofs.PaddingLemmas.{are_bytes-padded}
use Rattle.key_derivation.specs.Hmac.{hmac}

pub are_bytes_by_place : (xs : List ℕ) → AreBytes xs → IsBytes xs
are_bytes_by_place [] h i = omega arith
are_bytes_by_place (x ∷ xs) h zero = All-head (λ b. b < 256) x xs h
are_bytes_by_place (x ∷ xs) h (suc i) = are_bytes_by_place xs (All-tail (λ b. b < 256) x xs h) i

are_bytes-to_be_bytes : (n : ℕ) → AreBytes (to_be_bytes w32 n)
are_bytes-to_be_bytes n =
    let P : ℕ → Type 0 = λ b. b < 256 in
    let two : AreBytes (n / 256 % 256 ∷ n % 256 ∷ []) =
    All-cons P (n / 256 % 256) (n % 256 ∷ []) (omega arith) (All-cons P (n % 256) [] (omega arith) (All-nil P)) in
    All-cons P (n / 16777216 % 256) (n / 65536 % 256 ∷ n / 256 % 256 ∷ n % 256 ∷ []) (omega arith)
    (All-cons P (n / 65536 % 256) (n / 256 % 256 ∷ n % 256 ∷ []) (omega arith) two)

are_bytes-digest_bytes : (hash : List ℕ) (n : ℕ) → AreBytes (digest_bytes hash n)
unfolding digest_bytes
are_bytes-digest_bytes hash zero = All-nil (λ b. b < 256)
are_bytes-digest_bytes hash (suc n) =
    All-append (λ b. b < 256) (digest_bytes hash n) (to_be_bytes w32 (slice_index hash n))
    (are_bytes-digest_bytes hash n) (are_bytes-to_be_bytes (slice_index hash n))

-- an HMAC-SHA-256 is of bytes
pub are_bytes-hmac : (key text : List ℕ) → AreBytes (hmac sha256 key text)
unfolding hmac sha256
are_bytes-hmac key text = are_bytes-digest_bytes _ 8

are_bytes-concat : (blocks : List (List ℕ)) → All IsBlock blocks → AreBytes (concat blocks)
are_bytes-concat [] h = All-nil (λ b. b < 256)
are_bytes-concat (block ∷ blocks) h =
    All-append (λ b. b < 256) block (concat blocks) (All-head IsBlock block blocks h).are_bytes
    (are_bytes-concat blocks (All-tail IsBlock block blocks h))

-- a cipher text is of bytes
pub are_bytes-cbc_encrypted : (key iv text : List ℕ) → IsBlock key → IsBlock iv → AreBytes text → AreBytes (cbc_encrypted (key_expansion key) iv text)
unfolding cbc_encrypted
are_bytes-cbc_encrypted key iv text is_key is_iv are_bytes =
    let words : List (List ℕ) = key_expansion key in
    are_bytes-concat (encrypted_blocks words iv (blocks_of (padded text)))
    (are_blocks-encrypted_blocks words (AreRoundKeys-key_expansion key is_key) iv (blocks_of (padded text)) is_iv
    (are_blocks-blocks_of (padded text) (are_bytes-padded text are_bytes)))
