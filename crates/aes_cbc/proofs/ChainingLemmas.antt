-- Decryption in a chain undoes encryption in it, and so it gives the text again.
use Rattle.std.proofs.Common.{◌≡◌, ℕ, suc, ◌+◌, ◌*◌, ◌/◌, List, [], ◌∷◌, length, refl, sym, ap, ap₂, subst, ◌∙◌, arith, All}
use Rattle.std.specs.List.{concat}
use Rattle.std.proofs.lemmas.List.{length-append}
use Rattle.std.proofs.lemmas.List.Elements.{All-cons, All-nil, All-head, All-tail}
use Rattle.aes_cbc.specs.Block.{sum_of_bytes, shift_rows}
use Rattle.aes_cbc.specs.Expansion.{key_expansion}
use Rattle.aes_cbc.specs.Cipher.{round_key, cipher}
use Rattle.aes_cbc.specs.Padding.{padded, IsPaddedText}
use Rattle.aes_cbc.specs.Chaining.{blocks_of, encrypted_blocks, decrypted_blocks, cbc_encrypted, cbc_decrypted}
use Rattle.aes_cbc.specs.Laws.{AreBytes, IsBlock, DecryptsTo, DecryptionUndoesEncryption}
use Rattle.aes_cbc.proofs.BlockLemmas.{length-block_of, length-sum_of_bytes, IsBlock-sum, sum_twice_of_blocks}
use Rattle.aes_cbc.proofs.ExpansionLemmas.{AreRoundKeys, AreRoundKeys-key_expansion}
use Rattle.aes_cbc.proofs.CipherLemmas.{IsBlock-cipher, inv_cipher-cipher}
use Rattle.aes_cbc.proofs.Chunks.{blocks_of-concat, concat-blocks_of, are_blocks-blocks_of, length-concat_of_blocks, length-chunks}
use Rattle.aes_cbc.proofs.PaddingLemmas.{length-padded, are_whole-padded, are_bytes-padded, is_padded-padded, one_text}

-- ---- how long a cipher text is, whatever the key and the vector are

length-cipher : (words : List (List ℕ)) (block : List ℕ) → length (cipher words block) ≡ 16
unfolding cipher shift_rows round_key
length-cipher words block =
    length-sum_of_bytes _ _ (length-block_of _ ∙ sym (length-block_of _)) ∙ length-block_of _

length-concat_encrypted : (words : List (List ℕ)) (before : List ℕ) (blocks : List (List ℕ)) → length (concat (encrypted_blocks words before blocks)) ≡ length blocks * 16
unfolding encrypted_blocks
length-concat_encrypted words before [] = refl
length-concat_encrypted words before (block ∷ blocks) =
    let chained : List ℕ = cipher words (sum_of_bytes block before) in
    omega (arith, length-append chained (concat (encrypted_blocks words chained blocks)), length-cipher words (sum_of_bytes block before), length-concat_encrypted words chained blocks)

pub length-cbc_encrypted : (words : List (List ℕ)) (iv text : List ℕ) → length (cbc_encrypted words iv text) ≡ (length text / 16 + 1) * 16
unfolding cbc_encrypted
length-cbc_encrypted words iv text =
    omega (arith, length-concat_encrypted words iv (blocks_of (padded text)), length-chunks (length (padded text) / 16) (padded text), length-padded text)

-- ---- decryption undoes encryption

module _ (words : List (List ℕ)) (keys : AreRoundKeys words) where
  pub are_blocks-encrypted_blocks : (before : List ℕ) (blocks : List (List ℕ)) → IsBlock before → All IsBlock blocks → All IsBlock (encrypted_blocks words before blocks)
  unfolding encrypted_blocks
  are_blocks-encrypted_blocks before [] h k = All-nil IsBlock
  are_blocks-encrypted_blocks before (block ∷ blocks) h k =
      let sum : List ℕ = sum_of_bytes block before in
      let is_block : IsBlock (cipher words sum) = IsBlock-cipher words keys sum (IsBlock-sum block before (All-head IsBlock block blocks k) h) in
      All-cons IsBlock (cipher words sum) (encrypted_blocks words (cipher words sum) blocks) is_block
      (are_blocks-encrypted_blocks (cipher words sum) blocks is_block (All-tail IsBlock block blocks k))

  length-encrypted_blocks : (before : List ℕ) (blocks : List (List ℕ)) → length (encrypted_blocks words before blocks) ≡ length blocks
  unfolding encrypted_blocks
  length-encrypted_blocks before [] = refl
  length-encrypted_blocks before (block ∷ blocks) = ap (λ n. suc n) (length-encrypted_blocks (cipher words (sum_of_bytes block before)) blocks)

  decrypted-encrypted : (before : List ℕ) (blocks : List (List ℕ)) → IsBlock before → All IsBlock blocks → decrypted_blocks words before (encrypted_blocks words before blocks) ≡ blocks
  unfolding encrypted_blocks decrypted_blocks
  decrypted-encrypted before [] h k = refl
  decrypted-encrypted before (block ∷ blocks) h k =
      let is_block : IsBlock block = All-head IsBlock block blocks k in
      let sum : List ℕ = sum_of_bytes block before in
      let is_sum : IsBlock sum = IsBlock-sum block before is_block h in
      ap₂ ◌∷◌ (ap (λ s. sum_of_bytes s before) (inv_cipher-cipher words keys sum is_sum) ∙ sum_twice_of_blocks block before is_block h)
      (decrypted-encrypted (cipher words sum) blocks (IsBlock-cipher words keys sum is_sum) (All-tail IsBlock block blocks k))

  decrypts_to : (iv text : List ℕ) → IsBlock iv → AreBytes text → DecryptsTo words iv text
  unfolding cbc_encrypted cbc_decrypted
  decrypts_to iv text is_iv are_bytes =
      let blocks : List (List ℕ) = blocks_of (padded text) in
      let are_blocks : All IsBlock blocks = are_blocks-blocks_of (padded text) (are_bytes-padded text are_bytes) in
      let secret : List (List ℕ) = encrypted_blocks words iv blocks in
      let are_secret : All IsBlock secret = are_blocks-encrypted_blocks iv blocks is_iv are_blocks in
      let size : length (concat secret) ≡ length (padded text) / 16 * 16 =
      length-concat_of_blocks secret are_secret ∙ ap (λ n. n * 16) (length-encrypted_blocks iv blocks ∙ length-chunks (length (padded text) / 16) (padded text)) in
      let back : cbc_decrypted words iv (concat secret) ≡ padded text =
      ap (λ bs. concat (decrypted_blocks words iv bs)) (blocks_of-concat secret are_secret)
      ∙ ap concat (decrypted-encrypted iv blocks is_iv are_blocks)
      ∙ concat-blocks_of (padded text) (are_whole-padded text).1 in
      let is_text : IsPaddedText (cbc_decrypted words iv (concat secret)) text =
      let P : List ℕ → Type 0 = λ bytes. IsPaddedText bytes text in subst P (sym back) (is_padded-padded text) in
      record {
        are_whole = (omega (arith, are_whole-padded text), omega arith);
        is_text = is_text;
        is_only = λ other h. one_text (cbc_decrypted words iv (concat secret)) text other is_text h;
      }

pub decryption_undoes_encryption : DecryptionUndoesEncryption
decryption_undoes_encryption key iv text is_key is_iv are_bytes = decrypts_to (key_expansion key) (AreRoundKeys-key_expansion key is_key) iv text is_iv are_bytes
