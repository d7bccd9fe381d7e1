-- The code's walks along a chain, block by block.
use Rattle.std.proofs.Common.{◌≡◌, ℕ, suc, ◌+◌, ◌-◌, ◌*◌, ◌/◌, ◌<◌, ◌≤◌, List, [], ◌∷◌, ◌++◌, length, take, drop, get_or, refl, sym, ap, ap₂, subst, ◌∙◌, arith}
use Rattle.std.specs.List.{concat}
use Rattle.std.proofs.lemmas.List.{append-nil, append_assoc, drop_more, drop_all, get_or_default}
use Rattle.aes_cbc.specs.Block.{sum_of_bytes}
use Rattle.aes_cbc.specs.Cipher.{cipher, inv_cipher}
use Rattle.aes_cbc.specs.Padding.{padded, IsPaddedText, EndsInPadding}
use Rattle.aes_cbc.specs.Chaining.{blocks_of, encrypted_blocks, decrypted_blocks, IsCbcText, HasText, HasNoPadding, cbc_encrypted, cbc_decrypted, last_or}
use Rattle.aes_cbc.proofs.PaddingLemmas.{blocks_of-padded, padded_from_end, padded_at_end, text_of_block, block_of_text}

concat-push : (xss : List (List ℕ)) (xs : List ℕ) → concat (xss ++ xs ∷ []) ≡ concat xss ++ xs
concat-push [] xs = append-nil xs
concat-push (ys ∷ xss) xs = ap (λ t. ys ++ t) (concat-push xss xs) ∙ sym (append_assoc ys (concat xss) xs)

module _ (words : List (List ℕ)) where
  -- ---- encryption

  -- what is ahead makes the whole, whatever follows
  abbrev pub EncryptedAhead : List ℕ → List (List ℕ) → List ℕ → List ℕ → ℕ → Type 0
  EncryptedAhead iv blocks out chained i =
      (rest : List (List ℕ)) → out ++ concat (encrypted_blocks words chained (drop i blocks ++ rest)) ≡ concat (encrypted_blocks words iv (blocks ++ rest))

  pub encrypted_more : (iv : List ℕ) (blocks : List (List ℕ)) (out chained : List ℕ) (i : ℕ) (next grown : List ℕ) → i < length blocks
      → EncryptedAhead iv blocks out chained i → next ≡ cipher words (sum_of_bytes (get_or blocks i []) chained) → grown ≡ out ++ next
      → EncryptedAhead iv blocks grown next (i + 1)
  unfolding encrypted_blocks
  encrypted_more iv blocks out chained i next grown small ahead is_next is_grown rest =
      let link : List ℕ = cipher words (sum_of_bytes (get_or blocks i []) chained) in
      let left : List (List ℕ) = drop (i + 1) blocks ++ rest in
      ap₂ (λ o x. o ++ concat (encrypted_blocks words x left)) (is_grown ∙ ap (λ x. out ++ x) is_next) is_next
      ∙ append_assoc out link (concat (encrypted_blocks words link left))
      ∙ ap (λ bs. out ++ concat (encrypted_blocks words chained (bs ++ rest))) (sym (drop_more blocks i [] small))
      ∙ ahead rest

  pub encrypted_from : (iv plain : List ℕ) (blocks : List (List ℕ)) (rest out chained : List ℕ) (i : ℕ) (block sum last grown : List ℕ)
      → blocks ≡ blocks_of plain → rest ≡ drop (length plain / 16 * 16) plain → length blocks ≤ i → EncryptedAhead iv blocks out chained i
      → block ≡ padded rest → sum ≡ sum_of_bytes block chained → last ≡ cipher words sum → grown ≡ out ++ last → grown ≡ cbc_encrypted words iv plain
  unfolding cbc_encrypted encrypted_blocks
  encrypted_from iv plain blocks rest out chained i block sum last grown are_blocks is_rest all ahead is_block is_sum is_last is_grown =
      let end : List ℕ = cipher words (sum_of_bytes (padded rest) chained) in
      let is_end : last ≡ end = is_last ∙ ap (cipher words) (is_sum ∙ ap (λ b. sum_of_bytes b chained) is_block) in
      is_grown ∙ ap (λ x. out ++ x) (is_end ∙ sym (append-nil end))
      ∙ ap (λ bs. out ++ concat (encrypted_blocks words chained (bs ++ padded rest ∷ []))) (sym (drop_all i blocks all))
      ∙ ahead (padded rest ∷ [])
      ∙ ap₂ (λ bs r. concat (encrypted_blocks words iv (bs ++ padded r ∷ []))) are_blocks is_rest
      ∙ ap (λ bs. concat (encrypted_blocks words iv bs)) (sym (blocks_of-padded plain))

  -- ---- decryption

  -- what is ahead makes the whole
  abbrev pub DecryptedAhead : List ℕ → List (List ℕ) → List ℕ → List ℕ → ℕ → Type 0
  DecryptedAhead iv blocks out before i =
      out ++ concat (decrypted_blocks words before (drop i blocks)) ≡ concat (decrypted_blocks words iv blocks)

  pub decrypted_more : (iv : List ℕ) (blocks : List (List ℕ)) (out before : List ℕ) (i : ℕ) (plain sum grown : List ℕ) → i < length blocks
      → DecryptedAhead iv blocks out before i → plain ≡ inv_cipher words (get_or blocks i []) → sum ≡ sum_of_bytes plain before → grown ≡ out ++ sum
      → DecryptedAhead iv blocks grown (get_or blocks i []) (i + 1)
  unfolding decrypted_blocks
  decrypted_more iv blocks out before i plain sum grown small ahead is_plain is_sum is_grown =
      let block : List ℕ = get_or blocks i [] in
      let link : List ℕ = sum_of_bytes (inv_cipher words block) before in
      let left : List ℕ = concat (decrypted_blocks words block (drop (i + 1) blocks)) in
      ap (λ o. o ++ left) (is_grown ∙ ap (λ x. out ++ x) (is_sum ∙ ap (λ p. sum_of_bytes p before) is_plain))
      ∙ append_assoc out link left
      ∙ ap (λ bs. out ++ concat (decrypted_blocks words before bs)) (sym (drop_more blocks i [] small))
      ∙ ahead

  pub decrypted_all : (iv : List ℕ) (blocks : List (List ℕ)) (out before : List ℕ) (i : ℕ) (end grown : List ℕ) → length blocks ≤ i
      → DecryptedAhead iv blocks out before i → grown ≡ out ++ end
      → grown ≡ concat (decrypted_blocks words iv blocks) ++ end
  unfolding decrypted_blocks
  decrypted_all iv blocks out before i end grown all ahead is_grown =
      is_grown ∙ ap (λ o. o ++ end) (sym (append-nil out) ∙ ap (λ bs. out ++ concat (decrypted_blocks words before bs)) (sym (drop_all i blocks all)) ∙ ahead)

  last_or-cons : (before block : List ℕ) (blocks : List (List ℕ)) → last_or before (block ∷ blocks) ≡ last_or block blocks
  last_or-cons before block [] = refl
  last_or-cons before block (next ∷ blocks) =
      let n : ℕ = length blocks in
      let far : suc (suc n) - 1 ≡ suc n = omega arith in
      let near : suc n - 1 ≡ n = omega arith in
      ap (λ k. get_or (block ∷ next ∷ blocks) k before) far ∙ get_or_default (next ∷ blocks) n before block (omega arith)
      ∙ ap (λ k. get_or (next ∷ blocks) k block) (sym near)

  -- the last block is summed with the one before it
  decrypted_blocks-push : (before : List ℕ) (blocks : List (List ℕ)) (last : List ℕ)
      → decrypted_blocks words before (blocks ++ last ∷ []) ≡ decrypted_blocks words before blocks ++ sum_of_bytes (inv_cipher words last) (last_or before blocks) ∷ []
  unfolding decrypted_blocks
  decrypted_blocks-push before [] last = refl
  decrypted_blocks-push before (block ∷ blocks) last =
      ap (λ t. sum_of_bytes (inv_cipher words block) before ∷ t)
      (decrypted_blocks-push block blocks last
      ∙ ap (λ b. decrypted_blocks words block blocks ++ sum_of_bytes (inv_cipher words last) b ∷ []) (sym (last_or-cons before block blocks)))

  -- ---- the last block alone

  -- the padded text of a cipher text: what the front blocks give, and an end
  pub record IsSplit (iv bytes : List ℕ) (front : List (List ℕ)) (end : List ℕ) : Type 0 where
    pub padded_text : cbc_decrypted words iv bytes ≡ concat (decrypted_blocks words iv front) ++ end

  pub split_from : (iv bytes : List ℕ) (blocks front : List (List ℕ)) (last end : List ℕ) → blocks ≡ blocks_of bytes → blocks ≡ front ++ last ∷ []
      → end ≡ sum_of_bytes (inv_cipher words last) (last_or iv front) → IsSplit iv bytes front end
  unfolding cbc_decrypted
  split_from iv bytes blocks front last end are_blocks is_split is_end = record {
    padded_text =
        ap (λ bs. concat (decrypted_blocks words iv bs)) (sym are_blocks ∙ is_split) ∙ ap concat (decrypted_blocks-push iv front last)
        ∙ concat-push (decrypted_blocks words iv front) (sum_of_bytes (inv_cipher words last) (last_or iv front))
        ∙ ap (λ e. concat (decrypted_blocks words iv front) ++ e) (sym is_end);
  }

  module _ (iv bytes : List ℕ) (front : List (List ℕ)) (end : List ℕ) (split : IsSplit iv bytes front end) where
    -- a text, from the padding of the end
    pub is_text : (size : ℕ) (text : List ℕ) → EndsInPadding end size → text ≡ concat (decrypted_blocks words iv front) ++ take (16 - size) end → IsCbcText words iv bytes text
    is_text size text ends is =
        let begin : List ℕ = concat (decrypted_blocks words iv front) in
        let P : List ℕ → Type 0 = λ t. IsCbcText words iv bytes t in
        let Q : List ℕ → Type 0 = λ whole. IsPaddedText whole (begin ++ take (16 - size) end) in
        subst P (sym is) (subst Q (sym split.padded_text) (padded_from_end begin end (take (16 - size) end) (text_of_block end size ends)))

    pub has_text : (size : ℕ) → EndsInPadding end size → HasText words iv bytes
    has_text size ends =
        let text : List ℕ = concat (decrypted_blocks words iv front) ++ take (16 - size) end in
        (text, is_text size text ends refl)

    -- no text, where the end has no padding
    pub has_no_padding : length end ≡ 16 → ((size : ℕ) → EndsInPadding end size → ⊥) → HasNoPadding words iv bytes
    has_no_padding whole none text is =
        let begin : List ℕ = concat (decrypted_blocks words iv front) in
        let Q : List ℕ → Type 0 = λ bs. IsPaddedText bs text in
        let at_end : IsPaddedText end (drop (length begin) text) = padded_at_end begin end text whole (subst Q split.padded_text is) in
        none at_end.size (block_of_text end (drop (length begin) text) whole at_end)
