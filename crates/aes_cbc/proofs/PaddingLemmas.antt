-- A text and its padding.
use Rattle.std.proofs.Common.{◌≡◌, ℕ, ◌+◌, ◌-◌, ◌*◌, ◌/◌, ◌<◌, ◌≤◌, List, [], ◌∷◌, ◌++◌, length, take, drop, replicate, get_or, refl, sym, ap, ap₂, ◌∙◌, arith}
use Rattle.std.specs.Simd.{first_chunks}
use Rattle.std.proofs.lemmas.List.{length-append, length-drop, length-replicate, take-append-drop, append_assoc, append_cancel_right, get_or-append-add, get_or-replicate, drop-append-le, take_all, drop_at, get_or-drop, drop-replicate}
use Rattle.std.proofs.lemmas.List.Elements.{All-append, All-replicate}
use Rattle.aes_cbc.specs.Padding.{padding_size, padded, IsPaddedText, EndsInPadding}
use Rattle.aes_cbc.specs.Chaining.{AreWholeBlocks, blocks_of}
use Rattle.aes_cbc.specs.Laws.{AreBytes}
use Rattle.aes_cbc.proofs.Chunks.{chunks_more, chunks-append}

pub length-padded : (text : List ℕ) → length (padded text) ≡ length text + padding_size (length text)
unfolding padded
length-padded text =
    let p : ℕ = padding_size (length text) in
    omega (arith, length-append text (replicate p p), length-replicate p p)

pub are_whole-padded : (text : List ℕ) → AreWholeBlocks (padded text)
are_whole-padded text = (omega (arith, length-padded text), omega (arith, length-padded text))

pub are_bytes-padded : (text : List ℕ) → AreBytes text → AreBytes (padded text)
unfolding padded
are_bytes-padded text h =
    let P : ℕ → Type 0 = λ b. b < 256 in
    let p : ℕ = padding_size (length text) in
    All-append P text (replicate p p) h (All-replicate P p p (omega arith))

pub is_padded-padded : (text : List ℕ) → IsPaddedText (padded text) text
unfolding padded
is_padded-padded text = record { size = padding_size (length text); is_some = omega arith; is_at_most_a_block = omega arith; is_whole = refl }

-- ---- one text at most

-- the last byte of a padded text is the size of the padding
last_byte : (text : List ℕ) (p n : ℕ) → 1 ≤ p → n ≡ length text + p → get_or (text ++ replicate p p) (n - 1) 0 ≡ p
last_byte text p n h e =
    let place : n - 1 ≡ length text + (p - 1) = omega arith in
    ap (λ k. get_or (text ++ replicate p p) k 0) place ∙ get_or-append-add text (replicate p p) (p - 1) 0 ∙ get_or-replicate p (p - 1) p 0 (omega arith)

pub one_text : (bytes text other : List ℕ) → IsPaddedText bytes text → IsPaddedText bytes other → other ≡ text
one_text bytes text other h k =
    let size_h : length bytes ≡ length text + h.size = ap length h.is_whole ∙ length-append text (replicate h.size h.size) ∙ ap (λ n. length text + n) (length-replicate h.size h.size) in
    let size_k : length bytes ≡ length other + k.size = ap length k.is_whole ∙ length-append other (replicate k.size k.size) ∙ ap (λ n. length other + n) (length-replicate k.size k.size) in
    let at : List ℕ → ℕ = λ xs. get_or xs (length bytes - 1) 0 in
    let same : k.size ≡ h.size =
    sym (last_byte other k.size (length bytes) k.is_some size_k) ∙ ap at (sym k.is_whole ∙ h.is_whole) ∙ last_byte text h.size (length bytes) h.is_some size_h in
    append_cancel_right other text (replicate h.size h.size) (ap (λ n. other ++ replicate n n) (sym same) ∙ sym k.is_whole ∙ h.is_whole)

-- ---- the last block alone

-- the padding stands in the last block: a text there is one of the whole
pub padded_from_end : (front end text : List ℕ) → IsPaddedText end text → IsPaddedText (front ++ end) (front ++ text)
padded_from_end front end text h = record {
  size = h.size;
  is_some = h.is_some;
  is_at_most_a_block = h.is_at_most_a_block;
  is_whole = ap (λ t. front ++ t) h.is_whole ∙ sym (append_assoc front text (replicate h.size h.size));
}

-- and a text of the whole is one there
pub padded_at_end : (front end text : List ℕ) → length end ≡ 16 → IsPaddedText (front ++ end) text → IsPaddedText end (drop (length front) text)
padded_at_end front end text l h =
    let pad : List ℕ = replicate h.size h.size in
    let size : length front + 16 ≡ length text + h.size =
    ap (λ n. length front + n) (sym l) ∙ sym (length-append front end) ∙ ap length h.is_whole ∙ length-append text pad ∙ ap (λ n. length text + n) (length-replicate h.size h.size) in
    record {
      size = h.size;
      is_some = h.is_some;
      is_at_most_a_block = h.is_at_most_a_block;
      is_whole = sym (drop_at front end (length front) refl) ∙ ap (drop (length front)) h.is_whole ∙ drop-append-le (length front) text pad (omega (arith, h.is_at_most_a_block));
    }

-- a block that ends in a padding has a text
pub text_of_block : (block : List ℕ) (size : ℕ) → EndsInPadding block size → IsPaddedText block (take (16 - size) block)
text_of_block block size h = record {
  size = size;
  is_some = h.is_some;
  is_at_most_a_block = h.is_at_most_a_block;
  is_whole = sym (take-append-drop (16 - size) block) ∙ ap (λ t. take (16 - size) block ++ t) h.is_tail;
}

-- and a block that has a text ends in its padding
pub block_of_text : (block text : List ℕ) → length block ≡ 16 → (h : IsPaddedText block text) → EndsInPadding block h.size
block_of_text block text l h =
    let pad : List ℕ = replicate h.size h.size in
    let size : 16 ≡ length text + h.size = sym l ∙ ap length h.is_whole ∙ length-append text pad ∙ ap (λ n. length text + n) (length-replicate h.size h.size) in
    record {
      is_some = h.is_some;
      is_at_most_a_block = h.is_at_most_a_block;
      is_tail = ap (drop (16 - h.size)) h.is_whole ∙ drop_at text pad (16 - h.size) (omega arith);
    }

-- ---- the blocks of a padded text

-- they are those of the text, and one more of what is left of it
pub blocks_of-padded : (text : List ℕ) → blocks_of (padded text) ≡ blocks_of text ++ padded (drop (length text / 16 * 16) text) ∷ []
unfolding padded
blocks_of-padded text =
    let k : ℕ = length text / 16 in
    let rest : List ℕ = drop (k * 16) text in
    let p : ℕ = padding_size (length text) in
    let pad : List ℕ = replicate p p in
    let count : length (text ++ pad) / 16 ≡ k + 1 = omega (arith, length-append text pad, length-replicate p p) in
    let rest_size : length rest ≡ length text - k * 16 = length-drop (k * 16) text in
    let same_size : padding_size (length rest) ≡ p = omega arith in
    let block_size : length (rest ++ pad) ≤ 16 = omega (arith, length-append rest pad, length-replicate p p) in
    let last : take 16 (drop (k * 16) (text ++ pad)) ≡ rest ++ pad = ap (take 16) (drop-append-le (k * 16) text pad (omega arith)) ∙ take_all 16 (rest ++ pad) block_size in
    ap (λ n. first_chunks 16 n (text ++ pad)) count ∙ chunks_more k (text ++ pad)
    ∙ ap₂ (λ front x. front ++ x ∷ []) (chunks-append k text pad (omega arith)) (last ∙ ap (λ n. rest ++ replicate n n) (sym same_size))

-- ---- the code's tests

-- the last byte of a block that ends in a padding is its size
last_of_padding : (block : List ℕ) (size : ℕ) → EndsInPadding block size → get_or block 15 0 ≡ size
last_of_padding block size h =
    let place : 16 - size + (size - 1) ≡ 15 = omega (arith, h.is_some, h.is_at_most_a_block) in
    ap (λ k. get_or block k 0) (sym place) ∙ sym (get_or-drop (16 - size) block (size - 1) 0) ∙ ap (λ t. get_or t (size - 1) 0) h.is_tail
    ∙ get_or-replicate size (size - 1) size 0 (omega (arith, h.is_some))

-- a last byte that is no size of a padding
pub no_size : (block : List ℕ) → (1 ≤ get_or block 15 0 → get_or block 15 0 ≤ 16 → ⊥) → (size : ℕ) → EndsInPadding block size → ⊥
no_size block bad size h =
    let last : get_or block 15 0 ≡ size = last_of_padding block size h in
    bad (omega (arith, h.is_some)) (omega (arith, h.is_at_most_a_block))

-- the last bytes are not all of that value; they are read from their place on, as many as are left
pub no_tail : (block : List ℕ) → length block ≡ 16
    → (let n = 16 - get_or block 15 0 in let tail = take (16 - n) (drop n block) in tail ≡ replicate (length tail) (get_or block 15 0) → ⊥)
    → (size : ℕ) → EndsInPadding block size → ⊥
no_tail block l differs size h =
    let n : ℕ = 16 - get_or block 15 0 in
    let last : get_or block 15 0 ≡ size = last_of_padding block size h in
    let count : length (drop n block) ≡ size = omega (arith, length-drop n block, h.is_at_most_a_block) in
    let all : take (16 - n) (drop n block) ≡ drop n block = take_all (16 - n) (drop n block) (omega (arith, length-drop n block)) in
    let tail : drop n block ≡ replicate (length (drop n block)) (get_or block 15 0) =
    ap (λ k. drop (16 - k) block) last ∙ h.is_tail ∙ sym (ap₂ replicate count last) in
    differs (all ∙ tail ∙ ap (λ t. replicate (length t) (get_or block 15 0)) (sym all))

pub padded_block_from : (rest front : List ℕ) → length rest < 16 → front ≡ rest → front ++ drop (length rest) (replicate 16 (16 - length rest)) ≡ padded rest
unfolding padded
padded_block_from rest front small is_front =
    let p : ℕ = 16 - length rest in
    let size : padding_size (length rest) ≡ p = omega arith in
    ap₂ ◌++◌ is_front (drop-replicate (length rest) 16 p) ∙ ap (λ n. rest ++ replicate n n) (sym size)
