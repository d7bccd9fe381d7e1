-- The expansion of a key is 44 words of four bytes, and each round key is a block.
use Rattle.std.proofs.Common.{◌≡◌, ℕ, zero, suc, ◌+◌, ◌-◌, ◌*◌, ◌/◌, ◌%◌, ◌<◌, ◌≤◌, ◌==◌, nat_lt, List, [], ◌∷◌, length, get_or, take, drop, refl, sym, ◌∙◌, arith, All}
use Rattle.std.proofs.lemmas.List.{length-map, length-take, length-drop, length-append, length_push}
use Rattle.std.proofs.lemmas.List.Elements.{All-cons, All-nil, All-take, All-drop, All-append, All-push, All-replicate}
use Rattle.std.proofs.lemmas.Bool.{cond_both, ltb-true, ltb-false}
use Rattle.aes_cbc.specs.Field.{power_of_x, ◌•◌, polynomial_product, remainder}
use Rattle.aes_cbc.specs.Substitution.{sub_byte}
use Rattle.aes_cbc.specs.Block.{sum_of_bytes}
use Rattle.aes_cbc.specs.Expansion.{rot_word, sub_word, rcon, word_at, round_addend, next_word, first_words, key_expansion}
use Rattle.aes_cbc.specs.Cipher.{round_key}
use Rattle.aes_cbc.specs.Laws.{AreBytes, IsBlock}
use Rattle.aes_cbc.proofs.FieldLemmas.{byte_at_bytes}
use Rattle.aes_cbc.proofs.ByteFacts.{sub_byte-lt}
use Rattle.aes_cbc.proofs.BlockLemmas.{IsBlock-block_of, AreBytes-sum_of_bytes, AreBytes-map, length-sum_of_bytes}

-- four bytes
pub record IsWord (word : List ℕ) : Type 0 where
  pub are_bytes : AreBytes word
  pub is_whole : length word ≡ 4

-- 44 words
pub record AreRoundKeys (words : List (List ℕ)) : Type 0 where
  pub are_words : All IsWord words
  pub is_whole : length words ≡ 44

IsWord-sum : (xs ys : List ℕ) → IsWord xs → IsWord ys → IsWord (sum_of_bytes xs ys)
IsWord-sum xs ys h k = record {
  are_bytes = AreBytes-sum_of_bytes xs ys h.are_bytes k.are_bytes;
  is_whole = length-sum_of_bytes xs ys (h.is_whole ∙ sym k.is_whole) ∙ h.is_whole;
}

IsWord-rot_word : (word : List ℕ) → IsWord word → IsWord (rot_word word)
IsWord-rot_word word h =
    let P : ℕ → Type 0 = λ b. b < 256 in
    record {
      are_bytes = All-append P (drop 1 word) (take 1 word) (All-drop P 1 word h.are_bytes) (All-take P 1 word h.are_bytes);
      is_whole = omega (arith, length-append (drop 1 word) (take 1 word), length-drop 1 word, length-take 1 word, h.is_whole);
    }

IsWord-sub_word : (word : List ℕ) → IsWord word → IsWord (sub_word word)
IsWord-sub_word word h = record { are_bytes = AreBytes-map sub_byte sub_byte-lt word h.are_bytes; is_whole = length-map word sub_byte ∙ h.is_whole }

power_of_x-lt : (n : ℕ) → power_of_x n < 256
unfolding power_of_x ◌•◌ polynomial_product remainder
power_of_x-lt zero = omega arith
power_of_x-lt (suc n) = byte_at_bytes (λ b. 2 • b) refl (power_of_x n) (power_of_x-lt n)

IsWord-rcon : (n : ℕ) → IsWord (rcon n)
IsWord-rcon n =
    let P : ℕ → Type 0 = λ b. b < 256 in
    record {
      are_bytes = All-cons P (power_of_x (n - 1)) (0 ∷ 0 ∷ 0 ∷ []) (power_of_x-lt (n - 1)) (All-replicate P 3 0 (omega arith));
      is_whole = refl;
    }

IsWord-round_addend : (before : List ℕ) (i : ℕ) → IsWord before → IsWord (round_addend before i)
unfolding round_addend
IsWord-round_addend before i h =
    cond_both (i % 4 == 0) (sum_of_bytes (sub_word (rot_word before)) (rcon (i / 4))) before IsWord
    (λ e. IsWord-sum (sub_word (rot_word before)) (rcon (i / 4)) (IsWord-sub_word (rot_word before) (IsWord-rot_word before h)) (IsWord-rcon (i / 4)))
    (λ e. h)

IsWord-next_word : (key : List ℕ) (words : List (List ℕ)) (i : ℕ) → IsBlock key → All IsWord words → length words ≡ i → IsWord (next_word key words i)
unfolding next_word
IsWord-next_word key words i block h l =
    let P : ℕ → Type 0 = λ b. b < 256 in
    cond_both (nat_lt i 4) (take 4 (drop (4 * i) key)) (sum_of_bytes (word_at words (i - 4)) (round_addend (word_at words (i - 1)) i)) IsWord
    (λ e.
    let small : i < 4 = ltb-true i 4 e in
    record {
      are_bytes = All-take P 4 (drop (4 * i) key) (All-drop P (4 * i) key block.are_bytes);
      is_whole = omega (arith, length-take 4 (drop (4 * i) key), length-drop (4 * i) key, block.is_whole);
    })
    (λ e.
    let big : 4 ≤ i = ltb-false i 4 e in
    IsWord-sum (word_at words (i - 4)) (round_addend (word_at words (i - 1)) i) (h (i - 4) [] (omega arith))
    (IsWord-round_addend (word_at words (i - 1)) i (h (i - 1) [] (omega arith))))

length-first_words : (key : List ℕ) (n : ℕ) → length (first_words key n) ≡ n
unfolding first_words
length-first_words key zero = refl
length-first_words key (suc n) = omega (arith, length_push (first_words key n) (next_word key (first_words key n) n), length-first_words key n)

are_words-first_words : (key : List ℕ) (n : ℕ) → IsBlock key → All IsWord (first_words key n)
unfolding first_words
are_words-first_words key zero block = All-nil IsWord
are_words-first_words key (suc n) block =
    let before = are_words-first_words key n block in
    All-push IsWord (first_words key n) (next_word key (first_words key n) n) before
    (IsWord-next_word key (first_words key n) n block before (length-first_words key n))

-- the expansion of a key is 44 words
pub AreRoundKeys-key_expansion : (key : List ℕ) → IsBlock key → AreRoundKeys (key_expansion key)
unfolding key_expansion
AreRoundKeys-key_expansion key block = record { are_words = are_words-first_words key 44 block; is_whole = length-first_words key 44 }

-- ---- round keys

-- each round key is a block
pub IsBlock-round_key : (words : List (List ℕ)) (n : ℕ) → AreRoundKeys words → n ≤ 10 → IsBlock (round_key words n)
unfolding round_key
IsBlock-round_key words n keys small =
    IsBlock-block_of (λ r c. get_or (word_at words (4 * n + c)) r 0) (λ r c hr hc.
    let word : IsWord (word_at words (4 * n + c)) = keys.are_words (4 * n + c) [] (omega (arith, keys.is_whole)) in
    word.are_bytes r 0 (omega (arith, word.is_whole)))
