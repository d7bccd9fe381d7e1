-- Words of four bytes, place by place, and round keys from them.
use Rattle.std.proofs.Common.{◌≡◌, ℕ, ◌+◌, ◌-◌, ◌*◌, ◌/◌, ◌%◌, ◌<◌, ◌≤◌, ◌==◌, nat_lt, List, [], ◌∷◌, ◌++◌, length, get_or, take, drop, set, inl, inr, refl, sym, ap, ap₂, ◌∙◌, add-zero, add-one, arith}
use Rattle.std.proofs.lemmas.List.{length-take, length-drop, get_or-take, get_or-drop, take_more_set, take_all}
use Rattle.std.proofs.lemmas.List.FromFn.{fill_by_all}
use Rattle.std.proofs.lemmas.Bool.{cases_lt, cond-true, cond-false, eq-eqb, ne_eqb, lt-ltb, le-ltb}
use lib.Bits.{xor_zero_r}
use Rattle.aes_cbc.specs.Field.{◌⊕◌, power_of_x}
use Rattle.aes_cbc.specs.Substitution.{sub_byte}
use Rattle.aes_cbc.specs.Block.{sum_of_bytes}
use Rattle.aes_cbc.specs.Expansion.{rot_word, sub_word, rcon, word_at, round_addend, next_word, first_words, key_expansion}
use Rattle.aes_cbc.specs.Cipher.{round_key}
use Rattle.aes_cbc.proofs.BlockLemmas.{block_of-from}

-- a list of four, by its elements
four : (w : List ℕ) → length w ≡ 4 → w ≡ get_or w 0 0 ∷ get_or w 1 0 ∷ get_or w 2 0 ∷ get_or w 3 0 ∷ []
four w l = fill_by_all (λ i. get_or w i 0) w 4 0 l (λ k h. refl)

-- four elements that are equal, one by one
same_four : {a b c d w x y z : ℕ} → a ≡ w → b ≡ x → c ≡ y → d ≡ z → a ∷ b ∷ c ∷ d ∷ [] ≡ w ∷ x ∷ y ∷ z ∷ []
same_four e f g h = ap₂ ◌∷◌ e (ap₂ ◌∷◌ f (ap₂ ◌∷◌ g (ap₂ ◌∷◌ h refl)))

pub sum_of_words_from : (x y : List ℕ) → length x ≡ 4 → length y ≡ 4
    → (get_or x 0 0 ⊕ get_or y 0 0) ∷ (get_or x 1 0 ⊕ get_or y 1 0) ∷ (get_or x 2 0 ⊕ get_or y 2 0) ∷ (get_or x 3 0 ⊕ get_or y 3 0) ∷ [] ≡ sum_of_bytes x y
unfolding sum_of_bytes
sum_of_words_from x y lx ly = sym (ap₂ sum_of_bytes (four x lx) (four y ly))

-- ---- the words of the expansion

-- in each fourth place
pub round_addend_at_key : (w : List ℕ) (i a b c d k : ℕ) → length w ≡ 4 → i % 4 ≡ 0 → k ≡ power_of_x (i / 4 - 1)
    → a ≡ sub_byte (get_or w 1 0) → b ≡ sub_byte (get_or w 2 0) → c ≡ sub_byte (get_or w 3 0) → d ≡ sub_byte (get_or w 0 0)
    → (a ⊕ k) ∷ b ∷ c ∷ d ∷ [] ≡ round_addend w i
unfolding round_addend sum_of_bytes
round_addend_at_key w i a b c d k l e ek ea eb ec ed =
    same_four (ap₂ ◌⊕◌ ea ek) (eb ∙ sym (xor_zero_r (sub_byte (get_or w 2 0)))) (ec ∙ sym (xor_zero_r (sub_byte (get_or w 3 0)))) (ed ∙ sym (xor_zero_r (sub_byte (get_or w 0 0))))
    ∙ sym (ap (λ v. sum_of_bytes (sub_word (rot_word v)) (rcon (i / 4))) (four w l))
    ∙ sym (cond-true (i % 4 == 0) (sum_of_bytes (sub_word (rot_word w)) (rcon (i / 4))) w (eq-eqb (i % 4) 0 e))

-- in the other places
pub round_addend_elsewhere : (w : List ℕ) (i : ℕ) → (i % 4 ≡ 0 → ⊥) → w ≡ round_addend w i
unfolding round_addend
round_addend_elsewhere w i ne = sym (cond-false (i % 4 == 0) (sum_of_bytes (sub_word (rot_word w)) (rcon (i / 4))) w (ne_eqb (i % 4) 0 ne))

next_word_of_key : (key : List ℕ) (words : List (List ℕ)) (i : ℕ) → i < 4 → next_word key words i ≡ take 4 (drop (4 * i) key)
unfolding next_word
next_word_of_key key words i small =
    cond-true (nat_lt i 4) (take 4 (drop (4 * i) key)) (sum_of_bytes (word_at words (i - 4)) (round_addend (word_at words (i - 1)) i)) (lt-ltb i 4 small)

pub next_word_of_words : (key : List ℕ) (words : List (List ℕ)) (i : ℕ) → 4 ≤ i
    → next_word key words i ≡ sum_of_bytes (word_at words (i - 4)) (round_addend (word_at words (i - 1)) i)
unfolding next_word
next_word_of_words key words i big =
    cond-false (nat_lt i 4) (take 4 (drop (4 * i) key)) (sum_of_bytes (word_at words (i - 4)) (round_addend (word_at words (i - 1)) i)) (le-ltb i 4 big)

-- the first four words are those of the key
pub next_word_from_key : (key : List ℕ) (words : List (List ℕ)) (i : ℕ) → length key ≡ 16 → i < 4
    → get_or key (4 * i) 0 ∷ get_or key (4 * i + 1) 0 ∷ get_or key (4 * i + 2) 0 ∷ get_or key (4 * i + 3) 0 ∷ [] ≡ next_word key words i
next_word_from_key key words i l small =
    let own : List ℕ = take 4 (drop (4 * i) key) in
    let size : length own ≡ 4 = omega (arith, length-take 4 (drop (4 * i) key), length-drop (4 * i) key) in
    let at : (j : ℕ) → j < 4 → get_or own j 0 ≡ get_or key (4 * i + j) 0 = λ j h. get_or-take 4 (drop (4 * i) key) j 0 h ∙ get_or-drop (4 * i) key j 0 in
    let first : get_or own 0 0 ≡ get_or key (4 * i) 0 = at 0 (omega arith) ∙ ap (λ k. get_or key k 0) (add-zero (4 * i)) in
    sym (next_word_of_key key words i small ∙ four own size ∙ same_four first (at 1 (omega arith)) (at 2 (omega arith)) (at 3 (omega arith)))

-- a word follows from the words before it alone
next_word-take : (key : List ℕ) (words : List (List ℕ)) (i : ℕ) → next_word key words i ≡ next_word key (take i words) i
next_word-take key words i = elim (cases_lt i 4) [
  | inl small ↦ next_word_of_key key words i small ∙ sym (next_word_of_key key (take i words) i small)
  | inr big ↦
      let back : word_at (take i words) (i - 4) ≡ word_at words (i - 4) = get_or-take i words (i - 4) [] (omega arith) in
      let before : word_at (take i words) (i - 1) ≡ word_at words (i - 1) = get_or-take i words (i - 1) [] (omega arith) in
      next_word_of_words key words i big
      ∙ ap₂ (λ x y. sum_of_bytes x (round_addend y i)) (sym back) (sym before)
      ∙ sym (next_word_of_words key (take i words) i big)
]

-- one word more
pub words_more : (key : List ℕ) (words : List (List ℕ)) (i : ℕ) (word : List ℕ) → i < length words → take i words ≡ first_words key i → word ≡ next_word key words i
    → take (i + 1) (set words i word) ≡ first_words key (i + 1)
unfolding first_words
words_more key words i word small is_front is_word =
    take_more_set words i word small
    ∙ ap₂ (λ front x. front ++ x ∷ []) is_front (is_word ∙ next_word-take key words i ∙ ap (λ front. next_word key front i) is_front)
    ∙ ap (first_words key) (sym (add-one i))

-- all words
pub all_words : (key : List ℕ) (words : List (List ℕ)) (i : ℕ) → length words ≡ 44 → i ≡ 44 → take i words ≡ first_words key i → words ≡ key_expansion key
unfolding key_expansion
all_words key words i l e is_front =
    sym (take_all i words (omega arith)) ∙ is_front ∙ ap (first_words key) e

-- ---- round keys

pub round_key_from : (words : List (List ℕ)) (n : ℕ) (key : List ℕ) → length key ≡ 16
    → ((k : ℕ) → k < 16 → get_or key k 0 ≡ get_or (get_or words (4 * n + k / 4) []) (k % 4) 0) → key ≡ round_key words n
unfolding round_key
round_key_from words n key l h = block_of-from (λ r c. get_or (word_at words (4 * n + c)) r 0) key l h
