-- The words of a line.
use Rattle.std.proofs.Common.{Option, Some, None, MatchOption, Bor, ◌≡◌, ◌≢◌, ℕ, zero, suc, ◌+◌, ◌<◌, Bool, true, false, cond, ◌==◌, List, [], ◌∷◌, ◌++◌, length, refl, sym, ap, subst, ◌∙◌, arith}
use Rattle.std.specs.List.{AllByRecursion, join_with_byte, onto_first, slice_split}
use Rattle.std.proofs.lemmas.Bool.{ne_eqb}
use Rattle.std.proofs.lemmas.List.Splits.{join_with_byte-slice_split}
use Rattle.schedule_text.specs.Reading.{BeginsOther, IsCut}
use Rattle.schedule_text.specs.Refusals.{words_of}

-- no space stands in these bytes
abbrev pub HasNoSpace : List ℕ → Type 0
HasNoSpace bytes = AllByRecursion (λ byte. byte ≢ 32) bytes

split_at : (space : Bool) (byte : ℕ) (parts : List (List ℕ)) → space ≡ false → cond space ([] ∷ parts) (onto_first byte parts) ≡ onto_first byte parts
split_at true byte parts is = absurd cc
split_at false byte parts is = refl

more_words : (byte : ℕ) (line : List ℕ) → byte ≢ 32 → words_of (byte ∷ line) ≡ onto_first byte (words_of line)
more_words byte line other = split_at (byte == 32) byte (words_of line) (ne_eqb byte 32 other)

-- what stands before the first space is the first word
pub words_at_space : (front back : List ℕ) → HasNoSpace front → words_of (front ++ 32 ∷ back) ≡ front ∷ words_of back
words_at_space [] back none = refl
words_at_space (byte ∷ front) back none = more_words byte (front ++ 32 ∷ back) none.0 ∙ ap (onto_first byte) (words_at_space front back none.1)

-- a line without a space is one word
pub one_word_is : (line : List ℕ) → HasNoSpace line → words_of line ≡ line ∷ []
one_word_is [] none = refl
one_word_is (byte ∷ line) none = more_words byte line none.0 ∙ ap (onto_first byte) (one_word_is line none.1)

pub words_cut : (line front back : List ℕ) → IsCut line 32 front back → words_of line ≡ front ∷ words_of back
words_cut line front back cut = ap words_of cut.is_whole ∙ words_at_space front back cut.is_first

-- each line has a word
pub some_word : (line : List ℕ) → 0 < length (words_of line)
some_word [] = omega arith
some_word (byte ∷ line) = some_at (byte == 32) byte (words_of line)
  where
    some_at : (space : Bool) (byte : ℕ) (parts : List (List ℕ)) → 0 < length (cond space ([] ∷ parts) (onto_first byte parts))
    some_at true byte parts = omega arith
    some_at false byte [] = omega arith
    some_at false byte (part ∷ parts) = omega arith

-- a line with a space has two words or more
pub not_one : (line front back : List ℕ) → IsCut line 32 front back → length (words_of line) ≢ 1
not_one line front back cut one =
    let count : length (words_of line) ≡ suc (length (words_of back)) = ap length (words_cut line front back cut) in
    omega (arith, some_word back, count, one)

pub joined : (line : List ℕ) → join_with_byte 32 (words_of line) ≡ line
joined line = join_with_byte-slice_split 32 line

no_spaces_first : (byte : ℕ) (parts : List (List ℕ)) → byte ≢ 32 → AllByRecursion HasNoSpace parts → AllByRecursion HasNoSpace (onto_first byte parts)
no_spaces_first byte [] other all = ((other, tt), tt)
no_spaces_first byte (part ∷ parts) other all = ((other, all.0), all.1)

-- words without spaces, joined and cut again
pub words_again : (words : List (List ℕ)) → words ≢ [] → AllByRecursion HasNoSpace words → words_of (join_with_byte 32 words) ≡ words
words_again [] some none = absurd (some refl)
words_again (word ∷ []) some none = one_word_is word none.0
words_again (word ∷ next ∷ words) some none =
    words_at_space word (join_with_byte 32 (next ∷ words)) none.0 ∙ ap (λ (ws : List (List ℕ)). word ∷ ws) (words_again (next ∷ words) (λ e. cc) none.1)

-- how a line is cut at its first space
pub cut_word_is : (line : List ℕ) (found : Option (Bor (List ℕ) × Bor (List ℕ))) → MatchOption found (HasNoSpace line) (λ cut. IsCut line 32 cut.0.now cut.1.now) → MatchOption found (length (words_of line) ≡ 1) (λ cut. words_of line ≡ cut.0.now ∷ words_of cut.1.now)
cut_word_is line None none = ap length (one_word_is line none)
cut_word_is line (Some cut) is = words_cut line cut.0.now cut.1.now is
