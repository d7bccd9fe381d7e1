-- Which words are numbers.
use Rattle.std.proofs.Common.{IsTrue, true, false, inl, inr, ◌≡◌, ◌≢◌, ◌↔◌, ℕ, zero, suc, ◌-◌, ◌+◌, ◌*◌, ◌^◌, ◌<◌, ◌≤◌, List, [], ◌∷◌, length, take, get_or, refl, sym, ap, subst, ◌∙◌, arith}
use Rattle.std.specs.Int.{IsInRange}
use Rattle.std.specs.Fmt.{decimal}
use Rattle.std.specs.Str.Parse.{AllDigits, digits_value}
use Rattle.std.proofs.lemmas.Bool.{false≢true}
use Rattle.std.proofs.lemmas.Fmt.{decimal_digit, decimal_nonempty, first_decimal, decimal-digits_value, digits_decimal, digits_value-decimal}
use Rattle.std.proofs.lemmas.Int.Digits.{digits_more, digits_value_more}
use Rattle.std.proofs.lemmas.Str.{digit_value_digit}
use Rattle.std.proofs.lemmas.Str.Parse.{IsNumeralModel, numerals_by_value, tells_digits, digit_at, digits_value-take-le}
use Rattle.std.proofs.lemmas.Grind.{common_steps}
use Rattle.std.proofs.lemmas.List.Elements.{recursion_from_All, All-from_get_or}
use Rattle.schedule_text.specs.Faults.{IsDecimal}
use Rattle.schedule_text.proofs.Escapes.{AreVisible}

own : IsNumeralModel (AllDigits 10) (digits_value 10)
own = numerals_by_value (AllDigits 10) tells_digits

pub no_digits : (word : List ℕ) (i : ℕ) → i < length word → (IsInRange 48 57 (get_or word i 0) → ⊥) → AllDigits 10 word → IsTrue false
no_digits word i lt bad digits = absurd (bad (digit_at word i digits lt))

pub all_read : (word : List ℕ) (i : ℕ) → length word ≤ i → take i word ≡ word
all_read word i past = grind (arith, common_steps)

pub whole_digits : (word : List ℕ) (i : ℕ) → length word ≤ i → AllDigits 10 (take i word) → AllDigits 10 word
whole_digits word i past digits = subst (AllDigits 10) (all_read word i past) digits

-- one more digit
pub digits_go_on : (word : List ℕ) (i : ℕ) → i < length word → IsInRange 48 57 (get_or word i 0) → AllDigits 10 (take i word) → AllDigits 10 (take (i + 1) word)
digits_go_on word i lt digit digits = digits_more 10 word i lt digits (omega (arith, digit_value_digit (get_or word i 0) digit, digit))

pub value_goes_on : (word : List ℕ) (i n d : ℕ) → i < length word → AllDigits 10 word → d ≡ get_or word i 0 - 48 → n ≡ digits_value 10 (take i word) → 10 * n + d ≡ digits_value 10 (take (i + 1) word)
value_goes_on word i n d lt digits is so_far =
    let digit = digit_at word i digits lt in
    omega (arith, digits_value_more 10 word i lt, digit_value_digit (get_or word i 0) digit, digit)

pub value_is_great : (word : List ℕ) (i n : ℕ) → 2 ^ 64 ≤ n → n ≡ digits_value 10 (take i word) → 2 ^ 64 ≤ digits_value 10 word
value_is_great word i n great is = omega (arith, digits_value-take-le 10 word i (omega arith), great, is)

decimal_zero : decimal 0 ≡ 48 ∷ []
decimal_zero = decimal_digit 0 (omega arith)

-- the decimal of a number is one
pub decimal_is : (n : ℕ) → n < 2 ^ 64 → IsDecimal (decimal n)
decimal_is zero small =
    record {
      are_digits = digits_decimal own 0 small;
      is_some = decimal_nonempty 0 small;
      no_zero_first = λ e. ap length decimal_zero;
    }
decimal_is (suc n) small =
    record {
      are_digits = digits_decimal own (suc n) small;
      is_some = decimal_nonempty (suc n) small;
      no_zero_first = λ e. absurd (let first = first_decimal (suc n) (omega arith) small in omega (arith, first, e));
    }

pub decimal_value : (n : ℕ) → n < 2 ^ 64 → digits_value 10 (decimal n) ≡ n
decimal_value n small = digits_value-decimal own n small

-- a word that spells a number is the decimal of its value
pub is_its_decimal : (word : List ℕ) (n : ℕ) → IsDecimal word → n ≡ digits_value 10 word → n < 2 ^ 64 → word ≡ decimal n
is_its_decimal word n is value small =
    sym (decimal-digits_value own word is.are_digits is.is_some is.no_zero_first (omega (arith, value, small))) ∙ ap decimal (sym value)

pub decimal_is_visible : (n : ℕ) → n < 2 ^ 64 → AreVisible (decimal n)
decimal_is_visible n small =
    recursion_from_All (λ byte. 33 ≤ byte) (decimal n) (All-from_get_or (λ byte. 33 ≤ byte) (decimal n) 0 (λ i lt. let d = digit_at (decimal n) i (digits_decimal own n small) lt in omega (arith, d)))

pub whole_value : (word : List ℕ) (i n : ℕ) → length word ≤ i → n ≡ digits_value 10 (take i word) → n ≡ digits_value 10 word
whole_value word i n past is = is ∙ ap (digits_value 10) (all_read word i past)
