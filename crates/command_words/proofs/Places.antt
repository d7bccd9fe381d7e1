-- The value of an option, from a place of the words on.
use Rattle.std.proofs.Common.{◌≡◌, ℕ, zero, suc, ◌<◌, ◌≤◌, true, false, get_or, if◌then◌else◌, List, [], ◌∷◌, length, drop, Some, None, refl, sym, ap₂, ◌∙◌, subst, arith}
use Rattle.std.proofs.lemmas.Bool.{cond-true, cond-false}
use Rattle.std.proofs.lemmas.Option.{none-some, same_Some, slice_get-get_or}
use Rattle.std.specs.List.{slice_get}
use Rattle.std.specs.Str.{bytes_eq}
use Rattle.command_words.specs.Options.{value_in}

value_here : (words : List (List ℕ)) (place : ℕ) (name word value : List ℕ) → slice_get words place ≡ Some word
    → slice_get words (suc place) ≡ Some value
    → value_in (drop place words) name ≡ (if bytes_eq word name then Some value else value_in (drop (suc (suc place)) words) name)
value_here [] place name word value here next = absurd (none-some _ here)
value_here (first ∷ []) zero name word value here next = absurd (none-some _ next)
value_here (first ∷ second ∷ words) zero name word value here next =
    ap₂ (λ a b. if bytes_eq a name then Some b else value_in words name) (same_Some _ _ here) (same_Some _ _ next)
value_here (first ∷ words) (suc place) name word value here next = value_here words place name word value here next

-- the value from a place on: that of the option which stands there, or the value from the next one on
pub value_step : (words : List (List ℕ)) (place second third : ℕ) (name word value : List ℕ) → second ≡ suc place
    → third ≡ suc (suc place) → slice_get words place ≡ Some word → slice_get words second ≡ Some value
    → value_in (drop place words) name ≡ (if bytes_eq word name then Some value else value_in (drop third words) name)
value_step words place second third name word value is_second is_third here next =
    subst (λ behind. value_in (drop place words) name ≡ (if bytes_eq word name then Some value else value_in (drop behind words) name))
    (sym is_third) (value_here words place name word value here (subst (λ n. slice_get words n ≡ Some value) is_second next))

-- from the last word on there is no value
pub no_value : (words : List (List ℕ)) (place : ℕ) (name : List ℕ) → length words ≤ suc place → value_in (drop place words) name ≡ None
no_value [] zero name few = refl
no_value [] (suc place) name few = refl
no_value (word ∷ []) zero name few = refl
no_value (word ∷ value ∷ words) zero name few = absurd (omega (arith, few))
no_value (word ∷ words) (suc place) name few = no_value words place name (omega (arith, few))

-- where an option of the name stands at a place, the next word is the value
pub found_here : (words : List (List ℕ)) (place second : ℕ) (name word : List ℕ) → second ≡ suc place → second < length words
    → slice_get words place ≡ Some word → bytes_eq word name ≡ true → slice_get words second ≡ value_in (drop place words) name
found_here words place second name word is_second below here same =
    let value = slice_get-get_or words second [] below in
    value ∙ sym (value_step words place second (suc (suc place)) name word (get_or words second []) is_second refl here value
    ∙ cond-true _ _ _ same)

-- where another one stands at a place, the value is that from the next one on
pub passed_here : (words : List (List ℕ)) (place second third : ℕ) (name word : List ℕ) → second ≡ suc place
    → third ≡ suc (suc place) → second < length words → slice_get words place ≡ Some word → bytes_eq word name ≡ false
    → value_in (drop third words) name ≡ value_in (drop place words) name
passed_here words place second third name word is_second is_third below here other =
    sym (value_step words place second third name word (get_or words second []) is_second is_third here
    (slice_get-get_or words second [] below) ∙ cond-false _ _ _ other)
