-- Options in any order, and what a look-up finds among them.
use Rattle.std.proofs.Common.{◌≡◌, ℕ, zero, suc, ◌*◌, Bool, true, false, if◌then◌else◌, List, [], ◌∷◌, ◌++◌, length, Some, refl, sym, ap, ap₂, ◌∙◌, subst, arith}
use Rattle.std.proofs.lemmas.Bool.{cond-true, cond-false, false≢true}
use Rattle.std.proofs.lemmas.List.{length-append}
use Rattle.std.proofs.lemmas.Option.{none-some, same_Some}
use Rattle.std.proofs.lemmas.Slice.Eq.{bytes_eq-Decides}
use Rattle.std.specs.Str.{bytes_eq}
use Rattle.command_words.specs.Options.{words_of, AreInAnyOrder, value_in}

-- none of some options has this name
abbrev IsFree : List ℕ → List (List ℕ × List ℕ) → Type 0
IsFree name [] = Unit {0}
IsFree name (option ∷ options) = (bytes_eq option.0 name ≡ false) × IsFree name options

-- no two of some options have one name
abbrev pub AreApart : List (List ℕ × List ℕ) → Type 0
AreApart [] = Unit {0}
AreApart (option ∷ options) = IsFree option.0 options × AreApart options

-- each of some options is found by its name among these words
abbrev pub AllFound : List (List ℕ) → List (List ℕ × List ℕ) → Type 0
AllFound words [] = Unit {0}
AllFound words (option ∷ options) = (value_in words option.0 ≡ Some option.1) × AllFound words options

-- ---- names

turned : (name other : List ℕ) → bytes_eq name other ≡ false → (is : Bool) → bytes_eq other name ≡ is → is ≡ false
turned name other differ true same =
    absurd (false≢true (sym differ ∙ (bytes_eq-Decides name other).1 (sym ((bytes_eq-Decides other name).0 same))))
turned name other differ false same = refl

differ_back : (name other : List ℕ) → bytes_eq name other ≡ false → bytes_eq other name ≡ false
differ_back name other differ = turned name other differ (bytes_eq other name) refl

-- ---- an option between others

-- one of another name changes nothing for a look-up
passed : (name : List ℕ) (option : List ℕ × List ℕ) (before behind : List (List ℕ × List ℕ)) → bytes_eq option.0 name ≡ false
    → value_in (words_of (before ++ option ∷ behind)) name ≡ value_in (words_of (before ++ behind)) name
passed name option [] behind other = cond-false _ _ _ other
passed name option (first ∷ before) behind other =
    ap (λ later. if bytes_eq first.0 name then Some first.1 else later) (passed name option before behind other)

-- the first one of its name is found
found : (option : List ℕ × List ℕ) (before behind : List (List ℕ × List ℕ)) → IsFree option.0 before
    → value_in (words_of (before ++ option ∷ behind)) option.0 ≡ Some option.1
found option [] behind free = cond-true _ _ _ ((bytes_eq-Decides option.0 option.0).1 refl)
found option (first ∷ before) behind free = cond-false _ _ _ free.0 ∙ found option before behind free.1

-- a name that is free among the others, and not that of an option, is free among all
free_among : (name : List ℕ) (option : List ℕ × List ℕ) (before behind : List (List ℕ × List ℕ)) → bytes_eq option.0 name ≡ false
    → IsFree name (before ++ behind) → IsFree name (before ++ option ∷ behind)
free_among name option [] behind other free = (other, free)
free_among name option (first ∷ before) behind other free = (free.0, free_among name option before behind other free.1)

free_before : (name : List ℕ) (before behind : List (List ℕ × List ℕ)) → IsFree name (before ++ behind) → IsFree name before
free_before name [] behind free = tt
free_before name (first ∷ before) behind free = (free.0, free_before name before behind free.1)

-- a name that is free among options is free in any order of them
free_in_any_order : (name : List ℕ) (options said : List (List ℕ × List ℕ)) → AreInAnyOrder options said → IsFree name options
    → IsFree name said
free_in_any_order name [] said same free = subst (IsFree name) (sym same) tt
free_in_any_order name (option ∷ options) said (others, stands, rest) free =
    subst (IsFree name) (sym stands.all) (free_among name option stands.before stands.behind free.0
    (subst (IsFree name) stands.without (free_in_any_order name options others rest free.1)))

-- ---- look-ups in any order

-- what is found among the others is found among all, where it has other names
found_among : (option : List ℕ × List ℕ) (before behind options : List (List ℕ × List ℕ)) → IsFree option.0 options
    → AllFound (words_of (before ++ behind)) options → AllFound (words_of (before ++ option ∷ behind)) options
found_among option before behind [] free all = tt
found_among option before behind (next ∷ options) free all = (
  passed next.0 option before behind (differ_back next.0 option.0 free.0) ∙ all.0,
  found_among option before behind options free.1 all.1,
)

pub all_found : (options said : List (List ℕ × List ℕ)) → AreApart options → AreInAnyOrder options said
    → AllFound (words_of said) options
all_found [] said apart same = tt
all_found (option ∷ options) said apart (others, stands, rest) =
    let free = subst (IsFree option.0) stands.without (free_in_any_order option.0 options others rest apart.0) in
    subst (λ all. AllFound (words_of all) (option ∷ options)) (sym stands.all) (
      found option stands.before stands.behind (free_before option.0 stands.before stands.behind free),
      found_among option stands.before stands.behind options apart.0
          (subst (λ all. AllFound (words_of all) options) stands.without (all_found options others apart.1 rest)),
    )

pub count_in_any_order : (options said : List (List ℕ × List ℕ)) → AreInAnyOrder options said → length said ≡ length options
count_in_any_order [] said same = ap length same
count_in_any_order (option ∷ options) said (others, stands, rest) =
    omega (
      arith,
      ap length stands.all,
      length-append stands.before (option ∷ stands.behind),
      ap length stands.without,
      length-append stands.before stands.behind,
      count_in_any_order options others rest,
    )

pub count_of_words : (said : List (List ℕ × List ℕ)) → length (words_of said) ≡ 2 * length said
count_of_words [] = refl
count_of_words (option ∷ said) = omega (arith, count_of_words said)

-- ---- back: words in which all options are found

-- words by twos are options
pub record ByTwos (words : List (List ℕ)) (count : ℕ) : Type 0 where
  pub said : List (List ℕ × List ℕ)
  pub are_words : words ≡ words_of said
  pub half : length said ≡ count

pub by_twos : (count : ℕ) (words : List (List ℕ)) → length words ≡ 2 * count → ByTwos words count
by_twos count [] even = record { said = []; are_words = refl; half = omega (arith, even) }
by_twos count (word ∷ []) even = absurd (omega (arith, even))
by_twos zero (word ∷ value ∷ words) even = absurd (omega (arith, even))
by_twos (suc count) (word ∷ value ∷ words) even =
    let rest = by_twos count words (omega (arith, even)) in
    record {
      said = (word, value) ∷ rest.said;
      are_words = ap (λ others. word ∷ value ∷ others) rest.are_words;
      half = omega (arith, rest.half);
    }

-- an option stands where it is found
pub record Stands (option : List ℕ × List ℕ) (said : List (List ℕ × List ℕ)) : Type 0 where
  pub before : List (List ℕ × List ℕ)
  pub behind : List (List ℕ × List ℕ)
  pub all : said ≡ before ++ option ∷ behind

stands_first : (option first : List ℕ × List ℕ) (said : List (List ℕ × List ℕ)) → first.0 ≡ option.0 → first.1 ≡ option.1
    → Stands option (first ∷ said)
stands_first option first said name value =
    record { before = []; behind = said; all = ap (λ one. one ∷ said) (ap₂ (λ a b. (a, b)) name value) }

stands_by : (option first : List ℕ × List ℕ) (said : List (List ℕ × List ℕ)) (is : Bool) → bytes_eq first.0 option.0 ≡ is
    → (value_in (words_of said) option.0 ≡ Some option.1 → Stands option said)
    → value_in (words_of (first ∷ said)) option.0 ≡ Some option.1 → Stands option (first ∷ said)
stands_by option first said true same later here =
    stands_first option first said ((bytes_eq-Decides first.0 option.0).0 same) (same_Some _ _ (sym (cond-true _ _ _ same) ∙ here))
stands_by option first said false same later here =
    let rest = later (sym (cond-false _ _ _ same) ∙ here) in
    record { before = first ∷ rest.before; behind = rest.behind; all = ap (λ others. first ∷ others) rest.all }

stands_where_found : (option : List ℕ × List ℕ) (said : List (List ℕ × List ℕ))
    → value_in (words_of said) option.0 ≡ Some option.1 → Stands option said
stands_where_found option [] here = absurd (none-some _ here)
stands_where_found option (first ∷ said) here =
    stands_by option first said (bytes_eq first.0 option.0) refl (stands_where_found option said) here

-- what is found among all is found among the others, where it has other names
found_in_others : (option : List ℕ × List ℕ) (before behind options : List (List ℕ × List ℕ)) → IsFree option.0 options
    → AllFound (words_of (before ++ option ∷ behind)) options → AllFound (words_of (before ++ behind)) options
found_in_others option before behind [] free all = tt
found_in_others option before behind (next ∷ options) free all = (
  sym (passed next.0 option before behind (differ_back next.0 option.0 free.0)) ∙ all.0,
  found_in_others option before behind options free.1 all.1,
)

pub are_in_any_order : (options said : List (List ℕ × List ℕ)) → AreApart options → length said ≡ length options
    → AllFound (words_of said) options → AreInAnyOrder options said
are_in_any_order [] [] apart same all = refl
are_in_any_order [] (first ∷ said) apart same all = absurd (omega (arith, same))
are_in_any_order (option ∷ options) said apart same all =
    let here = stands_where_found option said all.0 in (
      here.before ++ here.behind,
      record { before = here.before; behind = here.behind; all = here.all; without = refl },
      are_in_any_order options (here.before ++ here.behind) apart.1
          (omega (arith, same, ap length here.all, length-append here.before (option ∷ here.behind), length-append here.before here.behind))
          (found_in_others option here.before here.behind options apart.0
          (subst (λ rest. AllFound (words_of rest) options) here.all all.1)),
    )
