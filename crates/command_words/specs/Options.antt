-- Options on a command line: a name and a value each, in any order.
use Rattle.std.specs.Prelude.{◌≡◌, ℕ, ◌≤◌, if◌then◌else◌, List, [], ◌∷◌, ◌++◌, drop, Option, None, Some}
use Rattle.std.specs.Fmt.{decimal}
use Rattle.std.specs.Str.{bytes_eq}

-- the words of some options: the name of each, and its value
abbrev pub words_of : List (List ℕ × List ℕ) → List (List ℕ)
words_of [] = []
words_of (option ∷ options) = option.0 ∷ option.1 ∷ words_of options

-- an option stands in a list, between the others
pub record StandsIn (option : List ℕ × List ℕ) (options others : List (List ℕ × List ℕ)) : Type 0 where
  pub before : List (List ℕ × List ℕ)
  pub behind : List (List ℕ × List ℕ)
  pub all : options ≡ before ++ option ∷ behind
  pub without : others ≡ before ++ behind

-- a list has just these options, in whatever order: the first stands somewhere in it, and the others of it are those that follow
abbrev pub AreInAnyOrder : List (List ℕ × List ℕ) → List (List ℕ × List ℕ) → Type 0
AreInAnyOrder [] said = said ≡ []
AreInAnyOrder (option ∷ options) said =
    (others : List (List ℕ × List ℕ)) × StandsIn option said others × AreInAnyOrder options others

-- some words say these options, each once and nothing else
pub record SayOptions (words : List (List ℕ)) (options : List (List ℕ × List ℕ)) : Type 0 where
  pub said : List (List ℕ × List ℕ)
  pub are_words : words ≡ words_of said
  pub are_options : AreInAnyOrder options said

-- the words of a command: its name, and these options
pub record AreWordsOf (name : List ℕ) (options : List (List ℕ × List ℕ)) (words : List (List ℕ)) : Type 0 where
  pub others : List (List ℕ)
  pub all : words ≡ name ∷ others
  pub say : SayOptions others options

-- the value of the first option of a name
abbrev pub value_in : List (List ℕ) → List ℕ → Option (List ℕ)
value_in [] name = None
value_in (word ∷ []) name = None
value_in (word ∷ value ∷ words) name = if bytes_eq word name then Some value else value_in words name

-- behind a command's name, the first option of a name has this value
abbrev pub HasValue : List (List ℕ) → List ℕ → List ℕ → Type 0
HasValue words name value = value_in (drop 1 words) name ≡ Some value

-- behind a command's name, the first option of a name has this number between two others as its value
pub record HasNumber (words : List (List ℕ)) (name : List ℕ) (low high number : ℕ) : Type 0 where
  pub value : HasValue words name (decimal number)
  pub at_least : low ≤ number
  pub at_most : number ≤ high
