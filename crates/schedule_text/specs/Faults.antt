-- Why the words of a line cannot stand.
use Rattle.std.specs.Prelude.{◌≡◌, ◌⊎◌, ℕ, ◌<◌, ◌≤◌, false, List, [], ◌∷◌, length, slice_index, Option, Some, None, IsTrue}
use Rattle.std.specs.Str.Parse.{AllDigits, digits_value}
use Rattle.client_tags.specs.declared.Kind.{Kind}
use Rattle.sync_model.specs.declared.event.Schedule.{Schedule}
use Rattle.sync_model.specs.Text.{text_word}
use Rattle.schedule_text.specs.declared.fault.LineReason.{LineReason}
use Rattle.schedule_text.specs.declared.fault.LineReason.TheVariants.{End, Form, Number, Range, Word, Many, Later}
use Rattle.schedule_text.specs.declared.line.Line.{Line}
use Rattle.schedule_text.specs.Grammar.{Slot, Fixed, Between, AnyText, AnyExtra, form_of, forms_after}
use Rattle.schedule_text.specs.Lines.{line_words}
use Rattle.schedule_text.specs.Places.{HasRoom, IsInPlace, is_built_line}
use Rattle.schedule_text.specs.Spelling.{AreBytes, IsExtra}

-- a word that spells a number, of any length: digits, of which the first is no zero unless it is the only one
pub record IsDecimal (word : List ℕ) : Type 0 where
  pub are_digits : AllDigits 10 word
  pub is_some : 0 < length word
  pub no_zero_first : slice_index word 0 ≡ 48 → length word ≡ 1

-- a word that spells a text
pub record IsTextWord (word : List ℕ) : Type 0 where
  pub text : List ℕ
  pub are_bytes : AreBytes text
  pub is_word : word ≡ text_word text

-- a word that spells canonical unknown fields of a type
pub record IsExtraWord (kind : Kind) (word : List ℕ) : Type 0 where
  pub extra : List ℕ
  pub are_bytes : AreBytes extra
  pub is_extra : IsExtra kind extra
  pub is_word : word ≡ text_word extra

-- a word is what its place in a form asks for
abbrev pub IsRight : Slot → List ℕ → Type 0
IsRight (Fixed fixed) word = word ≡ fixed
IsRight (Between low high) word = IsDecimal word × (low ≤ digits_value 10 word) × (digits_value 10 word ≤ high)
IsRight AnyText word = IsTextWord word
IsRight (AnyExtra kind) word = IsExtraWord kind word

-- A word is not what its place in a form asks for: it spells no number, or one out of the range, or no text, or none
-- that is canonical unknown fields.
abbrev pub IsFaulty : Slot → List ℕ → LineReason → Type 0
IsFaulty (Between low high) word Number = IsDecimal word → ⊥
IsFaulty (Between low high) word Range =
    IsDecimal word × ((digits_value 10 word < low) ⊎ (high < digits_value 10 word))
IsFaulty AnyText word Word = IsTextWord word → ⊥
IsFaulty (AnyExtra kind) word Word = IsExtraWord kind word → ⊥
IsFaulty slot word reason = ⊥

-- the leftmost of some words that is not what its place in a form asks for
abbrev pub HasFault : List Slot → List (List ℕ) → LineReason → Type 0
HasFault [] words reason = ⊥
HasFault (slot ∷ form) [] reason = ⊥
HasFault (slot ∷ form) (word ∷ words) reason = IsFaulty slot word reason ⊎ (IsRight slot word × HasFault form words reason)

-- some words fit one of some forms, and this is the fault of the leftmost that is not as it asks for
pub record HasFaultyWord (forms : List (List Slot)) (words : List (List ℕ)) (reason : LineReason) : Type 0 where
  pub form : List Slot
  pub is_form : form_of words forms ≡ Some form
  pub has_fault : HasFault form words reason

-- some words fit none of some forms, or one of them is not what the form asks for
abbrev pub IsFault : List (List Slot) → List (List ℕ) → LineReason → Type 0
IsFault forms words Form = form_of words forms ≡ None
IsFault forms words Number = HasFaultyWord forms words Number
IsFault forms words Range = HasFaultyWord forms words Range
IsFault forms words Word = HasFaultyWord forms words Word
IsFault forms words End = ⊥
IsFault forms words Many = ⊥
IsFault forms words Later = ⊥

-- some words are those of a line in its place, where there is no room for it
pub record HasNoRoom (before : Option Schedule) (words : List (List ℕ)) : Type 0 where
  pub line : Line
  pub is_in_place : IsInPlace before line
  pub are_words : words ≡ line_words line
  pub has_no_room : HasRoom before line → ⊥

-- some words are those of a line in its place, with room for it, that this stage does not know
pub record IsNotBuilt (before : Option Schedule) (words : List (List ℕ)) : Type 0 where
  pub line : Line
  pub is_in_place : IsInPlace before line
  pub are_words : words ≡ line_words line
  pub has_room : HasRoom before line
  pub is_not_built : is_built_line line ≡ false

-- why some words cannot stand after some lines
abbrev pub IsFaultAfter : Option Schedule → List (List ℕ) → LineReason → Type 0
IsFaultAfter before words Many = HasNoRoom before words
IsFaultAfter before words Later = IsNotBuilt before words
IsFaultAfter before words reason = IsFault (forms_after before) words reason
