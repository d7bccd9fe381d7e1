-- Which line of a text is the first that cannot stand in its place, and why.
use Rattle.std.specs.Prelude.{◌≡◌, ◌≢◌, ◌⊎◌, ℕ, ◌+◌, ◌==◌, List, [], ◌++◌, length, Option, Some, None}
use Rattle.std.specs.List.{AllByRecursion, slice_split}
use Rattle.sync_model.specs.declared.event.Schedule.{Schedule}
use Rattle.schedule_text.specs.declared.fault.LineReason.{LineReason}
use Rattle.schedule_text.specs.declared.fault.LineReason.TheVariants.{End, Form}
use Rattle.schedule_text.specs.Lines.{lines_of, with_end}
use Rattle.schedule_text.specs.Faults.{IsFaultAfter}
use Rattle.schedule_text.specs.Spelling.{Spells}

-- no line end stands in these bytes
abbrev pub HasNoEnd : List ℕ → Type 0
HasNoEnd bytes = AllByRecursion (λ byte. byte ≢ 10) bytes

-- the words of a line, which are the pieces between single spaces
abbrev pub words_of : List ℕ → List (List ℕ)
words_of line = slice_split (λ byte. byte == 32) line

-- a whole line whose words are at fault, for a reason
pub record IsWrongLine
    (at_fault : List (List ℕ) → LineReason → Type 0)
    (rest : List ℕ)
    (reason : LineReason)
    : Type 0 where
  pub line : List ℕ
  pub more : List ℕ
  pub is_rest : rest ≡ with_end line ++ more
  pub has_no_end : HasNoEnd line
  pub is_fault : at_fault (words_of line) reason

-- bytes, of which none is a line end
abbrev pub IsUnended : List ℕ → Type 0
IsUnended rest = (rest ≢ []) × HasNoEnd rest

-- What stands after some lines is no line: bytes without a line end; or no bytes at all in place of the first
-- line; or else a line whose words cannot stand there.
abbrev pub IsNoLine : Option Schedule → List ℕ → LineReason → Type 0
IsNoLine before rest End = IsUnended rest
IsNoLine before rest Form = ((before ≡ None) × (rest ≡ [])) ⊎ IsWrongLine (IsFaultAfter before) rest Form
IsNoLine before rest reason = IsWrongLine (IsFaultAfter before) rest reason

-- a text is no line at all, or spells what stands before
abbrev pub SpellsBefore : List ℕ → Option Schedule → Type 0
SpellsBefore text None = text ≡ []
SpellsBefore text (Some before) = Spells text before

-- how many lines stand before
abbrev pub lines_before : Option Schedule → ℕ
lines_before None = 0
lines_before (Some before) = length (lines_of before)

-- The first line of a text that cannot stand in its place, counted from 1, and why: the lines before it are no
-- line at all, or those of a schedule.
pub record IsRefused (text : List ℕ) (line : ℕ) (reason : LineReason) : Type 0 where
  pub before : Option Schedule
  pub front : List ℕ
  pub rest : List ℕ
  pub is_text : text ≡ front ++ rest
  pub is_before : SpellsBefore front before
  pub is_next : line ≡ lines_before before + 1
  pub is_no_line : IsNoLine before rest reason
