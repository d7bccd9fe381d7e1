-- Which line of a text is the first that cannot stand in a script, and why.
use Rattle.std.specs.Prelude.{◌≡◌, ℕ, ◌+◌, ◌<◌, List, [], ◌∷◌, ◌++◌, codes, length}
use Rattle.schedule_text.specs.declared.fault.LineReason.{LineReason}
use Rattle.schedule_text.specs.declared.fault.LineReason.TheVariants.{End, Many}
use Rattle.schedule_text.specs.declared.script.ScriptLine.{ScriptLine}
use Rattle.schedule_text.specs.declared.script.Script.{Script}
use Rattle.schedule_text.specs.Faults.{IsFault}
use Rattle.schedule_text.specs.Grammar.{Slot, Fixed, AnyText, after_word, change_forms}
use Rattle.schedule_text.specs.Limits.{MAX_SCRIPT_LINES}
use Rattle.schedule_text.specs.Refusals.{IsUnended, IsWrongLine}
use Rattle.schedule_text.specs.Scripts.{IsScriptLine, SpellsScript, script_words}

-- the forms that a script's line may have, wherever it stands
unfoldable pub script_forms : List (List Slot)
script_forms =
    after_word (codes "setpass") ((AnyText ∷ []) ∷ []) ++ after_word (codes "givepass") ((AnyText ∷ []) ∷ [])
    ++ (Fixed (codes "sync") ∷ []) ∷ (Fixed (codes "join") ∷ []) ∷ change_forms

-- there are not yet as many lines as there may be
abbrev pub HasRoomForLine : Script → Type 0
HasRoomForLine before = length before.lines < MAX_SCRIPT_LINES

-- a line may stand after those of a script
pub record MayFollow (before : Script) (line : ScriptLine) : Type 0 where
  pub is_line : IsScriptLine line
  pub has_room : HasRoomForLine before

-- some words are those of a script's line, where there is no room for it
pub record IsLineTooMany (before : Script) (words : List (List ℕ)) : Type 0 where
  pub line : ScriptLine
  pub is_line : IsScriptLine line
  pub are_words : words ≡ script_words line
  pub has_no_room : HasRoomForLine before → ⊥

-- why some words cannot stand after the lines of a script
abbrev pub IsScriptFault : Script → List (List ℕ) → LineReason → Type 0
IsScriptFault before words Many = IsLineTooMany before words
IsScriptFault before words reason = IsFault script_forms words reason

-- What stands after the lines of a script is no line: bytes without a line end, or a line whose words cannot stand
-- there.
abbrev pub IsNoScriptLine : Script → List ℕ → LineReason → Type 0
IsNoScriptLine before rest End = IsUnended rest
IsNoScriptLine before rest reason = IsWrongLine (IsScriptFault before) rest reason

-- The first line of a text that cannot stand in its place, counted from 1, and why: the lines before it are those of
-- a script.
pub record IsScriptRefused (text : List ℕ) (line : ℕ) (reason : LineReason) : Type 0 where
  pub before : Script
  pub front : List ℕ
  pub rest : List ℕ
  pub is_text : text ≡ front ++ rest
  pub is_before : SpellsScript front before
  pub is_next : line ≡ length before.lines + 1
  pub is_no_line : IsNoScriptLine before rest reason
