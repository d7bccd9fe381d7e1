-- Which scripts there are, and which text spells one.
use Rattle.std.specs.Prelude.{◌≡◌, ℕ, ◌≤◌, List, [], ◌∷◌, codes, length}
use Rattle.std.specs.List.{AllByRecursion, flat_map}
use Rattle.sync_model.specs.Text.{text_word}
use Rattle.schedule_text.specs.declared.script.ScriptLine.{ScriptLine}
use Rattle.schedule_text.specs.declared.script.ScriptLine.TheVariants.{Change, SetPass, GivePass, Sync, Join}
use Rattle.schedule_text.specs.declared.script.Script.{Script}
use Rattle.schedule_text.specs.Limits.{MAX_SCRIPT_LINES}
use Rattle.schedule_text.specs.Lines.{change_words, words_text}
use Rattle.schedule_text.specs.Spelling.{AreBytes, IsChange}

-- the words of a script's line
unfoldable pub script_words : ScriptLine → List (List ℕ)
script_words (Change edit) = change_words edit
script_words (SetPass pass) = codes "setpass" ∷ text_word pass ∷ []
script_words (GivePass pass) = codes "givepass" ∷ text_word pass ∷ []
script_words Sync = codes "sync" ∷ []
script_words Join = codes "join" ∷ []

-- the text of a script's line
unfoldable pub script_line_text : ScriptLine → List ℕ
script_line_text line = words_text (script_words line)

-- the one text of a script
unfoldable pub script_text : Script → List ℕ
script_text script = flat_map script_line_text script.lines

-- a line that a text can say: a change that can be said, or a passphrase of bytes, or no more than a word
abbrev pub IsScriptLine : ScriptLine → Type 0
IsScriptLine (Change edit) = IsChange edit
IsScriptLine (SetPass pass) = AreBytes pass
IsScriptLine (GivePass pass) = AreBytes pass
IsScriptLine Sync = Unit {0}
IsScriptLine Join = Unit {0}

-- a script: each of its lines can be said, and it is not too long
pub record IsScript (script : Script) : Type 0 where
  pub lines_are : AllByRecursion IsScriptLine script.lines
  pub lines_within : length script.lines ≤ MAX_SCRIPT_LINES

-- a text spells a script
pub record SpellsScript (text : List ℕ) (script : Script) : Type 0 where
  pub is_text : text ≡ script_text script
  pub is_script : IsScript script
