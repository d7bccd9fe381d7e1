-- What holds of the texts of scripts: none spells two, none is refused twice, none does both, and each script has one.
use Rattle.std.specs.Prelude.{◌≡◌, ℕ, List}
use Rattle.std.specs.List.{AllByRecursion}
use Rattle.sync_specifics.specs.Extras.{IsCanonicalEdit}
use Rattle.schedule_text.specs.declared.fault.LineReason.{LineReason}
use Rattle.schedule_text.specs.declared.script.ScriptLine.{ScriptLine}
use Rattle.schedule_text.specs.declared.script.ScriptLine.TheVariants.{Change, SetPass, GivePass, Sync, Join}
use Rattle.schedule_text.specs.declared.script.Script.{Script}
use Rattle.schedule_text.specs.ScriptRefusals.{IsScriptRefused}
use Rattle.schedule_text.specs.Scripts.{IsScript, SpellsScript, script_text}

-- a text spells at most one script
abbrev pub SpellsOneScript : Type 0
SpellsOneScript = (text : List ℕ) (one other : Script) → SpellsScript text one → SpellsScript text other → one ≡ other

-- a text is refused as a script at most at one line, for one reason
abbrev pub RefusesOneScriptLine : Type 0
RefusesOneScriptLine =
    (text : List ℕ) (line other_line : ℕ) (reason other_reason : LineReason) → IsScriptRefused text line reason
    → IsScriptRefused text other_line other_reason → (line ≡ other_line) × (reason ≡ other_reason)

-- a text that spells a script is not refused as one
abbrev pub RefusesNoScript : Type 0
RefusesNoScript =
    (text : List ℕ) (script : Script) (line : ℕ) (reason : LineReason) → SpellsScript text script
    → IsScriptRefused text line reason → ⊥

-- the text of a script spells it, and no other script
abbrev pub IsScriptReadBack : Type 0
IsScriptReadBack =
    (script other : Script) → IsScript script
    → SpellsScript (script_text script) script × (SpellsScript (script_text script) other → script ≡ other)

-- the edit of a line, if it has one, is canonical
abbrev pub SaysCanonicalEdit : ScriptLine → Type 0
SaysCanonicalEdit (Change edit) = IsCanonicalEdit edit
SaysCanonicalEdit (SetPass pass) = Unit {0}
SaysCanonicalEdit (GivePass pass) = Unit {0}
SaysCanonicalEdit Sync = Unit {0}
SaysCanonicalEdit Join = Unit {0}

-- each edit of a script that a text spells is canonical
abbrev pub ScriptsAreCanonical : Type 0
ScriptsAreCanonical =
    (text : List ℕ) (script : Script) → SpellsScript text script → AllByRecursion SaysCanonicalEdit script.lines
