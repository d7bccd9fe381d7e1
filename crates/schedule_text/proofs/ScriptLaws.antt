-- A text spells one script at most, is refused at one line at most, and never both.
use Rattle.std.proofs.Common.{◌≡◌, ◌⊎◌, inl, inr, ℕ, suc, ◌+◌, ◌<◌, ◌≤◌, List, [], ◌∷◌, ◌++◌, length, refl, sym, ap, subst, ◌∙◌, arith, append_assoc}
use Rattle.std.specs.List.{AllByRecursion, flat_map}
use Rattle.std.proofs.lemmas.List.{append-nil}
use Rattle.schedule_text.specs.declared.fault.LineReason.{LineReason}
use Rattle.schedule_text.specs.declared.fault.LineReason.TheVariants.{End, Form, Number, Range, Word, Many, Later}
use Rattle.schedule_text.specs.declared.script.ScriptLine.{ScriptLine}
use Rattle.schedule_text.specs.declared.script.ScriptLine.TheVariants.{Change, SetPass, GivePass, Sync, Join}
use Rattle.schedule_text.specs.declared.script.Script.{Script}
use Rattle.schedule_text.specs.Limits.{MAX_SCRIPT_LINES}
use Rattle.schedule_text.specs.Refusals.{IsUnended, IsWrongLine, words_of}
use Rattle.schedule_text.specs.ScriptLaws.{IsScriptReadBack, RefusesNoScript, RefusesOneScriptLine, SaysCanonicalEdit, ScriptsAreCanonical, SpellsOneScript}
use Rattle.schedule_text.specs.ScriptRefusals.{IsNoScriptLine, IsScriptFault}
use Rattle.schedule_text.specs.Scripts.{IsScriptLine, SpellsScript, script_line_text, script_text, script_words}
use Rattle.schedule_text.proofs.CanonicalEdits.{change_is_canonical}
use Rattle.schedule_text.proofs.Cuts.{cuts_same, no_cut}
use Rattle.schedule_text.proofs.Refusing.{line_regrouped}
use Rattle.schedule_text.proofs.ScriptLines.{following_has_no_fault, lines_same, no_end_in_line, script_bytes, script_reasons, words_of_line}
use Rattle.schedule_text.proofs.TheLaws.{no_line_is_nothing, wrong_has_end, wrong_is_some, wrong_reasons}

-- ---- a text is cut in one way into lines

text_is : (line : ScriptLine) (more : List ℕ) → script_line_text line ++ more ≡ script_bytes line ++ 10 ∷ more
unfolding script_line_text
text_is line more = line_regrouped (script_bytes line) more

regrouped : (line : ScriptLine) (lines : List ScriptLine) (rest : List ℕ) → flat_map script_line_text (line ∷ lines) ++ rest ≡ script_line_text line ++ (flat_map script_line_text lines ++ rest)
regrouped line lines rest = append_assoc (script_line_text line) (flat_map script_line_text lines) rest

-- no line is at the front that may stand after so many lines
abbrev pub CannotFollow : ℕ → List ℕ → Type 0
CannotFollow lines rest = (line : ScriptLine) (more : List ℕ) → rest ≡ script_line_text line ++ more → IsScriptLine line → lines < MAX_SCRIPT_LINES → ⊥

cuttings_same : (before : ℕ) (one other : List ScriptLine) (rest more : List ℕ) → AllByRecursion IsScriptLine one → AllByRecursion IsScriptLine other → before + length one ≤ MAX_SCRIPT_LINES → before + length other ≤ MAX_SCRIPT_LINES → CannotFollow (before + length one) rest → CannotFollow (before + length other) more → flat_map script_line_text one ++ rest ≡ flat_map script_line_text other ++ more → (one ≡ other) × (rest ≡ more)
cuttings_same before [] [] rest more p q few small ends stops e = (refl, e)
cuttings_same before [] (line ∷ other) rest more p q few small ends stops e =
    absurd (ends line (flat_map script_line_text other ++ more) (e ∙ regrouped line other more) q.0 (omega (arith, small)))
cuttings_same before (line ∷ one) [] rest more p q few small ends stops e =
    absurd (stops line (flat_map script_line_text one ++ rest) (sym e ∙ regrouped line one rest) p.0 (omega (arith, few)))
cuttings_same before (line ∷ one) (next ∷ other) rest more p q few small ends stops e =
    let after = flat_map script_line_text one ++ rest in
    let then = flat_map script_line_text other ++ more in
    let whole : script_bytes line ++ 10 ∷ after ≡ script_bytes next ++ 10 ∷ then = sym (text_is line after) ∙ sym (regrouped line one rest) ∙ e ∙ regrouped next other more ∙ text_is next then in
    let cut = cuts_same 10 (script_bytes line) after (script_bytes next) then (no_end_in_line line p.0) (no_end_in_line next q.0) whole in
    let words : script_words line ≡ script_words next = sym (words_of_line line p.0) ∙ ap words_of cut.0 ∙ words_of_line next q.0 in
    let same : line ≡ next = lines_same line next p.0 q.0 words in
    let ended : CannotFollow (suc before + length one) rest = λ l m is right room. ends l m is right (omega (arith, room)) in
    let stopped : CannotFollow (suc before + length other) more = λ l m is right room. stops l m is right (omega (arith, room)) in
    let later = cuttings_same (suc before) one other rest more p.1 q.1 (omega (arith, few)) (omega (arith, small)) ended stopped cut.1 in
    (ap (λ (l : ScriptLine). l ∷ one) same ∙ ap (λ (ls : List ScriptLine). next ∷ ls) later.0, later.1)

-- ---- where no more line may stand

nothing_ends : (lines : ℕ) → CannotFollow lines []
nothing_ends lines line more e is room = no_line_is_nothing (script_bytes line) more (e ∙ text_is line more)

wrong_ends : (before : Script) (rest : List ℕ) (reason : LineReason) → IsWrongLine (IsScriptFault before) rest reason → CannotFollow (length before.lines) rest
wrong_ends before rest reason wrong line more e is room =
    let whole : wrong.line ++ 10 ∷ wrong.more ≡ script_bytes line ++ 10 ∷ more = sym (wrong.is_rest ∙ line_regrouped wrong.line wrong.more) ∙ e ∙ text_is line more in
    let same = cuts_same 10 wrong.line wrong.more (script_bytes line) more wrong.has_no_end (no_end_in_line line is) whole in
    following_has_no_fault before line (words_of wrong.line) reason (record { is_line = is; has_room = room }) (ap words_of same.0 ∙ words_of_line line is) wrong.is_fault

-- bytes without an end, or a wrong line
views : (before : Script) (rest : List ℕ) (reason : LineReason) → IsNoScriptLine before rest reason → (IsUnended rest × (reason ≡ End)) ⊎ IsWrongLine (IsScriptFault before) rest reason
views before rest End is = inl (is, refl)
views before rest Form is = inr is
views before rest Number is = inr is
views before rest Range is = inr is
views before rest Word is = inr is
views before rest Many is = inr is
views before rest Later is = inr is

no_line_ends : (before : Script) (rest : List ℕ) (reason : LineReason) → IsNoScriptLine before rest reason → CannotFollow (length before.lines) rest
no_line_ends before rest reason no_line line more e is room =
    elim (views before rest reason no_line) [
      | inl open_end ↦ no_cut 10 rest (script_bytes line) more open_end.0.1 (e ∙ text_is line more)
      | inr wrong ↦ wrong_ends before rest reason wrong line more e is room
    ]

-- a place is refused for one reason
place_reasons : (before : Script) (rest : List ℕ) (one other : LineReason) → IsNoScriptLine before rest one → IsNoScriptLine before rest other → one ≡ other
place_reasons before rest one other p q =
    elim (views before rest one p) [
      | inl ends ↦ elim (views before rest other q) [
        | inl too ↦ ends.1 ∙ sym too.1
        | inr wrong ↦ absurd (wrong_has_end (IsScriptFault before) rest other ends.0.1 wrong)
      ]
      | inr wrong ↦ elim (views before rest other q) [
        | inl ends ↦ absurd (wrong_has_end (IsScriptFault before) rest one ends.0.1 wrong)
        | inr too ↦ wrong_reasons (IsScriptFault before) rest one other (λ words one_is other_is. script_reasons before words one other one_is other_is) wrong too
      ]
    ]

-- ---- the laws

-- two texts that begin alike, where no more line may stand after what stands before
record AreSame (one other : Script) (rest more : List ℕ) : Type 0 where
  pub before_is : one ≡ other
  pub rest_is : rest ≡ more

fronts_same : (text front back : List ℕ) (one other : Script) (rest more : List ℕ) → text ≡ front ++ rest → text ≡ back ++ more → SpellsScript front one → SpellsScript back other → CannotFollow (length one.lines) rest → CannotFollow (length other.lines) more → AreSame one other rest more
unfolding script_text
fronts_same text front back one other rest more is too p q ends stops =
    let whole : flat_map script_line_text one.lines ++ rest ≡ flat_map script_line_text other.lines ++ more = ap (λ (t : List ℕ). t ++ rest) (sym p.is_text) ∙ sym is ∙ too ∙ ap (λ (t : List ℕ). t ++ more) q.is_text in
    let same = cuttings_same 0 one.lines other.lines rest more p.is_script.lines_are q.is_script.lines_are (omega (arith, p.is_script.lines_within)) (omega (arith, q.is_script.lines_within)) (λ line more e right room. ends line more e right (omega (arith, room))) (λ line more e right room. stops line more e right (omega (arith, room))) whole in
    record { before_is = λ i. record { lines = same.0 i }; rest_is = same.1 }

pub spells_one : SpellsOneScript
spells_one text one other first second =
    (fronts_same text text text one other [] [] (sym (append-nil text)) (sym (append-nil text)) first second (nothing_ends (length one.lines)) (nothing_ends (length other.lines))).before_is

pub refuses_one : RefusesOneScriptLine
refuses_one text line other_line reason other_reason first second =
    let same = fronts_same text first.front second.front first.before second.before first.rest second.rest first.is_text second.is_text first.is_before second.is_before (no_line_ends first.before first.rest reason first.is_no_line) (no_line_ends second.before second.rest other_reason second.is_no_line) in
    let moved : IsNoScriptLine first.before first.rest other_reason = subst (λ (b : Script). IsNoScriptLine b first.rest other_reason) (sym same.before_is) (subst (λ (l : List ℕ). IsNoScriptLine second.before l other_reason) (sym same.rest_is) second.is_no_line) in
    (first.is_next ∙ ap (λ (b : Script). length b.lines + 1) same.before_is ∙ sym second.is_next, place_reasons first.before first.rest reason other_reason first.is_no_line moved)

pub refuses_none : RefusesNoScript
refuses_none text script line reason spells refused =
    let same = fronts_same text text refused.front script refused.before [] refused.rest (sym (append-nil text)) refused.is_text spells refused.is_before (nothing_ends (length script.lines)) (no_line_ends refused.before refused.rest reason refused.is_no_line) in
    elim (views refused.before refused.rest reason refused.is_no_line) [
      | inl ends ↦ ends.0.0 (sym same.rest_is)
      | inr wrong ↦ wrong_is_some (IsScriptFault refused.before) refused.rest reason (sym same.rest_is) wrong
    ]

pub read_back : IsScriptReadBack
read_back script other right =
    let spells : SpellsScript (script_text script) script = record { is_text = refl; is_script = right } in
    (spells, λ too. spells_one (script_text script) script other spells too)

line_is_canonical : (line : ScriptLine) → IsScriptLine line → SaysCanonicalEdit line
line_is_canonical (Change edit) is = change_is_canonical edit is
line_is_canonical (SetPass pass) is = tt
line_is_canonical (GivePass pass) is = tt
line_is_canonical Sync is = tt
line_is_canonical Join is = tt

lines_are_canonical : (lines : List ScriptLine) → AllByRecursion IsScriptLine lines → AllByRecursion SaysCanonicalEdit lines
lines_are_canonical [] are = tt
lines_are_canonical (line ∷ lines) are = (line_is_canonical line are.0, lines_are_canonical lines are.1)

pub canonical_scripts : ScriptsAreCanonical
canonical_scripts text script spells = lines_are_canonical script.lines spells.is_script.lines_are
