-- What a line of a script says.
use Rattle.std.proofs.Common.{◌≡◌, ◌≢◌, ◌⊎◌, inl, inr, ℕ, ◌+◌, ◌*◌, false, cond, ◌==◌, List, [], ◌∷◌, length, codes, get_or, Result, Ok, Err, refl, sym, ap, subst, ◌∙◌, arith}
use Rattle.std.specs.List.{join_with_byte}
use Rattle.sync_values.specs.declared.edit.Edit.{Edit}
use Rattle.sync_values.specs.declared.edit.Edit.TheVariants.{SetPreference, NewerPreference, DeletePreference, SetPassword, NewerPassword, DeletePassword, SetNigori}
use Rattle.schedule_text.specs.declared.fault.LineReason.{LineReason}
use Rattle.schedule_text.specs.declared.fault.LineReason.TheVariants.{End, Form, Number, Range, Word, Many, Later}
use Rattle.schedule_text.specs.declared.fault.LineFault.{LineFault}
use Rattle.schedule_text.specs.declared.fault.LineFault.TheVariants.{Bad, NoMemory}
use Rattle.schedule_text.specs.declared.script.ScriptLine.{ScriptLine}
use Rattle.schedule_text.specs.declared.script.ScriptLine.TheVariants.{Change, SetPass, GivePass, Sync, Join}
use Rattle.schedule_text.specs.declared.script.Script.{Script}
use Rattle.schedule_text.specs.Faults.{IsFault}
use Rattle.schedule_text.specs.Grammar.{Fixed, AnyText, change_forms, fits, form_of}
use Rattle.schedule_text.specs.Lines.{change_words}
use Rattle.schedule_text.specs.Reading.{BeginsOther, IsFaultIn, IsFaultThere, IsReading}
use Rattle.schedule_text.specs.Refusals.{HasNoEnd, words_of}
use Rattle.schedule_text.specs.ScriptRefusals.{IsLineTooMany, IsScriptFault, MayFollow, script_forms}
use Rattle.schedule_text.specs.Scripts.{IsScriptLine, script_words}
use Rattle.schedule_text.specs.Spelling.{IsChange}
use Rattle.schedule_text.proofs.Escapes.{texts_same, word_is_visible}
use Rattle.schedule_text.proofs.Forms.{begins_other, is_other_word, passed_at}
use Rattle.schedule_text.proofs.LineReadings.{same_form}
use Rattle.schedule_text.proofs.OneCutting.{AllVisible, change_visible, no_end_in_words, no_spaces_in, visible_by_test}
use Rattle.schedule_text.proofs.OneLine.{changes_same}
use Rattle.schedule_text.proofs.RightLines.{HasRight, change_right, one_reason, right_has_no_fault, text_right}
use Rattle.schedule_text.proofs.Words.{words_again}

-- ---- a line that is read

-- words that fit none of the other forms fit that of a change, if any
past_others : (words : List (List ℕ)) → fits words (Fixed (codes "setpass") ∷ AnyText ∷ []) ≡ false → fits words (Fixed (codes "givepass") ∷ AnyText ∷ []) ≡ false → fits words (Fixed (codes "sync") ∷ []) ≡ false → fits words (Fixed (codes "join") ∷ []) ≡ false → form_of words script_forms ≡ form_of words change_forms
unfolding script_forms
past_others words no_set no_give no_sync no_join =
    passed_at (fits words (Fixed (codes "setpass") ∷ AnyText ∷ [])) (Fixed (codes "setpass") ∷ AnyText ∷ []) _ no_set
    ∙ passed_at (fits words (Fixed (codes "givepass") ∷ AnyText ∷ [])) (Fixed (codes "givepass") ∷ AnyText ∷ []) _ no_give
    ∙ passed_at (fits words (Fixed (codes "sync") ∷ [])) (Fixed (codes "sync") ∷ []) _ no_sync
    ∙ passed_at (fits words (Fixed (codes "join") ∷ [])) (Fixed (codes "join") ∷ []) (form_of words change_forms) no_join

change_is_read : (words : List (List ℕ)) (r : Result ScriptLine LineFault) → form_of words script_forms ≡ form_of words change_forms → IsReading [] change_forms IsScriptLine script_words words r → IsReading [] script_forms IsScriptLine script_words words r
change_is_read words (Ok said) same read = read
change_is_read words (Err fault) same read = same_form change_forms script_forms words fault same read

-- a line that is none of the others is read as a change
pub changes_read : (line : List ℕ) (r : Result ScriptLine LineFault) → line ≢ codes "sync" → line ≢ codes "join" → BeginsOther line (codes "setpass") → BeginsOther line (codes "givepass") → IsReading [] change_forms IsScriptLine script_words (words_of line) r → IsReading [] script_forms IsScriptLine script_words (words_of line) r
changes_read line r no_sync no_join no_set no_give read =
    change_is_read (words_of line) r
    (past_others (words_of line) (begins_other line (codes "setpass") AnyText [] no_set) (begins_other line (codes "givepass") AnyText [] no_give) (is_other_word line (codes "sync") no_sync) (is_other_word line (codes "join") no_join)) read

-- a fault of the words of a line is one of the line where it stands
pub fault_in_script : (before : Script) (words : List (List ℕ)) (fault : LineFault) → IsFaultIn script_forms words fault → IsFaultThere (IsScriptFault before) words fault
fault_in_script before words (Bad Number) at = at
fault_in_script before words (Bad Range) at = at
fault_in_script before words (Bad Word) at = at
fault_in_script before words (Bad Form) at = at
fault_in_script before words (Bad End) at = at
fault_in_script before words (Bad Later) at = at
fault_in_script before words (Bad Many) at = absurd at
fault_in_script before words NoMemory at = tt

-- ---- no byte of a word is a space or a line end

line_visible : (line : ScriptLine) → IsScriptLine line → AllVisible (script_words line)
unfolding script_words
line_visible (Change edit) is = change_visible edit is
line_visible (SetPass pass) is = (visible_by_test (codes "setpass") refl, (word_is_visible pass, tt))
line_visible (GivePass pass) is = (visible_by_test (codes "givepass") refl, (word_is_visible pass, tt))
line_visible Sync is = (visible_by_test (codes "sync") refl, tt)
line_visible Join is = (visible_by_test (codes "join") refl, tt)

some_words : (line : ScriptLine) → IsScriptLine line → script_words line ≢ []
unfolding script_words change_words
some_words (Change (SetPreference preference)) is e = cc
some_words (Change (NewerPreference preference)) is e = cc
some_words (Change (DeletePreference name)) is e = cc
some_words (Change (SetPassword password)) is e = cc
some_words (Change (NewerPassword password)) is e = cc
some_words (Change (DeletePassword origin user_element user_value pass_element realm)) is e = cc
some_words (Change (SetNigori keys)) is e = is
some_words (SetPass pass) is e = cc
some_words (GivePass pass) is e = cc
some_words Sync is e = cc
some_words Join is e = cc

-- the bytes of a line without its end
abbrev pub script_bytes : ScriptLine → List ℕ
script_bytes line = join_with_byte 32 (script_words line)

pub no_end_in_line : (line : ScriptLine) → IsScriptLine line → HasNoEnd (script_bytes line)
no_end_in_line line is = no_end_in_words (script_words line) (line_visible line is)

pub words_of_line : (line : ScriptLine) → IsScriptLine line → words_of (script_bytes line) ≡ script_words line
words_of_line line is = words_again (script_words line) (some_words line is) (no_spaces_in (script_words line) (line_visible line is))

-- ---- a line's words tell the line

-- a number for the first word of a line: its length and its first byte, where it is none of a change
abbrev pub word_code : List ℕ → ℕ
word_code word = cond (length word == 3) 0 (cond (length word == 5) 0 (256 * length word + get_or word 0 0))

abbrev pub line_code : ScriptLine → ℕ
line_code (Change edit) = 0
line_code (SetPass pass) = 1907
line_code (GivePass pass) = 2151
line_code Sync = 1139
line_code Join = 1130

line_code_is : (line : ScriptLine) → IsScriptLine line → word_code (get_or (script_words line) 0 []) ≡ line_code line
unfolding script_words change_words
line_code_is (Change (SetPreference preference)) is = refl
line_code_is (Change (NewerPreference preference)) is = refl
line_code_is (Change (DeletePreference name)) is = refl
line_code_is (Change (SetPassword password)) is = refl
line_code_is (Change (NewerPassword password)) is = refl
line_code_is (Change (DeletePassword origin user_element user_value pass_element realm)) is = refl
line_code_is (Change (SetNigori keys)) is = absurd is
line_code_is (SetPass pass) is = refl
line_code_is (GivePass pass) is = refl
line_code_is Sync is = refl
line_code_is Join is = refl

line_codes_same : (one other : ScriptLine) → IsScriptLine one → IsScriptLine other → script_words one ≡ script_words other → line_code one ≡ line_code other
line_codes_same one other fits right e = sym (line_code_is one fits) ∙ ap (λ (words : List (List ℕ)). word_code (get_or words 0 [])) e ∙ line_code_is other right

pub lines_same : (one other : ScriptLine) → IsScriptLine one → IsScriptLine other → script_words one ≡ script_words other → one ≡ other
unfolding script_words
lines_same (Change one) (Change other) fits right e = ap Change (changes_same one other fits right e)
lines_same (SetPass one) (SetPass other) fits right e = ap SetPass (texts_same one other fits right (ap (λ (words : List (List ℕ)). get_or words 1 []) e))
lines_same (GivePass one) (GivePass other) fits right e = ap GivePass (texts_same one other fits right (ap (λ (words : List (List ℕ)). get_or words 1 []) e))
lines_same Sync Sync fits right e = refl
lines_same Join Join fits right e = refl
lines_same one other fits right e = absurd (let no = line_codes_same one other fits right e in omega (arith, no))

-- ---- a line's words are right

change_is_no_other : (edit : Edit) → IsChange edit → form_of (change_words edit) script_forms ≡ form_of (change_words edit) change_forms
unfolding change_words
change_is_no_other (SetPreference preference) is = past_others (change_words (SetPreference preference)) refl refl refl refl
change_is_no_other (NewerPreference preference) is = past_others (change_words (NewerPreference preference)) refl refl refl refl
change_is_no_other (DeletePreference name) is = past_others (change_words (DeletePreference name)) refl refl refl refl
change_is_no_other (SetPassword password) is = past_others (change_words (SetPassword password)) refl refl refl refl
change_is_no_other (NewerPassword password) is = past_others (change_words (NewerPassword password)) refl refl refl refl
change_is_no_other (DeletePassword origin user_element user_value pass_element realm) is = past_others (change_words (DeletePassword origin user_element user_value pass_element realm)) refl refl refl refl
change_is_no_other (SetNigori keys) is = absurd is

line_right : (line : ScriptLine) → IsScriptLine line → HasRight script_forms (script_words line)
unfolding script_words script_forms
line_right (Change edit) is =
    let right = change_right edit is in
    record { form = right.form; is_form = change_is_no_other edit is ∙ right.is_form; are_right = right.are_right }
line_right (SetPass pass) is = record { form = Fixed (codes "setpass") ∷ AnyText ∷ []; is_form = refl; are_right = (refl, (text_right pass is, tt)) }
line_right (GivePass pass) is = record { form = Fixed (codes "givepass") ∷ AnyText ∷ []; is_form = refl; are_right = (refl, (text_right pass is, tt)) }
line_right Sync is = record { form = Fixed (codes "sync") ∷ []; is_form = refl; are_right = (refl, tt) }
line_right Join is = record { form = Fixed (codes "join") ∷ []; is_form = refl; are_right = (refl, tt) }

-- ---- a line that may stand is not at fault, and one that is, is so for one reason

-- words that are too many are right; all others that are at fault are so wherever they stand
late_or_early : (before : Script) (words : List (List ℕ)) (reason : LineReason) → IsScriptFault before words reason → ((reason ≡ Many) × IsLineTooMany before words) ⊎ IsFault script_forms words reason
late_or_early before words Many fault = inl (refl, fault)
late_or_early before words End fault = inr fault
late_or_early before words Form fault = inr fault
late_or_early before words Number fault = inr fault
late_or_early before words Range fault = inr fault
late_or_early before words Word fault = inr fault
late_or_early before words Later fault = inr fault

too_many_are_right : (before : Script) (words : List (List ℕ)) → IsLineTooMany before words → HasRight script_forms words
too_many_are_right before words many = subst (HasRight script_forms) (sym many.are_words) (line_right many.line many.is_line)

pub following_has_no_fault : (before : Script) (line : ScriptLine) (words : List (List ℕ)) (reason : LineReason) → MayFollow before line → words ≡ script_words line → IsScriptFault before words reason → ⊥
following_has_no_fault before line words reason stands is fault =
    elim (late_or_early before words reason fault) [
      | inl many ↦ many.1.has_no_room stands.has_room
      | inr early ↦ right_has_no_fault script_forms words reason (subst (HasRight script_forms) (sym is) (line_right line stands.is_line)) early
    ]

pub script_reasons : (before : Script) (words : List (List ℕ)) (one other : LineReason) → IsScriptFault before words one → IsScriptFault before words other → one ≡ other
script_reasons before words one other p q =
    elim (late_or_early before words one p) [
      | inl many ↦ elim (late_or_early before words other q) [
        | inl too ↦ many.0 ∙ sym too.0
        | inr early ↦ absurd (right_has_no_fault script_forms words other (too_many_are_right before words many.1) early)
      ]
      | inr early ↦ elim (late_or_early before words other q) [
        | inl many ↦ absurd (right_has_no_fault script_forms words one (too_many_are_right before words many.1) early)
        | inr too ↦ one_reason script_forms words one other early too
      ]
    ]
