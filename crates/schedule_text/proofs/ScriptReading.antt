-- What has been read of a script, and where its reader stops.
use Rattle.std.proofs.Common.{◌≡◌, ℕ, ◌+◌, List, [], ◌∷◌, ◌++◌, length, refl, sym, ap, subst, ◌∙◌, arith, append_assoc, length-append}
use Rattle.std.specs.List.{AllByRecursion, flat_map}
use Rattle.std.proofs.lemmas.Grind.{flat_map-append}
use Rattle.std.proofs.lemmas.List.{append-nil}
use Rattle.schedule_text.specs.declared.fault.LineReason.{LineReason}
use Rattle.schedule_text.specs.declared.fault.LineReason.TheVariants.{End, Form, Number, Range, Word, Many, Later}
use Rattle.schedule_text.specs.declared.fault.ParseFault.{ParseFault}
use Rattle.schedule_text.specs.declared.fault.ParseFault.TheVariants.{BadLine, NoMemory}
use Rattle.schedule_text.specs.declared.script.ScriptLine.{ScriptLine}
use Rattle.schedule_text.specs.declared.script.Script.{Script}
use Rattle.schedule_text.specs.Answers.{IsFaultOf}
use Rattle.schedule_text.specs.Reading.{IsCut, IsFaultNext}
use Rattle.schedule_text.specs.Refusals.{words_of}
use Rattle.schedule_text.specs.ScriptRefusals.{IsNoScriptLine, IsScriptFault, IsScriptRefused, MayFollow}
use Rattle.schedule_text.specs.Scripts.{IsScript, IsScriptLine, script_line_text, script_text, script_words}
use Rattle.schedule_text.proofs.Escapes.{AllByRecursion-append}
use Rattle.schedule_text.proofs.Refusing.{words_text_is, wrong_line}

-- what has been read of a text: a script, and what follows its lines
pub record IsScriptRead (bytes : List ℕ) (script : Script) (rest : List ℕ) : Type 0 where
  pub is_text : bytes ≡ script_text script ++ rest
  pub is_script : IsScript script

pub nothing_read : (bytes : List ℕ) (lines : List ScriptLine) → lines ≡ [] → IsScriptRead bytes (record { lines = lines }) bytes
unfolding script_text
nothing_read bytes lines none =
    subst (λ (ls : List ScriptLine). IsScriptRead bytes (record { lines = ls }) bytes) (sym none)
    (record { is_text = refl; is_script = record { lines_are = tt; lines_within = omega arith } })

pub all_read : (bytes rest : List ℕ) (script : Script) → rest ≡ [] → IsScriptRead bytes script rest → bytes ≡ script_text script
all_read bytes rest script none read = read.is_text ∙ ap (λ (r : List ℕ). script_text script ++ r) none ∙ append-nil (script_text script)

-- ---- where it stops

no_line : (before : Script) (rest line more : List ℕ) (reason : LineReason) → IsCut rest 10 line more → IsScriptFault before (words_of line) reason → IsNoScriptLine before rest reason
no_line before rest line more End cut fault = absurd fault
no_line before rest line more Form cut fault = wrong_line (IsScriptFault before) rest line more Form cut fault
no_line before rest line more Number cut fault = wrong_line (IsScriptFault before) rest line more Number cut fault
no_line before rest line more Range cut fault = wrong_line (IsScriptFault before) rest line more Range cut fault
no_line before rest line more Word cut fault = wrong_line (IsScriptFault before) rest line more Word cut fault
no_line before rest line more Many cut fault = wrong_line (IsScriptFault before) rest line more Many cut fault
no_line before rest line more Later cut fault = wrong_line (IsScriptFault before) rest line more Later cut fault

pub refused_there : (bytes rest : List ℕ) (before : Script) (line : ℕ) (reason : LineReason) → IsScriptRead bytes before rest → line ≡ length before.lines + 1 → IsNoScriptLine before rest reason → IsScriptRefused bytes line reason
refused_there bytes rest before line reason read is no_line =
    record {
      before = before;
      front = script_text before;
      rest = rest;
      is_text = read.is_text;
      is_before = record { is_text = refl; is_script = read.is_script };
      is_next = is;
      is_no_line = no_line;
    }

pub fault_there : (bytes rest line more : List ℕ) (before : Script) (fault : ParseFault) → IsScriptRead bytes before rest → IsCut rest 10 line more → IsFaultNext (IsScriptFault before) (length before.lines) (words_of line) fault → IsFaultOf (IsScriptRefused bytes) fault
fault_there bytes rest line more before (BadLine number reason) read cut fault =
    refused_there bytes rest before number reason read fault.0 (no_line before rest line more reason cut fault.1)
fault_there bytes rest line more before NoMemory read cut fault = tt

-- ---- how it goes on

line_is : (rest line more : List ℕ) (said : ScriptLine) → IsCut rest 10 line more → words_of line ≡ script_words said → rest ≡ script_line_text said ++ more
unfolding script_line_text
line_is rest line more said cut words = words_text_is rest line more (script_words said) cut words

text_goes_on : (before after : Script) (said : ScriptLine) → after.lines ≡ before.lines ++ said ∷ [] → script_text after ≡ script_text before ++ script_line_text said
unfolding script_text
text_goes_on before after said is =
    ap (flat_map script_line_text) is
    ∙ flat_map-append script_line_text before.lines (said ∷ [])
    ∙ ap (λ (t : List ℕ). script_text before ++ t) (append-nil (script_line_text said))

stays_script : (before after : Script) (said : ScriptLine) → IsScript before → MayFollow before said → after.lines ≡ before.lines ++ said ∷ [] → IsScript after
stays_script before after said right follows is =
    record {
      lines_are = subst (λ (ls : List ScriptLine). AllByRecursion IsScriptLine ls) (sym is) (AllByRecursion-append IsScriptLine before.lines (said ∷ []) right.lines_are (follows.is_line, tt));
      lines_within = omega (arith, ap length is, length-append before.lines (said ∷ []), follows.has_room);
    }

pub reads_on : (bytes rest line more : List ℕ) (before after : Script) (said : ScriptLine) → IsScriptRead bytes before rest → IsCut rest 10 line more → MayFollow before said → words_of line ≡ script_words said → after.lines ≡ before.lines ++ said ∷ [] → IsScriptRead bytes after more
reads_on bytes rest line more before after said read cut follows words is =
    record {
      is_text = read.is_text ∙ ap (λ (r : List ℕ). script_text before ++ r) (line_is rest line more said cut words) ∙ sym (append_assoc (script_text before) (script_line_text said) more) ∙ ap (λ (t : List ℕ). t ++ more) (sym (text_goes_on before after said is));
      is_script = stays_script before after said read.is_script follows is;
    }
