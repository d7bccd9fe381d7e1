-- Where the reader stops.
use Rattle.std.proofs.Common.{◌≡◌, ◌≢◌, inl, inr, ℕ, ◌+◌, List, [], ◌∷◌, ◌++◌, length, Option, Some, None, Result, Ok, Err, MatchResult, IsErrAnd, refl, sym, ap, subst, ◌∙◌, append_assoc}
use Rattle.std.specs.List.{join_with_byte}
use Rattle.sync_model.specs.declared.event.Schedule.{Schedule}
use Rattle.schedule_text.specs.declared.fault.LineReason.{LineReason}
use Rattle.schedule_text.specs.declared.fault.LineReason.TheVariants.{End, Form, Number, Range, Word, Many, Later}
use Rattle.schedule_text.specs.declared.fault.LineFault.{LineFault}
use Rattle.schedule_text.specs.declared.fault.LineFault.TheVariants.{Bad, NoMemory}
use Rattle.schedule_text.specs.declared.fault.ParseFault.{ParseFault}
use Rattle.schedule_text.specs.declared.fault.ParseFault.TheVariants.{BadLine, NoMemory as WantsMemory}
use Rattle.schedule_text.specs.declared.line.Line.{Line}
use Rattle.schedule_text.specs.declared.line.Line.TheVariants.{Clients}
use Rattle.schedule_text.specs.Answers.{IsFaultOf}
use Rattle.schedule_text.specs.Faults.{IsFaultAfter}
use Rattle.schedule_text.specs.Grammar.{forms_after}
use Rattle.schedule_text.specs.Lines.{line_text, line_words, lines_of, schedule_text, with_end, words_text}
use Rattle.schedule_text.specs.Places.{MayStand, after_line}
use Rattle.schedule_text.specs.Reading.{IsCut, IsFaultIn, IsFaultNext, fault_at}
use Rattle.schedule_text.specs.Refusals.{HasNoEnd, IsNoLine, IsRefused, IsWrongLine, words_of}
use Rattle.schedule_text.specs.Spelling.{IsBuiltSchedule, IsSchedule, IsUpTo, Spells}
use Rattle.schedule_text.proofs.Words.{joined}
use Rattle.schedule_text.proofs.Scheduled.{first_is_schedule, first_text, stays_schedule, text_goes_on}

pub line_regrouped : (line rest : List ℕ) → with_end line ++ rest ≡ line ++ 10 ∷ rest
line_regrouped line rest = append_assoc line (10 ∷ []) rest

-- a text by the words of its first line
pub words_text_is : (bytes line rest : List ℕ) (words : List (List ℕ)) → IsCut bytes 10 line rest → words_of line ≡ words → bytes ≡ words_text words ++ rest
words_text_is bytes line rest words cut are =
    cut.is_whole
    ∙ ap (λ (l : List ℕ). l ++ 10 ∷ rest) (sym (joined line) ∙ ap (join_with_byte 32) are)
    ∙ sym (line_regrouped (join_with_byte 32 words) rest)

-- a text by its first line
pub line_is : (bytes line rest : List ℕ) (said : Line) → IsCut bytes 10 line rest → words_of line ≡ line_words said → bytes ≡ line_text said ++ rest
unfolding line_text
line_is bytes line rest said cut words = words_text_is bytes line rest (line_words said) cut words

pub wrong_line : (at_fault : List (List ℕ) → LineReason → Type 0) (rest line more : List ℕ) (reason : LineReason) → IsCut rest 10 line more → at_fault (words_of line) reason → IsWrongLine at_fault rest reason
wrong_line at_fault rest line more reason cut fault =
    record { line = line; more = more; is_rest = cut.is_whole ∙ sym (line_regrouped line more); has_no_end = cut.is_first; is_fault = fault }

no_line : (before : Option Schedule) (rest line more : List ℕ) (reason : LineReason) → IsCut rest 10 line more → IsFaultAfter before (words_of line) reason → IsNoLine before rest reason
no_line before rest line more End cut fault = absurd fault
no_line before rest line more Form cut fault = inr (wrong_line (IsFaultAfter before) rest line more Form cut fault)
no_line before rest line more Number cut fault = wrong_line (IsFaultAfter before) rest line more Number cut fault
no_line before rest line more Range cut fault = wrong_line (IsFaultAfter before) rest line more Range cut fault
no_line before rest line more Word cut fault = wrong_line (IsFaultAfter before) rest line more Word cut fault
no_line before rest line more Many cut fault = wrong_line (IsFaultAfter before) rest line more Many cut fault
no_line before rest line more Later cut fault = wrong_line (IsFaultAfter before) rest line more Later cut fault

-- ---- the first line

pub refused_at_first : (bytes : List ℕ) (reason : LineReason) → IsNoLine None bytes reason → IsRefused bytes 1 reason
refused_at_first bytes reason no_line =
    record { before = None; front = []; rest = bytes; is_text = refl; is_before = refl; is_next = refl; is_no_line = no_line }

first_fault_at : (bytes line rest : List ℕ) (reason : LineReason) → IsCut bytes 10 line rest → IsFaultIn (forms_after None) (words_of line) (Bad reason) → IsFaultAfter None (words_of line) reason
first_fault_at bytes line rest End cut fault = fault
first_fault_at bytes line rest Form cut fault = fault
first_fault_at bytes line rest Number cut fault = fault
first_fault_at bytes line rest Range cut fault = fault
first_fault_at bytes line rest Word cut fault = fault
first_fault_at bytes line rest Many cut fault = absurd fault
first_fault_at bytes line rest Later cut fault = absurd fault

first_fault : (bytes line rest : List ℕ) (fault : LineFault) → IsCut bytes 10 line rest → IsFaultIn (forms_after None) (words_of line) fault → IsFaultOf (IsRefused bytes) (fault_at 1 fault)
first_fault bytes line rest (Bad reason) cut fault =
    refused_at_first bytes reason (no_line None bytes line rest reason cut (first_fault_at bytes line rest reason cut fault))
first_fault bytes line rest NoMemory cut fault = tt

pub first_is_refused : (bytes line rest : List ℕ) (fault : LineFault) (told : ParseFault) → told ≡ fault_at 1 fault → IsCut bytes 10 line rest → IsFaultIn (forms_after None) (words_of line) fault → IsFaultOf (IsRefused bytes) told
first_is_refused bytes line rest fault told is cut at = subst (IsFaultOf (IsRefused bytes)) (sym is) (first_fault bytes line rest fault cut at)

-- ---- the lines after

-- what has been read of a text: a schedule, and what follows its lines
pub record IsRead (bytes : List ℕ) (schedule : Schedule) (rest : List ℕ) : Type 0 where
  pub is_text : bytes ≡ schedule_text schedule ++ rest
  pub is_schedule : IsSchedule schedule
  pub is_built : IsBuiltSchedule schedule

pub refused_next : (bytes rest : List ℕ) (before : Schedule) (line : ℕ) (reason : LineReason) → IsRead bytes before rest → line ≡ length (lines_of before) + 1 → IsNoLine (Some before) rest reason → IsRefused bytes line reason
refused_next bytes rest before line reason read is no_line =
    record {
      before = Some before;
      front = schedule_text before;
      rest = rest;
      is_text = read.is_text;
      is_before = record { is_text = refl; is_schedule = read.is_schedule; is_built = read.is_built };
      is_next = is;
      is_no_line = no_line;
    }

pub fault_next : (bytes rest line more : List ℕ) (before : Schedule) (fault : ParseFault) → IsRead bytes before rest → IsCut rest 10 line more → IsFaultNext (IsFaultAfter (Some before)) (length (lines_of before)) (words_of line) fault → IsFaultOf (IsRefused bytes) fault
fault_next bytes rest line more before (BadLine number reason) read cut fault =
    refused_next bytes rest before number reason read fault.0 (no_line (Some before) rest line more reason cut fault.1)
fault_next bytes rest line more before WantsMemory read cut fault = tt

pub reads_on : (bytes rest line more : List ℕ) (before after : Schedule) (said : Line) → IsRead bytes before rest → IsCut rest 10 line more → MayStand (Some before) said → words_of line ≡ line_words said → after_line (Some before) said ≡ Some after → IsRead bytes after more
reads_on bytes rest line more before after said read cut stands words is =
    let right = stays_schedule before after said read.is_schedule read.is_built stands is in
    record {
      is_text = read.is_text ∙ ap (λ (r : List ℕ). schedule_text before ++ r) (line_is rest line more said cut words) ∙ sym (append_assoc (schedule_text before) (line_text said) more) ∙ ap (λ (t : List ℕ). t ++ more) (sym (text_goes_on before after said stands.is_in_place is));
      is_schedule = right.0;
      is_built = right.1;
    }

pub first_read : (bytes rest : List ℕ) (clients : ℕ) → IsUpTo 8 clients → bytes ≡ line_text (Clients clients) ++ rest → IsRead bytes (record { clients = clients; seed = 0; passes = []; events = [] }) rest
first_read bytes rest clients within is =
    let right = first_is_schedule clients within in
    record { is_text = is ∙ ap (λ (t : List ℕ). t ++ rest) (sym (first_text clients)); is_schedule = right.0; is_built = right.1 }

-- what an early return of a fault answers
pub err_at : {A E : Type 0} (P : A → Type 0) (Q : E → Type 0) (r : Result A E) (fault : E) → IsErrAnd r (λ f. f ≡ fault) → Q fault → MatchResult r P Q
err_at P Q (Ok value) fault is at = absurd is
err_at P Q (Err f) fault is at = subst Q (sym is) at
