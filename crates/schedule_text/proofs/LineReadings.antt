-- What is read of a line in its place.
use Rattle.std.proofs.Common.{◌≡◌, ◌≢◌, ◌⊎◌, inl, inr, ℕ, ◌^◌, ◌≤◌, Bool, true, false, cond, List, [], ◌∷◌, ◌++◌, length, codes, Option, Some, None, Result, Ok, Err, MatchResult, refl, sym, ap, subst, ◌∙◌, arith}
use Rattle.std.specs.Prelude.{IsTrue}
use Rattle.std.specs.Fmt.{decimal}
use Rattle.sync_model.specs.declared.event.Schedule.{Schedule}
use Rattle.sync_model.specs.Text.{text_word}
use Rattle.schedule_text.specs.declared.fault.LineReason.{LineReason}
use Rattle.schedule_text.specs.declared.fault.LineReason.TheVariants.{End, Form, Number, Range, Word, Many, Later}
use Rattle.schedule_text.specs.declared.fault.LineFault.{LineFault}
use Rattle.schedule_text.specs.declared.fault.LineFault.TheVariants.{Bad, NoMemory}
use Rattle.schedule_text.specs.declared.line.Line.{Line}
use Rattle.schedule_text.specs.declared.line.Line.TheVariants.{Clients, Seed, Pass, Event}
use Rattle.schedule_text.specs.Limits.{MAX_CLIENTS, MAX_SEED}
use Rattle.schedule_text.specs.Lines.{line_words}
use Rattle.schedule_text.specs.Places.{IsInPlace, HasRoom, is_built_line}
use Rattle.schedule_text.specs.Spelling.{AreBytes, IsUpTo}
use Rattle.schedule_text.specs.Grammar.{Slot, Fixed, Between, AnyText, change_forms, clients_form, delete_forms, event_forms, fits, form_of, forms_after, if_may, kept_forms, kind_forms, newer_forms, may_pass, may_seed, pass_form, seed_form, set_forms}
use Rattle.schedule_text.specs.Faults.{IsFault, IsFaultAfter}
use Rattle.schedule_text.specs.Reading.{BeginsOther, IsFaultIn, IsFaultThere, IsReading, IsSlotFault}
use Rattle.schedule_text.specs.Refusals.{words_of}
use Rattle.schedule_text.proofs.Forms.{all_fixed, begins_other, fault_cases, fault_in_after_word, fault_of_form, no_form, one_number_fault, passed_at, tails}
use Rattle.schedule_text.proofs.Readings.{fault_of_same, no_space_by_test, reads_after}
use Rattle.schedule_text.proofs.Words.{HasNoSpace, words_at_space}

-- ---- the first line

clients_number : (words : List (List ℕ)) (r : Result ℕ LineFault) → MatchResult r (λ n. IsUpTo MAX_CLIENTS n × (words ≡ decimal n ∷ [])) (λ fault. IsFaultIn ((Between 1 MAX_CLIENTS ∷ []) ∷ []) words fault) → IsReading (codes "clients" ∷ []) ((Between 1 MAX_CLIENTS ∷ []) ∷ []) (IsUpTo MAX_CLIENTS) (λ n. line_words (Clients n)) words r
unfolding line_words
clients_number words (Ok n) read = (read.0, ap (λ (ws : List (List ℕ)). codes "clients" ∷ ws) read.1)
clients_number words (Err fault) read = read

pub clients_read : (line rest : List ℕ) (r : Result ℕ LineFault) → line ≡ codes "clients" ++ 32 ∷ rest → MatchResult r (λ n. IsUpTo MAX_CLIENTS n × (words_of rest ≡ decimal n ∷ [])) (λ fault. IsFaultIn ((Between 1 MAX_CLIENTS ∷ []) ∷ []) (words_of rest) fault) → IsReading [] (forms_after None) (IsUpTo MAX_CLIENTS) (λ n. line_words (Clients n)) (words_of line) r
unfolding forms_after clients_form
clients_read line rest r is read =
    reads_after [] (codes "clients") (forms_after None) (IsUpTo MAX_CLIENTS) (λ n. line_words (Clients n)) line rest r (no_space_by_test (codes "clients") refl) refl is (clients_number (words_of rest) r read)

pub no_clients : (line : List ℕ) → BeginsOther line (codes "clients") → form_of (words_of line) (forms_after None) ≡ None
unfolding forms_after clients_form
no_clients line other = no_form line (forms_after None) (other, tt)

-- ---- the seed and the passphrases

pub seed_read : (line word : List ℕ) (r : Result ℕ LineFault) → words_of line ≡ word ∷ [] → MatchResult r (λ n. (1 ≤ n) × (n ≤ MAX_SEED) × (word ≡ decimal n)) (λ fault. IsSlotFault (Between 1 MAX_SEED) word fault) → IsReading (codes "seed" ∷ []) ((Between 1 MAX_SEED ∷ []) ∷ []) (IsUpTo MAX_SEED) (λ n. line_words (Seed n)) (words_of line) r
unfolding line_words
seed_read line word (Ok n) is read = ((read.0, read.1), ap (λ (ws : List (List ℕ)). codes "seed" ∷ ws) (is ∙ ap (λ (w : List ℕ). w ∷ []) read.2))
seed_read line word (Err fault) is read = fault_of_same ((Between 1 MAX_SEED ∷ []) ∷ []) (words_of line) (word ∷ []) fault is (one_number_fault word 1 MAX_SEED fault read)

pub pass_read : (words : List (List ℕ)) (r : Result (List ℕ) LineFault) → MatchResult r (λ text. AreBytes text × (words ≡ text_word text ∷ [])) (λ fault. IsFaultIn ((AnyText ∷ []) ∷ []) words fault) → IsReading (codes "pass" ∷ []) ((AnyText ∷ []) ∷ []) AreBytes (λ pass. line_words (Pass pass)) words r
unfolding line_words
pass_read words (Ok text) read = (read.0, ap (λ (ws : List (List ℕ)). codes "pass" ∷ ws) read.1)
pass_read words (Err fault) read = read

-- the words of a line of a seed, and of one of a passphrase
pub seed_words : (line rest : List ℕ) → line ≡ codes "seed" ++ 32 ∷ rest → words_of line ≡ codes "seed" ∷ words_of rest
seed_words line rest is = ap words_of is ∙ words_at_space (codes "seed") rest (no_space_by_test (codes "seed") refl)

pub pass_words : (line rest : List ℕ) → line ≡ codes "pass" ++ 32 ∷ rest → words_of line ≡ codes "pass" ∷ words_of rest
pass_words line rest is = ap words_of is ∙ words_at_space (codes "pass") rest (no_space_by_test (codes "pass") refl)

-- ---- lines after others

places_fixed : (seed pass : Bool) (clients passes : ℕ) → all_fixed (if_may seed seed_form ++ if_may pass pass_form ++ event_forms clients passes) ≡ true
unfolding seed_form pass_form event_forms kept_forms change_forms set_forms newer_forms delete_forms kind_forms
places_fixed true true clients passes = refl
places_fixed true false clients passes = refl
places_fixed false true clients passes = refl
places_fixed false false clients passes = refl

seed_tails : (pass : Bool) (clients passes : ℕ) → (Between 1 MAX_SEED ∷ []) ∷ [] ≡ tails (codes "seed") (if_may true seed_form ++ if_may pass pass_form ++ event_forms clients passes)
unfolding seed_form pass_form event_forms kept_forms change_forms set_forms newer_forms delete_forms kind_forms
seed_tails true clients passes = refl
seed_tails false clients passes = refl

pass_tails : (seed : Bool) (clients passes : ℕ) → (AnyText ∷ []) ∷ [] ≡ tails (codes "pass") (if_may seed seed_form ++ if_may true pass_form ++ event_forms clients passes)
unfolding seed_form pass_form event_forms kept_forms change_forms set_forms newer_forms delete_forms kind_forms
pass_tails true clients passes = refl
pass_tails false clients passes = refl

seed_at : (may pass : Bool) (clients passes : ℕ) (line rest : List ℕ) (fault : LineFault) → may ≡ true → line ≡ codes "seed" ++ 32 ∷ rest → IsFaultIn ((Between 1 MAX_SEED ∷ []) ∷ []) (words_of rest) fault → IsFaultIn (if_may may seed_form ++ if_may pass pass_form ++ event_forms clients passes) (words_of line) fault
seed_at true pass clients passes line rest fault may is at =
    let forms = if_may true seed_form ++ if_may pass pass_form ++ event_forms clients passes in
    fault_of_same forms (words_of line) (codes "seed" ∷ words_of rest) fault (seed_words line rest is)
    (fault_in_after_word (codes "seed") (words_of rest) forms fault (places_fixed true pass clients passes)
    (subst (λ (fs : List (List Slot)). IsFaultIn fs (words_of rest) fault) (seed_tails pass clients passes) at))
seed_at false pass clients passes line rest fault may is at = absurd cc

pass_at : (seed may : Bool) (clients passes : ℕ) (line rest : List ℕ) (fault : LineFault) → may ≡ true → line ≡ codes "pass" ++ 32 ∷ rest → IsFaultIn ((AnyText ∷ []) ∷ []) (words_of rest) fault → IsFaultIn (if_may seed seed_form ++ if_may may pass_form ++ event_forms clients passes) (words_of line) fault
pass_at seed true clients passes line rest fault may is at =
    let forms = if_may seed seed_form ++ if_may true pass_form ++ event_forms clients passes in
    fault_of_same forms (words_of line) (codes "pass" ∷ words_of rest) fault (pass_words line rest is)
    (fault_in_after_word (codes "pass") (words_of rest) forms fault (places_fixed seed true clients passes)
    (subst (λ (fs : List (List Slot)). IsFaultIn fs (words_of rest) fault) (pass_tails seed clients passes) at))
pass_at seed false clients passes line rest fault may is at = absurd cc

pub seed_fault : (before : Schedule) (line rest : List ℕ) (fault : LineFault) → IsTrue (may_seed before) → line ≡ codes "seed" ++ 32 ∷ rest → IsFaultIn ((Between 1 MAX_SEED ∷ []) ∷ []) (words_of rest) fault → IsFaultIn (forms_after (Some before)) (words_of line) fault
unfolding forms_after
seed_fault before line rest fault may is at = seed_at (may_seed before) (may_pass before) before.clients (length before.passes) line rest fault may is at

pub pass_fault : (before : Schedule) (line rest : List ℕ) (fault : LineFault) → IsTrue (may_pass before) → line ≡ codes "pass" ++ 32 ∷ rest → IsFaultIn ((AnyText ∷ []) ∷ []) (words_of rest) fault → IsFaultIn (forms_after (Some before)) (words_of line) fault
unfolding forms_after
pass_fault before line rest fault may is at = pass_at (may_seed before) (may_pass before) before.clients (length before.passes) line rest fault may is at

-- faults where the same form is found
pub same_form : (one other : List (List Slot)) (words : List (List ℕ)) (fault : LineFault) → form_of words other ≡ form_of words one → IsFaultIn one words fault → IsFaultIn other words fault
same_form one other words (Bad reason) same fault =
    elim (fault_cases one words reason fault) [
      | inl none ↦ subst (IsFault other words) (sym none.1) (same ∙ none.0)
      | inr found ↦ fault_of_form other found.form words reason (same ∙ found.is_form) found.has_fault
    ]
same_form one other words NoMemory same fault = tt

events_at : (seed pass : Bool) (forms : List (List Slot)) (line : List ℕ) → (seed ≡ true → BeginsOther line (codes "seed")) → (pass ≡ true → BeginsOther line (codes "pass")) → form_of (words_of line) (if_may seed seed_form ++ if_may pass pass_form ++ forms) ≡ form_of (words_of line) forms
unfolding seed_form pass_form
events_at true true forms line no_seed no_pass =
    passed_at (fits (words_of line) seed_form) seed_form (form_of (words_of line) (pass_form ∷ forms)) (begins_other line (codes "seed") (Between 1 MAX_SEED) [] (no_seed refl))
    ∙ passed_at (fits (words_of line) pass_form) pass_form (form_of (words_of line) forms) (begins_other line (codes "pass") AnyText [] (no_pass refl))
events_at true false forms line no_seed no_pass = passed_at (fits (words_of line) seed_form) seed_form (form_of (words_of line) forms) (begins_other line (codes "seed") (Between 1 MAX_SEED) [] (no_seed refl))
events_at false true forms line no_seed no_pass = passed_at (fits (words_of line) pass_form) pass_form (form_of (words_of line) forms) (begins_other line (codes "pass") AnyText [] (no_pass refl))
events_at false false forms line no_seed no_pass = refl

pub event_fault : (before : Schedule) (line : List ℕ) (fault : LineFault) → (IsTrue (may_seed before) → BeginsOther line (codes "seed")) → (IsTrue (may_pass before) → BeginsOther line (codes "pass")) → IsFaultIn (event_forms before.clients (length before.passes)) (words_of line) fault → IsFaultIn (forms_after (Some before)) (words_of line) fault
unfolding forms_after
event_fault before line fault no_seed no_pass at =
    let forms = event_forms before.clients (length before.passes) in
    same_form forms (if_may (may_seed before) seed_form ++ if_may (may_pass before) pass_form ++ forms) (words_of line) fault (events_at (may_seed before) (may_pass before) forms line no_seed no_pass) at

-- a fault of the words that a line has is one after what stands before
pub fault_there : (before : Option Schedule) (words : List (List ℕ)) (fault : LineFault) → IsFaultIn (forms_after before) words fault → IsFaultThere (IsFaultAfter before) words fault
fault_there before words (Bad Number) at = at
fault_there before words (Bad Range) at = at
fault_there before words (Bad Word) at = at
fault_there before words (Bad Form) at = at
fault_there before words (Bad End) at = at
fault_there before words (Bad Many) at = absurd at
fault_there before words (Bad Later) at = absurd at
fault_there before words NoMemory at = tt
