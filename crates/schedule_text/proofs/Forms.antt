-- Which form some words fit, and how they are at fault.
use Rattle.std.proofs.Common.{◌≡◌, ◌≢◌, ◌⊎◌, inl, inr, ℕ, suc, ◌<◌, ◌≤◌, Bool, true, false, cond, ◌==◌, ◌&&◌, List, [], ◌∷◌, ◌++◌, length, map, Option, Some, None, refl, sym, ap, subst, ◌∙◌, arith}
use Rattle.std.specs.List.{AllByRecursion, find, flat_map, join_with_byte}
use Rattle.std.specs.Option.{option_map}
use Rattle.std.specs.Str.{bytes_eq}
use Rattle.std.specs.Str.Parse.{digits_value}
use Rattle.std.proofs.lemmas.Slice.Eq.{bytes_eq-Decides}
use Rattle.schedule_text.specs.declared.fault.LineReason.{LineReason}
use Rattle.schedule_text.specs.declared.fault.LineReason.TheVariants.{End, Form, Number, Range, Word, Many, Later}
use Rattle.schedule_text.specs.declared.fault.LineFault.{LineFault}
use Rattle.schedule_text.specs.declared.fault.LineFault.TheVariants.{Bad, NoMemory}
use Rattle.schedule_text.specs.Grammar.{Slot, Fixed, Between, AnyText, AnyExtra, after_slot, after_word, fits, form_of}
use Rattle.schedule_text.specs.Faults.{HasFault, HasFaultyWord, IsDecimal, IsFault, IsFaulty, IsRight, IsTextWord}
use Rattle.schedule_text.specs.Reading.{BeginsOther, IsFaultIn, IsFormFault, IsSlotFault}
use Rattle.schedule_text.specs.Refusals.{words_of}
use Rattle.schedule_text.proofs.Words.{joined}

-- ---- the forms that go on after a word

-- what of a form follows a word
abbrev pub tail_after : List ℕ → List Slot → List (List Slot)
tail_after word [] = []
tail_after word (Fixed fixed ∷ form) = cond (bytes_eq fixed word) (form ∷ []) []
tail_after word (Between low high ∷ form) = []
tail_after word (AnyText ∷ form) = []
tail_after word (AnyExtra kind ∷ form) = []

abbrev pub tails : List ℕ → List (List Slot) → List (List Slot)
tails word forms = flat_map (tail_after word) forms

-- each form begins with a fixed word
abbrev pub all_fixed : List (List Slot) → Bool
all_fixed [] = true
all_fixed ((Fixed fixed ∷ form) ∷ forms) = all_fixed forms
all_fixed ([] ∷ forms) = false
all_fixed ((Between low high ∷ form) ∷ forms) = false
all_fixed ((AnyText ∷ form) ∷ forms) = false
all_fixed ((AnyExtra kind ∷ form) ∷ forms) = false

abbrev pub after_fixed : List ℕ → Option (List Slot) → Option (List Slot)
after_fixed word found = option_map (λ form. Fixed word ∷ form) found

found_at : (fit : Bool) (fixed word : List ℕ) (form : List Slot) (rest tail : Option (List Slot)) → fixed ≡ word → rest ≡ after_fixed word tail → cond fit (Some (Fixed fixed ∷ form)) rest ≡ after_fixed word (cond fit (Some form) tail)
found_at true fixed word form rest tail same is = ap (λ (w : List ℕ). Some (Fixed w ∷ form)) same
found_at false fixed word form rest tail same is = is

found_same : (same : Bool) (fixed word : List ℕ) (words : List (List ℕ)) (form : List Slot) (rest : Option (List Slot)) (more : List (List Slot)) → (same ≡ true → fixed ≡ word) → rest ≡ after_fixed word (form_of words more) → cond (same && fits words form) (Some (Fixed fixed ∷ form)) rest ≡ after_fixed word (form_of words (cond same (form ∷ []) [] ++ more))
found_same true fixed word words form rest more same is = found_at (fits words form) fixed word form rest (form_of words more) (same refl) is
found_same false fixed word words form rest more same is = is

pub found_after : (word : List ℕ) (words : List (List ℕ)) (forms : List (List Slot)) → all_fixed forms ≡ true → form_of (word ∷ words) forms ≡ after_fixed word (form_of words (tails word forms))
found_after word words [] fixed = refl
found_after word words ((Fixed w ∷ form) ∷ forms) fixed =
    found_same (bytes_eq w word) w word words form (form_of (word ∷ words) forms) (tails word forms) (bytes_eq-Decides w word).0 (found_after word words forms fixed)
found_after word words ([] ∷ forms) fixed = absurd cc
found_after word words ((Between low high ∷ form) ∷ forms) fixed = absurd cc
found_after word words ((AnyText ∷ form) ∷ forms) fixed = absurd cc
found_after word words ((AnyExtra kind ∷ form) ∷ forms) fixed = absurd cc

-- ---- faults that a form found tells

word_reason : LineReason → Bool
word_reason Number = true
word_reason Range = true
word_reason Word = true
word_reason End = false
word_reason Form = false
word_reason Many = false
word_reason Later = false

faulty_reason : (slot : Slot) (word : List ℕ) (reason : LineReason) → IsFaulty slot word reason → word_reason reason ≡ true
unfolding word_reason
faulty_reason (Between low high) word Number is = refl
faulty_reason (Between low high) word Range is = refl
faulty_reason AnyText word Word is = refl
faulty_reason (AnyExtra kind) word Word is = refl
faulty_reason slot word reason is = absurd is

fault_reason : (form : List Slot) (words : List (List ℕ)) (reason : LineReason) → HasFault form words reason → word_reason reason ≡ true
fault_reason [] words reason is = absurd is
fault_reason (slot ∷ form) [] reason is = absurd is
fault_reason (slot ∷ form) (word ∷ words) reason (inl is) = faulty_reason slot word reason is
fault_reason (slot ∷ form) (word ∷ words) reason (inr is) = fault_reason form words reason is.1

-- the fault of words that fit a form
pub fault_of_form : (forms : List (List Slot)) (form : List Slot) (words : List (List ℕ)) (reason : LineReason) → form_of words forms ≡ Some form → HasFault form words reason → IsFault forms words reason
unfolding word_reason
fault_of_form forms form words Number is fault = record { form = form; is_form = is; has_fault = fault }
fault_of_form forms form words Range is fault = record { form = form; is_form = is; has_fault = fault }
fault_of_form forms form words Word is fault = record { form = form; is_form = is; has_fault = fault }
fault_of_form forms form words End is fault = absurd (let no = fault_reason form words End fault in cc)
fault_of_form forms form words Form is fault = absurd (let no = fault_reason form words Form fault in cc)
fault_of_form forms form words Many is fault = absurd (let no = fault_reason form words Many fault in cc)
fault_of_form forms form words Later is fault = absurd (let no = fault_reason form words Later fault in cc)

-- what a fault says: no form fits, or a word of the form that fits is at fault
pub fault_cases : (forms : List (List Slot)) (words : List (List ℕ)) (reason : LineReason) → IsFault forms words reason → ((form_of words forms ≡ None) × (reason ≡ Form)) ⊎ HasFaultyWord forms words reason
fault_cases forms words Form is = inl (is, refl)
fault_cases forms words Number is = inr is
fault_cases forms words Range is = inr is
fault_cases forms words Word is = inr is
fault_cases forms words End is = absurd is
fault_cases forms words Many is = absurd is
fault_cases forms words Later is = absurd is

-- faults where other forms, of other words, give the same form but for what stands before
moved : (one other : List (List Slot)) (words more : List (List ℕ)) (change : List Slot → List Slot) (reason : LineReason) → form_of more other ≡ option_map change (form_of words one) → ((form : List Slot) → HasFault form words reason → HasFault (change form) more reason) → IsFault one words reason → IsFault other more reason
moved one other words more change reason same go fault =
    elim (fault_cases one words reason fault) [
      | inl none ↦ subst (IsFault other more) (sym none.1) (same ∙ ap (option_map change) none.0)
      | inr found ↦ fault_of_form other (change found.form) more reason (same ∙ ap (option_map change) found.is_form) (go found.form found.has_fault)
    ]

pub fault_after_word : (word : List ℕ) (words : List (List ℕ)) (forms : List (List Slot)) (reason : LineReason) → all_fixed forms ≡ true → IsFault (tails word forms) words reason → IsFault forms (word ∷ words) reason
fault_after_word word words forms reason fixed fault =
    moved (tails word forms) forms words (word ∷ words) (λ form. Fixed word ∷ form) reason (found_after word words forms fixed) (λ form is. inr (refl, is)) fault

pub fault_in_after_word : (word : List ℕ) (words : List (List ℕ)) (forms : List (List Slot)) (fault : LineFault) → all_fixed forms ≡ true → IsFaultIn (tails word forms) words fault → IsFaultIn forms (word ∷ words) fault
fault_in_after_word word words forms (Bad reason) fixed fault = fault_after_word word words forms reason fixed fault
fault_in_after_word word words forms NoMemory fixed fault = tt

-- ---- the forms that go on after a number

number_at : (fit : Bool) (low high : ℕ) (form : List Slot) (rest tail : Option (List Slot)) → rest ≡ option_map (λ f. Between low high ∷ f) tail → cond fit (Some (Between low high ∷ form)) rest ≡ option_map (λ f. Between low high ∷ f) (cond fit (Some form) tail)
number_at true low high form rest tail is = refl
number_at false low high form rest tail is = is

pub found_number : (low high : ℕ) (word : List ℕ) (words : List (List ℕ)) (forms : List (List Slot)) → form_of (word ∷ words) (after_slot (Between low high) forms) ≡ option_map (λ form. Between low high ∷ form) (form_of words forms)
found_number low high word words [] = refl
found_number low high word words (form ∷ forms) =
    number_at (fits words form) low high form (form_of (word ∷ words) (after_slot (Between low high) forms)) (form_of words forms) (found_number low high word words forms)

pub form_after_number : (low high : ℕ) (word : List ℕ) (words : List (List ℕ)) (forms : List (List Slot)) → form_of words forms ≡ None → form_of (word ∷ words) (after_slot (Between low high) forms) ≡ None
form_after_number low high word words forms none = found_number low high word words forms ∙ ap (option_map (λ form. Between low high ∷ form)) none

pub fault_after_number : (low high : ℕ) (word : List ℕ) (words : List (List ℕ)) (forms : List (List Slot)) (reason : LineReason) → IsRight (Between low high) word → IsFault forms words reason → IsFault (after_slot (Between low high) forms) (word ∷ words) reason
fault_after_number low high word words forms reason right fault =
    moved forms (after_slot (Between low high) forms) words (word ∷ words) (λ form. Between low high ∷ form) reason (found_number low high word words forms) (λ form is. inr (right, is)) fault

-- a form fits some words
pub record HasForm (forms : List (List Slot)) (words : List (List ℕ)) : Type 0 where
  pub form : List Slot
  pub is_form : form_of words forms ≡ Some form

pub has_form : (forms : List (List Slot)) (words : List (List ℕ)) → form_of words forms ≢ None → HasForm forms words
has_form forms words some = at (form_of words forms) refl
  where
    at : (found : Option (List Slot)) → form_of words forms ≡ found → HasForm forms words
    at None is = absurd (some is)
    at (Some form) is = record { form = form; is_form = is }

pub number_fault : (low high : ℕ) (word : List ℕ) (words : List (List ℕ)) (forms : List (List Slot)) (fault : LineFault) → HasForm forms words → IsSlotFault (Between low high) word fault → IsFaultIn (after_slot (Between low high) forms) (word ∷ words) fault
number_fault low high word words forms (Bad reason) has fault =
    fault_of_form (after_slot (Between low high) forms) (Between low high ∷ has.form) (word ∷ words) reason (found_number low high word words forms ∙ ap (option_map (λ form. Between low high ∷ form)) has.is_form) (inl fault)
number_fault low high word words forms NoMemory has fault = tt

-- ---- one form alone

fits_length : (words : List (List ℕ)) (form : List Slot) → fits words form ≡ true → length words ≡ length form
fits_length [] [] is = refl
fits_length (word ∷ words) (Fixed fixed ∷ form) is = ap suc (fits_length words form (both (bytes_eq fixed word) (fits words form) is))
  where
    both : (a b : Bool) → (a && b) ≡ true → b ≡ true
    both true b e = e
    both false b e = absurd cc
fits_length (word ∷ words) (Between low high ∷ form) is = ap suc (fits_length words form is)
fits_length (word ∷ words) (AnyText ∷ form) is = ap suc (fits_length words form is)
fits_length (word ∷ words) (AnyExtra kind ∷ form) is = ap suc (fits_length words form is)
fits_length [] (slot ∷ form) is = absurd cc
fits_length (word ∷ words) [] is = absurd cc

pub no_form_by_length : (words : List (List ℕ)) (form : List Slot) → length words ≢ length form → form_of words (form ∷ []) ≡ None
no_form_by_length words form other = at (fits words form) (fits_length words form)
  where
    at : (fit : Bool) → (fit ≡ true → length words ≡ length form) → cond fit (Some form) None ≡ None
    at true long = absurd (other (long refl))
    at false long = refl

-- the fault of words that fit the only form
pub one_form_fault : (words : List (List ℕ)) (form : List Slot) (fault : LineFault) → form_of words (form ∷ []) ≡ Some form → IsFormFault form words fault → IsFaultIn (form ∷ []) words fault
one_form_fault words form (Bad reason) fit fault = fault_of_form (form ∷ []) form words reason fit fault
one_form_fault words form NoMemory fit fault = tt

-- ---- lines that begin otherwise than each form

-- a line does not begin as a form does, which has a second place
abbrev pub IsOther : List ℕ → List Slot → Type 0
IsOther line (Fixed word ∷ slot ∷ form) = BeginsOther line word
IsOther line (Fixed word ∷ []) = ⊥
IsOther line (Between low high ∷ form) = ⊥
IsOther line (AnyText ∷ form) = ⊥
IsOther line (AnyExtra kind ∷ form) = ⊥
IsOther line [] = ⊥

words_begin_other : (words : List (List ℕ)) (word : List ℕ) (slot : Slot) (form : List Slot) → BeginsOther (join_with_byte 32 words) word → fits words (Fixed word ∷ slot ∷ form) ≡ false
words_begin_other [] word slot form other = refl
words_begin_other (first ∷ []) word slot form other = no (bytes_eq word first)
  where
    no : (same : Bool) → (same && false) ≡ false
    no true = refl
    no false = refl
words_begin_other (first ∷ next ∷ words) word slot form other = no (bytes_eq word first) (bytes_eq-Decides word first).0
  where
    no : (same : Bool) → (same ≡ true → word ≡ first) → (same && fits (next ∷ words) (slot ∷ form)) ≡ false
    no true is = absurd (other (join_with_byte 32 (next ∷ words)) (ap (λ (w : List ℕ). w ++ 32 ∷ join_with_byte 32 (next ∷ words)) (sym (is refl))))
    no false is = refl

pub begins_other : (line word : List ℕ) (slot : Slot) (form : List Slot) → BeginsOther line word → fits (words_of line) (Fixed word ∷ slot ∷ form) ≡ false
begins_other line word slot form other =
    words_begin_other (words_of line) word slot form (λ rest is. other rest (sym (joined line) ∙ is))

not_found : (line : List ℕ) (form : List Slot) → IsOther line form → fits (words_of line) form ≡ false
not_found line (Fixed word ∷ slot ∷ form) other = begins_other line word slot form other
not_found line (Fixed word ∷ []) other = absurd other
not_found line (Between low high ∷ form) other = absurd other
not_found line (AnyText ∷ form) other = absurd other
not_found line (AnyExtra kind ∷ form) other = absurd other
not_found line [] other = absurd other

pub passed_at : (fit : Bool) (form : List Slot) (rest : Option (List Slot)) → fit ≡ false → cond fit (Some form) rest ≡ rest
passed_at true form rest is = absurd cc
passed_at false form rest is = refl

-- where no form begins as the line does, none fits it
pub no_form : (line : List ℕ) (forms : List (List Slot)) → AllByRecursion (IsOther line) forms → form_of (words_of line) forms ≡ None
no_form line [] others = refl
no_form line (form ∷ forms) others =
    passed_at (fits (words_of line) form) form (form_of (words_of line) forms) (not_found line form others.0) ∙ no_form line forms others.1

-- the fault of the only word where one number must stand
pub one_number_fault : (word : List ℕ) (low high : ℕ) (fault : LineFault) → IsSlotFault (Between low high) word fault → IsFaultIn ((Between low high ∷ []) ∷ []) (word ∷ []) fault
one_number_fault word low high (Bad reason) fault = fault_of_form ((Between low high ∷ []) ∷ []) (Between low high ∷ []) (word ∷ []) reason refl (inl fault)
one_number_fault word low high NoMemory fault = tt

-- the fault of the only word where a text must stand
pub one_text_fault : (word : List ℕ) (fault : LineFault) → IsSlotFault AnyText word fault → IsFaultIn ((AnyText ∷ []) ∷ []) (word ∷ []) fault
one_text_fault word (Bad reason) fault = fault_of_form ((AnyText ∷ []) ∷ []) (AnyText ∷ []) (word ∷ []) reason refl (inl fault)
one_text_fault word NoMemory fault = tt

-- a fault of words that are those that fit the only form
pub words_fault : (words others : List (List ℕ)) (form : List Slot) (fault : LineFault) → words ≡ others → form_of others (form ∷ []) ≡ Some form → IsFormFault form others fault → IsFaultIn (form ∷ []) words fault
words_fault words others form fault is fit at = subst (λ (ws : List (List ℕ)). IsFaultIn (form ∷ []) ws fault) (sym is) (one_form_fault others form fault fit at)

-- each form has two places or more
abbrev pub all_long : List (List Slot) → Bool
all_long [] = true
all_long ((one ∷ other ∷ form) ∷ forms) = all_long forms
all_long ([] ∷ forms) = false
all_long ((one ∷ []) ∷ forms) = false

long_misses : (word : List ℕ) (one other : Slot) (form : List Slot) → fits (word ∷ []) (one ∷ other ∷ form) ≡ false
long_misses word (Fixed fixed) other form = miss (bytes_eq fixed word)
  where
    miss : (same : Bool) → (same && false) ≡ false
    miss true = refl
    miss false = refl
long_misses word (Between low high) other form = refl
long_misses word AnyText other form = refl
long_misses word (AnyExtra kind) other form = refl

-- one word fits no form that has more places
pub one_misses : (word : List ℕ) (forms : List (List Slot)) → all_long forms ≡ true → form_of (word ∷ []) forms ≡ None
one_misses word [] long = refl
one_misses word ((one ∷ other ∷ form) ∷ forms) long =
    passed_at (fits (word ∷ []) (one ∷ other ∷ form)) (one ∷ other ∷ form) (form_of (word ∷ []) forms) (long_misses word one other form) ∙ one_misses word forms long
one_misses word ([] ∷ forms) long = absurd cc
one_misses word ((one ∷ []) ∷ forms) long = absurd cc

pub single_misses : (words : List (List ℕ)) (forms : List (List Slot)) → length words ≡ 1 → all_long forms ≡ true → form_of words forms ≡ None
single_misses [] forms one long = absurd (omega arith)
single_misses (word ∷ []) forms one long = one_misses word forms long
single_misses (word ∷ next ∷ words) forms one long = absurd (omega arith)

words_are_other : (words : List (List ℕ)) (word : List ℕ) → join_with_byte 32 words ≢ word → fits words (Fixed word ∷ []) ≡ false
words_are_other [] word other = refl
words_are_other (first ∷ []) word other = no (bytes_eq word first) (bytes_eq-Decides word first).0
  where
    no : (same : Bool) → (same ≡ true → word ≡ first) → (same && true) ≡ false
    no true is = absurd (other (sym (is refl)))
    no false is = refl
words_are_other (first ∷ next ∷ words) word other = miss (bytes_eq word first)
  where
    miss : (same : Bool) → (same && false) ≡ false
    miss true = refl
    miss false = refl

-- a line is not a word alone
pub is_other_word : (line word : List ℕ) → line ≢ word → fits (words_of line) (Fixed word ∷ []) ≡ false
is_other_word line word other = words_are_other (words_of line) word (λ is. other (sym (joined line) ∙ is))
