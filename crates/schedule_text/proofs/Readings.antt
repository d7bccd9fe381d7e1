-- What is read of the parts of a line.
use Rattle.std.proofs.Common.{◌≡◌, ◌≢◌, ◌⊎◌, inl, inr, ℕ, suc, ◌+◌, ◌^◌, ◌<◌, ◌≤◌, Bool, true, false, cond, List, [], ◌∷◌, ◌++◌, length, codes, Option, Some, None, Result, Ok, Err, MatchResult, IsErrAnd, ◌==◌, ◌&&◌, not, refl, sym, ap, subst, ◌∙◌, arith, append_assoc}
use Rattle.std.proofs.lemmas.Bool.{eqb-false}
use Rattle.client_tags.specs.declared.Kind.{Kind}
use Rattle.client_tags.specs.declared.Kind.TheVariants.{Preference, Password}
use Rattle.std.specs.Fmt.{decimal, signed_decimal}
use Rattle.std.specs.Int.{cast_signed, w64}
use Rattle.std.proofs.lemmas.Int.{to_z_pos}
use Rattle.std.specs.List.{AllByRecursion}
use Rattle.schedule_text.specs.Limits.{MAX_DATE}
use Rattle.sync_model.specs.Text.{text_word}
use Rattle.schedule_text.specs.declared.fault.LineReason.{LineReason}
use Rattle.schedule_text.specs.declared.fault.LineReason.TheVariants.{End, Form, Number, Range, Word, Many, Later}
use Rattle.schedule_text.specs.declared.fault.LineFault.{LineFault}
use Rattle.schedule_text.specs.declared.fault.LineFault.TheVariants.{Bad, NoMemory}
use Rattle.schedule_text.specs.Grammar.{Slot, Fixed, Between, AnyText, AnyExtra, after_slot, after_word, fits, form_of, site_form, login_form, set_forms, newer_forms, delete_forms, change_forms, kept_forms}
use Rattle.schedule_text.specs.Lines.{change_words, kept_word}
use Rattle.sync_values.specs.declared.edit.Edit.{Edit as Change}
use Rattle.sync_values.specs.declared.edit.Edit.TheVariants.{SetPreference, NewerPreference, DeletePreference, SetPassword, NewerPassword, DeletePassword, SetNigori}
use Rattle.schedule_text.specs.Faults.{HasFault, HasFaultyWord, IsDecimal, IsFault, IsExtraWord, IsFaulty, IsRight, IsTextWord}
use Rattle.schedule_text.specs.Spelling.{AreBytes, IsChange, IsDate, IsExtra, IsUpTo}
use Rattle.schedule_text.specs.declared.change.Site.{Site}
use Rattle.schedule_text.specs.Sites.{AreSiteBytes, site_words}
use Rattle.schedule_text.specs.Reading.{BeginsOther, IsFaultIn, IsFormFault, IsReading, IsSlotFault, early_fault}
use Rattle.schedule_text.specs.Refusals.{words_of}
use Rattle.schedule_text.proofs.Escapes.{texts_same}
use Rattle.schedule_text.proofs.Numerals.{decimal_is, decimal_value}
use Rattle.schedule_text.proofs.Words.{HasNoSpace, words_at_space}
use Rattle.schedule_text.proofs.Forms.{all_fixed, tails, fault_in_after_word, fault_after_number, form_after_number, found_after, after_fixed, HasForm, one_number_fault, one_text_fault, no_form_by_length}

-- a number is what a place for numbers asks for
pub number_is_right : (low high n : ℕ) (word : List ℕ) → low ≤ n → n ≤ high → n < 2 ^ 64 → word ≡ decimal n → IsRight (Between low high) word
number_is_right low high n word above below small is =
    subst (IsRight (Between low high)) (sym is) (decimal_is n small, omega (arith, decimal_value n small), omega (arith, decimal_value n small))

-- the word of a text is what a place for texts asks for
pub text_is_right : (text word : List ℕ) → AreBytes text → word ≡ text_word text → IsRight AnyText word
text_is_right text word bytes is = record { text = text; are_bytes = bytes; is_word = is }

pub one_number_read : (line word : List ℕ) (high : ℕ) (r : Result ℕ LineFault) → words_of line ≡ word ∷ [] → MatchResult r (λ number. IsUpTo high number × (word ≡ decimal number)) (λ fault. IsSlotFault (Between 1 high) word fault) → MatchResult r (λ number. IsUpTo high number × (words_of line ≡ decimal number ∷ [])) (λ fault. IsFaultIn ((Between 1 high ∷ []) ∷ []) (words_of line) fault)
one_number_read line word high (Ok number) is read = (read.0, is ∙ ap (λ (w : List ℕ). w ∷ []) read.1)
one_number_read line word high (Err fault) is read = subst (λ (ws : List (List ℕ)). IsFaultIn ((Between 1 high ∷ []) ∷ []) ws fault) (sym is) (one_number_fault word 1 high fault read)

pub one_text_read : (line word : List ℕ) (r : Result (List ℕ) LineFault) → words_of line ≡ word ∷ [] → MatchResult r (λ text. AreBytes text × (word ≡ text_word text)) (λ fault. IsSlotFault AnyText word fault) → MatchResult r (λ text. AreBytes text × (words_of line ≡ text_word text ∷ [])) (λ fault. IsFaultIn ((AnyText ∷ []) ∷ []) (words_of line) fault)
one_text_read line word (Ok text) is read = (read.0, is ∙ ap (λ (w : List ℕ). w ∷ []) read.1)
one_text_read line word (Err fault) is read = subst (λ (ws : List (List ℕ)). IsFaultIn ((AnyText ∷ []) ∷ []) ws fault) (sym is) (one_text_fault word fault read)

-- the faults of words that are others
pub fault_of_same : (forms : List (List Slot)) (words others : List (List ℕ)) (fault : LineFault) → words ≡ others → IsFaultIn forms others fault → IsFaultIn forms words fault
fault_of_same forms words others fault is other = subst (λ (ws : List (List ℕ)). IsFaultIn forms ws fault) (sym is) other

-- what is read after a word and a space
pub reads_after : {A : Type 0} (front : List (List ℕ)) (word : List ℕ) (forms : List (List Slot)) (is_right : A → Type 0) (spelled : A → List (List ℕ)) (line rest : List ℕ) (r : Result A LineFault) → HasNoSpace word → all_fixed forms ≡ true → line ≡ word ++ 32 ∷ rest → IsReading (front ++ word ∷ []) (tails word forms) is_right spelled (words_of rest) r → IsReading front forms is_right spelled (words_of line) r
reads_after front word forms is_right spelled line rest (Ok value) plain fixed is read =
    let words : words_of line ≡ word ∷ words_of rest = ap words_of is ∙ words_at_space word rest plain in
    (read.0, ap (λ (ws : List (List ℕ)). front ++ ws) words ∙ sym (append_assoc front (word ∷ []) (words_of rest)) ∙ read.1)
reads_after front word forms is_right spelled line rest (Err fault) plain fixed is read =
    let words : words_of line ≡ word ∷ words_of rest = ap words_of is ∙ words_at_space word rest plain in
    fault_of_same forms (words_of line) (word ∷ words_of rest) fault words (fault_in_after_word word (words_of rest) forms fault fixed read)

-- a word of a form, without spaces
abbrev pub space_test : List ℕ → Bool
space_test [] = true
space_test (byte ∷ word) = not (byte == 32) && space_test word

space_split : (a b : Bool) → (not a && b) ≡ true → (a ≡ false) × (b ≡ true)
space_split true b e = absurd (let no : false ≡ true = e in cc)
space_split false b e = (refl, e)

pub no_space_by_test : (word : List ℕ) → space_test word ≡ true → HasNoSpace word
no_space_by_test [] e = tt
no_space_by_test (byte ∷ word) e =
    let both = space_split (byte == 32) (space_test word) e in
    (eqb-false byte 32 both.0, no_space_by_test word both.1)

-- what an early return of a fault answers
pub err_match : {A : Type 0} (P : A → Type 0) (Q : LineFault → Type 0) (r : Result A LineFault) (fault : LineFault) → IsErrAnd r (λ f. f ≡ fault) → Q fault → MatchResult r P Q
err_match P Q (Ok value) fault is at = absurd is
err_match P Q (Err f) fault is at = subst Q (sym is) at

-- ---- the words of a login

-- words that more follow are at fault as they are alone
pub fault_before : (form more : List Slot) (words others : List (List ℕ)) (reason : LineReason) → HasFault form words reason → HasFault (form ++ more) (words ++ others) reason
fault_before [] more words others reason is = absurd is
fault_before (slot ∷ form) more [] others reason is = absurd is
fault_before (slot ∷ form) more (word ∷ words) others reason (inl is) = inl is
fault_before (slot ∷ form) more (word ∷ words) others reason (inr is) = inr (is.0, fault_before form more words others reason is.1)

-- each word is what its place asks for
abbrev pub AreRight : List Slot → List (List ℕ) → Type 0
AreRight [] [] = Unit {0}
AreRight [] (word ∷ words) = ⊥
AreRight (slot ∷ form) [] = ⊥
AreRight (slot ∷ form) (word ∷ words) = IsRight slot word × AreRight form words

-- words after right ones are at fault as they are alone
pub fault_behind : (form more : List Slot) (words others : List (List ℕ)) (reason : LineReason) → AreRight form words → HasFault more others reason → HasFault (form ++ more) (words ++ others) reason
fault_behind [] more [] others reason right is = is
fault_behind [] more (word ∷ words) others reason right is = absurd right
fault_behind (slot ∷ form) more [] others reason right is = absurd right
fault_behind (slot ∷ form) more (word ∷ words) others reason right is = inr (right.0, fault_behind form more words others reason right.1 is)

pub form_fault_before : (form more : List Slot) (words others : List (List ℕ)) (fault : LineFault) → IsFormFault form words fault → IsFormFault (form ++ more) (words ++ others) fault
form_fault_before form more words others (Bad reason) is = fault_before form more words others reason is
form_fault_before form more words others NoMemory is = tt

pub form_fault_behind : (form more : List Slot) (words others : List (List ℕ)) (fault : LineFault) → AreRight form words → IsFormFault more others fault → IsFormFault (form ++ more) (words ++ others) fault
form_fault_behind form more words others (Bad reason) right is = fault_behind form more words others reason right is
form_fault_behind form more words others NoMemory right is = tt

pub are_right_on : (form : List Slot) (words : List (List ℕ)) (more : List Slot) (others : List (List ℕ)) → AreRight form words → AreRight more others → AreRight (form ++ more) (words ++ others)
are_right_on [] [] more others right too = too
are_right_on [] (word ∷ words) more others right too = absurd right
are_right_on (slot ∷ form) [] more others right too = absurd right
are_right_on (slot ∷ form) (word ∷ words) more others right too = (right.0, are_right_on form words more others right.1 too)

-- a word after right ones is at fault, whatever follows it
fault_at : (front back : List Slot) (slot : Slot) (words more : List (List ℕ)) (word : List ℕ) (reason : LineReason) → AreRight front words → IsFaulty slot word reason → HasFault (front ++ slot ∷ back) (words ++ word ∷ more) reason
fault_at [] back slot [] more word reason right is = inl is
fault_at [] back slot (next ∷ words) more word reason right is = absurd right
fault_at (first ∷ front) back slot [] more word reason right is = absurd right
fault_at (first ∷ front) back slot (next ∷ words) more word reason right is = inr (right.0, fault_at front back slot words more word reason right.1 is)

pub slot_fault : (front back : List Slot) (slot : Slot) (words more : List (List ℕ)) (word : List ℕ) (fault : LineFault) → AreRight front words → IsSlotFault slot word fault → IsFormFault (front ++ slot ∷ back) (words ++ word ∷ more) fault
slot_fault front back slot words more word (Bad reason) right is = fault_at front back slot words more word reason right is
slot_fault front back slot words more word NoMemory right is = tt

-- ---- words of unknown fields

-- a word that spells no text spells no unknown fields
extra_fault : (kind : Kind) (word : List ℕ) (reason : LineReason) → IsFaulty AnyText word reason → IsFaulty (AnyExtra kind) word reason
extra_fault kind word Word is = λ right. is (record { text = right.extra; are_bytes = right.are_bytes; is_word = right.is_word })
extra_fault kind word End is = absurd is
extra_fault kind word Form is = absurd is
extra_fault kind word Number is = absurd is
extra_fault kind word Range is = absurd is
extra_fault kind word Many is = absurd is
extra_fault kind word Later is = absurd is

pub no_text_no_extra : (kind : Kind) (word : List ℕ) (fault : LineFault) → IsSlotFault AnyText word fault → IsSlotFault (AnyExtra kind) word fault
no_text_no_extra kind word (Bad reason) is = extra_fault kind word reason is
no_text_no_extra kind word NoMemory is = tt

-- the word of a text that is not canonical spells no unknown fields
pub other_extra : (kind : Kind) (word text : List ℕ) → AreBytes text → word ≡ text_word text → (IsExtra kind text → ⊥) → IsExtraWord kind word → ⊥
other_extra kind word text bytes is other right =
    other (subst (IsExtra kind) (texts_same right.extra text right.are_bytes bytes (sym right.is_word ∙ is)) right.is_extra)

text_at : (text : List ℕ) → AreBytes text → IsTextWord (text_word text)
text_at text bytes = record { text = text; are_bytes = bytes; is_word = refl }

pub site_is_right : (site : Site) (words : List (List ℕ)) → AreSiteBytes site → words ≡ site_words site → AreRight site_form words
site_is_right site words bytes is =
    subst (AreRight site_form) (sym is)
    (text_at site.origin bytes.0, (text_at site.user_element bytes.1, (text_at site.user_value bytes.2, (text_at site.pass_element bytes.3, (text_at site.realm bytes.4, tt)))))

pub secret_is_right : (secret : List ℕ) (date : ℕ) (word date_word : List ℕ) → AreBytes secret → date ≤ MAX_DATE → word ≡ text_word secret → date_word ≡ decimal date → AreRight (AnyText ∷ Between 0 MAX_DATE ∷ []) (word ∷ date_word ∷ [])
secret_is_right secret date word date_word bytes within secret_is date_is =
    (text_is_right secret word bytes secret_is, (number_is_right 0 MAX_DATE date date_word (omega arith) within (omega (arith, within)) date_is, tt))

few_words : (words : List (List ℕ)) (form : List Slot) → length words < 5 → 5 ≤ length form → form_of words (form ∷ []) ≡ None
few_words words form few long = no_form_by_length words form (λ e. omega (arith, few, long, e))

pub no_site : (words : List (List ℕ)) → length words < 5 → form_of words (site_form ∷ []) ≡ None
no_site words few = few_words words site_form few (omega arith)

pub no_login : (words : List (List ℕ)) → length words < 5 → form_of words (login_form ∷ []) ≡ None
no_login words few = few_words words login_form few (omega arith)

pub no_newer_login : (words : List (List ℕ)) → length words < 5 → form_of words ((login_form ++ AnyExtra Password ∷ []) ∷ []) ≡ None
no_newer_login words few = few_words words (login_form ++ AnyExtra Password ∷ []) few (omega arith)

pub no_site_of : (words rest : List (List ℕ)) (a b c d : List ℕ) → words ≡ a ∷ b ∷ c ∷ d ∷ rest → length rest ≢ 1 → form_of words (site_form ∷ []) ≡ None
no_site_of words rest a b c d is other = no_form_by_length words site_form (λ e. other (let count : length words ≡ 4 + length rest = ap length is ∙ omega arith in omega (arith, count, e)))

pub no_login_of : (words rest : List (List ℕ)) (a b c d : List ℕ) → words ≡ a ∷ b ∷ c ∷ d ∷ rest → length rest ≢ 3 → form_of words (login_form ∷ []) ≡ None
no_login_of words rest a b c d is other = no_form_by_length words login_form (λ e. other (let count : length words ≡ 4 + length rest = ap length is ∙ omega arith in omega (arith, count, e)))

pub no_newer_login_of : (words rest : List (List ℕ)) (a b c d : List ℕ) → words ≡ a ∷ b ∷ c ∷ d ∷ rest → length rest ≢ 4 → form_of words ((login_form ++ AnyExtra Password ∷ []) ∷ []) ≡ None
no_newer_login_of words rest a b c d is other = no_form_by_length words (login_form ++ AnyExtra Password ∷ []) (λ e. other (let count : length words ≡ 4 + length rest = ap length is ∙ omega arith in omega (arith, count, e)))

-- a date as a signed number
pub date_is : (date : ℕ) → date ≤ MAX_DATE → IsDate (cast_signed w64 date)
date_is date within = subst IsDate (sym (to_z_pos w64 date (omega (arith, within)))) within

date_word : (date : ℕ) → date ≤ MAX_DATE → decimal date ≡ signed_decimal (cast_signed w64 date)
date_word date within = ap signed_decimal (sym (to_z_pos w64 date (omega (arith, within))))

-- the seven words of a login
pub login_words_are : (o e v p r s d : List ℕ) (site : Site) (secret : List ℕ) (date : ℕ) → date ≤ MAX_DATE → o ∷ e ∷ v ∷ p ∷ r ∷ [] ≡ site_words site → s ≡ text_word secret → d ≡ decimal date → o ∷ e ∷ v ∷ p ∷ r ∷ s ∷ d ∷ [] ≡ site_words site ++ text_word secret ∷ signed_decimal (cast_signed w64 date) ∷ []
login_words_are o e v p r s d site secret date within site_is secret_is date_is =
    ap (λ (ws : List (List ℕ)). ws ++ s ∷ d ∷ []) site_is
    ∙ ap (λ (w : List ℕ). site_words site ++ w ∷ d ∷ []) secret_is
    ∙ ap (λ (w : List ℕ). site_words site ++ text_word secret ∷ w ∷ []) (date_is ∙ date_word date within)

-- ---- changes that a client stopped within

pub kept_words : (kept : Bool) (line rest : List ℕ) → line ≡ kept_word kept ++ 32 ∷ rest → words_of line ≡ kept_word kept ∷ words_of rest
unfolding kept_word
kept_words true line rest is = ap words_of is ∙ words_at_space (codes "kept") rest (no_space_by_test (codes "kept") refl)
kept_words false line rest is = ap words_of is ∙ words_at_space (codes "lost") rest (no_space_by_test (codes "lost") refl)

pub kept_fault : (kept : Bool) (line rest : List ℕ) (fault : LineFault) → line ≡ kept_word kept ++ 32 ∷ rest → IsFaultIn change_forms (words_of rest) fault → IsFaultIn kept_forms (words_of line) fault
unfolding kept_word kept_forms change_forms set_forms newer_forms delete_forms
kept_fault true line rest fault is at =
    fault_of_same kept_forms (words_of line) (codes "kept" ∷ words_of rest) fault (kept_words true line rest is) (fault_in_after_word (codes "kept") (words_of rest) kept_forms fault refl at)
kept_fault false line rest fault is at =
    fault_of_same kept_forms (words_of line) (codes "lost" ∷ words_of rest) fault (kept_words false line rest is) (fault_in_after_word (codes "lost") (words_of rest) kept_forms fault refl at)

-- ---- changes after the number of a client

change_form : (edit : Change) → IsChange edit → HasForm change_forms (change_words edit)
unfolding change_forms set_forms newer_forms delete_forms change_words
change_form (SetPreference preference) is = record { form = Fixed (codes "set") ∷ Fixed (codes "preference") ∷ AnyText ∷ AnyText ∷ []; is_form = refl }
change_form (NewerPreference preference) is = record { form = Fixed (codes "newer") ∷ Fixed (codes "preference") ∷ AnyText ∷ AnyText ∷ AnyExtra Preference ∷ []; is_form = refl }
change_form (DeletePreference name) is = record { form = Fixed (codes "del") ∷ Fixed (codes "preference") ∷ AnyText ∷ []; is_form = refl }
change_form (SetPassword password) is = record { form = Fixed (codes "set") ∷ Fixed (codes "password") ∷ login_form; is_form = refl }
change_form (NewerPassword password) is = record { form = Fixed (codes "newer") ∷ Fixed (codes "password") ∷ (login_form ++ AnyExtra Password ∷ []); is_form = refl }
change_form (DeletePassword origin user_element user_value pass_element realm) is = record { form = Fixed (codes "del") ∷ Fixed (codes "password") ∷ site_form; is_form = refl }
change_form (SetNigori keys) is = absurd is

pub change_has_form : (edit : Change) (words : List (List ℕ)) → IsChange edit → words ≡ change_words edit → HasForm change_forms words
change_has_form edit words right is = subst (HasForm change_forms) (sym is) (change_form edit right)

kept_form : (kept : Bool) (words : List (List ℕ)) → HasForm change_forms words → HasForm kept_forms (kept_word kept ∷ words)
unfolding kept_word kept_forms change_forms set_forms newer_forms delete_forms
kept_form true words has = record { form = Fixed (codes "kept") ∷ has.form; is_form = found_after (codes "kept") words kept_forms refl ∙ ap (after_fixed (codes "kept")) has.is_form }
kept_form false words has = record { form = Fixed (codes "lost") ∷ has.form; is_form = found_after (codes "lost") words kept_forms refl ∙ ap (after_fixed (codes "lost")) has.is_form }

pub kept_has_form : (kept : Bool) (edit : Change) (words : List (List ℕ)) → IsChange edit → words ≡ kept_word kept ∷ change_words edit → HasForm kept_forms words
kept_has_form kept edit words right is = subst (HasForm kept_forms) (sym is) (kept_form kept (change_words edit) (change_form edit right))

-- a fault that comes before that of the number in front
pub early_is : {A : Type 0} (clients : ℕ) (client : List ℕ) (words : List (List ℕ)) (forms : List (List Slot)) (is_right : A → Type 0) (spelled : A → List (List ℕ)) (r : Result A LineFault) (fault : LineFault) → early_fault r ≡ Some fault → IsReading [] forms is_right spelled words r → IsFaultIn (after_slot (Between 1 clients) forms) (client ∷ words) fault
early_is clients client words forms is_right spelled (Ok value) fault is read = absurd cc
early_is clients client words forms is_right spelled (Err NoMemory) fault is read = subst (IsFaultIn (after_slot (Between 1 clients) forms) (client ∷ words)) (let same : NoMemory ≡ fault = cc in same) tt
early_is clients client words forms is_right spelled (Err (Bad Form)) fault is read =
    subst (IsFaultIn (after_slot (Between 1 clients) forms) (client ∷ words)) (let same : Bad Form ≡ fault = cc in same) (form_after_number 1 clients client words forms read)
early_is clients client words forms is_right spelled (Err (Bad End)) fault is read = absurd cc
early_is clients client words forms is_right spelled (Err (Bad Number)) fault is read = absurd cc
early_is clients client words forms is_right spelled (Err (Bad Range)) fault is read = absurd cc
early_is clients client words forms is_right spelled (Err (Bad Word)) fault is read = absurd cc
early_is clients client words forms is_right spelled (Err (Bad Many)) fault is read = absurd cc
early_is clients client words forms is_right spelled (Err (Bad Later)) fault is read = absurd cc

-- where no fault comes before that of the number in front, some form fits
pub late_has_form : {A : Type 0} (words : List (List ℕ)) (forms : List (List Slot)) (is_right : A → Type 0) (spelled : A → List (List ℕ)) (r : Result A LineFault) → early_fault r ≡ None → ((value : A) → is_right value → words ≡ spelled value → HasForm forms words) → IsReading [] forms is_right spelled words r → HasForm forms words
late_has_form words forms is_right spelled (Ok value) none has read = has value read.0 read.1
late_has_form words forms is_right spelled (Err NoMemory) none has read = absurd cc
late_has_form words forms is_right spelled (Err (Bad Form)) none has read = absurd cc
late_has_form words forms is_right spelled (Err (Bad Number)) none has read = record { form = read.form; is_form = read.is_form }
late_has_form words forms is_right spelled (Err (Bad Range)) none has read = record { form = read.form; is_form = read.is_form }
late_has_form words forms is_right spelled (Err (Bad Word)) none has read = record { form = read.form; is_form = read.is_form }
late_has_form words forms is_right spelled (Err (Bad End)) none has read = absurd read
late_has_form words forms is_right spelled (Err (Bad Many)) none has read = absurd read
late_has_form words forms is_right spelled (Err (Bad Later)) none has read = absurd read

pub fault_in_after_number : (clients : ℕ) (client : List ℕ) (n : ℕ) (words : List (List ℕ)) (forms : List (List Slot)) (fault : LineFault) → 1 ≤ n → n ≤ clients → clients < 2 ^ 32 → client ≡ decimal n → IsFaultIn forms words fault → IsFaultIn (after_slot (Between 1 clients) forms) (client ∷ words) fault
fault_in_after_number clients client n words forms (Bad reason) above below small is fault =
    fault_after_number 1 clients client words forms reason (number_is_right 1 clients n client above below (omega arith) is) fault
fault_in_after_number clients client n words forms NoMemory above below small is fault = tt

-- what a reading that is known says
pub read_fault : {A : Type 0} (front : List (List ℕ)) (forms : List (List Slot)) (is_right : A → Type 0) (spelled : A → List (List ℕ)) (words : List (List ℕ)) (r : Result A LineFault) (fault : LineFault) → r ≡ Err fault → IsReading front forms is_right spelled words r → IsFaultIn forms words fault
read_fault front forms is_right spelled words r fault is read = subst (λ r. IsReading front forms is_right spelled words r) is read

pub read_value : {A : Type 0} (front : List (List ℕ)) (forms : List (List Slot)) (is_right : A → Type 0) (spelled : A → List (List ℕ)) (words : List (List ℕ)) (r : Result A LineFault) (value : A) → r ≡ Ok value → IsReading front forms is_right spelled words r → is_right value × (front ++ words ≡ spelled value)
read_value front forms is_right spelled words r value is read = subst (λ r. IsReading front forms is_right spelled words r) is read
