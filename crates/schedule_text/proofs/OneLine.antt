-- A line's words are right, and tell the line.
use Rattle.std.proofs.Common.{◌≡◌, ◌≢◌, ◌⊎◌, inl, inr, ℕ, ℤ, pos, negsuc, ◌+◌, ◌*◌, ◌^◌, ◌<◌, ◌≤◌, Bool, true, false, cond, ◌==◌, List, [], ◌∷◌, ◌++◌, length, codes, get_or, take, drop, Option, Some, None, refl, sym, ap, subst, ◌∙◌, arith}
use Rattle.std.specs.Prelude.{IsTrue}
use Rattle.std.specs.Fmt.{decimal, signed_decimal}
use Rattle.std.specs.List.{AllByRecursion}
use Rattle.std.specs.Str.Parse.{digits_value}
use Rattle.std.proofs.lemmas.Fmt.{decimal_injective}
use Rattle.client_tags.specs.declared.Kind.{Kind}
use Rattle.client_tags.specs.declared.Kind.TheVariants.{Nigori, Preference, Password}
use Rattle.sync_values.specs.declared.edit.Edit.{Edit as Change}
use Rattle.sync_values.specs.declared.edit.Edit.TheVariants.{SetPreference, NewerPreference, DeletePreference, SetPassword, NewerPassword, DeletePassword, SetNigori}
use Rattle.sync_values.specs.declared.value.Preference.{Preference as Pref}
use Rattle.sync_values.specs.declared.value.Password.{Password as Login}
use Rattle.sync_model.specs.declared.event.Event.{Event as Step}
use Rattle.sync_model.specs.declared.event.Event.TheVariants.{Edit, Cut, Turn, Gather, Post, Ask, Offer, Lose, Crash, Deliver, Answer, SetPass, GivePass}
use Rattle.sync_model.specs.declared.event.Schedule.{Schedule}
use Rattle.sync_model.specs.Text.{text_word, kind_word}
use Rattle.schedule_text.specs.declared.fault.LineReason.{LineReason}
use Rattle.schedule_text.specs.declared.fault.LineReason.TheVariants.{End, Form, Number, Range, Word, Many, Later}
use Rattle.schedule_text.specs.declared.line.Line.{Line}
use Rattle.schedule_text.specs.declared.line.Line.TheVariants.{Clients, Seed, Pass, Event}
use Rattle.schedule_text.specs.Faults.{HasFault, IsFault, IsFaultAfter, IsFaulty, IsRight, IsTextWord}
use Rattle.schedule_text.specs.Grammar.{Slot, Fixed, Between, AnyText, change_forms, clients_form, delete_forms, event_forms, fits, form_of, forms_after, if_may, kept_forms, kind_forms, login_form, may_pass, may_seed, pass_form, seed_form, set_forms, site_form}
use Rattle.schedule_text.specs.Limits.{MAX_CLIENTS, MAX_DATE, MAX_EVENTS, MAX_SEED}
use Rattle.schedule_text.specs.Lines.{change_words, event_words, kept_word, line_words, login_words}
use Rattle.schedule_text.specs.Places.{HasRoom, IsInPlace, MayStand, is_built_line}
use Rattle.schedule_text.specs.Spelling.{AreBytes, IsChange, IsDate, IsEvent, IsLogin, IsSchedule, IsUpTo}
use Rattle.schedule_text.proofs.Escapes.{texts_same}
use Rattle.schedule_text.proofs.Forms.{fault_cases}
use Rattle.schedule_text.proofs.Numerals.{decimal_is, decimal_value}
use Rattle.schedule_text.proofs.Readings.{AreRight, number_is_right}

-- ---- a line tells one event at most

-- a number for the first word of an event, by its first two bytes
abbrev pub letters : Step → ℕ
letters (Edit client edit) = 25956
letters (Cut client kept edit) = 25461
letters (Turn client kind) = 29813
letters (Gather client kind) = 26465
letters (Post client kind) = 28783
letters (Ask client) = 24947
letters (Offer client) = 28518
letters (Lose client) = 27759
letters (Crash client) = 25458
letters (Deliver event) = 25701
letters (Answer event) = 24942
letters (SetPass client pass) = 29541
letters (GivePass client pass) = 26473

abbrev pub letters_of : List (List ℕ) → ℕ
letters_of words = 256 * get_or (get_or words 0 []) 0 0 + get_or (get_or words 0 []) 1 0

letters_are : (event : Step) → letters_of (event_words event) ≡ letters event
unfolding event_words
letters_are (Edit client edit) = refl
letters_are (Cut client kept edit) = refl
letters_are (Turn client kind) = refl
letters_are (Gather client kind) = refl
letters_are (Post client kind) = refl
letters_are (Ask client) = refl
letters_are (Offer client) = refl
letters_are (Lose client) = refl
letters_are (Crash client) = refl
letters_are (Deliver event) = refl
letters_are (Answer event) = refl
letters_are (SetPass client pass) = refl
letters_are (GivePass client pass) = refl

letters_same : (one other : Step) → event_words one ≡ event_words other → letters one ≡ letters other
letters_same one other e = sym (letters_are one) ∙ ap letters_of e ∙ letters_are other

kinds_same : (one other : Kind) → kind_word one ≡ kind_word other → one ≡ other
unfolding kind_word
kinds_same Nigori Nigori e = refl
kinds_same Preference Preference e = refl
kinds_same Password Password e = refl
kinds_same Nigori Preference e = absurd cc
kinds_same Nigori Password e = absurd cc
kinds_same Preference Nigori e = absurd cc
kinds_same Preference Password e = absurd cc
kinds_same Password Nigori e = absurd cc
kinds_same Password Preference e = absurd cc

kept_same : (one other : Bool) → kept_word one ≡ kept_word other → one ≡ other
unfolding kept_word
kept_same true true e = refl
kept_same false false e = refl
kept_same true false e = absurd (let no : 107 ≡ 108 = ap (λ (w : List ℕ). get_or w 0 0) e in omega (arith, no))
kept_same false true e = absurd (let no : 108 ≡ 107 = ap (λ (w : List ℕ). get_or w 0 0) e in omega (arith, no))

dates_same : (one other : ℤ) → IsDate one → IsDate other → signed_decimal one ≡ signed_decimal other → one ≡ other
dates_same (pos one) (pos other) p q e = ap pos (decimal_injective one other (omega (arith, p)) (omega (arith, q)) e)
dates_same (negsuc one) other p q e = absurd p
dates_same (pos one) (negsuc other) p q e = absurd q

words_apart : (i : ℕ) (one other : List (List ℕ)) → one ≡ other → get_or one i [] ≡ get_or other i []
words_apart i one other e = ap (λ (ws : List (List ℕ)). get_or ws i []) e

-- `s`, `n` or `d`, and the second letter of the type's name
abbrev pub change_letters_of : List (List ℕ) → ℕ
change_letters_of words = 256 * get_or (get_or words 0 []) 0 0 + get_or (get_or words 1 []) 1 0

abbrev pub change_code : Change → ℕ
change_code (SetPreference preference) = 29554
change_code (NewerPreference preference) = 28274
change_code (SetPassword password) = 29537
change_code (NewerPassword password) = 28257
change_code (DeletePreference name) = 25714
change_code (DeletePassword origin user_element user_value pass_element realm) = 25697
change_code (SetNigori keys) = 0

change_code_is : (edit : Change) → IsChange edit → change_letters_of (change_words edit) ≡ change_code edit
unfolding change_words
change_code_is (SetPreference preference) is = refl
change_code_is (NewerPreference preference) is = refl
change_code_is (SetPassword password) is = refl
change_code_is (NewerPassword password) is = refl
change_code_is (DeletePreference name) is = refl
change_code_is (DeletePassword origin user_element user_value pass_element realm) is = refl
change_code_is (SetNigori keys) is = absurd is

change_letters_same : (one other : Change) → IsChange one → IsChange other → change_words one ≡ change_words other → change_code one ≡ change_code other
change_letters_same one other fits right e = sym (change_code_is one fits) ∙ ap change_letters_of e ∙ change_code_is other right

-- logins with the same words and the same unknown fields
logins_same : (p q : Login) → IsLogin p → IsLogin q → p.extra ≡ q.extra → login_words p ≡ login_words q → p ≡ q
logins_same p q fits right extra e =
    let origin : p.origin ≡ q.origin = texts_same p.origin q.origin fits.0 right.0 (words_apart 0 _ _ e) in
    let user_element : p.user_element ≡ q.user_element = texts_same p.user_element q.user_element fits.1 right.1 (words_apart 1 _ _ e) in
    let user_value : p.user_value ≡ q.user_value = texts_same p.user_value q.user_value fits.2 right.2 (words_apart 2 _ _ e) in
    let pass_element : p.pass_element ≡ q.pass_element = texts_same p.pass_element q.pass_element fits.3 right.3 (words_apart 3 _ _ e) in
    let realm : p.realm ≡ q.realm = texts_same p.realm q.realm fits.4 right.4 (words_apart 4 _ _ e) in
    let secret : p.secret ≡ q.secret = texts_same p.secret q.secret fits.5 right.5 (words_apart 5 _ _ e) in
    let created : p.created ≡ q.created = dates_same p.created q.created fits.6 right.6 (words_apart 6 _ _ e) in
    λ i. record { origin = origin i; user_element = user_element i; user_value = user_value i; pass_element = pass_element i; realm = realm i; secret = secret i; created = created i; extra = extra i }

pub changes_same : (one other : Change) → IsChange one → IsChange other → change_words one ≡ change_words other → one ≡ other
unfolding change_words
changes_same (SetPreference p) (SetPreference q) fits right e =
    let name : p.name ≡ q.name = texts_same p.name q.name fits.0 right.0 (words_apart 2 _ _ e) in
    let value : p.value ≡ q.value = texts_same p.value q.value fits.1 right.1 (words_apart 3 _ _ e) in
    let extra : p.extra ≡ q.extra = fits.2 ∙ sym right.2 in
    λ i. SetPreference (record { name = name i; value = value i; extra = extra i })
changes_same (NewerPreference p) (NewerPreference q) fits right e =
    let name : p.name ≡ q.name = texts_same p.name q.name fits.0 right.0 (words_apart 2 _ _ e) in
    let value : p.value ≡ q.value = texts_same p.value q.value fits.1 right.1 (words_apart 3 _ _ e) in
    let extra : p.extra ≡ q.extra = texts_same p.extra q.extra fits.2 right.2 (words_apart 4 _ _ e) in
    λ i. NewerPreference (record { name = name i; value = value i; extra = extra i })
changes_same (DeletePreference p) (DeletePreference q) fits right e = ap DeletePreference (texts_same p q fits right (words_apart 2 _ _ e))
changes_same (SetPassword p) (SetPassword q) fits right e = ap SetPassword (logins_same p q fits.0 right.0 (fits.1 ∙ sym right.1) (ap (drop 2) e))
changes_same (NewerPassword p) (NewerPassword q) fits right e =
    ap NewerPassword (logins_same p q fits.0 right.0 (texts_same p.extra q.extra fits.1 right.1 (words_apart 9 _ _ e)) (ap (λ (ws : List (List ℕ)). take 7 (drop 2 ws)) e))
changes_same (DeletePassword o1 e1 v1 p1 r1) (DeletePassword o2 e2 v2 p2 r2) fits right e =
    let origin : o1 ≡ o2 = texts_same o1 o2 fits.0 right.0 (words_apart 2 _ _ e) in
    let user_element : e1 ≡ e2 = texts_same e1 e2 fits.1 right.1 (words_apart 3 _ _ e) in
    let user_value : v1 ≡ v2 = texts_same v1 v2 fits.2 right.2 (words_apart 4 _ _ e) in
    let pass_element : p1 ≡ p2 = texts_same p1 p2 fits.3 right.3 (words_apart 5 _ _ e) in
    let realm : r1 ≡ r2 = texts_same r1 r2 fits.4 right.4 (words_apart 6 _ _ e) in
    λ i. DeletePassword (origin i) (user_element i) (user_value i) (pass_element i) (realm i)
changes_same (SetNigori keys) other fits right e = absurd fits
changes_same one (SetNigori keys) fits right e = absurd right
changes_same one other fits right e = absurd (let no = change_letters_same one other fits right e in omega (arith, no))

numbers_same : (high one other : ℕ) → high < 2 ^ 32 → IsUpTo high one → IsUpTo high other → decimal one ≡ decimal other → one ≡ other
numbers_same high one other small p q e = decimal_injective one other (omega (arith, small, p.1)) (omega (arith, small, q.1)) e

pub events_same : (clients passes : ℕ) (one other : Step) → clients < 2 ^ 32 → passes < 2 ^ 32 → IsEvent clients passes one → IsEvent clients passes other → event_words one ≡ event_words other → one ≡ other
unfolding event_words
events_same clients passes (Edit c1 e1) (Edit c2 e2) few some p q e =
    let client : c1 ≡ c2 = numbers_same clients c1 c2 few p.0 q.0 (words_apart 1 _ _ e) in
    let edit : e1 ≡ e2 = changes_same e1 e2 p.1 q.1 (ap (drop 2) e) in
    λ i. Edit (client i) (edit i)
events_same clients passes (Cut c1 k1 e1) (Cut c2 k2 e2) few some p q e =
    let client : c1 ≡ c2 = numbers_same clients c1 c2 few p.0 q.0 (words_apart 1 _ _ e) in
    let kept : k1 ≡ k2 = kept_same k1 k2 (words_apart 2 _ _ e) in
    let edit : e1 ≡ e2 = changes_same e1 e2 p.1 q.1 (ap (drop 3) e) in
    λ i. Cut (client i) (kept i) (edit i)
events_same clients passes (Turn c1 k1) (Turn c2 k2) few some p q e =
    let client : c1 ≡ c2 = numbers_same clients c1 c2 few p q (words_apart 1 _ _ e) in
    let kind : k1 ≡ k2 = kinds_same k1 k2 (words_apart 2 _ _ e) in
    λ i. Turn (client i) (kind i)
events_same clients passes (Gather c1 k1) (Gather c2 k2) few some p q e =
    let client : c1 ≡ c2 = numbers_same clients c1 c2 few p q (words_apart 1 _ _ e) in
    let kind : k1 ≡ k2 = kinds_same k1 k2 (words_apart 2 _ _ e) in
    λ i. Gather (client i) (kind i)
events_same clients passes (Post c1 k1) (Post c2 k2) few some p q e =
    let client : c1 ≡ c2 = numbers_same clients c1 c2 few p q (words_apart 1 _ _ e) in
    let kind : k1 ≡ k2 = kinds_same k1 k2 (words_apart 2 _ _ e) in
    λ i. Post (client i) (kind i)
events_same clients passes (Ask c1) (Ask c2) few some p q e = ap Ask (numbers_same clients c1 c2 few p q (words_apart 1 _ _ e))
events_same clients passes (Offer c1) (Offer c2) few some p q e = ap Offer (numbers_same clients c1 c2 few p q (words_apart 1 _ _ e))
events_same clients passes (Lose c1) (Lose c2) few some p q e = ap Lose (numbers_same clients c1 c2 few p q (words_apart 1 _ _ e))
events_same clients passes (Crash c1) (Crash c2) few some p q e = ap Crash (numbers_same clients c1 c2 few p q (words_apart 1 _ _ e))
events_same clients passes (Deliver n1) (Deliver n2) few some p q e = ap Deliver (numbers_same MAX_EVENTS n1 n2 (omega arith) p q (words_apart 1 _ _ e))
events_same clients passes (Answer n1) (Answer n2) few some p q e = ap Answer (numbers_same MAX_EVENTS n1 n2 (omega arith) p q (words_apart 1 _ _ e))
events_same clients passes (SetPass c1 p1) (SetPass c2 p2) few some p q e =
    let client : c1 ≡ c2 = numbers_same clients c1 c2 few p.0 q.0 (words_apart 1 _ _ e) in
    let pass : p1 ≡ p2 = numbers_same passes p1 p2 some p.1 q.1 (words_apart 2 _ _ e) in
    λ i. SetPass (client i) (pass i)
events_same clients passes (GivePass c1 p1) (GivePass c2 p2) few some p q e =
    let client : c1 ≡ c2 = numbers_same clients c1 c2 few p.0 q.0 (words_apart 1 _ _ e) in
    let pass : p1 ≡ p2 = numbers_same passes p1 p2 some p.1 q.1 (words_apart 2 _ _ e) in
    λ i. GivePass (client i) (pass i)
events_same clients passes one other few some p q e = absurd (let no = letters_same one other e in omega (arith, no))
