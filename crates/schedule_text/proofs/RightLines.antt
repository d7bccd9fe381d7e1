-- The words of a line in its place are right.
use Rattle.std.proofs.Common.{◌≡◌, ◌≢◌, ◌⊎◌, inl, inr, ℕ, ℤ, pos, negsuc, ◌+◌, ◌*◌, ◌^◌, ◌<◌, ◌≤◌, Bool, true, false, cond, ◌==◌, List, [], ◌∷◌, ◌++◌, length, codes, get_or, drop, Option, Some, None, refl, sym, ap, subst, ◌∙◌, arith}
use Rattle.std.specs.Prelude.{IsTrue}
use Rattle.std.specs.Fmt.{decimal, signed_decimal}
use Rattle.std.specs.List.{AllByRecursion}
use Rattle.std.specs.Str.Parse.{digits_value}
use Rattle.std.proofs.lemmas.Fmt.{decimal_injective}
use Rattle.client_tags.specs.declared.Kind.{Kind}
use Rattle.client_tags.specs.declared.Kind.TheVariants.{Nigori, Preference, Password}
use Rattle.sync_values.specs.declared.edit.Edit.{Edit as Change}
use Rattle.sync_values.specs.declared.edit.Edit.TheVariants.{SetPreference, NewerPreference, DeletePreference, SetPassword, NewerPassword, DeletePassword, SetNigori}
use Rattle.sync_values.specs.declared.value.Preference.{Preference as Pref}
use Rattle.sync_values.specs.declared.value.Password.{Password as Login}
use Rattle.sync_model.specs.declared.event.Event.{Event as Step}
use Rattle.sync_model.specs.declared.event.Event.TheVariants.{Edit, Cut, Turn, Gather, Post, Ask, Offer, Lose, Crash, Deliver, Answer, SetPass, GivePass}
use Rattle.sync_model.specs.declared.event.Schedule.{Schedule}
use Rattle.sync_model.specs.Text.{text_word, kind_word}
use Rattle.schedule_text.specs.declared.fault.LineReason.{LineReason}
use Rattle.schedule_text.specs.declared.fault.LineReason.TheVariants.{End, Form, Number, Range, Word, Many, Later}
use Rattle.schedule_text.specs.declared.line.Line.{Line}
use Rattle.schedule_text.specs.declared.line.Line.TheVariants.{Clients, Seed, Pass, Event}
use Rattle.schedule_text.specs.Faults.{HasFault, HasNoRoom, IsNotBuilt, IsFault, IsFaultAfter, IsExtraWord, IsFaulty, IsRight, IsTextWord}
use Rattle.schedule_text.specs.Grammar.{Slot, Fixed, Between, AnyText, AnyExtra, change_forms, clients_form, delete_forms, event_forms, fits, form_of, forms_after, if_may, kept_forms, kind_forms, newer_forms, after_slot, client_forms, number_forms, pass_forms, login_form, may_pass, may_seed, pass_form, seed_form, set_forms, site_form}
use Rattle.schedule_text.specs.Limits.{MAX_CLIENTS, MAX_DATE, MAX_EVENTS, MAX_SEED}
use Rattle.schedule_text.specs.Lines.{change_words, event_words, kept_word, line_words, login_words}
use Rattle.schedule_text.specs.Places.{HasRoom, IsInPlace, MayStand, is_built_line}
use Rattle.schedule_text.specs.Spelling.{AreBytes, IsChange, IsDate, IsEvent, IsExtra, IsLogin, IsSchedule, IsUpTo}
use Rattle.schedule_text.proofs.OneLine.{events_same}
use Rattle.schedule_text.proofs.Escapes.{texts_same}
use Rattle.schedule_text.proofs.Forms.{after_fixed, all_fixed, fault_cases, found_after, found_number, passed_at, tails}
use Rattle.std.specs.Option.{option_map}
use Rattle.schedule_text.specs.declared.verb.Verb.{Verb}
use Rattle.schedule_text.specs.declared.verb.Verb.TheVariants.{Edit as EditVerb, Cut as CutVerb, Turn as TurnVerb, Gather as GatherVerb, Post as PostVerb, Ask as AskVerb, Offer as OfferVerb, Lose as LoseVerb, Crash as CrashVerb, Deliver as DeliverVerb, Answer as AnswerVerb, SetPass as SetPassVerb, GivePass as GivePassVerb}
use Rattle.schedule_text.specs.Reading.{forms_after_verb, verb_word}
use Rattle.schedule_text.proofs.Verbs.{events_are_fixed, verb_tails}
use Rattle.schedule_text.proofs.Numerals.{decimal_is, decimal_value}
use Rattle.schedule_text.proofs.Readings.{AreRight, are_right_on, number_is_right}

-- some words fit a form, and each is what its place asks for
pub record HasRight (forms : List (List Slot)) (words : List (List ℕ)) : Type 0 where
  pub form : List Slot
  pub is_form : form_of words forms ≡ Some form
  pub are_right : AreRight form words

right_after_word : (word : List ℕ) (words : List (List ℕ)) (forms : List (List Slot)) → all_fixed forms ≡ true → HasRight (tails word forms) words → HasRight forms (word ∷ words)
right_after_word word words forms fixed right =
    record { form = Fixed word ∷ right.form; is_form = found_after word words forms fixed ∙ ap (after_fixed word) right.is_form; are_right = (refl, right.are_right) }

right_after_number : (low high : ℕ) (word : List ℕ) (words : List (List ℕ)) (forms : List (List Slot)) → IsRight (Between low high) word → HasRight forms words → HasRight (after_slot (Between low high) forms) (word ∷ words)
right_after_number low high word words forms is right =
    record { form = Between low high ∷ right.form; is_form = found_number low high word words forms ∙ ap (option_map (λ form. Between low high ∷ form)) right.is_form; are_right = (is, right.are_right) }

pub text_right : (text : List ℕ) → AreBytes text → IsTextWord (text_word text)
text_right text bytes = record { text = text; are_bytes = bytes; is_word = refl }

up_to_right : (high n : ℕ) → high < 2 ^ 32 → IsUpTo high n → IsRight (Between 1 high) (decimal n)
up_to_right high n small is = number_is_right 1 high n (decimal n) is.0 is.1 (omega (arith, small, is.1)) refl

date_right : (date : ℤ) → IsDate date → IsRight (Between 0 MAX_DATE) (signed_decimal date)
date_right (pos date) is = number_is_right 0 MAX_DATE date (decimal date) (omega arith) is (omega (arith, is)) refl
date_right (negsuc date) is = absurd is

extra_right : (kind : Kind) (extra : List ℕ) → AreBytes extra → IsExtra kind extra → IsExtraWord kind (text_word extra)
extra_right kind extra bytes is = record { extra = extra; are_bytes = bytes; is_extra = is; is_word = refl }

login_right : (p : Login) → IsLogin p → AreRight login_form (login_words p)
login_right p is = (text_right p.origin is.0, (text_right p.user_element is.1, (text_right p.user_value is.2, (text_right p.pass_element is.3, (text_right p.realm is.4, (text_right p.secret is.5, (date_right p.created is.6, tt)))))))

pub change_right : (edit : Change) → IsChange edit → HasRight change_forms (change_words edit)
unfolding change_forms set_forms newer_forms delete_forms change_words
change_right (SetPreference p) is =
    record { form = Fixed (codes "set") ∷ Fixed (codes "preference") ∷ AnyText ∷ AnyText ∷ []; is_form = refl; are_right = (refl, (refl, (text_right p.name is.0, (text_right p.value is.1, tt)))) }
change_right (NewerPreference p) is =
    record {
      form = Fixed (codes "newer") ∷ Fixed (codes "preference") ∷ AnyText ∷ AnyText ∷ AnyExtra Preference ∷ [];
      is_form = refl;
      are_right = (refl, (refl, (text_right p.name is.0, (text_right p.value is.1, (extra_right Preference p.extra is.2 is.3, tt)))));
    }
change_right (DeletePreference name) is =
    record { form = Fixed (codes "del") ∷ Fixed (codes "preference") ∷ AnyText ∷ []; is_form = refl; are_right = (refl, (refl, (text_right name is, tt))) }
change_right (SetPassword p) is =
    record { form = Fixed (codes "set") ∷ Fixed (codes "password") ∷ login_form; is_form = refl; are_right = (refl, (refl, login_right p is.0)) }
change_right (NewerPassword p) is =
    record {
      form = Fixed (codes "newer") ∷ Fixed (codes "password") ∷ (login_form ++ AnyExtra Password ∷ []);
      is_form = refl;
      are_right = (refl, (refl, are_right_on login_form (login_words p) (AnyExtra Password ∷ []) (text_word p.extra ∷ []) (login_right p is.0) (extra_right Password p.extra is.1 is.2, tt)));
    }
change_right (DeletePassword origin user_element user_value pass_element realm) is =
    record {
      form = Fixed (codes "del") ∷ Fixed (codes "password") ∷ site_form;
      is_form = refl;
      are_right = (refl, (refl, (text_right origin is.0, (text_right user_element is.1, (text_right user_value is.2, (text_right pass_element is.3, (text_right realm is.4, tt)))))));
    }
change_right (SetNigori keys) is = absurd is

kept_right : (kept : Bool) (words : List (List ℕ)) → HasRight change_forms words → HasRight kept_forms (kept_word kept ∷ words)
unfolding kept_word kept_forms change_forms set_forms newer_forms delete_forms
kept_right true words right = right_after_word (codes "kept") words kept_forms refl right
kept_right false words right = right_after_word (codes "lost") words kept_forms refl right

kind_right : (kind : Kind) → HasRight kind_forms (kind_word kind ∷ [])
unfolding kind_forms kind_word
kind_right Nigori = record { form = Fixed (codes "nigori") ∷ []; is_form = refl; are_right = (refl, tt) }
kind_right Preference = record { form = Fixed (codes "preference") ∷ []; is_form = refl; are_right = (refl, tt) }
kind_right Password = record { form = Fixed (codes "password") ∷ []; is_form = refl; are_right = (refl, tt) }

verb_right : (clients passes : ℕ) (verb : Verb) (words : List (List ℕ)) → HasRight (forms_after_verb clients passes verb) words → HasRight (event_forms clients passes) (verb_word verb ∷ words)
verb_right clients passes verb words right =
    right_after_word (verb_word verb) words (event_forms clients passes) (events_are_fixed clients passes)
    (subst (λ (forms : List (List Slot)). HasRight forms words) (verb_tails clients passes verb) right)

one_right : (high n : ℕ) → high < 2 ^ 32 → IsUpTo high n → HasRight ((Between 1 high ∷ []) ∷ []) (decimal n ∷ [])
one_right high n small is = record { form = Between 1 high ∷ []; is_form = refl; are_right = (up_to_right high n small is, tt) }

two_right : (high other n m : ℕ) → high < 2 ^ 32 → other < 2 ^ 32 → IsUpTo high n → IsUpTo other m → HasRight ((Between 1 high ∷ Between 1 other ∷ []) ∷ []) (decimal n ∷ decimal m ∷ [])
two_right high other n m small few is too = record { form = Between 1 high ∷ Between 1 other ∷ []; is_form = refl; are_right = (up_to_right high n small is, (up_to_right other m few too, tt)) }

event_right : (clients passes : ℕ) (event : Step) → clients < 2 ^ 32 → passes < 2 ^ 32 → IsEvent clients passes event → HasRight (event_forms clients passes) (event_words event)
unfolding event_words
event_right clients passes (Edit client edit) few some is = verb_right clients passes EditVerb (decimal client ∷ change_words edit) (right_after_number 1 clients (decimal client) (change_words edit) change_forms (up_to_right clients client few is.0) (change_right edit is.1))
event_right clients passes (Cut client kept edit) few some is = verb_right clients passes CutVerb (decimal client ∷ kept_word kept ∷ change_words edit) (right_after_number 1 clients (decimal client) (kept_word kept ∷ change_words edit) kept_forms (up_to_right clients client few is.0) (kept_right kept (change_words edit) (change_right edit is.1)))
event_right clients passes (Turn client kind) few some is = verb_right clients passes TurnVerb (decimal client ∷ kind_word kind ∷ []) (right_after_number 1 clients (decimal client) (kind_word kind ∷ []) kind_forms (up_to_right clients client few is) (kind_right kind))
event_right clients passes (Gather client kind) few some is = verb_right clients passes GatherVerb (decimal client ∷ kind_word kind ∷ []) (right_after_number 1 clients (decimal client) (kind_word kind ∷ []) kind_forms (up_to_right clients client few is) (kind_right kind))
event_right clients passes (Post client kind) few some is = verb_right clients passes PostVerb (decimal client ∷ kind_word kind ∷ []) (right_after_number 1 clients (decimal client) (kind_word kind ∷ []) kind_forms (up_to_right clients client few is) (kind_right kind))
event_right clients passes (Ask client) few some is = verb_right clients passes AskVerb (decimal client ∷ []) (one_right clients client few is)
event_right clients passes (Offer client) few some is = verb_right clients passes OfferVerb (decimal client ∷ []) (one_right clients client few is)
event_right clients passes (Lose client) few some is = verb_right clients passes LoseVerb (decimal client ∷ []) (one_right clients client few is)
event_right clients passes (Crash client) few some is = verb_right clients passes CrashVerb (decimal client ∷ []) (one_right clients client few is)
event_right clients passes (Deliver event) few some is = verb_right clients passes DeliverVerb (decimal event ∷ []) (one_right MAX_EVENTS event (omega arith) is)
event_right clients passes (Answer event) few some is = verb_right clients passes AnswerVerb (decimal event ∷ []) (one_right MAX_EVENTS event (omega arith) is)
event_right clients passes (SetPass client pass) few some is = verb_right clients passes SetPassVerb (decimal client ∷ decimal pass ∷ []) (two_right clients passes client pass few some is.0 is.1)
event_right clients passes (GivePass client pass) few some is = verb_right clients passes GivePassVerb (decimal client ∷ decimal pass ∷ []) (two_right clients passes client pass few some is.0 is.1)

-- no event has the words of a seed or of a passphrase
event_is_no_seed : (event : Step) → fits (event_words event) seed_form ≡ false
unfolding event_words seed_form
event_is_no_seed (Edit client edit) = refl
event_is_no_seed (Cut client kept edit) = refl
event_is_no_seed (Turn client kind) = refl
event_is_no_seed (Gather client kind) = refl
event_is_no_seed (Post client kind) = refl
event_is_no_seed (Ask client) = refl
event_is_no_seed (Offer client) = refl
event_is_no_seed (Lose client) = refl
event_is_no_seed (Crash client) = refl
event_is_no_seed (Deliver event) = refl
event_is_no_seed (Answer event) = refl
event_is_no_seed (SetPass client pass) = refl
event_is_no_seed (GivePass client pass) = refl

event_is_no_pass : (event : Step) → fits (event_words event) pass_form ≡ false
unfolding event_words pass_form
event_is_no_pass (Edit client edit) = refl
event_is_no_pass (Cut client kept edit) = refl
event_is_no_pass (Turn client kind) = refl
event_is_no_pass (Gather client kind) = refl
event_is_no_pass (Post client kind) = refl
event_is_no_pass (Ask client) = refl
event_is_no_pass (Offer client) = refl
event_is_no_pass (Lose client) = refl
event_is_no_pass (Crash client) = refl
event_is_no_pass (Deliver event) = refl
event_is_no_pass (Answer event) = refl
event_is_no_pass (SetPass client pass) = refl
event_is_no_pass (GivePass client pass) = refl

-- what stands before is a schedule, if it is more than nothing
abbrev pub IsGood : Option Schedule → Type 0
IsGood None = Unit {0}
IsGood (Some before) = IsSchedule before

seed_right : (may pass : Bool) (forms : List (List Slot)) (seed : ℕ) → may ≡ true → IsUpTo MAX_SEED seed → HasRight (if_may may seed_form ++ if_may pass pass_form ++ forms) (codes "seed" ∷ decimal seed ∷ [])
unfolding seed_form pass_form
seed_right true true forms seed may is = record { form = seed_form; is_form = refl; are_right = (refl, (number_is_right 1 MAX_SEED seed (decimal seed) is.0 is.1 (omega (arith, is.1)) refl, tt)) }
seed_right true false forms seed may is = record { form = seed_form; is_form = refl; are_right = (refl, (number_is_right 1 MAX_SEED seed (decimal seed) is.0 is.1 (omega (arith, is.1)) refl, tt)) }
seed_right false pass forms seed may is = absurd cc

pass_right : (seed may : Bool) (forms : List (List Slot)) (pass : List ℕ) → may ≡ true → AreBytes pass → HasRight (if_may seed seed_form ++ if_may may pass_form ++ forms) (codes "pass" ∷ text_word pass ∷ [])
unfolding seed_form pass_form
pass_right true true forms pass may is = record { form = pass_form; is_form = refl; are_right = (refl, (text_right pass is, tt)) }
pass_right false true forms pass may is = record { form = pass_form; is_form = refl; are_right = (refl, (text_right pass is, tt)) }
pass_right seed false forms pass may is = absurd cc

event_there : (seed pass : Bool) (forms : List (List Slot)) (event : Step) → HasRight forms (event_words event) → HasRight (if_may seed seed_form ++ if_may pass pass_form ++ forms) (event_words event)
event_there true true forms event right =
    record {
      form = right.form;
      is_form = passed_at (fits (event_words event) seed_form) seed_form (form_of (event_words event) (pass_form ∷ forms)) (event_is_no_seed event) ∙ passed_at (fits (event_words event) pass_form) pass_form (form_of (event_words event) forms) (event_is_no_pass event) ∙ right.is_form;
      are_right = right.are_right;
    }
event_there true false forms event right =
    record { form = right.form; is_form = passed_at (fits (event_words event) seed_form) seed_form (form_of (event_words event) forms) (event_is_no_seed event) ∙ right.is_form; are_right = right.are_right }
event_there false true forms event right =
    record { form = right.form; is_form = passed_at (fits (event_words event) pass_form) pass_form (form_of (event_words event) forms) (event_is_no_pass event) ∙ right.is_form; are_right = right.are_right }
event_there false false forms event right = right

-- the words of a line in its place are right there
pub line_is_right : (before : Option Schedule) (line : Line) → IsGood before → IsInPlace before line → HasRight (forms_after before) (line_words line)
unfolding forms_after line_words clients_form
line_is_right None (Clients clients) good is = record { form = clients_form; is_form = refl; are_right = (refl, (up_to_right MAX_CLIENTS clients (omega arith) is, tt)) }
line_is_right None (Seed seed) good is = absurd is
line_is_right None (Pass pass) good is = absurd is
line_is_right None (Event event) good is = absurd is
line_is_right (Some before) (Clients clients) good is = absurd is
line_is_right (Some before) (Seed seed) good is = seed_right (may_seed before) (may_pass before) (event_forms before.clients (length before.passes)) seed is.0 is.1
line_is_right (Some before) (Pass pass) good is = pass_right (may_seed before) (may_pass before) (event_forms before.clients (length before.passes)) pass is.0 is.1
line_is_right (Some before) (Event event) good is =
    event_there (may_seed before) (may_pass before) (event_forms before.clients (length before.passes)) event
    (event_right before.clients (length before.passes) event (omega (arith, good.clients_are.1)) (omega (arith, good.passes_within)) is)

-- ---- a line tells itself, and no fault

-- lines in one place with the same words are the same
pub lines_same_at : (before : Option Schedule) (one other : Line) → IsGood before → IsInPlace before one → IsInPlace before other → line_words one ≡ line_words other → one ≡ other
unfolding line_words seed_form pass_form
lines_same_at None (Clients one) (Clients other) good p q e = ap Clients (decimal_injective one other (omega (arith, p.1)) (omega (arith, q.1)) (ap (λ (ws : List (List ℕ)). get_or ws 1 []) e))
lines_same_at (Some before) (Seed one) (Seed other) good p q e = ap Seed (decimal_injective one other (omega (arith, p.1.1)) (omega (arith, q.1.1)) (ap (λ (ws : List (List ℕ)). get_or ws 1 []) e))
lines_same_at (Some before) (Pass one) (Pass other) good p q e = ap Pass (texts_same one other p.1 q.1 (ap (λ (ws : List (List ℕ)). get_or ws 1 []) e))
lines_same_at (Some before) (Event one) (Event other) good p q e =
    ap Event (events_same before.clients (length before.passes) one other (omega (arith, good.clients_are.1)) (omega (arith, good.passes_within)) p q e)
lines_same_at (Some before) (Seed one) (Pass other) good p q e = absurd (let no : true ≡ false = ap (λ (ws : List (List ℕ)). fits ws seed_form) e in cc)
lines_same_at (Some before) (Pass one) (Seed other) good p q e = absurd (let no : true ≡ false = ap (λ (ws : List (List ℕ)). fits ws pass_form) e in cc)
lines_same_at (Some before) (Seed one) (Event other) good p q e = absurd (let no : true ≡ false = ap (λ (ws : List (List ℕ)). fits ws seed_form) e ∙ event_is_no_seed other in cc)
lines_same_at (Some before) (Event one) (Seed other) good p q e = absurd (let no : true ≡ false = ap (λ (ws : List (List ℕ)). fits ws seed_form) (sym e) ∙ event_is_no_seed one in cc)
lines_same_at (Some before) (Pass one) (Event other) good p q e = absurd (let no : true ≡ false = ap (λ (ws : List (List ℕ)). fits ws pass_form) e ∙ event_is_no_pass other in cc)
lines_same_at (Some before) (Event one) (Pass other) good p q e = absurd (let no : true ≡ false = ap (λ (ws : List (List ℕ)). fits ws pass_form) (sym e) ∙ event_is_no_pass one in cc)
lines_same_at None (Seed one) other good p q e = absurd p
lines_same_at None (Pass one) other good p q e = absurd p
lines_same_at None (Event one) other good p q e = absurd p
lines_same_at None (Clients one) (Seed other) good p q e = absurd q
lines_same_at None (Clients one) (Pass other) good p q e = absurd q
lines_same_at None (Clients one) (Event other) good p q e = absurd q
lines_same_at (Some before) (Clients one) other good p q e = absurd p
lines_same_at (Some before) (Seed one) (Clients other) good p q e = absurd q
lines_same_at (Some before) (Pass one) (Clients other) good p q e = absurd q
lines_same_at (Some before) (Event one) (Clients other) good p q e = absurd q

slot_right : (slot : Slot) (word : List ℕ) (reason : LineReason) → IsRight slot word → IsFaulty slot word reason → ⊥
slot_right (Between low high) word Number right faulty = faulty right.0
slot_right (Between low high) word Range right (faulty, inl below) = omega (arith, below, right.1)
slot_right (Between low high) word Range right (faulty, inr above) = omega (arith, above, right.2)
slot_right AnyText word Word right faulty = faulty right
slot_right (AnyExtra kind) word Word right faulty = faulty right
slot_right slot word reason right faulty = faulty

words_right : (form : List Slot) (words : List (List ℕ)) (reason : LineReason) → AreRight form words → HasFault form words reason → ⊥
words_right [] words reason right fault = fault
words_right (slot ∷ form) [] reason right fault = fault
words_right (slot ∷ form) (word ∷ words) reason right (inl faulty) = slot_right slot word reason right.0 faulty
words_right (slot ∷ form) (word ∷ words) reason right (inr fault) = words_right form words reason right.1 fault.1

none_or_some : (form : List Slot) → None ≡ Some form → ⊥
none_or_some form e = cc

some_same : {one other : List Slot} → Some one ≡ Some other → one ≡ other
some_same e = cc

slot_reasons : (slot : Slot) (word : List ℕ) (one other : LineReason) → IsFaulty slot word one → IsFaulty slot word other → one ≡ other
slot_reasons (Between low high) word Number Number p q = refl
slot_reasons (Between low high) word Range Range p q = refl
slot_reasons (Between low high) word Number Range p q = absurd (p q.0)
slot_reasons (Between low high) word Range Number p q = absurd (q p.0)
slot_reasons AnyText word Word Word p q = refl
slot_reasons (AnyExtra kind) word Word Word p q = refl
slot_reasons (Between low high) word Number other p q = absurd q
slot_reasons (Between low high) word Range other p q = absurd q
slot_reasons AnyText word Word other p q = absurd q
slot_reasons (AnyExtra kind) word Word other p q = absurd q
slot_reasons slot word one other p q = absurd p

word_reasons : (form : List Slot) (words : List (List ℕ)) (one other : LineReason) → HasFault form words one → HasFault form words other → one ≡ other
word_reasons [] words one other p q = absurd p
word_reasons (slot ∷ form) [] one other p q = absurd p
word_reasons (slot ∷ form) (word ∷ words) one other (inl p) (inl q) = slot_reasons slot word one other p q
word_reasons (slot ∷ form) (word ∷ words) one other (inr p) (inr q) = word_reasons form words one other p.1 q.1
word_reasons (slot ∷ form) (word ∷ words) one other (inl p) (inr q) = absurd (slot_right slot word one q.0 p)
word_reasons (slot ∷ form) (word ∷ words) one other (inr p) (inl q) = absurd (slot_right slot word other p.0 q)

-- words are at fault for one reason
pub one_reason : (forms : List (List Slot)) (words : List (List ℕ)) (one other : LineReason) → IsFault forms words one → IsFault forms words other → one ≡ other
one_reason forms words one other p q =
    elim (fault_cases forms words one p) [
      | inl none ↦ elim (fault_cases forms words other q) [
        | inl too ↦ none.1 ∙ sym too.1
        | inr found ↦ absurd (none_or_some found.form (sym none.0 ∙ found.is_form))
      ]
      | inr found ↦ elim (fault_cases forms words other q) [
        | inl none ↦ absurd (none_or_some found.form (sym none.0 ∙ found.is_form))
        | inr too ↦ word_reasons found.form words one other found.has_fault (subst (λ (f : List Slot). HasFault f words other) (some_same (sym too.is_form ∙ found.is_form)) too.has_fault)
      ]
    ]

-- right words are not at fault
pub right_has_no_fault : (forms : List (List Slot)) (words : List (List ℕ)) (reason : LineReason) → HasRight forms words → IsFault forms words reason → ⊥
right_has_no_fault forms words reason right fault =
    elim (fault_cases forms words reason fault) [
      | inl none ↦ none_or_some right.form (sym none.0 ∙ right.is_form)
      | inr found ↦ words_right right.form words reason right.are_right (subst (λ (f : List Slot). HasFault f words reason) (some_same (sym found.is_form ∙ right.is_form)) found.has_fault)
    ]

-- ---- a line that may stand is not at fault

fault_or_line : (before : Option Schedule) (line : Line) (reason : LineReason) → IsGood before → MayStand before line → IsFaultAfter before (line_words line) reason → ⊥
fault_or_line before line Many good stands fault =
    fault.has_no_room (subst (HasRoom before) (lines_same_at before line fault.line good stands.is_in_place fault.is_in_place fault.are_words) stands.has_room)
fault_or_line before line Later good stands fault =
    let same = lines_same_at before line fault.line good stands.is_in_place fault.is_in_place fault.are_words in
    let no : true ≡ false = sym stands.is_built ∙ ap is_built_line same ∙ fault.is_not_built in
    absurd cc
fault_or_line before line End good stands fault = fault
fault_or_line before line Form good stands fault = right_has_no_fault (forms_after before) (line_words line) Form (line_is_right before line good stands.is_in_place) fault
fault_or_line before line Number good stands fault = right_has_no_fault (forms_after before) (line_words line) Number (line_is_right before line good stands.is_in_place) fault
fault_or_line before line Range good stands fault = right_has_no_fault (forms_after before) (line_words line) Range (line_is_right before line good stands.is_in_place) fault
fault_or_line before line Word good stands fault = right_has_no_fault (forms_after before) (line_words line) Word (line_is_right before line good stands.is_in_place) fault

pub standing_has_no_fault : (before : Option Schedule) (line : Line) (words : List (List ℕ)) (reason : LineReason) → IsGood before → MayStand before line → words ≡ line_words line → IsFaultAfter before words reason → ⊥
standing_has_no_fault before line words reason good stands is fault =
    fault_or_line before line reason good stands (subst (λ (ws : List (List ℕ)). IsFaultAfter before ws reason) is fault)

-- ---- a line is at fault for one reason

-- the words fit a form and are right, or they are at fault in the form or in a word
word_fault : LineReason → Bool
word_fault Many = false
word_fault Later = false
word_fault End = true
word_fault Form = true
word_fault Number = true
word_fault Range = true
word_fault Word = true

as_fault : (before : Option Schedule) (words : List (List ℕ)) (reason : LineReason) → word_fault reason ≡ true → IsFaultAfter before words reason → IsFault (forms_after before) words reason
unfolding word_fault
as_fault before words End is fault = fault
as_fault before words Form is fault = fault
as_fault before words Number is fault = fault
as_fault before words Range is fault = fault
as_fault before words Word is fault = fault
as_fault before words Many is fault = absurd cc
as_fault before words Later is fault = absurd cc

words_are_right : (before : Option Schedule) (words : List (List ℕ)) (reason : LineReason) → IsGood before → word_fault reason ≡ false → IsFaultAfter before words reason → HasRight (forms_after before) words
unfolding word_fault
words_are_right before words Many good is fault = subst (HasRight (forms_after before)) (sym fault.are_words) (line_is_right before fault.line good fault.is_in_place)
words_are_right before words Later good is fault = subst (HasRight (forms_after before)) (sym fault.are_words) (line_is_right before fault.line good fault.is_in_place)
words_are_right before words End good is fault = absurd cc
words_are_right before words Form good is fault = absurd cc
words_are_right before words Number good is fault = absurd cc
words_are_right before words Range good is fault = absurd cc
words_are_right before words Word good is fault = absurd cc

room_or_none : (before : Option Schedule) (words : List (List ℕ)) → IsGood before → HasNoRoom before words → IsNotBuilt before words → ⊥
room_or_none before words good full later =
    let same = lines_same_at before later.line full.line good later.is_in_place full.is_in_place (sym later.are_words ∙ full.are_words) in
    full.has_no_room (subst (HasRoom before) same later.has_room)

late_reasons : (before : Option Schedule) (words : List (List ℕ)) (one other : LineReason) → IsGood before → word_fault one ≡ false → word_fault other ≡ false → IsFaultAfter before words one → IsFaultAfter before words other → one ≡ other
unfolding word_fault
late_reasons before words Many Many good a b p q = refl
late_reasons before words Later Later good a b p q = refl
late_reasons before words Many Later good a b p q = absurd (room_or_none before words good p q)
late_reasons before words Later Many good a b p q = absurd (room_or_none before words good q p)
late_reasons before words Many other good a b p q = absurd cc
late_reasons before words Later other good a b p q = absurd cc
late_reasons before words one other good a b p q = absurd cc

reasons_at : (early late : Bool) (before : Option Schedule) (words : List (List ℕ)) (one other : LineReason) → word_fault one ≡ early → word_fault other ≡ late → IsGood before → IsFaultAfter before words one → IsFaultAfter before words other → one ≡ other
reasons_at true true before words one other a b good p q = one_reason (forms_after before) words one other (as_fault before words one a p) (as_fault before words other b q)
reasons_at true false before words one other a b good p q = absurd (right_has_no_fault (forms_after before) words one (words_are_right before words other good b q) (as_fault before words one a p))
reasons_at false true before words one other a b good p q = absurd (right_has_no_fault (forms_after before) words other (words_are_right before words one good a p) (as_fault before words other b q))
reasons_at false false before words one other a b good p q = late_reasons before words one other good a b p q

pub reasons_same : (before : Option Schedule) (words : List (List ℕ)) (one other : LineReason) → IsGood before → IsFaultAfter before words one → IsFaultAfter before words other → one ≡ other
reasons_same before words one other good p q = reasons_at (word_fault one) (word_fault other) before words one other refl refl good p q
