-- A text is cut in one way into lines that may stand.
use Rattle.std.proofs.Common.{◌≡◌, ◌≢◌, ◌⊎◌, inl, inr, ℕ, ℤ, pos, negsuc, zero, suc, ◌+◌, ◌^◌, ◌<◌, ◌≤◌, Bool, true, false, cond, ◌==◌, ◌&&◌, List, [], ◌∷◌, ◌++◌, length, map, codes, Option, Some, None, refl, sym, ap, subst, ◌∙◌, arith, append_assoc, length-append}
use Rattle.std.specs.Prelude.{nat_le}
use Rattle.std.specs.Fmt.{decimal, signed_decimal}
use Rattle.std.specs.List.{AllByRecursion, flat_map, join_with_byte}
use Rattle.std.proofs.lemmas.Bool.{leb-true}
use Rattle.std.proofs.lemmas.List.{append-nil, append_cancel_left}
use Rattle.client_tags.specs.declared.Kind.{Kind}
use Rattle.client_tags.specs.declared.Kind.TheVariants.{Nigori, Preference, Password}
use Rattle.sync_values.specs.declared.edit.Edit.{Edit as Change}
use Rattle.sync_values.specs.declared.edit.Edit.TheVariants.{SetPreference, NewerPreference, DeletePreference, SetPassword, NewerPassword, DeletePassword, SetNigori}
use Rattle.sync_model.specs.declared.event.Event.{Event as Step}
use Rattle.sync_model.specs.declared.event.Event.TheVariants.{Edit, Cut, Turn, Gather, Post, Ask, Offer, Lose, Crash, Deliver, Answer, SetPass, GivePass}
use Rattle.sync_model.specs.declared.event.Schedule.{Schedule}
use Rattle.sync_model.specs.Text.{text_word, kind_word}
use Rattle.schedule_text.specs.declared.line.Line.{Line}
use Rattle.schedule_text.specs.declared.line.Line.TheVariants.{Clients, Seed, Pass, Event}
use Rattle.schedule_text.specs.Limits.{MAX_CLIENTS, MAX_EVENTS, MAX_SEED}
use Rattle.schedule_text.specs.Lines.{change_words, event_words, kept_word, line_text, line_words, lines_of, schedule_text, with_end}
use Rattle.schedule_text.specs.Places.{HasRoom, IsInPlace, MayStand, after_line, is_built_line}
use Rattle.schedule_text.specs.Spelling.{AreBytes, IsBuilt, IsBuiltSchedule, IsChange, IsDate, IsEvent, IsSchedule, IsUpTo, Spells}
use Rattle.schedule_text.specs.Refusals.{HasNoEnd, words_of}
use Rattle.schedule_text.proofs.Cuts.{cuts_same}
use Rattle.schedule_text.proofs.Escapes.{AreVisible, AllByRecursion-append, word_is_visible}
use Rattle.schedule_text.proofs.Numerals.{decimal_is_visible}
use Rattle.schedule_text.proofs.RightLines.{IsGood, lines_same_at}
use Rattle.schedule_text.proofs.Refusing.{line_regrouped}
use Rattle.schedule_text.proofs.Scheduled.{first_is_schedule, stays_schedule}
use Rattle.schedule_text.proofs.Words.{HasNoSpace, words_again}

-- ---- no byte of a word is a space or a line end

-- each word has bytes past the space alone
abbrev pub AllVisible : List (List ℕ) → Type 0
AllVisible words = AllByRecursion AreVisible words

abbrev pub visible_test : List ℕ → Bool
visible_test [] = true
visible_test (byte ∷ word) = nat_le 33 byte && visible_test word

test_both : (a b : Bool) → (a && b) ≡ true → (a ≡ true) × (b ≡ true)
test_both true b is = (refl, is)
test_both false b is = absurd cc

pub visible_by_test : (word : List ℕ) → visible_test word ≡ true → AreVisible word
visible_by_test [] is = tt
visible_by_test (byte ∷ word) is =
    let both = test_both (nat_le 33 byte) (visible_test word) is in
    (leb-true 33 byte both.0, visible_by_test word both.1)

number_visible : (high n : ℕ) → high < 2 ^ 64 → n ≤ high → AreVisible (decimal n)
number_visible high n small is = decimal_is_visible n (omega (arith, small, is))

date_visible : (date : ℤ) → IsDate date → AreVisible (signed_decimal date)
date_visible (pos date) is = decimal_is_visible date (omega (arith, is))
date_visible (negsuc date) is = absurd is

kind_visible : (kind : Kind) → AreVisible (kind_word kind)
unfolding kind_word
kind_visible Nigori = visible_by_test (codes "nigori") refl
kind_visible Preference = visible_by_test (codes "preference") refl
kind_visible Password = visible_by_test (codes "password") refl

kept_visible : (kept : Bool) → AreVisible (kept_word kept)
unfolding kept_word
kept_visible true = visible_by_test (codes "kept") refl
kept_visible false = visible_by_test (codes "lost") refl

pub change_visible : (edit : Change) → IsChange edit → AllVisible (change_words edit)
unfolding change_words
change_visible (SetPreference p) is = (visible_by_test (codes "set") refl, (visible_by_test (codes "preference") refl, (word_is_visible p.name, (word_is_visible p.value, tt))))
change_visible (NewerPreference p) is = (visible_by_test (codes "newer") refl, (visible_by_test (codes "preference") refl, (word_is_visible p.name, (word_is_visible p.value, (word_is_visible p.extra, tt)))))
change_visible (DeletePreference name) is = (visible_by_test (codes "del") refl, (visible_by_test (codes "preference") refl, (word_is_visible name, tt)))
change_visible (SetPassword p) is = (visible_by_test (codes "set") refl, (visible_by_test (codes "password") refl, (word_is_visible p.origin, (word_is_visible p.user_element, (word_is_visible p.user_value, (word_is_visible p.pass_element, (word_is_visible p.realm, (word_is_visible p.secret, (date_visible p.created is.0.6, tt)))))))))
change_visible (NewerPassword p) is = (visible_by_test (codes "newer") refl, (visible_by_test (codes "password") refl, (word_is_visible p.origin, (word_is_visible p.user_element, (word_is_visible p.user_value, (word_is_visible p.pass_element, (word_is_visible p.realm, (word_is_visible p.secret, (date_visible p.created is.0.6, (word_is_visible p.extra, tt))))))))))
change_visible (DeletePassword o e v p r) is = (visible_by_test (codes "del") refl, (visible_by_test (codes "password") refl, (word_is_visible o, (word_is_visible e, (word_is_visible v, (word_is_visible p, (word_is_visible r, tt)))))))
change_visible (SetNigori keys) is = absurd is

event_visible : (clients passes : ℕ) (event : Step) → clients < 2 ^ 64 → passes < 2 ^ 64 → IsEvent clients passes event → AllVisible (event_words event)
unfolding event_words
event_visible clients passes (Edit client edit) few some is = (visible_by_test (codes "edit") refl, (number_visible clients client few is.0.1, change_visible edit is.1))
event_visible clients passes (Cut client kept edit) few some is = (visible_by_test (codes "cut") refl, (number_visible clients client few is.0.1, (kept_visible kept, change_visible edit is.1)))
event_visible clients passes (Turn client kind) few some is = (visible_by_test (codes "turn") refl, (number_visible clients client few is.1, (kind_visible kind, tt)))
event_visible clients passes (Gather client kind) few some is = (visible_by_test (codes "gather") refl, (number_visible clients client few is.1, (kind_visible kind, tt)))
event_visible clients passes (Post client kind) few some is = (visible_by_test (codes "post") refl, (number_visible clients client few is.1, (kind_visible kind, tt)))
event_visible clients passes (Ask client) few some is = (visible_by_test (codes "ask") refl, (number_visible clients client few is.1, tt))
event_visible clients passes (Offer client) few some is = (visible_by_test (codes "offer") refl, (number_visible clients client few is.1, tt))
event_visible clients passes (Lose client) few some is = (visible_by_test (codes "lose") refl, (number_visible clients client few is.1, tt))
event_visible clients passes (Crash client) few some is = (visible_by_test (codes "crash") refl, (number_visible clients client few is.1, tt))
event_visible clients passes (Deliver event) few some is = (visible_by_test (codes "deliver") refl, (number_visible MAX_EVENTS event (omega arith) is.1, tt))
event_visible clients passes (Answer event) few some is = (visible_by_test (codes "answer") refl, (number_visible MAX_EVENTS event (omega arith) is.1, tt))
event_visible clients passes (SetPass client pass) few some is = (visible_by_test (codes "setpass") refl, (number_visible clients client few is.0.1, (number_visible passes pass some is.1.1, tt)))
event_visible clients passes (GivePass client pass) few some is = (visible_by_test (codes "givepass") refl, (number_visible clients client few is.0.1, (number_visible passes pass some is.1.1, tt)))

line_visible : (before : Option Schedule) (line : Line) → IsGood before → IsInPlace before line → AllVisible (line_words line)
unfolding line_words
line_visible None (Clients clients) good is = (visible_by_test (codes "clients") refl, (number_visible MAX_CLIENTS clients (omega arith) is.1, tt))
line_visible None (Seed seed) good is = absurd is
line_visible None (Pass pass) good is = absurd is
line_visible None (Event event) good is = absurd is
line_visible (Some before) (Clients clients) good is = absurd is
line_visible (Some before) (Seed seed) good is = (visible_by_test (codes "seed") refl, (number_visible MAX_SEED seed (omega arith) is.1.1, tt))
line_visible (Some before) (Pass pass) good is = (visible_by_test (codes "pass") refl, (word_is_visible pass, tt))
line_visible (Some before) (Event event) good is =
    event_visible before.clients (length before.passes) event (omega (arith, good.clients_are.1)) (omega (arith, good.passes_within)) is

no_space_in : (word : List ℕ) → AreVisible word → HasNoSpace word
no_space_in [] is = tt
no_space_in (byte ∷ word) is = (λ e. omega (arith, is.0, e), no_space_in word is.1)

pub no_spaces_in : (words : List (List ℕ)) → AllVisible words → AllByRecursion HasNoSpace words
no_spaces_in [] is = tt
no_spaces_in (word ∷ words) is = (no_space_in word is.0, no_spaces_in words is.1)

no_end_in_word : (word : List ℕ) → AreVisible word → HasNoEnd word
no_end_in_word [] is = tt
no_end_in_word (byte ∷ word) is = (λ e. omega (arith, is.0, e), no_end_in_word word is.1)

pub no_end_in_words : (words : List (List ℕ)) → AllVisible words → HasNoEnd (join_with_byte 32 words)
no_end_in_words [] is = tt
no_end_in_words (word ∷ []) is = no_end_in_word word is.0
no_end_in_words (word ∷ next ∷ words) is =
    AllByRecursion-append (λ byte. byte ≢ 10) word (32 ∷ join_with_byte 32 (next ∷ words)) (no_end_in_word word is.0) (λ e. omega arith, no_end_in_words (next ∷ words) is.1)

some_words : (line : Line) → line_words line ≢ []
unfolding line_words event_words
some_words (Clients clients) e = cc
some_words (Seed seed) e = cc
some_words (Pass pass) e = cc
some_words (Event (Edit client edit)) e = cc
some_words (Event (Cut client kept edit)) e = cc
some_words (Event (Turn client kind)) e = cc
some_words (Event (Gather client kind)) e = cc
some_words (Event (Post client kind)) e = cc
some_words (Event (Ask client)) e = cc
some_words (Event (Offer client)) e = cc
some_words (Event (Lose client)) e = cc
some_words (Event (Crash client)) e = cc
some_words (Event (Deliver event)) e = cc
some_words (Event (Answer event)) e = cc
some_words (Event (SetPass client pass)) e = cc
some_words (Event (GivePass client pass)) e = cc

-- the bytes of a line without its end
abbrev pub line_bytes : Line → List ℕ
line_bytes line = join_with_byte 32 (line_words line)

pub no_end_in_line : (before : Option Schedule) (line : Line) → IsGood before → IsInPlace before line → HasNoEnd (line_bytes line)
no_end_in_line before line good is = no_end_in_words (line_words line) (line_visible before line good is)

pub words_of_line : (before : Option Schedule) (line : Line) → IsGood before → IsInPlace before line → words_of (line_bytes line) ≡ line_words line
words_of_line before line good is = words_again (line_words line) (some_words line) (no_spaces_in (line_words line) (line_visible before line good is))

-- ---- lines one after another

-- each of some lines may stand after those before it
abbrev pub MayStandFrom : Option Schedule → List Line → Type 0
MayStandFrom before [] = Unit {0}
MayStandFrom before (line ∷ lines) = MayStand before line × MayStandFrom (after_line before line) lines

-- what stands before the next line, after some lines
abbrev pub after_lines : Option Schedule → List Line → Option Schedule
after_lines before [] = before
after_lines before (line ∷ lines) = after_lines (after_line before line) lines

-- no line that may stand is at the front
abbrev pub CannotGoOn : Option Schedule → List ℕ → Type 0
CannotGoOn before rest = (line : Line) (more : List ℕ) → rest ≡ line_text line ++ more → MayStand before line → ⊥

-- what stands before, with a schedule that this stage knows
abbrev pub IsSound : Option Schedule → Type 0
IsSound None = Unit {0}
IsSound (Some before) = IsSchedule before × IsBuiltSchedule before

pub good_of : (before : Option Schedule) → IsSound before → IsGood before
good_of None sound = tt
good_of (Some before) sound = sound.0

pub stays_sound : (before : Option Schedule) (line : Line) → IsSound before → MayStand before line → IsSound (after_line before line)
stays_sound None (Clients clients) sound stands = first_is_schedule clients stands.is_in_place
stays_sound None (Seed seed) sound stands = tt
stays_sound None (Pass pass) sound stands = tt
stays_sound None (Event event) sound stands = tt
stays_sound (Some before) (Clients clients) sound stands = absurd stands.is_in_place
stays_sound (Some before) (Seed seed) sound stands = stays_schedule before (record before { seed = seed }) (Seed seed) sound.0 sound.1 stands refl
stays_sound (Some before) (Pass pass) sound stands = stays_schedule before (record before { passes = before.passes ++ pass ∷ [] }) (Pass pass) sound.0 sound.1 stands refl
stays_sound (Some before) (Event event) sound stands = stays_schedule before (record before { events = before.events ++ event ∷ [] }) (Event event) sound.0 sound.1 stands refl

pub text_is : (line : Line) (more : List ℕ) → line_text line ++ more ≡ line_bytes line ++ 10 ∷ more
unfolding line_text
text_is line more = line_regrouped (line_bytes line) more

regrouped : (line : Line) (lines : List Line) (rest : List ℕ) → flat_map line_text (line ∷ lines) ++ rest ≡ line_text line ++ (flat_map line_text lines ++ rest)
regrouped line lines rest = append_assoc (line_text line) (flat_map line_text lines) rest

pub cuttings_same : (before : Option Schedule) (one other : List Line) (rest more : List ℕ) → IsSound before → MayStandFrom before one → MayStandFrom before other → CannotGoOn (after_lines before one) rest → CannotGoOn (after_lines before other) more → flat_map line_text one ++ rest ≡ flat_map line_text other ++ more → (one ≡ other) × (rest ≡ more)
cuttings_same before [] [] rest more sound p q ends stops e = (refl, e)
cuttings_same before [] (line ∷ other) rest more sound p q ends stops e =
    absurd (ends line (flat_map line_text other ++ more) (e ∙ regrouped line other more) q.0)
cuttings_same before (line ∷ one) [] rest more sound p q ends stops e =
    absurd (stops line (flat_map line_text one ++ rest) (sym e ∙ regrouped line one rest) p.0)
cuttings_same before (line ∷ one) (next ∷ other) rest more sound p q ends stops e =
    let good = good_of before sound in
    let after = flat_map line_text one ++ rest in
    let then = flat_map line_text other ++ more in
    let whole : line_bytes line ++ 10 ∷ after ≡ line_bytes next ++ 10 ∷ then = sym (text_is line after) ∙ sym (regrouped line one rest) ∙ e ∙ regrouped next other more ∙ text_is next then in
    let cut = cuts_same 10 (line_bytes line) after (line_bytes next) then (no_end_in_line before line good p.0.is_in_place) (no_end_in_line before next good q.0.is_in_place) whole in
    let words : line_words line ≡ line_words next = sym (words_of_line before line good p.0.is_in_place) ∙ ap words_of cut.0 ∙ words_of_line before next good q.0.is_in_place in
    let same : line ≡ next = lines_same_at before line next good p.0.is_in_place q.0.is_in_place words in
    let stands : MayStandFrom (after_line before line) other = subst (λ (l : Line). MayStandFrom (after_line before l) other) (sym same) q.1 in
    let halts : CannotGoOn (after_lines (after_line before line) other) more = subst (λ (l : Line). CannotGoOn (after_lines (after_line before l) other) more) (sym same) stops in
    let later = cuttings_same (after_line before line) one other rest more (stays_sound before line sound p.0) p.1 stands ends halts cut.1 in
    (ap (λ (l : Line). l ∷ one) same ∙ ap (λ (ls : List Line). next ∷ ls) later.0, later.1)
