-- The text of a schedule, as it is written part by part.
use Rattle.std.proofs.Common.{◌≡◌, ◌≢◌, ℕ, Bool, true, false, cond, ◌==◌, List, [], ◌∷◌, ◌++◌, codes, map, Result, Ok, Err, refl, sym, ap, ◌∙◌, append_assoc}
use Rattle.std.specs.Fmt.{decimal, signed_decimal}
use Rattle.std.specs.List.{flat_map, join_with_byte}
use Rattle.std.proofs.lemmas.Bool.{ne_eqb}
use Rattle.std.proofs.lemmas.Grind.{flat_map-append}
use Rattle.std.proofs.lemmas.List.{append-nil}
use Rattle.client_tags.specs.declared.Kind.{Kind}
use Rattle.sync_values.specs.declared.edit.Edit.{Edit as Change}
use Rattle.sync_values.specs.declared.edit.Edit.TheVariants.{SetPassword, NewerPassword}
use Rattle.sync_values.specs.declared.value.Password.{Password as Login}
use Rattle.sync_model.specs.declared.event.Event.{Event as Step}
use Rattle.sync_model.specs.declared.event.Event.TheVariants.{Edit, Cut, Turn, Gather, Post, Ask, Offer, Lose, Crash, Deliver, Answer, SetPass, GivePass}
use Rattle.sync_model.specs.declared.event.Schedule.{Schedule}
use Rattle.sync_model.specs.Text.{text_word, kind_word}
use Rattle.schedule_text.specs.declared.line.Line.{Line}
use Rattle.schedule_text.specs.declared.line.Line.TheVariants.{Clients, Seed, Pass, Event}
use Rattle.schedule_text.specs.Lines.{change_words, event_words, kept_word, line_text, line_words, lines_of, login_words, schedule_text}
use Rattle.schedule_text.specs.Printing.{event_text, pass_text, seed_text, spaced}

-- the words of a login, in two parts
pub login_printed : (old site new : List ℕ) (p : Login) → site ≡ old ++ spaced (text_word p.origin ∷ text_word p.user_element ∷ text_word p.user_value ∷ text_word p.pass_element ∷ text_word p.realm ∷ []) → new ≡ site ++ spaced (text_word p.secret ∷ signed_decimal p.created ∷ []) → new ≡ old ++ spaced (login_words p)
unfolding spaced
login_printed old site new p site_is new_is =
    let five : List (List ℕ) = text_word p.origin ∷ text_word p.user_element ∷ text_word p.user_value ∷ text_word p.pass_element ∷ text_word p.realm ∷ [] in
    let two : List (List ℕ) = text_word p.secret ∷ signed_decimal p.created ∷ [] in
    let f : List ℕ → List ℕ = λ word. 32 ∷ word in
    new_is
    ∙ ap (λ (t : List ℕ). t ++ flat_map f two) site_is
    ∙ append_assoc old (flat_map f five) (flat_map f two)
    ∙ ap (λ (t : List ℕ). old ++ t) (sym (flat_map-append f five two))

-- the words of a login that is set, in two parts
pub set_printed : (old head new : List ℕ) (p : Login) → head ≡ old ++ codes " set password" → new ≡ head ++ spaced (login_words p) → new ≡ old ++ spaced (change_words (SetPassword p))
unfolding spaced change_words
set_printed old head new p head_is new_is =
    new_is ∙ ap (λ (t : List ℕ). t ++ spaced (login_words p)) head_is ∙ append_assoc old (codes " set password") (spaced (login_words p))

-- the words of a newer login, in three parts
pub newer_printed : (old head login new : List ℕ) (p : Login) → head ≡ old ++ codes " newer password" → login ≡ head ++ spaced (login_words p) → new ≡ login ++ 32 ∷ text_word p.extra → new ≡ old ++ spaced (change_words (NewerPassword p))
unfolding spaced change_words
newer_printed old head login new p head_is login_is new_is =
    let f : List ℕ → List ℕ = λ word. 32 ∷ word in
    let extra : List (List ℕ) = text_word p.extra ∷ [] in
    new_is
    ∙ ap (λ (t : List ℕ). login ++ t) (sym (append-nil (32 ∷ text_word p.extra)))
    ∙ ap (λ (t : List ℕ). t ++ flat_map f extra) (login_is ∙ ap (λ (t : List ℕ). t ++ flat_map f (login_words p)) head_is)
    ∙ append_assoc (old ++ codes " newer password") (flat_map f (login_words p)) (flat_map f extra)
    ∙ append_assoc old (codes " newer password") (flat_map f (login_words p) ++ flat_map f extra)
    ∙ ap (λ (t : List ℕ). old ++ (codes " newer password" ++ t)) (sym (flat_map-append f (login_words p) extra))

-- words after a first one
pub join_spaced : (word : List ℕ) (words : List (List ℕ)) → join_with_byte 32 (word ∷ words) ≡ word ++ spaced words
unfolding spaced
join_spaced word [] = sym (append-nil word)
join_spaced word (next ∷ words) = ap (λ (t : List ℕ). word ++ 32 ∷ t) (join_spaced next words)

-- a line of words after a first one
line_spaced : (line : Line) (word : List ℕ) (words : List (List ℕ)) → line_words line ≡ word ∷ words → line_text line ≡ word ++ (spaced words ++ 10 ∷ [])
unfolding line_text
line_spaced line word words is =
    ap (λ (ws : List (List ℕ)). join_with_byte 32 ws ++ 10 ∷ []) is ∙ ap (λ (t : List ℕ). t ++ 10 ∷ []) (join_spaced word words) ∙ append_assoc word (spaced words) (10 ∷ [])

six : (a b c d e f : List ℕ) → a ++ b ++ c ++ d ++ e ++ f ≡ a ++ (b ++ (c ++ (d ++ (e ++ f))))
six a b c d e f =
    append_assoc (a ++ b ++ c ++ d) e f ∙ append_assoc (a ++ b ++ c) d (e ++ f) ∙ append_assoc (a ++ b) c (d ++ (e ++ f)) ∙ append_assoc a b (c ++ (d ++ (e ++ f)))

edit_line : (client : ℕ) (edit : Change) → codes "edit " ++ (decimal client ++ (spaced (change_words edit) ++ 10 ∷ [])) ≡ line_text (Event (Edit client edit))
unfolding line_words event_words spaced
edit_line client edit =
    ap (λ (t : List ℕ). codes "edit " ++ t) (sym (append_assoc (decimal client) (spaced (change_words edit)) (10 ∷ [])))
    ∙ sym (line_spaced (Event (Edit client edit)) (codes "edit") (decimal client ∷ change_words edit) refl)

pub edit_printed : (old new : List ℕ) (client : ℕ) (edit : Change) → new ≡ old ++ codes "edit " ++ decimal client ++ [] ++ spaced (change_words edit) ++ 10 ∷ [] → new ≡ old ++ event_text (Edit client edit)
unfolding event_text
edit_printed old new client edit is =
    is ∙ six old (codes "edit ") (decimal client) [] (spaced (change_words edit)) (10 ∷ []) ∙ ap (λ (t : List ℕ). old ++ t) (edit_line client edit)

cut_line : (client : ℕ) (kept : Bool) (edit : Change) → codes "cut " ++ (decimal client ++ (32 ∷ kept_word kept ++ (spaced (change_words edit) ++ 10 ∷ []))) ≡ line_text (Event (Cut client kept edit))
unfolding line_words event_words spaced
cut_line client kept edit =
    ap (λ (t : List ℕ). codes "cut " ++ (decimal client ++ t)) (sym (append_assoc (32 ∷ kept_word kept) (spaced (change_words edit)) (10 ∷ [])))
    ∙ ap (λ (t : List ℕ). codes "cut " ++ t) (sym (append_assoc (decimal client) (32 ∷ kept_word kept ++ spaced (change_words edit)) (10 ∷ [])))
    ∙ sym (line_spaced (Event (Cut client kept edit)) (codes "cut") (decimal client ∷ kept_word kept ∷ change_words edit) refl)

pub cut_printed : (old new : List ℕ) (client : ℕ) (kept : Bool) (edit : Change) → new ≡ old ++ codes "cut " ++ decimal client ++ 32 ∷ kept_word kept ++ spaced (change_words edit) ++ 10 ∷ [] → new ≡ old ++ event_text (Cut client kept edit)
unfolding event_text
cut_printed old new client kept edit is =
    is ∙ six old (codes "cut ") (decimal client) (32 ∷ kept_word kept) (spaced (change_words edit)) (10 ∷ []) ∙ ap (λ (t : List ℕ). old ++ t) (cut_line client kept edit)

number_line : (old head : List ℕ) (number : ℕ) (line : Line) (word : List ℕ) → line_words line ≡ word ∷ decimal number ∷ [] → word ++ 32 ∷ [] ≡ head → old ++ head ++ decimal number ++ 10 ∷ [] ≡ old ++ line_text line
unfolding spaced
number_line old head number line word is head_is =
    append_assoc (old ++ head) (decimal number) (10 ∷ [])
    ∙ append_assoc old head (decimal number ++ 10 ∷ [])
    ∙ ap (λ (t : List ℕ). old ++ (t ++ (decimal number ++ 10 ∷ []))) (sym head_is)
    ∙ ap (λ (t : List ℕ). old ++ t) (append_assoc word (32 ∷ []) (decimal number ++ 10 ∷ []))
    ∙ ap (λ (t : List ℕ). old ++ (word ++ 32 ∷ (t ++ 10 ∷ []))) (sym (append-nil (decimal number)))
    ∙ ap (λ (t : List ℕ). old ++ t) (sym (line_spaced line word (decimal number ∷ []) is))

seed_at : (none : Bool) (old new text : List ℕ) → none ≡ false → new ≡ old ++ text → new ≡ old ++ cond none [] text
seed_at true old new text is same = absurd cc
seed_at false old new text is same = same

pub seed_printed : (old new : List ℕ) (seed : ℕ) → seed ≢ 0 → new ≡ old ++ codes "seed " ++ decimal seed ++ 10 ∷ [] → new ≡ old ++ seed_text seed
unfolding line_words
seed_printed old new seed some is = seed_at (seed == 0) old new (line_text (Seed seed)) (ne_eqb seed 0 some) (is ∙ number_line old (codes "seed ") seed (Seed seed) (codes "seed") refl refl)

pub ask_printed : (old new : List ℕ) (number : ℕ) → new ≡ old ++ codes "ask " ++ decimal number ++ 10 ∷ [] → new ≡ old ++ event_text (Ask number)
unfolding event_text line_words event_words
ask_printed old new number is = is ∙ number_line old (codes "ask ") number (Event (Ask number)) (codes "ask") refl refl

pub offer_printed : (old new : List ℕ) (number : ℕ) → new ≡ old ++ codes "offer " ++ decimal number ++ 10 ∷ [] → new ≡ old ++ event_text (Offer number)
unfolding event_text line_words event_words
offer_printed old new number is = is ∙ number_line old (codes "offer ") number (Event (Offer number)) (codes "offer") refl refl

pub lose_printed : (old new : List ℕ) (number : ℕ) → new ≡ old ++ codes "lose " ++ decimal number ++ 10 ∷ [] → new ≡ old ++ event_text (Lose number)
unfolding event_text line_words event_words
lose_printed old new number is = is ∙ number_line old (codes "lose ") number (Event (Lose number)) (codes "lose") refl refl

pub crash_printed : (old new : List ℕ) (number : ℕ) → new ≡ old ++ codes "crash " ++ decimal number ++ 10 ∷ [] → new ≡ old ++ event_text (Crash number)
unfolding event_text line_words event_words
crash_printed old new number is = is ∙ number_line old (codes "crash ") number (Event (Crash number)) (codes "crash") refl refl

pub deliver_printed : (old new : List ℕ) (number : ℕ) → new ≡ old ++ codes "deliver " ++ decimal number ++ 10 ∷ [] → new ≡ old ++ event_text (Deliver number)
unfolding event_text line_words event_words
deliver_printed old new number is = is ∙ number_line old (codes "deliver ") number (Event (Deliver number)) (codes "deliver") refl refl

pub answer_printed : (old new : List ℕ) (number : ℕ) → new ≡ old ++ codes "answer " ++ decimal number ++ 10 ∷ [] → new ≡ old ++ event_text (Answer number)
unfolding event_text line_words event_words
answer_printed old new number is = is ∙ number_line old (codes "answer ") number (Event (Answer number)) (codes "answer") refl refl

five : (a b c d e : List ℕ) → a ++ b ++ c ++ d ++ e ≡ a ++ (b ++ (c ++ (d ++ e)))
five a b c d e = append_assoc (a ++ b ++ c) d e ∙ append_assoc (a ++ b) c (d ++ e) ∙ append_assoc a b (c ++ (d ++ e))

words_line : (old head one two : List ℕ) (line : Line) (word : List ℕ) → line_words line ≡ word ∷ one ∷ two ∷ [] → word ++ 32 ∷ [] ≡ head → old ++ (head ++ (one ++ 32 ∷ (two ++ 10 ∷ []))) ≡ old ++ line_text line
unfolding spaced
words_line old head one two line word is head_is =
    ap (λ (t : List ℕ). old ++ (t ++ (one ++ 32 ∷ (two ++ 10 ∷ [])))) (sym head_is)
    ∙ ap (λ (t : List ℕ). old ++ t) (append_assoc word (32 ∷ []) (one ++ 32 ∷ (two ++ 10 ∷ [])))
    ∙ ap (λ (t : List ℕ). old ++ (word ++ 32 ∷ (one ++ 32 ∷ (t ++ 10 ∷ [])))) (sym (append-nil two))
    ∙ ap (λ (t : List ℕ). old ++ (word ++ 32 ∷ t)) (sym (append_assoc one (32 ∷ two ++ []) (10 ∷ [])))
    ∙ ap (λ (t : List ℕ). old ++ t) (sym (line_spaced line word (one ∷ two ∷ []) is))

pub turn_printed : (old new : List ℕ) (client : ℕ) (kind : Kind) → new ≡ old ++ codes "turn " ++ decimal client ++ 32 ∷ kind_word kind ++ 10 ∷ [] → new ≡ old ++ event_text (Turn client kind)
unfolding event_text line_words event_words
turn_printed old new client kind is = is ∙ five old (codes "turn ") (decimal client) (32 ∷ kind_word kind) (10 ∷ []) ∙ words_line old (codes "turn ") (decimal client) (kind_word kind) (Event (Turn client kind)) (codes "turn") refl refl

pub gather_printed : (old new : List ℕ) (client : ℕ) (kind : Kind) → new ≡ old ++ codes "gather " ++ decimal client ++ 32 ∷ kind_word kind ++ 10 ∷ [] → new ≡ old ++ event_text (Gather client kind)
unfolding event_text line_words event_words
gather_printed old new client kind is = is ∙ five old (codes "gather ") (decimal client) (32 ∷ kind_word kind) (10 ∷ []) ∙ words_line old (codes "gather ") (decimal client) (kind_word kind) (Event (Gather client kind)) (codes "gather") refl refl

pub post_printed : (old new : List ℕ) (client : ℕ) (kind : Kind) → new ≡ old ++ codes "post " ++ decimal client ++ 32 ∷ kind_word kind ++ 10 ∷ [] → new ≡ old ++ event_text (Post client kind)
unfolding event_text line_words event_words
post_printed old new client kind is = is ∙ five old (codes "post ") (decimal client) (32 ∷ kind_word kind) (10 ∷ []) ∙ words_line old (codes "post ") (decimal client) (kind_word kind) (Event (Post client kind)) (codes "post") refl refl

pub setpass_printed : (old new : List ℕ) (client pass : ℕ) → new ≡ old ++ codes "setpass " ++ decimal client ++ 32 ∷ decimal pass ++ 10 ∷ [] → new ≡ old ++ event_text (SetPass client pass)
unfolding event_text line_words event_words
setpass_printed old new client pass is = is ∙ five old (codes "setpass ") (decimal client) (32 ∷ decimal pass) (10 ∷ []) ∙ words_line old (codes "setpass ") (decimal client) (decimal pass) (Event (SetPass client pass)) (codes "setpass") refl refl

pub givepass_printed : (old new : List ℕ) (client pass : ℕ) → new ≡ old ++ codes "givepass " ++ decimal client ++ 32 ∷ decimal pass ++ 10 ∷ [] → new ≡ old ++ event_text (GivePass client pass)
unfolding event_text line_words event_words
givepass_printed old new client pass is = is ∙ five old (codes "givepass ") (decimal client) (32 ∷ decimal pass) (10 ∷ []) ∙ words_line old (codes "givepass ") (decimal client) (decimal pass) (Event (GivePass client pass)) (codes "givepass") refl refl

seed_lines : (none : Bool) (line : Line) → cond none [] (line_text line) ≡ flat_map line_text (cond none [] (line ∷ []))
seed_lines true line = refl
seed_lines false line = sym (append-nil (line_text line))

passes_are : (passes : List (List ℕ)) → flat_map pass_text passes ≡ flat_map line_text (map Pass passes)
unfolding pass_text
passes_are [] = refl
passes_are (pass ∷ passes) = ap (λ (t : List ℕ). line_text (Pass pass) ++ t) (passes_are passes)

events_are : (events : List Step) → flat_map event_text events ≡ flat_map line_text (map Event events)
unfolding event_text
events_are [] = refl
events_are (event ∷ events) = ap (λ (t : List ℕ). line_text (Event event) ++ t) (events_are events)

pub text_printed : (schedule : Schedule) (start seeded passed new : List ℕ) → start ≡ [] ++ codes "clients " ++ decimal schedule.clients ++ 10 ∷ [] → seeded ≡ start ++ seed_text schedule.seed → passed ≡ seeded ++ flat_map pass_text schedule.passes → new ≡ passed ++ flat_map event_text schedule.events → new ≡ schedule_text schedule
unfolding line_words schedule_text pass_text event_text
text_printed schedule start seeded passed new start_is seeded_is passed_is new_is =
    let first : start ≡ line_text (Clients schedule.clients) = start_is ∙ number_line [] (codes "clients ") schedule.clients (Clients schedule.clients) (codes "clients") refl refl in
    let seeds : List Line = cond (schedule.seed == 0) [] (Seed schedule.seed ∷ []) in
    let passes : List Line = map Pass schedule.passes in
    new_is
    ∙ ap (λ (t : List ℕ). t ++ flat_map event_text schedule.events) (passed_is ∙ ap (λ (t : List ℕ). t ++ flat_map pass_text schedule.passes) (seeded_is ∙ ap (λ (t : List ℕ). t ++ seed_text schedule.seed) first))
    ∙ ap (λ (t : List ℕ). line_text (Clients schedule.clients) ++ t ++ flat_map pass_text schedule.passes ++ flat_map event_text schedule.events) (seed_lines (schedule.seed == 0) (Seed schedule.seed))
    ∙ ap (λ (t : List ℕ). flat_map line_text (Clients schedule.clients ∷ seeds) ++ t ++ flat_map event_text schedule.events) (passes_are schedule.passes)
    ∙ ap (λ (t : List ℕ). flat_map line_text (Clients schedule.clients ∷ seeds) ++ flat_map line_text passes ++ t) (events_are schedule.events)
    ∙ ap (λ (t : List ℕ). t ++ flat_map line_text (map Event schedule.events)) (sym (flat_map-append line_text (Clients schedule.clients ∷ seeds) passes))
    ∙ sym (flat_map-append line_text (Clients schedule.clients ∷ seeds ++ passes) (map Event schedule.events))
