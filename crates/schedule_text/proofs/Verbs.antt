-- The first words of events.
use Rattle.std.proofs.Common.{◌≡◌, ℕ, Bool, true, List, [], ◌∷◌, ◌++◌, codes, None, Result, Ok, Err, refl, subst}
use Rattle.std.specs.List.{AllByRecursion}
use Rattle.sync_model.specs.declared.event.Event.{Event}
use Rattle.schedule_text.specs.declared.fault.LineFault.{LineFault}
use Rattle.schedule_text.specs.declared.verb.Verb.{Verb}
use Rattle.schedule_text.specs.declared.verb.Verb.TheVariants.{Edit, Cut, Turn, Gather, Post, Ask, Offer, Lose, Crash, Deliver, Answer, SetPass, GivePass}
use Rattle.schedule_text.specs.Grammar.{Slot, change_forms, delete_forms, event_forms, form_of, kept_forms, kind_forms, newer_forms, set_forms}
use Rattle.schedule_text.specs.Lines.{event_words}
use Rattle.schedule_text.specs.Spelling.{IsEvent}
use Rattle.schedule_text.specs.Reading.{BeginsOther, IsReading, forms_after_verb, verb_word, verbs}
use Rattle.schedule_text.specs.Refusals.{words_of}
use Rattle.schedule_text.proofs.Forms.{all_fixed, no_form, tails}
use Rattle.schedule_text.proofs.Readings.{no_space_by_test, reads_after, space_test}

-- a line that begins as no event does fits no form of one
pub no_event_form : (line : List ℕ) (clients passes : ℕ) → AllByRecursion (λ verb. BeginsOther line (verb_word verb)) verbs → form_of (words_of line) (event_forms clients passes) ≡ None
unfolding event_forms kept_forms change_forms set_forms newer_forms delete_forms kind_forms
no_event_form line clients passes others =
    no_form line (event_forms clients passes) (others.0, (others.0, (others.0, (others.0, (others.0, (others.0, (others.1.0, (others.1.0, (others.1.0, (others.1.0, (others.1.0, (others.1.0, (others.1.0, (others.1.0, (others.1.0, (others.1.0, (others.1.0, (others.1.0, (others.1.1.0, (others.1.1.0, (others.1.1.0, (others.1.1.1.0, (others.1.1.1.0, (others.1.1.1.0, (others.1.1.1.1.0, (others.1.1.1.1.0, (others.1.1.1.1.0, (others.1.1.1.1.1.1.1.0, (others.1.1.1.1.1.1.1.1.0, (others.1.1.1.1.1.1.1.1.1.0, (others.1.1.1.1.1.1.1.1.1.1.0, (others.1.1.1.1.1.1.1.1.1.1.1.0, (others.1.1.1.1.1.1.1.1.1.1.1.1.0, (others.1.1.1.1.1.0, (others.1.1.1.1.1.1.0, tt)))))))))))))))))))))))))))))))))))

verb_is_plain : (verb : Verb) → space_test (verb_word verb) ≡ true
verb_is_plain Edit = refl
verb_is_plain Cut = refl
verb_is_plain Turn = refl
verb_is_plain Gather = refl
verb_is_plain Post = refl
verb_is_plain Ask = refl
verb_is_plain Offer = refl
verb_is_plain Lose = refl
verb_is_plain Crash = refl
verb_is_plain Deliver = refl
verb_is_plain Answer = refl
verb_is_plain SetPass = refl
verb_is_plain GivePass = refl

pub events_are_fixed : (clients passes : ℕ) → all_fixed (event_forms clients passes) ≡ true
unfolding event_forms kept_forms change_forms set_forms newer_forms delete_forms kind_forms
events_are_fixed clients passes = refl

-- what follows the first word of an event
pub verb_tails : (clients passes : ℕ) (verb : Verb) → forms_after_verb clients passes verb ≡ tails (verb_word verb) (event_forms clients passes)
unfolding event_forms kept_forms change_forms set_forms newer_forms delete_forms kind_forms
verb_tails clients passes Edit = refl
verb_tails clients passes Cut = refl
verb_tails clients passes Turn = refl
verb_tails clients passes Gather = refl
verb_tails clients passes Post = refl
verb_tails clients passes Ask = refl
verb_tails clients passes Offer = refl
verb_tails clients passes Lose = refl
verb_tails clients passes Crash = refl
verb_tails clients passes Deliver = refl
verb_tails clients passes Answer = refl
verb_tails clients passes SetPass = refl
verb_tails clients passes GivePass = refl

-- what is read after the first word of an event
pub verb_reads : (clients passes : ℕ) (verb : Verb) (line rest : List ℕ) (r : Result Event LineFault) → line ≡ verb_word verb ++ 32 ∷ rest → IsReading (verb_word verb ∷ []) (forms_after_verb clients passes verb) (IsEvent clients passes) event_words (words_of rest) r → IsReading [] (event_forms clients passes) (IsEvent clients passes) event_words (words_of line) r
verb_reads clients passes verb line rest r is read =
    reads_after [] (verb_word verb) (event_forms clients passes) (IsEvent clients passes) event_words line rest r (no_space_by_test (verb_word verb) (verb_is_plain verb)) (events_are_fixed clients passes) is
    (subst (λ (forms : List (List Slot)). IsReading (verb_word verb ∷ []) forms (IsEvent clients passes) event_words (words_of rest) r) (verb_tails clients passes verb) read)
