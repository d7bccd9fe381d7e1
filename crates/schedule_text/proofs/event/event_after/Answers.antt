use Rattle.std.proofs.Common.{◌≡◌, ◌∙◌, ap, ℕ, List, ◌∷◌}
use Rattle.schedule_text.specs.declared.verb.Verb.{Verb}
use Rattle.schedule_text.specs.declared.verb.Verb.TheVariants.{Edit, Cut, Turn, Gather, Post, Ask, Offer, Lose, Crash, Deliver, Answer, SetPass, GivePass}
use Rattle.schedule_text.specs.Lines.{event_words}
use Rattle.schedule_text.specs.Reading.{verb_word}
use Rattle.schedule_text.specs.Refusals.{words_of}
use Rattle.schedule_text.proofs.event.event_after.Goals as goal

first_is : (verb same : Verb) (words others : List (List ℕ)) → verb ≡ same → words ≡ others → verb_word verb ∷ words ≡ verb_word same ∷ others
first_is verb same words others is are = ap (λ (v : Verb). verb_word v ∷ words) is ∙ ap (λ (ws : List (List ℕ)). verb_word same ∷ ws) are

pub returns-in_ok-client-in-Edit : goal.returns-in_ok-client-in-Edit
unfolding event_words
returns-in_ok-client-in-Edit c = (c.in_ok-client-in-Edit.ensures.0, first_is c.args.verb Edit (words_of c.args.line.now) _ c.in-Edit.is c.in_ok-client-in-Edit.ensures.1)

pub returns-in_ok-client-in-Cut : goal.returns-in_ok-client-in-Cut
unfolding event_words
returns-in_ok-client-in-Cut c = (c.in_ok-client-in-Cut.ensures.0, first_is c.args.verb Cut (words_of c.args.line.now) _ c.in-Cut.is c.in_ok-client-in-Cut.ensures.1)

pub returns-in_ok-client-in-Turn : goal.returns-in_ok-client-in-Turn
unfolding event_words
returns-in_ok-client-in-Turn c = (c.in_ok-client-in-Turn.ensures.0, first_is c.args.verb Turn (words_of c.args.line.now) _ c.in-Turn.is c.in_ok-client-in-Turn.ensures.1)

pub returns-in_ok-client-in-Gather : goal.returns-in_ok-client-in-Gather
unfolding event_words
returns-in_ok-client-in-Gather c = (c.in_ok-client-in-Gather.ensures.0, first_is c.args.verb Gather (words_of c.args.line.now) _ c.in-Gather.is c.in_ok-client-in-Gather.ensures.1)

pub returns-in_ok-client-in-Post : goal.returns-in_ok-client-in-Post
unfolding event_words
returns-in_ok-client-in-Post c = (c.in_ok-client-in-Post.ensures.0, first_is c.args.verb Post (words_of c.args.line.now) _ c.in-Post.is c.in_ok-client-in-Post.ensures.1)

pub returns-in_ok-one_number-in-Ask : goal.returns-in_ok-one_number-in-Ask
unfolding event_words
returns-in_ok-one_number-in-Ask c = (c.in_ok-one_number-in-Ask.ensures.0, first_is c.args.verb Ask (words_of c.args.line.now) _ c.in-Ask.is c.in_ok-one_number-in-Ask.ensures.1)

pub returns-in_ok-one_number-in-Offer : goal.returns-in_ok-one_number-in-Offer
unfolding event_words
returns-in_ok-one_number-in-Offer c = (c.in_ok-one_number-in-Offer.ensures.0, first_is c.args.verb Offer (words_of c.args.line.now) _ c.in-Offer.is c.in_ok-one_number-in-Offer.ensures.1)

pub returns-in_ok-one_number-in-Lose : goal.returns-in_ok-one_number-in-Lose
unfolding event_words
returns-in_ok-one_number-in-Lose c = (c.in_ok-one_number-in-Lose.ensures.0, first_is c.args.verb Lose (words_of c.args.line.now) _ c.in-Lose.is c.in_ok-one_number-in-Lose.ensures.1)

pub returns-in_ok-one_number-in-Crash : goal.returns-in_ok-one_number-in-Crash
unfolding event_words
returns-in_ok-one_number-in-Crash c = (c.in_ok-one_number-in-Crash.ensures.0, first_is c.args.verb Crash (words_of c.args.line.now) _ c.in-Crash.is c.in_ok-one_number-in-Crash.ensures.1)

pub returns-in_ok-one_number-in-Deliver : goal.returns-in_ok-one_number-in-Deliver
unfolding event_words
returns-in_ok-one_number-in-Deliver c = (c.in_ok-one_number-in-Deliver.ensures.0, first_is c.args.verb Deliver (words_of c.args.line.now) _ c.in-Deliver.is c.in_ok-one_number-in-Deliver.ensures.1)

pub returns-in_ok-one_number-in-Answer : goal.returns-in_ok-one_number-in-Answer
unfolding event_words
returns-in_ok-one_number-in-Answer c = (c.in_ok-one_number-in-Answer.ensures.0, first_is c.args.verb Answer (words_of c.args.line.now) _ c.in-Answer.is c.in_ok-one_number-in-Answer.ensures.1)

pub returns-in_ok-client-in-SetPass : goal.returns-in_ok-client-in-SetPass
unfolding event_words
returns-in_ok-client-in-SetPass c = ((c.in_ok-client-in-SetPass.ensures.0, c.in_ok-client-in-SetPass.ensures.1), first_is c.args.verb SetPass (words_of c.args.line.now) _ c.in-SetPass.is c.in_ok-client-in-SetPass.ensures.2)

pub returns-in_ok-client-in-GivePass : goal.returns-in_ok-client-in-GivePass
unfolding event_words
returns-in_ok-client-in-GivePass c = ((c.in_ok-client-in-GivePass.ensures.0, c.in_ok-client-in-GivePass.ensures.1), first_is c.args.verb GivePass (words_of c.args.line.now) _ c.in-GivePass.is c.in_ok-client-in-GivePass.ensures.2)
