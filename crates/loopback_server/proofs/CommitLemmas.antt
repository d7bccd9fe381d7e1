-- The entries of a commit, one after another.
use Rattle.std.proofs.Common.{◌≡◌, ℕ, zero, suc, ◌<◌, arith, List, [], ◌∷◌, ◌++◌, length, take, drop, get_or, map, Option, Some, None, refl, sym, ap, subst, ◌∙◌, append_assoc}
use Rattle.std.proofs.lemmas.List.{append-nil}
use Rattle.std.specs.List.{AllByRecursion}
use Rattle.sync_messages.specs.Laws.{IsAnswer}
use Rattle.sync_specifics.specs.declared.specifics.Specifics.{Specifics}
use Rattle.sync_messages.specs.declared.message.EntryAnswer.{EntryAnswer}
use Rattle.sync_messages.specs.declared.message.Outcome.TheVariants.{Invalid}
use Rattle.sync_model.specs.declared.message.Entry.{Entry}
use Rattle.sync_model.specs.History.{answer_to, answers_to, history_with, committed}
use Rattle.loopback_server.specs.declared.candidate.Candidate.{Candidate}
use Rattle.loopback_server.specs.declared.write.EntityKey.{EntityKey}
use Rattle.loopback_server.specs.Candidates.{entry_read, HasItsPlace, HaveIds, HavePlaces}
use Rattle.replay_messages.specs.Entries.{no_entry, is_invalid}
use Rattle.loopback_server.specs.Indexes.{HasPlace}
use Rattle.replay_messages.specs.Replies.{told_answer, told_answers, told_refusal, answers_told}

-- what may not be stored is invalid, and leaves the history
pub invalid_answer : (history : List (Entry (Option Specifics))) → told_refusal Invalid ≡ told_answer no_entry (answer_to is_invalid history no_entry)
unfolding answer_to
invalid_answer history = refl

pub invalid_history : (history : List (Entry (Option Specifics))) → history ≡ history_with history no_entry (answer_to is_invalid history no_entry)
unfolding answer_to
invalid_history history = refl

kept_its_place : (old new : List (EntityKey × ℕ)) (candidate : Option Candidate) → ((key : EntityKey) → HasPlace old key → HasPlace new key)
    → HasItsPlace old candidate → HasItsPlace new candidate
kept_its_place old new None kept has = tt
kept_its_place old new (Some candidate) kept has = kept candidate.write.key has

-- the places so far are kept, and the next one is there
pub more_places : (old new : List (EntityKey × ℕ)) (candidates : List (Option Candidate)) (n : ℕ) (candidate : Option Candidate)
    → ((key : EntityKey) → HasPlace old key → HasPlace new key) → HavePlaces old (take n candidates) → n < length candidates
    → candidate ≡ get_or candidates n candidate → HasItsPlace new candidate → HavePlaces new (take (suc n) candidates)
more_places old new [] n candidate kept places lt is has = absurd (omega arith)
more_places old new (c ∷ cs) zero candidate kept places lt is has = (subst (λ (x : Option Candidate). HasItsPlace new x) is has, tt)
more_places old new (c ∷ cs) (suc n) candidate kept places lt is has =
    (kept_its_place old new c kept places.0, more_places old new cs n candidate kept places.1 (omega arith) is has)

-- each place that there was is there
pub kept_places : (old new : List (EntityKey × ℕ)) (candidates : List (Option Candidate)) → ((key : EntityKey) → HasPlace old key → HasPlace new key)
    → HavePlaces old candidates → HavePlaces new candidates
kept_places old new [] kept places = tt
kept_places old new (c ∷ cs) kept places = (kept_its_place old new c kept places.0, kept_places old new cs kept places.1)

-- the places of the rest, after one entry was answered
pub step_places : (old new : List (EntityKey × ℕ)) (candidates : List (Option Candidate)) (candidate : Option Candidate) (rest : List (Option Candidate))
    → candidates ≡ candidate ∷ rest → ((key : EntityKey) → HasPlace old key → HasPlace new key) → HavePlaces old candidates → HavePlaces new rest
step_places old new candidates candidate rest is kept places =
    let whole : HavePlaces old (candidate ∷ rest) = subst (λ (all : List (Option Candidate)). HavePlaces old all) is places in
    kept_places old new rest kept whole.1

-- the names of the rest
pub step_ids : (candidates : List (Option Candidate)) (candidate : Option Candidate) (rest : List (Option Candidate))
    → candidates ≡ candidate ∷ rest → HaveIds candidates → HaveIds rest
step_ids candidates candidate rest is ids =
    let whole : HaveIds (candidate ∷ rest) = subst (λ (all : List (Option Candidate)). HaveIds all) is ids in whole.1

-- one more answer, and the answers to the rest
pub step_answers : (before pushed all : List EntryAnswer) (history next : List (Entry (Option Specifics))) (candidates : List (Option Candidate)) (candidate : Option Candidate)
    (rest : List (Option Candidate)) (answer : EntryAnswer)
    → candidates ≡ candidate ∷ rest → answer ≡ told_answer (entry_read candidate) (answer_to is_invalid history (entry_read candidate))
    → next ≡ history_with history (entry_read candidate) (answer_to is_invalid history (entry_read candidate)) → pushed ≡ before ++ answer ∷ []
    → before ++ answers_told history (map entry_read candidates) ≡ all → pushed ++ answers_told next (map entry_read rest) ≡ all
unfolding answers_to told_answers
step_answers before pushed all history next candidates candidate rest answer is_candidates is_answer is_next is_pushed same =
    ap (λ answers. answers ++ answers_told next (map entry_read rest)) is_pushed
    ∙ append_assoc before (answer ∷ []) (answers_told next (map entry_read rest))
    ∙ (λ i. before ++ is_answer i ∷ answers_told (is_next i) (map entry_read rest))
    ∙ ap (λ (all : List (Option Candidate)). before ++ answers_told history (map entry_read all)) (sym is_candidates)
    ∙ same

pub step_history : (all history next : List (Entry (Option Specifics))) (candidates : List (Option Candidate)) (candidate : Option Candidate) (rest : List (Option Candidate))
    → candidates ≡ candidate ∷ rest → next ≡ history_with history (entry_read candidate) (answer_to is_invalid history (entry_read candidate))
    → committed is_invalid history (map entry_read candidates) ≡ all → committed is_invalid next (map entry_read rest) ≡ all
unfolding committed
step_history all history next candidates candidate rest is_candidates is_next same =
    ap (λ after. committed is_invalid after (map entry_read rest)) is_next
    ∙ ap (λ (all : List (Option Candidate)). committed is_invalid history (map entry_read all)) (sym is_candidates)
    ∙ same

-- nothing is left where all is as after one more was taken
nil_from_drop : {A : Type 0} (xs : List A) → xs ≡ drop 1 xs → xs ≡ []
nil_from_drop [] is = refl
nil_from_drop (x ∷ xs) is = absurd (omega (arith, ap length is))

-- no more answers
pub end_answers : (answers all : List EntryAnswer) (history : List (Entry (Option Specifics))) (candidates rest : List (Option Candidate)) → candidates ≡ rest → rest ≡ drop 1 candidates
    → answers ++ answers_told history (map entry_read candidates) ≡ all → answers ≡ all
unfolding answers_to told_answers
end_answers answers all history candidates rest same_rest dropped same =
    sym (append-nil answers) ∙ (rw (nil_from_drop candidates (same_rest ∙ dropped)) at same)

pub end_history : (history all : List (Entry (Option Specifics))) (candidates rest : List (Option Candidate)) → candidates ≡ rest → rest ≡ drop 1 candidates
    → committed is_invalid history (map entry_read candidates) ≡ all → history ≡ all
unfolding committed
end_history history all candidates rest same_rest dropped same = rw (nil_from_drop candidates (same_rest ∙ dropped)) at same

-- one more answer, which can be said
all_more : (answers : List EntryAnswer) (answer : EntryAnswer) → AllByRecursion IsAnswer answers → IsAnswer answer → AllByRecursion IsAnswer (answers ++ answer ∷ [])
all_more [] answer all one = (one, tt)
all_more (first ∷ rest) answer all one = (all.0, all_more rest answer all.1 one)

pub step_sayable : (before pushed : List EntryAnswer) (answer : EntryAnswer) → pushed ≡ before ++ answer ∷ [] → AllByRecursion IsAnswer before → IsAnswer answer
    → AllByRecursion IsAnswer pushed
step_sayable before pushed answer is all one =
    subst (λ (answers : List EntryAnswer). AllByRecursion IsAnswer answers) (sym is) (all_more before answer all one)
