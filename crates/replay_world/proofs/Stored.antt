-- The entries of a commit that were stored are those that the history gains.
use Rattle.std.proofs.Common.{◌≡◌, ℕ, ◌+◌, ◌<◌, ◌≤◌, arith, Bool, true, false, cond, List, [], ◌∷◌, ◌++◌, length, drop, get_or, map, refl, sym, ap, ◌∙◌, append_assoc}
use Rattle.std.proofs.lemmas.List.{append-nil, reverse-append, drop_more, drop_all}
use Rattle.std.specs.Prelude.{reverse}
use Rattle.sync_messages.specs.declared.message.EntryAnswer.{EntryAnswer}
use Rattle.sync_model.specs.declared.message.Answer.{Answer}
use Rattle.sync_model.specs.declared.message.Answer.TheVariants.{Success, Conflict, Invalid, OverQuota}
use Rattle.sync_model.specs.declared.message.Call.{Call}
use Rattle.sync_model.specs.declared.message.Call.TheVariants.{Commit, Updates}
use Rattle.sync_model.specs.declared.message.Content.{Content}
use Rattle.sync_model.specs.declared.message.Entry.{Entry}
use Rattle.sync_model.specs.declared.message.Request.{Request}
use Rattle.sync_model.specs.History.{answer_to, history_with, committed, answers_to}
use Rattle.sync_model.specs.Servers.{is_foreign, verdict_on, history_after, reply_to, history_served}
use Rattle.sync_model.specs.Worlds.{STORE_BIRTHDAY, is_invalid_entry}
use Rattle.replay_messages.specs.Replies.{told_answer, told_answers, told_verdict}
use Rattle.replay_messages.specs.Replies.{entries_of as asked_of}
use Rattle.replay_messages.specs.Forms.{form, call_formed, verdict_formed}
use Rattle.replay_messages.specs.Messages.{reply_told}
use Rattle.replay_world.specs.Copies.{entries_of, answers_of, is_success, stored_by}

-- one more entry, by the answer to it
pub stored_more : (all before pushed entries rest : List (Entry Content)) (entry : Entry Content) (answers : List EntryAnswer) (n : ℕ) (answer : EntryAnswer) (stored : Bool)
    → entries ≡ entry ∷ rest → n < length answers → answer ≡ get_or answers n answer → stored ≡ is_success answer.outcome → pushed ≡ before ++ cond stored (entry ∷ []) []
    → before ++ stored_by entries (drop n answers) ≡ all → pushed ++ stored_by rest (drop (n + 1) answers) ≡ all
unfolding stored_by
stored_more all before pushed entries rest entry answers n answer stored is_entries lt is_answer is_stored is_pushed same =
    let split : drop n answers ≡ answer ∷ drop (n + 1) answers = drop_more answers n answer lt ∙ ap (λ (first : EntryAnswer). first ∷ drop (n + 1) answers) (sym is_answer) in
    ap (λ (writes : List (Entry Content)). writes ++ stored_by rest (drop (n + 1) answers)) (is_pushed ∙ ap (λ (is : Bool). before ++ cond is (entry ∷ []) []) is_stored)
    ∙ append_assoc before (cond (is_success answer.outcome) (entry ∷ []) []) (stored_by rest (drop (n + 1) answers))
    ∙ (λ i. before ++ stored_by (sym is_entries i) (sym split i))
    ∙ same

-- no more answers
stored_by-nil : (entries : List (Entry Content)) → stored_by entries [] ≡ []
unfolding stored_by
stored_by-nil [] = refl
stored_by-nil (entry ∷ entries) = refl

-- all answers were looked at
pub stored_all : (all before entries : List (Entry Content)) (answers : List EntryAnswer) (n : ℕ) → length answers ≤ n
    → before ++ stored_by entries (drop n answers) ≡ all → before ≡ all
stored_all all before entries answers n le same =
    sym (append-nil before) ∙ ap (λ (stored : List (Entry Content)). before ++ stored) (sym (ap (stored_by entries) (drop_all n answers le) ∙ stored_by-nil entries)) ∙ same

-- no more entries
pub stored_none : (all before entries rest : List (Entry Content)) (answers : List EntryAnswer) → entries ≡ rest → rest ≡ drop 1 entries
    → before ++ stored_by entries answers ≡ all → before ≡ all
unfolding stored_by
stored_none all before entries rest answers same_rest dropped same = sym (append-nil before) ∙ (rw (nil_from_drop entries (same_rest ∙ dropped)) at same) where
  nil_from_drop : (xs : List (Entry Content)) → xs ≡ drop 1 xs → xs ≡ []
  nil_from_drop [] is = refl
  nil_from_drop (x ∷ xs) is = absurd (omega (arith, ap length is))

-- an entry is stored where it is told so
told_success : (seed : ℕ) (entry : Entry Content) (answer : Answer) (history : List (Entry Content))
    → reverse (cond (is_success (told_answer (form seed entry) answer).outcome) (entry ∷ []) []) ++ history ≡ history_with history entry answer
told_success seed entry (Success version) history = refl
told_success seed entry Conflict history = refl
told_success seed entry Invalid history = refl
told_success seed entry OverQuota history = refl

-- the stored entries, the newest first, and the history before them
committed_is : (seed : ℕ) (history entries : List (Entry Content))
    → reverse (stored_by entries (told_answers (map (form seed) entries) (answers_to is_invalid_entry history entries))) ++ history
    ≡ committed is_invalid_entry history entries
unfolding stored_by told_answers answers_to committed
committed_is seed history [] = refl
committed_is seed history (entry ∷ entries) =
    let answer : Answer = answer_to is_invalid_entry history entry in
    let next : List (Entry Content) = history_with history entry answer in
    let told : List EntryAnswer = told_answers (map (form seed) entries) (answers_to is_invalid_entry next entries) in
    let kept : List (Entry Content) = cond (is_success (told_answer (form seed entry) answer).outcome) (entry ∷ []) [] in
    ap (λ (newer : List (Entry Content)). newer ++ history) (reverse-append kept (stored_by entries told))
    ∙ append_assoc (reverse (stored_by entries told)) (reverse kept) history
    ∙ ap (λ (older : List (Entry Content)). reverse (stored_by entries told) ++ older) (told_success seed entry answer history)
    ∙ committed_is seed next entries

-- what a call that is accepted stores
call_stores : (seed : ℕ) (history : List (Entry Content)) (call : Call Content)
    → reverse (stored_by (entries_of call) (answers_of (told_verdict (asked_of (call_formed seed call)) (verdict_formed seed (verdict_on is_invalid_entry history call))))) ++ history
    ≡ history_after is_invalid_entry history call
unfolding stored_by
call_stores seed history (Commit entries) = committed_is seed history entries
call_stores seed history (Updates marks) = refl

-- what a request stores
verdict_stores : (seed : ℕ) (history : List (Entry Content)) (request : Request Content) (foreign : Bool) → is_foreign STORE_BIRTHDAY request.birthday ≡ foreign
    → reverse (stored_by (entries_of request.call) (answers_of (reply_told seed request (reply_to is_invalid_entry STORE_BIRTHDAY history request)).reply)) ++ history
    ≡ history_served is_invalid_entry STORE_BIRTHDAY history request
unfolding reply_told reply_to history_served
verdict_stores seed history request true is = rw is (ap (λ (newer : List (Entry Content)). reverse newer ++ history) (stored_by-nil (entries_of request.call)))
verdict_stores seed history request false is = rw is (call_stores seed history request.call)

-- the writes, the newest first, after the stored entries of a request joined them
pub served_is : (seed : ℕ) (writes written : List (Entry Content)) (request : Request Content)
    → written ≡ writes ++ stored_by (entries_of request.call) (answers_of (reply_told seed request (reply_to is_invalid_entry STORE_BIRTHDAY (reverse writes) request)).reply)
    → reverse written ≡ history_served is_invalid_entry STORE_BIRTHDAY (reverse writes) request
served_is seed writes written request is =
    ap reverse is
    ∙ reverse-append writes (stored_by (entries_of request.call) (answers_of (reply_told seed request (reply_to is_invalid_entry STORE_BIRTHDAY (reverse writes) request)).reply))
    ∙ verdict_stores seed (reverse writes) request (is_foreign STORE_BIRTHDAY request.birthday) refl
