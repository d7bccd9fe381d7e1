-- What answers acknowledge, one after another.
use Rattle.std.proofs.Common.{◌≡◌, ℕ, ◌+◌, ◌<◌, ◌≤◌, List, [], ◌∷◌, ◌++◌, length, drop, get_or, refl, sym, ap, ◌∙◌, append_assoc, arith}
use Rattle.std.proofs.lemmas.List.{drop_more, drop_all, append-nil}
use Rattle.sync_messages.specs.declared.message.EntryAnswer.{EntryAnswer}
use Rattle.sync_model.specs.declared.message.Ack.{Ack}
use Rattle.sync_model.specs.declared.message.Offer.{Offer}
use Rattle.type_worker.specs.declared.settling.Lock.{Lock}
use Rattle.type_worker.specs.Settling.{ack_by, settled}

settled_first : (offer : Offer) (offers : List Offer) (lock : Lock) (locks : List Lock) (answer : EntryAnswer) (answers : List EntryAnswer) →
    settled (offer ∷ offers) (lock ∷ locks) (answer ∷ answers) ≡ ack_by offer lock answer.version answer.outcome ++ settled offers locks answers
unfolding settled
settled_first offer offers lock locks answer answers = refl

no_offers : (locks : List Lock) (answers : List EntryAnswer) → settled [] locks answers ≡ []
unfolding settled
no_offers locks answers = refl

no_locks : (offers : List Offer) (answers : List EntryAnswer) → settled offers [] answers ≡ []
unfolding settled
no_locks [] answers = refl
no_locks (offer ∷ offers) answers = refl

no_answers : (offers : List Offer) (locks : List Lock) → settled offers locks [] ≡ []
unfolding settled
no_answers [] locks = refl
no_answers (offer ∷ offers) [] = refl
no_answers (offer ∷ offers) (lock ∷ locks) = refl

-- one more answer
pub settled_more : (all before pushed : List Ack) (offers offers_left : List Offer) (locks locks_left : List Lock) (answers : List EntryAnswer) (index : ℕ)
    (offer : Offer) (lock : Lock) (answer : EntryAnswer) → offers ≡ offer ∷ offers_left → locks ≡ lock ∷ locks_left → index < length answers →
    answer ≡ get_or answers index answer → pushed ≡ before ++ ack_by offer lock answer.version answer.outcome →
    before ++ settled offers locks (drop index answers) ≡ all → pushed ++ settled offers_left locks_left (drop (index + 1) answers) ≡ all
settled_more all before pushed offers offers_left locks locks_left answers index offer lock answer is_offers is_locks lt is is_pushed same =
    let split : drop index answers ≡ answer ∷ drop (index + 1) answers =
    drop_more answers index answer lt ∙ ap (λ (first : EntryAnswer). first ∷ drop (index + 1) answers) (sym is) in
    ap (λ (acks : List Ack). acks ++ settled offers_left locks_left (drop (index + 1) answers)) is_pushed
    ∙ append_assoc before (ack_by offer lock answer.version answer.outcome) (settled offers_left locks_left (drop (index + 1) answers))
    ∙ ap (λ (acks : List Ack). before ++ acks) (sym (settled_first offer offers_left lock locks_left answer (drop (index + 1) answers)))
    ∙ (λ i. before ++ settled (sym is_offers i) (sym is_locks i) (sym split i))
    ∙ same

nil_from_drop : {A : Type 0} (xs : List A) → xs ≡ drop 1 xs → xs ≡ []
nil_from_drop [] is = refl
nil_from_drop (x ∷ xs) is = absurd (omega (arith, ap length is))

-- no more offers
pub settled_without_offers : (all before : List Ack) (offers rest : List Offer) (locks : List Lock) (answers : List EntryAnswer) → offers ≡ rest → rest ≡ drop 1 offers →
    before ++ settled offers locks answers ≡ all → before ≡ all
settled_without_offers all before offers rest locks answers same_rest dropped same =
    sym (append-nil before) ∙ ap (λ (acks : List Ack). before ++ acks) (sym (ap (λ (left : List Offer). settled left locks answers) (nil_from_drop offers (same_rest ∙ dropped)) ∙ no_offers locks answers))
    ∙ same

-- no more locks
pub settled_without_locks : (all before : List Ack) (offers : List Offer) (locks rest : List Lock) (answers : List EntryAnswer) → locks ≡ rest → rest ≡ drop 1 locks →
    before ++ settled offers locks answers ≡ all → before ≡ all
settled_without_locks all before offers locks rest answers same_rest dropped same =
    sym (append-nil before) ∙ ap (λ (acks : List Ack). before ++ acks) (sym (ap (λ (left : List Lock). settled offers left answers) (nil_from_drop locks (same_rest ∙ dropped)) ∙ no_locks offers answers))
    ∙ same

-- no more answers
pub settled_all : (all before : List Ack) (offers : List Offer) (locks : List Lock) (answers : List EntryAnswer) (index : ℕ) → length answers ≤ index →
    before ++ settled offers locks (drop index answers) ≡ all → before ≡ all
settled_all all before offers locks answers index le same =
    sym (append-nil before) ∙ ap (λ (acks : List Ack). before ++ acks) (sym (ap (settled offers locks) (drop_all index answers le) ∙ no_answers offers locks)) ∙ same
