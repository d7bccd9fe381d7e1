-- The answers to a commit acknowledge writes of the history that it leaves.
use Rattle.std.proofs.Common.{◌≡◌, ℕ, ◌+◌, Bool, true, false, cond, List, [], ◌∷◌, ◌++◌, length, Some, refl, ap, eqb, IfSome}
use Rattle.std.specs.List.{AllByRecursion}
use Rattle.std.proofs.lemmas.Bool.{eq-eqb, cond-true}
use Rattle.client_tags.specs.declared.Kind.{Kind}
use Rattle.sync_model.specs.declared.message.Ack.{Ack}
use Rattle.sync_model.specs.declared.message.Answer.{Answer}
use Rattle.sync_model.specs.declared.message.Answer.TheVariants.{Success, Conflict, Invalid, OverQuota}
use Rattle.sync_model.specs.declared.message.Call.{Call}
use Rattle.sync_model.specs.declared.message.Call.TheVariants.{Commit, Updates as AskUpdates}
use Rattle.sync_model.specs.declared.message.Content.{Content}
use Rattle.sync_model.specs.declared.message.Entry.{Entry}
use Rattle.sync_model.specs.declared.message.Request.{Request}
use Rattle.sync_model.specs.Values.{same_kind}
use Rattle.sync_model.specs.History.{last_version, write_at, is_over_quota, answer_to, history_with, committed, answers_to}
use Rattle.sync_model.specs.Servers.{is_foreign, history_after, history_served}
use Rattle.sync_model.specs.Receiving.{ack_of, ack_for, acks_of, letter_of}
use Rattle.sync_model.specs.Facts.{key_of, IsTrueAck, IsTrueTask}
use Rattle.sync_model.proofs.Writes.{same_kind-true, IsWriteOf-longer}
use Rattle.sync_model.proofs.Longer.{all_then}

-- what stays so under a further write stays so under a commit
history_with-keeps : (P : List (Entry Content) → Type 0) → ((history : List (Entry Content)) (next : Entry Content) → P history → P (next ∷ history))
    → (history : List (Entry Content)) (entry : Entry Content) (answer : Answer) → P history → P (history_with history entry answer)
history_with-keeps P longer history entry (Success version) holds = longer history entry holds
history_with-keeps P longer history entry Conflict holds = holds
history_with-keeps P longer history entry Invalid holds = holds
history_with-keeps P longer history entry OverQuota holds = holds

committed-keeps : (P : List (Entry Content) → Type 0) → ((history : List (Entry Content)) (next : Entry Content) → P history → P (next ∷ history))
    → (is_invalid : Entry Content → Bool) (history entries : List (Entry Content)) → P history → P (committed is_invalid history entries)
unfolding committed
committed-keeps P longer is_invalid history [] holds = holds
committed-keeps P longer is_invalid history (entry ∷ entries) holds =
    committed-keeps P longer is_invalid (history_with history entry (answer_to is_invalid history entry)) entries
    (history_with-keeps P longer history entry (answer_to is_invalid history entry) holds)

history_after-keeps : (P : List (Entry Content) → Type 0) → ((history : List (Entry Content)) (next : Entry Content) → P history → P (next ∷ history))
    → (is_invalid : Entry Content → Bool) (history : List (Entry Content)) (call : Call Content) → P history → P (history_after is_invalid history call)
history_after-keeps P longer is_invalid history (Commit entries) holds = committed-keeps P longer is_invalid history entries holds
history_after-keeps P longer is_invalid history (AskUpdates marks) holds = holds

-- what stays so under a further write stays so under a request
pub served-keeps : (P : List (Entry Content) → Type 0) → ((history : List (Entry Content)) (next : Entry Content) → P history → P (next ∷ history))
    → (is_invalid : Entry Content → Bool) (birthday : List ℕ) (history : List (Entry Content)) (request : Request Content)
    → P history → P (history_served is_invalid birthday history request)
unfolding history_served
served-keeps P longer is_invalid birthday history request holds = by (is_foreign birthday request.birthday)
  where
    by : (foreign : Bool) → P (cond foreign history (history_after is_invalid history request.call))
    by true = holds
    by false = history_after-keeps P longer is_invalid history request.call holds

pub all_append : {X : Type 0} (P : X → Type 0) (xs ys : List X) → AllByRecursion P xs → AllByRecursion P ys → AllByRecursion P (xs ++ ys)
all_append P [] ys all more = more
all_append P (x ∷ xs) ys all more = (all.0, all_append P xs ys all.1 more)

-- the newest write of a history
pub newest_at : (history : List (Entry Content)) (entry : Entry Content) → write_at (entry ∷ history) (length history + 1) ≡ Some entry
newest_at history entry = cond-true _ _ _ (eq-eqb (length history + 1) (length history + 1) refl)

-- the acknowledgement of one entry
stored_by : (history : List (Entry Content)) (kind : Kind) (entry : Entry Content) (same : Bool) → same_kind entry.key.kind kind ≡ same
    → AllByRecursion (IsTrueAck (entry ∷ history) kind) (cond same (ack_of entry (length history + 1) ∷ []) [])
stored_by history kind entry true same = (
  record {
    write = entry;
    is_write = newest_at history entry;
    has_key = ap (λ (other : Kind). key_of other entry.key.hash) (same_kind-true entry.key.kind kind same);
    has_value = refl;
  },
  tt,
)
stored_by history kind entry false same = tt

acked_by : (history : List (Entry Content)) (kind : Kind) (entry : Entry Content) (invalid matches over : Bool)
    → AllByRecursion (IsTrueAck (history_with history entry (cond invalid Invalid (cond matches (cond over OverQuota (Success (length history + 1))) Conflict))) kind)
    (ack_for kind entry (cond invalid Invalid (cond matches (cond over OverQuota (Success (length history + 1))) Conflict)))
acked_by history kind entry true matches over = tt
acked_by history kind entry false true true = tt
acked_by history kind entry false true false = stored_by history kind entry (same_kind entry.key.kind kind) refl
acked_by history kind entry false false over = tt

acked : (is_invalid : Entry Content → Bool) (history : List (Entry Content)) (kind : Kind) (entry : Entry Content)
    → AllByRecursion (IsTrueAck (history_with history entry (answer_to is_invalid history entry)) kind) (ack_for kind entry (answer_to is_invalid history entry))
unfolding answer_to
acked is_invalid history kind entry =
    acked_by history kind entry (is_invalid entry) (eqb entry.version (last_version history entry.key)) (is_over_quota history entry)

pub acks_true : (is_invalid : Entry Content → Bool) (history : List (Entry Content)) (kind : Kind) (entries : List (Entry Content))
    → AllByRecursion (IsTrueAck (committed is_invalid history entries) kind) (acks_of kind entries (answers_to is_invalid history entries))
unfolding committed answers_to acks_of
acks_true is_invalid history kind [] = tt
acks_true is_invalid history kind (entry ∷ entries) =
    all_append (IsTrueAck (committed is_invalid (history_with history entry (answer_to is_invalid history entry)) entries) kind)
    (ack_for kind entry (answer_to is_invalid history entry))
    (acks_of kind entries (answers_to is_invalid (history_with history entry (answer_to is_invalid history entry)) entries))
    (committed-keeps (λ whole. AllByRecursion (IsTrueAck whole kind) (ack_for kind entry (answer_to is_invalid history entry)))
    (λ whole next all. all_then (λ ack. IsWriteOf-longer whole next (key_of kind ack.hash) ack.version ack.value)
    (ack_for kind entry (answer_to is_invalid history entry)) all)
    is_invalid (history_with history entry (answer_to is_invalid history entry)) entries (acked is_invalid history kind entry))
    (acks_true is_invalid (history_with history entry (answer_to is_invalid history entry)) kind entries)

-- a letter of true acknowledgements
pub acks_letter : (history : List (Entry Content)) (kind : Kind) (from : ℕ) (acks : List Ack)
    → AllByRecursion (IsTrueAck history kind) acks → IfSome (letter_of acks) (IsTrueTask history kind from)
acks_letter history kind from [] all = tt
acks_letter history kind from (ack ∷ acks) all = all
