-- What a client reads in a reply's message is what the reply says.
use Rattle.std.proofs.Common.{◌≡◌, ℕ, suc, ◌≤◌, arith, Bool, true, false, cond, List, [], ◌∷◌, ◌++◌, length, map, Option, Some, None, refl, sym, ap, ◌∙◌, subst, unwrap_or}
use Rattle.std.specs.Prelude.{◌==◌, ◌||◌, not, is_some, nat_le, if◌then◌else◌, IsTrue, IfSome}
use Rattle.std.specs.Int.{w64, cast_signed, cast_unsigned}
use Rattle.std.proofs.lemmas.Bool.{le-leb, leb-true, false≢true, true≢false}
use Rattle.std.proofs.lemmas.Int.{of_z-to_z}
use Rattle.std.specs.List.{AllByRecursion}
use Rattle.std.specs.Option.{option_or}
use Rattle.client_tags.specs.declared.Kind.{Kind}
use Rattle.client_tags.specs.declared.Kind.TheVariants.{Nigori, Preference, Password}
use Rattle.sync_values.specs.declared.value.Value.{Value}
use Rattle.sync_values.specs.declared.value.Value.TheVariants as values
use Rattle.sync_messages.specs.declared.message.FromServer.{FromServer}
use Rattle.sync_messages.specs.declared.message.Reply.{Reply as Said}
use Rattle.sync_model.specs.declared.event.EventOutcome.TheVariants.{Done}
use Rattle.sync_messages.specs.declared.message.EntryAnswer.{EntryAnswer}
use Rattle.sync_messages.specs.declared.message.Outcome.{Outcome}
use Rattle.sync_messages.specs.declared.message.Outcome.TheVariants as outcomes
use Rattle.sync_model.specs.declared.message.Ack.{Ack}
use Rattle.sync_model.specs.declared.message.Answer.{Answer}
use Rattle.sync_model.specs.declared.message.Answer.TheVariants.{Success, Conflict, Invalid, OverQuota}
use Rattle.sync_model.specs.declared.message.Call.{Call}
use Rattle.sync_model.specs.declared.message.Call.TheVariants as calls
use Rattle.sync_model.specs.declared.message.Content.{Content}
use Rattle.sync_model.specs.declared.message.Entry.{Entry}
use Rattle.sync_model.specs.declared.message.Marker.{Marker}
use Rattle.sync_model.specs.declared.message.Reply.{Reply}
use Rattle.sync_model.specs.declared.message.Request.{Request}
use Rattle.sync_model.specs.declared.message.Task.{Task}
use Rattle.sync_model.specs.declared.message.Update.{Update}
use Rattle.sync_model.specs.declared.message.Updates.{Updates}
use Rattle.sync_model.specs.declared.message.Verdict.{Verdict}
use Rattle.sync_model.specs.declared.message.Verdict.TheVariants as verdicts
use Rattle.sync_model.specs.Clients.{Client}
use Rattle.sync_model.specs.Receiving.{ack_of, ack_for, acks_of, letter_of, update_of, updates_in, batch_letter, letter_in, is_fit, is_other_store, told, answered_with, answer_effect}
use Rattle.sync_model.specs.Servers.{mark_of}
use Rattle.sync_model.specs.Values.{same_kind}
use Rattle.replay_messages.specs.Entries.{is_empty}
use Rattle.replay_messages.specs.Replies.{marker_in, told_marker, told_answer, told_answers, told_entity, told_verdict, entries_of}
use Rattle.type_processor.specs.Fits.{LAST_VERSION, may_have}
use Rattle.replay_messages.specs.Forms.{IsPlain, IsPlainValue, IsPlainCall, form, call_formed, verdict_formed}
use Rattle.replay_messages.specs.Sealed.{plain_specifics}
use Rattle.replay_messages.proofs.PlainEntries.{said_plainly}
use Rattle.replay_messages.specs.Messages.{reply_told}
use Rattle.replay_client.specs.declared.letters.Letters.{Letters}
use Rattle.replay_client.specs.Happenings.{HappensAlone}
use Rattle.replay_client.specs.Readings.{ack_at, ack_by, ack_read, acks_read, value_read, update_at, update_read, updates_read, batch_read, letters_read}
use Rattle.replay_client.specs.Mail.{IsPlainAck, IsPlainTask}
use Rattle.replay_client.specs.Replies.{IsVersioned, IsPlainWrite, IsReplyTo, with_letters}
use Rattle.replay_client.proofs.Effects.{alone}
use Rattle.replay_client.proofs.HeldLemmas.{all_append}

-- a version is read as it was told
same_version : (version : ℕ) → version ≤ LAST_VERSION → cast_unsigned w64 (cast_signed w64 version) ≡ version
same_version version most = of_z-to_z w64 version (omega (arith, most))

is_last : (version : ℕ) → version ≤ LAST_VERSION → nat_le version LAST_VERSION ≡ true
is_last version most = le-leb version LAST_VERSION most

where_true : {A : Type 0} (test : Bool) (x y : A) → test ≡ true → cond test x y ≡ x
where_true test x y is = rw is refl

where_false : {A : Type 0} (test : Bool) (x y : A) → test ≡ false → cond test x y ≡ y
where_false test x y is = rw is refl

ack_told : (seed : ℕ) (entry : Entry Content) (answer : Answer) → IsPlain entry → IsVersioned answer → ack_read entry (told_answer (form seed entry) answer) ≡ ack_for Preference entry answer
ack_told seed entry (Success version) plain most =
    ap (ack_at entry) (same_version version most)
    ∙ where_true (nat_le version LAST_VERSION) (ack_of entry version ∷ []) [] (is_last version most)
    ∙ sym (where_true (same_kind entry.key.kind Preference) (ack_of entry version ∷ []) [] (ap (λ kind. same_kind kind Preference) plain.kind))
ack_told seed entry Conflict plain most = refl
ack_told seed entry Invalid plain most = refl
ack_told seed entry OverQuota plain most = refl

acks_told : (seed : ℕ) (entries : List (Entry Content)) (answers : List Answer) → AllByRecursion IsPlain entries → AllByRecursion IsVersioned answers
    → acks_read entries (told_answers (map (form seed) entries) answers) ≡ acks_of Preference entries answers
unfolding acks_read told_answers acks_of
acks_told seed [] answers plain most = refl
acks_told seed (entry ∷ entries) [] plain most = refl
acks_told seed (entry ∷ entries) (answer ∷ answers) plain most =
    (λ i. ack_told seed entry answer plain.0 most.0 i ++ acks_told seed entries answers plain.1 most.1 i)

length-told : (seed : ℕ) (entries : List (Entry Content)) (answers : List Answer) → length answers ≤ length entries → length (told_answers (map (form seed) entries) answers) ≡ length answers
unfolding told_answers
length-told seed [] [] few = refl
length-told seed [] (answer ∷ answers) few = absurd (omega (arith, few))
length-told seed (entry ∷ entries) [] few = refl
length-told seed (entry ∷ entries) (answer ∷ answers) few = ap suc (length-told seed entries answers (omega (arith, few)))

-- the answers to a commit of preferences acknowledge no keys of another type
no_ack : (kind : Kind) (entry : Entry Content) (answer : Answer) → same_kind Preference kind ≡ false → IsPlain entry → ack_for kind entry answer ≡ []
no_ack kind entry (Success version) other plain =
    where_false (same_kind entry.key.kind kind) (ack_of entry version ∷ []) [] (ap (λ own. same_kind own kind) plain.kind ∙ other)
no_ack kind entry Conflict other plain = refl
no_ack kind entry Invalid other plain = refl
no_ack kind entry OverQuota other plain = refl

no_acks : (kind : Kind) (entries : List (Entry Content)) (answers : List Answer) → same_kind Preference kind ≡ false → AllByRecursion IsPlain entries → acks_of kind entries answers ≡ []
unfolding acks_of
no_acks kind [] answers other plain = refl
no_acks kind (entry ∷ entries) [] other plain = refl
no_acks kind (entry ∷ entries) (answer ∷ answers) other plain =
    ap (λ acks. acks ++ acks_of kind entries answers) (no_ack kind entry answer other plain.0) ∙ no_acks kind entries answers other plain.1

-- nor are writes of preferences updates of another type
no_updates : (kind : Kind) (entries : List (Entry Content)) → same_kind Preference kind ≡ false → AllByRecursion IsPlainWrite entries → updates_in kind entries ≡ []
unfolding updates_in
no_updates kind [] other plain = refl
no_updates kind (entry ∷ entries) other plain =
    ap (λ updates. updates ++ updates_in kind entries)
    (where_false (same_kind entry.key.kind kind) (update_of entry ∷ []) [] (ap (λ own. same_kind own kind) plain.0.plain.kind ∙ other))
    ∙ no_updates kind entries other plain.1

value_told : (value : Value) → IsPlainValue value → value_read (is_empty (plain_specifics Preference value)) (plain_specifics Preference value) ≡ Some value
value_told values.Absent plain = refl
value_told (values.Preference preference) plain = refl
value_told (values.Password password) plain = absurd plain
value_told (values.Nigori nigori) plain = absurd plain

update_told : (seed : ℕ) (entry : Entry Content) → IsPlainWrite entry
    → update_read (told_entity (form seed entry)) ≡ (if same_kind entry.key.kind Preference then update_of entry ∷ [] else [])
update_told seed entry plain =
    ap (λ said. update_read (told_entity (record (form seed entry) { content = Some said }))) (said_plainly seed entry plain.plain)
    ∙ ap (λ kind. update_at entry.key.hash (cast_unsigned w64 (cast_signed w64 entry.version)) (value_read (is_empty (plain_specifics kind entry.content.value)) (plain_specifics kind entry.content.value))) plain.plain.kind
    ∙ ap (update_at entry.key.hash (cast_unsigned w64 (cast_signed w64 entry.version))) (value_told entry.content.value plain.plain.value)
    ∙ ap (λ version. update_at entry.key.hash version (Some entry.content.value)) (same_version entry.version plain.version)
    ∙ where_true (nat_le entry.version LAST_VERSION) (record { hash = entry.key.hash; version = entry.version; value = entry.content.value; lock = None } ∷ []) [] (is_last entry.version plain.version)
    ∙ ap (λ lock. record { hash = entry.key.hash; version = entry.version; value = entry.content.value; lock = lock } ∷ []) (sym plain.plain.unlocked)
    ∙ sym (where_true (same_kind entry.key.kind Preference) (update_of entry ∷ []) [] (ap (λ kind. same_kind kind Preference) plain.plain.kind))

updates_told : (seed : ℕ) (entries : List (Entry Content)) → AllByRecursion IsPlainWrite entries → updates_read (map told_entity (map (form seed) entries)) ≡ updates_in Preference entries
unfolding updates_read updates_in
updates_told seed [] plain = refl
updates_told seed (entry ∷ entries) plain = (λ i. update_told seed entry plain.0 i ++ updates_told seed entries plain.1 i)

marks_told : (marks : List Marker) → map marker_in (map told_marker marks) ≡ marks
marks_told [] = refl
marks_told (mark ∷ marks) = ap (λ rest. mark ∷ rest) (marks_told marks)

batch_told : (kind : Kind) (asked : Option ℕ) (read : List Update) (marks : List Marker) (updates : Updates Content) → read ≡ updates_in kind updates.entries → marks ≡ updates.marks
    → batch_read kind asked read marks ≡ batch_letter kind asked updates
batch_told kind None read marks updates is is_marks = refl
batch_told kind (Some asked) read marks updates is is_marks = (λ i. batch_read kind (Some asked) (is i) (is_marks i))

-- what a reply says of each type
abbrev letters_of : Call Content → Verdict Content → Letters
letters_of call verdict = record {
  nigori = letter_in Nigori call verdict;
  preference = letter_in Preference call verdict;
  password = letter_in Password call verdict;
}

-- what a reply says of each type, if it answers the call
abbrev letters_if_fit : Call Content → Verdict Content → Option Letters
letters_if_fit call verdict = if is_fit call verdict then Some (letters_of call verdict) else None

-- what a message tells of a verdict
abbrev told_of : (seed : ℕ) → Call Content → Verdict Content → Said
told_of seed call verdict = told_verdict (entries_of (call_formed seed call)) (verdict_formed seed verdict)

letters_told : (seed : ℕ) (call : Call Content) (verdict : Verdict Content) → IsPlainCall call → IsReplyTo call verdict → letters_read call (told_of seed call verdict) ≡ letters_if_fit call verdict
unfolding letters_read
letters_told seed (calls.Commit entries) (verdicts.Committed answers) plain reply =
    (λ i. if length entries == length-told seed entries answers reply.0 i then Some record {
      nigori = letter_of (sym (no_acks Nigori entries answers refl plain) i);
      preference = letter_of (acks_told seed entries answers plain reply.1 i);
      password = letter_of (sym (no_acks Password entries answers refl plain) i);
    } else None)
letters_told seed (calls.Commit entries) (verdicts.Updated updates) plain reply = refl
letters_told seed (calls.Commit entries) (verdicts.Refused code) plain reply = refl
letters_told seed (calls.Updates marks) (verdicts.Committed answers) plain reply = refl
letters_told seed (calls.Updates marks) (verdicts.Updated updates) plain reply =
    (λ i. Some record {
      nigori = batch_told Nigori (mark_of Nigori marks) [] (map marker_in (map told_marker updates.marks)) updates (sym (no_updates Nigori updates.entries refl reply)) (marks_told updates.marks) i;
      preference = batch_told Preference (mark_of Preference marks) (updates_read (map told_entity (map (form seed) updates.entries))) (map marker_in (map told_marker updates.marks)) updates (updates_told seed updates.entries reply) (marks_told updates.marks) i;
      password = batch_told Password (mark_of Password marks) [] (map marker_in (map told_marker updates.marks)) updates (sym (no_updates Password updates.entries refl reply)) (marks_told updates.marks) i;
    })
letters_told seed (calls.Updates marks) (verdicts.Refused code) plain reply = refl

birthday_told : (seed : ℕ) (request : Request Content) (reply : Reply Content) (message : FromServer) → message ≡ reply_told seed request reply → message.birthday ≡ reply.birthday
unfolding reply_told
birthday_told seed request reply message is = ap (λ (said : FromServer). said.birthday) is

read_as_told : (seed : ℕ) (request : Request Content) (reply : Reply Content) (message : FromServer) → message ≡ reply_told seed request reply → IsPlainCall request.call → IsReplyTo request.call reply.verdict
    → letters_read request.call message.reply ≡ letters_if_fit request.call reply.verdict
unfolding reply_told
read_as_told seed request reply message is plain fits =
    ap (λ (said : FromServer). letters_read request.call said.reply) is ∙ letters_told seed request.call reply.verdict plain fits

unfit_if : (fit : Bool) (letters : Letters) → cond fit (Some letters) None ≡ None → fit ≡ false
unfit_if true letters is = absurd (true≢false (ap is_some is))
unfit_if false letters is = refl

fit_if : (fit : Bool) (letters found : Letters) → cond fit (Some letters) None ≡ Some found → (fit ≡ true) × (found ≡ letters)
fit_if true letters found is = (refl, ap (λ (some : Option Letters). unwrap_or some letters) (sym is))
fit_if false letters found is = absurd (false≢true (ap is_some is))

or_true : (a b : Bool) → b ≡ true → (a || b) ≡ true
or_true true b is = refl
or_true false b is = is

or_false : (a b : Bool) → a ≡ false → b ≡ false → (a || b) ≡ false
or_false a b is is_not = rw is is_not

-- a reply that just ends the request
ends : (client : Client) (request : Request Content) (reply : Reply Content)
    → (is_other_store client.birthday reply.birthday || not (is_fit request.call reply.verdict)) ≡ true
    → HappensAlone (answer_effect request reply client) Done client (record client { outstanding = None })
unfolding answer_effect
ends client request reply is =
    alone (answer_effect request reply client) (answered_with request reply client) Done Done client (record client { outstanding = None }) refl refl
    (sym (where_true (is_other_store client.birthday reply.birthday || not (is_fit request.call reply.verdict)) (record client { outstanding = None }) (told request.call reply client) is))

-- a reply of another store
pub other_store_ends : (seed : ℕ) (client : Client) (request : Request Content) (reply : Reply Content) (message : FromServer) → message ≡ reply_told seed request reply
    → is_other_store client.birthday message.birthday ≡ true → HappensAlone (answer_effect request reply client) Done client (record client { outstanding = None })
other_store_ends seed client request reply message is other =
    ends client request reply
    (ap (λ test. test || not (is_fit request.call reply.verdict)) (ap (is_other_store client.birthday) (sym (birthday_told seed request reply message is)) ∙ other))

-- a reply that does not answer the request
pub unfit_ends : (seed : ℕ) (client : Client) (request : Request Content) (reply : Reply Content) (message : FromServer) → message ≡ reply_told seed request reply
    → IsPlainCall request.call → IsReplyTo request.call reply.verdict → letters_read request.call message.reply ≡ None
    → HappensAlone (answer_effect request reply client) Done client (record client { outstanding = None })
unfit_ends seed client request reply message is plain fits none =
    ends client request reply
    (or_true (is_other_store client.birthday reply.birthday) (not (is_fit request.call reply.verdict))
    (ap not (unfit_if (is_fit request.call reply.verdict) (letters_of request.call reply.verdict) (sym (read_as_told seed request reply message is plain fits) ∙ none))))

-- a reply that answers the request
pub answer_taken : (seed : ℕ) (client : Client) (request : Request Content) (reply : Reply Content) (message : FromServer) (letters : Letters) (birthday : Option (List ℕ)) (new : Client) → message ≡ reply_told seed request reply
    → IsPlainCall request.call → IsReplyTo request.call reply.verdict → is_other_store client.birthday message.birthday ≡ false
    → letters_read request.call message.reply ≡ Some letters → birthday ≡ option_or client.birthday message.birthday → new ≡ with_letters client letters birthday
    → HappensAlone (answer_effect request reply client) Done client new
unfolding answer_effect
answer_taken seed client request reply message letters birthday new is plain fits known read is_birthday is_new =
    let same : message.birthday ≡ reply.birthday = birthday_told seed request reply message is in
    let fit : (is_fit request.call reply.verdict ≡ true) × (letters ≡ letters_of request.call reply.verdict)
    = fit_if (is_fit request.call reply.verdict) (letters_of request.call reply.verdict) letters (sym (read_as_told seed request reply message is plain fits) ∙ read) in
    alone (answer_effect request reply client) (answered_with request reply client) Done Done client new refl refl
    (is_new
    ∙ (λ i. with_letters client (fit.1 i) ((is_birthday ∙ ap (option_or client.birthday) same) i))
    ∙ sym (where_false (is_other_store client.birthday reply.birthday || not (is_fit request.call reply.verdict)) (record client { outstanding = None }) (told request.call reply client)
    (or_false (is_other_store client.birthday reply.birthday) (not (is_fit request.call reply.verdict)) (ap (is_other_store client.birthday) (sym same) ∙ known) (ap not fit.0))))

may_have_it : (value : Value) → IsPlainValue value → IsTrue (may_have Preference value)
may_have_it values.Absent plain = refl
may_have_it (values.Preference preference) plain = refl
may_have_it (values.Password password) plain = absurd plain
may_have_it (values.Nigori nigori) plain = absurd plain

ack_if : (entry : Entry Content) (version : ℕ) (test : Bool) → IsPlain entry → nat_le version LAST_VERSION ≡ test → AllByRecursion IsPlainAck (cond test (ack_of entry version ∷ []) [])
ack_if entry version true plain is = (
  record {
    fits = record { version = leb-true version LAST_VERSION is; value = may_have_it entry.content.value plain.value };
    value = plain.value;
  },
  tt,
)
ack_if entry version false plain is = tt

plain_ack : (entry : Entry Content) (version : ℕ) (outcome : Outcome) → IsPlain entry → AllByRecursion IsPlainAck (ack_by entry version outcome)
plain_ack entry version outcomes.Success plain = ack_if entry version (nat_le version LAST_VERSION) plain refl
plain_ack entry version outcomes.Conflict plain = tt
plain_ack entry version outcomes.Retry plain = tt
plain_ack entry version outcomes.Invalid plain = tt
plain_ack entry version outcomes.OverQuota plain = tt
plain_ack entry version outcomes.Transient plain = tt

plain_acks : (entries : List (Entry Content)) (answers : List EntryAnswer) → AllByRecursion IsPlain entries → AllByRecursion IsPlainAck (acks_read entries answers)
unfolding acks_read
plain_acks [] answers plain = tt
plain_acks (entry ∷ entries) [] plain = tt
plain_acks (entry ∷ entries) (answer ∷ answers) plain =
    all_append IsPlainAck (ack_read entry answer) (acks_read entries answers) (plain_ack entry (cast_unsigned w64 answer.version) answer.outcome plain.0) (plain_acks entries answers plain.1)

plain_letter : (acks : List Ack) → AllByRecursion IsPlainAck acks → IfSome (letter_of acks) IsPlainTask
plain_letter [] all = tt
plain_letter (ack ∷ acks) all = all

-- the acknowledgements of a commit of preferences make a plain letter
pub commit_letter : (entries : List (Entry Content)) (answers : List EntryAnswer) (acks : List Ack) (letter : Option Task) → AllByRecursion IsPlain entries → acks ≡ acks_read entries answers
    → letter ≡ letter_of acks → IfSome letter IsPlainTask
commit_letter entries answers acks letter plain is is_letter =
    subst (λ (letter : Option Task). IfSome letter IsPlainTask) (sym (is_letter ∙ ap letter_of is)) (plain_letter (acks_read entries answers) (plain_acks entries answers plain))
