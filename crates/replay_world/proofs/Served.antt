-- A server that is handed a request's message does what the model's server does.
use Rattle.std.proofs.Common.{◌≡◌, ℕ, ◌+◌, ◌-◌, ◌<◌, ◌≤◌, ◌^◌, arith, Bool, true, false, cond, List, [], ◌∷◌, ◌++◌, length, drop, map, refl, sym, ap, subst, ◌∙◌, append_assoc, length-append}
use Rattle.std.proofs.lemmas.List.{length-map}
use Rattle.std.proofs.Math.Seq.{drop-append_seam}
use Rattle.std.specs.Prelude.{reverse, Option}
use Rattle.std.specs.List.{AllByRecursion}
use Rattle.sync_specifics.specs.declared.specifics.Specifics.{Specifics}
use Rattle.sync_messages.specs.declared.message.FromServer.{FromServer}
use Rattle.sync_messages.specs.declared.message.ToServer.{ToServer}
use Rattle.sync_messages.specs.Spellings.{from_bytes}
use Rattle.sync_model.specs.declared.message.Answer.{Answer}
use Rattle.sync_model.specs.declared.message.Answer.TheVariants.{Success, Conflict, Invalid, OverQuota}
use Rattle.sync_model.specs.declared.message.Call.{Call}
use Rattle.sync_model.specs.declared.message.Call.TheVariants.{Commit, Updates}
use Rattle.sync_model.specs.declared.message.Content.{Content}
use Rattle.sync_model.specs.declared.message.Entry.{Entry}
use Rattle.sync_model.specs.declared.message.Key.{Key}
use Rattle.sync_model.specs.declared.message.Request.{Request}
use Rattle.sync_model.specs.History.{last_version, answer_to, history_with, committed, IsBased}
use Rattle.sync_model.specs.Servers.{is_foreign, history_after, reply_to, history_served}
use Rattle.sync_model.specs.Values.{same_key}
use Rattle.sync_model.specs.Worlds.{STORE_BIRTHDAY, is_invalid_entry}
use Rattle.sync_model.proofs.Versions.{history_served-IsBased}
use Rattle.replay_messages.specs.Replies.{reply_for, history_for, request_in}
use Rattle.replay_messages.specs.Forms.{form, IsPlain, IsPlainCall}
use Rattle.replay_messages.specs.Laws.{RepliesAgree, HistoriesAgree, HistoriesStayPlain, RepliesAreSayable}
use Rattle.replay_messages.specs.Messages.{request_told, reply_told}
use Rattle.replay_world.specs.Copies.{entries_of, answers_of, stored_by}
use Rattle.replay_world.specs.Outcomes.{served_reply, IsReply}
use Rattle.replay_world.specs.Servers.{IsServer}
use Rattle.replay_world.proofs.Answered.{replies_answer}
use Rattle.replay_world.proofs.Stored.{served_is}
use Rattle.replay_world.specs.declared.run_server.RunServer.TheInside.{Inside}

-- a history that has more writes than another, after the same ones
unfoldable pub IsLonger : {C : Type 0} → List (Entry C) → List (Entry C) → Type 0
IsLonger {C} history before = (more : List (Entry C)) × (history ≡ more ++ before)

with_answer : {C : Type 0} (history : List (Entry C)) (entry : Entry C) (answer : Answer) → IsLonger (history_with history entry answer) history
unfolding IsLonger
with_answer history entry (Success version) = (entry ∷ [], refl)
with_answer history entry Conflict = ([], refl)
with_answer history entry Invalid = ([], refl)
with_answer history entry OverQuota = ([], refl)

longer_still : {C : Type 0} (history next before : List (Entry C)) → IsLonger history next → IsLonger next before → IsLonger history before
unfolding IsLonger
longer_still history next before longer first =
    (longer.0 ++ first.0, longer.1 ∙ ap (λ (older : List (Entry _)). longer.0 ++ older) first.1 ∙ sym (append_assoc longer.0 first.0 before))

committed_longer : {C : Type 0} (is_invalid : Entry C → Bool) (history entries : List (Entry C)) → IsLonger (committed is_invalid history entries) history
unfolding committed IsLonger
committed_longer is_invalid history [] = ([], refl)
committed_longer is_invalid history (entry ∷ entries) =
    longer_still (committed is_invalid (history_with history entry (answer_to is_invalid history entry)) entries) (history_with history entry (answer_to is_invalid history entry)) history
    (committed_longer is_invalid (history_with history entry (answer_to is_invalid history entry)) entries) (with_answer history entry (answer_to is_invalid history entry))

after_longer : {C : Type 0} (is_invalid : Entry C → Bool) (history : List (Entry C)) (call : Call C) → IsLonger (history_after is_invalid history call) history
unfolding IsLonger
after_longer is_invalid history (Commit entries) = committed_longer is_invalid history entries
after_longer is_invalid history (Updates marks) = ([], refl)

by_birthday : {C : Type 0} (is_invalid : Entry C → Bool) (history : List (Entry C)) (call : Call C) (foreign : Bool) → IsLonger (cond foreign history (history_after is_invalid history call)) history
unfolding IsLonger
by_birthday is_invalid history call true = ([], refl)
by_birthday is_invalid history call false = after_longer is_invalid history call

-- a request adds writes to a history
pub served_longer : {C : Type 0} (is_invalid : Entry C → Bool) (birthday : List ℕ) (history : List (Entry C)) (request : Request C) → IsLonger (history_served is_invalid birthday history request) history
unfolding history_served
served_longer is_invalid birthday history request = by_birthday is_invalid history request.call (is_foreign birthday request.birthday)

-- a message adds writes to a history
pub message_longer : (birthday : List ℕ) (history next : List (Entry (Option Specifics))) (message : ToServer) → next ≡ history_for birthday history message → IsLonger next history
unfolding history_for IsLonger
message_longer birthday history next message is =
    let longer = served_longer _ birthday history (request_in message) in (longer.0, is ∙ longer.1)

-- a longer history has more writes
pub longer_length : {C : Type 0} (history before : List (Entry C)) → IsLonger history before → length before ≤ length history
unfolding IsLonger
longer_length history before longer = omega (arith, ap length longer.1, length-append longer.0 before)

-- what a longer history has beyond the writes before
pub longer_drop : {C : Type 0} (history before : List (Entry C)) → IsLonger history before → drop (length history - length before) history ≡ before
unfolding IsLonger
longer_drop history before longer =
    let count : length history - length before ≡ length longer.0 = omega (arith, ap length longer.1, length-append longer.0 before) in
    ap (λ n. drop n history) count ∙ ap (drop (length longer.0)) longer.1 ∙ drop-append_seam longer.0 before

-- taking back as many writes as a message added leaves the writes before
pub taken_back : (birthday : List ℕ) (history next back : List (Entry (Option Specifics))) (message : ToServer) (before after : ℕ)
    → next ≡ history_for birthday history message → before ≡ length history → after ≡ length next → back ≡ drop (after - before) next → back ≡ history
taken_back birthday history next back message before after is is_before is_after is_back =
    is_back ∙ (λ i. drop (is_after i - is_before i) next) ∙ longer_drop next history (message_longer birthday history next message is)

pub counted_more : (birthday : List ℕ) (history next : List (Entry (Option Specifics))) (message : ToServer) (before after : ℕ)
    → next ≡ history_for birthday history message → before ≡ length history → after ≡ length next → before ≤ after
counted_more birthday history next message before after is is_before is_after =
    omega (arith, is_before, is_after, longer_length next history (message_longer birthday history next message is))

last_version-formed : (seed : ℕ) (history : List (Entry Content)) (key : Key) → last_version (map (form seed) history) key ≡ last_version history key
last_version-formed seed [] key = refl
last_version-formed seed (write ∷ older) key =
    λ i. cond (same_key write.key key) (length-map older (form seed) i + 1) (last_version-formed seed older key i)

-- the writes as a server has them are based as they are
pub IsBased-formed : (seed : ℕ) (history : List (Entry Content)) → IsBased history → IsBased (map (form seed) history)
IsBased-formed seed [] based = tt
IsBased-formed seed (write ∷ older) based = (based.0 ∙ sym (last_version-formed seed older write.key), IsBased-formed seed older based.1)

-- the server's own history is based
pub stored_based : (inside : Inside) → IsServer inside → IsBased inside.server.history
stored_based inside is = subst (λ (history : List (Entry (Option Specifics))). IsBased history) (sym (is.stored 0)) (IsBased-formed 0 (reverse inside.writes.items) is.based)

-- the reply to a request's message
pub reply_is : (seed client : ℕ) (history : List (Entry Content)) (request : Request Content) (birthday : List ℕ) (stored : List (Entry (Option Specifics))) (message : ToServer) (reply : FromServer)
    → RepliesAgree → birthday ≡ STORE_BIRTHDAY → stored ≡ map (form seed) history → IsPlainCall request.call → message ≡ request_told seed client request
    → reply ≡ reply_for birthday stored message → reply ≡ reply_told seed request (reply_to is_invalid_entry STORE_BIRTHDAY history request)
reply_is seed client history request birthday stored message reply agree is_birthday is_stored plain is_message is =
    is ∙ (λ i. reply_for (is_birthday i) (is_stored i) (is_message i)) ∙ agree seed client history request plain

-- the server's own history after a request's message
pub stored_is : (seed client : ℕ) (history : List (Entry Content)) (request : Request Content) (birthday : List ℕ) (stored next : List (Entry (Option Specifics))) (message : ToServer)
    → HistoriesAgree → birthday ≡ STORE_BIRTHDAY → stored ≡ map (form seed) history → IsPlainCall request.call → message ≡ request_told seed client request
    → next ≡ history_for birthday stored message → next ≡ map (form seed) (history_served is_invalid_entry STORE_BIRTHDAY history request)
stored_is seed client history request birthday stored next message agree is_birthday is_stored plain is_message is =
    is ∙ (λ i. history_for (is_birthday i) (is_stored i) (is_message i)) ∙ agree seed client history request plain

-- a server that keeps what a request made of its history is right
pub still_server : (before after : Inside) (request : Request Content) → IsServer before → IsPlainCall request.call → HistoriesStayPlain
    → after.server.birthday ≡ STORE_BIRTHDAY
    → reverse after.writes.items ≡ history_served is_invalid_entry STORE_BIRTHDAY (reverse before.writes.items) request
    → ((seed : ℕ) → after.server.history ≡ map (form seed) (history_served is_invalid_entry STORE_BIRTHDAY (reverse before.writes.items) request))
    → IsServer after
still_server before after request is plain stay birthday written stored = record {
  birthday = birthday;
  stored = λ seed. stored seed ∙ ap (λ (history : List (Entry Content)). map (form seed) history) (sym written);
  plain = subst (λ (history : List (Entry Content)). AllByRecursion IsPlain history) (sym written) (stay (reverse before.writes.items) request is.plain plain);
  based = subst (λ (history : List (Entry Content)). IsBased history) (sym written) (history_served-IsBased is_invalid_entry STORE_BIRTHDAY (reverse before.writes.items) request is.based);
}

-- the writes, the newest first, after what was stored of a request joined them
pub kept_writes : (seed client : ℕ) (inside : Inside) (request : Request Content) (message : ToServer) (reply : FromServer) (written : List (Entry Content))
    → RepliesAgree → IsServer inside → IsPlainCall request.call → message ≡ request_told seed client request
    → reply ≡ reply_for inside.server.birthday inside.server.history message
    → written ≡ inside.writes.items ++ stored_by (entries_of request.call) (answers_of reply.reply)
    → reverse written ≡ history_served is_invalid_entry STORE_BIRTHDAY (reverse inside.writes.items) request
kept_writes seed client inside request message reply written agree is plain is_message is_reply is_written =
    served_is seed inside.writes.items written request (is_written
    ∙ ap (λ (told : FromServer). inside.writes.items ++ stored_by (entries_of request.call) (answers_of told.reply))
    (reply_is seed client (reverse inside.writes.items) request inside.server.birthday inside.server.history message reply agree is.birthday (is.stored seed) plain is_message is_reply))

-- the bytes of the reply to a request's message
pub told_reply : (client : ℕ) (inside : Inside) (request : Request Content) (message : ToServer) (reply : FromServer) (bytes : List ℕ)
    → RepliesAgree → RepliesAreSayable → IsServer inside → IsPlainCall request.call → length (reverse inside.writes.items) < 2 ^ 63 → ((seed : ℕ) → message ≡ request_told seed client request)
    → reply ≡ reply_for inside.server.birthday inside.server.history message → bytes ≡ from_bytes reply
    → IsReply request (served_reply (reverse inside.writes.items) request) bytes
told_reply client inside request message reply bytes agree say is plain within is_message is_reply is_bytes = record {
  answers = replies_answer (reverse inside.writes.items) request is.plain within;
  is_told = λ seed. is_bytes
      ∙ ap from_bytes (reply_is seed client (reverse inside.writes.items) request inside.server.birthday inside.server.history message reply agree is.birthday (is.stored seed) plain (is_message seed) is_reply);
  sayable = λ seed. say seed (reverse inside.writes.items) request is.plain within plain;
}
