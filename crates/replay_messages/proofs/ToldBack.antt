-- What a server reads of a client's message is what the client asked.
use Rattle.std.proofs.Common.{◌≡◌, ℕ, List, [], ◌∷◌, map, Option, refl, sym, ap, subst, ◌∙◌}
use Rattle.std.proofs.lemmas.Int.{of_z-to_z}
use Rattle.std.specs.Int.{w64}
use Rattle.std.specs.List.{AllByRecursion}
use Rattle.std.specs.Prelude.{if◌then◌else◌, Some}
use Rattle.client_tags.specs.declared.Kind.{Kind}
use Rattle.client_tags.specs.declared.Kind.TheVariants.{Preference}
use Rattle.sync_specifics.specs.declared.specifics.Specifics.{Specifics}
use Rattle.sync_values.specs.declared.value.Value.{Value}
use Rattle.sync_values.specs.declared.value.Value.TheVariants as values
use Rattle.sync_model.specs.declared.message.Call.{Call}
use Rattle.sync_model.specs.declared.message.Call.TheVariants as calls
use Rattle.sync_model.specs.declared.message.Content.{Content}
use Rattle.sync_model.specs.declared.message.Entry.{Entry}
use Rattle.sync_model.specs.declared.message.Marker.{Marker}
use Rattle.sync_model.specs.declared.message.Request.{Request}
use Rattle.sync_model.specs.Servers.{reply_to, history_served}
use Rattle.sync_model.specs.Values.{is_absent}
use Rattle.sync_model.specs.Worlds.{STORE_BIRTHDAY}
use Rattle.replay_messages.specs.Entries.{kind_of, may_not_be_stored, stored, no_entry, entry_in, is_invalid}
use Rattle.replay_messages.specs.Replies.{told_marker, marker_in, call_in, request_in, told_reply, reply_for, history_for}
use Rattle.replay_messages.specs.Forms.{form, IsPlainValue, IsPlain, IsPlainCall, call_formed, request_formed}
use Rattle.replay_messages.specs.Laws.{RepliesAgree, HistoriesAgree}
use Rattle.replay_messages.specs.Messages.{entity_of, call_told, request_told, reply_told}
use Rattle.replay_messages.specs.Sealed.{plain_specifics}
use Rattle.replay_messages.proofs.PlainEntries.{said_plainly}
use Rattle.replay_messages.proofs.Formed.{reply_to-formed, history_served-formed}

-- an entry of a type, a hash, a version and a value, as it is read of its entity
abbrev read_back : Kind → List ℕ → ℕ → Value → Entry (Option Specifics)
read_back kind hash version value =
    if may_not_be_stored (is_absent value) (plain_specifics kind value) then no_entry
    else (record {
      key = record { kind = kind_of (plain_specifics kind value); hash = hash };
      version = version;
      content = Some (stored (is_absent value) (plain_specifics kind value));
    })

-- an entry of these parts as a server has it
abbrev formed_of : Kind → List ℕ → ℕ → Value → Entry (Option Specifics)
formed_of kind hash version value = record {
  key = record { kind = kind; hash = hash };
  version = version;
  content = Some (plain_specifics kind value);
}

preference_back : (hash : List ℕ) (version : ℕ) (value : Value) → IsPlainValue value
    → read_back Preference hash version value ≡ formed_of Preference hash version value
preference_back hash version values.Absent plain = refl
preference_back hash version (values.Preference preference) plain = refl
preference_back hash version (values.Password password) plain = absurd plain
preference_back hash version (values.Nigori nigori) plain = absurd plain

entry_in-told : (seed : ℕ) (entry : Entry Content) → IsPlain entry → entry_in (entity_of seed entry) ≡ form seed entry
unfolding entry_in
entry_in-told seed entry plain =
    ap (λ said. entry_in (record (entity_of seed entry) { specifics = Some said })) (said_plainly seed entry plain)
    ∙ ap (λ (version : ℕ). read_back entry.key.kind entry.key.hash version entry.content.value) (of_z-to_z w64 entry.version plain.version)
    ∙ subst (λ (kind : Kind). read_back kind entry.key.hash entry.version entry.content.value ≡ formed_of kind entry.key.hash entry.version entry.content.value)
    (sym plain.kind) (preference_back entry.key.hash entry.version entry.content.value plain.value)
    ∙ ap (λ said. record (form seed entry) { content = Some said }) (sym (said_plainly seed entry plain))

entries_in-told : (seed : ℕ) (entries : List (Entry Content)) → AllByRecursion IsPlain entries → map entry_in (map (entity_of seed) entries) ≡ map (form seed) entries
entries_in-told seed [] plain = refl
entries_in-told seed (entry ∷ entries) plain = λ i. entry_in-told seed entry plain.0 i ∷ entries_in-told seed entries plain.1 i

markers_in-told : (marks : List Marker) → map marker_in (map told_marker marks) ≡ marks
markers_in-told [] = refl
markers_in-told (marker ∷ marks) = ap (λ (rest : List Marker). marker ∷ rest) (markers_in-told marks)

call_in-told : (seed client : ℕ) (call : Call Content) → IsPlainCall call → call_in (call_told seed client call) ≡ call_formed seed call
call_in-told seed client (calls.Commit entries) plain = ap calls.Commit (entries_in-told seed entries plain)
call_in-told seed client (calls.Updates marks) plain = ap calls.Updates (markers_in-told marks)

request_in-told : (seed client : ℕ) (request : Request Content) → IsPlainCall request.call
    → request_in (request_told seed client request) ≡ request_formed seed request
unfolding request_told
request_in-told seed client request plain =
    ap (λ (call : Call (Option Specifics)). record { birthday = request.birthday; call = call }) (call_in-told seed client request.call plain)

pub replies_agree : RepliesAgree
unfolding reply_for reply_told
replies_agree seed client history request plain =
    ap (λ (read : Request (Option Specifics)). told_reply read (reply_to is_invalid STORE_BIRTHDAY (map (form seed) history) read))
    (request_in-told seed client request plain)
    ∙ ap (told_reply (request_formed seed request)) (reply_to-formed seed STORE_BIRTHDAY history request plain)

pub histories_agree : HistoriesAgree
unfolding history_for
histories_agree seed client history request plain =
    ap (history_served is_invalid STORE_BIRTHDAY (map (form seed) history)) (request_in-told seed client request plain)
    ∙ history_served-formed seed STORE_BIRTHDAY history request plain
