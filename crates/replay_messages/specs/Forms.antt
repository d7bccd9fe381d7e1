-- Entries as a server has them, and those that nothing seals.
use Rattle.std.specs.Prelude.{◌≡◌, ℕ, ◌^◌, ◌<◌, map, Option, Some, None}
use Rattle.std.specs.List.{AllByRecursion}
use Rattle.client_tags.specs.declared.Kind.{Kind}
use Rattle.client_tags.specs.declared.Kind.TheVariants.{Preference as preference_kind}
use Rattle.client_tags.specs.Hashes.{IsHash}
use Rattle.sync_specifics.specs.declared.specifics.Specifics.{Specifics}
use Rattle.message_fields.specs.Unknown.{IsCanonicalExtra}
use Rattle.sync_specifics.specs.Preferences.{preference_fields}
use Rattle.sync_values.specs.declared.value.Value.{Value}
use Rattle.sync_values.specs.declared.value.Value.TheVariants.{Absent, Preference, Password, Nigori}
use Rattle.sync_model.specs.declared.message.Call.{Call}
use Rattle.sync_model.specs.declared.message.Call.TheVariants as calls
use Rattle.sync_model.specs.declared.message.Content.{Content}
use Rattle.sync_model.specs.declared.message.Entry.{Entry}
use Rattle.sync_model.specs.declared.message.Reply.{Reply}
use Rattle.sync_model.specs.declared.message.Request.{Request}
use Rattle.sync_model.specs.declared.message.Verdict.{Verdict}
use Rattle.sync_model.specs.declared.message.Verdict.TheVariants as verdicts
use Rattle.replay_messages.specs.Sealed.{specifics_of}

-- an entry as a server has it, in a run of this seed: with its specifics
abbrev pub form : ℕ → Entry Content → Entry (Option Specifics)
form seed entry = record {
  key = entry.key;
  version = entry.version;
  content = Some (specifics_of seed entry.key.kind entry.content.value entry.content.draw);
}

-- a preference with a canonical extra, or none
abbrev pub IsPlainValue : Value → Type 0
IsPlainValue Absent = Unit {0}
IsPlainValue (Preference preference) = IsCanonicalExtra preference_fields preference.extra
IsPlainValue (Password password) = ⊥
IsPlainValue (Nigori nigori) = ⊥

-- an entry of a preference that nothing seals: its specifics say all of its value
pub record IsPlain (entry : Entry Content) : Type 0 where
  pub kind : entry.key.kind ≡ preference_kind
  pub hash : IsHash entry.key.hash
  pub value : IsPlainValue entry.content.value
  pub unlocked : entry.content.lock ≡ None
  pub undrawn : entry.content.draw ≡ None
  pub version : entry.version < 2 ^ 64

-- nothing seals the entries of a commit, and the marks fit their type
abbrev pub IsPlainCall : Call Content → Type 0
IsPlainCall (calls.Commit entries) = AllByRecursion IsPlain entries
IsPlainCall (calls.Updates marks) = AllByRecursion (λ marker. marker.mark < 2 ^ 64) marks

-- what a client asks, with the entries as a server has them
abbrev pub call_formed : ℕ → Call Content → Call (Option Specifics)
call_formed seed (calls.Commit entries) = calls.Commit (map (form seed) entries)
call_formed seed (calls.Updates marks) = calls.Updates marks

-- a request with its entries as a server has them
abbrev pub request_formed : ℕ → Request Content → Request (Option Specifics)
request_formed seed request = record { birthday = request.birthday; call = call_formed seed request.call }

-- what a server says, with the entries as it has them
abbrev pub verdict_formed : ℕ → Verdict Content → Verdict (Option Specifics)
verdict_formed seed (verdicts.Committed answers) = verdicts.Committed answers
verdict_formed seed (verdicts.Updated updates) =
    verdicts.Updated (record { entries = map (form seed) updates.entries; remaining = updates.remaining; marks = updates.marks })
verdict_formed seed (verdicts.Refused code) = verdicts.Refused code

-- a reply with its entries as a server has them
abbrev pub reply_formed : ℕ → Reply Content → Reply (Option Specifics)
reply_formed seed reply = record { birthday = reply.birthday; verdict = verdict_formed seed reply.verdict }

-- nothing seals the entries that a server gives
abbrev pub IsPlainVerdict : Verdict Content → Type 0
IsPlainVerdict (verdicts.Committed answers) = Unit {0}
IsPlainVerdict (verdicts.Updated updates) = AllByRecursion IsPlain updates.entries
IsPlainVerdict (verdicts.Refused code) = Unit {0}

-- a reply whose entries nothing seals
abbrev pub IsPlainReply : Reply Content → Type 0
IsPlainReply reply = IsPlainVerdict reply.verdict
