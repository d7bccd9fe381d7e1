-- The replies that a server gives.
use Rattle.std.specs.Prelude.{ℕ, ◌≤◌, List, length, Option, None}
use Rattle.std.specs.List.{AllByRecursion}
use Rattle.sync_model.specs.declared.message.Answer.{Answer}
use Rattle.sync_model.specs.declared.message.Answer.TheVariants.{Success, Conflict, Invalid, OverQuota}
use Rattle.sync_model.specs.declared.message.Call.{Call}
use Rattle.sync_model.specs.declared.message.Call.TheVariants as calls
use Rattle.sync_model.specs.declared.message.Content.{Content}
use Rattle.sync_model.specs.declared.message.Entry.{Entry}
use Rattle.sync_model.specs.declared.message.Verdict.{Verdict}
use Rattle.sync_model.specs.declared.message.Verdict.TheVariants as verdicts
use Rattle.sync_model.specs.Clients.{Client}
use Rattle.type_processor.specs.Fits.{LAST_VERSION}
use Rattle.replay_messages.specs.Forms.{IsPlain}
use Rattle.replay_client.specs.declared.letters.Letters.{Letters}

-- an answer's version is one that a write may have
abbrev pub IsVersioned : Answer → Type 0
IsVersioned (Success version) = version ≤ LAST_VERSION
IsVersioned Conflict = Unit {0}
IsVersioned Invalid = Unit {0}
IsVersioned OverQuota = Unit {0}

-- a write of a preference that nothing seals, with a version that a write may have
pub record IsPlainWrite (write : Entry Content) : Type 0 where
  pub plain : IsPlain write
  pub version : write.version ≤ LAST_VERSION

-- how many entries a call asks to store
abbrev pub entry_count : Call Content → ℕ
entry_count (calls.Commit entries) = length entries
entry_count (calls.Updates marks) = 0

-- What a server says to a call of preferences that nothing seals: at most one answer for each entry, and writes that
-- nothing seals. A message has no more answers than there are entries, so it could not tell of more.
abbrev pub IsReplyTo : Call Content → Verdict Content → Type 0
IsReplyTo call (verdicts.Committed answers) = (length answers ≤ entry_count call) × AllByRecursion IsVersioned answers
IsReplyTo call (verdicts.Updated updates) = AllByRecursion IsPlainWrite updates.entries
IsReplyTo call (verdicts.Refused code) = Unit {0}

-- a client that has taken these letters, and knows this birthday
abbrev pub with_letters : Client → Letters → Option (List ℕ) → Client
with_letters client letters birthday = record client {
  nigori = record client.nigori { letter = letters.nigori };
  preference = record client.preference { letter = letters.preference };
  password = record client.password { letter = letters.password };
  birthday = birthday;
  outstanding = None;
}
