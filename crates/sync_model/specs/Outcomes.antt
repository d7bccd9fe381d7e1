-- What outcomes of events carry: the entries of a request, and the writes of a reply.
use Rattle.std.specs.Prelude.{List, []}
use Rattle.sync_model.specs.declared.event.EventOutcome.{EventOutcome}
use Rattle.sync_model.specs.declared.event.EventOutcome.TheVariants.{Requested, Delivered}
use Rattle.sync_model.specs.declared.message.Call.{Call}
use Rattle.sync_model.specs.declared.message.Call.TheVariants.{Commit, Updates as AskUpdates}
use Rattle.sync_model.specs.declared.message.Content.{Content}
use Rattle.sync_model.specs.declared.message.Entry.{Entry}
use Rattle.sync_model.specs.declared.message.Verdict.{Verdict}
use Rattle.sync_model.specs.declared.message.Verdict.TheVariants.{Updated}

-- the entries of a commit
abbrev pub entries_in : Call Content → List (Entry Content)
entries_in (Commit entries) = entries
entries_in (AskUpdates marks) = []

-- the entries of the request that an event made
abbrev pub entries_sent : EventOutcome → List (Entry Content)
entries_sent (Requested client request) = entries_in request.call
entries_sent _ = []

-- the writes that a verdict gives
abbrev pub writes_in : Verdict Content → List (Entry Content)
writes_in (Updated updates) = updates.entries
writes_in _ = []

-- the writes that a delivery gave
abbrev pub writes_given : EventOutcome → List (Entry Content)
writes_given (Delivered request reply) = writes_in reply.verdict
writes_given _ = []
