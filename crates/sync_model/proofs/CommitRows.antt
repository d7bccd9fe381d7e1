-- Worked runs of commits: repeats, lost replies, tombstones.
use Rattle.std.proofs.Common.{◌≡◌, ℕ, List, [], ◌∷◌, ◌++◌, refl}
use Rattle.std.specs.Fmt.{digits}
use Rattle.client_tags.specs.declared.Kind.TheVariants.{Nigori, Preference, Password}
use Rattle.sync_model.specs.declared.event.Event.{Event}
use Rattle.sync_model.specs.declared.event.Event.TheVariants.{Edit, Turn, Gather, Post, Ask, Offer, Lose, Deliver, Answer}
use Rattle.sync_model.specs.Text.{text_word, kind_word}
use Rattle.sync_model.specs.Values.{same_value}
use Rattle.sync_model.specs.Settings.{names, with_keys}
use Rattle.sync_model.specs.History.{answer_to, committed, answers_to}
use Rattle.sync_model.specs.Servers.{wanted_writes, reply_to, history_served}
use Rattle.sync_model.specs.Conflicts.{row_of}
use Rattle.sync_model.specs.KeyStates.{noted, is_echo, updated, fate_of_update, acknowledged, ended}
use Rattle.sync_model.specs.Sides.{after_offers, after_update, after_updates, after_ack, after_acks, update_notes, notes_of, after_task, task_notes}
use Rattle.sync_model.specs.Offers.{with_all_due, with_reseals}
use Rattle.sync_model.specs.Clients.{bag_with}
use Rattle.sync_model.specs.Sending.{sealed, drawn_for, gather_effect, ask_effect, offer_effect, lose_effect}
use Rattle.sync_model.specs.Receiving.{acks_of, updates_in, answer_effect, post_effect, turn_effect}
use Rattle.sync_model.specs.Changes.{edit_effect, change_effect, cut_effect, crash_effect, set_pass_effect, give_pass_effect}
use Rattle.sync_model.specs.Worlds.{outcome_at, affected, STORE_BIRTHDAY, stepped, run}
use Rattle.sync_model.specs.Fates.{fate_of, edits_made}
use Rattle.sync_model.specs.Report.{events_text, server_text, key_text, nigori_text, extra_text, value_text, lock_text, entity_line, entity_lines, client_text, side_text, value_line_text, row_word, fate_text, fate_line, client_lines, clients_lines, totals_text, report}
use Rattle.std.specs.Prelude.{zero, suc, length}
use Rattle.sync_values.specs.declared.edit.Edit.TheVariants.{SetPreference}
use Rattle.sync_model.specs.Worlds.{opening, client_at}
use Rattle.sync_model.proofs.Runs.{symbols, text_of, after, events_of, set, del}

-- a world of one client before any event
abbrev NoEvents : Type 0
NoEvents =
    report symbols (after 1 [] [])
    ≡ text_of ("events 0 void 0" ∷ "server version 0 keys 0" ∷ "client 1 caught-up"
    ∷ "side 1 nigori mark 0 due 0 reseal 0 pending 0 mailbox 0"
    ∷ "side 1 preference mark 0 due 0 reseal 0 pending 0 mailbox 0"
    ∷ "side 1 password mark 0 due 0 reseal 0 pending 0 mailbox 0" ∷ "requests 0 deliveries 0" ∷ [])

-- a commit is delivered three times
abbrev repeated : List Event
repeated =
    set 1 "a" "1" ∷ Gather 1 Preference ∷ Offer 1 ∷ Deliver 3 ∷ Deliver 3 ∷ Deliver 3 ∷ Answer 4 ∷ Post 1 Preference
    ∷ Turn 1 Preference ∷ []

-- it is stored once, and the first reply acknowledges it
abbrev RepeatedCommit : Type 0
RepeatedCommit =
    report symbols (after 1 [] repeated)
    ≡ text_of ("events 9 void 0" ∷ "server version 1 keys 1" ∷ "entity 1 preference a plain a 1" ∷ "client 1 behind"
    ∷ "side 1 nigori mark 0 due 0 reseal 0 pending 0 mailbox 0"
    ∷ "side 1 preference mark 0 due 0 reseal 0 pending 0 mailbox 0"
    ∷ "side 1 password mark 0 due 0 reseal 0 pending 0 mailbox 0" ∷ "value 1 preference a known 1 a 1"
    ∷ "fate 1 preference 1 committed 1" ∷ "requests 1 deliveries 3" ∷ [])

-- a commit that is delivered twice, where names are shown
abbrev named : List Event
named = set 1 "a" "1" ∷ Gather 1 Preference ∷ Offer 1 ∷ Deliver 3 ∷ Deliver 3 ∷ Answer 4 ∷ Post 1 Preference ∷ Turn 1 Preference ∷ []

-- the same under the setting that shows names
abbrev NamedRun : Type 0
NamedRun =
    report names (run names (opening 1 0 []) named)
    ≡ text_of ("events 8 void 0" ∷ "server version 1 keys 1" ∷ "entity 1 preference a plain a 1" ∷ "client 1 behind"
    ∷ "side 1 nigori mark 0 due 0 reseal 0 pending 0 mailbox 0"
    ∷ "side 1 preference mark 0 due 0 reseal 0 pending 0 mailbox 0"
    ∷ "side 1 password mark 0 due 0 reseal 0 pending 0 mailbox 0" ∷ "value 1 preference a known 1 a 1"
    ∷ "fate 1 preference 1 committed 1" ∷ "requests 1 deliveries 2" ∷ [])

-- a reply is lost, and the client asks what became of its edit
abbrev lost : List Event
lost =
    set 1 "a" "1" ∷ Gather 1 Preference ∷ Offer 1 ∷ Deliver 3 ∷ Lose 1 ∷ Ask 1 ∷ Deliver 6 ∷ Answer 7 ∷ Post 1 Nigori
    ∷ Post 1 Preference ∷ Post 1 Password ∷ Turn 1 Nigori ∷ Turn 1 Preference ∷ Turn 1 Password ∷ []

-- its own write comes back, and matches
abbrev LostReply : Type 0
LostReply =
    report symbols (after 1 [] lost)
    ≡ text_of ("events 14 void 0" ∷ "server version 1 keys 1" ∷ "entity 1 preference a plain a 1"
    ∷ "client 1 caught-up" ∷ "side 1 nigori mark 1 due 0 reseal 0 pending 0 mailbox 0"
    ∷ "side 1 preference mark 1 due 0 reseal 0 pending 0 mailbox 0"
    ∷ "side 1 password mark 1 due 0 reseal 0 pending 0 mailbox 0" ∷ "value 1 preference a known 1 a 1"
    ∷ "fate 1 preference 1 matched 1" ∷ "requests 2 deliveries 2" ∷ [])

-- a preference is set, deleted and set again
abbrev tombstone : List Event
tombstone =
    set 1 "a" "1" ∷ Gather 1 Preference ∷ Offer 1 ∷ Deliver 3 ∷ Answer 4 ∷ Post 1 Preference ∷ Turn 1 Preference
    ∷ del 1 "a" ∷ Gather 1 Preference ∷ Offer 1 ∷ Deliver 10 ∷ Answer 11 ∷ Post 1 Preference ∷ Turn 1 Preference
    ∷ set 1 "a" "3" ∷ Gather 1 Preference ∷ Offer 1 ∷ Deliver 17 ∷ Answer 18 ∷ Post 1 Preference ∷ Turn 1 Preference
    ∷ []

-- a deletion is a write of its key
abbrev TombstoneIsKept : Type 0
TombstoneIsKept =
    report symbols (after 1 [] tombstone)
    ≡ text_of ("events 21 void 0" ∷ "server version 3 keys 1" ∷ "entity 3 preference a plain a 3" ∷ "client 1 behind"
    ∷ "side 1 nigori mark 0 due 0 reseal 0 pending 0 mailbox 0"
    ∷ "side 1 preference mark 0 due 0 reseal 0 pending 0 mailbox 0"
    ∷ "side 1 password mark 0 due 0 reseal 0 pending 0 mailbox 0" ∷ "value 1 preference a known 3 a 3"
    ∷ "fate 1 preference 1 committed 1" ∷ "fate 1 preference 2 committed 2" ∷ "fate 1 preference 3 committed 3"
    ∷ "requests 3 deliveries 3" ∷ [])

-- an empty server is asked, beside a client with an edit
abbrev asked_twice : List Event
asked_twice =
    set 2 "a" "1" ∷ Ask 1 ∷ Deliver 2 ∷ Deliver 2 ∷ []

-- nothing comes of it
abbrev AskedTwice : Type 0
AskedTwice =
    report symbols (after 2 [] asked_twice)
    ≡ text_of ("events 4 void 0" ∷ "server version 0 keys 0" ∷ "client 1 caught-up"
    ∷ "side 1 nigori mark 0 due 0 reseal 0 pending 0 mailbox 0"
    ∷ "side 1 preference mark 0 due 0 reseal 0 pending 0 mailbox 0"
    ∷ "side 1 password mark 0 due 0 reseal 0 pending 0 mailbox 0" ∷ "client 2 behind"
    ∷ "side 2 nigori mark 0 due 0 reseal 0 pending 0 mailbox 0"
    ∷ "side 2 preference mark 0 due 1 reseal 0 pending 0 mailbox 0"
    ∷ "side 2 password mark 0 due 0 reseal 0 pending 0 mailbox 0" ∷ "value 2 preference a known 0 a 1"
    ∷ "fate 2 preference 1 stands" ∷ "requests 1 deliveries 2" ∷ [])

-- a client sets so many preferences
abbrev edits : ℕ → List Event
edits zero = []
edits (suc count) = edits count ++ Edit 1 (SetPreference record { name = count ∷ []; value = []; extra = [] }) ∷ []

-- a commit is filled, and another type gathered then
abbrev filled : List Event
filled = edits 26 ++ Gather 1 Preference ∷ Gather 1 Nigori ∷ []

-- 25 entries are held, and the second gather is not void
abbrev FullCommit : Type 0
FullCommit =
    (length (client_at (after 1 [] filled).clients 1).held ∷ [])
    ≡ (25 ∷ [])

-- no event is void
abbrev FullCommitIsDone : Type 0
FullCommitIsDone =
    events_of (after 1 [] filled)
    ≡ text_of ("events 28 void 0" ∷ [])

-- all of them hold
pub rows : NoEvents × RepeatedCommit × NamedRun × LostReply × TombstoneIsKept × AskedTwice × FullCommit × FullCommitIsDone
unfolding symbols digits text_word kind_word same_value names with_keys answer_to committed answers_to wanted_writes reply_to history_served row_of noted is_echo updated fate_of_update acknowledged ended after_offers after_update after_updates after_ack after_acks update_notes notes_of after_task task_notes with_all_due with_reseals bag_with sealed drawn_for gather_effect ask_effect offer_effect lose_effect acks_of updates_in answer_effect post_effect turn_effect edit_effect change_effect cut_effect crash_effect set_pass_effect give_pass_effect outcome_at affected STORE_BIRTHDAY stepped run fate_of edits_made events_text server_text key_text nigori_text extra_text value_text lock_text entity_line entity_lines client_text side_text value_line_text row_word fate_text fate_line client_lines clients_lines totals_text report
rows = (refl, refl, refl, refl, refl, refl, refl, refl)
