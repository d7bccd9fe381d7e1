-- Worked runs of two clients that change one key.
use Rattle.std.proofs.Common.{◌≡◌, List, [], ◌∷◌, ◌++◌, refl}
use Rattle.std.specs.Fmt.{digits}
use Rattle.client_tags.specs.declared.Kind.TheVariants.{Nigori, Preference, Password}
use Rattle.sync_model.specs.declared.event.Event.{Event}
use Rattle.sync_model.specs.declared.event.Event.TheVariants.{Turn, Gather, Post, Ask, Offer, Deliver, Answer}
use Rattle.sync_model.specs.Text.{text_word, kind_word}
use Rattle.sync_model.specs.Values.{same_value}
use Rattle.sync_model.specs.Settings.{names, with_keys}
use Rattle.sync_model.specs.History.{answer_to, committed, answers_to}
use Rattle.sync_model.specs.Servers.{wanted_writes, reply_to, history_served}
use Rattle.sync_model.specs.Conflicts.{row_of}
use Rattle.sync_model.specs.KeyStates.{noted, is_echo, updated, fate_of_update, acknowledged, ended}
use Rattle.sync_model.specs.Sides.{after_offers, after_update, after_updates, after_ack, after_acks, update_notes, notes_of, after_task, task_notes}
use Rattle.sync_model.specs.Offers.{with_all_due, with_reseals}
use Rattle.sync_model.specs.Clients.{bag_with}
use Rattle.sync_model.specs.Sending.{sealed, drawn_for, gather_effect, ask_effect, offer_effect, lose_effect}
use Rattle.sync_model.specs.Receiving.{acks_of, updates_in, answer_effect, post_effect, turn_effect}
use Rattle.sync_model.specs.Changes.{edit_effect, change_effect, cut_effect, crash_effect, set_pass_effect, give_pass_effect}
use Rattle.sync_model.specs.Worlds.{outcome_at, affected, STORE_BIRTHDAY, stepped, run}
use Rattle.sync_model.specs.Fates.{fate_of, edits_made}
use Rattle.sync_model.specs.Report.{events_text, server_text, key_text, nigori_text, extra_text, value_text, lock_text, entity_line, entity_lines, client_text, side_text, value_line_text, row_word, fate_text, fate_line, client_lines, clients_lines, totals_text, report}
use Rattle.sync_model.proofs.Runs.{symbols, text_of, after, entities, outcome_of, fates, events_of, set, del}

-- two clients set one preference
abbrev both : List Event
both =
    set 1 "a" "1" ∷ set 2 "a" "2" ∷ Gather 1 Preference ∷ Offer 1 ∷ Deliver 4 ∷ Gather 2 Preference ∷ Offer 2
    ∷ Deliver 7 ∷ Answer 8 ∷ Ask 2 ∷ Deliver 10 ∷ Answer 11 ∷ Post 2 Preference ∷ Turn 2 Preference ∷ []

-- the second commit is a conflict, and the second client takes the first one's value
abbrev FirstCommitWins : Type 0
FirstCommitWins =
    (events_of (after 2 [] both) ++ entities (after 2 [] both) ++ outcome_of (after 2 [] both) 1 ++ outcome_of (after 2 [] both) 2)
    ≡ text_of ("events 14 void 0" ∷ "entity 1 preference a plain a 1" ∷ "value 1 preference a known 0 a 1"
    ∷ "fate 1 preference 1 stands" ∷ "value 2 preference a known 1 a 1" ∷ "fate 2 preference 1 taken 1 C6" ∷ [])

-- a deletion meets an edit of another client
abbrev deleted : List Event
deleted =
    set 1 "a" "1" ∷ Gather 1 Preference ∷ Offer 1 ∷ Deliver 3 ∷ Answer 4 ∷ Post 1 Preference ∷ Turn 1 Preference
    ∷ del 1 "a" ∷ Gather 1 Preference ∷ Offer 1 ∷ Deliver 10 ∷ set 2 "a" "9" ∷ Ask 2 ∷ Deliver 13 ∷ Answer 14
    ∷ Post 2 Preference ∷ Turn 2 Preference ∷ Post 2 Nigori ∷ Post 2 Password ∷ Gather 2 Preference ∷ Offer 2
    ∷ Deliver 21 ∷ []

-- the edit is kept, and replaces the tombstone
abbrev EditOutlivesDeletion : Type 0
EditOutlivesDeletion =
    (events_of (after 2 [] deleted) ++ entities (after 2 [] deleted) ++ fates (after 2 [] deleted) 1 ++ outcome_of (after 2 [] deleted) 2)
    ≡ text_of ("events 22 void 0" ∷ "entity 3 preference a plain a 9" ∷ "fate 1 preference 1 committed 1"
    ∷ "fate 1 preference 2 stands" ∷ "value 2 preference a known 2 a 9" ∷ "fate 2 preference 1 stands" ∷ [])

-- all of them hold
pub rows : FirstCommitWins × EditOutlivesDeletion
unfolding symbols digits text_word kind_word same_value names with_keys answer_to committed answers_to wanted_writes reply_to history_served row_of noted is_echo updated fate_of_update acknowledged ended after_offers after_update after_updates after_ack after_acks update_notes notes_of after_task task_notes with_all_due with_reseals bag_with sealed drawn_for gather_effect ask_effect offer_effect lose_effect acks_of updates_in answer_effect post_effect turn_effect edit_effect change_effect cut_effect crash_effect set_pass_effect give_pass_effect outcome_at affected STORE_BIRTHDAY stepped run fate_of edits_made events_text server_text key_text nigori_text extra_text value_text lock_text entity_line entity_lines client_text side_text value_line_text row_word fate_text fate_line client_lines clients_lines totals_text report
rows = (refl, refl)
