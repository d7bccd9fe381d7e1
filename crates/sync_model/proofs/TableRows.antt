-- The conflict table by itself, a rule that merges, and a get-updates that is cut.
use Rattle.std.proofs.Common.{◌≡◌, ℕ, List, [], ◌∷◌, ◌++◌, refl}
use Rattle.std.specs.Prelude.{codes, None, Bool, true, false}
use Rattle.std.specs.Fmt.{digits}
use Rattle.client_tags.specs.declared.Kind.TheVariants.{Preference, Password}
use Rattle.sync_model.specs.declared.event.Event.{Event}
use Rattle.sync_model.specs.declared.event.Event.TheVariants.{Turn, Gather, Post, Ask, Offer, Deliver, Answer}
use Rattle.std.specs.Prelude.{zero, suc, pos, length, not}
use Rattle.client_tags.specs.declared.Kind.{Kind}
use Rattle.sync_values.specs.declared.value.Value.{Value}
use Rattle.sync_values.specs.declared.value.Value.TheVariants.{Absent, Preference as Setting_value, Password as Login_value}
use Rattle.sync_model.specs.declared.conflict.Choice.TheVariants.{Local, Remote}
use Rattle.sync_model.specs.declared.conflict.Decision.{Decision}
use Rattle.sync_model.specs.declared.conflict.Decision.TheVariants.{Merged}
use Rattle.sync_model.specs.declared.conflict.Row.TheVariants.{C5, C6}
use Rattle.sync_model.specs.declared.message.Content.{Content}
use Rattle.sync_model.specs.declared.message.Entry.{Entry}
use Rattle.sync_model.specs.declared.message.Marker.{Marker}
use Rattle.sync_model.specs.declared.message.Updates.{Updates}
use Rattle.sync_model.specs.Settings.{Setting, decided_by}
use Rattle.sync_model.specs.Conflicts.{resolved}
use Rattle.sync_model.specs.Servers.{updates_of, last_given}
use Rattle.sync_model.specs.Worlds.{World, opening, client_at}
use Rattle.sync_model.specs.Report.{side_line}
use Rattle.sync_model.specs.Text.{text_word, kind_word}
use Rattle.sync_model.specs.Values.{same_value}
use Rattle.sync_model.specs.Settings.{names, with_keys}
use Rattle.sync_model.specs.History.{answer_to, committed, answers_to}
use Rattle.sync_model.specs.Servers.{wanted_writes, reply_to, history_served}
use Rattle.sync_model.specs.Conflicts.{row_of}
use Rattle.sync_model.specs.KeyStates.{noted, is_echo, updated, fate_of_update, acknowledged, ended}
use Rattle.sync_model.specs.Sides.{after_offers, after_update, after_updates, after_ack, after_acks, update_notes, notes_of, after_task, task_notes}
use Rattle.sync_model.specs.Offers.{with_all_due, with_reseals}
use Rattle.sync_model.specs.Clients.{bag_with}
use Rattle.sync_model.specs.Sending.{sealed, drawn_for, gather_effect, ask_effect, offer_effect, lose_effect}
use Rattle.sync_model.specs.Receiving.{acks_of, updates_in, answer_effect, post_effect, turn_effect}
use Rattle.sync_model.specs.Changes.{edit_effect, change_effect, cut_effect, crash_effect, set_pass_effect, give_pass_effect}
use Rattle.sync_model.specs.Worlds.{outcome_at, affected, STORE_BIRTHDAY, stepped, run}
use Rattle.sync_model.specs.Fates.{fate_of, edits_made}
use Rattle.sync_model.specs.Report.{events_text, server_text, key_text, nigori_text, extra_text, value_text, lock_text, entity_line, entity_lines, client_text, side_text, value_line_text, row_word, fate_text, fate_line, client_lines, clients_lines, totals_text, report}
use Rattle.sync_model.proofs.Runs.{symbols, text_of, outcome_of, fates, set}

-- the preference of name `a` and this value
abbrev a_is : List ℕ → Value
a_is value = Setting_value record { name = codes "a"; value = value; extra = [] }

-- a login that was made at this time, whose secret is the time
abbrev login_of : ℕ → Value
login_of time = Login_value record { origin = []; user_element = []; user_value = []; pass_element = []; realm = []; secret = time ∷ []; created = pos time; extra = [] }

-- an edit is kept where the key was deleted there
abbrev EditMeetsDeletion : Type 0
EditMeetsDeletion =
    resolved (decided_by symbols Preference) false (a_is (codes "1")) (a_is (codes "2")) Absent
    ≡ record { row = C5; choice = Local }

-- the login that was made later wins
abbrev NewerLogin : Type 0
NewerLogin =
    resolved (decided_by symbols Password) false Absent (login_of 6) (login_of 5)
    ≡ record { row = C6; choice = Local }

-- the server's wins where both were made at once
abbrev LoginsAtOnce : Type 0
LoginsAtOnce =
    resolved (decided_by symbols Password) false Absent (Login_value record { origin = []; user_element = []; user_value = []; pass_element = []; realm = []; secret = []; created = pos 5; extra = [] }) (login_of 5)
    ≡ record { row = C6; choice = Remote }

-- and where the client's was made earlier
abbrev MadeFive : Type 0
MadeFive =
    resolved (decided_by symbols Password) false Absent (login_of 5) (login_of 6)
    ≡ record { row = C6; choice = Remote }

-- what a rule may merge two lists of one string into
abbrev merged : Value → Value → Decision
merged local remote = Merged (Setting_value record { name = codes "list.x"; value = codes "[\"a\",\"b\"]"; extra = [] })

-- a setting with another rule
abbrev with_rule : (Value → Value → Decision) → Setting
with_rule rule = record symbols { decided = rule }

-- two clients set one list
abbrev both_lists : List Event
both_lists =
    set 1 "list.x" "[\"a\"]" ∷ set 2 "list.x" "[\"b\"]" ∷ Gather 1 Preference ∷ Offer 1 ∷ Deliver 4 ∷ Gather 2 Preference
    ∷ Offer 2 ∷ Deliver 7 ∷ Answer 8 ∷ Ask 2 ∷ Deliver 10 ∷ Answer 11 ∷ Post 2 Preference ∷ Turn 2 Preference ∷ []

-- the second client after a run, under a rule that merges
abbrev merged_lines : World → List ℕ
merged_lines world = fates world 2 ++ side_line 2 Preference None (client_at world.clients 2).preference ++ outcome_of world 2

-- under a rule that merges, the list of both is to be sent
abbrev ListsMerge : Type 0
ListsMerge =
    merged_lines (run (with_rule merged) (opening 2 0 []) both_lists)
    ≡ text_of ("fate 2 preference 1 merged 1 C6" ∷ "side 2 preference mark 1 due 1 reseal 0 pending 0 mailbox 0"
    ∷ "value 2 preference list.x known 1 list.x [\"a\",\"b\"]" ∷ "fate 2 preference 1 merged 1 C6" ∷ [])

-- the type of a version: an odd one is of a preference, an even one of a login
abbrev kind_of : Bool → Kind
kind_of true = Preference
kind_of false = Password

-- a history of so many keys, each with one write, the types in turn
abbrev keys : ℕ → Bool → List (Entry Content)
keys zero odd = []
keys (suc count) odd = record {
  key = record { kind = kind_of odd; hash = suc count ∷ [] };
  version = 0;
  content = record { value = Absent; number = 0; lock = None; draw = None };
} ∷ keys count (not odd)

-- what a server with 700 keys says to one who has the preferences up to 5 and the logins up to 100
abbrev cut_updates : Updates Content
cut_updates = updates_of (keys 700 false) marks (wanted_writes marks (keys 700 false) (keys 700 false))
  where
    marks : List Marker
    marks = record { kind = Preference; mark = 5 } ∷ record { kind = Password; mark = 100 } ∷ []

-- 500 entries, the last of version 553, 147 left out, and both marks 553
abbrev CutUpdates : Type 0
CutUpdates =
    (length cut_updates.entries ∷ last_given cut_updates.entries ∷ cut_updates.remaining ∷ [])
    ≡ (500 ∷ 553 ∷ 147 ∷ [])

-- both marks are the last version given
abbrev CutMarks : Type 0
CutMarks =
    cut_updates.marks
    ≡ record { kind = Preference; mark = 553 } ∷ record { kind = Password; mark = 553 } ∷ []

-- all of them hold
pub rows : EditMeetsDeletion × NewerLogin × LoginsAtOnce × MadeFive × ListsMerge × CutUpdates × CutMarks
unfolding symbols digits text_word kind_word same_value names with_keys answer_to committed answers_to wanted_writes reply_to history_served row_of noted is_echo updated fate_of_update acknowledged ended after_offers after_update after_updates after_ack after_acks update_notes notes_of after_task task_notes with_all_due with_reseals bag_with sealed drawn_for gather_effect ask_effect offer_effect lose_effect acks_of updates_in answer_effect post_effect turn_effect edit_effect change_effect cut_effect crash_effect set_pass_effect give_pass_effect outcome_at affected STORE_BIRTHDAY stepped run fate_of edits_made events_text server_text key_text nigori_text extra_text value_text lock_text entity_line entity_lines client_text side_text value_line_text row_word fate_text fate_line client_lines clients_lines totals_text report
rows = (refl, refl, refl, refl, refl, refl, refl)
