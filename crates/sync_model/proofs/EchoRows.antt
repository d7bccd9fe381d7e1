-- Worked runs of a client whose own earlier edit comes back to it, and of values with fields that only a newer client knows.
use Rattle.std.proofs.Common.{◌≡◌, ℕ, List, [], ◌∷◌, ◌++◌, refl}
use Rattle.std.specs.Prelude.{codes, map, Some, None, true}
use Rattle.sync_values.specs.declared.edit.Edit.TheVariants.{NewerPreference}
use Rattle.sync_values.specs.declared.value.Value.{Value}
use Rattle.sync_values.specs.declared.value.Value.TheVariants.{Absent, Preference as Setting_value}
use Rattle.sync_model.specs.declared.conflict.Choice.TheVariants.{Same, Local}
use Rattle.sync_model.specs.declared.conflict.Row.TheVariants.{C0, C1}
use Rattle.sync_model.specs.declared.message.Ack.{Ack}
use Rattle.sync_model.specs.declared.state.Offered.{Offered}
use Rattle.sync_model.specs.Settings.{decided_by}
use Rattle.sync_model.specs.Conflicts.{resolved}
use Rattle.sync_model.specs.KeyStates.{new_state, with_offered}
use Rattle.sync_model.specs.Worlds.{client_at}
use Rattle.sync_model.specs.Report.{side_line}
use Rattle.std.specs.Fmt.{digits}
use Rattle.client_tags.specs.declared.Kind.TheVariants.{Nigori, Preference, Password}
use Rattle.sync_model.specs.declared.event.Event.{Event}
use Rattle.sync_model.specs.declared.event.Event.TheVariants.{Edit, Turn, Gather, Post, Ask, Offer, Lose, Deliver, Answer}
use Rattle.sync_model.specs.Text.{text_word, kind_word}
use Rattle.sync_model.specs.Values.{same_value}
use Rattle.sync_model.specs.Settings.{names, with_keys}
use Rattle.sync_model.specs.History.{answer_to, committed, answers_to}
use Rattle.sync_model.specs.Servers.{wanted_writes, reply_to, history_served}
use Rattle.sync_model.specs.Conflicts.{row_of}
use Rattle.sync_model.specs.KeyStates.{noted, is_echo, updated, fate_of_update, acknowledged, ended}
use Rattle.sync_model.specs.Sides.{after_offers, after_update, after_updates, after_ack, after_acks, update_notes, notes_of, after_task, task_notes}
use Rattle.sync_model.specs.Offers.{with_all_due, with_reseals}
use Rattle.sync_model.specs.Clients.{bag_with}
use Rattle.sync_model.specs.Sending.{sealed, drawn_for, gather_effect, ask_effect, offer_effect, lose_effect}
use Rattle.sync_model.specs.Receiving.{acks_of, updates_in, answer_effect, post_effect, turn_effect}
use Rattle.sync_model.specs.Changes.{edit_effect, change_effect, cut_effect, crash_effect, set_pass_effect, give_pass_effect}
use Rattle.sync_model.specs.Worlds.{outcome_at, affected, STORE_BIRTHDAY, stepped, run}
use Rattle.sync_model.specs.Fates.{fate_of, edits_made}
use Rattle.sync_model.specs.Report.{events_text, server_text, key_text, nigori_text, extra_text, value_text, lock_text, entity_line, entity_lines, client_text, side_text, value_line_text, row_word, fate_text, fate_line, client_lines, clients_lines, totals_text, report}
use Rattle.sync_model.proofs.Runs.{symbols, text_of, after, entities, outcome_of, fates, events_of, set, del}

-- a reply is lost, a newer edit is made, and the client asks what became of its older one
abbrev edited_again : List Event
edited_again =
    set 1 "a" "1" ∷ Gather 1 Preference ∷ Offer 1 ∷ Deliver 3 ∷ Lose 1 ∷ set 1 "a" "2" ∷ Ask 1 ∷ Deliver 7 ∷ Answer 8
    ∷ Post 1 Preference ∷ Turn 1 Preference ∷ []

-- its own older write comes back, and the newer edit stands over it
abbrev NewerEditStands : Type 0
NewerEditStands =
    (outcome_of (after 1 [] edited_again) 1 ++ side_line 1 Preference None (client_at (after 1 [] edited_again).clients 1).preference)
    ≡ text_of ("value 1 preference a known 1 a 2" ∷ "fate 1 preference 1 followed 2" ∷ "fate 1 preference 2 stands"
    ∷ "side 1 preference mark 1 due 1 reseal 0 pending 0 mailbox 0" ∷ [])

-- two edits are offered before the first one comes back
abbrev offered_twice : List Event
offered_twice =
    set 1 "a" "1" ∷ Gather 1 Preference ∷ Offer 1 ∷ Deliver 3 ∷ Lose 1 ∷ set 1 "a" "2" ∷ Gather 1 Preference ∷ Offer 1
    ∷ Deliver 8 ∷ Answer 9 ∷ Ask 1 ∷ Deliver 11 ∷ Answer 12 ∷ Post 1 Nigori ∷ Post 1 Preference ∷ Post 1 Password
    ∷ Turn 1 Preference ∷ Gather 1 Preference ∷ Offer 1 ∷ Deliver 19 ∷ []

-- the newer edit, which met a conflict, is sent over the older one
abbrev EarlierOfferIsKnown : Type 0
EarlierOfferIsKnown =
    (events_of (after 1 [] offered_twice) ++ entities (after 1 [] offered_twice) ++ fates (after 1 [] offered_twice) 1)
    ≡ text_of ("events 20 void 0" ∷ "entity 2 preference a plain a 2" ∷ "fate 1 preference 1 followed 2"
    ∷ "fate 1 preference 2 stands" ∷ [])

-- the newer edit is a deletion
abbrev deleted_again : List Event
deleted_again =
    set 1 "a" "1" ∷ Gather 1 Preference ∷ Offer 1 ∷ Deliver 3 ∷ Lose 1 ∷ del 1 "a" ∷ Ask 1 ∷ Deliver 7 ∷ Answer 8
    ∷ Post 1 Preference ∷ Turn 1 Preference ∷ []

-- it stands too
abbrev DeletionStands : Type 0
DeletionStands =
    outcome_of (after 1 [] deleted_again) 1
    ≡ text_of ("value 1 preference a known 1 absent" ∷ "fate 1 preference 1 followed 2" ∷ "fate 1 preference 2 stands" ∷ [])

-- a client sets a preference that another one wrote with fields which the first does not know
abbrev set_over_newer : List Event
set_over_newer =
    Edit 2 (NewerPreference record { name = codes "a"; value = codes "1"; extra = 24 ∷ 7 ∷ [] }) ∷ Gather 2 Preference
    ∷ Offer 2 ∷ Deliver 3 ∷ Ask 1 ∷ Deliver 5 ∷ Answer 6 ∷ Post 1 Nigori ∷ Post 1 Preference ∷ Post 1 Password
    ∷ Turn 1 Preference ∷ set 1 "a" "2" ∷ Gather 1 Preference ∷ Offer 1 ∷ Deliver 14 ∷ []

-- what is set keeps them
abbrev UnknownFieldsAreKept : Type 0
UnknownFieldsAreKept =
    (events_of (after 2 [] set_over_newer) ++ entities (after 2 [] set_over_newer))
    ≡ text_of ("events 15 void 0" ∷ "entity 2 preference a plain a 2 + %18%07" ∷ [])

-- the preference of name `a` and this value
abbrev a_is : List ℕ → Value
a_is value = Setting_value record { name = codes "a"; value = value; extra = [] }

-- the server stored a value of a key that no edit of this client made
abbrev stored : ℕ → Ack
stored version = record { hash = codes "a"; version = version; value = a_is (codes "1"); number = 0; lock = Some (codes "k") }

-- its acknowledgement sets what is known, the own value and the lock
abbrev UneditedKeyIsAcknowledged : Type 0
UneditedKeyIsAcknowledged =
    after_ack [] (stored 3)
    ≡ (codes "a", record new_state { known = 3; base = a_is (codes "1"); own = a_is (codes "1"); lock = Some (codes "k") }) ∷ []

-- one of version 0 is ignored, and leaves no state behind
abbrev IgnoredLeavesNoState : Type 0
IgnoredLeavesNoState =
    after_ack [] (stored 0)
    ≡ []

-- the offers of the edits with these numbers
abbrev offers_by : List ℕ → List Offered
offers_by numbers = map (λ number. record { number = number; value = Absent }) numbers

-- a ninth offer drops that of the least number
abbrev NinthDropsTheLeast : Type 0
NinthDropsTheLeast =
    with_offered (offers_by (1 ∷ 2 ∷ 3 ∷ 4 ∷ 6 ∷ 7 ∷ 8 ∷ 9 ∷ [])) 10 Absent
    ≡ offers_by (2 ∷ 3 ∷ 4 ∷ 6 ∷ 7 ∷ 8 ∷ 9 ∷ 10 ∷ [])

-- an edit that was offered before is offered once
abbrev OfferedOnce : Type 0
OfferedOnce =
    with_offered (offers_by (1 ∷ 2 ∷ [])) 2 Absent
    ≡ offers_by (1 ∷ 2 ∷ [])

-- a write that is both the own value and an earlier one matches
abbrev SameBeforeEcho : Type 0
SameBeforeEcho =
    resolved (decided_by symbols Preference) true Absent (a_is (codes "1")) (a_is (codes "1"))
    ≡ record { row = C1; choice = Same }

-- an earlier own value leaves a deletion
abbrev EchoBeforeDeletion : Type 0
EchoBeforeDeletion =
    resolved (decided_by symbols Preference) true Absent Absent (a_is (codes "1"))
    ≡ record { row = C0; choice = Local }

-- all of them hold
pub rows : NewerEditStands × EarlierOfferIsKnown × DeletionStands × UnknownFieldsAreKept × UneditedKeyIsAcknowledged × IgnoredLeavesNoState
    × NinthDropsTheLeast × OfferedOnce × SameBeforeEcho × EchoBeforeDeletion
unfolding symbols digits text_word kind_word same_value names with_keys answer_to committed answers_to wanted_writes reply_to history_served row_of noted is_echo updated fate_of_update acknowledged ended after_offers after_update after_updates after_ack after_acks update_notes notes_of after_task task_notes with_all_due with_reseals bag_with sealed drawn_for gather_effect ask_effect offer_effect lose_effect acks_of updates_in answer_effect post_effect turn_effect edit_effect change_effect cut_effect crash_effect set_pass_effect give_pass_effect outcome_at affected STORE_BIRTHDAY stepped run fate_of edits_made events_text server_text key_text nigori_text extra_text value_text lock_text entity_line entity_lines client_text side_text value_line_text row_word fate_text fate_line client_lines clients_lines totals_text report
rows = (refl, refl, refl, refl, refl, refl, refl, refl, refl, refl)
