-- Worked runs of edits that are cut short, and the limits of edits.
use Rattle.std.proofs.Common.{◌≡◌, ℕ, List, [], ◌∷◌, refl}
use Rattle.std.specs.Prelude.{codes, Some, None, true, false, replicate}
use Rattle.std.specs.Fmt.{digits}
use Rattle.sync_model.specs.declared.event.Event.{Event}
use Rattle.sync_model.specs.declared.event.Event.TheVariants.{Edit, Cut}
use Rattle.sync_model.specs.declared.refusal.EditRefusal.TheVariants.{TooLong}
use Rattle.sync_model.specs.Changes.{side_refusal}
use Rattle.sync_model.specs.Sides.{new_side}
use Rattle.sync_model.specs.Text.{text_word, kind_word}
use Rattle.sync_model.specs.Values.{same_value}
use Rattle.sync_model.specs.Settings.{names, with_keys}
use Rattle.sync_model.specs.History.{answer_to, committed, answers_to}
use Rattle.sync_model.specs.Servers.{wanted_writes, reply_to, history_served}
use Rattle.sync_model.specs.Conflicts.{row_of}
use Rattle.sync_model.specs.KeyStates.{noted, is_echo, updated, fate_of_update, acknowledged, ended}
use Rattle.sync_model.specs.Sides.{after_offers, after_update, after_updates, after_ack, after_acks, update_notes, notes_of, after_task, task_notes}
use Rattle.sync_model.specs.Offers.{with_all_due, with_reseals}
use Rattle.sync_model.specs.Clients.{bag_with}
use Rattle.sync_model.specs.Sending.{sealed, drawn_for, gather_effect, ask_effect, offer_effect, lose_effect}
use Rattle.sync_model.specs.Receiving.{acks_of, updates_in, answer_effect, post_effect, turn_effect}
use Rattle.sync_model.specs.Changes.{edit_effect, change_effect, cut_effect, crash_effect, set_pass_effect, give_pass_effect}
use Rattle.sync_model.specs.Worlds.{outcome_at, affected, STORE_BIRTHDAY, stepped, run}
use Rattle.sync_model.specs.Fates.{fate_of, edits_made}
use Rattle.sync_model.specs.Report.{events_text, server_text, key_text, nigori_text, extra_text, value_text, lock_text, entity_line, entity_lines, client_text, side_text, value_line_text, row_word, fate_text, fate_line, client_lines, clients_lines, totals_text, report}
use Rattle.sync_values.specs.declared.edit.Edit.TheVariants.{SetPreference}
use Rattle.sync_model.proofs.Runs.{symbols, text_of, after, events_of, set}

-- an edit is followed by one that is kept and one that is lost
abbrev cut : List Event
cut =
    set 1 "a" "1" ∷ Cut 1 true (SetPreference record { name = codes "a"; value = codes "2"; extra = [] })
    ∷ Cut 1 false (SetPreference record { name = codes "a"; value = codes "3"; extra = [] }) ∷ []

-- the kept one follows the first, and has no fate of its own
abbrev CutShort : Type 0
CutShort =
    report symbols (after 1 [] cut)
    ≡ text_of ("events 3 void 0" ∷ "server version 0 keys 0" ∷ "client 1 behind"
    ∷ "side 1 nigori mark 0 due 0 reseal 0 pending 0 mailbox 0"
    ∷ "side 1 preference mark 0 due 1 reseal 0 pending 0 mailbox 0"
    ∷ "side 1 password mark 0 due 0 reseal 0 pending 0 mailbox 0" ∷ "value 1 preference a known 0 a 2"
    ∷ "fate 1 preference 1 followed 2" ∷ "requests 0 deliveries 0" ∷ [])

-- an edit with 16,385 bytes of text is refused
abbrev TooLongByOne : Type 0
TooLongByOne =
    side_refusal new_side (codes "a") 16385
    ≡ Some (TooLong 16385)

-- one with 16,384 is not
abbrev JustNotTooLong : Type 0
JustNotTooLong =
    side_refusal new_side (codes "a") 16384
    ≡ None

-- a client sets a preference with so many bytes of text
abbrev long : ℕ → List Event
long more = Edit 1 (SetPreference record { name = codes "a"; value = replicate more 49; extra = [] }) ∷ []

-- such an edit is void
abbrev LongIsVoid : Type 0
LongIsVoid =
    events_of (after 1 [] (long 16384))
    ≡ text_of ("events 1 void 1" ∷ [])

-- such an edit is done
abbrev LongIsDone : Type 0
LongIsDone =
    events_of (after 1 [] (long 16383))
    ≡ text_of ("events 1 void 0" ∷ [])

-- a cut edit that would be refused is void, and nothing crashes
abbrev RefusedCutIsVoid : Type 0
RefusedCutIsVoid =
    events_of (after 1 [] (Cut 1 true (SetPreference record { name = codes "a"; value = replicate 16384 49; extra = [] }) ∷ []))
    ≡ text_of ("events 1 void 1" ∷ [])

-- all of them hold
pub rows : CutShort × TooLongByOne × JustNotTooLong × LongIsVoid × LongIsDone × RefusedCutIsVoid
unfolding symbols digits text_word kind_word same_value names with_keys answer_to committed answers_to wanted_writes reply_to history_served row_of noted is_echo updated fate_of_update acknowledged ended after_offers after_update after_updates after_ack after_acks update_notes notes_of after_task task_notes with_all_due with_reseals bag_with sealed drawn_for gather_effect ask_effect offer_effect lose_effect acks_of updates_in answer_effect post_effect turn_effect edit_effect change_effect cut_effect crash_effect set_pass_effect give_pass_effect outcome_at affected STORE_BIRTHDAY stepped run fate_of edits_made events_text server_text key_text nigori_text extra_text value_text lock_text entity_line entity_lines client_text side_text value_line_text row_word fate_text fate_line client_lines clients_lines totals_text report
rows = (refl, refl, refl, refl, refl, refl)
