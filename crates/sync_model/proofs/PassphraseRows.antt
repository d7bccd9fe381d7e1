-- Worked runs of passphrases: a key that a client lacks, sealing anew, and two first passphrases.
use Rattle.std.proofs.Common.{◌≡◌, ℕ, List, [], ◌∷◌, ◌++◌, refl}
use Rattle.std.specs.Prelude.{codes, Some, None}
use Rattle.std.specs.Fmt.{digits}
use Rattle.client_tags.specs.declared.Kind.TheVariants.{Nigori, Preference, Password}
use Rattle.sync_model.specs.declared.event.Event.{Event}
use Rattle.sync_model.specs.declared.event.Event.TheVariants.{Turn, Gather, Post, Ask, Offer, Crash, Deliver, Answer, SetPass, GivePass}
use Rattle.sync_model.specs.declared.refusal.PassRefusal.TheVariants.{WrongPass}
use Rattle.sync_model.specs.Changes.{give_pass_refusal}
use Rattle.sync_model.specs.Worlds.{client_at}
use Rattle.sync_model.specs.Report.{side_line}
use Rattle.sync_model.specs.Text.{text_word, kind_word}
use Rattle.sync_model.specs.Values.{same_value}
use Rattle.sync_model.specs.Settings.{names, with_keys}
use Rattle.sync_model.specs.History.{answer_to, committed, answers_to}
use Rattle.sync_model.specs.Servers.{wanted_writes, reply_to, history_served}
use Rattle.sync_model.specs.Conflicts.{row_of}
use Rattle.sync_model.specs.KeyStates.{noted, is_echo, updated, fate_of_update, acknowledged, ended}
use Rattle.sync_model.specs.Sides.{after_offers, after_update, after_updates, after_ack, after_acks, update_notes, notes_of, after_task, task_notes}
use Rattle.sync_model.specs.Offers.{with_all_due, with_reseals}
use Rattle.sync_model.specs.Clients.{bag_with}
use Rattle.sync_model.specs.Sending.{sealed, drawn_for, gather_effect, ask_effect, offer_effect, lose_effect}
use Rattle.sync_model.specs.Receiving.{acks_of, updates_in, answer_effect, post_effect, turn_effect}
use Rattle.sync_model.specs.Changes.{edit_effect, change_effect, cut_effect, crash_effect, set_pass_effect, give_pass_effect}
use Rattle.sync_model.specs.Worlds.{outcome_at, affected, STORE_BIRTHDAY, stepped, run}
use Rattle.sync_model.specs.Fates.{fate_of, edits_made}
use Rattle.sync_model.specs.Report.{events_text, server_text, key_text, nigori_text, extra_text, value_text, lock_text, entity_line, entity_lines, client_text, side_text, value_line_text, row_word, fate_text, fate_line, client_lines, clients_lines, totals_text, report}
use Rattle.sync_model.proofs.Runs.{symbols, text_of, after, entities, fates, events_of, set, save_login}

-- the passphrases of two users
abbrev passes : List (List ℕ)
passes = codes "first" ∷ codes "second" ∷ []

-- a client commits keys and a login, and another one asks for them without the key
abbrev locked_out : List Event
locked_out =
    SetPass 1 1 ∷ Gather 1 Nigori ∷ Offer 1 ∷ Deliver 3 ∷ Answer 4 ∷ Post 1 Nigori ∷ Turn 1 Nigori ∷ save_login
    ∷ Gather 1 Password ∷ Offer 1 ∷ Deliver 10 ∷ Ask 2 ∷ Deliver 12 ∷ Answer 13 ∷ Post 2 Nigori ∷ Post 2 Password
    ∷ Turn 2 Password ∷ []

-- what does not open waits, and the marks stay
abbrev KeyIsMissing : Type 0
KeyIsMissing =
    report symbols (after 2 passes locked_out)
    ≡ text_of ("events 17 void 1" ∷ "server version 2 keys 2"
    ∷ "entity 1 nigori google_chrome_nigori pass 1 lock 1 keys 1"
    ∷ "entity 2 password https%3A%2F%2Fa.example%2F|u|bob|p|https%3A%2F%2Fa.example%2F pass 1 https://a.example/ u bob p https://a.example/ secret 5"
    ∷ "client 1 behind" ∷ "side 1 nigori mark 0 due 0 reseal 0 pending 0 mailbox 0"
    ∷ "side 1 preference mark 0 due 0 reseal 0 pending 0 mailbox 0"
    ∷ "side 1 password mark 0 due 1 reseal 0 pending 0 mailbox 0"
    ∷ "value 1 nigori google_chrome_nigori known 1 lock 1 keys 1"
    ∷ "value 1 password https%3A%2F%2Fa.example%2F|u|bob|p|https%3A%2F%2Fa.example%2F known 0 https://a.example/ u bob p https://a.example/ secret 5"
    ∷ "fate 1 nigori 1 committed 1" ∷ "fate 1 password 1 stands" ∷ "client 2 behind"
    ∷ "side 2 nigori mark 0 due 0 reseal 0 pending 1 mailbox 0"
    ∷ "side 2 preference mark 0 due 0 reseal 0 pending 0 mailbox 0"
    ∷ "side 2 password mark 0 due 0 reseal 0 pending 1 mailbox 0" ∷ "requests 3 deliveries 3" ∷ [])

-- the other client crashes, asks again, and is given the passphrase
abbrev let_in : List Event
let_in =
    SetPass 1 1 ∷ Gather 1 Nigori ∷ Offer 1 ∷ Deliver 3 ∷ Answer 4 ∷ Post 1 Nigori ∷ Turn 1 Nigori ∷ save_login
    ∷ Gather 1 Password ∷ Offer 1 ∷ Deliver 10 ∷ Ask 2 ∷ Deliver 12 ∷ Answer 13 ∷ Post 2 Nigori ∷ Post 2 Password
    ∷ Turn 2 Password ∷ Crash 2 ∷ Ask 2 ∷ Deliver 19 ∷ Answer 20 ∷ Post 2 Nigori ∷ Post 2 Preference ∷ GivePass 2 1
    ∷ Gather 2 Nigori ∷ Post 2 Password ∷ Turn 2 Nigori ∷ Turn 2 Preference ∷ Turn 2 Password ∷ []

-- all opens, and the other client has all that the server has
abbrev KeyIsGiven : Type 0
KeyIsGiven =
    report symbols (after 2 passes let_in)
    ≡ text_of ("events 29 void 1" ∷ "server version 2 keys 2"
    ∷ "entity 1 nigori google_chrome_nigori pass 1 lock 1 keys 1"
    ∷ "entity 2 password https%3A%2F%2Fa.example%2F|u|bob|p|https%3A%2F%2Fa.example%2F pass 1 https://a.example/ u bob p https://a.example/ secret 5"
    ∷ "client 1 behind" ∷ "side 1 nigori mark 0 due 0 reseal 0 pending 0 mailbox 0"
    ∷ "side 1 preference mark 0 due 0 reseal 0 pending 0 mailbox 0"
    ∷ "side 1 password mark 0 due 1 reseal 0 pending 0 mailbox 0"
    ∷ "value 1 nigori google_chrome_nigori known 1 lock 1 keys 1"
    ∷ "value 1 password https%3A%2F%2Fa.example%2F|u|bob|p|https%3A%2F%2Fa.example%2F known 0 https://a.example/ u bob p https://a.example/ secret 5"
    ∷ "fate 1 nigori 1 committed 1" ∷ "fate 1 password 1 stands" ∷ "client 2 caught-up"
    ∷ "side 2 nigori mark 2 due 0 reseal 0 pending 0 mailbox 0"
    ∷ "side 2 preference mark 2 due 0 reseal 0 pending 0 mailbox 0"
    ∷ "side 2 password mark 2 due 0 reseal 0 pending 0 mailbox 0"
    ∷ "value 2 nigori google_chrome_nigori known 1 lock 1 keys 1"
    ∷ "value 2 password https%3A%2F%2Fa.example%2F|u|bob|p|https%3A%2F%2Fa.example%2F known 2 https://a.example/ u bob p https://a.example/ secret 5"
    ∷ "requests 4 deliveries 4" ∷ [])

-- two clients choose a first passphrase at once
abbrev two_first : List Event
two_first =
    SetPass 1 1 ∷ SetPass 2 2 ∷ Gather 1 Nigori ∷ Offer 1 ∷ Deliver 4 ∷ Gather 2 Nigori ∷ Offer 2 ∷ Deliver 7
    ∷ Answer 8 ∷ Ask 2 ∷ Deliver 10 ∷ Answer 11 ∷ Post 2 Nigori ∷ GivePass 2 1 ∷ Gather 2 Nigori ∷ Turn 2 Nigori ∷ []

-- the one that came first locks the profile
abbrev OneProfile : Type 0
OneProfile =
    (events_of (after 2 passes two_first) ++ entities (after 2 passes two_first) ++ fates (after 2 passes two_first) 2)
    ≡ text_of ("events 16 void 0" ∷ "entity 1 nigori google_chrome_nigori pass 1 lock 1 keys 1"
    ∷ "fate 2 nigori 1 taken 1 C6" ∷ [])

-- the same, up to where the second client asks for the passphrase
abbrev asked : List Event
asked =
    SetPass 1 1 ∷ SetPass 2 2 ∷ Gather 1 Nigori ∷ Offer 1 ∷ Deliver 4 ∷ Gather 2 Nigori ∷ Offer 2 ∷ Deliver 7
    ∷ Answer 8 ∷ Ask 2 ∷ Deliver 10 ∷ Answer 11 ∷ Post 2 Nigori ∷ []

-- the second passphrase is not the one that is asked for
abbrev WrongPassphrase : Type 0
WrongPassphrase =
    give_pass_refusal symbols (codes "second") (client_at (after 2 passes asked).clients 2)
    ≡ Some (WrongPass (codes "first") (codes "second"))

-- and giving it is void
abbrev WrongPassphraseIsVoid : Type 0
WrongPassphraseIsVoid =
    events_of (after 2 passes (asked ++ GivePass 2 2 ∷ []))
    ≡ text_of ("events 14 void 1" ∷ [])

-- a preference is on the server when a passphrase is chosen
abbrev sealed_anew : List Event
sealed_anew =
    set 1 "a" "1" ∷ Gather 1 Preference ∷ Offer 1 ∷ Deliver 3 ∷ Answer 4 ∷ Post 1 Preference ∷ Turn 1 Preference
    ∷ SetPass 1 1 ∷ Gather 1 Nigori ∷ Offer 1 ∷ Deliver 10 ∷ Answer 11 ∷ Post 1 Nigori ∷ Turn 1 Nigori
    ∷ Gather 1 Preference ∷ Offer 1 ∷ Deliver 16 ∷ Answer 17 ∷ Post 1 Preference ∷ Turn 1 Preference ∷ []

-- it is sealed anew, as a write of its own
abbrev SealedAnew : Type 0
SealedAnew =
    report symbols (after 1 (codes "first" ∷ []) sealed_anew)
    ≡ text_of ("events 20 void 0" ∷ "server version 3 keys 2"
    ∷ "entity 2 nigori google_chrome_nigori pass 1 lock 1 keys 1" ∷ "entity 3 preference a pass 1 a 1"
    ∷ "client 1 behind" ∷ "side 1 nigori mark 0 due 0 reseal 0 pending 0 mailbox 0"
    ∷ "side 1 preference mark 0 due 0 reseal 0 pending 0 mailbox 0"
    ∷ "side 1 password mark 0 due 0 reseal 0 pending 0 mailbox 0"
    ∷ "value 1 nigori google_chrome_nigori known 2 lock 1 keys 1" ∷ "value 1 preference a known 3 a 1"
    ∷ "fate 1 nigori 1 committed 2" ∷ "fate 1 preference 1 committed 1" ∷ "requests 3 deliveries 3" ∷ [])

-- batches that wait for a key come again once it is given
abbrev asked_again : List Event
asked_again =
    SetPass 1 1 ∷ Gather 1 Nigori ∷ Offer 1 ∷ Deliver 3 ∷ Answer 4 ∷ Post 1 Nigori ∷ Turn 1 Nigori ∷ save_login
    ∷ Gather 1 Password ∷ Offer 1 ∷ Deliver 10 ∷ Ask 2 ∷ Deliver 12 ∷ Answer 13 ∷ Post 2 Password ∷ Post 2 Nigori
    ∷ Post 2 Preference ∷ GivePass 2 1 ∷ Ask 2 ∷ Deliver 19 ∷ Answer 20 ∷ Post 2 Password ∷ []

-- the later one is mailed, and the one that waited is dropped
abbrev LaterBatchOpens : Type 0
LaterBatchOpens =
    (events_of (after 2 passes asked_again) ++ side_line 2 Password None (client_at (after 2 passes asked_again).clients 2).password)
    ≡ text_of ("events 22 void 0" ∷ "side 2 password mark 0 due 0 reseal 0 pending 0 mailbox 1" ∷ [])

-- all of them hold
pub rows : KeyIsMissing × KeyIsGiven × OneProfile × WrongPassphrase × WrongPassphraseIsVoid × SealedAnew × LaterBatchOpens
unfolding symbols digits text_word kind_word same_value names with_keys answer_to committed answers_to wanted_writes reply_to history_served row_of noted is_echo updated fate_of_update acknowledged ended after_offers after_update after_updates after_ack after_acks update_notes notes_of after_task task_notes with_all_due with_reseals bag_with sealed drawn_for gather_effect ask_effect offer_effect lose_effect acks_of updates_in answer_effect post_effect turn_effect edit_effect change_effect cut_effect crash_effect set_pass_effect give_pass_effect outcome_at affected STORE_BIRTHDAY stepped run fate_of edits_made events_text server_text key_text nigori_text extra_text value_text lock_text entity_line entity_lines client_text side_text value_line_text row_word fate_text fate_line client_lines clients_lines totals_text report
rows = (refl, refl, refl, refl, refl, refl, refl)
