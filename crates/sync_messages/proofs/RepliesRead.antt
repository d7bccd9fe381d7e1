-- What the bytes of messages from a server say.
use Rattle.std.proofs.Common.{◌≡◌, ℕ, ◌^◌, ◌<◌, ◌≤◌, true, false, ◌==◌, nat_le, nat_lt, if◌then◌else◌, List, [], ◌∷◌, ◌++◌, Option, Some, None, is_some, option_to_list, Ok, length, map, refl, sym, ap, subst, ◌∙◌, arith}
use Rattle.std.specs.List.{AllByRecursion, filter, last_or}
use Rattle.std.proofs.lemmas.Bool.Decides.{nat_tests}
use Rattle.std.proofs.lemmas.List.{append-nil, length-append}
use Rattle.wire_format.specs.Spellings.{bytes_field}
use Rattle.message_fields.specs.declared.field.Part.{Part}
use Rattle.message_fields.specs.declared.field.PlacedField.{PlacedField}
use Rattle.message_fields.specs.declared.message.Message.{Message}
use Rattle.message_fields.specs.declared.fault.MessageReason.TheVariants.{Range}
use Rattle.message_fields.specs.Written.{varint_unless_zero}
use Rattle.message_fields.specs.Lookups.{has_number, last_of, varint_held, held_by, parts_of, bytes_in_field}
use Rattle.message_fields.specs.Readings.{IsReading}
use Rattle.message_fields.specs.Faults.{said_unless, wire_fault, wrong_kind, fault_of}
use Rattle.message_fields.proofs.WrittenMessages.{some_bytes, written, placed_at, StandsAt, whole_stands}
use Rattle.sync_messages.specs.declared.message.EntryAnswer.{EntryAnswer}
use Rattle.sync_messages.specs.declared.message.Reply.{Reply}
use Rattle.sync_messages.specs.declared.message.Reply.TheVariants as replies
use Rattle.sync_messages.specs.declared.message.Updates.{Updates}
use Rattle.sync_messages.specs.declared.reply.ReplyKind.TheVariants as kinds
use Rattle.sync_messages.specs.Replies.{LAST_CODE, from_fields, committed_fields, updates_fields, code_of, reply_kind, code_or_zero, IsCommitted, remaining_fault, AreUpdates, IsReply, SaysFrom}
use Rattle.sync_messages.specs.Spellings.{bytes_if_some, entity_bytes, entities_bytes, marker_bytes, markers_bytes, answer_bytes, answers_bytes, updates_bytes, from_bytes}
use Rattle.sync_messages.specs.Laws.{IsAnswer, IsSayableReply, RepliesAreRead}
use Rattle.sync_messages.proofs.FieldRuns.{Run, numbers, contents, run_number, run_bytes, all_fields, pieces_are, IsSoundRun, HasRun, runs_message, runs_read, right_kinds, none_of, IsRunIn, run_in}
use Rattle.sync_messages.proofs.RunReadings.{unless_zero, varint_is, values_fit, contents_are, last_is, text_if_some, number_is, parts_are, one_part}
use Rattle.sync_messages.proofs.ListsRead.{no_first}
use Rattle.sync_messages.proofs.MarkersRead.{markers_read}
use Rattle.sync_messages.proofs.EntitiesRead.{entities_read}
use Rattle.sync_messages.proofs.GroupsRead.{HasGroups, groups_message, groups_read, right_groups, groups_are, groups_bytes}
use Rattle.sync_messages.proofs.AnswersRead.{answers_read, answers_are_groups, answers_fill}
use Rattle.sync_messages.proofs.RequestsRead.{text_if_some_is}

-- answers to a commit are read of the part in which their bytes stand
committed_groups : (input : List ℕ) (answers : List EntryAnswer) (part : Part) → StandsAt input (answers_bytes answers) part.begin part.end →
    StandsAt input (groups_bytes 1 (map answer_bytes answers)) part.begin part.end
committed_groups input answers part stands =
    subst (λ bytes. StandsAt input bytes part.begin part.end) (answers_are_groups answers) stands

committed_is : (input : List ℕ) (own : Message) (answers : List EntryAnswer) (part : Part) → length input < 2 ^ 64 →
    AllByRecursion IsAnswer answers → length (answers_bytes answers) < 2 ^ 64 → parts_of 1 own.fields ≡ part ∷ [] →
    StandsAt input (answers_bytes answers) part.begin part.end → IsCommitted input own None (replies.Committed answers)
committed_is input own answers part small are inner found whole =
    let texts : List (List ℕ) = map answer_bytes answers in
    let message : Message = groups_message part.begin part.end 1 texts in
    let stands = committed_groups input answers part whole in
    let has : HasGroups committed_fields 1 = λ at content. (refl, refl) in
    record {
      message = message;
      is_reading = subst (λ parts. IsReading committed_fields input parts message) (sym found)
          (groups_read committed_fields input part.begin part.end 1 texts (omega arith, omega arith) (answers_fill answers are inner) has stands);
      answers_fault = None;
      answers = answers;
      are_answers = answers_read input answers _ small are (groups_are input part.begin part.end 1 texts stands);
      is_fault = no_first (None ∷ wire_fault message ∷ wrong_kind committed_fields message ∷ [])
          (refl, (refl, (right_groups committed_fields part.begin part.end 1 texts has, tt)));
      is_reply = refl;
    }

-- bytes that stand in an input that fits into memory fit into it
stands_small : (input content : List ℕ) (part : Part) → length input < 2 ^ 64 → StandsAt input content part.begin part.end → length content < 2 ^ 64
stands_small input content part small stands =
    omega (arith, small, ap length stands.is_whole, length-append stands.front (content ++ stands.back), length-append content stands.back)

-- the fields of updates, as they are written
abbrev entries_run : Updates → Run
entries_run updates = contents 1 (map entity_bytes updates.entries)

abbrev remaining_run : Updates → Run
remaining_run updates = numbers 4 (unless_zero updates.remaining)

abbrev marks_run : Updates → Run
marks_run updates = contents 5 (map marker_bytes updates.marks)

abbrev updates_runs : Updates → List Run
updates_runs updates = entries_run updates ∷ remaining_run updates ∷ marks_run updates ∷ []

updates_stand : (input : List ℕ) (updates : Updates) (part : Part) → StandsAt input (updates_bytes updates) part.begin part.end →
    StandsAt input (written (all_fields (updates_runs updates))) part.begin part.end
updates_stand input updates part stands =
    subst (λ bytes. StandsAt input bytes part.begin part.end)
    (pieces_are (entities_bytes 1 updates.entries ∷ varint_unless_zero 4 updates.remaining ∷ markers_bytes 5 updates.marks ∷ []) (updates_runs updates)
    (contents_are 1 entity_bytes updates.entries, (varint_is 4 updates.remaining, (contents_are 5 marker_bytes updates.marks, tt)))) stands

-- a test of numbers that holds
less : (a b : ℕ) → a < b → true ≡ nat_lt a b
less a b below = grind (arith, nat_tests, below)

at_most : (a b : ℕ) → a ≤ b → true ≡ nat_le a b
at_most a b below = grind (arith, nat_tests, below)

-- updates are read of the part in which their bytes stand
updates_are : (input : List ℕ) (own : Message) (updates : Updates) (part : Part) → length input < 2 ^ 64 →
    IsSayableReply (replies.Updates updates) → parts_of 2 own.fields ≡ part ∷ [] →
    StandsAt input (updates_bytes updates) part.begin part.end → AreUpdates input own None (replies.Updates updates)
updates_are input own updates part small is found whole =
    let runs : List Run = updates_runs updates in
    let message : Message = runs_message part.begin part.end runs in
    let stands = updates_stand input updates part whole in
    let has : AllByRecursion (HasRun updates_fields) runs
    = (λ at text. (refl, refl), (λ at value. (refl, refl), (λ at text. (refl, refl), tt))) in
    let entries : IsRunIn input 1 message.fields (entries_run updates)
    = run_in input 1 part.begin part.end [] (entries_run updates) (remaining_run updates ∷ marks_run updates ∷ []) tt (refl, (refl, tt)) stands in
    let left : IsRunIn input 4 message.fields (remaining_run updates)
    = run_in input 4 part.begin part.end (entries_run updates ∷ []) (remaining_run updates) (marks_run updates ∷ []) (refl, tt) (refl, tt) stands in
    let marks : IsRunIn input 5 message.fields (marks_run updates)
    = run_in input 5 part.begin part.end (entries_run updates ∷ remaining_run updates ∷ []) (marks_run updates) [] (refl, (refl, tt)) tt stands in
    let remaining = number_is input 4 message.fields updates.remaining left in
    record {
      message = message;
      is_reading = subst (λ parts. IsReading updates_fields input parts message) (sym found)
          (runs_read updates_fields input part.begin part.end runs small (
            (omega arith, omega arith),
            (
              ((omega arith, omega arith), values_fit updates.remaining (omega (arith, is.1))),
              ((omega arith, omega arith), tt),
            ),
          ) has stands);
      entries_fault = None;
      entries = updates.entries;
      are_entries = entities_read input updates.entries _ small is.0 (parts_are input 1 message.fields (map entity_bytes updates.entries) entries);
      markers_fault = None;
      marks = updates.marks;
      are_markers = markers_read input updates.marks _ small is.2 (parts_are input 5 message.fields (map marker_bytes updates.marks) marks);
      is_fault = no_first (None ∷ None ∷ wire_fault message ∷ wrong_kind updates_fields message ∷ remaining_fault message ∷ []) (
        refl,
        (
          refl,
          (
            refl,
            (
              right_kinds updates_fields part.begin part.end runs has,
              (
                ap (λ b. if b then None else fault_of 4 (Range 4) message) (less updates.remaining (2 ^ 63) is.1)
                    ∙ ap (λ number. if nat_lt number (2 ^ 63) then None else fault_of 4 (Range 4) message) remaining,
                tt,
              ),
            ),
          ),
        ),
      );
      is_reply = ap (λ number. replies.Updates (record { entries = updates.entries; remaining = number; marks = updates.marks })) remaining;
    }

-- what a message holds, by its code and by the fields of answers and updates
kind_of : (own : Message) (code : ℕ) (first second : Option PlacedField) → code_of own ≡ code → last_of 1 own.fields ≡ first →
    last_of 2 own.fields ≡ second →
    reply_kind own ≡ (if nat_lt 0 code then kinds.Refused else if is_some first then kinds.Committed else if is_some second then kinds.Updates else kinds.Nothing)
kind_of own code first second codes firsts seconds =
    ap (λ number. if nat_lt 0 number then kinds.Refused else if is_some (last_of 1 own.fields) then kinds.Committed
    else if is_some (last_of 2 own.fields) then kinds.Updates else kinds.Nothing) codes
    ∙ ap (λ found. if nat_lt 0 code then kinds.Refused else if is_some found then kinds.Committed
    else if is_some (last_of 2 own.fields) then kinds.Updates else kinds.Nothing) firsts
    ∙ ap (λ found. if nat_lt 0 code then kinds.Refused else if is_some first then kinds.Committed
    else if is_some found then kinds.Updates else kinds.Nothing) seconds

-- without a code's field the code is 0
no_code : (own : Message) → filter (has_number 4) own.fields ≡ [] → code_of own ≡ 0
no_code own none =
    ap (λ found. elim (held_by varint_held (last_or None found)) as (λ value. ℕ) [ None ↦ 0 | Some value ↦ value ]) none

-- the fields of a message from a server, as they are written: what it holds, and the birthday
abbrev birthday_run : Option (List ℕ) → Run
birthday_run birthday = contents 6 (option_to_list birthday)

abbrev from_runs : Run → Option (List ℕ) → List Run
from_runs held birthday = held ∷ birthday_run birthday ∷ []

from_stands : (input bytes : List ℕ) (held : Run) (birthday : Option (List ℕ)) → bytes ≡ run_bytes held →
    input ≡ bytes ++ bytes_if_some 6 birthday → StandsAt input (written (all_fields (from_runs held birthday))) 0 (length input)
from_stands input bytes held birthday is same =
    subst (λ all. StandsAt input all 0 (length input))
    (same ∙ pieces_are (bytes ∷ bytes_if_some 6 birthday ∷ []) (from_runs held birthday) (is, (text_if_some_is 6 birthday, tt)))
    (whole_stands input)

-- a message from a server, where what it holds is read
from_said : (input : List ℕ) (held : Run) (birthday : Option (List ℕ)) (reply : Reply) → length input < 2 ^ 64 → IsSoundRun held →
    HasRun from_fields held → (run_number held == 6) ≡ false →
    StandsAt input (written (all_fields (from_runs held birthday))) 0 (length input) →
    IsReply input (runs_message 0 (length input) (from_runs held birthday)) (reply_kind (runs_message 0 (length input) (from_runs held birthday))) None reply →
    SaysFrom input (Ok (record { birthday = birthday; reply = reply }))
from_said input held birthday reply small sound has differs stands is =
    let runs : List Run = from_runs held birthday in
    let own : Message = runs_message 0 (length input) runs in
    let all : AllByRecursion (HasRun from_fields) runs = (has, (λ at text. (refl, refl), tt)) in
    let name : IsRunIn input 6 own.fields (birthday_run birthday)
    = run_in input 6 0 (length input) (held ∷ []) (birthday_run birthday) [] (differs, tt) tt stands in
    record {
      own = own;
      is_own = runs_read from_fields input 0 (length input) runs small (sound, ((omega arith, omega arith), tt)) all stands;
      fault = None;
      reply = reply;
      is_reply = is;
      is_said = ap (λ text. Ok (record { birthday = text; reply = reply })) (text_if_some input 6 own.fields birthday name)
          ∙ ap (λ fault. said_unless fault (record { birthday = bytes_in_field input 6 own.fields; reply = reply }))
          (no_first (None ∷ None ∷ wrong_kind from_fields own ∷ [])
          (refl, (refl, (right_kinds from_fields 0 (length input) runs all, tt))));
    }

-- answers to a commit
from_committed : (input : List ℕ) (answers : List EntryAnswer) (birthday : Option (List ℕ)) → AllByRecursion IsAnswer answers →
    length input < 2 ^ 64 → input ≡ bytes_field 1 (answers_bytes answers) ++ bytes_if_some 6 birthday →
    SaysFrom input (Ok (record { birthday = birthday; reply = replies.Committed answers }))
from_committed input answers birthday are small same =
    let text : List ℕ = answers_bytes answers in
    let held : Run = contents 1 (text ∷ []) in
    let runs : List Run = from_runs held birthday in
    let own : Message = runs_message 0 (length input) runs in
    let stands = from_stands input (bytes_field 1 text) held birthday (sym (append-nil (bytes_field 1 text))) same in
    let inner : IsRunIn input 1 own.fields held = run_in input 1 0 (length input) [] held (birthday_run birthday ∷ []) tt (refl, tt) stands in
    let found = one_part input 1 own.fields text inner in
    let kind : reply_kind own ≡ kinds.Committed
    = kind_of own 0 (Some (placed_at inner.place (some_bytes 1 text))) (last_of 2 own.fields)
    (no_code own (none_of 4 0 runs (refl, (refl, tt)))) (last_is input 1 own.fields text inner) refl in
    from_said input held birthday (replies.Committed answers) small (omega arith, omega arith) (λ at content. (refl, refl)) refl stands
    (subst (λ kind. IsReply input own kind None (replies.Committed answers)) (sym kind)
    (committed_is input own answers found.part small are (stands_small input text found.part small found.stands) found.are found.stands))

-- updates
from_updates : (input : List ℕ) (updates : Updates) (birthday : Option (List ℕ)) → IsSayableReply (replies.Updates updates) →
    length input < 2 ^ 64 → input ≡ bytes_field 2 (updates_bytes updates) ++ bytes_if_some 6 birthday →
    SaysFrom input (Ok (record { birthday = birthday; reply = replies.Updates updates }))
from_updates input updates birthday are small same =
    let text : List ℕ = updates_bytes updates in
    let held : Run = contents 2 (text ∷ []) in
    let runs : List Run = from_runs held birthday in
    let own : Message = runs_message 0 (length input) runs in
    let stands = from_stands input (bytes_field 2 text) held birthday (sym (append-nil (bytes_field 2 text))) same in
    let inner : IsRunIn input 2 own.fields held = run_in input 2 0 (length input) [] held (birthday_run birthday ∷ []) tt (refl, tt) stands in
    let found = one_part input 2 own.fields text inner in
    let kind : reply_kind own ≡ kinds.Updates
    = kind_of own 0 None (Some (placed_at inner.place (some_bytes 2 text))) (no_code own (none_of 4 0 runs (refl, (refl, tt))))
    (ap (last_or None) (none_of 1 0 runs (refl, (refl, tt)))) (last_is input 2 own.fields text inner) in
    from_said input held birthday (replies.Updates updates) small (omega arith, omega arith) (λ at content. (refl, refl)) refl stands
    (subst (λ kind. IsReply input own kind None (replies.Updates updates)) (sym kind)
    (updates_are input own updates found.part small are found.are found.stands))

-- an error code
from_refused : (input : List ℕ) (code : ℕ) (birthday : Option (List ℕ)) → IsSayableReply (replies.Refused code) → length input < 2 ^ 64 →
    input ≡ varint_unless_zero 4 code ++ bytes_if_some 6 birthday → SaysFrom input (Ok (record { birthday = birthday; reply = replies.Refused code }))
from_refused input code birthday is small same =
    let held : Run = numbers 4 (unless_zero code) in
    let runs : List Run = from_runs held birthday in
    let own : Message = runs_message 0 (length input) runs in
    let stands = from_stands input (varint_unless_zero 4 code) held birthday (varint_is 4 code) same in
    let inner : IsRunIn input 4 own.fields held = run_in input 4 0 (length input) [] held (birthday_run birthday ∷ []) tt (refl, tt) stands in
    let codes : code ≡ code_of own = number_is input 4 own.fields code inner in
    let kind : reply_kind own ≡ kinds.Refused
    = kind_of own code (last_of 1 own.fields) (last_of 2 own.fields) (sym codes) refl refl
    ∙ sym (ap (λ b. if b then kinds.Refused else if is_some (last_of 1 own.fields) then kinds.Committed
    else if is_some (last_of 2 own.fields) then kinds.Updates else kinds.Nothing) (less 0 code is.0)) in
    from_said input held birthday (replies.Refused code) small ((omega arith, omega arith), values_fit code (omega (arith, is.1)))
    (λ at value. (refl, refl)) refl stands
    (subst (λ kind. IsReply input own kind None (replies.Refused code)) (sym kind) (
      ap (λ b. if b then None else fault_of 4 (Range 4) own) (at_most code LAST_CODE is.1)
          ∙ ap (λ number. if nat_le number LAST_CODE then None else fault_of 4 (Range 4) own) codes,
      ap (λ b. replies.Refused (if b then code else 0)) (at_most code LAST_CODE is.1)
          ∙ ap (λ number. replies.Refused (code_or_zero number)) codes,
    ))

pub replies_are_read : RepliesAreRead
replies_are_read message is small = by_reply message.reply message.birthday is small
  where
    by_reply : (reply : Reply) (birthday : Option (List ℕ)) → IsSayableReply reply →
        length (from_bytes (record { birthday = birthday; reply = reply })) < 2 ^ 64 →
        SaysFrom (from_bytes (record { birthday = birthday; reply = reply })) (Ok (record { birthday = birthday; reply = reply }))
    by_reply (replies.Committed answers) birthday is small =
        from_committed (from_bytes (record { birthday = birthday; reply = replies.Committed answers })) answers birthday is small refl
    by_reply (replies.Updates updates) birthday is small =
        from_updates (from_bytes (record { birthday = birthday; reply = replies.Updates updates })) updates birthday is small refl
    by_reply (replies.Refused code) birthday is small =
        from_refused (from_bytes (record { birthday = birthday; reply = replies.Refused code })) code birthday is small refl
