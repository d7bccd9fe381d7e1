-- What the bytes of messages to a server say.
use Rattle.std.proofs.Common.{◌≡◌, ℕ, ◌^◌, ◌<◌, List, [], ◌∷◌, ◌++◌, Option, Some, None, option_to_list, Ok, length, map, refl, sym, ap, subst, ◌∙◌, arith}
use Rattle.std.specs.List.{AllByRecursion}
use Rattle.std.proofs.lemmas.List.{append-nil}
use Rattle.wire_format.specs.Spellings.{varint_field, bytes_field}
use Rattle.message_fields.specs.declared.field.Part.{Part}
use Rattle.message_fields.specs.declared.message.Message.{Message}
use Rattle.message_fields.specs.Written.{bytes_unless_empty}
use Rattle.message_fields.specs.Lookups.{number_of, bytes_in_field}
use Rattle.message_fields.specs.Readings.{IsReading}
use Rattle.message_fields.specs.Faults.{said_unless, wrong_kind, missing}
use Rattle.message_fields.proofs.WrittenMessages.{written, StandsAt, whole_stands, nothing_is_read}
use Rattle.sync_specifics.proofs.SpecificsInside.{nothing}
use Rattle.sync_messages.specs.declared.message.Commit.{Commit}
use Rattle.sync_messages.specs.declared.message.GetUpdates.{GetUpdates}
use Rattle.sync_messages.specs.declared.message.Request.{Request}
use Rattle.sync_messages.specs.declared.message.Request.TheVariants as requests
use Rattle.sync_messages.specs.Requests.{to_fields, commit_fields, get_updates_fields, request_named, kind_fault, IsCommit, IsGetUpdates, IsRequest, SaysTo}
use Rattle.sync_messages.specs.Spellings.{bytes_if_some, entity_bytes, entities_bytes, marker_bytes, markers_bytes, commit_bytes, to_bytes}
use Rattle.sync_messages.specs.Laws.{IsEntity, IsMarker, IsSayableRequest, RequestsAreRead}
use Rattle.sync_messages.proofs.FieldRuns.{Run, numbers, contents, run_bytes, all_fields, pieces_are, HasRun, runs_message, runs_read, right_kinds, none_of, IsRunIn, run_in}
use Rattle.sync_messages.proofs.RunReadings.{unless_empty, bytes_are, contents_are, found_number, text_is, text_if_some, text_there, number_there, parts_are, one_part, no_parts}
use Rattle.sync_messages.proofs.ListsRead.{no_first}
use Rattle.sync_messages.proofs.MarkersRead.{markers_read}
use Rattle.sync_messages.proofs.EntitiesRead.{entities_read}

-- a field that is told if it is there
pub text_if_some_is : (number : ℕ) (text : Option (List ℕ)) → bytes_if_some number text ≡ run_bytes (contents number (option_to_list text))
text_if_some_is number None = refl
text_if_some_is number (Some text) = sym (append-nil (bytes_field number text))

-- the fields of a commit, as they are written
abbrev entries_run : Commit → Run
entries_run commit = contents 1 (map entity_bytes commit.entries)

abbrev guid_run : Commit → Run
guid_run commit = contents 2 (unless_empty commit.guid)

abbrev commit_runs : Commit → List Run
commit_runs commit = entries_run commit ∷ guid_run commit ∷ []

commit_stands : (input : List ℕ) (commit : Commit) (begin end : ℕ) → StandsAt input (commit_bytes commit) begin end →
    StandsAt input (written (all_fields (commit_runs commit))) begin end
commit_stands input commit begin end stands =
    subst (λ bytes. StandsAt input bytes begin end)
    (pieces_are (entities_bytes 1 commit.entries ∷ bytes_unless_empty 2 commit.guid ∷ []) (commit_runs commit)
    (contents_are 1 entity_bytes commit.entries, (bytes_are 2 commit.guid, tt))) stands

commit_has : (commit : Commit) → AllByRecursion (HasRun commit_fields) (commit_runs commit)
commit_has commit = (λ at text. (refl, refl), (λ at text. (refl, refl), tt))

-- a commit is read of the part in which its bytes stand
commit_read : (input : List ℕ) (commit : Commit) (part : Part) → length input < 2 ^ 64 → StandsAt input (commit_bytes commit) part.begin part.end →
    IsReading commit_fields input (part ∷ []) (runs_message part.begin part.end (commit_runs commit))
commit_read input commit part small stands =
    runs_read commit_fields input part.begin part.end (commit_runs commit) small
    ((omega arith, omega arith), ((omega arith, omega arith), tt)) (commit_has commit)
    (commit_stands input commit part.begin part.end stands)

commit_is : (input : List ℕ) (own : Message) (commit : Commit) (part : Part) → length input < 2 ^ 64 → AllByRecursion IsEntity commit.entries →
    StandsAt input (commit_bytes commit) part.begin part.end → None ≡ missing 4 own →
    IsCommit input own (runs_message part.begin part.end (commit_runs commit)) None (requests.Commit commit)
commit_is input own commit part small are whole there =
    let message : Message = runs_message part.begin part.end (commit_runs commit) in
    let stands = commit_stands input commit part.begin part.end whole in
    let entries : IsRunIn input 1 message.fields (entries_run commit)
    = run_in input 1 part.begin part.end [] (entries_run commit) (guid_run commit ∷ []) tt (refl, tt) stands in
    let guid : IsRunIn input 2 message.fields (guid_run commit)
    = run_in input 2 part.begin part.end (entries_run commit ∷ []) (guid_run commit) [] (refl, tt) tt stands in
    record {
      entries_fault = None;
      entries = commit.entries;
      are_entries = entities_read input commit.entries _ small are (parts_are input 1 message.fields (map entity_bytes commit.entries) entries);
      is_fault = no_first (None ∷ wrong_kind commit_fields message ∷ missing 4 own ∷ [])
          (refl, (right_kinds commit_fields part.begin part.end (commit_runs commit) (commit_has commit), (there, tt)));
      is_request = ap (λ text. requests.Commit (record { guid = text; entries = commit.entries })) (text_is input 2 message.fields commit.guid guid);
    }

-- the fields of a get-updates, as they are written
abbrev marks_run : GetUpdates → Run
marks_run updates = contents 6 (map marker_bytes updates.marks)

updates_stand : (input : List ℕ) (updates : GetUpdates) (begin end : ℕ) → StandsAt input (markers_bytes 6 updates.marks) begin end →
    StandsAt input (written (all_fields (marks_run updates ∷ []))) begin end
updates_stand input updates begin end stands =
    subst (λ bytes. StandsAt input bytes begin end)
    (pieces_are (markers_bytes 6 updates.marks ∷ []) (marks_run updates ∷ []) (contents_are 6 marker_bytes updates.marks, tt)) stands

updates_have : (updates : GetUpdates) → AllByRecursion (HasRun get_updates_fields) (marks_run updates ∷ [])
updates_have updates = (λ at text. (refl, refl), tt)

-- a get-updates is read of the part in which its bytes stand
updates_read : (input : List ℕ) (updates : GetUpdates) (part : Part) → length input < 2 ^ 64 →
    StandsAt input (markers_bytes 6 updates.marks) part.begin part.end →
    IsReading get_updates_fields input (part ∷ []) (runs_message part.begin part.end (marks_run updates ∷ []))
updates_read input updates part small stands =
    runs_read get_updates_fields input part.begin part.end (marks_run updates ∷ []) small ((omega arith, omega arith), tt)
    (updates_have updates) (updates_stand input updates part.begin part.end stands)

updates_is : (input : List ℕ) (own : Message) (updates : GetUpdates) (part : Part) → length input < 2 ^ 64 → AllByRecursion IsMarker updates.marks →
    StandsAt input (markers_bytes 6 updates.marks) part.begin part.end → None ≡ missing 5 own →
    IsGetUpdates input own (runs_message part.begin part.end (marks_run updates ∷ [])) None (requests.Updates updates)
updates_is input own updates part small are whole there =
    let message : Message = runs_message part.begin part.end (marks_run updates ∷ []) in
    let stands = updates_stand input updates part.begin part.end whole in
    let marks : IsRunIn input 6 message.fields (marks_run updates)
    = run_in input 6 part.begin part.end [] (marks_run updates) [] tt tt stands in
    record {
      markers_fault = None;
      marks = updates.marks;
      are_markers = markers_read input updates.marks _ small are (parts_are input 6 message.fields (map marker_bytes updates.marks) marks);
      is_fault = no_first (None ∷ wrong_kind get_updates_fields message ∷ missing 5 own ∷ [])
          (refl, (right_kinds get_updates_fields part.begin part.end (marks_run updates ∷ []) (updates_have updates), (there, tt)));
      is_request = refl;
    }

-- the fields of a message to a server, as they are written: the number of its request, the request, and the birthday
abbrev kind_run : ℕ → Run
kind_run kind = numbers 3 (kind ∷ [])

abbrev birthday_run : Option (List ℕ) → Run
birthday_run birthday = contents 7 (option_to_list birthday)

abbrev to_runs : ℕ → ℕ → List ℕ → Option (List ℕ) → List Run
to_runs kind number text birthday = kind_run kind ∷ contents number (text ∷ []) ∷ birthday_run birthday ∷ []

to_stands : (input : List ℕ) (kind number : ℕ) (text : List ℕ) (birthday : Option (List ℕ)) →
    input ≡ varint_field 3 kind ++ bytes_field number text ++ bytes_if_some 7 birthday →
    StandsAt input (written (all_fields (to_runs kind number text birthday))) 0 (length input)
to_stands input kind number text birthday same =
    subst (λ bytes. StandsAt input bytes 0 (length input))
    (same ∙ pieces_are (varint_field 3 kind ∷ bytes_field number text ∷ bytes_if_some 7 birthday ∷ []) (to_runs kind number text birthday)
    (sym (append-nil (varint_field 3 kind)), (sym (append-nil (bytes_field number text)), (text_if_some_is 7 birthday, tt))))
    (whole_stands input)

-- a message to a server that has a commit
to_commit : (input : List ℕ) (commit : Commit) (birthday : Option (List ℕ)) → AllByRecursion IsEntity commit.entries → length input < 2 ^ 64 →
    input ≡ varint_field 3 1 ++ bytes_field 4 (commit_bytes commit) ++ bytes_if_some 7 birthday →
    SaysTo input (Ok (record { birthday = birthday; request = requests.Commit commit }))
to_commit input commit birthday are small same =
    let text : List ℕ = commit_bytes commit in
    let runs : List Run = to_runs 1 4 text birthday in
    let own : Message = runs_message 0 (length input) runs in
    let stands = to_stands input 1 4 text birthday same in
    let has : AllByRecursion (HasRun to_fields) runs = (λ at value. (refl, refl), (λ at content. (refl, refl), (λ at content. (refl, refl), tt))) in
    let kind : IsRunIn input 3 own.fields (kind_run 1)
    = run_in input 3 0 (length input) [] (kind_run 1) (contents 4 (text ∷ []) ∷ birthday_run birthday ∷ []) tt (refl, (refl, tt)) stands in
    let inner : IsRunIn input 4 own.fields (contents 4 (text ∷ []))
    = run_in input 4 0 (length input) (kind_run 1 ∷ []) (contents 4 (text ∷ [])) (birthday_run birthday ∷ []) (refl, tt) (refl, tt) stands in
    let name : IsRunIn input 7 own.fields (birthday_run birthday)
    = run_in input 7 0 (length input) (kind_run 1 ∷ contents 4 (text ∷ []) ∷ []) (birthday_run birthday) [] (refl, (refl, tt)) tt stands in
    let named : number_of 3 own.fields ≡ Some 1 = found_number input 3 own.fields 1 kind in
    let found = one_part input 4 own.fields text inner in
    let message : Message = runs_message found.part.begin found.part.end (commit_runs commit) in
    let updates : Message = nothing get_updates_fields in
    record {
      own = own;
      commit = message;
      updates = updates;
      is_own = runs_read to_fields input 0 (length input) runs small
          (((omega arith, omega arith), (omega arith, tt)), ((omega arith, omega arith), ((omega arith, omega arith), tt))) has stands;
      is_commit = subst (λ parts. IsReading commit_fields input parts message) (sym found.are) (commit_read input commit found.part small found.stands);
      is_updates = subst (λ parts. IsReading get_updates_fields input parts updates)
          (sym (no_parts 5 own.fields (none_of 5 0 runs (refl, (refl, (refl, tt)))))) (nothing_is_read get_updates_fields input);
      fault = None;
      request = requests.Commit commit;
      is_request = subst (λ number. IsRequest input own message updates (request_named number) None (requests.Commit commit)) (sym named)
          (commit_is input own commit found.part small are found.stands (text_there input 4 own text inner));
      is_said = ap (λ text. Ok (record { birthday = text; request = requests.Commit commit })) (text_if_some input 7 own.fields birthday name)
          ∙ ap (λ fault. said_unless fault (record { birthday = bytes_in_field input 7 own.fields; request = requests.Commit commit }))
          (no_first (None ∷ None ∷ None ∷ None ∷ wrong_kind to_fields own ∷ kind_fault own (number_of 3 own.fields) ∷ missing 3 own ∷ []) (
            refl,
            (
              refl,
              (
                refl,
                (
                  refl,
                  (
                    right_kinds to_fields 0 (length input) runs has,
                    (
                      sym (ap (kind_fault own) named),
                      (number_there input 3 own 1 kind, tt),
                    ),
                  ),
                ),
              ),
            ),
          ));
    }

-- a message to a server that has a get-updates
to_updates : (input : List ℕ) (updates : GetUpdates) (birthday : Option (List ℕ)) → AllByRecursion IsMarker updates.marks → length input < 2 ^ 64 →
    input ≡ varint_field 3 2 ++ bytes_field 5 (markers_bytes 6 updates.marks) ++ bytes_if_some 7 birthday →
    SaysTo input (Ok (record { birthday = birthday; request = requests.Updates updates }))
to_updates input updates birthday are small same =
    let text : List ℕ = markers_bytes 6 updates.marks in
    let runs : List Run = to_runs 2 5 text birthday in
    let own : Message = runs_message 0 (length input) runs in
    let stands = to_stands input 2 5 text birthday same in
    let has : AllByRecursion (HasRun to_fields) runs = (λ at value. (refl, refl), (λ at content. (refl, refl), (λ at content. (refl, refl), tt))) in
    let kind : IsRunIn input 3 own.fields (kind_run 2)
    = run_in input 3 0 (length input) [] (kind_run 2) (contents 5 (text ∷ []) ∷ birthday_run birthday ∷ []) tt (refl, (refl, tt)) stands in
    let inner : IsRunIn input 5 own.fields (contents 5 (text ∷ []))
    = run_in input 5 0 (length input) (kind_run 2 ∷ []) (contents 5 (text ∷ [])) (birthday_run birthday ∷ []) (refl, tt) (refl, tt) stands in
    let name : IsRunIn input 7 own.fields (birthday_run birthday)
    = run_in input 7 0 (length input) (kind_run 2 ∷ contents 5 (text ∷ []) ∷ []) (birthday_run birthday) [] (refl, (refl, tt)) tt stands in
    let named : number_of 3 own.fields ≡ Some 2 = found_number input 3 own.fields 2 kind in
    let found = one_part input 5 own.fields text inner in
    let message : Message = runs_message found.part.begin found.part.end (marks_run updates ∷ []) in
    let commit : Message = nothing commit_fields in
    record {
      own = own;
      commit = commit;
      updates = message;
      is_own = runs_read to_fields input 0 (length input) runs small
          (((omega arith, omega arith), (omega arith, tt)), ((omega arith, omega arith), ((omega arith, omega arith), tt))) has stands;
      is_commit = subst (λ parts. IsReading commit_fields input parts commit)
          (sym (no_parts 4 own.fields (none_of 4 0 runs (refl, (refl, (refl, tt)))))) (nothing_is_read commit_fields input);
      is_updates = subst (λ parts. IsReading get_updates_fields input parts message) (sym found.are)
          (updates_read input updates found.part small found.stands);
      fault = None;
      request = requests.Updates updates;
      is_request = subst (λ number. IsRequest input own commit message (request_named number) None (requests.Updates updates)) (sym named)
          (updates_is input own updates found.part small are found.stands (text_there input 5 own text inner));
      is_said = ap (λ text. Ok (record { birthday = text; request = requests.Updates updates })) (text_if_some input 7 own.fields birthday name)
          ∙ ap (λ fault. said_unless fault (record { birthday = bytes_in_field input 7 own.fields; request = requests.Updates updates }))
          (no_first (None ∷ None ∷ None ∷ None ∷ wrong_kind to_fields own ∷ kind_fault own (number_of 3 own.fields) ∷ missing 3 own ∷ []) (
            refl,
            (
              refl,
              (
                refl,
                (
                  refl,
                  (
                    right_kinds to_fields 0 (length input) runs has,
                    (
                      sym (ap (kind_fault own) named),
                      (number_there input 3 own 2 kind, tt),
                    ),
                  ),
                ),
              ),
            ),
          ));
    }

pub requests_are_read : RequestsAreRead
requests_are_read message is small = by_request message.request message.birthday is small
  where
    by_request : (request : Request) (birthday : Option (List ℕ)) → IsSayableRequest request →
        length (to_bytes (record { birthday = birthday; request = request })) < 2 ^ 64 →
        SaysTo (to_bytes (record { birthday = birthday; request = request })) (Ok (record { birthday = birthday; request = request }))
    by_request (requests.Commit commit) birthday is small =
        to_commit (to_bytes (record { birthday = birthday; request = requests.Commit commit })) commit birthday is small refl
    by_request (requests.Updates updates) birthday is small =
        to_updates (to_bytes (record { birthday = birthday; request = requests.Updates updates })) updates birthday is small refl
