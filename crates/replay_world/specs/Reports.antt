-- The report of a world, and its parts as the functions that write it come to them.
use Rattle.std.specs.Prelude.{◌≡◌, ℕ, ◌-◌, ◌<◌, Bool, true, false, ◌==◌, ◌&&◌, ◌||◌, if◌then◌else◌, List, [], ◌∷◌, ◌++◌, Option, slice_index_or}
use Rattle.std.specs.BTreeMap.{is_at}
use Rattle.std.specs.List.{flat_map}
use Rattle.std.specs.Map.{lookup}
use Rattle.std.specs.Ordering.{nat_cmp}
use Rattle.sha2.specs.Sha256.{sha256}
use Rattle.client_tags.specs.declared.Kind.{Kind}
use Rattle.sync_model.specs.declared.event.EventOutcome.{EventOutcome}
use Rattle.sync_model.specs.declared.fate.Fate.{Fate}
use Rattle.sync_model.specs.declared.fate.Settlement.{Settlement}
use Rattle.sync_model.specs.declared.message.Content.{Content}
use Rattle.sync_model.specs.declared.message.Entry.{Entry}
use Rattle.sync_model.specs.Fates.{fate_of, edits_made}
use Rattle.sync_model.specs.Report.{entity_line, fate_line, pass_number, report}
use Rattle.sync_model.specs.Values.{same_kind}
use Rattle.sync_model.specs.Worlds.{World}
use Rattle.run_setting.specs.Hashed.{hashed}
use Rattle.report_lines.specs.Digests.{digest_line}
use Rattle.replay_messages.specs.Records.{wire_record}
use Rattle.replay_world.specs.declared.happened.Happened.{Happened}
use Rattle.replay_world.specs.declared.happened.Happened.TheVariants as kept

-- the lines of a world, and at last the digest of all its messages
unfoldable pub full_report : World → List ℕ
full_report world = report hashed world ++ digest_line (sha256 (wire_record world.seed world.outcomes))

-- a write of a history is based on this version
abbrev pub is_base : List (Entry Content) → ℕ → Bool
is_base [] version = false
is_base (write ∷ older) version = write.version == version || is_base older version

-- a table tells of each version whether a write of a history is based on it
abbrev pub HasBases : List Bool → List (Entry Content) → Type 0
HasBases bases history = (version : ℕ) → 0 < version → slice_index_or bases (version - 1) false ≡ is_base history version

-- the line of a write of this version, if no later write is based on it
abbrev pub line_unless : Bool → ℕ → Entry Content → List ℕ
line_unless is_based version write = if is_based then [] else entity_line hashed (pass_number hashed []) version write

-- a write is the first of its key
abbrev pub is_first : Entry Content → Bool
is_first write = write.version == 0

-- nothing came of an event
abbrev pub was_void : Happened → Bool
was_void kept.Void = true
was_void kept.Done = false
was_void (kept.Edited client kind number) = false
was_void (kept.Requested client request bytes) = false
was_void (kept.Delivered request before bytes) = false

-- an event made a request
abbrev pub was_request : Happened → Bool
was_request (kept.Requested client request bytes) = true
was_request kept.Void = false
was_request kept.Done = false
was_request (kept.Edited client kind number) = false
was_request (kept.Delivered request before bytes) = false

-- an event was a delivery
abbrev pub was_delivery : Happened → Bool
was_delivery (kept.Delivered request before bytes) = true
was_delivery kept.Void = false
was_delivery kept.Done = false
was_delivery (kept.Edited client kind number) = false
was_delivery (kept.Requested client request bytes) = false

-- the edit of a client and a type that is kept of an event, if one is
abbrev pub edit_kept : ℕ → Kind → Happened → List ℕ
edit_kept client kind (kept.Edited editor edited number) = if editor == client && same_kind edited kind then number ∷ [] else []
edit_kept client kind kept.Void = []
edit_kept client kind kept.Done = []
edit_kept client kind (kept.Requested author request bytes) = []
edit_kept client kind (kept.Delivered request before bytes) = []

-- the fate that a table has at the number of an edit
abbrev pub fate_at : List (ℕ × Fate) → ℕ → Option Fate
fate_at fates number = lookup (is_at (nat_cmp number)) fates

-- a table has the fate of each edit of a client and a type that these settlements name
abbrev pub HasFates : List (ℕ × Fate) → List Settlement → ℕ → Kind → Type 0
HasFates fates settlements client kind = (number : ℕ) → fate_at fates number ≡ fate_of settlements client kind number

-- the line of the edit of a client and a type that is kept of an event, if one is, with its fate in a table
unfoldable pub kept_fate : List (ℕ × Fate) → ℕ → Kind → Happened → List ℕ
kept_fate fates client kind happened =
    flat_map (λ number. fate_line client kind number (fate_at fates number)) (edit_kept client kind happened)

-- the fates of the edits of a client and a type that events acknowledged, the newest event first
abbrev pub fates_text : List EventOutcome → List Settlement → ℕ → Kind → List ℕ
fates_text outcomes settlements client kind =
    flat_map (λ number. fate_line client kind number (fate_of settlements client kind number)) (edits_made client kind outcomes)
