-- What holds of each entry that a server is given holds of each that it stores, and of each that it gives.
use Rattle.std.proofs.Common.{◌≡◌, ℕ, zero, suc, ◌+◌, ◌≤◌, arith, Bool, true, false, List, [], ◌∷◌, ◌++◌, length, take, map, refl, ap, sym}
use Rattle.std.specs.List.{AllByRecursion}
use Rattle.std.specs.Prelude.{if◌then◌else◌}
use Rattle.sync_model.specs.declared.message.Answer.{Answer}
use Rattle.sync_model.specs.declared.message.Answer.TheVariants.{Success, Conflict, Invalid, OverQuota}
use Rattle.sync_model.specs.declared.message.Call.{Call}
use Rattle.sync_model.specs.declared.message.Call.TheVariants as calls
use Rattle.sync_model.specs.declared.message.Entry.{Entry}
use Rattle.sync_model.specs.declared.message.Marker.{Marker}
use Rattle.sync_model.specs.History.{answer_to, history_with, committed}
use Rattle.sync_model.specs.Servers.{is_wanted, as_given, wanted_writes, history_after}
use Rattle.sync_model.proofs.TrueAcks.{all_append}

-- what holds of each image of some things
pub all_mapped : {X Y : Type 0} (P : X → Type 0) (Q : Y → Type 0) (f : X → Y) → ((x : X) → P x → Q (f x)) → (xs : List X) → AllByRecursion P xs → AllByRecursion Q (map f xs)
all_mapped P Q f follows [] all = tt
all_mapped P Q f follows (x ∷ xs) all = (follows x all.0, all_mapped P Q f follows xs all.1)

-- what a call asks to store
abbrev pub HoldsOfCall : {C : Type 0} → (Entry C → Type 0) → Call C → Type 0
HoldsOfCall P (calls.Commit entries) = AllByRecursion P entries
HoldsOfCall P (calls.Updates marks) = Unit {0}

stored_holds : {C : Type 0} (P : Entry C → Type 0) (history : List (Entry C)) (entry : Entry C) (answer : Answer) → AllByRecursion P history → P entry
    → AllByRecursion P (history_with history entry answer)
stored_holds P history entry (Success version) all one = (one, all)
stored_holds P history entry Conflict all one = all
stored_holds P history entry Invalid all one = all
stored_holds P history entry OverQuota all one = all

committed_holds : {C : Type 0} (P : Entry C → Type 0) (is_invalid : Entry C → Bool) (history entries : List (Entry C)) → AllByRecursion P history → AllByRecursion P entries
    → AllByRecursion P (committed is_invalid history entries)
unfolding committed
committed_holds P is_invalid history [] all each = all
committed_holds P is_invalid history (entry ∷ entries) all each =
    committed_holds P is_invalid (history_with history entry (answer_to is_invalid history entry)) entries
    (stored_holds P history entry (answer_to is_invalid history entry) all each.0) each.1

-- the writes after a call
pub after_holds : {C : Type 0} (P : Entry C → Type 0) (is_invalid : Entry C → Bool) (history : List (Entry C)) (call : Call C) → AllByRecursion P history → HoldsOfCall P call
    → AllByRecursion P (history_after is_invalid history call)
after_holds P is_invalid history (calls.Commit entries) all each = committed_holds P is_invalid history entries all each
after_holds P is_invalid history (calls.Updates marks) all each = all

given_holds : {C : Type 0} (P : Entry C → Type 0) (wanted : Bool) (version : ℕ) (write : Entry C) → P (as_given version write)
    → AllByRecursion P (if wanted then as_given version write ∷ [] else [])
given_holds P true version write one = (one, tt)
given_holds P false version write one = tt

-- what is given of a history, each with a version that is no greater than the history is long
pub wanted_holds : {C : Type 0} (P Q : Entry C → Type 0) (last : ℕ) → ((version : ℕ) (write : Entry C) → version ≤ last → P write → Q (as_given version write))
    → (marks : List Marker) (whole part : List (Entry C)) → AllByRecursion P part → length part ≤ last → AllByRecursion Q (wanted_writes marks whole part)
unfolding wanted_writes
wanted_holds P Q last gives marks whole [] all short = tt
wanted_holds P Q last gives marks whole (write ∷ older) all short =
    all_append Q (wanted_writes marks whole older)
    (if is_wanted marks whole (length older + 1) write then as_given (length older + 1) write ∷ [] else [])
    (wanted_holds P Q last gives marks whole older all.1 (omega (arith, short)))
    (given_holds Q (is_wanted marks whole (length older + 1) write) (length older + 1) write
    (gives (length older + 1) write (omega (arith, short)) all.0))
