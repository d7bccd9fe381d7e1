-- The fates of the edits that were acknowledged to their user.
use Rattle.std.specs.Prelude.{ℕ, Bool, ◌==◌, ◌&&◌, if◌then◌else◌, List, [], ◌∷◌, ◌++◌, find, Option}
use Rattle.std.specs.Option.{option_map}
use Rattle.client_tags.specs.declared.Kind.{Kind}
use Rattle.sync_model.specs.declared.event.EventOutcome.{EventOutcome}
use Rattle.sync_model.specs.declared.event.EventOutcome.TheVariants.{Edited}
use Rattle.sync_model.specs.declared.fate.Fate.{Fate}
use Rattle.sync_model.specs.declared.fate.Settlement.{Settlement}
use Rattle.sync_model.specs.Values.{same_kind}

-- a settlement is of this edit
abbrev pub is_of_edit : ℕ → Kind → ℕ → Settlement → Bool
is_of_edit client kind number settlement =
    settlement.client == client && same_kind settlement.kind kind && settlement.number == number

-- the fate of an edit: the first settlement of it, or none where it stands
unfoldable pub fate_of : List Settlement → ℕ → Kind → ℕ → Option Fate
fate_of settlements client kind number =
    option_map (λ settlement. settlement.fate) (find (is_of_edit client kind number) settlements)

-- the edit of a client and a type that an event acknowledged, if it did
abbrev pub edit_made : ℕ → Kind → EventOutcome → List ℕ
edit_made client kind (Edited editor edited number) = if editor == client && same_kind edited kind then number ∷ [] else []
edit_made client kind _ = []

-- the acknowledged edits of a client and a type, by their numbers
unfoldable pub edits_made : ℕ → Kind → List EventOutcome → List ℕ
edits_made client kind [] = []
edits_made client kind (outcome ∷ earlier) = edits_made client kind earlier ++ edit_made client kind outcome
