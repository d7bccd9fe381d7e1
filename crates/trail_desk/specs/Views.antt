-- What a token of a desk's table knows.
use Rattle.std.specs.Prelude.{ℕ, ◌+◌, List, [], ◌∷◌, ◌++◌, Option, Some, None}
use Rattle.std.specs.Option.{option_map}
use Rattle.atomic_table.specs.Seated.{TableId}
use Rattle.trail_desk.specs.declared.entry.Entry.{Entry}
use Rattle.trail_desk.specs.declared.entry.Opening.{Opening}
use Rattle.trail_desk.specs.declared.rule.View.{View}
use Rattle.trail_desk.specs.declared.rule.Whole.{Whole}
use Rattle.trail_desk.specs.declared.rule.Part.{Part}

-- the name of no table
abbrev pub no_table : TableId
no_table = record { words = 0; slots = 0; views_name = 0; atom = 0; block = 0; offset = 0; slot_names = [] }

-- nothing
abbrev pub nothing : {C A G : Type 0} → View C A G
nothing = record { opening = None; whole = None; part = None }

-- what the keeper knows, and nothing else
abbrev pub keeping : {C A G : Type 0} → Option (Whole C A G) → View C A G
keeping whole = record { opening = None; whole = whole; part = None }

-- the opening, and nothing else
abbrev pub opened_by : {C A G : Type 0} → Option (Opening C) → View C A G
opened_by opening = record { opening = opening; whole = None; part = None }

-- how the desk began, and what a seat knows
abbrev pub sitting : {C A G : Type 0} → Option (Opening C) → Option (Part A G) → View C A G
sitting opening part = record { opening = opening; whole = None; part = part }

-- what the keeper knows of a table that was just made
abbrev pub unused : {C A G : Type 0} → Opening C → Whole C A G
unused opening = record { opening = opening; made = 0; trail = [] }

-- the view of the first token
abbrev pub first_view : {C A G : Type 0} → Opening C → View C A G
first_view opening = keeping (Some (unused opening))

-- the first view takes in what the second one knows as a keeper
abbrev pub with_keeper : {C A G : Type 0} → View C A G → View C A G → View C A G
with_keeper view keeper = record { opening = view.opening; whole = keeper.whole; part = view.part }

-- the view without what it knows as a keeper
abbrev pub without_keeper : {C A G : Type 0} → View C A G → View C A G
without_keeper view = sitting view.opening view.part

-- what the view knows as a keeper, and nothing else
abbrev pub keeper_alone : {C A G : Type 0} → View C A G → View C A G
keeper_alone view = keeping view.whole

-- the opening that a keeper knows, and nothing else
abbrev pub opening_alone : {C A G : Type 0} → View C A G → View C A G
opening_alone view = opened_by (option_map (λ whole. whole.opening) view.whole)

-- what the keeper knows after one more seat was made
abbrev pub with_seat : {C A G : Type 0} → Whole C A G → Whole C A G
with_seat whole = record { opening = whole.opening; made = whole.made + 1; trail = whole.trail }

-- the new seat's part: it has seen nothing
abbrev pub new_part : {C A G : Type 0} → Whole C A G → Part A G
new_part whole = record { seat = whole.made + 1; seen = []; own = [] }

-- the keeper after one more seat was made
abbrev pub one_more_made : {C A G : Type 0} → View C A G → View C A G
one_more_made view = record { opening = view.opening; whole = option_map with_seat view.whole; part = view.part }

-- the view of a new seat
abbrev pub new_seat : {C A G : Type 0} → View C A G → View C A G
new_seat view = sitting (option_map (λ whole. whole.opening) view.whole) (option_map new_part view.whole)

-- the trail that a keeper knows
abbrev pub trail_of : {C A G : Type 0} → Option (Whole C A G) → List (Entry A G)
trail_of None = []
trail_of (Some whole) = whole.trail

-- what a seat has seen
abbrev pub seen_of : {A G : Type 0} → Option (Part A G) → List (Entry A G)
seen_of None = []
seen_of (Some part) = part.seen

-- a seat's own steps
abbrev pub own_of : {A G : Type 0} → Option (Part A G) → List (Entry A G)
own_of None = []
own_of (Some part) = part.own

-- the part of a seat that has seen this trail
abbrev pub shown : {A G : Type 0} → List (Entry A G) → Part A G → Part A G
shown trail part = record { seat = part.seat; seen = trail; own = part.own }

-- the seat has seen all that the keeper knows
abbrev pub informed : {C A G : Type 0} → View C A G → View C A G
informed view = record { opening = view.opening; whole = view.whole; part = option_map (shown (trail_of view.whole)) view.part }

-- what the keeper knows after one more step
abbrev pub with_entry : {C A G : Type 0} → Entry A G → Whole C A G → Whole C A G
with_entry entry whole = record { opening = whole.opening; made = whole.made; trail = whole.trail ++ entry ∷ [] }

-- the part of the seat that made this step after this trail
abbrev pub with_own : {A G : Type 0} → List (Entry A G) → Entry A G → Part A G → Part A G
with_own trail entry part = record { seat = part.seat; seen = trail ++ entry ∷ []; own = part.own ++ entry ∷ [] }

-- the seat made this step, which is the trail's last
abbrev pub entered : {C A G : Type 0} → Entry A G → View C A G → View C A G
entered entry view = record {
  opening = view.opening;
  whole = option_map (with_entry entry) view.whole;
  part = option_map (with_own (trail_of view.whole) entry) view.part;
}
