-- Stores, each under its name, and what a place does with them.
use Rattle.std.specs.Prelude.{◌≡◌, ℕ, ◌==◌, ◌<◌, Bool, cond, List, [], ◌∷◌, ◌++◌, Option, Some, None, is_some, IsSome, IfSome, Contains}
use Rattle.std.specs.Cmp.Lexicographic.{pointwise}
use Rattle.std.specs.List.{IsDistinct}
use Rattle.std.specs.Map.{lookup, set_value, keys_of}
use Rattle.std.specs.Option.{option_map, unwrap_or}
use Rattle.std.specs.Prelude.{nat_eq}
use Rattle.outer_edge.specs.Faults.{Rose, counted}
use Rattle.client_keeper.specs.Rows.{Rows}
use Rattle.client_keeper.specs.declared.keeper.LoadFault.{LoadFault}
use Rattle.client_keeper.specs.declared.keeper.LoadFault.TheVariants as load

-- the rows of each store by the store's name, in the order in which the names were first asked for
abbrev pub Stores : Type 0
Stores = List (List ℕ × Rows)

-- the two names are one
abbrev pub is_named : List ℕ → List ℕ → Bool
is_named name other = pointwise nat_eq name other

-- no two stores have one name
abbrev pub HaveOwnNames : Stores → Type 0
HaveOwnNames stores = IsDistinct is_named (keys_of stores)

-- a store has this name
abbrev pub HasStore : Stores → List ℕ → Type 0
HasStore stores name = IsSome (lookup (is_named name) stores)

-- each name that a store had has one still
abbrev pub KeepsNames : Stores → Stores → Type 0
KeepsNames before now = (name : List ℕ) → HasStore before name → HasStore now name

-- the same, where the stores are told
abbrev pub KeepsToldNames : Option Stores → Option Stores → Type 0
KeepsToldNames before now = IfSome before (λ told. IfSome now (λ later. KeepsNames told later))

-- the rows of the store with this name; none where there is no such store
abbrev pub rows_at : Stores → List ℕ → Rows
rows_at stores name = unwrap_or (lookup (is_named name) stores) []

-- the stores with one of this name: a name that is missing is added at the end, without rows
abbrev pub with_name : Stores → List ℕ → Stores
with_name stores name = cond (is_some (lookup (is_named name) stores)) stores (stores ++ (name, []) ∷ [])

-- the stores with these rows under the name
abbrev pub with_rows : Stores → List ℕ → Rows → Stores
with_rows stores name rows = set_value (is_named name) stores rows

-- told stores with one of this name; stores that are not told stay untold
abbrev pub told_with_name : Option Stores → List ℕ → Option Stores
told_with_name told name = option_map (λ stores. with_name stores name) told

-- told stores with told rows under the name; where either is not told, the stores are not
abbrev pub told_with_rows : Option Stores → List ℕ → Option Rows → Option Stores
told_with_rows None name rows = None
told_with_rows (Some stores) name None = None
told_with_rows (Some stores) name (Some rows) = Some (with_rows stores name rows)

-- what a place has after it gave no keeper: the name where the outside failed, and all as it was where memory was wanting
abbrev pub told_after_fault : LoadFault → Option Stores → List ℕ → Option Stores
told_after_fault load.Failed told name = told_with_name told name
told_after_fault load.NoMemory told name = told

-- a keeper with so many faults was handed back: it spoils the count where it has one, and only there
pub record IsSpoiledBy (faults before now : ℕ) : Type 0 where
  pub sound : faults ≡ 0 → now ≡ before
  pub spoiled : 0 < faults → Rose before now

-- a place in memory: its stores, how many keepers it was asked for, at which calls it gives none, how often that was, and
-- how many keepers came back with faults
pub record PlaceState : Type 0 where
  pub stores : Stores
  pub calls : ℕ
  pub failing : List ℕ
  pub faults : ℕ
  pub spoiled : ℕ

-- a place in memory before its first call
abbrev pub new_place : List ℕ → PlaceState
new_place failing = record { stores = []; calls = 0; failing = failing; faults = 0; spoiled = 0 }

-- the next keeper that is asked for is not given
abbrev pub GivesNone : PlaceState → Type 0
GivesNone s = Contains s.failing (counted s.calls)

-- a keeper of this name was asked for, and given
abbrev pub after_giving : List ℕ → PlaceState → PlaceState
after_giving name s = record {
  stores = with_name s.stores name;
  calls = counted s.calls;
  failing = s.failing;
  faults = s.faults;
  spoiled = s.spoiled;
}

-- a keeper of this name was asked for, and not given
abbrev pub after_refusal : LoadFault → List ℕ → PlaceState → PlaceState
after_refusal load.Failed name s = record {
  stores = with_name s.stores name;
  calls = counted s.calls;
  failing = s.failing;
  faults = counted s.faults;
  spoiled = s.spoiled;
}
after_refusal load.NoMemory name s = record {
  stores = s.stores;
  calls = counted s.calls;
  failing = s.failing;
  faults = s.faults;
  spoiled = s.spoiled;
}

-- a keeper of this name came back, with these rows and so many faults
abbrev pub after_return : List ℕ → Rows → ℕ → PlaceState → PlaceState
after_return name rows faults s = record {
  stores = with_rows s.stores name rows;
  calls = s.calls;
  failing = s.failing;
  faults = s.faults;
  spoiled = cond (0 == faults) s.spoiled (counted s.spoiled);
}

-- the counts of a place that tells no stores
pub record PlaceCounts : Type 0 where
  pub faults : ℕ
  pub spoiled : ℕ
