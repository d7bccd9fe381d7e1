-- Stores in memory, and where the one with a name stands.
use Rattle.std.specs.Prelude.{◌≡◌, ℕ, ◌<◌, true, List, length, map, take, get_or, None}
use Rattle.std.specs.Map.{lookup}
use Rattle.client_keeper.specs.Rows.{Rows}
use Rattle.client_keeper.specs.Slots.{shown}
use Rattle.client_keeper.specs.Stores.{Stores, is_named}
use Rattle.client_keeper.specs.declared.memory_place.Store.{Store}

-- the name of a store, and the rows that it shows
abbrev pub store_of : Store → List ℕ × Rows
store_of store = (store.name, shown store.slots.entries)

-- the stores with their names
abbrev pub stores_of : List Store → Stores
stores_of stores = map store_of stores

-- the first store with the name stands at this index
pub record IsFirstNamed (stores : List Store) (name : List ℕ) (index : ℕ) : Type 0 where
  pub inside : index < length stores
  pub none_before : lookup (is_named name) (take index (stores_of stores)) ≡ None
  pub is : (other : Store) → is_named name (get_or stores index other).name ≡ true
