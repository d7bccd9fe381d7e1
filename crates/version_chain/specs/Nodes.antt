-- How a chain keeps its items. No public clause cites this module.
use Rattle.std.specs.Prelude.{◌≡◌, ℕ, ◌-◌, ◌<◌, ◌≤◌, List, length, filter, nat_lt, slice_get, vec_capacity}
use Rattle.std.specs.List.{AllByRecursion, filter_map}
use Rattle.std.specs.Option.{option_map}
use Rattle.version_chain.specs.declared.chain.Above.{Above}
use Rattle.version_chain.specs.declared.chain.Node.{Node}
use Rattle.version_chain.specs.declared.chain.Chain.TheInside.{Inside}
use Rattle.version_chain.specs.Slots.{IsAmong, AreApart, first_of}
use Rattle.version_chain.specs.Chains.{Entry, Chained, AreAscending, slots_of, count_since}

-- a node as the entry of its slot
abbrev pub entry_of : {T : Type 0} → ℕ → Node T → Entry T
entry_of slot node = record { slot = slot; version = node.version; item = node.item }

-- the entries of these slots, read off the nodes
abbrev pub entries_of : {T : Type 0} → List (Node T) → List ℕ → List (Entry T)
entries_of nodes slots = filter_map (λ slot. option_map (entry_of slot) (slice_get nodes slot)) slots

-- what a chain stands for
abbrev pub chained : {T : Type 0} → Inside T → Chained T
chained chain = record {
  entries = entries_of chain.nodes.items chain.order.slots;
  spare = chain.order.room - length chain.nodes.items;
}

-- each node is in the order, once, by ascending version
pub record AreOrdered {T : Type 0} (nodes : List (Node T)) (slots : List ℕ) : Type 0 where
  pub ascending : AreAscending (entries_of nodes slots)
  pub apart : AreApart slots
  pub placed : AllByRecursion (λ slot. slot < length nodes) slots
  pub complete : (slot : ℕ) → slot < length nodes → IsAmong slot slots
  pub counted : length slots ≡ length nodes

-- the nodes are ordered, and there is room for as many as for slots
pub record IsChained {T : Type 0} (chain : Inside T) : Type 0 where
  pub ordered : AreOrdered chain.nodes.items chain.order.slots
  pub room : chain.order.room ≤ vec_capacity chain.nodes
  pub within : length chain.nodes.items ≤ chain.order.room

-- what was found of the entries above a mark: the slot of the first one, and how many they are
pub record IsFound {T : Type 0} (mark : ℕ) (entries : List (Entry T)) (above : Above) : Type 0 where
  pub first : above.first ≡ first_of (slots_of (filter (λ entry. nat_lt mark entry.version) entries))
  pub count : above.count ≡ count_since mark entries
