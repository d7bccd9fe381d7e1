-- The lines with which commands end that keep rows or use a network.
use Rattle.std.specs.Prelude.{ℕ, List, ◌∷◌, ◌++◌, codes}
use Rattle.std.specs.Fmt.{decimal}
use Rattle.hex.specs.Hex.{encode_lower}
use Rattle.client_keeper.specs.declared.restore.StoreReason.{StoreReason}
use Rattle.client_keeper.specs.declared.restore.StoreReason.TheVariants.{Format, Table, Key, Value, Numbers, Place, Version}

-- a keeper failed
unfoldable pub keeper_fault_line : List ℕ
keeper_fault_line = codes "keeper fault\n"

-- the network failed
unfoldable pub net_fault_line : List ℕ
net_fault_line = codes "net fault\n"

-- a reply is none, or none to the request
unfoldable pub bad_reply_line : List ℕ
bad_reply_line = codes "bad reply\n"

-- the place that holds the stores failed
unfoldable pub place_fault_line : List ℕ
place_fault_line = codes "place fault\n"

-- why a row cannot stand in its store, and the end of the text
unfoldable pub reason_end : StoreReason → List ℕ
reason_end Format = codes " format\n"
reason_end Table = codes " table\n"
reason_end Key = codes " key\n"
reason_end Value = codes " value\n"
reason_end Numbers = codes " numbers\n"
reason_end Place = codes " place\n"
reason_end Version = codes " version\n"

-- the first row that cannot stand in its store, by its table and its key in hexadecimal, and why
unfoldable pub bad_store_line : ℕ → List ℕ → StoreReason → List ℕ
bad_store_line table key reason = codes "bad store: " ++ decimal table ++ 32 ∷ encode_lower key ++ reason_end reason
