-- What holds of every change.
use Rattle.std.specs.Prelude.{◌≡◌, List}
use Rattle.client_keeper.specs.declared.rows.RowKey.{RowKey}
use Rattle.client_keeper.specs.declared.change.Entry.{Entry}
use Rattle.client_keeper.specs.Rows.{Rows, AreInOrder, changed, value_at, last_said}

-- after a change each key has what the change says of it last; a key of which it says nothing has what it had
abbrev pub TheLastEntryStands : Type 0
TheLastEntryStands =
    (rows : Rows) (entries : List Entry) (key : RowKey) → AreInOrder rows
    → value_at (changed rows entries) key ≡ last_said key (value_at rows key) entries

-- rows that are in order stay so
abbrev pub ChangesKeepTheOrder : Type 0
ChangesKeepTheOrder = (rows : Rows) (entries : List Entry) → AreInOrder rows → AreInOrder (changed rows entries)
