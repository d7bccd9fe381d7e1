-- That what a server holds of newer clients' fields is canonical.
use Rattle.std.specs.Prelude.{List, Option}
use Rattle.std.specs.List.{AllByRecursion}
use Rattle.sync_specifics.specs.declared.specifics.Specifics.{Specifics}
use Rattle.sync_specifics.specs.Extras.{HasCanonicalExtraIfSome}
use Rattle.sync_model.specs.declared.message.Entry.{Entry}

-- what an entry holds has a canonical extra
abbrev pub HoldsCanonicalExtra : Entry (Option Specifics) → Type 0
HoldsCanonicalExtra entry = HasCanonicalExtraIfSome entry.content

-- what each of some entries holds has a canonical extra
abbrev pub HoldCanonicalExtras : List (Entry (Option Specifics)) → Type 0
HoldCanonicalExtras entries = AllByRecursion HoldsCanonicalExtra entries
