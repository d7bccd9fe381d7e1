-- The law of echoes: a client's newer edit is not lost to its own older one.
use Rattle.std.specs.Prelude.{◌≡◌, ℕ, ◌<◌, List, length, Option, Some, None}
use Rattle.std.specs.List.{AllByRecursion}
use Rattle.sync_values.specs.declared.edit.Edit.{Edit}
use Rattle.sync_values.specs.declared.value.Value.{Value}
use Rattle.sync_model.specs.declared.event.Schedule.{Schedule}
use Rattle.sync_model.specs.declared.fate.Fate.{Fate}
use Rattle.sync_model.specs.declared.fate.Fate.TheVariants.{Followed, Committed, Matched, Taken, Merged}
use Rattle.sync_model.specs.declared.message.Content.{Content}
use Rattle.sync_model.specs.declared.message.Entry.{Entry}
use Rattle.sync_model.specs.declared.message.Key.{Key}
use Rattle.sync_model.specs.Edits.{edit_kind}
use Rattle.sync_model.specs.Settings.{Setting, IsSetting}
use Rattle.sync_model.specs.History.{write_at}
use Rattle.sync_model.specs.KeyStates.{MAX_OFFERED}
use Rattle.sync_model.specs.Fates.{fate_of}
use Rattle.sync_model.specs.Worlds.{World, world_of}
use Rattle.sync_model.specs.Laws.{edit_key, IsMade, IsAuthoredBy}
use Rattle.sync_model.specs.EchoFacts.{AreAscending, WasOffered}

-- a fate says that an edit was taken by the write of a version, or merged with it
abbrev pub IsLostTo : Option Fate → ℕ → Type 0
IsLostTo (Some (Taken write row)) version = write ≡ version
IsLostTo (Some (Merged write row)) version = write ≡ version
IsLostTo (Some (Followed later)) version = ⊥
IsLostTo (Some (Committed write)) version = ⊥
IsLostTo (Some (Matched write)) version = ⊥
IsLostTo None version = ⊥

-- the write of a version is an earlier offer of a client: an entry of one of its requests, of an edit below this number
pub record IsEarlierOffer (world : World) (client version number : ℕ) : Type 0 where
  pub author : IsAuthoredBy world client version
  pub write : Entry Content
  pub is_write : write_at world.history version ≡ Some write
  pub earlier : write.content.number < number

-- a client offered more than eight edits of a key over one version that it knew
pub record AreTooManyOffered (setting : Setting) (schedule : Schedule) (client : ℕ) (key : Key) : Type 0 where
  pub known : ℕ
  pub numbers : List ℕ
  pub ascending : AreAscending (λ (number : ℕ). number) numbers
  pub many : MAX_OFFERED < length numbers
  pub offered : AllByRecursion (WasOffered setting schedule client key known) numbers

-- an edit is not lost to an earlier offer of its own client, unless too many of its key were offered over one version
abbrev pub OwnEchoesAreKnown : Setting → Schedule → Type 0
OwnEchoesAreKnown setting schedule = (client number : ℕ) (edit : Edit) (value : Value)
    → IsMade setting schedule client number edit value → (version : ℕ)
    → IsLostTo (fate_of (world_of setting schedule).settlements client (edit_kind edit) number) version
    → IsEarlierOffer (world_of setting schedule) client version number
    → AreTooManyOffered setting schedule client (edit_key setting edit)

-- the same in every run
abbrev pub EveryOwnEchoIsKnown : Type 0
EveryOwnEchoIsKnown = (setting : Setting) → IsSetting setting → (schedule : Schedule) → OwnEchoesAreKnown setting schedule
