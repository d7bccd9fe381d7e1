-- What every rule of a type keeps.
use Rattle.std.specs.Prelude.{◌≡◌, IsTrue}
use Rattle.client_tags.specs.declared.Kind.{Kind}
use Rattle.sync_values.specs.declared.value.Value.{Value}
use Rattle.sync_model.specs.declared.conflict.Decision.{Decision}
use Rattle.sync_model.specs.declared.conflict.Decision.TheVariants.{Merged}
use Rattle.sync_model.specs.Values.{is_value_of}

-- a rule merges two values of a type into a value of that type
abbrev pub KeepsEachType : (Value → Value → Decision) → Type 0
KeepsEachType decided = (kind : Kind) (local remote merged : Value) → IsTrue (is_value_of kind local) → IsTrue (is_value_of kind remote)
    → decided local remote ≡ Merged merged → IsTrue (is_value_of kind merged)
