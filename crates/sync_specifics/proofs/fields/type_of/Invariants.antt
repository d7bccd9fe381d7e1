use Rattle.std.proofs.Common.{◌≡◌, drop}
use Rattle.std.specs.List.{filter_map, last_or}
use Rattle.client_tags.specs.Kinds.{kind_of_number}
use Rattle.message_fields.specs.declared.field.PlacedField.{PlacedField}
use Rattle.sync_specifics.specs.Specifics.{type_of}
use Rattle.sync_specifics.proofs.fields.type_of.Given as goal

abbrev pub invariant-loop-field : goal.invariant-loop-field
invariant-loop-field l =
    last_or l.last (filter_map (λ (field : PlacedField). kind_of_number field.number) (drop l.field-index l.fields))
    ≡ type_of l.fn.fields
