-- What an edit makes of a type, and why it is refused.
use Rattle.std.specs.Prelude.{◌≡◌, ℕ, ◌+◌, ◌-◌, ◌^◌, min, List, Option, Some, None}
use Rattle.client_tags.specs.Hashes.{tag_hash}
use Rattle.sync_values.specs.declared.edit.Edit.{Edit}
use Rattle.sync_values.specs.declared.value.Value.{Value}
use Rattle.sync_model.specs.declared.refusal.EditRefusal.{EditRefusal}
use Rattle.sync_model.specs.declared.refusal.EditRefusal.TheVariants.{TooLong, Full}
use Rattle.sync_model.specs.Changes.{own_at, edit_refusal_at}
use Rattle.sync_model.specs.Edits.{edit_kind, edit_tag, edit_value, edit_length}
use Rattle.sync_model.specs.Sides.{state_at, side_edited}
use Rattle.type_processor.specs.declared.answers.EditFault.{EditFault}
use Rattle.type_processor.specs.declared.answers.EditFault.TheVariants.{TooLong as FoundLong, Full as FoundFull, NoMemory}
use Rattle.type_processor.specs.declared.answers.Edited.{Edited}
use Rattle.type_processor.specs.Processed.{Processed, side_of, with_side}

-- the hash of what an edit changes
abbrev pub edit_hash : Edit → List ℕ
edit_hash edit = tag_hash (edit_kind edit) (edit_tag edit)

-- the own value of what an edit changes
abbrev pub own_before : {Rules : Type 0} → Processed Rules → Edit → Value
own_before processed edit = own_at (side_of processed) (edit_hash edit)

-- why an edit is refused, if it is
abbrev pub refusal_of : {Rules : Type 0} → Processed Rules → Edit → Option EditRefusal
refusal_of processed edit = edit_refusal_at (side_of processed) (edit_hash edit) edit

-- what is had of a type after an edit
abbrev pub edited_by : {Rules : Type 0} → Processed Rules → Edit → Processed Rules
edited_by processed edit =
    with_side processed (side_edited (side_of processed) (edit_hash edit) (edit_value (own_before processed edit) edit))

-- what is told of an edit: its number, and that of the due edit that it follows
abbrev pub edit_told : {Rules : Type 0} → Processed Rules → Edit → Edited
edit_told processed edit = record {
  number = processed.last_edit + 1;
  followed = (state_at processed.states (edit_hash edit)).due;
}

-- a length as it is told: the greatest number that is told stands for those above it
abbrev pub told_length : ℕ → ℕ
told_length len = min len (2 ^ 64 - 1)

-- a fault tells why an edit is refused; want of memory is no such cause
abbrev pub IsRefusalOf : Option EditRefusal → ℕ → EditFault → Type 0
IsRefusalOf refusal len (FoundLong told) = (refusal ≡ Some (TooLong len)) × (told ≡ told_length len)
IsRefusalOf refusal len (FoundFull count) = refusal ≡ Some (Full count)
IsRefusalOf refusal len NoMemory = ⊥

-- a fault tells why an edit is refused, or that memory was wanting for one that is not
abbrev pub IsFaultOf : Option EditRefusal → ℕ → EditFault → Type 0
IsFaultOf refusal len (FoundLong told) = IsRefusalOf refusal len (FoundLong told)
IsFaultOf refusal len (FoundFull count) = IsRefusalOf refusal len (FoundFull count)
IsFaultOf refusal len NoMemory = refusal ≡ None

-- why an edit is refused now
abbrev pub IsRefusalAt : {Rules : Type 0} → Processed Rules → Edit → EditFault → Type 0
IsRefusalAt processed edit fault = IsRefusalOf (refusal_of processed edit) (edit_length (own_before processed edit) edit) fault

-- the fault of an edit
abbrev pub IsFaultAt : {Rules : Type 0} → Processed Rules → Edit → EditFault → Type 0
IsFaultAt processed edit fault = IsFaultOf (refusal_of processed edit) (edit_length (own_before processed edit) edit) fault
