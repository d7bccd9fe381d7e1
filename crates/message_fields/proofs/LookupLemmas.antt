-- The field that counts is one of the message's fields.
use Rattle.std.proofs.Common.{ℕ, Bool, true, false, ◌==◌, if◌then◌else◌, List, [], ◌∷◌, Option, Some, None, IfSome, cond}
use Rattle.std.specs.List.{filter, cons_option, last_or, AllByRecursion}
use Rattle.message_fields.specs.declared.field.Part.{Part}
use Rattle.message_fields.specs.declared.field.Held.{Held}
use Rattle.message_fields.specs.declared.field.Held.TheVariants.{Varint, Eight, Bytes, Group, Four}
use Rattle.message_fields.specs.declared.field.PlacedField.{PlacedField}
use Rattle.message_fields.specs.Fields.{IsPartOf, ArePartsOf}
use Rattle.message_fields.specs.Lookups.{has_number, last_of, content_of, bytes_held, group_held, held_by, parts_by, parts_of, groups_of, IsWithin, AreWithin}

-- what holds of some fields and of one before them holds of the last
last_holds : (Holds : PlacedField → Type 0) (p : PlacedField → Bool) (fields : List PlacedField) (last : Option PlacedField) →
    IfSome last Holds → AllByRecursion Holds fields → IfSome (last_or last (filter p fields)) Holds
last_holds Holds p [] last before all = before
last_holds Holds p (field ∷ fields) last before all =
    elim (p field) as (λ b. IfSome (last_or last (cond b (field ∷ filter p fields) (filter p fields))) Holds) [
      | true ↦ last_holds Holds p fields (Some field) all.0 all.1
      | false ↦ last_holds Holds p fields last before all.1
    ]

-- a content within the input
held_within : (input : List ℕ) (held : Held) → IsWithin input held → IfSome (bytes_held held) (IsPartOf input)
held_within input (Varint value) within = tt
held_within input (Bytes part) within = within
held_within input (Group part) within = tt
held_within input (Eight part) within = tt
held_within input (Four part) within = tt

counts_within : (input : List ℕ) (found : Option PlacedField) → IfSome found (λ (field : PlacedField). IsWithin input field.held) →
    IfSome (held_by bytes_held found) (IsPartOf input)
counts_within input None within = tt
counts_within input (Some field) within = held_within input field.held within

-- the content of the field that counts stands within the input
pub content_within : (input : List ℕ) (number : ℕ) (fields : List PlacedField) → AreWithin input fields →
    IfSome (content_of number fields) (IsPartOf input)
content_within input number fields within =
    counts_within input (last_of number fields)
    (last_holds (λ (field : PlacedField). IsWithin input field.held) (has_number number) fields None tt within)

group_within : (input : List ℕ) (held : Held) → IsWithin input held → IfSome (group_held held) (IsPartOf input)
group_within input (Varint value) within = tt
group_within input (Bytes part) within = tt
group_within input (Group part) within = within
group_within input (Eight part) within = tt
group_within input (Four part) within = tt

cons_within : (input : List ℕ) (part : Option Part) (parts : List Part) → IfSome part (IsPartOf input) → ArePartsOf input parts →
    ArePartsOf input (cons_option part parts)
cons_within input None parts one all = all
cons_within input (Some part) parts one all = (one, all)

maybe_within : (input : List ℕ) (b : Bool) (part : Option Part) → IfSome part (IsPartOf input) →
    IfSome (if b then part else None) (IsPartOf input)
maybe_within input true part within = within
maybe_within input false part within = tt

by_within : (held : Held → Option Part) (input : List ℕ) → ((h : Held) → IsWithin input h → IfSome (held h) (IsPartOf input)) →
    (number : ℕ) (fields : List PlacedField) → AreWithin input fields → ArePartsOf input (parts_by held number fields)
by_within held input each number [] within = tt
by_within held input each number (field ∷ fields) within =
    cons_within input (if field.number == number then held field.held else None) (parts_by held number fields)
    (maybe_within input (field.number == number) (held field.held) (each field.held within.0))
    (by_within held input each number fields within.1)

-- the contents of bytes fields stand within the input
pub parts_within : (input : List ℕ) (number : ℕ) (fields : List PlacedField) → AreWithin input fields →
    ArePartsOf input (parts_of number fields)
parts_within input number fields within = by_within bytes_held input (held_within input) number fields within

-- the contents of groups stand within the input
pub groups_within : (input : List ℕ) (number : ℕ) (fields : List PlacedField) → AreWithin input fields →
    ArePartsOf input (groups_of number fields)
groups_within input number fields within = by_within group_held input (group_within input) number fields within
