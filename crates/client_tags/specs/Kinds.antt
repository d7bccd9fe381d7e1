-- The types of entities, as messages name them.
use Rattle.std.specs.Prelude.{ℕ, ◌==◌, if◌then◌else◌, List, [], Option, Some, None}
use Rattle.wire_format.specs.Spellings.{bytes_field}
use Rattle.client_tags.specs.declared.Kind.{Kind}
use Rattle.client_tags.specs.declared.Kind.TheVariants.{Nigori, Preference, Password}

-- the number of a type: that of its field in an entity's specifics
abbrev pub kind_number : Kind → ℕ
kind_number Nigori = 47745
kind_number Preference = 37702
kind_number Password = 45873

-- the type of a number, if it is that of one of these
abbrev pub kind_of_number : ℕ → Option Kind
kind_of_number number =
    if number == 47745 then Some Nigori else if number == 37702 then Some Preference
    else if number == 45873 then Some Password else None

-- the place of a type in the order in which the engine takes them: the keys that lock the others first
abbrev pub kind_place : Kind → ℕ
kind_place Nigori = 0
kind_place Preference = 1
kind_place Password = 2

-- the bytes of an empty specifics of the type: the type's field without content
abbrev pub specifics_prefix : Kind → List ℕ
specifics_prefix kind = bytes_field (kind_number kind) []
