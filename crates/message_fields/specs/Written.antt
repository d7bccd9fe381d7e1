-- Fields that are left out where they say nothing.
use Rattle.std.specs.Prelude.{ℕ, ◌==◌, if◌then◌else◌, List, [], length}
use Rattle.wire_format.specs.Spellings.{varint_field, bytes_field}

-- a varint field that is left out where it is 0
abbrev pub varint_unless_zero : ℕ → ℕ → List ℕ
varint_unless_zero number value = if value == 0 then [] else varint_field number value

-- a bytes field that is left out where it is empty
abbrev pub bytes_unless_empty : ℕ → List ℕ → List ℕ
bytes_unless_empty number content = if length content == 0 then [] else bytes_field number content
