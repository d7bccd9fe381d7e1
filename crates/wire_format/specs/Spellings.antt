-- The spellings that a writer gives to numbers and fields: of each number the least one.
use Rattle.std.specs.Prelude.{ℕ, zero, suc, ◌+◌, ◌*◌, ◌/◌, ◌%◌, nat_lt, if◌then◌else◌, List, [], ◌∷◌, ◌++◌, length}

-- the groups of seven bits of a number, the lowest first, as few as make it, and at most so many more than one;
-- the top bit is set on all but the last
unfoldable pub least_groups : ℕ → ℕ → List ℕ
least_groups zero value = value ∷ []
least_groups (suc more) value =
    if nat_lt value 128 then value ∷ [] else (value % 128 + 128) ∷ least_groups more (value / 128)

-- the varint of least length of a number (Protocol Buffers, Encoding, Base 128 Varints)
abbrev pub varint_of : ℕ → List ℕ
varint_of value = least_groups 9 value

-- the header of a field of this number and kind (Protocol Buffers, Encoding, Message Structure)
abbrev pub header_of : ℕ → ℕ → List ℕ
header_of number kind = varint_of (number * 8 + kind)

-- a field of this number that holds a varint
abbrev pub varint_field : ℕ → ℕ → List ℕ
varint_field number value = header_of number 0 ++ varint_of value

-- a field of this number that holds bytes: their length, and these bytes
abbrev pub bytes_field : ℕ → List ℕ → List ℕ
bytes_field number content = header_of number 2 ++ varint_of (length content) ++ content

-- a group of this number and content
abbrev pub group_field : ℕ → List ℕ → List ℕ
group_field number content = header_of number 3 ++ content ++ header_of number 4
