-- What the header fields of a message say of its body (RFC 9112, section 6).
use Rattle.std.specs.Prelude.{ℕ, List, length, map, Bool, ◌&&◌, ◌||◌, not, nat_lt, nat_le, codes, Option, Some, None, Result, Ok, Err, if◌then◌else◌}
use Rattle.std.specs.List.{list_any, list_all, find}
use Rattle.std.specs.Bool.{nat_eq}
use Rattle.std.specs.Char.{to_ascii_lowercase, is_ascii_digit}
use Rattle.std.specs.Str.Parse.{digits_value}
use Rattle.std.specs.Cmp.Lexicographic.{pointwise}
use Rattle.http_edge.specs.declared.fault.EdgeFault.{EdgeFault}
use Rattle.http_edge.specs.declared.fault.EdgeFault.TheVariants.{Encoded, NoLength, TooBig}

-- the longest body that is read
abbrev pub longest_body : ℕ
longest_body = 16777216

-- a header field: its name, and its value without the white space around it
abbrev pub HeaderField : Type 0
HeaderField = List ℕ × List ℕ

-- both texts are the same bytes
abbrev pub is_same : List ℕ → List ℕ → Bool
is_same a b = pointwise nat_eq a b

-- the field has this name; the case of ASCII letters is no part of a name (RFC 9110, section 5.1)
unfoldable pub is_named : List ℕ → HeaderField → Bool
is_named name field = is_same (map to_ascii_lowercase field.0) (map to_ascii_lowercase name)

-- the field says that the body is coded: it has a transfer coding, or a content coding other than `identity`
unfoldable pub is_coding : HeaderField → Bool
is_coding field =
    is_named (codes "transfer-encoding") field
    || (is_named (codes "content-encoding") field && not (is_same field.1 (codes "identity")))

-- the field states a length
unfoldable pub is_length : HeaderField → Bool
is_length field = is_named (codes "content-length") field

-- where the field states a length, it states this one, in the same digits
abbrev pub agrees : List ℕ → HeaderField → Bool
agrees text field = not (is_length field) || is_same field.1 text

-- the text is a number of one to ten digits
abbrev pub is_number : List ℕ → Bool
is_number text = nat_lt 0 (length text) && nat_le (length text) 10 && list_all is_ascii_digit text

-- the number that the fields state as the length; none where no field states one, two state different ones, or one is no
-- number
abbrev pub length_in : Option HeaderField → List HeaderField → Option ℕ
length_in None fields = None
length_in (Some first) fields =
    if is_number first.1 && list_all (agrees first.1) fields then Some (digits_value 10 first.1) else None

-- the same, the first field that states one being looked for
unfoldable pub stated_length : List HeaderField → Option ℕ
stated_length fields = length_in (find is_length fields) fields

-- a stated length is the body's, unless it is too great
abbrev pub within_limit : Option ℕ → Result ℕ EdgeFault
within_limit None = Err NoLength
within_limit (Some count) = if nat_lt longest_body count then Err (TooBig count) else Ok count

-- the length of the body that the fields promise, or why none is read
unfoldable pub body_length : List HeaderField → Result ℕ EdgeFault
body_length fields = if list_any is_coding fields then Err Encoded else within_limit (stated_length fields)
