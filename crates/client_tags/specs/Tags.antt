-- The client tags of entities, by which two devices know that they speak of the same one.
use Rattle.std.specs.Prelude.{ℕ, Bool, ◌==◌, ◌&&◌, ◌||◌, nat_le, if◌then◌else◌, ◌/◌, ◌%◌, List, [], ◌∷◌, ◌++◌, codes, true}
use Rattle.std.specs.List.{flat_map}
use Rattle.std.specs.Fmt.{digit_glyph}

-- a byte as `%` and two upper-case hexadecimal digits
abbrev pub percent_escape : ℕ → List ℕ
percent_escape byte = 37 ∷ digit_glyph true (byte / 16) ∷ digit_glyph true (byte % 16) ∷ []

-- the letters, the digits and `-`, `.`, `_`, `~`: the unreserved characters of RFC 3986, section 2.3
abbrev pub is_unreserved : ℕ → Bool
is_unreserved byte =
    (nat_le 65 byte && nat_le byte 90) || (nat_le 97 byte && nat_le byte 122) || (nat_le 48 byte && nat_le byte 57)
    || byte == 45 || byte == 46 || byte == 95 || byte == 126

-- a text in which every byte but the unreserved ones is escaped
abbrev pub escaped : List ℕ → List ℕ
escaped text = flat_map (λ byte. if is_unreserved byte then byte ∷ [] else percent_escape byte) text

-- the tag of a login: its five texts escaped, with `|` between them
abbrev pub password_tag : List ℕ → List ℕ → List ℕ → List ℕ → List ℕ → List ℕ
password_tag origin user_element user_value pass_element realm =
    escaped origin ++ 124 ∷ escaped user_element ++ 124 ∷ escaped user_value ++ 124 ∷ escaped pass_element ++ 124 ∷ escaped realm

-- the tag of the keys of a profile
abbrev pub nigori_tag : List ℕ
nigori_tag = codes "google_chrome_nigori"
