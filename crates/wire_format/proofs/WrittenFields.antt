-- What is written is read.
use Rattle.std.proofs.Common.{◌≡◌, ℕ, zero, suc, ◌+◌, ◌*◌, ◌/◌, ◌%◌, ◌<◌, ◌≤◌, List, [], ◌∷◌, ◌++◌, ◌⊎◌, inl, inr, length, refl, sym, ap, subst, ◌∙◌, arith}
use Rattle.std.proofs.lemmas.List.{append_assoc, length-append}
use Rattle.wire_format.specs.Varints.{GoOn, groups_value}
use Rattle.wire_format.specs.Fields.{IsHeader}
use Rattle.wire_format.specs.Faults.{IsNumber}
use Rattle.wire_format.specs.Spellings.{least_groups, varint_of, header_of}
use Rattle.wire_format.specs.Laws.{LeastVarintsAreVarints, LeastVarintsAreShortest, VarintFieldsAreFields, BytesFieldsAreFields, GroupFieldsAreFields}
use Rattle.wire_format.proofs.SevenBitGroups.{scaled}
use Rattle.wire_format.proofs.LeastGroups.{Fills, ten_fill, one_group, more_groups, last_group}

-- the least groups of a number, of which the last is the highest
record Least (more value : ℕ) : Type 0 where
  pub front : List ℕ
  pub last : ℕ
  pub is_whole : least_groups more value ≡ front ++ last ∷ []
  pub goes_on : GoOn front
  pub ends : last < 128
  pub is_short : length front ≤ more
  pub is_above : scaled (length front) last ≤ value
  pub is_value : groups_value (least_groups more value) ≡ value

small_or_large : (value : ℕ) → (value < 128) ⊎ (128 ≤ value)
small_or_large value = grind arith

one_is_least : (more value : ℕ) → value < 128 → Least more value
unfolding scaled groups_value
one_is_least more value small = record {
  front = [];
  last = value;
  is_whole = one_group more value small;
  goes_on = tt;
  ends = small;
  is_short = omega arith;
  is_above = omega arith;
  is_value = ap groups_value (one_group more value small) ∙ (let same : value % 128 + 128 * 0 ≡ value = omega (arith, small) in same);
}

more_are_least : (more value : ℕ) → 128 ≤ value → Least more (value / 128) → Least (suc more) value
unfolding scaled groups_value
more_are_least more value large least = record {
  front = (value % 128 + 128) ∷ least.front;
  last = least.last;
  is_whole = more_groups more value large ∙ ap (λ groups. (value % 128 + 128) ∷ groups) least.is_whole;
  goes_on = (omega arith, least.goes_on);
  ends = least.ends;
  is_short = omega (arith, least.is_short);
  is_above = omega (arith, least.is_above);
  is_value = ap groups_value (more_groups more value large) ∙ omega (arith, least.is_value);
}

least_groups_are : (more value : ℕ) → Fills more value → Least more value
unfolding scaled
least_groups_are zero value fills = one_is_least zero value fills
least_groups_are (suc more) value fills =
    either more value (λ large. least_groups_are more (value / 128) (omega (arith, fills))) (small_or_large value)
  where
    either : (more value : ℕ) → (128 ≤ value → Least more (value / 128)) → (value < 128) ⊎ (128 ≤ value) → Least (suc more) value
    either more value later (inl small) = one_is_least (suc more) value small
    either more value later (inr large) = more_are_least more value large (later large)

tenth_group : (count last value : ℕ) → count ≡ 9 → scaled count last ≤ value → value < 18446744073709551616 → last ≤ 1
unfolding scaled
tenth_group count last value nine above small =
    omega (arith, subst (λ size. scaled size last ≤ value) nine above, small)

pub least_varint : LeastVarintsAreVarints
least_varint value small =
    let least = least_groups_are 9 value (ten_fill value small) in
    record {
      front = least.front;
      last = least.last;
      is_whole = least.is_whole;
      goes_on = least.goes_on;
      ends = least.ends;
      is_short = least.is_short;
      tenth = λ nine. tenth_group (length least.front) least.last value nine least.is_above small;
      is_value = sym least.is_value;
    }

-- no groups of a number are fewer
fewest : (more byte : ℕ) (rest : List ℕ) → length (least_groups more (groups_value (byte ∷ rest))) ≤ 1 + length rest
unfolding groups_value
fewest zero byte rest = omega (arith, ap length (last_group (byte % 128 + 128 * groups_value rest)))
fewest (suc more) byte [] =
    let small : byte % 128 + 128 * 0 < 128 = omega arith in
    omega (arith, ap length (one_group (suc more) (byte % 128 + 128 * 0) small))
fewest (suc more) byte (next ∷ rest) = either more byte next rest (fewest more next rest) (small_or_large (byte % 128 + 128 * groups_value (next ∷ rest)))
  where
    either : (more byte next : ℕ) (rest : List ℕ) → length (least_groups more (groups_value (next ∷ rest))) ≤ 1 + length rest →
        (byte % 128 + 128 * groups_value (next ∷ rest) < 128) ⊎ (128 ≤ byte % 128 + 128 * groups_value (next ∷ rest)) →
        length (least_groups (suc more) (byte % 128 + 128 * groups_value (next ∷ rest))) ≤ 1 + length (next ∷ rest)
    either more byte next rest later (inl small) =
        omega (arith, ap length (one_group (suc more) (byte % 128 + 128 * groups_value (next ∷ rest)) small))
    either more byte next rest later (inr large) =
        let same : (byte % 128 + 128 * groups_value (next ∷ rest)) / 128 ≡ groups_value (next ∷ rest) = omega arith in
        omega (
          arith,
          later,
          ap length (more_groups more (byte % 128 + 128 * groups_value (next ∷ rest)) large),
          ap (λ value. length (least_groups more value)) same,
        )

shortest_of : (bytes : List ℕ) → 0 < length bytes → length (varint_of (groups_value bytes)) ≤ length bytes
shortest_of [] some = absurd (omega (arith, some))
shortest_of (byte ∷ rest) some = omega (arith, fewest 9 byte rest)

pub shortest : LeastVarintsAreShortest
shortest bytes value varint =
    subst (λ number. length (varint_of number) ≤ length bytes) (sym varint.is_value)
    (shortest_of bytes (omega (arith, ap length varint.is_whole, length-append varint.front (varint.last ∷ []))))

header_is : (number kind : ℕ) → kind < 8 → IsNumber number → IsHeader (header_of number kind) number kind
header_is number kind small is = record {
  is_varint = least_varint (number * 8 + kind) (omega (arith, is.1, small));
  is_number = is.0;
  is_small = is.1;
}

pub varint_field_is : VarintFieldsAreFields
varint_field_is number value is small = record {
  header = header_of number 0;
  body = varint_of value;
  is_whole = refl;
  is_header = header_is number 0 (omega arith) is;
  is_plain = least_varint value small;
}

pub bytes_field_is : BytesFieldsAreFields
bytes_field_is number content is small = record {
  header = header_of number 2;
  body = varint_of (length content.now) ++ content.now;
  is_whole = append_assoc (header_of number 2) (varint_of (length content.now)) content.now;
  is_header = header_is number 2 (omega arith) is;
  is_plain = record {
    count = varint_of (length content.now);
    is_whole = refl;
    is_count = least_varint (length content.now) small;
  };
}

pub group_field_is : GroupFieldsAreFields
group_field_is number content is filled = record {
  start = header_of number 3;
  end = header_of number 4;
  is_whole = refl;
  is_start = header_is number 3 (omega arith) is;
  is_end = header_is number 4 (omega arith) is;
  is_filled = filled;
}
