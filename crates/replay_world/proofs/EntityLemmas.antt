-- A write is the last of its key where no write is based on it.
use Rattle.std.proofs.Common.{◌≡◌, ℕ, zero, suc, ◌+◌, ◌-◌, ◌<◌, ◌≤◌, arith, Bool, true, false, cond, List, [], ◌∷◌, ◌++◌, length, take, drop, get_or, set, Some, refl, sym, ap, subst, ◌∙◌, append_assoc, eqb, inl, inr}
use Rattle.std.proofs.lemmas.Bool.{eq-eqb, cond-true}
use Rattle.std.proofs.lemmas.Bool.Decides.{eqb_tells}
use Rattle.std.proofs.lemmas.List.{reverse-append, length-reverse, length-take-le, take_more, take-append-drop, get_or-set_other}
use Rattle.std.proofs.lemmas.Grind.{get_or-set_at}
use Rattle.std.specs.Prelude.{◌≢◌, ◌⊎◌, ◌||◌, ◌==◌, not, reverse, replicate}
use Rattle.sync_model.specs.declared.message.Content.{Content}
use Rattle.sync_model.specs.declared.message.Entry.{Entry}
use Rattle.sync_model.specs.declared.message.Key.{Key}
use Rattle.sync_model.specs.History.{last_version, write_at, IsBased}
use Rattle.sync_model.specs.Report.{pass_number, entity_line, entity_lines}
use Rattle.sync_model.specs.Values.{same_key}
use Rattle.sync_model.proofs.Histories.{last_version-le, at_top, write_at-le, write_at-newest, write_at-kept}
use Rattle.sync_model.proofs.Writes.{same_key-true, same_key-refl}
use Rattle.run_setting.specs.Hashed.{hashed}
use Rattle.replay_world.specs.Reports.{is_base, HasBases, line_unless}

ne-eqb : (a b : ℕ) → (a ≡ b → ⊥) → eqb a b ≡ false
ne-eqb a b differ = by_told (eqb_tells a b) where
  by_told : ((eqb a b ≡ true) × (a ≡ b)) ⊎ ((eqb a b ≡ false) × (a ≢ b)) → eqb a b ≡ false
  by_told (inl same) = absurd (differ same.1)
  by_told (inr other) = other.0

-- no write is based on a version that the history has not reached
no_base : (history : List (Entry Content)) (version : ℕ) → IsBased history → length history ≤ version → is_base history version ≡ false
no_base [] version based above = refl
no_base (write ∷ older) version based above =
    (λ i. ne-eqb write.version version (λ is. omega (arith, is, based.0, last_version-le older write.key, above)) i || is_base older version)
    ∙ no_base older version based.1 (omega (arith, above))

same_Some : (a b : Entry Content) → Some a ≡ Some b → a ≡ b
same_Some a b is = cc

-- the write of a key's last version is of that key
last_is_own : (history : List (Entry Content)) (key : Key) (version : ℕ) (write : Entry Content) → last_version history key ≡ version → 0 < version → write_at history version ≡ Some write
    → same_key write.key key ≡ true
last_is_own [] key version write is above at = absurd (omega (arith, is, above))
last_is_own (newest ∷ older) key version write is above at = by (same_key newest.key key) refl is (last_is_own older key version write) where
  by : (same : Bool) → same_key newest.key key ≡ same → cond same (length older + 1) (last_version older key) ≡ version
      → (last_version older key ≡ version → 0 < version → write_at older version ≡ Some write → same_key write.key key ≡ true) → same_key write.key key ≡ true
  by true test here rest = at_top write newest older version at
      (λ place same. ap (λ (entry : Entry Content). same_key entry.key key) (sym same) ∙ test)
      (λ before. absurd (omega (arith, here, write_at-le older version write before)))
  by false test there rest = at_top write newest older version at
      (λ place same. absurd (omega (arith, place, there, last_version-le older key)))
      (λ before. rest there above before)

either_not : (matches based : Bool) → matches ≡ not based → (matches || based) ≡ true
either_not true based is = refl
either_not false true is = refl
either_not false false is = is

false_true : {P : Type 0} → false ≡ true → P
false_true is = cc

not_own : {P : Type 0} (first second : Key) → same_key first second ≡ false → same_key second first ≡ true → P
not_own first second differ same = false_true (sym differ ∙ ap (same_key first) (same_key-true second first same) ∙ same_key-refl first)

-- a write that is there is the last of its key where no write is based on it
pub last_unless_base : (history : List (Entry Content)) (version : ℕ) (write : Entry Content) → IsBased history → 0 < version → write_at history version ≡ Some write
    → eqb (last_version history write.key) version ≡ not (is_base history version)
last_unless_base [] version write based above at = cc
last_unless_base (newest ∷ older) version write based above at =
    at_top write newest older version at
    (λ place same. here place same)
    (λ before. below before (last_unless_base older version write based.1 above before)) where
      here : version ≡ length older + 1 → newest ≡ write → eqb (last_version (newest ∷ older) write.key) version ≡ not (is_base (newest ∷ older) version)
      here place same =
          let own : last_version (newest ∷ older) write.key ≡ length older + 1 = ap (λ (entry : Entry Content). last_version (newest ∷ older) entry.key) (sym same) ∙ cond-true _ _ _ (same_key-refl newest.key) in
          let apart : eqb newest.version version ≡ false = ne-eqb newest.version version (λ is. omega (arith, is, place, based.0, last_version-le older newest.key)) in
          eq-eqb (last_version (newest ∷ older) write.key) version (own ∙ sym place)
          ∙ (λ i. not (sym apart i || sym (no_base older version based.1 (omega (arith, place))) i))

      by : (same : Bool) → same_key newest.key write.key ≡ same → write_at older version ≡ Some write → eqb (last_version older write.key) version ≡ not (is_base older version)
          → eqb (cond same (length older + 1) (last_version older write.key)) version ≡ not (eqb newest.version version || is_base older version)
      by true test before rest =
          let version_is : newest.version ≡ last_version older write.key = based.0 ∙ ap (last_version older) (same_key-true newest.key write.key test) in
          ne-eqb (length older + 1) version (λ is. omega (arith, is, write_at-le older version write before))
          ∙ ap not (sym (either_not (eqb newest.version version) (is_base older version) (ap (λ n. eqb n version) version_is ∙ rest)))
      by false test before rest =
          let apart : eqb newest.version version ≡ false = ne-eqb newest.version version (λ is. not_own newest.key write.key test (last_is_own older newest.key version write (sym based.0 ∙ is) above before)) in
          rest ∙ (λ i. not (sym apart i || is_base older version))

      below : write_at older version ≡ Some write → eqb (last_version older write.key) version ≡ not (is_base older version)
          → eqb (last_version (newest ∷ older) write.key) version ≡ not (is_base (newest ∷ older) version)
      below before rest = by (same_key newest.key write.key) refl before rest

-- the next item of a list is the newest of those so far
newest_so_far : {X : Type 0} (xs : List X) (n : ℕ) (x : X) → n < length xs → x ≡ get_or xs n x → reverse (take (n + 1) xs) ≡ x ∷ reverse (take n xs)
newest_so_far xs n x lt is =
    ap reverse (take_more xs n x lt) ∙ reverse-append (take n xs) (get_or xs n x ∷ []) ∙ ap (λ y. y ∷ reverse (take n xs)) (sym is)

length_so_far : {X : Type 0} (xs : List X) (n : ℕ) → n < length xs → length (reverse (take n xs)) ≡ n
length_so_far xs n lt = let le : n ≤ length xs = omega arith in length-reverse (take n xs) ∙ length-take-le n xs le

-- a history is the writes after one, that one, and the writes before it
split_at : (writes : List (Entry Content)) (n : ℕ) (write : Entry Content) → n < length writes → write ≡ get_or writes n write
    → reverse writes ≡ reverse (drop (n + 1) writes) ++ (write ∷ reverse (take n writes))
split_at writes n write lt is =
    ap reverse (sym (take-append-drop (n + 1) writes))
    ∙ reverse-append (take (n + 1) writes) (drop (n + 1) writes)
    ∙ ap (λ (older : List (Entry Content)). reverse (drop (n + 1) writes) ++ older) (newest_so_far writes n write lt is)

based_under : (newer older : List (Entry Content)) → IsBased (newer ++ older) → IsBased older
based_under [] older based = based
based_under (write ∷ newer) older based = based_under newer older based.1

write_under : (newer older : List (Entry Content)) (write : Entry Content) → write_at (newer ++ (write ∷ older)) (length older + 1) ≡ Some write
write_under [] older write = write_at-newest write older
write_under (newest ∷ newer) older write = write_at-kept newest (newer ++ (write ∷ older)) (length older + 1) write (write_under newer older write)

based_at : (writes : List (Entry Content)) (n : ℕ) (write : Entry Content) → IsBased (reverse writes) → n < length writes → write ≡ get_or writes n write → IsBased (write ∷ reverse (take n writes))
based_at writes n write based lt is =
    based_under (reverse (drop (n + 1) writes)) (write ∷ reverse (take n writes)) (subst (λ (history : List (Entry Content)). IsBased history) (split_at writes n write lt is) based)

pub base_within : (writes : List (Entry Content)) (n : ℕ) (write : Entry Content) → IsBased (reverse writes) → n < length writes → write ≡ get_or writes n write → write.version ≤ length writes
base_within writes n write based lt is =
    let own : IsBased (write ∷ reverse (take n writes)) = based_at writes n write based lt is in
    omega (arith, own.0, last_version-le (reverse (take n writes)) write.key, length_so_far writes n lt, lt)

write_here : (writes : List (Entry Content)) (n : ℕ) (write : Entry Content) → n < length writes → write ≡ get_or writes n write → write_at (reverse writes) (n + 1) ≡ Some write
write_here writes n write lt is =
    (λ i. write_at (split_at writes n write lt is i) (sym (length_so_far writes n lt) i + 1))
    ∙ write_under (reverse (drop (n + 1) writes)) (reverse (take n writes)) write

line_by : (last version : ℕ) (is_based : Bool) (write : Entry Content) → eqb last version ≡ not is_based
    → cond (eqb last version) (entity_line hashed (pass_number hashed []) version write) [] ≡ line_unless is_based version write
line_by last version true write is = ap (λ test. cond test (entity_line hashed (pass_number hashed []) version write) []) is
line_by last version false write is = ap (λ test. cond test (entity_line hashed (pass_number hashed []) version write) []) is

-- the line of a write
write_line : (writes : List (Entry Content)) (n : ℕ) (write : Entry Content) (bases : List Bool) → IsBased (reverse writes) → HasBases bases (reverse writes) → n < length writes → write ≡ get_or writes n write
    → cond (eqb (last_version (reverse writes) write.key) (n + 1)) (entity_line hashed (pass_number hashed []) (n + 1) write) []
    ≡ line_unless (get_or bases n false) (n + 1) write
write_line writes n write bases based has lt is =
    line_by (last_version (reverse writes) write.key) (n + 1) (get_or bases n false) write
    (last_unless_base (reverse writes) (n + 1) write based (omega arith) (write_here writes n write lt is) ∙ ap not (sym (has (n + 1) (omega arith)) ∙ ap (λ m. get_or bases m false) (place n))) where
      place : (m : ℕ) → m + 1 - 1 ≡ m
      place m = omega arith

one_more_write : (writes : List (Entry Content)) (n : ℕ) (write : Entry Content) (bases : List Bool) → IsBased (reverse writes) → HasBases bases (reverse writes) → n < length writes → write ≡ get_or writes n write
    → entity_lines hashed (pass_number hashed []) (reverse writes) (reverse (take n writes)) ++ line_unless (get_or bases n false) (n + 1) write
    ≡ entity_lines hashed (pass_number hashed []) (reverse writes) (reverse (take (n + 1) writes))
unfolding entity_lines
one_more_write writes n write bases based has lt is =
    ap (λ line. entity_lines hashed (pass_number hashed []) (reverse writes) (reverse (take n writes)) ++ line) (sym (write_line writes n write bases based has lt is))
    ∙ (λ i. entity_lines hashed (pass_number hashed []) (reverse writes) (reverse (take n writes))
    ++ cond (eqb (last_version (reverse writes) write.key) (sym (length_so_far writes n lt) i + 1)) (entity_line hashed (pass_number hashed []) (sym (length_so_far writes n lt) i + 1) write) [])
    ∙ ap (entity_lines hashed (pass_number hashed []) (reverse writes)) (sym (newest_so_far writes n write lt is))

-- one more write
pub entities_more : (writes : List (Entry Content)) (n : ℕ) (write : Entry Content) (bases : List Bool) (is_based : Bool) (before out new : List ℕ)
    → IsBased (reverse writes) → HasBases bases (reverse writes) → n < length writes → write ≡ get_or writes n write → is_based ≡ get_or bases n false
    → out ≡ before ++ entity_lines hashed (pass_number hashed []) (reverse writes) (reverse (take n writes)) → new ≡ out ++ line_unless is_based (n + 1) write
    → new ≡ before ++ entity_lines hashed (pass_number hashed []) (reverse writes) (reverse (take (n + 1) writes))
entities_more writes n write bases is_based before out new based has lt is is_told is_out is_new =
    is_new ∙ (λ i. is_out i ++ line_unless (is_told i) (n + 1) write)
    ∙ append_assoc before (entity_lines hashed (pass_number hashed []) (reverse writes) (reverse (take n writes))) (line_unless (get_or bases n false) (n + 1) write)
    ∙ ap (λ text. before ++ text) (one_more_write writes n write bases based has lt is)

-- a table in which no version is marked
pub no_bases : (bases : List Bool) (count : ℕ) → bases ≡ replicate count false → HasBases bases []
no_bases bases count is version above = ap (λ (table : List Bool). get_or table (version - 1) false) is ∙ all_false count (version - 1) where
  all_false : (count place : ℕ) → get_or (replicate count false) place false ≡ false
  all_false zero place = refl
  all_false (suc count) zero = refl
  all_false (suc count) (suc place) = all_false count place

-- a table in which one more version is marked
pub more_bases : (old new : List Bool) (writes : List (Entry Content)) (n : ℕ) (write : Entry Content) → n < length writes → write ≡ get_or writes n write
    → ((version : ℕ) → 0 < version → get_or new (version - 1) false ≡ (write.version == version || get_or old (version - 1) false))
    → HasBases old (reverse (take n writes)) → HasBases new (reverse (take (n + 1) writes))
more_bases old new writes n write lt is marks has version above =
    marks version above
    ∙ ap (λ based. write.version == version || based) (has version above)
    ∙ ap (λ (history : List (Entry Content)). is_base history version) (sym (newest_so_far writes n write lt is))

-- a version that is marked
pub marked : (bases : List Bool) (version : ℕ) → 0 < version → version ≤ length bases → (other : ℕ) → 0 < other
    → get_or (set bases (version - 1) true) (other - 1) false ≡ (version == other || get_or bases (other - 1) false)
marked bases version above within other other_above = by (eqb_tells version other) where
  by : ((eqb version other ≡ true) × (version ≡ other)) ⊎ ((eqb version other ≡ false) × (version ≢ other))
      → get_or (set bases (version - 1) true) (other - 1) false ≡ (version == other || get_or bases (other - 1) false)
  by (inl same) =
      get_or-set_at bases (version - 1) (other - 1) true false (omega (arith, same.1)) (omega (arith, above, within))
      ∙ ap (λ test. test || get_or bases (other - 1) false) (sym same.0)
  by (inr differ) =
      get_or-set_other bases (version - 1) (other - 1) true false (λ is. differ.1 (omega (arith, is, above, other_above)))
      ∙ ap (λ test. test || get_or bases (other - 1) false) (sym differ.0)

-- no version is marked by what is based on none
pub unmarked : (bases : List Bool) (version : ℕ) → version ≡ 0 → (other : ℕ) → 0 < other → get_or bases (other - 1) false ≡ (version == other || get_or bases (other - 1) false)
unmarked bases version is other above =
    ap (λ test. test || get_or bases (other - 1) false) (sym (ne-eqb version other (λ same. omega (arith, same, is, above))))
