-- The versions of the wanted writes: they ascend, which versions they are, and what they give.
use Rattle.std.proofs.Common.{◌≡◌, ◌≢◌, ℕ, suc, ◌+◌, ◌<◌, ◌≤◌, Bool, true, false, cond, List, [], ◌∷◌, ◌++◌, length, map, Option, Some, None, refl, sym, ap, ◌∙◌, eqb, arith}
use Rattle.std.specs.Prelude.{◌||◌, ◌==◌}
use Rattle.std.specs.BTreeMap.{is_at}
use Rattle.std.specs.List.{AllByRecursion, list_any, flat_map}
use Rattle.std.specs.List.Sorted.{IsStrictlySortedBy}
use Rattle.std.specs.Ordering.{nat_cmp}
use Rattle.std.specs.declared.cmp.Ordering.TheVariants.{Less}
use Rattle.std.proofs.lemmas.Bool.{eqb-true, eq-eqb, cond-true, false≢true}
use Rattle.std.proofs.lemmas.List.{map-append, append-nil}
use Rattle.std.proofs.lemmas.List.Concat.{flat_map-append}
use Rattle.std.proofs.lemmas.List.Folds.{list_any-append}
use Rattle.sync_specifics.specs.declared.specifics.Specifics.{Specifics}
use Rattle.sync_model.proofs.Writes.{write_at-le, write_at-longer}
use Rattle.sync_model.specs.declared.message.Entry.{Entry}
use Rattle.sync_model.specs.declared.message.Marker.{Marker}
use Rattle.sync_model.specs.History.{write_at}
use Rattle.sync_model.specs.Servers.{as_given, is_wanted, wanted_writes}
use Rattle.loopback_server.specs.Pages.{given, given_at, wanted_versions}

abbrev Writes : Type 0
Writes = List (Entry (Option Specifics))

abbrev version_of : Entry (Option Specifics) → ℕ
version_of entry = entry.version

-- the versions of what is wanted of the oldest part of a history
abbrev versions_in : List Marker → Writes → Writes → List ℕ
versions_in marks whole part = map version_of (wanted_writes marks whole part)

-- the part of the wanted writes that one write gives
abbrev wanted_one : List Marker → Writes → Writes → Entry (Option Specifics) → Writes
wanted_one marks whole older write =
    cond (is_wanted marks whole (length older + 1) write) (as_given (length older + 1) write ∷ []) []

-- a version is wanted, where it has this write or none
abbrev pub wanted_by : List Marker → Writes → ℕ → Option (Entry (Option Specifics)) → Bool
wanted_by marks whole version None = false
wanted_by marks whole version (Some write) = is_wanted marks whole version write

-- a number ties with itself alone
same_number : (a : ℕ) → is_at (nat_cmp a) a ≡ true
same_number a = grind arith

other_number : (a b : ℕ) → a ≢ b → is_at (nat_cmp a) b ≡ false
other_number a b other = grind (arith, other)

pub at_number : (a b : ℕ) → is_at (nat_cmp a) b ≡ (a == b)
at_number a b = by (eqb a b) refl
  where
    by : (same : Bool) → eqb a b ≡ same → is_at (nat_cmp a) b ≡ eqb a b
    by true same = ap (λ (n : ℕ). is_at (nat_cmp a) n) (sym (eqb-true a b same)) ∙ same_number a ∙ sym same
    by false other = other_number a b (λ is. false≢true (sym other ∙ eq-eqb a b is)) ∙ sym other

-- no write has a version past the last
none_past : (history : Writes) (version : ℕ) → length history < version → write_at history version ≡ None
none_past history version past = by (write_at history version) refl
  where
    by : (found : Option (Entry (Option Specifics))) → write_at history version ≡ found → found ≡ None
    by None is = refl
    by (Some write) is = absurd (omega (arith, past, write_at-le history version write is))

-- one write more makes its version wanted, if it is
one_more : (marks : List Marker) (whole older : Writes) (write : Entry (Option Specifics)) (version : ℕ) (is wanted : Bool)
    → eqb version (length older + 1) ≡ is → is_wanted marks whole (length older + 1) write ≡ wanted
    → (wanted_by marks whole version (write_at older version)
    || list_any (is_at (nat_cmp version)) (map version_of (cond wanted (as_given (length older + 1) write ∷ []) [])))
    ≡ wanted_by marks whole version (cond is (Some write) (write_at older version))
one_more marks whole older write version true wanted is told =
    let same : version ≡ length older + 1 = eqb-true _ _ is in
    ap (λ found. wanted_by marks whole version found || list_any (is_at (nat_cmp version)) (map version_of (cond wanted (as_given (length older + 1) write ∷ []) [])))
    (none_past older version (omega (arith, same)))
    ∙ by wanted
    ∙ sym told ∙ ap (λ (n : ℕ). is_wanted marks whole n write) (sym same)
  where
    by : (wanted : Bool) → list_any (is_at (nat_cmp version)) (map version_of (cond wanted (as_given (length older + 1) write ∷ []) [])) ≡ wanted
    by true = ap (λ (test : Bool). test || false) (at_number version (length older + 1) ∙ is)
    by false = refl
one_more marks whole older write version false wanted is told =
    by wanted (wanted_by marks whole version (write_at older version))
  where
    by : (wanted before : Bool) → (before || list_any (is_at (nat_cmp version)) (map version_of (cond wanted (as_given (length older + 1) write ∷ []) []))) ≡ before
    by wanted true = refl
    by true false = ap (λ (test : Bool). test || false) (at_number version (length older + 1) ∙ is)
    by false false = refl

-- a version is among those of the wanted writes where its write is wanted
pub has_version : (marks : List Marker) (whole part : Writes) (version : ℕ)
    → list_any (is_at (nat_cmp version)) (versions_in marks whole part) ≡ wanted_by marks whole version (write_at part version)
unfolding wanted_writes
has_version marks whole [] version = refl
has_version marks whole (write ∷ older) version =
    ap (list_any (is_at (nat_cmp version))) (map-append version_of (wanted_writes marks whole older) (wanted_one marks whole older write))
    ∙ list_any-append (is_at (nat_cmp version)) (versions_in marks whole older) (map version_of (wanted_one marks whole older write))
    ∙ ap (λ (test : Bool). test || list_any (is_at (nat_cmp version)) (map version_of (wanted_one marks whole older write))) (has_version marks whole older version)
    ∙ one_more marks whole older write version (eqb version (length older + 1)) (is_wanted marks whole (length older + 1) write) refl refl

-- none is past the last
all_below : (bound more : ℕ) (xs : List ℕ) → bound ≤ more → AllByRecursion (λ x. x < bound) xs → AllByRecursion (λ x. x < more) xs
all_below bound more [] le all = tt
all_below bound more (x ∷ xs) le all = (omega (arith, all.0, le), all_below bound more xs le all.1)

all_with : (P : ℕ → Type 0) (xs ys : List ℕ) → AllByRecursion P xs → AllByRecursion P ys → AllByRecursion P (xs ++ ys)
all_with P [] ys first second = second
all_with P (x ∷ xs) ys first second = (first.0, all_with P xs ys first.1 second)

versions_below : (marks : List Marker) (whole part : Writes) → AllByRecursion (λ version. version < length part + 1) (versions_in marks whole part)
unfolding wanted_writes
versions_below marks whole [] = tt
versions_below marks whole (write ∷ older) =
    rw (map-append version_of (wanted_writes marks whole older) (wanted_one marks whole older write))
    (all_with (λ version. version < suc (length older) + 1) (versions_in marks whole older) (map version_of (wanted_one marks whole older write))
    (all_below (length older + 1) (suc (length older) + 1) (versions_in marks whole older) (omega arith) (versions_below marks whole older))
    (by (is_wanted marks whole (length older + 1) write)))
  where
    by : (wanted : Bool) → AllByRecursion (λ version. version < suc (length older) + 1) (map version_of (cond wanted (as_given (length older + 1) write ∷ []) []))
    by true = (omega arith, tt)
    by false = tt

less_is : (a b : ℕ) → a < b → nat_cmp a b ≡ Less
less_is a b less = grind (arith, less)

all_less : (x : ℕ) (xs : List ℕ) (last : ℕ) → x < last → AllByRecursion (λ y. nat_cmp x y ≡ Less) xs → AllByRecursion (λ y. nat_cmp x y ≡ Less) (xs ++ last ∷ [])
all_less x xs last less all = all_with (λ y. nat_cmp x y ≡ Less) xs (last ∷ []) all (less_is x last less, tt)

-- a greater number at the end
sorted_more : (xs : List ℕ) (last : ℕ) → IsStrictlySortedBy nat_cmp xs → AllByRecursion (λ x. x < last) xs → IsStrictlySortedBy nat_cmp (xs ++ last ∷ [])
unfolding IsStrictlySortedBy
sorted_more [] last sorted below = (tt, tt)
sorted_more (x ∷ xs) last sorted below = (all_less x xs last below.0 sorted.0, sorted_more xs last sorted.1 below.1)

-- one write more at the end
ascend_more : (xs : List ℕ) (write : Entry (Option Specifics)) (version : ℕ) (wanted : Bool) → IsStrictlySortedBy nat_cmp xs → AllByRecursion (λ x. x < version) xs
    → IsStrictlySortedBy nat_cmp (xs ++ map version_of (cond wanted (as_given version write ∷ []) []))
ascend_more xs write version true sorted below = sorted_more xs version sorted below
ascend_more xs write version false sorted below = rw (append-nil xs) sorted

-- they ascend
pub versions_ascend : (marks : List Marker) (whole part : Writes) → IsStrictlySortedBy nat_cmp (versions_in marks whole part)
unfolding wanted_writes IsStrictlySortedBy
versions_ascend marks whole [] = tt
versions_ascend marks whole (write ∷ older) =
    rw (map-append version_of (wanted_writes marks whole older) (wanted_one marks whole older write))
    (ascend_more (versions_in marks whole older) write (length older + 1) (is_wanted marks whole (length older + 1) write)
    (versions_ascend marks whole older) (versions_below marks whole older))

-- what the versions of the wanted writes give are these writes
given_in : (marks : List Marker) (whole part : Writes)
    → ((version : ℕ) (write : Entry (Option Specifics)) → write_at part version ≡ Some write → write_at whole version ≡ Some write)
    → flat_map (given_at whole) (versions_in marks whole part) ≡ wanted_writes marks whole part
unfolding wanted_writes
given_in marks whole [] stands = refl
given_in marks whole (write ∷ older) stands =
    ap (flat_map (given_at whole)) (map-append version_of (wanted_writes marks whole older) (wanted_one marks whole older write))
    ∙ flat_map-append (given_at whole) (versions_in marks whole older) (map version_of (wanted_one marks whole older write))
    ∙ (λ i. given_in marks whole older (λ version other at. stands version other (write_at-longer older version write other at)) i
    ++ by (is_wanted marks whole (length older + 1) write) i)
  where
    at_end : write_at (write ∷ older) (length older + 1) ≡ Some write
    at_end = cond-true _ _ _ (eq-eqb (length older + 1) (length older + 1) refl)

    by : (wanted : Bool) → flat_map (given_at whole) (map version_of (cond wanted (as_given (length older + 1) write ∷ []) []))
        ≡ cond wanted (as_given (length older + 1) write ∷ []) []
    by true = ap (λ found. given (length older + 1) found ++ []) (stands (length older + 1) write at_end)
    by false = refl

pub versions_give : (marks : List Marker) (history : Writes) → flat_map (given_at history) (wanted_versions marks history) ≡ wanted_writes marks history history
versions_give marks history = given_in marks history history (λ version write at. at)
