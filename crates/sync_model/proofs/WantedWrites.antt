-- The wanted writes of a history, and the first of them: which writes they tell, and that none up to the new mark is missed.
use Rattle.std.proofs.Common.{◌≡◌, ℕ, zero, suc, ◌+◌, ◌-◌, ◌<◌, ◌≤◌, ◌⊎◌, max, Bool, true, false, cond, List, [], ◌∷◌, ◌++◌, length, take, Some, refl, sym, ap, subst, ◌∙◌, eqb, arith, inl, inr}
use Rattle.std.specs.List.{AllByRecursion}
use Rattle.std.proofs.lemmas.Bool.{eqb-true, eq-eqb, and_from, cases_lt, false≢true}
use Rattle.std.proofs.lemmas.List.{take-append-le, take_all, length-append}
use Rattle.std.proofs.lemmas.Option.{same_Some, none-some}
use Rattle.sync_model.specs.declared.message.Content.{Content}
use Rattle.sync_model.specs.declared.message.Entry.{Entry}
use Rattle.sync_model.specs.declared.message.Key.{Key}
use Rattle.sync_model.specs.declared.message.Marker.{Marker}
use Rattle.sync_model.specs.History.{last_version, write_at}
use Rattle.sync_model.specs.Servers.{mark_of, is_above, is_wanted, as_given, wanted_writes, MAX_UPDATES, last_given}
use Rattle.sync_model.specs.Facts.{IsWriteOf}
use Rattle.sync_model.proofs.Writes.{write_at-longer}
use Rattle.sync_model.proofs.Longer.{all_then}
use Rattle.sync_model.proofs.TrueAcks.{all_append, newest_at}

-- an entry of a reply tells a write
abbrev pub IsGiven : List (Entry Content) → Entry Content → Type 0
IsGiven history entry = IsWriteOf history entry.key entry.version entry.content.value

-- some entries have one of this key and this version
abbrev pub HasEntry : List (Entry Content) → Key → ℕ → Type 0
HasEntry [] key version = ⊥
HasEntry (entry ∷ entries) key version = ((entry.key ≡ key) × (entry.version ≡ version)) ⊎ HasEntry entries key version

has_left : (first second : List (Entry Content)) (key : Key) (version : ℕ) → HasEntry first key version → HasEntry (first ++ second) key version
has_left [] second key version has = absurd has
has_left (entry ∷ first) second key version (inl is) = inl is
has_left (entry ∷ first) second key version (inr has) = inr (has_left first second key version has)

has_right : (first second : List (Entry Content)) (key : Key) (version : ℕ) → HasEntry second key version → HasEntry (first ++ second) key version
has_right [] second key version has = has
has_right (entry ∷ first) second key version has = inr (has_right first second key version has)

has_parts : (first second : List (Entry Content)) (key : Key) (version : ℕ) → HasEntry (first ++ second) key version
    → HasEntry first key version ⊎ HasEntry second key version
has_parts [] second key version has = inr has
has_parts (entry ∷ first) second key version (inl is) = inl (inl is)
has_parts (entry ∷ first) second key version (inr has) = by (has_parts first second key version has)
  where
    by : HasEntry first key version ⊎ HasEntry second key version
        → (((entry.key ≡ key) × (entry.version ≡ version)) ⊎ HasEntry first key version) ⊎ HasEntry second key version
    by (inl in_first) = inl (inr in_first)
    by (inr in_second) = inr in_second

pub all_take : {X : Type 0} (P : X → Type 0) (count : ℕ) (xs : List X) → AllByRecursion P xs → AllByRecursion P (take count xs)
all_take P zero xs all = tt
all_take P (suc count) [] all = tt
all_take P (suc count) (x ∷ xs) all = (all.0, all_take P count xs all.1)

-- the part of the wanted writes that one write gives
abbrev wanted_one : List Marker → List (Entry Content) → List (Entry Content) → Entry Content → List (Entry Content)
wanted_one marks whole older write =
    cond (is_wanted marks whole (length older + 1) write) (as_given (length older + 1) write ∷ []) []

-- all wanted writes are told as they are
pub wanted_given : (marks : List Marker) (whole part : List (Entry Content))
    → ((version : ℕ) (write : Entry Content) → write_at part version ≡ Some write → write_at whole version ≡ Some write)
    → AllByRecursion (IsGiven whole) (wanted_writes marks whole part)
unfolding wanted_writes
wanted_given marks whole [] stands = tt
wanted_given marks whole (write ∷ older) stands =
    all_append (IsGiven whole) (wanted_writes marks whole older) (wanted_one marks whole older write)
    (wanted_given marks whole older (λ version other at. stands version other (write_at-longer older version write other at)))
    (by (is_wanted marks whole (length older + 1) write))
  where
    by : (wanted : Bool) → AllByRecursion (IsGiven whole) (cond wanted (as_given (length older + 1) write ∷ []) [])
    by true = (record { write = write; is_write = stands (length older + 1) write (newest_at older write); has_key = refl; has_value = refl }, tt)
    by false = tt

-- none is above the length of the history
pub wanted_within : (marks : List Marker) (whole part : List (Entry Content))
    → AllByRecursion (λ entry. entry.version ≤ length part) (wanted_writes marks whole part)
unfolding wanted_writes
wanted_within marks whole [] = tt
wanted_within marks whole (write ∷ older) =
    all_append (λ entry. entry.version ≤ suc (length older)) (wanted_writes marks whole older) (wanted_one marks whole older write)
    (all_then (λ (entry : Entry Content) le. omega (arith, le)) (wanted_writes marks whole older) (wanted_within marks whole older))
    (by (is_wanted marks whole (length older + 1) write))
  where
    by : (wanted : Bool) → AllByRecursion (λ (entry : Entry Content). entry.version ≤ suc (length older)) (cond wanted (as_given (length older + 1) write ∷ []) [])
    by true = (omega arith, tt)
    by false = tt

-- the last write of a key that is above the mark of its type is among the wanted writes
wanted_by : (marks : List Marker) (whole older : List (Entry Content)) (key : Key) (next write : Entry Content) (version : ℕ) (is : Bool)
    → eqb version (length older + 1) ≡ is → cond is (Some next) (write_at older version) ≡ Some write → write.key ≡ key
    → last_version whole key ≡ version → is_above (mark_of key.kind marks) version ≡ true
    → (write_at older version ≡ Some write → HasEntry (wanted_writes marks whole older) key version)
    → HasEntry (wanted_writes marks whole older ++ wanted_one marks whole older next) key version
wanted_by marks whole older key next write version true is at has last above rest =
    has_right (wanted_writes marks whole older) (wanted_one marks whole older next) key version
    (by (is_wanted marks whole (length older + 1) next) wanted)
  where
    place : version ≡ length older + 1
    place = eqb-true _ _ is

    next_key : next.key ≡ key
    next_key = ap (λ (entry : Entry Content). entry.key) (same_Some next write at) ∙ has

    wanted : is_wanted marks whole (length older + 1) next ≡ true
    wanted = and_from _ _
        (eq-eqb (last_version whole next.key) (length older + 1) (ap (λ (other : Key). last_version whole other) next_key ∙ last ∙ place))
        (ap (λ (other : Key). is_above (mark_of other.kind marks) (length older + 1)) next_key
        ∙ subst (λ (up_to : ℕ). is_above (mark_of key.kind marks) up_to ≡ true) place above)

    by : (given : Bool) → given ≡ true → HasEntry (cond given (as_given (length older + 1) next ∷ []) []) key version
    by true given = inl (next_key, sym place)
    by false given = absurd (false≢true given)
wanted_by marks whole older key next write version false is at has last above rest =
    has_left (wanted_writes marks whole older) (wanted_one marks whole older next) key version (rest at)

pub wanted_has : (marks : List Marker) (whole part : List (Entry Content)) (key : Key) (write : Entry Content) (version : ℕ)
    → write_at part version ≡ Some write → write.key ≡ key → last_version whole key ≡ version
    → is_above (mark_of key.kind marks) version ≡ true → HasEntry (wanted_writes marks whole part) key version
unfolding wanted_writes
wanted_has marks whole [] key write version at has last above = absurd (none-some _ at)
wanted_has marks whole (next ∷ older) key write version at has last above =
    wanted_by marks whole older key next write version (eqb version (length older + 1)) refl at has last above
    (λ at. wanted_has marks whole older key write version at has last above)

-- the last version given is no greater than all are
pub last_given-le : (bound : ℕ) (entries : List (Entry Content)) → AllByRecursion (λ entry. entry.version ≤ bound) entries → last_given entries ≤ bound
last_given-le bound [] all = omega arith
last_given-le bound (entry ∷ []) all = all.0
last_given-le bound (first ∷ second ∷ rest) all = last_given-le bound (second ∷ rest) all.1

-- a wanted write that is not above the last one given is given
one_is : (marks : List Marker) (whole older : List (Entry Content)) (write : Entry Content) (key : Key) (version : ℕ)
    → HasEntry (wanted_one marks whole older write) key version → version ≡ length older + 1
one_is marks whole older write key version has = by (is_wanted marks whole (length older + 1) write) has
  where
    by : (wanted : Bool) → HasEntry (cond wanted (as_given (length older + 1) write ∷ []) []) key version → version ≡ length older + 1
    by true (inl is) = sym is.1
    by true (inr more) = absurd more
    by false more = absurd more

one_long : (marks : List Marker) (whole older : List (Entry Content)) (write : Entry Content) → length (wanted_one marks whole older write) ≤ 1
one_long marks whole older write = by (is_wanted marks whole (length older + 1) write)
  where
    by : (wanted : Bool) → length (cond wanted (as_given (length older + 1) write ∷ []) []) ≤ 1
    by true = omega arith
    by false = omega arith

cut_by : (before one : List (Entry Content)) (key : Key) (version count len : ℕ)
    → AllByRecursion (λ entry. entry.version ≤ len) before → (HasEntry one key version → version ≡ len + 1) → length one ≤ 1
    → HasEntry (before ++ one) key version → version ≤ last_given (take count (before ++ one))
    → (HasEntry before key version → version ≤ last_given (take count before) → HasEntry (take count before) key version)
    → (length before < count) ⊎ (count ≤ length before) → HasEntry (take count (before ++ one)) key version
cut_by before one key version count len all single short has le rest (inl room) =
    subst (λ (given : List (Entry Content)). HasEntry given key version)
    (sym (take_all count (before ++ one) (omega (arith, length-append before one, short, room)))) has
cut_by before one key version count len all single short has le rest (inr full) =
    subst (λ (given : List (Entry Content)). HasEntry given key version) (sym cut) (by (has_parts before one key version has))
  where
    cut : take count (before ++ one) ≡ take count before
    cut = take-append-le count before one full

    within : version ≤ last_given (take count before)
    within = subst (λ (given : List (Entry Content)). version ≤ last_given given) cut le

    by : HasEntry before key version ⊎ HasEntry one key version → HasEntry (take count before) key version
    by (inl in_before) = rest in_before within
    by (inr in_one) = absurd (omega (
      arith,
      single in_one,
      within,
      last_given-le len (take count before) (all_take (λ (entry : Entry Content). entry.version ≤ len) count before all),
    ))

cut_has : (marks : List Marker) (whole part : List (Entry Content)) (key : Key) (version count : ℕ)
    → HasEntry (wanted_writes marks whole part) key version → version ≤ last_given (take count (wanted_writes marks whole part))
    → HasEntry (take count (wanted_writes marks whole part)) key version
unfolding wanted_writes
cut_has marks whole [] key version count has le = absurd has
cut_has marks whole (write ∷ older) key version count has le =
    cut_by (wanted_writes marks whole older) (wanted_one marks whole older write) key version count (length older)
    (wanted_within marks whole older) (one_is marks whole older write key version) (one_long marks whole older write) has le
    (cut_has marks whole older key version count) (cases_lt (length (wanted_writes marks whole older)) count)

-- what is given has each wanted write up to the new mark
pub given_by : (marks : List Marker) (history : List (Entry Content)) (key : Key) (version asked : ℕ) (all : Bool)
    → eqb (length (wanted_writes marks history history) - MAX_UPDATES) 0 ≡ all
    → HasEntry (wanted_writes marks history history) key version → asked < version
    → version ≤ cond all (length history) (max asked (last_given (take MAX_UPDATES (wanted_writes marks history history))))
    → HasEntry (take MAX_UPDATES (wanted_writes marks history history)) key version
given_by marks history key version asked true is has above le =
    subst (λ (given : List (Entry Content)). HasEntry given key version)
    (sym (take_all MAX_UPDATES (wanted_writes marks history history) (omega (arith, eqb-true _ _ is)))) has
given_by marks history key version asked false is has above le =
    cut_has marks history history key version MAX_UPDATES has (omega (arith, above, le))
