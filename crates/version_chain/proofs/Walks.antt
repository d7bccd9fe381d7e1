-- Going back from the end of a chain to a mark, and forth from there.
use Rattle.std.proofs.Common.{◌≡◌, ◌≢◌, ℕ, zero, suc, ◌+◌, ◌-◌, ◌<◌, ◌≤◌, Bool, true, false, List, [], ◌∷◌, ◌++◌, length, take, Option, Some, None, refl, sym, ap, ◌∙◌, subst, inl, inr, arith, eq-eqb, ne_eqb, append_assoc, append-nil, length-append}
use Rattle.std.specs.Prelude.{slice_get, filter, nat_lt, min}
use Rattle.std.specs.List.{AllByRecursion}
use Rattle.std.proofs.lemmas.Bool.{cond-true, cond-false}
use Rattle.std.proofs.lemmas.Bool.Decides.{nat_tests}
use Rattle.std.proofs.lemmas.Option.{none-some, same_Some}
use Rattle.version_chain.specs.declared.chain.Node.{Node}
use Rattle.version_chain.specs.Slots.{IsAmong, AreApart, first_of, last_of, last_behind, after, before, before_from}
use Rattle.version_chain.specs.Chains.{Entry, slots_of, AreAscending, IsAbove, greatest}
use Rattle.version_chain.specs.Nodes.{entry_of, entries_of, AreOrdered, IsFound}
use Rattle.version_chain.proofs.Nodes.{entries_join, entries_first, slots_back, entries_counted}
use Rattle.version_chain.proofs.Rows.{at_among}

-- ---- slots that are cut in two

-- there is a last one behind another
behind_some : (first : ℕ) (rest : List ℕ) → last_behind (Some first) rest ≢ None
behind_some first [] same = none-some first (sym same)
behind_some first (second ∷ rest) same = behind_some second rest same

none_last : (slots : List ℕ) → None ≡ last_of slots → slots ≡ []
none_last [] last = refl
none_last (first ∷ rest) last = absurd (behind_some first rest (sym last))

-- the slots before the last one
last_split : (slots : List ℕ) (slot : ℕ) → Some slot ≡ last_of slots → (front : List ℕ) × (slots ≡ front ++ slot ∷ [])
last_split [] slot last = absurd (none-some slot (sym last))
last_split (first ∷ []) slot last = ([], ap (λ (other : ℕ). other ∷ []) (sym (same_Some slot first last)))
last_split (first ∷ second ∷ rest) slot last =
    let later = last_split (second ∷ rest) slot last in (first ∷ later.0, ap (λ slots. first ∷ slots) later.1)

among_middle : (front : List ℕ) (slot : ℕ) (back : List ℕ) → IsAmong slot (front ++ slot ∷ back)
among_middle [] slot back = inl refl
among_middle (first ∷ front) slot back = inr (among_middle front slot back)

-- a slot is not among those before it
not_before : (front : List ℕ) (slot : ℕ) (back : List ℕ) → AreApart (front ++ slot ∷ back) → ¬ IsAmong slot front
not_before [] slot back apart found = found
not_before (first ∷ front) slot back apart found =
    elim found [
      | inl here ↦ apart.0 (subst (λ other. IsAmong other (front ++ slot ∷ back)) (sym here) (among_middle front slot back))
      | inr there ↦ not_before front slot back apart.1 there
    ]

before_at : (previous : Option ℕ) (front : List ℕ) (slot : ℕ) (back : List ℕ) → ¬ IsAmong slot front → before_from previous slot (front ++ slot ∷ back) ≡ last_behind previous front
before_at previous [] slot back absent = cond-true _ _ _ (eq-eqb slot slot refl)
before_at previous (first ∷ front) slot back absent =
    cond-false _ _ _ (ne_eqb first slot (λ same. absent (inl same))) ∙ before_at (Some first) front slot back (λ there. absent (inr there))

after_at : (front : List ℕ) (slot : ℕ) (back : List ℕ) → ¬ IsAmong slot front → after slot (front ++ slot ∷ back) ≡ first_of back
after_at [] slot back absent = cond-true _ _ _ (eq-eqb slot slot refl)
after_at (first ∷ front) slot back absent =
    cond-false _ _ _ (ne_eqb first slot (λ same. absent (inl same))) ∙ after_at front slot back (λ there. absent (inr there))

first_split : (slots : List ℕ) (slot : ℕ) → Some slot ≡ first_of slots → (back : List ℕ) × (slots ≡ slot ∷ back)
first_split [] slot first = absurd (none-some slot (sym first))
first_split (other ∷ rest) slot first = (rest, ap (λ (one : ℕ). one ∷ rest) (sym (same_Some slot other first)))

none_first : (slots : List ℕ) → None ≡ first_of slots → slots ≡ []
none_first [] first = refl
none_first (other ∷ rest) first = absurd (none-some other first)

is_above_back : (mark version : ℕ) → nat_lt mark version ≡ true → mark < version
is_above_back mark version is = grind (arith, nat_tests)

is_above : (mark version : ℕ) → mark < version → nat_lt mark version ≡ true
is_above mark version above = grind (arith, nat_tests)

not_above : (mark version : ℕ) → version ≤ mark → nat_lt mark version ≡ false
not_above mark version below = grind (arith, nat_tests)

all_behind : (P : ℕ → Type 0) (front back : List ℕ) → AllByRecursion P (front ++ back) → AllByRecursion P back
all_behind P [] back all = all
all_behind P (first ∷ front) back all = all_behind P front back all.1

pub last_among : (slots : List ℕ) (place : Option ℕ) (slot : ℕ) → place ≡ last_of slots → place ≡ Some slot → IsAmong slot slots
last_among slots place slot stands is =
    let cut = last_split slots slot (sym is ∙ stands) in subst (IsAmong slot) (sym cut.1) (among_middle cut.0 slot [])

module _ {T : Type 0} where
  -- ---- entries above a mark

  -- the entry is above a mark
  abbrev IsPast : ℕ → Entry T → Type 0
  IsPast mark entry = mark < entry.version

  abbrev past : ℕ → Entry T → Bool
  past mark entry = nat_lt mark entry.version

  all_past : (mark : ℕ) (entries : List (Entry T)) → AllByRecursion (IsPast mark) entries → filter (past mark) entries ≡ entries
  all_past mark [] all = refl
  all_past mark (first ∷ rest) all =
      cond-true _ _ _ (is_above mark first.version all.0) ∙ ap (λ entries. first ∷ entries) (all_past mark rest all.1)

  none_past : (mark : ℕ) (front back : List (Entry T)) → AllByRecursion (λ (entry : Entry T). entry.version ≤ mark) front → filter (past mark) (front ++ back) ≡ filter (past mark) back
  none_past mark [] back all = refl
  none_past mark (first ∷ front) back all =
      cond-false _ _ _ (not_above mark first.version all.0) ∙ none_past mark front back all.1

  -- what is above an entry that is not below a mark is above the mark
  raised : (mark version : ℕ) (entries : List (Entry T)) → mark ≤ version → AllByRecursion (IsPast version) entries → AllByRecursion (IsPast mark) entries
  raised mark version [] least all = tt
  raised mark version (first ∷ rest) least all =
      let above : version < first.version = all.0 in (omega (arith, least, above), raised mark version rest least all.1)

  past_case : (mark : ℕ) (first : Entry T) (rest : List (Entry T)) (is : Bool) → nat_lt mark first.version ≡ is → AreAscending (first ∷ rest)
      → (front : List ℕ) × (slots_of rest ≡ front ++ slots_of (filter (past mark) rest))
      → (front : List ℕ) × (slots_of (first ∷ rest) ≡ front ++ slots_of (filter (past mark) (first ∷ rest)))
  past_case mark first rest true is ascending later =
      let above : mark < first.version = is_above_back mark first.version is in
      ([], ap slots_of (sym (all_past mark (first ∷ rest) (above, raised mark first.version rest (omega (arith, above)) ascending.0))))
  past_case mark first rest false is ascending later = (
    first.slot ∷ later.0,
    ap (λ (slots : List ℕ). first.slot ∷ slots) later.1
        ∙ ap (λ (entries : List (Entry T)). first.slot ∷ later.0 ++ slots_of entries) (sym (cond-false (nat_lt mark first.version) (first ∷ filter (past mark) rest) (filter (past mark) rest) is)),
  )

  -- the entries above a mark are the last ones
  pub past_are_last : (mark : ℕ) (entries : List (Entry T)) → AreAscending entries → (front : List ℕ) × (slots_of entries ≡ front ++ slots_of (filter (past mark) entries))
  past_are_last mark [] ascending = ([], refl)
  past_are_last mark (first ∷ rest) ascending = past_case mark first rest (nat_lt mark first.version) refl ascending (past_are_last mark rest ascending.1)

  -- an entry is above those before it
  below_last : (front : List (Entry T)) (last : Entry T) (back : List (Entry T)) → AreAscending (front ++ last ∷ back) → AllByRecursion (λ (entry : Entry T). entry.version < last.version) front
  below_last [] last back ascending = tt
  below_last (first ∷ front) last back ascending =
      (at_middle first front last back ascending.0, below_last front last back ascending.1)
    where
      at_middle : (first : Entry T) (front : List (Entry T)) (last : Entry T) (back : List (Entry T)) → AllByRecursion (IsPast first.version) (front ++ last ∷ back) → first.version < last.version
      at_middle first [] last back all = all.0
      at_middle first (second ∷ front) last back all = at_middle first front last back all.1

  -- ---- the last entry

  above_all : (front : List (Entry T)) (last : Entry T) (version : ℕ) → AllByRecursion (λ (entry : Entry T). entry.version < last.version) front → last.version < version
      → IsAbove version (front ++ last ∷ [])
  above_all [] last version below above = (above, tt)
  above_all (first ∷ front) last version below above =
      let less : first.version < last.version = below.0 in (omega (arith, less, above), above_all front last version below.1 above)

  greatest_is : (front : List (Entry T)) (last : Entry T) → AllByRecursion (λ (entry : Entry T). entry.version < last.version) front → greatest (front ++ last ∷ []) ≡ last.version
  greatest_is [] last below = omega arith
  greatest_is (first ∷ front) last below =
      let less : first.version < last.version = below.0 in omega (arith, less, greatest_is front last below.1)

  -- the last slot is that of the greatest version
  pub last_greatest : (nodes : List (Node T)) (slots : List ℕ) (place : Option ℕ) (slot : ℕ) (node : Node T) → AreOrdered nodes slots → place ≡ last_of slots → place ≡ Some slot
      → slice_get nodes slot ≡ Some node
      → (node.version ≡ greatest (entries_of nodes slots)) × ((version : ℕ) → node.version < version → IsAbove version (entries_of nodes slots))
  last_greatest nodes slots place slot node ordered stands is_place is =
      let cut = last_split slots slot (sym is_place ∙ stands) in
      let parts : entries_of nodes slots ≡ entries_of nodes cut.0 ++ entry_of slot node ∷ [] =
      ap (entries_of nodes) cut.1 ∙ entries_join nodes cut.0 (slot ∷ [])
      ∙ ap (λ (entries : List (Entry T)). entries_of nodes cut.0 ++ entries) (entries_first nodes slot [] node is) in
      let below = below_last (entries_of nodes cut.0) (entry_of slot node) [] (subst AreAscending parts ordered.ascending) in (
        sym (ap greatest parts ∙ greatest_is (entries_of nodes cut.0) (entry_of slot node) below),
        λ version above. subst (IsAbove version) (sym parts) (above_all (entries_of nodes cut.0) (entry_of slot node) version below above),
      )

  -- without a last slot there are no entries
  pub none_greatest : (nodes : List (Node T)) (slots : List ℕ) (place : Option ℕ) → place ≡ last_of slots → place ≡ None → entries_of nodes slots ≡ []
  none_greatest nodes slots place stands is = ap (entries_of nodes) (none_last slots (sym is ∙ stands))

  -- ---- back to a mark

  -- Where a walk back stands: the slots behind the place are of entries above the mark, and were counted.
  pub record IsBack (mark : ℕ) (nodes : List (Node T)) (slots : List ℕ) (place first : Option ℕ) (count : ℕ) : Type 0 where
    pub front : List ℕ
    pub back : List ℕ
    pub split : slots ≡ front ++ back
    pub stands : place ≡ last_of front
    pub begins : first ≡ first_of back
    pub counted : count ≡ length back
    pub above : AllByRecursion (IsPast mark) (entries_of nodes back)

  pub back_start : (mark : ℕ) (nodes : List (Node T)) (slots : List ℕ) → IsBack mark nodes slots (last_of slots) None 0
  back_start mark nodes slots =
      record { front = slots; back = []; split = sym (append-nil slots); stands = refl; begins = refl; counted = refl; above = tt }

  module _ (mark : ℕ) (nodes : List (Node T)) (slots : List ℕ) (ordered : AreOrdered nodes slots) (slot count : ℕ) (place first : Option ℕ) (is_place : place ≡ Some slot) (walk : IsBack mark nodes slots place first count) where
    -- the slots with the place in their midst
    middle : (front : List ℕ) × (slots ≡ front ++ slot ∷ walk.back)
    middle =
        let before_it = last_split walk.front slot (sym is_place ∙ walk.stands) in
        (before_it.0, walk.split ∙ ap (λ front. front ++ walk.back) before_it.1 ∙ append_assoc before_it.0 (slot ∷ []) walk.back)

    pub back_among : IsAmong slot slots
    back_among = subst (IsAmong slot) (sym middle.1) (among_middle middle.0 slot walk.back)

    pub back_placed : slot < length nodes
    back_placed = at_among (λ slot. slot < length nodes) slot slots ordered.placed back_among

    pub back_fewer : count < length slots
    back_fewer = omega (arith, walk.counted, ap length middle.1, length-append middle.0 (slot ∷ walk.back))

    absent : ¬ IsAmong slot middle.0
    absent = not_before middle.0 slot walk.back (subst AreApart middle.1 ordered.apart)

    pub back_step : (node : Node T) → slice_get nodes slot ≡ Some node → mark < node.version → IsBack mark nodes slots (before slot slots) (Some slot) (count + 1)
    back_step node is above = record {
      front = middle.0;
      back = slot ∷ walk.back;
      split = middle.1;
      stands = ap (before slot) middle.1 ∙ before_at None middle.0 slot walk.back absent;
      begins = refl;
      counted = omega (arith, walk.counted);
      above = subst (AllByRecursion (IsPast mark)) (sym (entries_first nodes slot walk.back node is)) (above, walk.above);
    }

  all_below : (mark version : ℕ) (entries : List (Entry T)) → version ≤ mark → AllByRecursion (λ (entry : Entry T). entry.version < version) entries
      → AllByRecursion (λ (entry : Entry T). entry.version ≤ mark) entries
  all_below mark version [] least all = tt
  all_below mark version (first ∷ rest) least all =
      let below : first.version < version = all.0 in (omega (arith, least, below), all_below mark version rest least all.1)

  -- what the walk back found, where the entries above the mark are those of these slots
  pub found_above : (mark : ℕ) (nodes : List (Node T)) (slots back : List ℕ) (first : Option ℕ) (count : ℕ) → AllByRecursion (λ slot. slot < length nodes) back
      → filter (past mark) (entries_of nodes slots) ≡ entries_of nodes back → first ≡ first_of back → count ≡ length back
      → IsFound mark (entries_of nodes slots) record { first = first; count = count }
  found_above mark nodes slots back first count placed are begins counted = record {
    first = begins ∙ ap first_of (sym (slots_back nodes back placed) ∙ ap slots_of (sym are));
    count = counted ∙ sym (entries_counted nodes back placed) ∙ ap length (sym are);
  }

  -- the walk back has come to an entry that is not above the mark
  pub back_found : (mark : ℕ) (nodes : List (Node T)) (slots : List ℕ) (ordered : AreOrdered nodes slots) (slot count : ℕ) (place first : Option ℕ) (node : Node T)
      → place ≡ Some slot → IsBack mark nodes slots place first count → slice_get nodes slot ≡ Some node → node.version ≤ mark
      → IsFound mark (entries_of nodes slots) record { first = first; count = count }
  back_found mark nodes slots ordered slot count place first node is_place walk is least =
      let cut = middle mark nodes slots ordered slot count place first is_place walk in
      let parts : entries_of nodes slots ≡ entries_of nodes cut.0 ++ entry_of slot node ∷ entries_of nodes walk.back =
      ap (entries_of nodes) cut.1 ∙ entries_join nodes cut.0 (slot ∷ walk.back)
      ∙ ap (λ (entries : List (Entry T)). entries_of nodes cut.0 ++ entries) (entries_first nodes slot walk.back node is) in
      let below = below_last (entries_of nodes cut.0) (entry_of slot node) (entries_of nodes walk.back) (subst AreAscending parts ordered.ascending) in
      found_above mark nodes slots walk.back first count
      (all_behind (λ slot. slot < length nodes) walk.front walk.back (subst (AllByRecursion (λ slot. slot < length nodes)) walk.split ordered.placed))
      (ap (filter (past mark)) parts
      ∙ none_past mark (entries_of nodes cut.0) (entry_of slot node ∷ entries_of nodes walk.back) (all_below mark node.version (entries_of nodes cut.0) least below)
      ∙ cond-false _ _ _ (not_above mark node.version least)
      ∙ all_past mark (entries_of nodes walk.back) walk.above)
      walk.begins walk.counted

  -- the walk back has come to the first entry, which is above the mark
  pub back_end : (mark : ℕ) (nodes : List (Node T)) (slots : List ℕ) (ordered : AreOrdered nodes slots) (count : ℕ) (place first : Option ℕ)
      → place ≡ None → IsBack mark nodes slots place first count
      → IsFound mark (entries_of nodes slots) record { first = first; count = count }
  back_end mark nodes slots ordered count place first is_end walk =
      let all : slots ≡ walk.back = walk.split ∙ ap (λ (front : List ℕ). front ++ walk.back) (none_last walk.front (sym is_end ∙ walk.stands)) in
      found_above mark nodes slots walk.back first count (subst (AllByRecursion (λ slot. slot < length nodes)) all ordered.placed)
      (ap (λ (slots : List ℕ). filter (past mark) (entries_of nodes slots)) all ∙ all_past mark (entries_of nodes walk.back) walk.above)
      walk.begins walk.counted

-- ---- forth from a mark

take_none : (count : ℕ) → take count [] ≡ (let none : List ℕ = [] in none)
take_none zero = refl
take_none (suc count) = refl

nothing_left : (count given : ℕ) → given ≡ count → count - given ≡ 0
nothing_left count given same = omega (arith, same)

all_left : (count : ℕ) → count - 0 ≡ count
all_left count = omega arith

one_less : (count given more : ℕ) → more ≡ given + 1 → given ≤ count → given ≢ count → suc (count - more) ≡ count - given
one_less count given more is within other = omega (arith, is, within, other)

-- Where a walk forth stands: the slots from the place on are those that are left of the wanted ones.
pub record IsForth (slots wanted : List ℕ) (count : ℕ) (place : Option ℕ) (given : List ℕ) : Type 0 where
  pub front : List ℕ
  pub back : List ℕ
  pub split : slots ≡ front ++ back
  pub stands : place ≡ first_of back
  pub makes : given ++ take (count - length given) back ≡ take count wanted
  pub within : length given ≤ count

pub forth_start : (slots wanted front : List ℕ) (count : ℕ) (place : Option ℕ) → slots ≡ front ++ wanted → place ≡ first_of wanted → IsForth slots wanted count place []
forth_start slots wanted front count place split stands =
    record { front = front; back = wanted; split = split; stands = stands; makes = ap (λ (left : ℕ). take left wanted) (all_left count); within = omega arith }

pub forth_end : (slots wanted given : List ℕ) (count : ℕ) (place : Option ℕ) → place ≡ None → IsForth slots wanted count place given → given ≡ take count wanted
forth_end slots wanted given count place is_end walk =
    sym (append-nil given) ∙ ap (λ (rest : List ℕ). given ++ rest) (sym (take_none (count - length given)))
    ∙ ap (λ (back : List ℕ). given ++ take (count - length given) back) (sym (none_first walk.back (sym is_end ∙ walk.stands))) ∙ walk.makes

pub forth_all : (slots wanted given : List ℕ) (count : ℕ) (place : Option ℕ) → IsForth slots wanted count place given → length given ≡ count → given ≡ take count wanted
forth_all slots wanted given count place walk all =
    sym (append-nil given) ∙ ap (λ (left : ℕ). given ++ take left walk.back) (sym (nothing_left count (length given) all)) ∙ walk.makes

module _ (slots wanted given : List ℕ) (count slot : ℕ) (place : Option ℕ) (is_place : place ≡ Some slot) (walk : IsForth slots wanted count place given) where
  forth_rest : (back : List ℕ) × (walk.back ≡ slot ∷ back)
  forth_rest = first_split walk.back slot (sym is_place ∙ walk.stands)

  forth_split : slots ≡ walk.front ++ slot ∷ forth_rest.0
  forth_split = walk.split ∙ ap (λ (back : List ℕ). walk.front ++ back) forth_rest.1

  pub forth_among : IsAmong slot slots
  forth_among = subst (IsAmong slot) (sym forth_split) (among_middle walk.front slot forth_rest.0)

  pub forth_step : AreApart slots → length given ≢ count → IsForth slots wanted count (after slot slots) (given ++ slot ∷ [])
  forth_step apart more = record {
    front = walk.front ++ slot ∷ [];
    back = forth_rest.0;
    split = forth_split ∙ sym (append_assoc walk.front (slot ∷ []) forth_rest.0);
    stands = ap (after slot) forth_split ∙ after_at walk.front slot forth_rest.0 (not_before walk.front slot forth_rest.0 (subst AreApart forth_split apart));
    makes =
        append_assoc given (slot ∷ []) (take (count - length (given ++ slot ∷ [])) forth_rest.0)
        ∙ ap (λ (left : ℕ). given ++ take left (slot ∷ forth_rest.0)) (one_less count (length given) (length (given ++ slot ∷ [])) (length-append given (slot ∷ [])) walk.within more)
        ∙ ap (λ (back : List ℕ). given ++ take (count - length given) back) (sym forth_rest.1) ∙ walk.makes;
    within = omega (arith, walk.within, more, length-append given (slot ∷ []));
  }

least_of_none : (len : ℕ) → min len 0 ≡ 0
least_of_none len = omega arith

least_of_more : (len max : ℕ) → min (suc len) (suc max) ≡ suc (min len max)
least_of_more len max = omega arith

-- the first of a list, as many as it has or fewer
pub take_least : (slots : List ℕ) (max count : ℕ) → count ≡ min (length slots) max → take count slots ≡ take max slots
take_least [] max count is = take_none count ∙ sym (take_none max)
take_least (slot ∷ slots) zero count is = ap (λ (left : ℕ). take left (slot ∷ slots)) (is ∙ least_of_none (suc (length slots)))
take_least (slot ∷ slots) (suc max) count is =
    ap (λ (left : ℕ). take left (slot ∷ slots)) (is ∙ least_of_more (length slots) max)
    ∙ ap (λ (others : List ℕ). slot ∷ others) (take_least slots max (min (length slots) max) refl)
