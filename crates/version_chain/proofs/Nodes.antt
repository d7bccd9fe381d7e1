-- What a chain's entries are after each change of its nodes and their order.
use Rattle.std.proofs.Common.{◌≡◌, ◌≢◌, ℕ, zero, suc, ◌+◌, ◌<◌, Bool, true, false, cond, List, [], ◌∷◌, ◌++◌, length, set, Option, Some, None, refl, sym, ap, ◌∙◌, subst, inl, inr, arith, eq-eqb, ne_eqb, length-append}
use Rattle.std.specs.Prelude.{slice_get, filter}
use Rattle.std.specs.List.{AllByRecursion, cons_option}
use Rattle.std.specs.Option.{option_map}
use Rattle.std.proofs.lemmas.Bool.{cases_eq, cond-true, cond-false, not_from_true, not_from_false}
use Rattle.version_chain.specs.declared.chain.Node.{Node}
use Rattle.version_chain.specs.Slots.{IsAmong, AreApart, without}
use Rattle.version_chain.specs.Chains.{Entry, slots_of, IsAbove, AreAscending, AreSlots, without_slot, item_at}
use Rattle.version_chain.specs.Nodes.{entry_of, entries_of, AreOrdered}
use Rattle.version_chain.proofs.Chains.{without_first, without_other, among_without, apart_without, apart_last, length_without}
use Rattle.version_chain.proofs.Rows.{at_among, all_without, all_last, among_kept, among_end, among_push}

weaker : (limit : ℕ) (slots : List ℕ) → AllByRecursion (λ slot. slot < limit) slots → AllByRecursion (λ slot. slot < limit + 1) slots
weaker limit [] all = tt
weaker limit (first ∷ rest) all = (omega (arith, all.0), weaker limit rest all.1)

module _ {T : Type 0} where
  -- ---- reading nodes

  node_at : (nodes : List (Node T)) (slot : ℕ) → slot < length nodes → (node : Node T) × (slice_get nodes slot ≡ Some node)
  node_at [] slot within = absurd (omega arith)
  node_at (node ∷ nodes) zero within = (node, refl)
  node_at (node ∷ nodes) (suc slot) within = node_at nodes slot (omega arith)

  pub node_pushed : (nodes : List (Node T)) (node : Node T) (slot : ℕ) → slot < length nodes → slice_get (nodes ++ node ∷ []) slot ≡ slice_get nodes slot
  node_pushed [] node slot within = absurd (omega arith)
  node_pushed (first ∷ nodes) node zero within = refl
  node_pushed (first ∷ nodes) node (suc slot) within = node_pushed nodes node slot (omega arith)

  pub node_last : (nodes : List (Node T)) (node : Node T) → slice_get (nodes ++ node ∷ []) (length nodes) ≡ Some node
  node_last [] node = refl
  node_last (first ∷ nodes) node = node_last nodes node

  pub node_set : (nodes : List (Node T)) (slot : ℕ) (node : Node T) → slot < length nodes → slice_get (set nodes slot node) slot ≡ Some node
  node_set [] slot node within = absurd (omega arith)
  node_set (first ∷ nodes) zero node within = refl
  node_set (first ∷ nodes) (suc slot) node within = node_set nodes slot node (omega arith)

  pub node_set_other : (nodes : List (Node T)) (slot other : ℕ) (node : Node T) → other ≢ slot → slice_get (set nodes slot node) other ≡ slice_get nodes other
  node_set_other [] slot other node differs = refl
  node_set_other (first ∷ nodes) zero zero node differs = absurd (differs refl)
  node_set_other (first ∷ nodes) zero (suc other) node differs = refl
  node_set_other (first ∷ nodes) (suc slot) zero node differs = refl
  node_set_other (first ∷ nodes) (suc slot) (suc other) node differs = node_set_other nodes slot other node (λ same. differs (ap suc same))

  -- ---- entries

  pub entries_first : (nodes : List (Node T)) (slot : ℕ) (slots : List ℕ) (node : Node T) → slice_get nodes slot ≡ Some node
      → entries_of nodes (slot ∷ slots) ≡ entry_of slot node ∷ entries_of nodes slots
  entries_first nodes slot slots node is = ap (λ found. cons_option (option_map (entry_of slot) found) (entries_of nodes slots)) is

  pub entries_join : (nodes : List (Node T)) (slots more : List ℕ) → entries_of nodes (slots ++ more) ≡ entries_of nodes slots ++ entries_of nodes more
  entries_join nodes [] more = refl
  entries_join nodes (slot ∷ slots) more =
      ap (cons_option (option_map (entry_of slot) (slice_get nodes slot))) (entries_join nodes slots more)
      ∙ joined (option_map (entry_of slot) (slice_get nodes slot)) (entries_of nodes slots) (entries_of nodes more)
    where
      joined : (found : Option (Entry T)) (front back : List (Entry T)) → cons_option found (front ++ back) ≡ cons_option found front ++ back
      joined None front back = refl
      joined (Some entry) front back = refl

  entries_same : (nodes others : List (Node T)) (slots : List ℕ) → ((slot : ℕ) → IsAmong slot slots → slice_get others slot ≡ slice_get nodes slot)
      → entries_of others slots ≡ entries_of nodes slots
  entries_same nodes others [] same = refl
  entries_same nodes others (slot ∷ slots) same =
      ap (λ found. cons_option (option_map (entry_of slot) found) (entries_of others slots)) (same slot (inl refl))
      ∙ ap (λ entries. cons_option (option_map (entry_of slot) (slice_get nodes slot)) entries) (entries_same nodes others slots (λ other there. same other (inr there)))

  -- an item that is added stands behind the others
  pub entries_added : (nodes : List (Node T)) (slots : List ℕ) (node : Node T) → AllByRecursion (λ slot. slot < length nodes) slots
      → entries_of (nodes ++ node ∷ []) (slots ++ length nodes ∷ []) ≡ entries_of nodes slots ++ entry_of (length nodes) node ∷ []
  entries_added nodes slots node placed =
      entries_join (nodes ++ node ∷ []) slots (length nodes ∷ [])
      ∙ ap (λ entries. entries ++ entries_of (nodes ++ node ∷ []) (length nodes ∷ []))
      (entries_same nodes (nodes ++ node ∷ []) slots (λ slot there. node_pushed nodes node slot (at_among (λ slot. slot < length nodes) slot slots placed there)))
      ∙ ap (λ entries. entries_of nodes slots ++ entries) (entries_first (nodes ++ node ∷ []) (length nodes) [] node (node_last nodes node))

  pub entries_without : (nodes : List (Node T)) (slot : ℕ) (slots : List ℕ) → AllByRecursion (λ slot. slot < length nodes) slots
      → without_slot slot (entries_of nodes slots) ≡ entries_of nodes (without slot slots)
  entries_without nodes slot [] placed = refl
  entries_without nodes slot (first ∷ rest) placed =
      let found = node_at nodes first placed.0 in
      ap (without_slot slot) (entries_first nodes first rest found.0 found.1)
      ∙ elim (cases_eq first slot) [
        | inl same ↦
            cond-false _ _ _ (not_from_true _ (eq-eqb first slot same)) ∙ entries_without nodes slot rest placed.1
            ∙ ap (entries_of nodes) (sym (without_first slot first rest same))
        | inr differs ↦
            cond-true _ _ _ (not_from_false _ (ne_eqb first slot differs))
            ∙ ap (λ entries. entry_of first found.0 ∷ entries) (entries_without nodes slot rest placed.1)
            ∙ sym (entries_first nodes first (without slot rest) found.0 found.1)
            ∙ ap (entries_of nodes) (sym (without_other slot first rest differs))
      ]

  -- an item that is replaced stands behind the others
  pub entries_touched : (nodes : List (Node T)) (slot : ℕ) (slots : List ℕ) (node : Node T) → AllByRecursion (λ slot. slot < length nodes) slots → slot < length nodes
      → entries_of (set nodes slot node) (without slot slots ++ slot ∷ []) ≡ without_slot slot (entries_of nodes slots) ++ entry_of slot node ∷ []
  entries_touched nodes slot slots node placed within =
      entries_join (set nodes slot node) (without slot slots) (slot ∷ [])
      ∙ ap (λ entries. entries ++ entries_of (set nodes slot node) (slot ∷ []))
      (entries_same nodes (set nodes slot node) (without slot slots) (λ other there. node_set_other nodes slot other node (among_without slot other slots there).1)
      ∙ sym (entries_without nodes slot slots placed))
      ∙ ap (λ entries. without_slot slot (entries_of nodes slots) ++ entries) (entries_first (set nodes slot node) slot [] node (node_set nodes slot node within))

  pub slots_back : (nodes : List (Node T)) (slots : List ℕ) → AllByRecursion (λ slot. slot < length nodes) slots → slots_of (entries_of nodes slots) ≡ slots
  slots_back nodes [] placed = refl
  slots_back nodes (slot ∷ slots) placed =
      let found = node_at nodes slot placed.0 in
      ap slots_of (entries_first nodes slot slots found.0 found.1) ∙ ap (λ others. slot ∷ others) (slots_back nodes slots placed.1)

  pub entries_counted : (nodes : List (Node T)) (slots : List ℕ) → AllByRecursion (λ slot. slot < length nodes) slots → length (entries_of nodes slots) ≡ length slots
  entries_counted nodes [] placed = refl
  entries_counted nodes (slot ∷ slots) placed =
      let found = node_at nodes slot placed.0 in
      ap length (entries_first nodes slot slots found.0 found.1) ∙ ap suc (entries_counted nodes slots placed.1)

  pub item_is : (nodes : List (Node T)) (slot : ℕ) (slots : List ℕ) (node : Node T) → AllByRecursion (λ slot. slot < length nodes) slots → IsAmong slot slots
      → slice_get nodes slot ≡ Some node → item_at slot (entries_of nodes slots) ≡ Some node.item
  item_is nodes slot [] node placed there is = absurd there
  item_is nodes slot (first ∷ rest) node placed there is =
      let found = node_at nodes first placed.0 in
      ap (item_at slot) (entries_first nodes first rest found.0 found.1)
      ∙ elim (cases_eq first slot) [
        | inl same ↦
            ap (option_map (λ (entry : Entry T). entry.item)) (cond-true _ _ _ (eq-eqb first slot same))
            ∙ ap (option_map (λ (node : Node T). node.item)) (sym found.1 ∙ ap (slice_get nodes) same ∙ is)
        | inr differs ↦
            ap (option_map (λ (entry : Entry T). entry.item)) (cond-false _ _ _ (ne_eqb first slot differs))
            ∙ item_is nodes slot rest node placed.1 (elim there [ inl here ↦ absurd (differs here) | inr later ↦ later ]) is
      ]

  -- ---- versions

  all_join : (P : Entry T → Type 0) (entries : List (Entry T)) (last : Entry T) → AllByRecursion P entries → P last → AllByRecursion P (entries ++ last ∷ [])
  all_join P [] last all is = (is, tt)
  all_join P (first ∷ rest) last all is = (all.0, all_join P rest last all.1 is)

  pub ascending_last : (entries : List (Entry T)) (last : Entry T) → AreAscending entries → IsAbove last.version entries → AreAscending (entries ++ last ∷ [])
  ascending_last [] last ascending above = (tt, tt)
  ascending_last (first ∷ rest) last ascending above = (
    all_join (λ entry. first.version < entry.version) rest last ascending.0 above.0,
    ascending_last rest last ascending.1 above.1,
  )

  left_or_not : (P : Entry T → Type 0) (is : Bool) (first : Entry T) (rest : List (Entry T)) → P first → AllByRecursion P rest → AllByRecursion P (cond is (first ∷ rest) rest)
  left_or_not P true first rest holds all = (holds, all)
  left_or_not P false first rest holds all = all

  pub all_left : (P : Entry T → Type 0) (test : Entry T → Bool) (entries : List (Entry T)) → AllByRecursion P entries → AllByRecursion P (filter test entries)
  all_left P test [] all = tt
  all_left P test (first ∷ rest) all = left_or_not P (test first) first (filter test rest) all.0 (all_left P test rest all.1)

  ascending_or_not : (is : Bool) (first : Entry T) (rest : List (Entry T)) → AllByRecursion (λ entry. first.version < entry.version) rest → AreAscending rest → AreAscending (cond is (first ∷ rest) rest)
  ascending_or_not true first rest below ascending = (below, ascending)
  ascending_or_not false first rest below ascending = ascending

  pub ascending_left : (test : Entry T → Bool) (entries : List (Entry T)) → AreAscending entries → AreAscending (filter test entries)
  ascending_left test [] ascending = tt
  ascending_left test (first ∷ rest) ascending =
      ascending_or_not (test first) first (filter test rest) (all_left (λ entry. first.version < entry.version) test rest ascending.0) (ascending_left test rest ascending.1)

  -- ---- the order after a change

  pub length_set : (nodes : List (Node T)) (slot : ℕ) (node : Node T) → length (set nodes slot node) ≡ length nodes
  length_set [] slot node = refl
  length_set (first ∷ nodes) zero node = refl
  length_set (first ∷ nodes) (suc slot) node = ap suc (length_set nodes slot node)

  pub not_placed : (nodes : List (Node T)) (slots : List ℕ) → AllByRecursion (λ slot. slot < length nodes) slots → ¬ IsAmong (length nodes) slots
  not_placed nodes slots placed found =
      let below : length nodes < length nodes = at_among (λ slot. slot < length nodes) (length nodes) slots placed found in omega (arith, below)

  pub ordered_added : (nodes : List (Node T)) (slots : List ℕ) (node : Node T) → AreOrdered nodes slots → IsAbove node.version (entries_of nodes slots)
      → AreOrdered (nodes ++ node ∷ []) (slots ++ length nodes ∷ [])
  ordered_added nodes slots node ordered above =
      let long : length (nodes ++ node ∷ []) ≡ length nodes + 1 = length-append nodes (node ∷ []) in
      record {
        ascending = subst AreAscending (sym (entries_added nodes slots node ordered.placed))
            (ascending_last (entries_of nodes slots) (entry_of (length nodes) node) ordered.ascending above);
        apart = apart_last (length nodes) slots ordered.apart (not_placed nodes slots ordered.placed);
        placed = subst (λ limit. AllByRecursion (λ slot. slot < limit) (slots ++ length nodes ∷ [])) (sym long)
            (all_last (λ slot. slot < length nodes + 1) (length nodes) slots (weaker (length nodes) slots ordered.placed) (omega arith));
        complete = λ slot within. elim (cases_eq slot (length nodes)) [
          | inl same ↦ subst (λ other. IsAmong other (slots ++ length nodes ∷ [])) (sym same) (among_end (length nodes) slots)
          | inr differs ↦ among_push (length nodes) slot slots (ordered.complete slot (omega (arith, within, long, differs)))
        ];
        counted = omega (arith, length-append slots (length nodes ∷ []), ordered.counted, long);
      }

  pub ordered_touched : (nodes : List (Node T)) (slot : ℕ) (slots : List ℕ) (node : Node T) → AreOrdered nodes slots → slot < length nodes → IsAbove node.version (entries_of nodes slots)
      → AreOrdered (set nodes slot node) (without slot slots ++ slot ∷ [])
  ordered_touched nodes slot slots node ordered within above =
      let long : length (set nodes slot node) ≡ length nodes = length_set nodes slot node in
      record {
        ascending = subst AreAscending (sym (entries_touched nodes slot slots node ordered.placed within))
            (ascending_last (without_slot slot (entries_of nodes slots)) (entry_of slot node)
            (ascending_left _ (entries_of nodes slots) ordered.ascending)
            (all_left (λ entry. entry.version < node.version) _ (entries_of nodes slots) above));
        apart = apart_last slot (without slot slots) (apart_without slot slots ordered.apart) (λ found. (among_without slot slot slots found).1 refl);
        placed = subst (λ limit. AllByRecursion (λ other. other < limit) (without slot slots ++ slot ∷ [])) (sym long)
            (all_last (λ other. other < length nodes) slot (without slot slots) (all_without (λ other. other < length nodes) slot slots ordered.placed) within);
        complete = λ other below. elim (cases_eq other slot) [
          | inl same ↦ subst (λ number. IsAmong number (without slot slots ++ slot ∷ [])) (sym same) (among_end slot (without slot slots))
          | inr differs ↦ among_push slot other (without slot slots) (among_kept slot other slots (ordered.complete other (omega (arith, below, long))) differs)
        ];
        counted = omega (arith, length-append (without slot slots) (slot ∷ []), length_without slot slots ordered.apart (ordered.complete slot within), ordered.counted, long);
      }

  -- a slot of an entry is one of the nodes'
  pub slot_within : (nodes : List (Node T)) (slots : List ℕ) (slot : ℕ) → AreOrdered nodes slots → slot < length (entries_of nodes slots) → slot < length nodes
  slot_within nodes slots slot ordered within = omega (arith, within, entries_counted nodes slots ordered.placed, ordered.counted)

  -- ---- what a caller sees

  entries_placed : (limit : ℕ) (nodes : List (Node T)) (slots : List ℕ) → AllByRecursion (λ slot. slot < length nodes) slots → AllByRecursion (λ slot. slot < limit) slots
      → AllByRecursion (λ entry. entry.slot < limit) (entries_of nodes slots)
  entries_placed limit nodes [] placed all = tt
  entries_placed limit nodes (slot ∷ slots) placed all =
      let found = node_at nodes slot placed.0 in
      subst (AllByRecursion (λ entry. entry.slot < limit)) (sym (entries_first nodes slot slots found.0 found.1))
      (all.0, entries_placed limit nodes slots placed.1 all.1)

  pub are_slots : (nodes : List (Node T)) (slots : List ℕ) → AreOrdered nodes slots → AreSlots (entries_of nodes slots)
  are_slots nodes slots ordered =
      let same = slots_back nodes slots ordered.placed in
      let long : length (entries_of nodes slots) ≡ length nodes = entries_counted nodes slots ordered.placed ∙ ordered.counted in
      record {
        apart = subst AreApart (sym same) ordered.apart;
        placed = entries_placed (length (entries_of nodes slots)) nodes slots ordered.placed
            (subst (λ limit. AllByRecursion (λ slot. slot < limit) slots) (sym long) ordered.placed);
        complete = λ slot within. subst (IsAmong slot) (sym same) (ordered.complete slot (omega (arith, within, long)));
      }
