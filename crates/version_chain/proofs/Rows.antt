-- What a row of linked slots is after each change.
use Rattle.std.proofs.Common.{◌≡◌, ◌≢◌, ◌⊎◌, ℕ, zero, suc, ◌<◌, ◌≤◌, List, [], ◌∷◌, ◌++◌, length, Option, Some, None, refl, sym, ap, ◌∙◌, subst, inl, inr, arith, length-append, Bool, true, false, cond, take, replicate, ◌-◌, get_or}
use Rattle.std.specs.List.{AllByRecursion}
use Rattle.std.proofs.lemmas.Bool.{cases_eq}
use Rattle.std.proofs.lemmas.List.{take_all}
use Rattle.std.proofs.lemmas.Option.{none-some, same_Some}
use Rattle.version_chain.specs.Slots.{IsAmong, AreApart, without}
use Rattle.version_chain.specs.declared.links.Link.{Link}
use Rattle.version_chain.specs.Links.{no_link, next_of, previous_of, IsPlace, AreKept, Skips, Appends, walk, slots_of, AreLinked, IsRow}
use Rattle.version_chain.proofs.Chains.{without_first, without_other, among_without, apart_without, length_without, apart_last, IsFrom, off_none, walk_chain, last_on, previous_on, next_on, chain_kept, chain_skip, chain_append}

-- a slot is one of these, or is not
among_or_not : (slot : ℕ) (slots : List ℕ) → IsAmong slot slots ⊎ (¬ IsAmong slot slots)
among_or_not slot [] = inr (λ nowhere. nowhere)
among_or_not slot (first ∷ rest) =
    elim (cases_eq first slot) [
      | inl same ↦ inl (inl same)
      | inr differs ↦
          elim (among_or_not slot rest) [
            | inl there ↦ inl (inr there)
            | inr absent ↦ inr (λ found. elim found [ inl here ↦ differs here | inr there ↦ absent there ])
          ]
    ]

pub all_without : (P : ℕ → Type 0) (slot : ℕ) (slots : List ℕ) → AllByRecursion P slots → AllByRecursion P (without slot slots)
all_without P slot [] all = tt
all_without P slot (first ∷ rest) all =
    elim (cases_eq first slot) [
      | inl same ↦ subst (AllByRecursion P) (sym (without_first slot first rest same)) (all_without P slot rest all.1)
      | inr differs ↦ subst (AllByRecursion P) (sym (without_other slot first rest differs)) (all.0, all_without P slot rest all.1)
    ]

pub all_last : (P : ℕ → Type 0) (slot : ℕ) (slots : List ℕ) → AllByRecursion P slots → P slot → AllByRecursion P (slots ++ slot ∷ [])
all_last P slot [] all is = (is, tt)
all_last P slot (first ∷ rest) all is = (all.0, all_last P slot rest all.1 is)

-- what holds of all slots holds of one of them
pub at_among : (P : ℕ → Type 0) (slot : ℕ) (slots : List ℕ) → AllByRecursion P slots → IsAmong slot slots → P slot
at_among P slot [] all found = absurd found
at_among P slot (first ∷ rest) all found =
    elim found [ inl here ↦ subst P here all.0 | inr there ↦ at_among P slot rest all.1 there ]

-- a slot that is there stays, where another one leaves, and where another one joins
pub among_kept : (slot other : ℕ) (slots : List ℕ) → IsAmong other slots → other ≢ slot → IsAmong other (without slot slots)
among_kept slot other [] found differs = absurd found
among_kept slot other (first ∷ rest) found differs =
    elim (cases_eq first slot) [
      | inl same ↦
          subst (IsAmong other) (sym (without_first slot first rest same))
          (elim found [ inl here ↦ absurd (differs (sym here ∙ same)) | inr there ↦ among_kept slot other rest there differs ])
      | inr apart ↦
          subst (IsAmong other) (sym (without_other slot first rest apart))
          (elim found [ inl here ↦ inl here | inr there ↦ inr (among_kept slot other rest there differs) ])
    ]

pub among_push : (slot other : ℕ) (slots : List ℕ) → IsAmong other slots → IsAmong other (slots ++ slot ∷ [])
among_push slot other [] found = absurd found
among_push slot other (first ∷ rest) found =
    elim found [ inl here ↦ inl here | inr there ↦ inr (among_push slot other rest there) ]

pub among_end : (slot : ℕ) (slots : List ℕ) → IsAmong slot (slots ++ slot ∷ [])
among_end slot [] = inl refl
among_end slot (first ∷ rest) = inr (among_end slot rest)

below_others : (limit : ℕ) (slots : List ℕ) → AllByRecursion (λ slot. slot < suc limit) slots → ¬ IsAmong limit slots → AllByRecursion (λ slot. slot < limit) slots
below_others limit [] all absent = tt
below_others limit (first ∷ rest) all absent =
    let other : first ≢ limit = λ same. absent (inl same) in
    (omega (arith, all.0, other), below_others limit rest all.1 (λ there. absent (inr there)))

below_without : (limit : ℕ) (slots : List ℕ) → AllByRecursion (λ slot. slot < suc limit) slots → AllByRecursion (λ slot. slot < limit) (without limit slots)
below_without limit slots all =
    below_others limit (without limit slots) (all_without (λ slot. slot < suc limit) limit slots all)
    (λ found. (among_without limit limit slots found).1 refl)

-- there are no more slots than numbers for them
pub few_slots : (limit : ℕ) (slots : List ℕ) → AreApart slots → AllByRecursion (λ slot. slot < limit) slots → length slots ≤ limit
few_slots zero [] apart all = omega arith
few_slots zero (first ∷ rest) apart all = absurd (omega (arith, all.0))
few_slots (suc limit) slots apart all =
    elim (among_or_not limit slots) [
      | inl found ↦
          let fewer = few_slots limit (without limit slots) (apart_without limit slots apart) (below_without limit slots all) in
          omega (arith, fewer, length_without limit slots apart found)
      | inr absent ↦ let fewer = few_slots limit slots apart (below_others limit slots all absent) in omega (arith, fewer)
    ]

-- there is room for one more, since it is none of the others
pub few_others : (limit slot : ℕ) (slots : List ℕ) → AreApart slots → AllByRecursion (λ other. other < limit) slots → slot < limit → ¬ IsAmong slot slots
    → length slots < limit
few_others limit slot slots apart all within absent =
    let more = few_slots limit (slots ++ slot ∷ []) (apart_last slot slots apart absent) (all_last (λ other. other < limit) slot slots all within) in
    omega (arith, more, length-append slots (slot ∷ []))

-- slots that are linked are the row's
pub row_is : (links : List Link) (ends : Link) (len : ℕ) (slots : List ℕ) → AreLinked links ends slots → length slots ≡ len → slots_of links ends len ≡ slots
row_is links ends len slots linked counted =
    ap (λ (count : ℕ). walk (next_of links ends) count None) (sym counted) ∙ walk_chain (next_of links ends) (previous_of links ends) None slots linked.chained

pub is_row : (links : List Link) (ends : Link) (len : ℕ) (slots : List ℕ) → AreLinked links ends slots → length slots ≡ len → IsRow links ends len
is_row links ends len slots linked counted =
    let same = row_is links ends len slots linked counted in
    record { linked = subst (AreLinked links ends) (sym same) linked; counted = ap length same ∙ counted }

-- a place on a chain of linked slots has a link
placed_from : (links : List Link) (slots : List ℕ) (place : Option ℕ) → AllByRecursion (λ slot. slot < length links) slots → IsFrom None slots place → IsPlace links place
placed_from links slots place placed on =
    elim on [
      | inl end ↦ subst (IsPlace links) (sym end) tt
      | inr found ↦ subst (IsPlace links) (sym found.2) (at_among (λ slot. slot < length links) found.0 slots placed found.1)
    ]

module _ (links : List Link) (ends : Link) (slots : List ℕ) (linked : AreLinked links ends slots) where
  pub last_placed : IsPlace links (previous_of links ends None)
  last_placed =
      placed_from links slots (previous_of links ends None) linked.placed
      (last_on (next_of links ends) (previous_of links ends) None slots linked.chained)

  pub previous_placed : (slot : ℕ) → IsAmong slot slots → IsPlace links (previous_of links ends (Some slot))
  previous_placed slot found =
      placed_from links slots (previous_of links ends (Some slot)) linked.placed
      (previous_on (next_of links ends) (previous_of links ends) None slots slot linked.chained found)

  pub next_placed : (slot : ℕ) → IsAmong slot slots → IsPlace links (next_of links ends (Some slot))
  next_placed slot found =
      placed_from links slots (next_of links ends (Some slot)) linked.placed
      (next_on (next_of links ends) (previous_of links ends) None slots slot linked.chained found)

  -- the last slot is another one than one that is not there
  pub last_differs : (slot : ℕ) → ¬ IsAmong slot slots → previous_of links ends None ≢ Some slot
  last_differs slot absent same =
      elim (last_on (next_of links ends) (previous_of links ends) None slots linked.chained) [
        | inl end ↦ none-some slot (sym end ∙ same)
        | inr found ↦ absent (subst (λ other. IsAmong other slots) (same_Some found.0 slot (sym found.2 ∙ same)) found.1)
      ]

  module _ (links' : List Link) (ends' : Link) where
    -- links that lead where they led, of more slots
    pub linked_kept : AreKept (next_of links ends) (next_of links' ends') → AreKept (previous_of links ends) (previous_of links' ends')
        → length links ≤ length links' → AreLinked links' ends' slots
    linked_kept nexts previouses grown = record {
      chained = chain_kept (next_of links ends) (previous_of links ends) (next_of links' ends') (previous_of links' ends') None slots linked.chained
          (λ place _. nexts place) (λ place _. previouses place);
      apart = linked.apart;
      placed = all_weaker slots linked.placed;
    }
      where
        all_weaker : (others : List ℕ) → AllByRecursion (λ slot. slot < length links) others → AllByRecursion (λ slot. slot < length links') others
        all_weaker [] all = tt
        all_weaker (first ∷ rest) all = (omega (arith, all.0, grown), all_weaker rest all.1)

    pub linked_append : (slot : ℕ) → slot < length links → ¬ IsAmong slot slots → length links' ≡ length links
        → Appends (next_of links ends) (previous_of links ends) (next_of links' ends') (previous_of links' ends') slot
        → AreLinked links' ends' (slots ++ slot ∷ [])
    linked_append slot within absent long appends = record {
      chained = chain_append (next_of links ends) (previous_of links ends) (next_of links' ends') (previous_of links' ends') None slots slot
          linked.chained linked.apart (off_none slots) absent (λ same. none-some slot same) appends;
      apart = apart_last slot slots linked.apart absent;
      placed = subst (λ limit. AllByRecursion (λ other. other < limit) (slots ++ slot ∷ [])) (sym long)
          (all_last (λ other. other < length links) slot slots linked.placed within);
    }

    pub linked_skip : (slot : ℕ) → IsAmong slot slots → length links' ≡ length links
        → Skips (next_of links ends) (previous_of links ends) (next_of links' ends') (previous_of links' ends') slot
        → AreLinked links' ends' (without slot slots)
    linked_skip slot found long skips = record {
      chained = chain_skip (next_of links ends) (previous_of links ends) (next_of links' ends') (previous_of links' ends') None slots slot
          linked.chained linked.apart (off_none slots) found skips;
      apart = apart_without slot slots linked.apart;
      placed = subst (λ limit. AllByRecursion (λ other. other < limit) (without slot slots)) (sym long)
          (all_without (λ other. other < length links) slot slots linked.placed);
    }

no_link_at : (count slot : ℕ) → get_or (replicate count no_link) slot no_link ≡ no_link
no_link_at zero zero = refl
no_link_at zero (suc slot) = refl
no_link_at (suc count) zero = refl
no_link_at (suc count) (suc slot) = no_link_at count slot

added_links : (links : List Link) (count slot : ℕ) → get_or (links ++ replicate count no_link) slot no_link ≡ get_or links slot no_link
added_links [] count zero = no_link_at count zero
added_links [] count (suc slot) = no_link_at count (suc slot)
added_links (link ∷ links) count zero = refl
added_links (link ∷ links) count (suc slot) = added_links links count slot

-- links that are added for slots without one
pub grown_links : (ok : Bool) (old new : List Link) (count len : ℕ) → count ≡ length old → length old ≤ len
    → new ≡ cond ok (take len old ++ replicate (len - count) no_link) old → (slot : ℕ) → get_or new slot no_link ≡ get_or old slot no_link
grown_links true old new count len counted below is slot =
    ap (λ (links : List Link). get_or links slot no_link) (is ∙ ap (λ (links : List Link). links ++ replicate (len - count) no_link) (take_all len old below))
    ∙ added_links old (len - count) slot
grown_links false old new count len counted below is slot = ap (λ (links : List Link). get_or links slot no_link) is

module _ (links links' : List Link) (ends : Link) (kept : (slot : ℕ) → get_or links' slot no_link ≡ get_or links slot no_link) where
  pub next_kept : AreKept (next_of links ends) (next_of links' ends)
  next_kept None = refl
  next_kept (Some slot) = ap (λ (link : Link). link.next) (kept slot)

  pub previous_kept : AreKept (previous_of links ends) (previous_of links' ends)
  previous_kept None = refl
  previous_kept (Some slot) = ap (λ (link : Link). link.previous) (kept slot)
