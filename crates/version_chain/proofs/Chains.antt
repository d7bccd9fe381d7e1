-- How a row of linked slots changes when one joins or leaves it.
use Rattle.std.proofs.Common.{◌≡◌, ◌≢◌, ◌⊎◌, ℕ, ◌+◌, List, [], ◌∷◌, ◌++◌, length, Option, Some, None, refl, sym, ap, ◌∙◌, subst, inl, inr, arith, eq-eqb, ne_eqb}
use Rattle.std.proofs.lemmas.Bool.{cases_eq, cond-true, cond-false, not_from_true, not_from_false}
use Rattle.std.proofs.lemmas.Option.{none-some, same_Some}
use Rattle.version_chain.specs.Slots.{IsAmong, AreApart, without, first_of, last_behind, after, before_from}
use Rattle.version_chain.specs.Links.{Joins, AreKept, Skips, Appends, walk, IsChain}

-- ---- lists of slots

pub without_first : (slot first : ℕ) (rest : List ℕ) → first ≡ slot → without slot (first ∷ rest) ≡ without slot rest
without_first slot first rest same = cond-false _ _ _ (not_from_true _ (eq-eqb first slot same))

pub without_other : (slot first : ℕ) (rest : List ℕ) → first ≢ slot → without slot (first ∷ rest) ≡ first ∷ without slot rest
without_other slot first rest other = cond-true _ _ _ (not_from_false _ (ne_eqb first slot other))

pub without_absent : (slot : ℕ) (slots : List ℕ) → ¬ IsAmong slot slots → without slot slots ≡ slots
without_absent slot [] absent = refl
without_absent slot (first ∷ rest) absent =
    without_other slot first rest (λ same. absent (inl same))
    ∙ ap (λ slots. first ∷ slots) (without_absent slot rest (λ found. absent (inr found)))

-- a slot that comes first leaves those behind it
pub without_head : (slot first : ℕ) (rest : List ℕ) → first ≡ slot → ¬ IsAmong first rest → without slot (first ∷ rest) ≡ rest
without_head slot first rest same apart =
    without_first slot first rest same
    ∙ without_absent slot rest (λ there. apart (subst (λ other. IsAmong other rest) (sym same) there))

pub among_without : (slot other : ℕ) (slots : List ℕ) → IsAmong other (without slot slots) → IsAmong other slots × (other ≢ slot)
among_without slot other [] found = absurd found
among_without slot other (first ∷ rest) found =
    elim (cases_eq first slot) [
      | inl same ↦
          let later = among_without slot other rest (subst (IsAmong other) (without_first slot first rest same) found) in
          (inr later.0, later.1)
      | inr differs ↦
          elim (subst (IsAmong other) (without_other slot first rest differs) found) [
            | inl here ↦ (inl here, λ same. differs (here ∙ same))
            | inr there ↦ let later = among_without slot other rest there in (inr later.0, later.1)
          ]
    ]

pub apart_without : (slot : ℕ) (slots : List ℕ) → AreApart slots → AreApart (without slot slots)
apart_without slot [] apart = tt
apart_without slot (first ∷ rest) apart =
    elim (cases_eq first slot) [
      | inl same ↦ subst AreApart (sym (without_first slot first rest same)) (apart_without slot rest apart.1)
      | inr differs ↦
          subst AreApart (sym (without_other slot first rest differs))
          (λ found. apart.0 (among_without slot first rest found).0, apart_without slot rest apart.1)
    ]

pub length_without : (slot : ℕ) (slots : List ℕ) → AreApart slots → IsAmong slot slots → length (without slot slots) + 1 ≡ length slots
length_without slot [] apart found = absurd found
length_without slot (first ∷ rest) apart found =
    elim (cases_eq first slot) [
      | inl same ↦ omega (arith, ap length (without_head slot first rest same apart.0))
      | inr differs ↦
          elim found [
            | inl here ↦ absurd (differs here)
            | inr there ↦ omega (arith, ap length (without_other slot first rest differs), length_without slot rest apart.1 there)
          ]
    ]

among_last : (slot other : ℕ) (slots : List ℕ) → IsAmong other (slots ++ slot ∷ []) → IsAmong other slots ⊎ (slot ≡ other)
among_last slot other [] found = elim found [ inl here ↦ inr here | inr nowhere ↦ absurd nowhere ]
among_last slot other (first ∷ rest) found =
    elim found [
      | inl here ↦ inl (inl here)
      | inr there ↦ elim (among_last slot other rest there) [ inl old ↦ inl (inr old) | inr new ↦ inr new ]
    ]

pub apart_last : (slot : ℕ) (slots : List ℕ) → AreApart slots → ¬ IsAmong slot slots → AreApart (slots ++ slot ∷ [])
apart_last slot [] apart absent = (λ nowhere. nowhere, tt)
apart_last slot (first ∷ rest) apart absent = (
  λ found. elim (among_last slot first rest found) [ inl old ↦ apart.0 old | inr new ↦ absent (inl (sym new)) ],
  apart_last slot rest apart.1 (λ there. absent (inr there)),
)

-- ---- places on a chain

-- the place is the one that the chain begins behind, or one of its slots
abbrev pub IsFrom : Option ℕ → List ℕ → Option ℕ → Type 0
IsFrom at slots place = (place ≡ at) ⊎ ((slot : ℕ) × IsAmong slot slots × (place ≡ Some slot))

-- the place is none of these slots
abbrev pub IsOff : List ℕ → Option ℕ → Type 0
IsOff slots place = (slot : ℕ) → IsAmong slot slots → place ≢ Some slot

from_cons : (at : Option ℕ) (first : ℕ) (rest : List ℕ) (place : Option ℕ) → IsFrom (Some first) rest place → IsFrom at (first ∷ rest) place
from_cons at first rest place on =
    elim on [ inl here ↦ inr (first, inl refl, here) | inr there ↦ inr (there.0, inr there.1, there.2) ]

from_more : (at : Option ℕ) (first : ℕ) (rest : List ℕ) (place : Option ℕ) → IsFrom at rest place → IsFrom at (first ∷ rest) place
from_more at first rest place on =
    elim on [ inl here ↦ inl here | inr there ↦ inr (there.0, inr there.1, there.2) ]

-- a place that is another one and off the slots is not on the chain
off_not_from : (at : Option ℕ) (slots : List ℕ) (place on : Option ℕ) → place ≢ at → IsOff slots place → IsFrom at slots on → on ≢ place
off_not_from at slots place on other off found same =
    elim found [ inl here ↦ other (sym same ∙ here) | inr there ↦ off there.0 there.1 (sym same ∙ there.2) ]

off_head : (first : ℕ) (rest : List ℕ) → ¬ IsAmong first rest → IsOff rest (Some first)
off_head first rest absent slot found same = absent (subst (λ other. IsAmong other rest) (sym (same_Some first slot same)) found)

pub off_none : (slots : List ℕ) → IsOff slots None
off_none slots slot found same = none-some slot same

off_rest : (first : ℕ) (rest : List ℕ) (place : Option ℕ) → IsOff (first ∷ rest) place → IsOff rest place
off_rest first rest place off slot found = off slot (inr found)

module _ (next previous : Option ℕ → Option ℕ) where
  pub walk_chain : (at : Option ℕ) (slots : List ℕ) → IsChain next previous at slots → walk next (length slots) at ≡ slots
  walk_chain at [] chain = refl
  walk_chain at (first ∷ rest) chain = rw chain.0 (ap (λ slots. first ∷ slots) (walk_chain (Some first) rest chain.2))

  pub first_is : (at : Option ℕ) (slots : List ℕ) → IsChain next previous at slots → next at ≡ first_of slots
  first_is at [] chain = chain.0
  first_is at (first ∷ rest) chain = chain.0

  pub last_is : (at : Option ℕ) (slots : List ℕ) → IsChain next previous at slots → previous None ≡ last_behind at slots
  last_is at [] chain = chain.1
  last_is at (first ∷ rest) chain = last_is (Some first) rest chain.2

  pub after_is : (at : Option ℕ) (slot : ℕ) (slots : List ℕ) → IsChain next previous at slots → IsAmong slot slots → next (Some slot) ≡ after slot slots
  after_is at slot [] chain found = absurd found
  after_is at slot (first ∷ rest) chain found =
      elim (cases_eq first slot) [
        | inl same ↦
            ap (λ other. next (Some other)) (sym same) ∙ first_is (Some first) rest chain.2
            ∙ sym (cond-true _ _ _ (eq-eqb first slot same))
        | inr differs ↦
            after_is (Some first) slot rest chain.2 (elim found [ inl here ↦ absurd (differs here) | inr there ↦ there ])
            ∙ sym (cond-false _ _ _ (ne_eqb first slot differs))
      ]

  pub before_is : (at : Option ℕ) (slot : ℕ) (slots : List ℕ) → IsChain next previous at slots → IsAmong slot slots → previous (Some slot) ≡ before_from at slot slots
  before_is at slot [] chain found = absurd found
  before_is at slot (first ∷ rest) chain found =
      elim (cases_eq first slot) [
        | inl same ↦
            ap (λ other. previous (Some other)) (sym same) ∙ chain.1
            ∙ sym (cond-true _ _ _ (eq-eqb first slot same))
        | inr differs ↦
            before_is (Some first) slot rest chain.2 (elim found [ inl here ↦ absurd (differs here) | inr there ↦ there ])
            ∙ sym (cond-false _ _ _ (ne_eqb first slot differs))
      ]

  pub last_on : (at : Option ℕ) (slots : List ℕ) → IsChain next previous at slots → IsFrom at slots (previous None)
  last_on at [] chain = inl chain.1
  last_on at (first ∷ rest) chain = from_cons at first rest _ (last_on (Some first) rest chain.2)

  pub previous_on : (at : Option ℕ) (slots : List ℕ) (slot : ℕ) → IsChain next previous at slots → IsAmong slot slots → IsFrom at slots (previous (Some slot))
  previous_on at [] slot chain found = absurd found
  previous_on at (first ∷ rest) slot chain found =
      elim found [
        | inl here ↦ inl (ap (λ other. previous (Some other)) (sym here) ∙ chain.1)
        | inr there ↦ from_cons at first rest _ (previous_on (Some first) rest slot chain.2 there)
      ]

  next_first_on : (at : Option ℕ) (slots : List ℕ) → IsChain next previous at slots → IsFrom None slots (next at)
  next_first_on at [] chain = inl chain.0
  next_first_on at (first ∷ rest) chain = inr (first, inl refl, chain.0)

  pub next_on : (at : Option ℕ) (slots : List ℕ) (slot : ℕ) → IsChain next previous at slots → IsAmong slot slots → IsFrom None slots (next (Some slot))
  next_on at [] slot chain found = absurd found
  next_on at (first ∷ rest) slot chain found =
      from_more None first rest _
      (elim found [
        | inl here ↦ subst (λ other. IsFrom None rest (next (Some other))) here (next_first_on (Some first) rest chain.2)
        | inr there ↦ next_on (Some first) rest slot chain.2 there
      ])

module _ (next previous next' previous' : Option ℕ → Option ℕ) where
  -- a chain stays where its links stay
  pub chain_kept : (at : Option ℕ) (slots : List ℕ) → IsChain next previous at slots → ((place : Option ℕ) → IsFrom at slots place → next' place ≡ next place)
      → ((place : Option ℕ) → IsFrom None slots place → previous' place ≡ previous place) → IsChain next' previous' at slots
  chain_kept at [] chain nexts previouses = (nexts at (inl refl) ∙ chain.0, previouses None (inl refl) ∙ chain.1)
  chain_kept at (first ∷ rest) chain nexts previouses = (
    nexts at (inl refl) ∙ chain.0,
    previouses (Some first) (inr (first, inl refl, refl)) ∙ chain.1,
    chain_kept (Some first) rest chain.2
        (λ place on. nexts place (from_cons at first rest place on))
        (λ place on. previouses place (from_more None first rest place on)),
  )

  -- the first slot leaves, and the place before it leads to what followed it
  skip_first : (at : Option ℕ) (first : ℕ) (rest : List ℕ) → IsChain next previous (Some first) rest → AreApart rest → IsOff rest at
      → Joins next next' at (next (Some first)) → Joins previous previous' (next (Some first)) at → IsChain next' previous' at rest
  skip_first at first [] chain apart off nexts previouses =
      (nexts.here ∙ chain.0, ap previous' (sym chain.0) ∙ previouses.here)
  skip_first at first (second ∷ rest) chain apart off nexts previouses = (
    nexts.here ∙ chain.0,
    ap previous' (sym chain.0) ∙ previouses.here,
    chain_kept (Some second) rest chain.2
        (λ place on. nexts.others place (off_not_from (Some second) rest at place (off second (inl refl)) (off_rest second rest at off) on))
        (λ place on. previouses.others place (λ same.
        off_not_from None rest (Some second) place (λ end. none-some second (sym end)) (off_head second rest apart.0) on (same ∙ chain.0))),
  )

  -- a slot leaves, and its neighbours are joined
  pub chain_skip : (at : Option ℕ) (slots : List ℕ) (slot : ℕ) → IsChain next previous at slots → AreApart slots → IsOff slots at → IsAmong slot slots
      → Skips next previous next' previous' slot → IsChain next' previous' at (without slot slots)
  chain_skip at [] slot chain apart off found skips = absurd found
  chain_skip at (first ∷ rest) slot chain apart off found skips =
      elim (cases_eq first slot) [
        | inl same ↦
            subst (IsChain next' previous' at) (sym (without_head slot first rest same apart.0))
            (skip_first at first rest chain.2 apart.1 (off_rest first rest at off)
            (rw (← same, chain.1) at skips.nexts) (rw (← same, chain.1) at skips.previouses))
        | inr differs ↦
            let there : IsAmong slot rest = elim found [ inl here ↦ absurd (differs here) | inr later ↦ later ] in
            subst (IsChain next' previous' at) (sym (without_other slot first rest differs)) (
              skips.nexts.others at (λ same. off_not_from (Some first) rest at _ (off first (inl refl)) (off_rest first rest at off)
                  (previous_on next previous (Some first) rest slot chain.2 there) (sym same)) ∙ chain.0,
              skips.previouses.others (Some first) (λ same. off_not_from None rest (Some first) _ (λ end. none-some first (sym end)) (off_head first rest apart.0)
                  (next_on next previous (Some first) rest slot chain.2 there) (sym same)) ∙ chain.1,
              chain_skip (Some first) rest slot chain.2 apart.1 (off_head first rest apart.0) there skips,
            )
      ]

  -- a slot joins at the end
  pub chain_append : (at : Option ℕ) (slots : List ℕ) (slot : ℕ) → IsChain next previous at slots → AreApart slots → IsOff slots at → ¬ IsAmong slot slots → at ≢ Some slot
      → Appends next previous next' previous' slot → IsChain next' previous' at (slots ++ slot ∷ [])
  chain_append at [] slot chain apart off absent other appends =
      (ap next' (sym chain.1) ∙ appends.into, appends.back_out ∙ chain.1, (appends.out, appends.back_into))
  chain_append at (first ∷ rest) slot chain apart off absent other appends =
      let new : Some first ≢ Some slot = λ same. absent (inl (same_Some first slot same)) in (
        appends.nexts at (λ same. off_not_from (Some first) rest at _ (off first (inl refl)) (off_rest first rest at off)
            (last_on next previous (Some first) rest chain.2) (sym same)) other ∙ chain.0,
        appends.previouses (Some first) (λ end. none-some first (sym end)) new ∙ chain.1,
        chain_append (Some first) rest slot chain.2 apart.1 (off_head first rest apart.0) (λ later. absent (inr later)) new appends,
      )

-- a slot that is given a link, and to which the last one and the end lead, joins at the end
pub appends_by : (n n1 n2 n3 p p1 p2 p3 : Option ℕ → Option ℕ) (slot : ℕ) (last : Option ℕ) → last ≡ p None → last ≢ Some slot
    → Joins n n1 (Some slot) None → Joins p p1 (Some slot) last → Joins n1 n2 last (Some slot) → AreKept p1 p2 → AreKept n2 n3 → Joins p2 p3 None (Some slot)
    → Appends n p n3 p3 slot
appends_by n n1 n2 n3 p p1 p2 p3 slot last is_last other out back_out into kept kept_next back_into = record {
  into = kept_next (p None) ∙ ap n2 (sym is_last) ∙ into.here;
  out = kept_next (Some slot) ∙ into.others (Some slot) (λ same. other (sym same)) ∙ out.here;
  back_into = back_into.here;
  back_out = back_into.others (Some slot) (λ end. none-some slot (sym end)) ∙ kept (Some slot) ∙ back_out.here ∙ is_last;
  nexts = λ place not_last not_slot. kept_next place ∙ into.others place (λ same. not_last (same ∙ is_last)) ∙ out.others place not_slot;
  previouses = λ place not_end not_slot. back_into.others place not_end ∙ kept place ∙ back_out.others place not_slot;
}
