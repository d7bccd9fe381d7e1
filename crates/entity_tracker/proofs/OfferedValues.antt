-- The offered values of a key stay in order.
use Rattle.std.proofs.Common.{◌≡◌, ℕ, zero, suc, ◌+◌, ◌-◌, ◌<◌, ◌≤◌, arith, Bool, true, false, List, [], ◌∷◌, ◌++◌, length, drop, refl, sym, subst}
use Rattle.std.specs.Prelude.{◌||◌, ◌==◌, Result, Ok, Err, OnOk, OnErr}
use Rattle.std.specs.List.{AllByRecursion}
use Rattle.std.proofs.lemmas.Bool.Decides.{nat_tests}
use Rattle.std.proofs.lemmas.List.{length-append, length-drop}
use Rattle.sync_model.specs.declared.state.Offered.{Offered}
use Rattle.sync_model.specs.KeyStates.{is_offered}
use Rattle.entity_tracker.specs.Offers.{Ascend, IsOfferedBy}

-- nothing was offered
pub none_offered : (last : ℕ) (pairs : List Offered) → pairs ≡ [] → IsOfferedBy last pairs
none_offered last pairs none =
    subst (IsOfferedBy last) (sym none) (record { ascend = tt; few = omega arith; made = tt })

made_later : (last more : ℕ) (pairs : List Offered) → last ≤ more
    → AllByRecursion (λ (pair : Offered). pair.number ≤ last) pairs → AllByRecursion (λ (pair : Offered). pair.number ≤ more) pairs
made_later last more [] less made = tt
made_later last more (pair ∷ pairs) less made = (omega (arith, made.0, less), made_later last more pairs less made.1)

-- what was offered by edits up to one was offered by edits up to a later one
pub offered_later : (last more : ℕ) (pairs : List Offered) → last ≤ more → IsOfferedBy last pairs → IsOfferedBy more pairs
offered_later last more pairs less is = record { ascend = is.ascend; few = is.few; made = made_later last more pairs less is.made }

other_is : (a b : Bool) → (a || b) ≡ false → b ≡ false
other_is true b none = cc
other_is false b none = none

this_is : (a b : Bool) → (a || b) ≡ false → a ≡ false
this_is true b none = cc
this_is false b none = refl

differs : (a b : ℕ) → (a == b) ≡ false → a ≤ b → a < b
differs a b other le = grind (arith, nat_tests)

above_all : (bound : ℕ) (pairs : List Offered) (pair : Offered) → AllByRecursion (λ (later : Offered). bound < later.number) pairs → bound < pair.number
    → AllByRecursion (λ (later : Offered). bound < later.number) (pairs ++ pair ∷ [])
above_all bound [] pair all above = (above, tt)
above_all bound (next ∷ pairs) pair all above = (all.0, above_all bound pairs pair all.1 above)

ascend_more : (pairs : List Offered) (pair : Offered) → is_offered pairs pair.number ≡ false
    → AllByRecursion (λ (made : Offered). made.number ≤ pair.number) pairs → Ascend pairs → Ascend (pairs ++ pair ∷ [])
ascend_more [] pair new made ascend = (tt, tt)
ascend_more (next ∷ pairs) pair new made ascend = (
  above_all next.number pairs pair ascend.0
      (differs next.number pair.number (this_is (next.number == pair.number) (is_offered pairs pair.number) new) made.0),
  ascend_more pairs pair (other_is (next.number == pair.number) (is_offered pairs pair.number) new) made.1 ascend.1,
)

made_more : (pairs : List Offered) (pair : Offered) → AllByRecursion (λ (made : Offered). made.number ≤ pair.number) pairs
    → AllByRecursion (λ (made : Offered). made.number ≤ pair.number) (pairs ++ pair ∷ [])
made_more [] pair made = (omega arith, tt)
made_more (next ∷ pairs) pair made = (made.0, made_more pairs pair made.1)

ascend_drop : (count : ℕ) (pairs : List Offered) → Ascend pairs → Ascend (drop count pairs)
ascend_drop zero pairs ascend = ascend
ascend_drop (suc count) [] ascend = tt
ascend_drop (suc count) (pair ∷ pairs) ascend = ascend_drop count pairs ascend.1

made_drop : (last count : ℕ) (pairs : List Offered) → AllByRecursion (λ (made : Offered). made.number ≤ last) pairs
    → AllByRecursion (λ (made : Offered). made.number ≤ last) (drop count pairs)
made_drop last zero pairs made = made
made_drop last (suc count) [] made = tt
made_drop last (suc count) (pair ∷ pairs) made = made_drop last count pairs made.1

few_drop : (pairs : List Offered) (pair : Offered) → length (drop (length pairs + 1 - 8) (pairs ++ pair ∷ [])) ≤ 8
few_drop pairs pair =
    omega (arith, length-drop (length pairs + 1 - 8) (pairs ++ pair ∷ []), length-append pairs (pair ∷ []))

-- a further value is offered, by a later edit than those of the others
pub offered_more : (pairs : List Offered) (pair : Offered) → is_offered pairs pair.number ≡ false → IsOfferedBy pair.number pairs
    → IsOfferedBy pair.number (drop (length pairs + 1 - 8) (pairs ++ pair ∷ []))
offered_more pairs pair new is = record {
  ascend = ascend_drop (length pairs + 1 - 8) (pairs ++ pair ∷ []) (ascend_more pairs pair new is.made is.ascend);
  few = few_drop pairs pair;
  made = made_drop pair.number (length pairs + 1 - 8) (pairs ++ pair ∷ []) (made_more pairs pair is.made);
}

-- and the same where the call that adds it may want memory
pub offered_if_room : {A E : Type 0} (result : Result A E) (pairs new : List Offered) (pair : Offered)
    → is_offered pairs pair.number ≡ false → IsOfferedBy pair.number pairs
    → OnOk result (new ≡ drop (length pairs + 1 - 8) (pairs ++ pair ∷ [])) → OnErr result (new ≡ pairs)
    → IsOfferedBy pair.number new
offered_if_room (Ok done) pairs new pair other is ok err = subst (IsOfferedBy pair.number) (sym ok) (offered_more pairs pair other is)
offered_if_room (Err fault) pairs new pair other is ok err = subst (IsOfferedBy pair.number) (sym err) is
