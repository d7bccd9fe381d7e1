-- Each atomic step keeps the rule of a desk's table.
use Rattle.std.proofs.Common.{◌≡◌, ◌≢◌, ◌⊎◌, ℕ, zero, suc, ◌+◌, ◌%◌, ◌^◌, ◌<◌, ◌≤◌, List, [], ◌∷◌, ◌++◌, length, set, Option, Some, None, Bool, cond, eqb, eq-eqb, ne_eqb, refl, sym, ap, ◌∙◌, subst, inl, inr, ⊎_elim, arith, length-append, length-set}
use Rattle.std.specs.Prelude.{IfSome, slice_index, slice_set}
use Rattle.std.specs.Option.{option_map}
use mathlib.Core.Option.{some, none, some-ne-none, some-injective}
use lib.ListN.{get_elem?}
use Rattle.std.proofs.Math.Nat.{mod-eq_of_lt}
use Rattle.atomic_table.specs.Table.{State, Me, Step, step, keeps, Allows, Splits, Joins, Enters}
use Rattle.atomic_table.proofs.Lists.{at_set}
use Rattle.trail_desk.specs.declared.entry.Entry.{Entry}
use Rattle.trail_desk.specs.declared.entry.Opening.{Opening}
use Rattle.trail_desk.specs.declared.rule.View.{View}
use Rattle.trail_desk.specs.declared.rule.Whole.{Whole}
use Rattle.trail_desk.specs.declared.rule.Part.{Part}
use Rattle.trail_desk.specs.Trails.{of_seat, BeginsWith, IsSeat}
use Rattle.trail_desk.specs.Views.{nothing, keeping, opened_by, sitting, unused, first_view, with_keeper, without_keeper, keeper_alone, opening_alone, with_seat, new_part, one_more_made, new_seat, trail_of, shown, informed, with_entry, with_own, entered}
use Rattle.trail_desk.specs.Rules.{IsPartOf, Standing, Fits, NoneUnmade, IsKept, Keeps, IsTold, Reads, Sees, Adds, Tells}
use Rattle.trail_desk.proofs.Trails.{front-push, front-same, front-nil, of_seat-other, of_seat-push}

-- an item of a list that has one more is one of the list's, or the last
snoc_at : {X : Type 0} (l : List X) (a b : X) (j : ℕ) → get_elem? (l ++ a ∷ []) j ≡ some b → (get_elem? l j ≡ some b) ⊎ ((j ≡ length l) × (a ≡ b))
snoc_at [] a b zero e = inr (refl, some-injective a b e)
snoc_at [] a b (suc j) e = absurd (some-ne-none b (sym e))
snoc_at (x ∷ xs) a b zero e = inl e
snoc_at (x ∷ xs) a b (suc j) e = ⊎_elim inl (λ (t : (j ≡ length xs) × (a ≡ b)). inr (ap suc t.0, t.1)) (snoc_at xs a b j e)

-- what holds of an item there is, where it follows from what held
if_some : {X : Type 0} (o : Option X) (P Q : X → Type 0) → ((x : X) → o ≡ Some x → P x → Q x) → IfSome o P → IfSome o Q
if_some None P Q f h = h
if_some (Some x) P Q f h = f x refl h

at_some : {X : Type 0} (o : Option X) (x : X) (P : X → Type 0) → o ≡ Some x → IfSome o P → P x
at_some o x P is h = subst (λ o. IfSome o P) is h

the_same : {X : Type 0} (x y : X) → Some x ≡ Some y → x ≡ y
the_same x y e = cc

-- the same, of what a function makes of the item
if_mapped : {X Y : Type 0} (f : X → Y) (o : Option X) (P : X → Type 0) (Q : Y → Type 0) → ((x : X) → o ≡ Some x → P x → Q (f x)) → IfSome o P → IfSome (option_map f o) Q
if_mapped f None P Q g h = h
if_mapped f (Some x) P Q g h = g x refl h

-- the word as a load leaves it
as_it_was : (words : List ℕ) (n : ℕ) → words ≡ n ∷ [] → slice_set words 0 (slice_index words 0) ≡ n ∷ []
as_it_was words n is = ap (λ (ws : List ℕ). slice_set ws 0 (slice_index ws 0)) is

-- the word after one more step
counted_on : (words : List ℕ) (n : ℕ) → words ≡ n ∷ [] → n + 1 < 2 ^ 64 → slice_set words 0 ((slice_index words 0 + 1) % 2 ^ 64) ≡ (n + 1) ∷ []
counted_on words n is fits = ap (λ (ws : List ℕ). slice_set ws 0 ((slice_index ws 0 + 1) % 2 ^ 64)) is ∙ ap (λ (m : ℕ). m ∷ []) (mod-eq_of_lt fits)

-- what is told does not go by the step's numbers
abbrev any_step : Step (Unit {0})
any_step = step 0 0 0 0 none

-- of two lists of one item each that are equal
pub one_same : {X : Type 0} (x y : X) → x ∷ [] ≡ y ∷ [] → x ≡ y
one_same x y e = cc

module _ {C A G : Type 0} where
  -- a token has a new view
  fits_set : (now : Standing C A G) (views : List (View C A G)) (token : ℕ) (view : View C A G)
      → ((j : ℕ) (u : View C A G) → j ≢ token → get_elem? views j ≡ some u → Fits now j u) → Fits now token view
      → (j : ℕ) (u : View C A G) → get_elem? (set views token view) j ≡ some u → Fits now j u
  fits_set now views token view others mine j u e =
      ⊎_elim
      (λ (x : (j ≡ token) × (view ≡ u)). subst (λ (y : ℕ × View C A G). Fits now y.0 y.1) (λ i. (sym x.0 i, x.1 i)) mine)
      (λ (x : (j ≢ token) × (get_elem? views j ≡ some u)). others j u x.0 x.1)
      (at_set views token j view u e)

  -- there is a new token
  fits_snoc : (now : Standing C A G) (views : List (View C A G)) (view : View C A G)
      → ((j : ℕ) (u : View C A G) → get_elem? views j ≡ some u → Fits now j u) → Fits now (length views) view
      → (j : ℕ) (u : View C A G) → get_elem? (views ++ view ∷ []) j ≡ some u → Fits now j u
  fits_snoc now views view others new j u e =
      ⊎_elim
      (λ (x : get_elem? views j ≡ some u). others j u x)
      (λ (x : (j ≡ length views) × (view ≡ u)). subst (λ (y : ℕ × View C A G). Fits now y.0 y.1) (λ i. (sym x.0 i, x.1 i)) new)
      (snoc_at views view u j e)

  -- how a table stands that was just made
  abbrev start : Opening C → Standing C A G
  start opening = record { whole = unused opening; keeper = 0; owner = λ _. 0 }

  start_fits : (opening : Opening C) (token : ℕ) (view : View C A G) → get_elem? (first_view opening ∷ []) token ≡ some view → Fits (start opening) token view
  start_fits opening zero view e = subst (Fits (start opening) 0) (some-injective _ _ e) (record { opening = tt; whole = (refl, refl); part = tt })
  start_fits opening (suc token) view e = absurd (some-ne-none view (sym e))

  -- the rule holds of a table that was just made
  pub begins : (opening : Opening C) → (standing : Standing C A G) × (standing.whole.opening ≡ opening) × IsKept standing (0 ∷ []) (first_view opening ∷ [])
  begins opening = (start opening, refl, record { counted = refl; unmade = λ seat no. refl; fits = start_fits opening })

  -- what the rule says of a keeper's view
  known : (was : Standing C A G) (token : ℕ) (view : View C A G) (whole : Whole C A G) → view.whole ≡ Some whole → Fits was token view → (token ≡ was.keeper) × (whole ≡ was.whole)
  known was token view whole is fits = at_some view.whole whole (λ w. (token ≡ was.keeper) × (w ≡ was.whole)) is fits.whole

  makes_at : (opening : Opening C) (token : ℕ) (whole : Whole C A G)
      → Splits {S = Unit {0}} (Keeps opening) token (keeping (Some whole)) (keeping (Some (with_seat whole))) (sitting (Some whole.opening) (Some (new_part whole)))
  makes_at opening token whole s h at =
      let was = h.0 in
      let kept = h.2 in
      let mine = known was token (keeping (Some whole)) whole refl (kept.fits token (keeping (Some whole)) at) in
      let left : View C A G = keeping (Some (with_seat whole)) in
      let right : View C A G = sitting (Some whole.opening) (Some (new_part whole)) in
      let same : whole.made ≡ was.whole.made = ap (λ w. w.made) mine.1 in
      let new = length (set s.views token left) in
      let now : Standing C A G = record { whole = with_seat was.whole; keeper = was.keeper; owner = λ seat. cond (eqb seat (was.whole.made + 1)) new (was.owner seat) } in (
        now,
        h.1,
        record {
          counted = kept.counted;
          unmade = λ seat no. kept.unmade seat (λ (is : IsSeat was.whole.made seat). no (is.0, omega arith));
          fits = fits_snoc now (set s.views token left) right
              (fits_set now s.views token left
              (λ j u apart e. let f = kept.fits j u e in record {
                opening = f.opening;
                whole = if_some u.whole _ _ (λ w _ (k : (j ≡ was.keeper) × (w ≡ was.whole)). absurd (apart (k.0 ∙ sym mine.0))) f.whole;
                part = if_some u.part _ _ (λ p _ (k : (was.owner p.seat ≡ j) × IsPartOf was.whole p).
                    let low : p.seat ≤ was.whole.made = k.1.made.1 in (
                      ap (λ (b : Bool). cond b new (was.owner p.seat)) (ne_eqb p.seat (was.whole.made + 1) (λ e. omega arith)) ∙ k.0,
                      record { made = (k.1.made.0, omega arith); seen = k.1.seen; own = k.1.own },
                    )) f.part;
              })
              (record { opening = tt; whole = (mine.0, ap with_seat mine.1); part = tt }))
              (record {
                opening = ap (λ w. w.opening) mine.1;
                whole = tt;
                part = (
                  ap (λ (b : Bool). cond b new (was.owner (whole.made + 1))) (eq-eqb (whole.made + 1) (was.whole.made + 1) (omega arith)),
                  record {
                    made = (omega arith, omega arith);
                    seen = front-nil was.whole.trail;
                    own = kept.unmade (whole.made + 1) (λ (is : IsSeat was.whole.made (whole.made + 1)). let high = is.1 in omega arith);
                  },
                );
              });
        },
      )

  -- the keeper makes one more seat
  pub makes : (opening : Opening C) (token : ℕ) (view : View C A G) (whole : Whole C A G) → view ≡ keeping (Some whole) → Splits {S = Unit {0}} (Keeps opening) token view (one_more_made view) (new_seat view)
  makes opening token view whole is = subst (λ (v : View C A G). Splits {S = Unit {0}} (Keeps opening) token v (one_more_made v) (new_seat v)) (sym is) (makes_at opening token whole)

  -- a new token knows how the desk began
  pub tells : (opening : Opening C) (slots : ℕ) → Enters (Keeps opening) slots 0 (λ n w. Tells {C = C} {A = A} {G = G} any_step (first_view opening, []) n (w, []))
  tells opening slots s h homes fits64 =
      let was = h.0 in
      let kept = h.2 in (
        opened_by (Some opening),
        (
          was,
          h.1,
          record {
            counted = kept.counted;
            unmade = kept.unmade;
            fits = fits_snoc was s.views (opened_by (Some opening)) kept.fits (record { opening = sym h.1; whole = tt; part = tt });
          },
        ),
        refl,
      )

  takes_at : (opening : Opening C) (token : ℕ) (view : View C A G) (other : ℕ) (whole : Whole C A G)
      → Joins {S = Unit {0}} (Keeps opening) token view other (keeping (Some whole)) (with_keeper view (keeping (Some whole))) nothing
  takes_at opening token view other whole s h at apart there =
      let was = h.0 in
      let kept = h.2 in
      let both : View C A G = with_keeper view (keeping (Some whole)) in
      let keeper : get_elem? s.views other ≡ some (keeping (Some whole)) = ⊎_elim (λ (x : (other ≡ token) × (both ≡ keeping (Some whole))). absurd (apart x.0)) (λ (x : (other ≢ token) × (get_elem? s.views other ≡ some (keeping (Some whole)))). x.1) (at_set s.views token other both (keeping (Some whole)) there) in
      let told = known was other (keeping (Some whole)) whole refl (kept.fits other (keeping (Some whole)) keeper) in
      let mine = kept.fits token view at in
      let now : Standing C A G = record { whole = was.whole; keeper = token; owner = was.owner } in (
        now,
        h.1,
        record {
          counted = kept.counted;
          unmade = kept.unmade;
          fits = fits_set now (set s.views token both) other nothing
              (λ j u off e. ⊎_elim
              (λ (x : (j ≡ token) × (both ≡ u)). subst (λ (y : ℕ × View C A G). Fits now y.0 y.1) (λ i. (sym x.0 i, x.1 i)) (record { opening = mine.opening; whole = (refl, told.1); part = mine.part }))
              (λ (x : (j ≢ token) × (get_elem? s.views j ≡ some u)). let f = kept.fits j u x.1 in record {
                opening = f.opening;
                whole = if_some u.whole _ _ (λ w _ (k : (j ≡ was.keeper) × (w ≡ was.whole)). absurd (off (k.0 ∙ sym told.0))) f.whole;
                part = f.part;
              })
              (at_set s.views token j both u e))
              (record { opening = tt; whole = tt; part = tt });
        },
      )

  -- the keeper's view goes to a token
  pub takes : (opening : Opening C) (token : ℕ) (view : View C A G) (other : ℕ) (keeper : View C A G) (whole : Whole C A G) → keeper ≡ keeping (Some whole)
      → Joins {S = Unit {0}} (Keeps opening) token view other keeper (with_keeper view keeper) nothing
  takes opening token view other keeper whole is = subst (λ (k : View C A G). Joins {S = Unit {0}} (Keeps opening) token view other k (with_keeper view k) nothing) (sym is) (takes_at opening token view other whole)

  -- the keeper's view leaves a token
  pub gives : (opening : Opening C) (token : ℕ) (view : View C A G) (whole : Whole C A G) → view.whole ≡ Some whole
      → Splits {S = Unit {0}} (Keeps opening) token view (without_keeper view) (keeper_alone view)
  gives opening token view whole is s h at =
      let was = h.0 in
      let kept = h.2 in
      let mine = kept.fits token view at in
      let told = known was token view whole is mine in
      let left : View C A G = without_keeper view in
      let new = length (set s.views token left) in
      let now : Standing C A G = record { whole = was.whole; keeper = new; owner = was.owner } in (
        now,
        h.1,
        record {
          counted = kept.counted;
          unmade = kept.unmade;
          fits = fits_snoc now (set s.views token left) (keeper_alone view)
              (fits_set now s.views token left
              (λ j u apart e. let f = kept.fits j u e in record {
                opening = f.opening;
                whole = if_some u.whole _ _ (λ w _ (k : (j ≡ was.keeper) × (w ≡ was.whole)). absurd (apart (k.0 ∙ sym told.0))) f.whole;
                part = f.part;
              })
              (record { opening = mine.opening; whole = tt; part = mine.part }))
              (record { opening = tt; whole = if_some view.whole _ _ (λ w _ (k : (token ≡ was.keeper) × (w ≡ was.whole)). (refl, k.1)) mine.whole; part = tt });
        },
      )

  -- what a load tells a keeper
  told_of : (was : Standing C A G) (token : ℕ) (view : View C A G) → NoneUnmade was.whole → Fits was token view → IfSome view.whole (IsTold view)
  told_of was token view unmade fits =
      if_some view.whole _ _
      (λ w _ (k : (token ≡ was.keeper) × (w ≡ was.whole)). subst (IsTold view) (sym k.1) (record {
        unmade = unmade;
        opening = fits.opening;
        part = if_some view.part _ _ (λ p _ (k : (was.owner p.seat ≡ token) × IsPartOf was.whole p). k.1) fits.part;
      }))
      fits.whole

  pub reads : (opening : Opening C) (slots token : ℕ) (me : Me (Unit {0}) (View C A G)) → Allows (Keeps opening) slots token me 0 (λ n. n) (Reads any_step me)
  reads opening slots token me s h homes there fits64 =
      let was = h.0 in
      let kept = h.2 in
      let mine = kept.fits token me.0 there in (
        me.0,
        keeps,
        tt,
        (was, h.1, record { counted = as_it_was s.words (length was.whole.trail) kept.counted; unmade = kept.unmade; fits = fits_set was s.views token me.0 (λ j u _ e. kept.fits j u e) mine }),
        (refl, told_of was token me.0 kept.unmade mine),
      )

  pub sees : (opening : Opening C) (slots token : ℕ) (me : Me (Unit {0}) (View C A G)) (whole : Whole C A G) → me.0.whole ≡ Some whole → Allows (Keeps opening) slots token me 0 (λ n. n) (Sees any_step me)
  sees opening slots token me whole is s h homes there fits64 =
      let was = h.0 in
      let kept = h.2 in
      let mine = kept.fits token me.0 there in
      let told = known was token me.0 whole is mine in
      let trail : trail_of me.0.whole ≡ was.whole.trail = ap trail_of is ∙ ap (λ w. w.trail) told.1 in (
        informed me.0,
        keeps,
        tt,
        (
          was,
          h.1,
          record {
            counted = as_it_was s.words (length was.whole.trail) kept.counted;
            unmade = kept.unmade;
            fits = fits_set was s.views token (informed me.0) (λ j u _ e. kept.fits j u e) (record {
              opening = mine.opening;
              whole = mine.whole;
              part = if_mapped (shown (trail_of me.0.whole)) me.0.part _ _ (λ p _ (k : (was.owner p.seat ≡ token) × IsPartOf was.whole p).
                  (k.0, record { made = k.1.made; seen = subst (λ l. BeginsWith l was.whole.trail) (sym trail) (front-same was.whole.trail); own = k.1.own })) mine.part;
            });
          },
        ),
        (refl, told_of was token me.0 kept.unmade mine),
      )

  pub adds : (opening : Opening C) (slots token : ℕ) (me : Me (Unit {0}) (View C A G)) (whole : Whole C A G) (part : Part A G) (entry : Entry A G) (is : Entry A G → Type 0)
      → me.0.whole ≡ Some whole → me.0.part ≡ Some part → entry.seat ≡ part.seat → length whole.trail + 1 < 2 ^ 64 → is entry
      → Allows (Keeps opening) slots token me 0 (λ n. (n + 1) % 2 ^ 64) (Adds is any_step me)
  adds opening slots token me whole part entry is has_whole has_part of fits named s h homes there fits64 =
      let was = h.0 in
      let kept = h.2 in
      let mine = kept.fits token me.0 there in
      let told = known was token me.0 whole has_whole mine in
      let sits = at_some me.0.part part (λ p. (was.owner p.seat ≡ token) × IsPartOf was.whole p) has_part mine.part in
      let trail : trail_of me.0.whole ≡ was.whole.trail = ap trail_of has_whole ∙ ap (λ w. w.trail) told.1 in
      let now : Standing C A G = record { whole = with_entry entry was.whole; keeper = was.keeper; owner = was.owner } in
      let short : length was.whole.trail + 1 < 2 ^ 64 = subst (λ (w : Whole C A G). length w.trail + 1 < 2 ^ 64) told.1 fits in (
        entered entry me.0,
        keeps,
        tt,
        (
          now,
          h.1,
          record {
            counted = counted_on s.words (length was.whole.trail) kept.counted short ∙ ap (λ (n : ℕ). n ∷ []) (sym (length-append was.whole.trail (entry ∷ [])));
            unmade = λ seat no. of_seat-other seat was.whole.trail entry (λ e. no (subst (IsSeat was.whole.made) (sym of ∙ e) sits.1.made)) ∙ kept.unmade seat no;
            fits = fits_set now s.views token (entered entry me.0)
                (λ j u apart e. let f = kept.fits j u e in record {
                  opening = f.opening;
                  whole = if_some u.whole _ _ (λ w _ (k : (j ≡ was.keeper) × (w ≡ was.whole)). absurd (apart (k.0 ∙ sym told.0))) f.whole;
                  part = if_some u.part _ _ (λ p _ (k : (was.owner p.seat ≡ j) × IsPartOf was.whole p). (
                    k.0,
                    record {
                      made = k.1.made;
                      seen = front-push p.seen was.whole.trail entry k.1.seen;
                      own = of_seat-other p.seat was.whole.trail entry (λ e. apart (sym k.0 ∙ ap was.owner (sym e ∙ of) ∙ sits.0)) ∙ k.1.own;
                    },
                  )) f.part;
                })
                (record {
                  opening = mine.opening;
                  whole = if_mapped (with_entry entry) me.0.whole _ _ (λ w _ (k : (token ≡ was.keeper) × (w ≡ was.whole)). (k.0, ap (with_entry entry) k.1)) mine.whole;
                  part = if_mapped (with_own (trail_of me.0.whole) entry) me.0.part _ _ (λ p same (k : (was.owner p.seat ≡ token) × IsPartOf was.whole p). (
                    k.0,
                    record {
                      made = k.1.made;
                      seen = subst (λ l. BeginsWith (l ++ entry ∷ []) (was.whole.trail ++ entry ∷ [])) (sym trail) (front-same (was.whole.trail ++ entry ∷ []));
                      own = of_seat-push p.seat was.whole.trail entry (of ∙ ap (λ (q : Part A G). q.seat) (the_same part p (sym has_part ∙ same))) ∙ ap (λ l. l ++ entry ∷ []) k.1.own;
                    },
                  )) mine.part;
                });
          },
        ),
        (entry, named, refl),
      )
