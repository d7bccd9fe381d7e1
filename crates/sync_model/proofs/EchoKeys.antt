-- What a note of an offer, an edit, an update and an acknowledgement keep of the offered pairs of a key.
use Rattle.std.proofs.Common.{◌≡◌, ℕ, suc, ◌+◌, ◌-◌, ◌<◌, ◌≤◌, ◌⊎◌, ◌++◌, ◌||◌, Bool, true, false, cond, List, [], ◌∷◌, length, drop, is_some, refl, sym, ap, ◌∙◌, subst, eqb, nat_le, nat_lt, arith, inl, inr, le_refl}
use Rattle.std.specs.List.{AllByRecursion}
use Rattle.std.proofs.lemmas.Bool.{eqb-true, eq-eqb, leb-false, leb-true, true≢false}
use Rattle.std.proofs.lemmas.List.{length-append}
use Rattle.sync_values.specs.declared.value.Value.{Value}
use Rattle.sync_model.specs.declared.conflict.Choice.{Choice}
use Rattle.sync_model.specs.declared.conflict.Choice.TheVariants.{Same, Remote, Local, Merged as MergedInto}
use Rattle.sync_model.specs.declared.conflict.Decision.{Decision}
use Rattle.sync_model.specs.declared.message.Ack.{Ack}
use Rattle.sync_model.specs.declared.message.Update.{Update}
use Rattle.sync_model.specs.declared.state.KeyState.{KeyState}
use Rattle.sync_model.specs.declared.state.Offered.{Offered}
use Rattle.sync_model.specs.KeyStates.{new_state, edited, MAX_OFFERED, is_offered, with_offered, noted, is_old, accepted, settled, resolution_of, updated, still_due, acknowledged}
use Rattle.sync_model.specs.EchoFacts.{AnyIs, AreAscending, Offering, IsPair, ArePairsKept, StandsAmong, IsOfferKept}
use Rattle.sync_model.proofs.Longer.{all_then}
use Rattle.sync_model.proofs.TrueAcks.{all_append}

-- one of the first of two lists is one of both
any_more : {X : Type 0} (Is : X → Type 0) (xs ys : List X) → AnyIs Is xs → AnyIs Is (xs ++ ys)
any_more Is [] ys any = absurd any
any_more Is (x ∷ xs) ys (inl here) = inl here
any_more Is (x ∷ xs) ys (inr there) = inr (any_more Is xs ys there)

any_last : {X : Type 0} (Is : X → Type 0) (xs : List X) (last : X) → Is last → AnyIs Is (xs ++ last ∷ [])
any_last Is [] last is = inl is
any_last Is (x ∷ xs) last is = inr (any_last Is xs last is)

-- a greater number after others that ascend
ascending_last : {X : Type 0} (number : X → ℕ) (xs : List X) (last : X) → AllByRecursion (λ x. number x < number last) xs
    → AreAscending number xs → AreAscending number (xs ++ last ∷ [])
ascending_last number [] last below ascending = (tt, tt)
ascending_last number (x ∷ xs) last below ascending = (
  all_append (λ next. number x < number next) xs (last ∷ []) ascending.0 (below.0, tt),
  ascending_last number xs last below.1 ascending.1,
)

-- a test that fails of two fails of both
none_of : (here rest : Bool) → (here || rest) ≡ false → (here ≡ false) × (rest ≡ false)
none_of true rest is = absurd (true≢false is)
none_of false rest is = (refl, is)

-- a number that no pair has is above them all, if none is above it
all_below : (pairs : List Offered) (number : ℕ) → is_offered pairs number ≡ false → AllByRecursion (λ pair. pair.number ≤ number) pairs
    → AllByRecursion (λ pair. pair.number < number) pairs
all_below [] number is within = tt
all_below (pair ∷ pairs) number is within =
    let parts : (eqb pair.number number ≡ false) × (is_offered pairs number ≡ false)
    = none_of (eqb pair.number number) (is_offered pairs number) is
    in let differs : pair.number ≡ number → ⊥ = λ same. true≢false (sym (eq-eqb pair.number number same) ∙ parts.0)
    in (below pair.number number within.0 differs, all_below pairs number parts.1 within.1)
  where
    below : (one other : ℕ) → one ≤ other → (one ≡ other → ⊥) → one < other
    below one other le differs = omega (arith, le, differs)

-- a number that a pair has stands there with the value of all its pairs
one_by : (here : Bool) (pair : Offered) (pairs : List Offered) (number : ℕ) (value : Value) → eqb pair.number number ≡ here
    → (here || is_offered pairs number) ≡ true → (pair.number ≡ number → pair.value ≡ value)
    → (is_offered pairs number ≡ true → AnyIs (IsPair number value) pairs) → AnyIs (IsPair number value) (pair ∷ pairs)
one_by true pair pairs number value same is own rest =
    inl record { numbered = eqb-true pair.number number same; valued = own (eqb-true pair.number number same) }
one_by false pair pairs number value differs is own rest = inr (rest is)

one_of : (pairs : List Offered) (number : ℕ) (value : Value) → is_offered pairs number ≡ true
    → AllByRecursion (λ pair. pair.number ≡ number → pair.value ≡ value) pairs → AnyIs (IsPair number value) pairs
one_of [] number value is own = absurd (true≢false (sym is))
one_of (pair ∷ pairs) number value is own =
    one_by (eqb pair.number number) pair pairs number value refl is own.0 (λ is. one_of pairs number value is own.1)

-- a number with its value
abbrev pair_of : ℕ → Value → Offered
pair_of number value = record { number = number; value = value }

-- a note adds the last pair to others, where there is room
abbrev IsAdded : List Offered → ℕ → Value → List Offered → Type 0
IsAdded old number value new = (new ≡ old ++ pair_of number value ∷ []) × (length old < MAX_OFFERED)

-- a note adds the last pair in place of the first
record IsPutLast (old : List Offered) (number : ℕ) (value : Value) (new : List Offered) : Type 0 where
  first : Offered
  rest : List Offered
  before : old ≡ first ∷ rest
  after : new ≡ rest ++ pair_of number value ∷ []
  long : suc (length rest) ≡ MAX_OFFERED

-- what a note makes of pairs: they have the number with its value, or all are below it, and it is added
abbrev Notes : List Offered → ℕ → Value → List Offered → Type 0
Notes old number value new = ((new ≡ old) × AnyIs (IsPair number value) old)
    ⊎ (AllByRecursion (λ pair. pair.number < number) old × (IsAdded old number value new ⊎ IsPutLast old number value new))

added_or : (old : List Offered) (number : ℕ) (value : Value) → length old ≤ MAX_OFFERED
    → IsAdded old number value (drop (length old + 1 - MAX_OFFERED) (old ++ pair_of number value ∷ []))
    ⊎ IsPutLast old number value (drop (length old + 1 - MAX_OFFERED) (old ++ pair_of number value ∷ []))
added_or [] number value few = inl (refl, omega arith)
added_or (first ∷ rest) number value few = by (nat_le MAX_OFFERED (length (first ∷ rest))) refl
  where
    by : (full : Bool) → nat_le MAX_OFFERED (length (first ∷ rest)) ≡ full
        → IsAdded (first ∷ rest) number value (drop (length (first ∷ rest) + 1 - MAX_OFFERED) (first ∷ rest ++ pair_of number value ∷ []))
        ⊎ IsPutLast (first ∷ rest) number value (drop (length (first ∷ rest) + 1 - MAX_OFFERED) (first ∷ rest ++ pair_of number value ∷ []))
    by false is =
        let room : length (first ∷ rest) < MAX_OFFERED = leb-false MAX_OFFERED (length (first ∷ rest)) is
        in let none : length (first ∷ rest) + 1 - MAX_OFFERED ≡ 0 = omega (arith, room)
        in inl (ap (λ (count : ℕ). drop count (first ∷ rest ++ pair_of number value ∷ [])) none, room)
    by true is =
        let full : MAX_OFFERED ≤ length (first ∷ rest) = leb-true MAX_OFFERED (length (first ∷ rest)) is
        in let one : length (first ∷ rest) + 1 - MAX_OFFERED ≡ 1 = omega (arith, full, few)
        in inr record {
          first = first;
          rest = rest;
          before = refl;
          after = ap (λ (count : ℕ). drop count (first ∷ rest ++ pair_of number value ∷ [])) one;
          long = omega (arith, full, few);
        }

-- a note of the last edit with the own value
note_pairs : (Was : Offering) (state : KeyState) → ArePairsKept Was state
    → Notes state.offered state.last_edit state.own (with_offered state.offered state.last_edit state.own)
note_pairs Was state kept = by (is_offered state.offered state.last_edit) refl
  where
    by : (there : Bool) → is_offered state.offered state.last_edit ≡ there → Notes state.offered state.last_edit state.own
        (cond there state.offered (drop (length state.offered + 1 - MAX_OFFERED) (state.offered ++ pair_of state.last_edit state.own ∷ [])))
    by true is = inl (refl, one_of state.offered state.last_edit state.own is kept.is_own)
    by false is = inr (all_below state.offered state.last_edit is kept.within, added_or state.offered state.last_edit state.own kept.few)

-- the pairs without the first
rest_kept : (Was : Offering) (state : KeyState) (first : Offered) (rest : List Offered) → state.offered ≡ first ∷ rest
    → ArePairsKept Was state → ArePairsKept Was (record state { offered = rest })
rest_kept Was state first rest is kept = by (subst (λ (pairs : List Offered). ArePairsKept Was (record state { offered = pairs })) is kept)
  where
    by : ArePairsKept Was (record state { offered = first ∷ rest }) → ArePairsKept Was (record state { offered = rest })
    by whole = record {
      ascending = whole.ascending.1;
      few = omega (arith, whole.few);
      within = whole.within.1;
      is_own = whole.is_own.1;
      offered = whole.offered.1;
    }

-- the pairs with one more
added_kept : (Was : Offering) (state : KeyState) → ArePairsKept Was state → Was state.known state.last_edit
    → AllByRecursion (λ pair. pair.number < state.last_edit) state.offered → length state.offered < MAX_OFFERED
    → ArePairsKept Was (record state { offered = state.offered ++ pair_of state.last_edit state.own ∷ [] })
added_kept Was state kept was below room = record {
  ascending = ascending_last (λ (pair : Offered). pair.number) state.offered (pair_of state.last_edit state.own) below kept.ascending;
  few = omega (arith, room, length-append state.offered (pair_of state.last_edit state.own ∷ []));
  within = all_append (λ (pair : Offered). pair.number ≤ state.last_edit) state.offered (pair_of state.last_edit state.own ∷ []) kept.within (le_refl _, tt);
  is_own = all_append (λ (pair : Offered). pair.number ≡ state.last_edit → pair.value ≡ state.own) state.offered (pair_of state.last_edit state.own ∷ [])
      kept.is_own ((λ same. refl), tt);
  offered = all_append (λ (pair : Offered). Was state.known pair.number) state.offered (pair_of state.last_edit state.own ∷ []) kept.offered (was, tt);
}

-- a note keeps what is so of the pairs
pairs_noted : (Was : Offering) (state : KeyState) (new : List Offered) → Was state.known state.last_edit → ArePairsKept Was state
    → Notes state.offered state.last_edit state.own new → ArePairsKept Was (record state { offered = new })
pairs_noted Was state new was kept (inl same) =
    subst (λ (pairs : List Offered). ArePairsKept Was (record state { offered = pairs })) (sym same.0) kept
pairs_noted Was state new was kept (inr (below, inl added)) =
    subst (λ (pairs : List Offered). ArePairsKept Was (record state { offered = pairs })) (sym added.0)
    (added_kept Was state kept was below added.1)
pairs_noted Was state new was kept (inr (below, inr put)) =
    subst (λ (pairs : List Offered). ArePairsKept Was (record state { offered = pairs })) (sym put.after)
    (added_kept Was (record state { offered = put.rest }) (rest_kept Was state put.first put.rest put.before kept) was
    (subst (λ (pairs : List Offered). AllByRecursion (λ pair. pair.number < state.last_edit) pairs) put.before below).1
    (omega (arith, put.long)))

-- what stands among pairs still does after a note, or eight greater numbers do
stands_put : (first : Offered) (rest : List Offered) (last : Offered) (number : ℕ) (value : Value) → suc (length rest) ≡ MAX_OFFERED
    → AllByRecursion (λ (next : Offered). first.number < next.number) rest → first.number < last.number
    → StandsAmong (first ∷ rest) number value → StandsAmong (rest ++ last ∷ []) number value
stands_put first rest last number value long ascending below (inl (inl here)) = inr (
  omega (arith, long, length-append rest (last ∷ [])),
  all_append (λ (pair : Offered). number < pair.number) rest (last ∷ [])
      (all_then (λ (next : Offered) (above : first.number < next.number). omega (arith, above, here.numbered)) rest ascending)
      (omega (arith, below, here.numbered), tt),
)
stands_put first rest last number value long ascending below (inl (inr there)) = inl (any_more (IsPair number value) rest (last ∷ []) there)
stands_put first rest last number value long ascending below (inr full) = inr (
  omega (arith, long, length-append rest (last ∷ [])),
  all_append (λ (pair : Offered). number < pair.number) rest (last ∷ []) full.1.1 (omega (arith, below, full.1.0), tt),
)

stands_noted : (Was : Offering) (state : KeyState) (new : List Offered) (number : ℕ) (value : Value) → ArePairsKept Was state
    → Notes state.offered state.last_edit state.own new → StandsAmong state.offered number value → StandsAmong new number value
stands_noted Was state new number value kept (inl same) stands =
    subst (λ (pairs : List Offered). StandsAmong pairs number value) (sym same.0) stands
stands_noted Was state new number value kept (inr (below, inl added)) (inl any) =
    subst (λ (pairs : List Offered). StandsAmong pairs number value) (sym added.0)
    (inl (any_more (IsPair number value) state.offered (pair_of state.last_edit state.own ∷ []) any))
stands_noted Was state new number value kept (inr (below, inl added)) (inr full) = absurd (omega (arith, added.1, full.0))
stands_noted Was state new number value kept (inr (below, inr put)) stands =
    subst (λ (pairs : List Offered). StandsAmong pairs number value) (sym put.after)
    (stands_put put.first put.rest (pair_of state.last_edit state.own) number value put.long
    (subst (λ (pairs : List Offered). AreAscending (λ (pair : Offered). pair.number) pairs) put.before kept.ascending).0
    (subst (λ (pairs : List Offered). AllByRecursion (λ pair. pair.number < state.last_edit) pairs) put.before below).0
    (subst (λ (pairs : List Offered). StandsAmong pairs number value) put.before stands))

-- the last edit stands among the pairs after a note of it
last_stands : (state : KeyState) (new : List Offered) → Notes state.offered state.last_edit state.own new
    → StandsAmong new state.last_edit state.own
last_stands state new (inl same) =
    subst (λ (pairs : List Offered). StandsAmong pairs state.last_edit state.own) (sym same.0) (inl same.1)
last_stands state new (inr (below, inl added)) =
    subst (λ (pairs : List Offered). StandsAmong pairs state.last_edit state.own) (sym added.0)
    (inl (any_last (IsPair state.last_edit state.own) state.offered (pair_of state.last_edit state.own) record { numbered = refl; valued = refl }))
last_stands state new (inr (below, inr put)) =
    subst (λ (pairs : List Offered). StandsAmong pairs state.last_edit state.own) (sym put.after)
    (inl (any_last (IsPair state.last_edit state.own) put.rest (pair_of state.last_edit state.own) record { numbered = refl; valued = refl }))

-- what is made of a key keeps what is so of its pairs and of its offers
abbrev pub KeepsKey : Offering → KeyState → KeyState → Type 0
KeepsKey Was old new = ArePairsKept Was old → ArePairsKept Was new
    × ((version number : ℕ) (value : Value) → IsOfferKept Was old version number value → IsOfferKept Was new version number value)

pub same_keeps : (Was : Offering) (state : KeyState) → KeepsKey Was state state
same_keeps Was state kept = (kept, λ version number value is. is)

-- a note of what a key has to send
pub noted_keeps : (Was : Offering) (state : KeyState) → Was state.known state.last_edit
    → KeepsKey Was state (noted state state.last_edit state.own)
unfolding noted
noted_keeps Was state was kept = (
  pairs_noted Was state (with_offered state.offered state.last_edit state.own) was kept (note_pairs Was state kept),
  λ version number value is. record {
    within = is.within;
    offered = is.offered;
    stands = λ at. stands_noted Was state (with_offered state.offered state.last_edit state.own) number value kept (note_pairs Was state kept) (is.stands at);
  },
)

-- what was noted is an offer of the key
pub noted_offer : (Was : Offering) (state : KeyState) → Was state.known state.last_edit → ArePairsKept Was state
    → IsOfferKept Was (noted state state.last_edit state.own) state.known state.last_edit state.own
unfolding noted
noted_offer Was state was kept = record {
  within = le_refl _;
  offered = was;
  stands = λ at. last_stands state (with_offered state.offered state.last_edit state.own) (note_pairs Was state kept);
}

-- an edit
pub edited_keeps : (Was : Offering) (state : KeyState) (value : Value) (number : ℕ) → state.last_edit < number
    → KeepsKey Was state (edited state value number)
edited_keeps Was state value number above kept = (
  record {
    ascending = kept.ascending;
    few = kept.few;
    within = all_then (λ (pair : Offered) (within : pair.number ≤ state.last_edit). omega (arith, within, above)) state.offered kept.within;
    is_own = all_then {P = λ pair. pair.number ≤ state.last_edit} {Q = λ pair. pair.number ≡ number → pair.value ≡ value}
        (λ pair within same. absurd (omega (arith, within, above, same))) state.offered kept.within;
    offered = kept.offered;
  },
  λ version number value is. record { within = is.within; offered = is.offered; stands = is.stands },
)

-- a key is as it was, or a newer version of it is known, and nothing was offered over that
abbrev pub Rises : KeyState → KeyState → Type 0
Rises old new = (new ≡ old) ⊎ ((old.known < new.known) × (new.offered ≡ []))

none_kept : (Was : Offering) (state : KeyState) → state.offered ≡ [] → ArePairsKept Was state
none_kept Was state is = subst (λ (pairs : List Offered). ArePairsKept Was (record state { offered = pairs })) (sym is)
    record { ascending = tt; few = omega arith; within = tt; is_own = tt; offered = tt }

pub rises_keeps : (Was : Offering) (old new : KeyState) → Rises old new → KeepsKey Was old new
rises_keeps Was old new (inl same) = subst (λ (found : KeyState). KeepsKey Was old found) (sym same) (same_keeps Was old)
rises_keeps Was old new (inr risen) = λ kept. (
  none_kept Was new risen.1,
  λ version number value is. record {
    within = omega (arith, is.within, risen.0);
    offered = is.offered;
    stands = λ at. absurd (omega (arith, at, is.within, risen.0));
  },
)

pub new_state-kept : (Was : Offering) → ArePairsKept Was new_state
new_state-kept Was = none_kept Was new_state refl

-- an update
settled_rises : (state : KeyState) (update : Update) (choice : Choice) → state.known < update.version → Rises state (settled state update choice)
settled_rises state update Same above = inr (above, refl)
settled_rises state update Remote above = inr (above, refl)
settled_rises state update Local above = inr (above, refl)
settled_rises state update (MergedInto value) above = inr (above, refl)

pub updated_rises : (decided : Value → Value → Decision) (state : KeyState) (update : Update) → Rises state (updated decided state update)
unfolding updated
updated_rises decided state update = by (is_old state update) (is_some state.due) refl
  where
    by : (old due : Bool) → is_old state update ≡ old
        → Rises state (cond old state (cond due (settled state update (resolution_of decided state update).choice) (accepted state update)))
    by true due is = inl refl
    by false true is = settled_rises state update (resolution_of decided state update).choice (leb-false update.version state.known is)
    by false false is = inr (leb-false update.version state.known is, refl)

-- an acknowledgement
pub acknowledged_rises : (state : KeyState) (ack : Ack) → Rises state (acknowledged state ack)
unfolding acknowledged
acknowledged_rises state ack = by (nat_le ack.version state.known) (nat_lt state.last_edit ack.number) refl
  where
    by : (old unmade : Bool) → nat_le ack.version state.known ≡ old → Rises state (cond (old || unmade) state record {
      known = ack.version;
      base = ack.value;
      own = cond (is_some (still_due state.due ack.number)) state.own ack.value;
      due = still_due state.due ack.number;
      last_edit = state.last_edit;
      lock = ack.lock;
      offered = [];
    })
    by true unmade is = inl refl
    by false true is = inl refl
    by false false is = inr (leb-false ack.version state.known is, refl)
