-- The rule of a desk's table, and what each atomic step tells.
use Rattle.std.specs.Prelude.{◌≡◌, ℕ, ◌<◌, ◌≤◌, List, [], ◌∷◌, length, IfSome}
use mathlib.Core.Option.{some}
use lib.ListN.{get_elem?}
use Rattle.atomic_table.specs.Table.{State, Me, Step}
use Rattle.trail_desk.specs.declared.entry.Entry.{Entry}
use Rattle.trail_desk.specs.declared.entry.Opening.{Opening}
use Rattle.trail_desk.specs.declared.rule.View.{View}
use Rattle.trail_desk.specs.declared.rule.Whole.{Whole}
use Rattle.trail_desk.specs.declared.rule.Part.{Part}
use Rattle.trail_desk.specs.Trails.{of_seat, BeginsWith, IsSeat}
use Rattle.trail_desk.specs.Views.{informed, entered, opening_alone}

-- the seat was made, what it has seen is a front of the trail, and its own steps are the trail's steps of that seat
pub record IsPartOf {C A G : Type 0} (whole : Whole C A G) (part : Part A G) : Type 0 where
  pub made : IsSeat whole.made part.seat
  pub seen : BeginsWith part.seen whole.trail
  pub own : of_seat part.seat whole.trail ≡ part.own

-- how a table stands: what its keeper knows, which token that is, and which token has each seat
pub record Standing (C A G : Type 0) : Type 0 where
  pub whole : Whole C A G
  pub keeper : ℕ
  pub owner : ℕ → ℕ

-- a token's view is true: what it knows is so, and no other token knows as a keeper, or for this seat
pub record Fits {C A G : Type 0} (standing : Standing C A G) (token : ℕ) (view : View C A G) : Type 0 where
  pub opening : IfSome view.opening (λ opening. opening ≡ standing.whole.opening)
  pub whole : IfSome view.whole (λ whole. (token ≡ standing.keeper) × (whole ≡ standing.whole))
  pub part : IfSome view.part (λ part. (standing.owner part.seat ≡ token) × IsPartOf standing.whole part)

-- a seat that was not made has no step
abbrev pub NoneUnmade : {C A G : Type 0} → Whole C A G → Type 0
NoneUnmade whole = (seat : ℕ) → ¬ IsSeat whole.made seat → of_seat seat whole.trail ≡ []

-- the word counts the trail, a seat that was not made has no step, and each view is true
pub record IsKept {C A G : Type 0} (standing : Standing C A G) (words : List ℕ) (views : List (View C A G)) : Type 0 where
  pub counted : words ≡ length standing.whole.trail ∷ []
  pub unmade : NoneUnmade standing.whole
  pub fits : (token : ℕ) (view : View C A G) → get_elem? views token ≡ some view → Fits standing token view

-- the rule of a table: it stands in some way, over the opening that it was told
abbrev pub Keeps : {C A G : Type 0} → Opening C → State (Unit {0}) (View C A G) → Type 0
Keeps {C} {A} {G} opening state = (standing : Standing C A G) × (standing.whole.opening ≡ opening) × IsKept standing state.words state.views

-- what the rule says of a view, told to a token that knows this as a keeper
pub record IsTold {C A G : Type 0} (view : View C A G) (whole : Whole C A G) : Type 0 where
  pub unmade : NoneUnmade whole
  pub opening : IfSome view.opening (λ opening. opening ≡ whole.opening)
  pub part : IfSome view.part (IsPartOf whole)

-- a load tells a keeper what the rule says
abbrev pub Reads : {C A G : Type 0} → Step (Unit {0}) → Me (Unit {0}) (View C A G) → ℕ → Me (Unit {0}) (View C A G) → Type 0
Reads step before found after = (after ≡ before) × IfSome before.0.whole (IsTold before.0)

-- a load tells a keeper the same, and lets its seat see the whole trail
abbrev pub Sees : {C A G : Type 0} → Step (Unit {0}) → Me (Unit {0}) (View C A G) → ℕ → Me (Unit {0}) (View C A G) → Type 0
Sees step before found after = (after ≡ (informed before.0, before.1)) × IfSome before.0.whole (IsTold before.0)

-- an addition enters the one step that is named
abbrev pub Adds : {C A G : Type 0} → (Entry A G → Type 0) → Step (Unit {0}) → Me (Unit {0}) (View C A G) → ℕ → Me (Unit {0}) (View C A G) → Type 0
Adds {C} {A} {G} is step before found after = (entry : Entry A G) × is entry × (after ≡ (entered entry before.0, before.1))

-- a load makes a token that knows how the desk began
abbrev pub Tells : {C A G : Type 0} → Step (Unit {0}) → Me (Unit {0}) (View C A G) → ℕ → Me (Unit {0}) (View C A G) → Type 0
Tells step first found new = new ≡ (opening_alone first.0, [])
