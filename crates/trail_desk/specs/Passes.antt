-- What contracts see of a pass, and what a call makes of it.
use Rattle.std.specs.Prelude.{◌≡◌, ℕ, ◌<◌, ◌+◌, List, [], ◌∷◌, ◌++◌, length, map, Option, Some}
use Rattle.std.specs.List.{range_with_len}
use Rattle.atomic_table.specs.Seated.{TableId}
use Rattle.trail_desk.specs.declared.entry.Entry.{Entry}
use Rattle.trail_desk.specs.declared.entry.Opening.{Opening}
use Rattle.trail_desk.specs.Trails.{of_seat, BeginsWith, IsReplay, TicketsAscend, AreNumbered, IsSeat}

-- which desk it is, by its table, and how it began
pub record DeskName (C : Type 0) : Type 0 where
  pub table : TableId
  pub opening : Opening C

-- a pass: the table and the opening of its desk, its seat, how many calls it made, the last ticket that it knows, the front of the trail that it has seen, and its own steps
pub record PassState (C A G : Type 0) : Type 0 where
  pub table : TableId
  pub opening : Option (Opening C)
  pub seat : ℕ
  pub calls : ℕ
  pub last : ℕ
  pub seen : List (Entry A G)
  pub own : List (Entry A G)

-- the pass is one of this desk
pub record IsPassOf {C A G : Type 0} (desk : DeskName C) (pass : PassState C A G) : Type 0 where
  pub table : pass.table ≡ desk.table
  pub opening : pass.opening ≡ Some desk.opening

-- a pass that has made no call
abbrev pub new_pass : {C A G : Type 0} → DeskName C → ℕ → PassState C A G
new_pass desk seat = record { table = desk.table; opening = Some desk.opening; seat = seat; calls = 0; last = 0; seen = []; own = [] }

-- a pass for each seat of a desk, in the order of their numbers
abbrev pub new_passes : {C A G : Type 0} → DeskName C → List (PassState C A G)
new_passes desk = map (new_pass desk) (range_with_len 1 desk.opening.seats)

-- the trail of a desk leads from how it began to this state, its tickets ascend, and only the desk's seats have steps in it
pub record IsTrail {C A G : Type 0} (steps : C → A → G → C → Type 0) (opening : Opening C) (trail : List (Entry A G)) (core : C) : Type 0 where
  pub replay : IsReplay steps opening.core trail core
  pub ascends : TicketsAscend trail
  pub unmade : (seat : ℕ) → ¬ IsSeat opening.seats seat → of_seat seat trail ≡ []

-- of a trail the pass has seen a front, and its own steps are the trail's steps of its seat in their order, numbered from 1, one for each call
pub record StandsIn {C A G : Type 0} (trail : List (Entry A G)) (pass : PassState C A G) : Type 0 where
  pub seen : BeginsWith pass.seen trail
  pub own : of_seat pass.seat trail ≡ pass.own
  pub numbered : AreNumbered pass.own
  pub counted : pass.calls ≡ length pass.own

-- the step that a pass makes next
abbrev pub next_entry : {C A G : Type 0} → PassState C A G → ℕ → A → G → Entry A G
next_entry pass ticket act gave = record { seat = pass.seat; number = pass.calls + 1; ticket = ticket; act = act; gave = gave }

-- a call of the pass by this act gave this answer: it made one step, which ends what the pass has then seen, and which that front of the trail leads to
pub record Acted {C A G : Type 0} (steps : C → A → G → C → Type 0) (opening : Opening C) (old : PassState C A G) (act : A) (gave : G) (new : PassState C A G) : Type 0 where
  pub table : new.table ≡ old.table
  pub began : new.opening ≡ old.opening
  pub seat : new.seat ≡ old.seat
  pub calls : new.calls ≡ old.calls + 1
  pub ticket : old.last < new.last
  pub own : new.own ≡ old.own ++ next_entry old new.last act gave ∷ []
  pub seen : (between : List (Entry A G)) × (new.seen ≡ (old.seen ++ between) ++ next_entry old new.last act gave ∷ [])
  pub stands : StandsIn new.seen new
  pub trail : (core : C) × IsTrail steps opening new.seen core

-- the pass has seen the trail on, up to where it leads to this state, and is else as it was. Of a desk with one seat it has then seen its own steps alone
pub record Looked {C A G : Type 0} (steps : C → A → G → C → Type 0) (opening : Opening C) (old new : PassState C A G) (core : C) : Type 0 where
  pub pass : new ≡ record old { seen = new.seen }
  pub seen : BeginsWith old.seen new.seen
  pub stands : StandsIn new.seen new
  pub trail : IsTrail steps opening new.seen core
  pub alone : opening.seats ≡ 1 → new.seen ≡ new.own
