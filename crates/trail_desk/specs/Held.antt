-- What lies under a desk's lock.
use Rattle.std.specs.Prelude.{◌≡◌, ℕ, ◌∷◌, [], List, length, Some}
use Rattle.atomic_table.specs.Seated.{TableId}
use Rattle.atomic_table.specs.Table.{Me}
use Rattle.trail_desk.specs.declared.entry.Entry.{Entry}
use Rattle.trail_desk.specs.declared.entry.Opening.{Opening}
use Rattle.trail_desk.specs.declared.rule.View.{View}
use Rattle.trail_desk.specs.declared.rule.Whole.{Whole}
use Rattle.trail_desk.specs.Trails.{of_seat, IsReplay, TicketsAscend, last_ticket, AreNumbered}
use Rattle.trail_desk.specs.Views.{keeping, sitting, seen_of, own_of}

-- the core and the trail
pub record HeldState (C A G : Type 0) : Type 0 where
  pub core : C
  pub trail : List (Entry A G)

-- what the keeper of a desk knows, all of whose seats were made
abbrev pub whole_now : {C A G : Type 0} → Opening C → List (Entry A G) → Whole C A G
whole_now opening trail = record { opening = opening; made = opening.seats; trail = trail }

-- the trail leads from how the desk began to the core's state, its tickets ascend up to the last one, and the keeper of the room's table knows it
pub record IsHeld {C A G : Type 0} (steps : C → A → G → C → Type 0) (room : TableId) (core : C) (trail : List (Entry A G)) (last : ℕ) (keeper : TableId) (views : List (View C A G)) : Type 0 where
  pub opening : Opening C
  pub replay : IsReplay steps opening.core trail core
  pub ascends : TicketsAscend trail
  pub latest : last ≡ last_ticket 0 trail
  pub keeper_is : keeper ≡ room
  pub knows : views ≡ keeping (Some (whole_now opening trail)) ∷ []

-- a pass's token knows its seat with what it has seen and its own steps, which are numbered, and as many as its calls
pub record IsPass {C A G : Type 0} (seat calls : ℕ) (me : Me (Unit {0}) (View C A G)) : Type 0 where
  pub token : me ≡ (sitting me.0.opening (Some (record { seat = seat; seen = seen_of me.0.part; own = own_of me.0.part })), [])
  pub counted : calls ≡ length (own_of me.0.part)
  pub numbered : AreNumbered (own_of me.0.part)
