-- Links that begin and links that were hung up, and what doors and nets tell of them.
use Rattle.std.specs.Prelude.{◌≡◌, ℕ, Bool, true, false, ◌||◌, List, [], ◌++◌, Option, Some, None, IfSome, nat_lt}
use Rattle.outer_edge.specs.Faults.{Rose}
use Rattle.outer_edge.specs.Sides.{SinkSide, SourceSide}
use Rattle.outer_edge.specs.Source.{IsAllOf}

-- a link before its first call: nothing has come or was taken, where that is told, and no fault was counted
pub record IsNewLink (source : SourceSide) (sink : SinkSide) : Type 0 where
  pub none_came : IsAllOf source.came []
  pub none_taken : IsAllOf sink.taken []
  pub no_reading_failed : source.faults ≡ 0
  pub no_writing_failed : sink.faults ≡ 0

-- this count has counted something
abbrev pub is_raised : ℕ → Bool
is_raised count = nat_lt 0 count

-- a link has a fault: a count of one of its sides is above 0
abbrev pub has_fault : SourceSide → SinkSide → Bool
has_fault source sink = is_raised source.faults || is_raised sink.faults

-- a link that was hung up: the bytes that came, those that were left and those that it took, each where it told them,
-- and whether it has a fault
pub record PastLink : Type 0 where
  pub came : Option (List ℕ)
  pub left : Option (List ℕ)
  pub taken : Option (List ℕ)
  pub is_broken : Bool

-- what a link is once it is hung up
abbrev pub past_of : SourceSide → SinkSide → PastLink
past_of source sink =
    record { came = source.came; left = source.left; taken = sink.taken; is_broken = has_fault source sink }

-- a count was raised where this is so, and stood where it is not
abbrev pub RaisedWhere : Bool → ℕ → ℕ → Type 0
RaisedWhere true before now = Rose before now
RaisedWhere false before now = now ≡ before

-- two lists of past links, one after the other; where one of them is not told, neither is this
abbrev pub joined : Option (List PastLink) → Option (List PastLink) → Option (List PastLink)
joined None added = None
joined (Some before) None = None
joined (Some before) (Some added) = Some (before ++ added)

-- These past links were added at the end of those before, where past links are told now. A list that was not told before,
-- or that was to take one that is not told, is not told now.
abbrev pub AddsPast : Option (List PastLink) → Option (List PastLink) → Option (List PastLink) → Type 0
AddsPast added before now = IfSome now (λ _. now ≡ joined before added)

-- this port may be dialed or listened at, where this one was before, if any
abbrev pub IsPortOf : Option ℕ → ℕ → Type 0
IsPortOf before port = IfSome before (λ first. port ≡ first)

-- a door before its first call: no fault was counted, and no link was hung up, where that is told
pub record IsNewDoor (faults broken : ℕ) (past : Option (List PastLink)) : Type 0 where
  pub no_fault : faults ≡ 0
  pub none_broken : broken ≡ 0
  pub none_past : IfSome past (λ links. links ≡ [])
