-- The nets and doors in memory, which give the links that they were made with, but where they were told to fail.
use Rattle.std.specs.Prelude.{◌≡◌, ℕ, ◌+◌, ◌⊎◌, Bool, cond, List, [], ◌∷◌, ◌++◌, length, drop, Contains, nat_le, Option, Some, None}
use Rattle.outer_edge.specs.Faults.{counted, counted_where}
use Rattle.outer_edge.specs.Sides.{SinkSide, SourceSide}
use Rattle.outer_edge.specs.Memory.{LinkState}
use Rattle.outer_edge.specs.Nets.{IsNewLink, PastLink, past_of, has_fault, is_raised}

-- what a link in memory tells as a source
abbrev pub source_side : LinkState → SourceSide
source_side link = record { left = Some link.source.left; came = Some link.source.came; faults = link.source.faults }

-- what a link in memory tells as a sink
abbrev pub sink_side : LinkState → SinkSide
sink_side link = record { taken = Some link.sink.taken; faults = link.sink.faults }

-- nothing has come or was taken of a link in memory, and none of its calls has failed
abbrev pub IsUnused : LinkState → Type 0
IsUnused link = IsNewLink (source_side link) (sink_side link)

-- a call of a link in memory has failed
abbrev pub is_faulty : LinkState → Bool
is_faulty link = has_fault (source_side link) (sink_side link)

-- what a link in memory is once it is hung up
abbrev pub past_link : LinkState → PastLink
past_link link = past_of (source_side link) (sink_side link)

-- links that wait to be given: these, how many calls there were for one, which calls fail, and how many gave none
pub record BacklogState : Type 0 where
  pub links : List LinkState
  pub calls : ℕ
  pub failing : List ℕ
  pub faults : ℕ

-- links before the first call for one
abbrev pub new_backlog : List LinkState → List ℕ → BacklogState
new_backlog links failing = record { links = links; calls = 0; failing = failing; faults = 0 }

-- the next call is one that fails
abbrev pub FailsNext : BacklogState → Type 0
FailsNext s = Contains s.failing (counted s.calls)

-- the next call for a link gives none: it is one that fails, or no link is left
abbrev pub GivesNone : BacklogState → Type 0
GivesNone s = FailsNext s ⊎ (s.links ≡ [])

-- a call left these links
abbrev pub after_giving : List LinkState → BacklogState → BacklogState
after_giving links s = record s { links = links; calls = counted s.calls }

-- a call failed, and left all links
abbrev pub after_refusal : BacklogState → BacklogState
after_refusal s = record s { calls = counted s.calls; faults = counted s.faults }

-- a fault was counted where this is so
abbrev pub with_fault_where : Bool → BacklogState → BacklogState
with_fault_where is_so s = record s { faults = counted_where is_so s.faults }

-- links that were hung up, where they are told, with room for so many, and how many things with a fault came back
pub record PastState : Type 0 where
  pub told : Option (List PastLink)
  pub room : ℕ
  pub broken : ℕ

-- no link was hung up; there is room for so many
abbrev pub no_past : ℕ → PastState
no_past room = record { told = Some []; room = room; broken = 0 }

-- Two lists of past links, one after the other, where there is room for both. Else, and where one of them is not told, none
-- is told.
abbrev pub joined_within : ℕ → Option (List PastLink) → Option (List PastLink) → Option (List PastLink)
joined_within room None added = None
joined_within room (Some before) None = None
joined_within room (Some before) (Some added) =
    cond (nat_le (length before + length added) room) (Some (before ++ added)) None

-- past links with these after them, which came back with a fault or without
abbrev pub with_past : Option (List PastLink) → Bool → PastState → PastState
with_past added is_broken s =
    record s { told = joined_within s.room s.told added; broken = counted_where is_broken s.broken }

-- past links with one more
abbrev pub with_link : LinkState → PastState → PastState
with_link link s = with_past (Some (past_link link ∷ [])) (is_faulty link) s

-- past links with those of a door that was shut
abbrev pub with_door : PastState → PastState → PastState
with_door door s = with_past door.told (is_raised door.broken) s

-- a door: the links that wait to be accepted, and those that were hung up
pub record DoorState : Type 0 where
  pub waiting : BacklogState
  pub past : PastState

-- a door before its first call, with room for so many past links
abbrev pub new_door : List LinkState → List ℕ → ℕ → DoorState
new_door links failing room = record { waiting = new_backlog links failing; past = no_past room }

-- A net: the links that wait to be dialed or accepted, those that were hung up, the port that was used, if any, and of the
-- next door which of its calls fail, and for how many past links it has room.
pub record NetState : Type 0 where
  pub waiting : BacklogState
  pub past : PastState
  pub used_port : Option ℕ
  pub door_failing : List ℕ
  pub door_room : ℕ

-- a net before its first call; it and its first door have room for all its links
abbrev pub new_net : List LinkState → List ℕ → List ℕ → NetState
new_net links failing door_failing = record {
  waiting = new_backlog links failing;
  past = no_past (length links);
  used_port = None;
  door_failing = door_failing;
  door_room = length links;
}

-- a call at this port made this of the links that wait
abbrev pub after_dial : ℕ → BacklogState → NetState → NetState
after_dial port waiting net = record net { waiting = waiting; used_port = Some port }

-- A door was given at this port, with all links that were left. A later one has no link, and no room for past links.
abbrev pub after_listen : ℕ → NetState → NetState
after_listen port net = record (after_dial port (after_giving [] net.waiting) net) { door_failing = []; door_room = 0 }

-- the door that a net gives next
abbrev pub door_of : NetState → DoorState
door_of net = new_door net.waiting.links net.door_failing net.door_room

-- a door was shut, which had counted faults or not
abbrev pub after_shut : DoorState → NetState → NetState
after_shut door net = record net {
  waiting = with_fault_where (is_raised door.waiting.faults) net.waiting;
  past = with_door door.past net.past;
}
