-- Trails: the steps of several seats in one order, and what they lead to.
use Rattle.std.specs.Prelude.{◌≡◌, ℕ, ◌<◌, ◌≤◌, ◌+◌, ◌==◌, List, [], ◌∷◌, ◌++◌, length, map}
use Rattle.std.specs.List.{filter, range_with_len}
use Rattle.trail_desk.specs.declared.entry.Entry.{Entry}

-- the steps of one seat
abbrev pub of_seat : {A G : Type 0} → ℕ → List (Entry A G) → List (Entry A G)
of_seat seat trail = filter (λ entry. entry.seat == seat) trail

-- the trail begins with these steps
abbrev pub BeginsWith : {A G : Type 0} → List (Entry A G) → List (Entry A G) → Type 0
BeginsWith {A} {G} front trail = (rest : List (Entry A G)) × (trail ≡ front ++ rest)

-- the acts of the trail, one after another, lead from the opening state to this one, and each gives what stands with it
abbrev pub IsReplay : {C A G : Type 0} → (C → A → G → C → Type 0) → C → List (Entry A G) → C → Type 0
IsReplay steps opening [] state = state ≡ opening
IsReplay {C} steps opening (entry ∷ rest) state = (next : C) × steps opening entry.act entry.gave next × IsReplay steps next rest state

-- the tickets of the trail ascend, the first from above this one
abbrev pub AscendAbove : {A G : Type 0} → ℕ → List (Entry A G) → Type 0
AscendAbove ticket [] = Unit {0}
AscendAbove ticket (entry ∷ rest) = (ticket < entry.ticket) × AscendAbove entry.ticket rest

-- the tickets of the trail ascend
abbrev pub TicketsAscend : {A G : Type 0} → List (Entry A G) → Type 0
TicketsAscend trail = AscendAbove 0 trail

-- the last ticket of the trail, or else this one
abbrev pub last_ticket : {A G : Type 0} → ℕ → List (Entry A G) → ℕ
last_ticket ticket [] = ticket
last_ticket ticket (entry ∷ rest) = last_ticket entry.ticket rest

-- the steps are numbered from 1
abbrev pub AreNumbered : {A G : Type 0} → List (Entry A G) → Type 0
AreNumbered own = map (λ entry. entry.number) own ≡ range_with_len 1 (length own)

-- the seats of a desk are numbered from 1
abbrev pub IsSeat : ℕ → ℕ → Type 0
IsSeat seats seat = (1 ≤ seat) × (seat ≤ seats)
