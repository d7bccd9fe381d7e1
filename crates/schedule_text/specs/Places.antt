-- Which lines may stand after others.
use Rattle.std.specs.Prelude.{◌≡◌, ℕ, ◌<◌, ◌++◌, Bool, true, false, List, [], ◌∷◌, length, Option, Some, None, IsTrue}
use Rattle.sync_model.specs.declared.event.Schedule.{Schedule}
use Rattle.schedule_text.specs.declared.line.Line.{Line}
use Rattle.schedule_text.specs.declared.line.Line.TheVariants.{Clients, Seed, Pass, Event}
use Rattle.schedule_text.specs.Limits.{MAX_CLIENTS, MAX_PASSES, MAX_EVENTS, MAX_SEED}
use Rattle.schedule_text.specs.Grammar.{may_seed, may_pass}
use Rattle.schedule_text.specs.Spelling.{AreBytes, IsEvent, IsUpTo, is_built}

-- A line in its place, after no line at all or after the lines of a schedule, however many lines of its sort
-- stand before, and whether or not this stage knows it.
abbrev pub IsInPlace : Option Schedule → Line → Type 0
IsInPlace None (Clients clients) = IsUpTo MAX_CLIENTS clients
IsInPlace None (Seed seed) = ⊥
IsInPlace None (Pass pass) = ⊥
IsInPlace None (Event event) = ⊥
IsInPlace (Some before) (Clients clients) = ⊥
IsInPlace (Some before) (Seed seed) = IsTrue (may_seed before) × IsUpTo MAX_SEED seed
IsInPlace (Some before) (Pass pass) = IsTrue (may_pass before) × AreBytes pass
IsInPlace (Some before) (Event event) = IsEvent before.clients (length before.passes) event

-- there are not yet as many lines of its sort as there may be
abbrev pub HasRoom : Option Schedule → Line → Type 0
HasRoom None line = Unit {0}
HasRoom (Some before) (Clients clients) = Unit {0}
HasRoom (Some before) (Seed seed) = Unit {0}
HasRoom (Some before) (Pass pass) = length before.passes < MAX_PASSES
HasRoom (Some before) (Event event) = length before.events < MAX_EVENTS

-- this stage knows the line: passphrases are not known
abbrev pub is_built_line : Line → Bool
is_built_line (Clients clients) = true
is_built_line (Seed seed) = true
is_built_line (Pass pass) = false
is_built_line (Event event) = is_built event

-- a line may stand after some lines
pub record MayStand (before : Option Schedule) (line : Line) : Type 0 where
  pub is_in_place : IsInPlace before line
  pub has_room : HasRoom before line
  pub is_built : IsTrue (is_built_line line)

-- what stands before the next line
abbrev pub after_line : Option Schedule → Line → Option Schedule
after_line None (Clients clients) = Some (record { clients = clients; seed = 0; passes = []; events = [] })
after_line None (Seed seed) = None
after_line None (Pass pass) = None
after_line None (Event event) = None
after_line (Some before) (Clients clients) = Some before
after_line (Some before) (Seed seed) = Some (record before { seed = seed })
after_line (Some before) (Pass pass) = Some (record before { passes = before.passes ++ pass ∷ [] })
after_line (Some before) (Event event) = Some (record before { events = before.events ++ event ∷ [] })
