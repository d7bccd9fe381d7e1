-- Parts of a schedule's text, as they are written.
use Rattle.std.specs.Prelude.{ℕ, ◌==◌, if◌then◌else◌, List, [], ◌∷◌}
use Rattle.std.specs.List.{flat_map}
use Rattle.sync_model.specs.declared.event.Event.{Event as Step}
use Rattle.schedule_text.specs.declared.line.Line.TheVariants.{Seed, Pass, Event}
use Rattle.schedule_text.specs.Lines.{line_text}

-- words, each after a space
unfoldable pub spaced : List (List ℕ) → List ℕ
spaced words = flat_map (λ word. 32 ∷ word) words

-- the line of a seed, which is left out where it is 0
abbrev pub seed_text : ℕ → List ℕ
seed_text seed = if seed == 0 then [] else line_text (Seed seed)

-- the line of a passphrase
unfoldable pub pass_text : List ℕ → List ℕ
pass_text pass = line_text (Pass pass)

-- the line of an event
unfoldable pub event_text : Step → List ℕ
event_text event = line_text (Event event)
