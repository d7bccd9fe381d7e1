use Rattle.std.proofs.Common.{◌≡◌}
use Rattle.trail_desk.proofs.held.Held.act.Given as goal

-- the step that is added
abbrev pub ghosts-add_entry : goal.ghosts-add_entry
ghosts-add_entry g a = record { is = λ entry. entry ≡ a.entry.now }
