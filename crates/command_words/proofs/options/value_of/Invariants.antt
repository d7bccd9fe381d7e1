use Rattle.std.proofs.Common.{◌≡◌, ◌-◌, length, drop}
use Rattle.command_words.specs.Options.{value_in}
use Rattle.command_words.proofs.options.value_of.Given as goal

abbrev pub invariant-loop-place : goal.invariant-loop-place
invariant-loop-place l = value_in (drop l.place l.words) l.name ≡ value_in (drop 1 l.words) l.name

abbrev pub decreases-loop-place : goal.decreases-loop-place
decreases-loop-place l = length l.words - l.place
