use Rattle.std.proofs.Common.{ap, ℕ, List, ◌∷◌, codes}
use Rattle.schedule_text.specs.Scripts.{script_words}
use Rattle.schedule_text.proofs.script_line.set_pass.Goals as goal

pub returns : goal.returns
unfolding script_words
returns c = (c.in_ok-pass.ensures.0, ap (λ (words : List (List ℕ)). codes "setpass" ∷ words) c.in_ok-pass.ensures.1)
