use Rattle.std.proofs.Common.{sym, ◌∙◌}
use Rattle.schedule_text.proofs.Cuts.{some_bytes}
use Rattle.schedule_text.proofs.Escapes.{no_bytes}
use Rattle.schedule_text.proofs.text_word.bytes_of.Goals as goal

pub returns-in_default : goal.returns-in_default
returns-in_default c =
    λ text fits is. no_bytes c.loop-rest.bytes.items c.loop-rest.rest.now text c.loop-rest.invariant.1 fits (some_bytes c.loop-rest.rest.now c.loop-rest-test.ensures) c.in_default.ensures (sym c.loop-rest.invariant.0 ∙ is)
