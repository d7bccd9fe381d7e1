use Rattle.std.proofs.Common.{◌∙◌, sym}
use Rattle.schedule_text.proofs.Cuts.{cut_is, uncut_is}
use Rattle.schedule_text.proofs.pieces.cut_at.Goals as goal

pub returns : goal.returns
returns c = cut_is c.args.bytes.now c.args.byte c.in_ok-at.at (sym c.first_place.ensures ∙ c.in_ok-at.was)

pub returns-in_err-at : goal.returns-in_err-at
returns-in_err-at c = rw c.from_residual.ensures (uncut_is c.args.bytes.now c.args.byte (sym c.first_place.ensures ∙ c.in_err-at.was))
