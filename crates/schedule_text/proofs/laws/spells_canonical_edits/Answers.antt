use Rattle.schedule_text.proofs.CanonicalEdits.{canonical_edits}
use Rattle.schedule_text.proofs.laws.spells_canonical_edits.Goals as goal

pub returns : goal.returns
returns c = canonical_edits
